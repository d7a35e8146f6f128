use Rattle.std.proofs.Common.{rules, ◌*◌, ℕ, List, take, drop, subst}
use Rattle.std.specs.Io.KnownBytes.{Appends}
use Rattle.std.proofs.KnownBytes.{Appends-trans}
use Rattle.machine_image.specs.Image.{numbers_bytes}
use Rattle.machine_image.proofs.Bytes.{pieces_joined, pieces_of}
use Rattle.machine_image.proofs.Pieces.{front_behind, on_err}
use Rattle.machine_image.proofs.write.write_words.Goals as goal

pub returns-in_err-write_whole-clause-front : goal.returns-in_err-write_whole-clause-front
returns-in_err-write_whole-clause-front g c =
    let words = c.args.words.now in
    let count = c.fill-count.result in
    let text = take (8 * count) c.fill-count.new.piece in
    on_err c.from_residual.result _ (front_behind _ _ _ (numbers_bytes (take c.loop-place.place words)) text (numbers_bytes (drop count (drop c.loop-place.place words))) (numbers_bytes words) c.loop-place.invariant.written c.in_err-write_whole.ensures.front (pieces_of words c.loop-place.place count text c.fill-count.ensures.bytes))

pub loop-place-preserved : goal.loop-place-preserved
loop-place-preserved g c =
    let words = c.args.words.now in
    let count = c.fill-count.result in
    let text = take (8 * count) c.fill-count.new.piece in
    record {
      same = search rules;
      written = subst (λ (xs : List ℕ). Appends (g.K.Sink.taken c.args.sink.now) (g.K.Sink.taken c.write_whole.new.sink) xs) (pieces_joined words c.loop-place.place count text c.fill-count.ensures.bytes) (Appends-trans _ _ _ _ _ c.loop-place.invariant.written c.in_ok-write_whole.ensures.whole);
      inside = search rules;
      room = search rules;
    }
