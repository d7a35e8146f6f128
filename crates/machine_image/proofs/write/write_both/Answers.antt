use Rattle.std.proofs.Common.{ℕ, List, [], ◌++◌, ap, sym, append-nil}
use Rattle.machine_image.specs.Image.{numbers_bytes}
use Rattle.machine_image.proofs.Pieces.{front_behind, map_err}
use Rattle.machine_image.proofs.write.write_both.Goals as goal

pub returns-clause-front : goal.returns-clause-front
returns-clause-front g c =
    let text = numbers_bytes c.args.words.now in
    map_err c.write_words.result _ _ (λ broke. front_behind _ _ _ c.args.front.now text [] (c.args.front.now ++ text) c.in_ok-write_whole.ensures.whole broke (ap (λ (xs : List ℕ). c.args.front.now ++ xs) (sym (append-nil text)))) c.write_words.ensures.front
