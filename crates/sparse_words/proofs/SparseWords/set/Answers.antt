use Rattle.std.proofs.Common.{◌≡◌, ℕ, List, ◌∙◌, ap, sym, arith, length, set}
use Rattle.sparse_words.proofs.Places.{length_words, word_set}
use Rattle.sparse_words.proofs.SparseWords.set.Goals as goal

pub set_in_chunk-requires-clause-chunk : goal.set_in_chunk-requires-clause-chunk
set_in_chunk-requires-clause-chunk c =
    let w = c.self.inside in
    let long : length c.args.self.now ≡ w.count = ap length (sym c.self.view_is) ∙ length_words w.count w.chunks.items w.store.items in
    let shape = c.self.invariant.shape in
    omega (arith, w.chunks.ok.0)

pub returns : goal.returns
returns c =
    let w = c.self.inside in
    let long : length c.args.self.now ≡ w.count = ap length (sym c.self.view_is) ∙ length_words w.count w.chunks.items w.store.items in
    word_set w.count w.chunks.items w.store.items c.set_in_chunk.new.chunks.items c.set_in_chunk.new.store.items c.args.place c.args.word (omega arith) c.set_in_chunk.ensures.words
    ∙ ap (λ (ws : List ℕ). set ws c.args.place c.args.word) c.self.view_is
