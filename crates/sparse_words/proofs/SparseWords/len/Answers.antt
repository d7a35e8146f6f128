use Rattle.std.proofs.Common.{◌∙◌, ap, sym, length}
use Rattle.sparse_words.proofs.Places.{length_words}
use Rattle.sparse_words.proofs.SparseWords.len.Goals as goal

pub returns : goal.returns
returns c =
    let w = c.self.inside in
    sym (ap length (sym c.self.view_is) ∙ length_words w.count w.chunks.items w.store.items)
