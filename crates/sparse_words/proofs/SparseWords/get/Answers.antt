use Rattle.std.proofs.Common.{◌≡◌, ◌+◌, ◌*◌, ◌/◌, ◌%◌, ◌∙◌, ap, sym, arith, length, slice_index}
use Rattle.std.proofs.lemmas.Grind.{get_or_default_zero}
use Rattle.sparse_words.proofs.Places.{length_words, word_found}
use Rattle.sparse_words.proofs.Blocks.{block_inside}
use Rattle.sparse_words.proofs.SparseWords.get.Goals as goal

pub index-block-requires : goal.index-block-requires
index-block-requires c =
    let w = c.self.inside in
    let long : length c.args.self.now ≡ w.count = ap length (sym c.self.view_is) ∙ length_words w.count w.chunks.items w.store.items in
    let shape = c.self.invariant.shape in
    omega (arith, w.chunks.ok.0)

pub index-requires : goal.index-requires
index-requires c =
    let w = c.self.inside in
    let long : length c.args.self.now ≡ w.count = ap length (sym c.self.view_is) ∙ length_words w.count w.chunks.items w.store.items in
    let shape = c.self.invariant.shape in
    let block = c.index-block.ensures ∙ get_or_default_zero w.chunks.items (c.args.place / 32) c.index-block.result.now (omega arith) in
    let inside = block_inside w.chunks.items w.store.items _ (c.args.place / 32) (c.args.place % 32) c.self.invariant.own (omega arith) in
    omega (arith, w.store.ok.0)

pub returns : goal.returns
returns c =
    let w = c.self.inside in
    let long : length c.args.self.now ≡ w.count = ap length (sym c.self.view_is) ∙ length_words w.count w.chunks.items w.store.items in
    let shape = c.self.invariant.shape in
    let block = c.index-block.ensures ∙ get_or_default_zero w.chunks.items (c.args.place / 32) c.index-block.result.now (omega arith) in
    let inside = block_inside w.chunks.items w.store.items _ (c.args.place / 32) (c.args.place % 32) c.self.invariant.own (omega arith) in
    c.index.ensures ∙ get_or_default_zero w.store.items (32 * c.index-block.result.now + c.args.place % 32) c.index.result.now (omega arith)
    ∙ ap (λ b. slice_index w.store.items (32 * b + c.args.place % 32)) block
    ∙ sym (word_found w.count w.chunks.items w.store.items c.args.self.now c.args.place c.self.view_is c.requires)
