use Rattle.std.proofs.Common.{◌≡◌, ℕ, List, ◌+◌, ◌∙◌, ap, sym, arith, length}
use Rattle.xp_words.specs.Places.{number, sizes_of}
use Rattle.xp_words.specs.declared.place.Place.TheVariants.{Cell}
use Rattle.sparse_words.proofs.Runs.{run_end, first_cell, written}
use Rattle.sparse_words.proofs.Places.{length_words, same_length, run_stored}
use Rattle.sparse_words.proofs.SparseWords.fill.Goals as goal

pub fill_places-requires-clause-inside : goal.fill_places-requires-clause-inside
fill_places-requires-clause-inside c =
    let w = c.self.inside in
    let last = run_end (sizes_of c.args.layout.now) c.args.frame c.args.first c.args.count c.requires.frame c.requires.inside in
    let long : length c.args.self.now ≡ w.count = ap length (sym c.self.view_is) ∙ length_words w.count w.chunks.items w.store.items in
    let shape = c.self.invariant.shape in
    omega (arith, c.cell_place.ensures, w.chunks.ok.0, c.requires.whole)

pub returns-clause-whole : goal.returns-clause-whole
returns-clause-whole c =
    let w = c.self.inside in
    same_length w.count w.chunks.items w.store.items c.fill_places.new.chunks.items c.fill_places.new.store.items ∙ ap length c.self.view_is

pub returns-clause-filled : goal.returns-clause-filled
returns-clause-filled c = λ k.
    let w = c.self.inside in
    let last = run_end (sizes_of c.args.layout.now) c.args.frame c.args.first c.args.count c.requires.frame c.requires.inside in
    let long : length c.args.self.now ≡ w.count = ap length (sym c.self.view_is) ∙ length_words w.count w.chunks.items w.store.items in
    let start = c.cell_place.result + c.args.first in
    let at : start ≡ number (sizes_of c.args.layout.now) (Cell c.args.frame c.args.first) = first_cell _ c.args.frame c.args.first c.cell_place.result c.cell_place.ensures in
    rw at at (run_stored w.count w.chunks.items w.store.items c.fill_places.new.chunks.items c.fill_places.new.store.items start (start + c.args.count) c.args.word (omega (arith, c.requires.whole, c.cell_place.ensures))
    c.fill_places.ensures.words k)
    ∙ ap (λ (ws : List ℕ). written (number (sizes_of c.args.layout.now) (Cell c.args.frame c.args.first)) (number (sizes_of c.args.layout.now) (Cell c.args.frame c.args.first) + c.args.count) c.args.word ws k) c.self.view_is
