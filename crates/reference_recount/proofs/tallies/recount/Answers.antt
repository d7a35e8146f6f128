use Rattle.std.proofs.Common.{◌≡◌, slice_index_or, subst, sym, ◌^◌, arith}
use Rattle.xp_words.specs.declared.kind.PageType.TheVariants as types
use Rattle.xp_board.specs.Readings.{kind_at}
use Rattle.xp_words.specs.Places.{sizes_of, memory}
use Rattle.xp_board.specs.Recorded.{names, names_typed}
use Rattle.reference_recount.proofs.Asked.{names_most, typed_most, table_most}
use Rattle.reference_recount.proofs.More.{within-sums}
use Rattle.reference_recount.proofs.Whole.{within_own, untyped_outside, tally_is}
use Rattle.reference_recount.proofs.tallies.recount.Goals as goal

pub add_tables-requires-clause-few : goal.add_tables-requires-clause-few
add_tables-requires-clause-few c =
    let own = c.in_ok-tallies.ensures in
    within_own (memory (sizes_of c.args.layout.now) c.args.words.now) c.in_ok-tallies.tallies.items (λ g l. own.each g (let e = own.len in omega arith))

pub add_vcpus-requires-clause-few : goal.add_vcpus-requires-clause-few
add_vcpus-requires-clause-few c =
    let own = c.in_ok-tallies.ensures in
    let few = within_own (memory (sizes_of c.args.layout.now) c.args.words.now) c.in_ok-tallies.tallies.items (λ g l. own.each g (let e = own.len in omega arith)) in
    within-sums c.in_ok-tallies.tallies.items c.add_tables.new.tallies.items 3 1024 c.args.layout.now.frames (2 ^ 48) _ _ _ (let b = c.requires.machine.few_frames in omega arith)
    (λ g k. table_most (names g) _ k (names_most g)) (λ g k. table_most (names_typed g) _ k (typed_most g)) few c.add_tables.ensures

pub returns-clause-each : goal.returns-clause-each
returns-clause-each c = λ g l.
    let own = c.in_ok-tallies.ensures in
    tally_is c.args.layout.now (memory (sizes_of c.args.layout.now) c.args.words.now) (untyped_outside (sizes_of c.args.layout.now) c.args.words.now) c.as_slice-kinds.result.now g
    (subst (λ xs. slice_index_or xs g types.None ≡ (kind_at (memory (sizes_of c.args.layout.now) c.args.words.now) g).kind) (sym c.as_slice-kinds.ensures.value) (c.in_ok-kinds.ensures.each g l))
    c.in_ok-tallies.tallies.items c.add_tables.new.tallies.items c.add_vcpus.new.tallies.items own.len l (own.each g l) c.add_tables.ensures c.add_vcpus.ensures
