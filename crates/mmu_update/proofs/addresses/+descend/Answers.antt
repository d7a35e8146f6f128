use Rattle.std.proofs.Common.{rules, arith, sym, ◌∙◌, ◌≡◌, Some}
use Rattle.mmu_update.specs.Addresses.{next_table}
use Rattle.mmu_update.proofs.Leading.{below_inside, ends_here, entry_rests, goes_down, reaches_here}
use Rattle.mmu_update.proofs.addresses.+descend.Goals as goal

pub returns-in-None : goal.returns-in-None
returns-in-None g t c =
    rw c.unmapped.ensures (record { path = ends_here c.frames_of-frames.ensures c.index_at.ensures.index c.look_cell-word.ensures.moves (sym c.next_table.ensures ∙ c.in-None.is) })

pub returns-then-level-eq2 : goal.returns-then-level-eq2
returns-then-level-eq2 g t c =
    record { path = reaches_here c.frames_of-frames.ensures c.look_cell-word.ensures.moves (sym c.next_table.ensures ∙ c.in-Some.is) c.index_at.ensures.index c.if-level-eq2.true }

pub descend-requires : goal.descend-requires
descend-requires g t c κs within =
    let low = c.requires.low in
    let high = c.requires.high in
    let more = c.if-level-eq2.false in
    let some : next_table c.frames_of-frames.result c.look_cell-word.result ≡ Some c.in-Some.frame = sym c.next_table.ensures ∙ c.in-Some.is in (
      search rules,
      (
        search rules,
        (
          entry_rests _ _ _ _ _ c.requires.rests c.look_cell-word.ensures.moves,
          (below_inside c.frames_of-frames.ensures c.look_cell-word.ensures.moves some, (omega (arith, low, more), omega (arith, high))),
        ),
      ),
    )

pub returns : goal.returns
returns g t c =
    record {
      path = goes_down c.frames_of-frames.ensures c.look_cell-word.ensures.moves (sym c.next_table.ensures ∙ c.in-Some.is) c.index_at.ensures.index c.requires.low c.if-level-eq2.false c.descend.ensures.path;
    }
