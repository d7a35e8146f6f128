-- Tables in work that are left partial: what is in hand then.
use Rattle.std.specs.Prelude.{◌≡◌, ◌⊎◌, ℕ, ◌+◌, ◌&&◌, not, if◌then◌else◌, Bool, true, false, List, [], ◌∷◌, Some}
use Rattle.xp_board.specs.declared.holdings.Holdings.{Holdings}
use Rattle.xp_board.specs.Hands.{without_work}
use Rattle.xp_board.specs.Told.{PortValue}
use Rattle.step_maker.specs.Holds.{FlushedHolds}
use Rattle.kept_marks.specs.Marks.{IsForeign}
use Rattle.partial_state.specs.declared.stack.TableWork.{TableWork}
use Rattle.partial_state.specs.Stacks.{retreated}
pub use Rattle.table_entries.specs.Acquiring.{outermost_frame}
use Rattle.level_validate.specs.Tables.{Carries}
pub use Rattle.step_maker.specs.Holds.{own_domain}

-- The outermost of the tables is named in the first old word, where its type count is in hand and its `kept` mark is not to have that.
abbrev pub named_unless : Bool → TableWork → Holdings → Holdings
named_unless kept t h = if not kept && t.own then record h { old0 = Some (t.frame + 1) } else h

abbrev pub outermost_named : Bool → List TableWork → Holdings → Holdings
outermost_named kept [] h = h
outermost_named kept (t ∷ []) h = named_unless kept t h
outermost_named kept (t ∷ u ∷ us) h = outermost_named kept (u ∷ us) h

-- Nothing of these tables is in hand. Where the mark of another domain's table was to have its type count, the first old word may name it.
abbrev pub UnwoundHand : PortValue → PortValue → ℕ → Bool → List TableWork → Type 0
UnwoundHand v w owner kept ts =
    FlushedHolds v w (outermost_named kept ts v.holdings) ⊎ (IsForeign v owner × (kept ≡ true) × FlushedHolds v w (outermost_named false ts v.holdings))

-- wherever these tables of that owner came into work
abbrev pub Unwinds : PortValue → PortValue → ℕ → Bool → List TableWork → Type 0
Unwinds u w owner kept ts = (v : PortValue) → Carries v u owner ts → UnwoundHand v w owner kept ts

-- ---- one table
-- a frame of the own works is left partial, without a `kept` mark
abbrev pub left_so : ℕ → Holdings → Holdings
left_so f h = record h { works = without_work f h.works }

-- what is in hand after one of the tables ts: nothing of any table, or the tables around it stand
abbrev pub UnwoundTo : PortValue → PortValue → ℕ → Bool → List TableWork → List TableWork → Type 0
UnwoundTo v w owner kept ts [] = UnwoundHand v w owner kept ts
UnwoundTo v w owner kept ts (u ∷ us) = Carries v w owner (u ∷ us)

-- from wherever these tables came into work
abbrev pub UnwindsTo : PortValue → PortValue → ℕ → Bool → List TableWork → List TableWork → Type 0
UnwindsTo u w owner kept ts us = (v : PortValue) → Carries v u owner ts → UnwoundTo v w owner kept ts us

-- the tables around one that is left: its entry stays recorded, or is not done with any more
abbrev pub around_lent : Bool → List TableWork → List TableWork
around_lent true ts = ts
around_lent false ts = retreated ts
