-- The word that an entry gets, and whether two words ask the same.
use Rattle.std.specs.Prelude.{ℕ, if◌then◌else◌, Bool}
use Rattle.xp_words.specs.declared.entry.Demand.{Demand}
use Rattle.xp_board.specs.CellSteps.{is_same_demand}
use Rattle.step_maker.specs.Licences.{with_old_bit}

-- where they are kept, with the accessed and dirty bits of the old word, 5 and 6
abbrev pub word_kept : Bool → ℕ → ℕ → ℕ
word_kept keep old new = if keep then with_old_bit 6 old (with_old_bit 5 old new) else new

abbrev pub same_demand : Demand → Demand → Bool
same_demand d e = is_same_demand e d
