-- The tables in work as what the vCPU holds.
use Rattle.std.specs.Prelude.{◌≡◌, ◌+◌, not, Bool, false, List, [], ◌∷◌, IsTrue}
use Rattle.xp_words.specs.KindWords.{kind_fields}
use Rattle.xp_words.specs.RefWords.{bit}
use Rattle.xp_board.specs.declared.holdings.Work.{Work}
use Rattle.xp_board.specs.Readings.{is_work}
use Rattle.partial_state.specs.declared.stack.TableWork.{TableWork}
use Rattle.partial_state.specs.Levels.{level_type}

-- The table is in work with its type, and unmarked. `under_way`: what the last entry that is done with asked is in hand, and the
-- entry is not recorded yet.
pub record IsWorkOn (under_way : Bool) (t : TableWork) (e : Work) : Type 0 where
  pub frame : e.frame ≡ t.frame
  pub work : IsTrue (is_work (kind_fields e.word))
  pub kind : (kind_fields e.word).kind ≡ level_type t.level
  pub unmarked : (kind_fields e.word).unflushed ≡ false
  pub recorded : e.recorded + bit under_way ≡ t.done

-- These are all frames in work, the newest first, and an entry of the innermost table is under way or not. Of a table around
-- another the entry that names the inner one is under way, unless it was recorded before.
abbrev pub AreWorks : Bool → List TableWork → List Work → Type 0
AreWorks under_way [] [] = Unit {0}
AreWorks under_way (t ∷ ts) (e ∷ es) = IsWorkOn under_way t e × AreWorks (not t.recorded) ts es
AreWorks under_way _ _ = ⊥
