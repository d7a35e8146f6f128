-- What a release is asked, and how its pieces serve that.
use Rattle.std.specs.Prelude.{◌≡◌, ◌==◌, ℕ, true, List, [], ◌∷◌, ◌++◌, Result}
use Rattle.xp_words.specs.Machine.{Machine}
use Rattle.xp_words.specs.declared.reply.Pause.TheVariants.{Busy, Due, Lost}
use Rattle.xp_words.specs.declared.reply.Stop.{Stop}
use Rattle.xp_words.specs.declared.reply.Stop.TheVariants.{Paused}
use Rattle.xp_board.specs.Told.{PortValue}
use Rattle.step_maker.specs.Moves.{Met}
use Rattle.step_maker.specs.Answers.{Deed, Serves}
use Rattle.step_maker.specs.Asked.{IsAsked, Request}
use Rattle.step_maker.specs.Finding.{Finding}
use Rattle.partial_state.specs.declared.stack.TableWork.{TableWork}
use Rattle.table_entries.specs.Asking.{of_entries}
pub use Rattle.table_entries.specs.Ending.{is_due_answer, is_due_stop}

-- ---- answers

-- why it is paused
abbrev pub IsReleaseEnd : Stop → Type 0
IsReleaseEnd (Paused Due) = Unit {0}
IsReleaseEnd (Paused (Lost place expected found)) = Unit {0}
IsReleaseEnd (Paused (Busy f found)) = Unit {0}
IsReleaseEnd _ = ⊥

-- what it asks: to give the frame back, and what recorded entries hold
abbrev pub of_release : {A : Type 0} → ℕ → ℕ → ℕ → Result A Stop → Request
of_release f owner pages answer = record (of_entries owner pages) { backs = λ g. g == f; rose = is_due_answer answer }

-- the same of the frames that the old words of the own vCPU name
abbrev pub of_settle : {A : Type 0} → ℕ → ℕ → Result A Stop → Request
of_settle owner pages answer = record (of_entries owner pages) { contexts = true; rose = is_due_answer answer }

-- ---- pieces
-- each of the tables is asked
abbrev pub AskTables : Machine → ℕ → Request → Finding → List TableWork → Type 0
AskTables n s r F [] = Unit {0}
AskTables n s r F (t ∷ ts) = IsAsked n s r F t.frame × AskTables n s r F ts

-- From u to v there is a piece of a call in which entries ask frames; and it asks these tables.
pub record IsReleasePiece (u v : PortValue) (r : Request) (ts : List TableWork) (ds : List Deed) : Type 0 where
  pub entries : r.entries ≡ true
  pub serves : Serves u v r ds
  pub asked : AskTables u.post.machine u.post.vcpu r (Met u v) ts

-- Behind any such piece the steps from v to w go on with it, with these deeds more; and it asks the tables us then.
unfoldable pub Continues : PortValue → PortValue → List TableWork → List TableWork → List Deed → Type 0
Continues v w ts us es = (u : PortValue) (r : Request) (ds : List Deed) → IsReleasePiece u v r ts ds → IsReleasePiece u w r us (es ++ ds)
