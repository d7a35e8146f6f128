-- What an earlier turn left unfinished is settled; and that the vCPU has flushed.
use Rattle.std.specs.Prelude.{◌≡◌, ℕ, Bool, false, List, ◌++◌, Option, Some, None, Result, Ok, Err, IfErr, IfOk}
use Rattle.xp_words.specs.declared.reply.Stop.{Stop}
use Rattle.xp_board.specs.Told.{PortValue}
use Rattle.step_maker.specs.Holds.{Rests}
use Rattle.step_maker.specs.Answers.{Serves, Stops, misses}
use Rattle.level_release.specs.Asking.{IsReleaseEnd, of_settle}
use Rattle.level_release.specs.Course.{Settled, left_settled}
use Rattle.table_words.specs.OldWords.{known_old}
use Rattle.table_words.specs.declared.old_words.OldWord.TheVariants.{First, Second}

-- the vCPU has flushed its translations since it came to its processor
abbrev pub IsWarm : PortValue → Type 0
IsWarm v = v.holdings.cold ≡ false

-- From v to w it was settled, or why not; the gate was asked only where less than that was left, if it is a number.
pub record Settles (below : Option ℕ) (v w : PortValue) (answers : List Bool) (answer : Result (Unit {0}) Stop) : Type 0 where
  pub serves : (owner pages : ℕ) → Serves v w (of_settle owner pages answer) (misses v.post.machine answer)
  pub stops : (owner pages : ℕ) → IfErr answer (λ e. Stops v w (of_settle owner pages answer) e)
  pub kinds : IfErr answer IsReleaseEnd
  pub rests : Rests w
  -- done, both words are known to name no frame
  pub clear : IfOk answer (λ done. known_old First w.holdings ≡ Some 0)
  pub clear_too : IfOk answer (λ done. known_old Second w.holdings ≡ Some 0)
  pub course : Settled below v w answers answer

-- and how much is left then
abbrev pub SettlesTo : Option ℕ → Option ℕ → PortValue → PortValue → List Bool → Result (Unit {0}) Stop → Type 0
SettlesTo below left v w answers answer = (settles : Settles below v w answers answer) × (left ≡ left_settled settles.course)

-- What the element before it left unfinished is settled first; the gate is asked everywhere.
pub data SettlesFirst (P : PortValue → PortValue → List Bool → Result (Unit {0}) Stop → Type 0) (v : PortValue) : PortValue → List Bool → Result (Unit {0}) Stop → Type 0 where
  unsettled : (w : PortValue) (answers : List Bool) (stop : Stop) → Settles None v w answers (Err stop) → SettlesFirst P v w answers (Err stop)
  performed : (u w : PortValue) (early answers : List Bool) (answer : Result (Unit {0}) Stop) → Settles None v u early (Ok tt) → P u w answers answer → SettlesFirst P v w (answers ++ early) answer
