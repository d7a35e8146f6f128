-- All that is said of a release within, in one record.
use Rattle.std.specs.Prelude.{◌≡◌, ℕ, Option, Result, IfErr}
use Rattle.xp_words.specs.declared.kind.PageType.{PageType}
use Rattle.xp_words.specs.declared.reply.Pause.TheVariants.{Due}
use Rattle.xp_words.specs.declared.reply.Stop.{Stop}
use Rattle.xp_words.specs.declared.reply.Stop.TheVariants.{Paused}
use Rattle.xp_board.specs.Told.{PortValue}
use Rattle.step_maker.specs.Answers.{Serves, Stops, misses}
use Rattle.level_release.specs.Asking.{of_release}
use Rattle.level_release.specs.Course.{ReleasesWithinBy}
use Rattle.level_release.specs.Holding.{LeavesUnheld}
use Rattle.xp_preempt.specs.Gates.{Gate}

-- A typed reference to a live frame is given back, with all that the frame holds.
pub record Releases (v w : PortValue) (f : ℕ) (kind : PageType) (below left : Option ℕ) (g h : Gate) (answer : Result (Unit {0}) Stop) : Type 0 where
  pub serves : (owner pages : ℕ) → Serves v w (of_release f owner pages answer) (misses v.post.machine answer)
  pub stops : (owner pages : ℕ) → IfErr answer (λ e. Stops v w (of_release f owner pages answer) e)
  -- What the entries of a live tree ask is live: it is paused for the gate alone.
  pub kinds : IfErr answer (λ e. e ≡ Paused Due)
  pub hand : LeavesUnheld v w f answer
  pub course : ReleasesWithinBy below left v w f kind g h answer
