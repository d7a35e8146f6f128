-- The first old word and then the second: what the steps show of the whole.
use Rattle.std.proofs.Common.{◌≡◌, ℕ, Option, Bool, true, false, [], Result, Ok, Err, IfErr, refl, sym, subst, append-nil}
use Rattle.xp_words.specs.declared.reply.Stop.{Stop}
use Rattle.xp_board.specs.Told.{Post, PortValue}
use Rattle.step_maker.specs.Moves.{Came, Met}
use Rattle.step_maker.proofs.Coming.{came_post}
use Rattle.step_maker.specs.Answers.{Serves, Stops, misses}
use Rattle.step_maker.proofs.Later.{stops_then}
use Rattle.step_maker.proofs.Piecing.{serves_came, serves_then, serves_within}
use Rattle.table_words.specs.declared.old_words.OldWord.TheVariants.{First}
use Rattle.level_release.specs.Asking.{IsReleaseEnd, is_due_answer, of_settle}
use Rattle.level_release.specs.Course.{SettlesBy, SettlesOneBy, first}
use Rattle.level_release.proofs.Answered.{end_uncounted}
use Rattle.level_release.proofs.Asking.{settle_within}
use Rattle.xp_preempt.proofs.Consulting.{gated_as}
use Rattle.xp_preempt.specs.Gates.{Gate}

module _ (v u w : PortValue) (owner pages : ℕ) (before : Serves v u (of_settle {A = Unit {0}} owner pages (Ok tt)) []) where
  -- whatever the gate says later
  before_any : (rose : Bool) → Serves v u (record (of_settle {A = Unit {0}} owner pages (Ok tt)) { rose = rose }) []
  before_any rose =
      serves_within v u (of_settle {A = Unit {0}} owner pages (Ok tt)) (record (of_settle {A = Unit {0}} owner pages (Ok tt)) { rose = rose }) []
      (settle_within v.post.machine v.post.vcpu owner pages (λ g. false) true false rose (Met v u) (Met v u) (λ m y. y) (λ g at. absurd cc) (λ due. absurd cc)) before

  came : Came v u
  came = serves_came v u (of_settle {A = Unit {0}} owner pages (Ok tt)) [] before

  pub both_serve : (answer : Result (Unit {0}) Stop) → Serves u w (of_settle owner pages answer) (misses u.post.machine answer) → Serves v w (of_settle owner pages answer) (misses v.post.machine answer)
  both_serve answer serves =
      let ds = misses v.post.machine answer in
      subst (λ es. Serves v w (of_settle owner pages answer) es) (append-nil ds)
      (serves_then v u w (of_settle owner pages answer) [] ds (before_any (is_due_answer answer)) (subst (λ (p : Post). Serves u w (of_settle owner pages answer) (misses p.machine answer)) (came_post v u came) serves))

  pub both_stop : (answer : Result (Unit {0}) Stop) → IfErr answer IsReleaseEnd → IfErr answer (λ e. Stops u w (of_settle owner pages answer) e) → IfErr answer (λ e. Stops v w (of_settle owner pages answer) e)
  both_stop (Ok done) ends stops = tt
  both_stop (Err e) ends stops = stops_then v u w (of_settle {A = Unit {0}} owner pages (Err e)) e (end_uncounted e ends) came stops

-- paused at the first
pub first_by : (below left : Option ℕ) (v w : PortValue) {g h : Gate} {answer : Result (Unit {0}) Stop} {e : Stop} → answer ≡ Err e → SettlesOneBy below left v w First g h (Err e) → SettlesBy below left v w g h answer
first_by below left v w {g} {h} {e} is paused = subst (λ r. SettlesBy below left v w g h r) (sym is) (gated_as refl (λ answers one. (first w answers e one.0, one.1)) paused)
