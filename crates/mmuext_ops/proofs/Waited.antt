-- A wait for vCPUs of the own domain: the clock is looked at, and behind that look the wait awaits its stamp.
use Rattle.std.proofs.Common.{◌≡◌, ℕ, ◌==◌, [], Option, Some, None, Result, Ok, Err, IfOk, IfErr, refl, sym, ap, subst, arith}
use Rattle.xp_words.specs.Machine.{Machine}
use Rattle.xp_words.specs.declared.place.Place.TheVariants.{Clock}
use Rattle.xp_words.specs.declared.reply.Pause.TheVariants.{Flush}
use Rattle.xp_words.specs.declared.reply.Stop.{Stop}
use Rattle.xp_words.specs.declared.reply.Stop.TheVariants.{Paused, Refused}
use Rattle.xp_board.specs.declared.step.Act.TheVariants.{Load}
use Rattle.xp_board.specs.declared.step.StepKind.TheVariants as kinds
use Rattle.xp_board.specs.Acts.{left_by}
use Rattle.xp_board.specs.Told.{Post, PortValue}
use Rattle.xp_board.proofs.Sums.{when_eq}
use Rattle.step_maker.specs.Moves.{Came, Met, Moves}
use Rattle.step_maker.proofs.Coming.{came_post, moment_of, moves_came, moves_met}
use Rattle.step_maker.proofs.Noting.{moves_since}
use Rattle.step_maker.specs.Answers.{Serves, Stops}
use Rattle.step_maker.specs.Asked.{Request}
use Rattle.step_maker.specs.Reasons.{AwaitsStamp, HadClock, Those, Whose, begun, goes_on}
use Rattle.step_maker.specs.Visits.{Does}
use Rattle.step_maker.proofs.Piecing.{moves_serves}
use Rattle.flush_words.proofs.Lasting.{came_keeps}
use Rattle.flush_waits.specs.Listing.{WaitedFor}
use Rattle.flush_waits.specs.Waiting.{AreClear, IsWait, ServesBehind, StopsBehind, meant}
use Rattle.mmuext_ops.specs.Course.{WaitedForVcpus, stamp_for}
use Rattle.mmuext_ops.specs.Elements.{HasDeeds, KnowsAwaited, ServesElement, awaited_by, of_wait, told}
use Rattle.mmuext_ops.specs.declared.element.Element.TheVariants.{FlushVcpus}

-- no guest sees it
has_none : (n : Machine) (s mask : ℕ) (answer : Result (Unit {0}) Stop) → IfErr answer IsWait → HasDeeds n s (FlushVcpus mask) answer []
has_none n s mask (Ok done) kind = told (FlushVcpus mask) (Ok done) tt
has_none n s mask (Err (Refused x)) kind = told (FlushVcpus mask) (Err (Refused x)) tt
has_none n s mask (Err (Paused (Flush vcpu stamp found))) kind = told (FlushVcpus mask) (Err (Paused (Flush vcpu stamp found))) tt
has_none n s mask (Err (Paused _)) kind = absurd kind

-- what was found stays found
had_later : (v w : PortValue) (stamp : ℕ) → Came v w → HadClock v.post.machine stamp v.holdings → HadClock w.post.machine stamp w.holdings
had_later v w stamp came had = subst (λ (p : Post). HadClock p.machine stamp w.holdings) (sym (came_post v w came)) (came_keeps v w _ came had)

-- ---- the clock is looked at
module _ (v m : PortValue) (mask clock stamp : ℕ) (awaited : Option ℕ) (look : Moves v m Clock Load kinds.Look None clock) (known : KnowsAwaited v awaited) (is : stamp ≡ stamp_for awaited clock) where
  came : Came v m
  came = moves_came v m Clock Load kinds.Look None clock look

  post : m.post ≡ v.post
  post = came_post v m came

  found_clock : HadClock m.post.machine clock m.holdings
  unfolding left_by
  found_clock = subst (λ (p : Post). HadClock p.machine clock m.holdings) (sym post) (moves_since v m Clock Load kinds.Look None clock look 0 (λ w. w == clock) (omega arith) (when_eq clock clock refl))

  had_for : (o : Option ℕ) → KnowsAwaited v o → HadClock m.post.machine (stamp_for o clock) m.holdings
  had_for None k = found_clock
  had_for (Some x) k = had_later v m x came k

  pub had_stamp : HadClock m.post.machine stamp m.holdings
  had_stamp = rw is (had_for awaited known)

  -- ---- the wait
  abbrev request : Request
  request = of_wait v.post.machine v.post.vcpu mask awaited

  abbrev those : Whose
  those = Those (meant m.post.machine m.post.vcpu mask)

  same_those : (q : PortValue) → q.post ≡ v.post → Those (meant q.post.machine q.post.vcpu mask) ≡ Those (meant v.post.machine v.post.vcpu mask)
  same_those q e = ap (λ (p : Post). Those (meant p.machine p.vcpu mask)) e

  awaits_for : (o : Option ℕ) → KnowsAwaited v o → AwaitsStamp v.post.machine v.post.vcpu (of_wait v.post.machine v.post.vcpu mask o) (Met v m) those (stamp_for o clock)
  unfolding moment_of
  awaits_for None k =
      begun (record { means = meant v.post.machine v.post.vcpu mask; stamp = None }) refl refl
      (record { moment = moment_of v Clock Load kinds.Look None clock; was = moves_met v m Clock Load kinds.Look None clock look; place = refl; word = refl }) (same_those m post)
  awaits_for (Some x) k =
      goes_on (record { means = meant v.post.machine v.post.vcpu mask; stamp = Some x }) (moment_of v Clock Load kinds.Look None clock) refl refl (moves_met v m Clock Load kinds.Look None clock look) k (same_those m post)

  awaits : AwaitsStamp m.post.machine m.post.vcpu request (Met v m) those stamp
  awaits = subst (λ (p : Post). AwaitsStamp p.machine p.vcpu request (Met v m) those stamp) (sym post) (rw is (awaits_for awaited known))

  looked : Serves v m request []
  looked = moves_serves v m request Clock Load kinds.Look None clock look tt

  -- ---- behind it the vCPUs are waited for
  module _ (w : PortValue) (answer : Result (Unit {0}) Stop) where
    served : ServesBehind m w those stamp → Serves v w request []
    unfolding ServesBehind
    served serves = serves v request [] looked awaits

    pub waited_stops : IfErr answer (λ e. StopsBehind m w those stamp e) → IfErr answer (λ e. Stops v w request e)
    unfolding StopsBehind
    waited_stops stops = each answer stops
      where
        each : (y : Result (Unit {0}) Stop) → IfErr y (λ e. StopsBehind m w those stamp e) → IfErr y (λ e. Stops v w request e)
        each (Ok done) a = tt
        each (Err e) a = a v request came awaits

    pub waited_serves : (d : ℕ) → ServesBehind m w those stamp → IfErr answer IsWait → ServesElement v w d (FlushVcpus mask) awaited answer
    waited_serves d serves kind = ([], has_none v.post.machine v.post.vcpu mask answer kind, served serves)

    -- a pause has the very stamp
    knows : HadClock w.post.machine stamp w.holdings → (y : Result (Unit {0}) Stop) → IfErr y (λ e. (vcpu t found : ℕ) → e ≡ Paused (Flush vcpu t found) → t ≡ stamp) → KnowsAwaited w (awaited_by (FlushVcpus mask) y)
    knows had (Ok done) same = tt
    knows had (Err (Refused x)) same = tt
    knows had (Err (Paused (Flush vcpu t found))) same = rw (same vcpu t found refl) had
    knows had (Err (Paused _)) same = tt

    pub waited_knows : Came m w → IfErr answer (λ e. (vcpu t found : ℕ) → e ≡ Paused (Flush vcpu t found) → t ≡ stamp) → KnowsAwaited w (awaited_by (FlushVcpus mask) answer)
    waited_knows more same = knows (had_later m w stamp more had_stamp) answer same

    pub waited_course : Does m w (λ vs. WaitedFor m.post those stamp answer vs) → IfOk answer (λ done. AreClear m w (meant m.post.machine m.post.vcpu mask) stamp) → WaitedForVcpus v w mask awaited [] answer
    waited_course does clear =
        record {
          no_ask = refl;
          looked = m;
          clock = clock;
          looks = look;
          waits = subst (λ t. Does m w (λ vs. WaitedFor v.post (Those (meant v.post.machine v.post.vcpu mask)) t answer vs)) is (subst (λ (p : Post). Does m w (λ vs. WaitedFor p (Those (meant p.machine p.vcpu mask)) stamp answer vs)) post does);
          clear = subst (λ t. IfOk answer (λ done. AreClear m w (meant v.post.machine v.post.vcpu mask) t)) is (subst (λ (p : Post). IfOk answer (λ done. AreClear m w (meant p.machine p.vcpu mask) stamp)) post clear);
        }
