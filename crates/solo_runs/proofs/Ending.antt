-- A run in which the only vCPU comes to the end of its script.
use Rattle.std.proofs.Common.{◌≡◌, ◌<◌, ℕ, true, List, length, refl, sym, ap, subst}
use Rattle.std.specs.Prelude.{slice_get}
use Rattle.xp_words.specs.declared.ops.Op.{Op}
use Rattle.xp_words.specs.declared.place.Place.{Place}
use Rattle.xp_words.specs.declared.place.Place.TheVariants.{Cell, Clock, Kind, Life, M2p, Map, Pages, Priv, Refs, Vcpu}
use Rattle.course_laws.specs.Courses.{ClockGoesOn}
use Rattle.script_law.specs.Shown.{solo_in}
use Rattle.xp_board.specs.Readings.{domain_of, last_clock}
use Rattle.xp_board.specs.Told.{PortValue, is_telling, told_word}
use Rattle.trace_text.specs.declared.trace.Trace.{Trace}
use Rattle.trace_text.specs.declared.trace.TurnRun.{TurnRun}
use Rattle.trace_text.specs.WellFormed.{IsWellFormed}
use Rattle.machine_build.specs.Opening.{IsOpening, opening_at}
use Rattle.xp_preempt.specs.Gates.{Gate}
use Rattle.vcpu_runners.specs.Turns.{Processing, fresh}
use Rattle.xp_machine.specs.Turns.{Stage, port_on}
use Rattle.script_law.specs.Scripts.{script_alone}
use Rattle.script_law.specs.Values.{Solo}
use Rattle.solo_accesses.specs.Stale.{IsNeverStale}
use Rattle.solo_ports.specs.Standing.{Fair, whose}
use Rattle.script_laws.specs.Logged.{IsLogged}
use Rattle.script_laws.specs.Opening.{IsStoppedAt, OpensScript}
use Rattle.script_laws.specs.Turns.{IsLog, Turned}
use Rattle.solo_runs.specs.Finishing.{RunComesTo, FinishesAlone, IsFairRun, first_port, opening_solo, owner_in, with_turns}
use Rattle.solo_runs.proofs.Closing.{all_turns, closing_cpus, first_in, is_last, is_retired, no_stop}

abbrev pub Invisible : Type 0
Invisible = (c d : Processing) (v w : PortValue) (x : Solo) → OpensScript c v x → Turned c v d w → d.retired ≡ true → Fair v w → IsNeverStale v w →
    IsLog IsLogged d.log (script_alone (whose v) c.script x).log × IsStoppedAt w (script_alone (whose v) c.script x).left

abbrev pub OpensIt : Type 0
OpensIt = (t : Trace) (words : List ℕ) (script : List Op) → IsWellFormed t → IsOpening t words → length t.layout.vcpu_domain ≡ 1 → OpensScript (fresh t.layout.frames 0 (domain_of t.layout 0) script) (first_port t words) (opening_solo t)

abbrev pub ClockWasOn : Type 0
ClockWasOn = (v w : PortValue) → is_telling v ≡ true → told_word w Clock < last_clock → ClockGoesOn v w

module _ (invisible : Invisible) (opens : OpensIt) (clock_was_on : ClockWasOn) (t : Trace) (gates : List Gate) (script : List Op) (closed : Stage) (last : Processing) (run : FinishesAlone t gates script closed last) where
  pub run_comes : IsFairRun t run.ran.opened closed → RunComesTo t closed last (script_alone (owner_in t) script (opening_solo t)).log (script_alone (owner_in t) script (opening_solo t)).left
  run_comes fair =
      let w = all_turns t gates script closed last run in
      let turned = subst (λ (s : Stage). Turned (first_in t script) (first_port t run.ran.opened) w.now (port_on t.layout 0 s.board)) (sym (no_stop t gates script closed last run)) w.turned in
      let k = invisible (first_in t script) w.now (first_port t run.ran.opened) (port_on t.layout 0 closed.board) (opening_solo t) (opens t run.ran.opened script run.formed run.ran.opening run.only) turned (is_retired t gates script closed last run) (record { clock = clock_was_on (first_port t run.ran.opened) (port_on t.layout 0 closed.board) refl fair.clock; room = fair.room }) fair.fresh in
      record {
        last_is = ap (λ cs. slice_get cs 0) (closing_cpus t gates script closed last run);
        log = subst (λ (c : Processing). IsLog IsLogged c.log (script_alone (owner_in t) script (opening_solo t)).log) (is_last t gates script closed last run) k.0;
        words = k.1;
      }

-- other turn lines do not change how a machine opens
opens_alike : (t : Trace) (us : List TurnRun) (p : Place) → opening_at (with_turns us t) p ≡ opening_at t p
unfolding opening_at
opens_alike t us Clock = refl
opens_alike t us (Pages d) = refl
opens_alike t us (Life d) = refl
opens_alike t us (Vcpu v k) = refl
opens_alike t us (Refs f) = refl
opens_alike t us (Kind f) = refl
opens_alike t us (M2p f) = refl
opens_alike t us (Cell f i) = refl
opens_alike t us (Map k) = refl
opens_alike t us (Priv d) = refl

pub solo_alike : (t : Trace) (us : List TurnRun) → opening_solo (with_turns us t) ≡ opening_solo t
solo_alike t us = let same : opening_at (with_turns us t) ≡ opening_at t = λ i p. opens_alike t us p i in ap (λ m. solo_in m 0) same
