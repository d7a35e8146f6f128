-- The clock is looked at first: it is at its last value, or below it; and what is installed behind that look.
use Rattle.std.proofs.Common.{◌≡◌, ◌≢◌, ℕ, ◌≤◌, nat_lt, Bool, true, false, [], ◌∷◌, length, Option, None, Ok, Err, IsTrue, refl, sym, ap, subst}
use Rattle.xp_words.specs.Machine.{Machine}
use Rattle.xp_words.specs.Places.{sizes_of}
use Rattle.xp_words.specs.declared.place.Place.{Place}
use Rattle.xp_words.specs.declared.place.Place.TheVariants.{Clock}
use Rattle.xp_words.specs.declared.reply.Refusal.TheVariants as refusals
use Rattle.xp_words.specs.declared.reply.Stop.TheVariants.{Refused}
use Rattle.xp_words.proofs.Shared.{lt_true as less_is}
use Rattle.xp_board.specs.declared.holdings.Holdings.{Holdings}
use Rattle.xp_board.specs.declared.step.Act.TheVariants.{Load}
use Rattle.xp_board.specs.declared.step.StepKind.TheVariants as kinds
use Rattle.xp_board.specs.Acts.{left_by}
use Rattle.xp_board.specs.Readings.{domain_of, last_clock}
use Rattle.xp_board.specs.Steps.{some_since}
use Rattle.xp_board.specs.Told.{Finds, Post, PortValue}
use Rattle.xp_board.specs.WellFormed.{WellFormed}
use Rattle.xp_preempt.specs.Gates.{Gate, GatedPast}
use Rattle.xp_preempt.proofs.Consulting.{past_none, past_then}
use Rattle.step_maker.specs.Moves.{Came}
use Rattle.step_maker.proofs.Coming.{came_post, came_self, moves_came}
use Rattle.step_maker.proofs.Noting.{moves_since}
use Rattle.step_maker.specs.Answers.{Serves, SetsWord}
use Rattle.step_maker.specs.Asked.{Request}
use Rattle.step_maker.specs.Reasons.{own}
use Rattle.step_maker.proofs.Piecing.{serves_came, serves_nothing, serves_step, serves_then}
use Rattle.flush_words.proofs.FlushServes.{own_stops}
use Rattle.flush_words.proofs.OwnFlush.{clock_below, spent_own}
use Rattle.level_validate.specs.Unwinding.{own_domain}
use Rattle.table_bases.specs.declared.words.Base.{Base}
use Rattle.table_bases.specs.Asking.{ServesBase, base_deeds, of_base}
use Rattle.table_bases.specs.Course.{AcquiresTop, InstallsBy, MeetsBase, SawClock, SetsBase}
use Rattle.table_bases.specs.Course as course
use Rattle.table_bases.specs.Holding.{FoundClockLow, base_number, naming}
use Rattle.table_bases.proofs.Requests.{base_flushes}

-- ---- the look
module _ {v a : PortValue} {clock : ℕ} (look : SawClock v a clock) where
  pub looked : (r : Request) → Serves v a r []
  looked r = serves_step v v a r [] Clock Load kinds.Look None clock (serves_nothing v r) look tt

  pub looked_came : Came v a
  looked_came = moves_came v a Clock Load kinds.Look None clock look

  -- ---- the clock goes no further
  pub spent : {base : Base} {new : Option ℕ} {g : Gate} → clock ≡ last_clock → MeetsBase v a base new g g (Err (Refused (refusals.Clock clock)))
  spent {base} {new} is =
      record {
        came = looked_came;
        serves = looked (of_base (own_domain v) new false);
        stops = own_stops v v a (of_base (own_domain v) new false) (refusals.Clock clock) (came_self v) (own (base_flushes (own_domain v) new false)) (spent_own v a clock look is);
        course = past_none refl (subst (λ y. SetsBase v a base new [] (Err (Refused (refusals.Clock y)))) (sym is) (course.spent new (subst (λ y. SawClock v a y) is look)));
      }

  -- ---- it was found below its last value
  ran_past : (n : Machine) (s : ℕ) (h : Holdings) (p : Place) (w : ℕ) → Finds n s h p w → h.ran ≤ length h.steps
  ran_past n s h p w finds = let formed : WellFormed n s h = subst (λ u. WellFormed n s u) finds.mine (finds.sound.formed s finds.real) in formed.ran

  pub looked_warm : clock ≢ last_clock → FoundClockLow a
  unfolding left_by
  looked_warm some =
      let late : a.holdings.ran ≤ length v.holdings.steps =
      subst (λ k. k ≤ length v.holdings.steps) (sym (ap (λ (y : PortValue). y.holdings.ran) look.to)) (ran_past v.post.machine v.post.vcpu v.holdings Clock clock look.finds) in
      subst (λ (n : Machine). IsTrue (some_since (sizes_of n) a.holdings.ran Clock (λ w. nat_lt w last_clock) a.holdings.steps)) (sym (ap (λ (y : PortValue). y.post.machine) look.to))
      (moves_since v a Clock Load kinds.Look None clock look a.holdings.ran (λ w. nat_lt w last_clock) late (less_is clock last_clock (clock_below v a clock look some)))

  -- ---- installed behind it, and behind what acquired the table
  pub installed : (b : PortValue) {w : PortValue} {new : Option ℕ} {base : Base} {early : Bool} {g h k : Gate} → Serves v b (of_base (own_domain v) new true) [] → clock ≢ last_clock → GatedPast g h early (λ answers. AcquiresTop a b new answers) →
      Serves b w (of_base (own_domain b) new true) (base_deeds b base new (Ok tt)) → InstallsBy b w base new h k → MeetsBase v w base new g k (Ok tt)
  installed b {w} {new} {base} before some takes sets by =
      let served : ServesBase v w base new (Ok tt) =
      serves_then v b w (of_base (own_domain v) new true) [] (base_deeds v base new (Ok tt)) before
      (subst (λ (p : Post). Serves b w (of_base (domain_of p.machine p.vcpu) new true) (SetsWord p.vcpu (base_number base) (naming new) ∷ [])) (came_post v b (serves_came v b (of_base (own_domain v) new true) [] before)) sets) in
      record {
        came = serves_came v w (of_base (own_domain v) new true) (base_deeds v base new (Ok tt)) served;
        serves = served;
        stops = tt;
        course = past_then (λ answers more took put. course.installed a b clock new answers more look some took put) takes by;
      }
