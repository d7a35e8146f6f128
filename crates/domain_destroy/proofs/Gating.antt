-- A phase goes on by one part more, with the gate, which is asked behind each vCPU or frame of the domain.
use Rattle.std.proofs.Common.{◌≡◌, ℕ, Bool, true, false, List, [], ◌∷◌, Result, Ok, Err, refl}
use Rattle.xp_words.specs.declared.reply.Pause.TheVariants.{Due}
use Rattle.xp_words.specs.declared.reply.Stop.{Stop}
use Rattle.xp_words.specs.declared.reply.Stop.TheVariants.{Paused}
use Rattle.xp_preempt.specs.Gates.{Consulted, Gate, Gated}
use Rattle.xp_preempt.proofs.Consulting.{gated_as, gated_ask, gated_none, gated_then}
use Rattle.xp_board.specs.Told.{PortValue}
use Rattle.step_maker.specs.Holds.{Rests}
use Rattle.step_maker.specs.Moves.{Met}
use Rattle.step_maker.specs.Pauses.{HasPassed}
use Rattle.level_release.specs.Asking.{is_due_stop}
use Rattle.domain_destroy.specs.Asking.{of_domain}
use Rattle.domain_destroy.specs.Course as course
use Rattle.domain_destroy.specs.Course.{Advances}
use Rattle.domain_destroy.specs.Destroying.{PartWent, PhaseWent}
use Rattle.domain_destroy.specs.Emptying.{NamesNone}
use Rattle.domain_destroy.specs.Hearing.{heard_no}
use Rattle.domain_destroy.specs.declared.place.DestroyAt.{DestroyAt}
use Rattle.domain_destroy.proofs.Parts.{nothing_serves, went_due, went_err, went_ok, went_same, went_then}

pub phase_none : {g : Gate} (v : PortValue) (d : ℕ) (from : DestroyAt) → Rests v → NamesNone v → Gated g g false (λ answers. PhaseWent v v d from from [] answers (Ok tt))
phase_none v d from rests clear = gated_none refl (went_same v v d (Ok tt) rests clear refl (nothing_serves v d (Ok tt) refl) tt tt course.GoesOn.begins)

module _ {v u w : PortValue} {d : ℕ} {from at to : DestroyAt} {g h k : Gate} (before : Gated g h false (λ answers. PhaseWent v u d from at [] answers (Ok tt))) where
  phase_then : {paused : Bool} (answer : Result (Unit {0}) Stop) → Gated h k paused (λ more. PartWent u w d (Advances d u at w to [] more answer) answer) → Gated g k paused (λ answers. PhaseWent v w d from to [] answers answer)
  phase_then answer = gated_then refl (λ answers more one two. went_then v u w d tt answer one two (course.GoesOn.advances u w at to [] [] answers more answer one.course two.course)) before

  module _ {C : List Bool → Type 0} where
    pub phase_stopped : {e : Stop} → ((more : List Bool) → C more → Advances d u at w to [] more (Err e)) → Gated h k (is_due_stop e) (λ more. PartWent {A = Bool} u w d (C more) (Err e)) → Gated g k (is_due_stop e) (λ answers. PhaseWent v w d from to [] answers (Err e))
    phase_stopped {e} by one = phase_then (Err e) (gated_as refl (λ more p. went_err u w d e p (by more p.course)) one)

    -- another domain's: the gate is not asked
    pub phase_over : {passed : Bool} → passed ≡ false → ((more : List Bool) → C more → Advances d u at w to [] (heard_no passed more) (Ok tt)) → Gated h k false (λ more. PartWent u w d (C more) (Ok passed)) →
        Gated g k false (λ answers. PhaseWent v w d from to [] answers (Ok tt))
    phase_over {passed = true} is by one = absurd cc
    phase_over {passed = false} is by one = phase_then (Ok tt) (gated_as refl (λ more p. went_ok u w d false tt p (by more p.course)) one)

    module _ {j : Gate} where
      pub phase_on : {passed : Bool} → passed ≡ true → ((more : List Bool) → C more → Advances d u at w to [] (heard_no passed more) (Ok tt)) → Gated h j false (λ more. PartWent u w d (C more) (Ok passed)) → Consulted j k (false ∷ []) →
          Gated g k false (λ answers. PhaseWent v w d from to [] answers (Ok tt))
      phase_on {passed = false} is by one asked = absurd cc
      phase_on {passed = true} is by one asked = phase_then (Ok tt) (gated_ask (λ more p. went_ok u w d true tt p (by more p.course)) one asked)

      pub phase_due : {passed : Bool} → passed ≡ true → (passed ≡ true → HasPassed u.post.machine (of_domain u.post.machine d true) (Met u w)) → ((more : List Bool) → C more → Advances d u at w to [] (true ∷ more) (Err (Paused Due))) →
          Gated h j false (λ more. PartWent u w d (C more) (Ok passed)) → Consulted j k (true ∷ []) → Gated g k true (λ answers. PhaseWent v w d from to [] answers (Err (Paused Due)))
      phase_due is has by one asked = phase_then (Err (Paused Due)) (gated_ask (λ more p. went_due u w d _ (has is) p (by more p.course)) one asked)
