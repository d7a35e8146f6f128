-- A pin: its ways out, one lemma each.
use Rattle.std.proofs.Common.{◌≡◌, ℕ, true, false, [], None, Result, Ok, Err, IfErr, refl, ap, ◌∙◌, subst, inl, rules}
use Rattle.xp_words.specs.declared.kind.KindWord.{KindWord}
use Rattle.xp_words.specs.declared.reply.Refusal.TheVariants.{AlreadyPinned}
use Rattle.xp_words.specs.declared.reply.Stop.{Stop}
use Rattle.xp_words.specs.declared.reply.Stop.TheVariants.{Paused, Refused}
use Rattle.xp_preempt.specs.Gates.{Gate}
use Rattle.xp_preempt.proofs.Consulting.{gated_as, gated_past, past_none}
use Rattle.xp_board.specs.Told.{PortValue}
use Rattle.step_maker.specs.Holds.{Rests, Same, quiet}
use Rattle.step_maker.specs.Answers.{Serves, Stops, missed}
use Rattle.step_maker.specs.Asked.{of_frame}
use Rattle.frame_words.specs.Refs.{IsRefStop}
use Rattle.partial_state.specs.Levels.{level_type}
use Rattle.table_entries.specs.Acquiring.{Acquired, GotRef}
use Rattle.level_validate.specs.Acquiring.{AcquiresBy, IsAcquireStop, LeavesAcquired, ServesAcquired, of_acquire}
use Rattle.level_validate.specs.Unwinding.{own_domain}
use Rattle.table_entries.proofs.Ending.{reference_undue}
use Rattle.mmuext_ops.specs.Course.{IsPinnedAs, PinEnds}
use Rattle.mmuext_ops.specs.Course as course
use Rattle.mmuext_ops.specs.declared.element.Element.TheVariants.{Pin}
use Rattle.level_release.specs.Asking.{is_due_stop}
use Rattle.mmuext_ops.specs.Elements.{IsPinStop, LeavesElement, of_pin, told}
use Rattle.mmuext_ops.specs.Holding.{HoldsTable, IsPinEnd, MeetsElement, PinsLive}
use Rattle.mmuext_ops.proofs.Looked.{GivenBack, Looked, came_back, fields, gave_ref, given_back, look_there, not_referred, put_back, referred}
use Rattle.mmuext_ops.proofs.Pinned.{acquired_holds, acquired_serves, asks, before_stops, live_hand, live_serves, live_stops, pin_undue, unacquired_hand, unacquired_stops}
use Rattle.mmuext_ops.proofs.Rests.{rests_pinned}

-- ---- why it is not done
ref_stop : (e : Stop) → IsRefStop e → IsPinStop e
ref_stop e is = search rules

acquire_stop : (e : Stop) → IsAcquireStop e → IsPinStop e
acquire_stop e is = search rules

pin_stop : (answer : Result (Unit {0}) Stop) → IfErr answer IsPinEnd → IfErr answer IsPinStop
pin_stop answer is = search rules

-- nothing is left of it
none_left : (v w : PortValue) (f level : ℕ) (e : Stop) → Same v w → LeavesElement v w (Pin f level) (Err e)
none_left v w f level (Refused x) same = inl (ap quiet same)
none_left v w f level (Paused x) same = ap quiet same

module _ {v w : PortValue} {d f level : ℕ} {gate : Gate} (rests : Rests v) where
  -- its reference is not to be had
  pub unreferred : {answer : Result (Unit {0}) Stop} {stop : Stop} → answer ≡ Err stop → Serves v w (of_frame f d None) (missed v.post.machine stop) → IsRefStop stop → Same v w → GotRef v w f d (Err stop) →
      MeetsElement v w d (Pin f level) None gate gate answer
  unreferred {stop} is serves kind same got =
      let left = none_left v w f level stop same in
      rw is
      (record {
        serves = (missed v.post.machine stop, told _ _ tt, referred v f d (of_pin d f level (is_due_stop stop)) (asks v f d level (is_due_stop stop)) w (missed v.post.machine stop) serves);
        stops = not_referred v f d (of_pin d f level (is_due_stop stop)) (asks v f d level (is_due_stop stop)) w stop got.stops;
        kinds = ref_stop stop kind;
        hand = left;
        rests = rests_pinned v w f level (Err stop) rests left;
        course = past_none (reference_undue stop kind) (course.unreferred stop got);
      })

  -- it is pinned already
  pub seen : {a b : PortValue} {g x : ℕ} {k : KindWord} → Looked v a b f d g x k → GivenBack b w g → k.pinned ≡ true → k.kind ≡ level_type level → MeetsElement v w d (Pin f level) None gate gate (Err (Refused (AlreadyPinned x)))
  seen {a} {b} {x} saw back on kind =
      let left = none_left v w f level (Refused (AlreadyPinned x)) (given_back saw back) in
      let typed : IsPinnedAs level x = (ap (λ (y : KindWord). y.pinned) (fields saw) ∙ on, ap (λ (y : KindWord). y.kind) (fields saw) ∙ kind) in
      record {
        serves = ([], told _ _ tt, put_back saw (of_pin d f level false) (asks v f d level false) back);
        stops = before_stops v f d level false saw w (came_back saw back) on kind;
        kinds = tt;
        hand = left;
        rests = rests_pinned v w f level (Err (Refused (AlreadyPinned x))) rests left;
        course = past_none refl (course.pinned_before a b x saw.got (look_there saw) (gave_ref saw back) typed);
      }

module _ {v a b : PortValue} {d f g x : ℕ} {k : KindWord} (rests : Rests v) (saw : Looked v a b f d g x k) (p : PortValue) (back : GivenBack b p g) (own : d ≡ own_domain v) where
  module _ {level : ℕ} {before after : Gate} (other : IsPinnedAs level x → ⊥) where
    -- it is not acquired
    pub refused : {e : PortValue} {answer : Result (Unit {0}) Stop} {stop : Stop} → answer ≡ Err stop → ServesAcquired p e f d level d (Err stop) → Stops p e (of_acquire {A = ℕ} p f d level d (Err stop)) stop → IsAcquireStop stop →
        LeavesAcquired p e f d level (Err stop) → AcquiresBy p e f d level before after (Err stop) → MeetsElement v e d (Pin f level) None before after answer
    refused {e} {stop} is serves stops kind hand by =
        let same = given_back saw back in
        let left = unacquired_hand v p e f d level same own stop hand in
        let put = put_back saw (of_pin d f level (is_due_stop stop)) (asks v f d level (is_due_stop stop)) back in
        rw is
        (record {
          serves = (missed v.post.machine stop, told _ _ tt, acquired_serves v f d level (is_due_stop stop) p put e (Err stop) (λ due. due) own serves);
          stops = unacquired_stops v f d level (is_due_stop stop) p put e (Err stop) (λ due. due) own same stop stops;
          kinds = acquire_stop stop kind;
          hand = left;
          rests = rests_pinned v e f level (Err stop) rests left;
          course = gated_past (gated_as refl (λ answers. course.refused a b p x answers stop saw.got (look_there saw) (gave_ref saw back) other) by);
        })

    -- it is live
    pub live : {e w : PortValue} {h : ℕ} {answer : Result (Unit {0}) Stop} → h ≡ f → ServesAcquired p e f d level d (Ok h) → LeavesAcquired p e f d level (Ok h) → AcquiresBy p e f d level before after (Ok h) →
        PinsLive e w h level answer → MeetsElement v w d (Pin f level) None before after answer
    live {e} {w} {h} {answer} at serves hand by ends =
        let served = acquired_serves v f d level false p (put_back saw (of_pin d f level false) (asks v f d level false) back) e (Ok h) (λ due. due) own serves in
        let left = live_hand v p e f d level (given_back saw back) h at rests hand w answer ends.hand in
        record {
          serves = live_serves v e w f d level h at own served answer ends.kinds ends.serves;
          stops = live_stops v e w f d level h at own served answer ends.kinds ends.stops;
          kinds = pin_stop answer ends.kinds;
          hand = left;
          rests = rests_pinned v w f level answer rests left;
          course = gated_past
              (gated_as (pin_undue answer ends.kinds)
              (λ answers taken.
              course.acquired a b p e x answers answer saw.got (look_there saw) (gave_ref saw back) other (subst (λ j. Acquired p f d level e answers (Ok j)) at taken) (subst (λ j. PinEnds e w j level answer) at ends.course)) by);
        }

  pub holds : {e : PortValue} {level h : ℕ} → LeavesAcquired p e f d level (Ok h) → HoldsTable e h level
  holds {e} {level} {h} hand = acquired_holds v p e f d level h rests (given_back saw back) own hand
