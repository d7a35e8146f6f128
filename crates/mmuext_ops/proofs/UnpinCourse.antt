-- An unpin: its ways out, one lemma each.
use Rattle.std.proofs.Common.{◌≡◌, ◌≢◌, ℕ, true, false, [], Some, None, Result, Ok, Err, IfErr, refl, sym, ap, ◌∙◌, subst, rules}
use Rattle.xp_words.specs.KindWords.{kind_read, kind_write}
use Rattle.xp_words.specs.Places.{number, sizes_of}
use Rattle.xp_words.specs.declared.kind.KindWord.{KindWord}
use Rattle.xp_words.specs.declared.place.Place.TheVariants.{Kind}
use Rattle.xp_words.specs.declared.reply.Pause.TheVariants.{Due, Lost}
use Rattle.xp_words.specs.declared.reply.Refusal.TheVariants.{NotPinned}
use Rattle.xp_words.specs.declared.reply.Stop.{Stop}
use Rattle.xp_words.specs.declared.reply.Stop.TheVariants.{Paused, Refused}
use Rattle.xp_board.specs.declared.step.Act.TheVariants.{Cas}
use Rattle.xp_board.specs.declared.step.StepKind.TheVariants as kinds
use Rattle.xp_board.specs.Told.{PortValue}
use Rattle.xp_board.proofs.KindForms.{fields_of}
use Rattle.step_maker.specs.Holds.{FlushedSame, Holds, Rests, Same, quiet}
use Rattle.step_maker.specs.Moves.{Moves}
use Rattle.step_maker.proofs.Coming.{came_trans, moves_came}
use Rattle.step_maker.specs.Answers.{Serves, missed, misses}
use Rattle.step_maker.specs.Asked.{of_back, of_frame}
use Rattle.step_maker.proofs.Piecing.{serves_came}
use Rattle.step_maker.proofs.Resting.{still_rests}
use Rattle.frame_words.specs.Refs.{IsRefStop}
use Rattle.kind_words.specs.Kinds.{looked_at}
use Rattle.table_words.specs.Pins.{took_pin, unpinned_kind}
use Rattle.table_entries.specs.Acquiring.{GaveRef, GotRef}
use Rattle.level_release.specs.Asking.{of_release}
use Rattle.level_release.specs.Course.{ReleasesFrameBy, WasReleased}
use Rattle.level_release.specs.Holding.{HoldsLive, LeavesUnheld}
use Rattle.table_entries.proofs.Ending.{reference_undue}
use Rattle.mmuext_ops.specs.Course.{TakesPinOff, is_pinned}
use Rattle.mmuext_ops.specs.Course as course
use Rattle.mmuext_ops.specs.declared.element.Element.TheVariants.{Unpin}
use Rattle.mmuext_ops.specs.Elements.{IsUnpinStop, told}
use Rattle.mmuext_ops.specs.Holding.{MeetsElement}
use Rattle.mmuext_ops.proofs.Looked.{GivenBack, Looked, came_back, fields, given_back, look_there, not_referred, put_back, referred, written}
use Rattle.mmuext_ops.proofs.Looked as look
use Rattle.mmuext_ops.proofs.Released.{holds_live, lost_hand, released_hand, released_serves}
use Rattle.mmuext_ops.proofs.Rests.{rests_unpinned}
use Rattle.mmuext_ops.proofs.Within.{of_unpin}
use Rattle.mmuext_ops.proofs.Unpinned.{asks, before_stops, lost_serves, lost_why, raced_serves, raced_stops, stop_is, takes_off, unpinned_serves}
use Rattle.xp_preempt.specs.Gates.{Gate}
use Rattle.xp_preempt.proofs.Consulting.{gated_past, past_as, past_none}

ref_stop : (e : Stop) → IsRefStop e → IsUnpinStop e
ref_stop e is = search rules

module _ {v w : PortValue} {d f : ℕ} {gate : Gate} (rests : Rests v) where
  -- its reference is not to be had
  pub unreferred : {answer : Result (Unit {0}) Stop} {stop : Stop} → answer ≡ Err stop → Serves v w (of_frame f d None) (missed v.post.machine stop) → IsRefStop stop → Same v w → GotRef v w f d (Err stop) →
      MeetsElement v w d (Unpin f) None gate gate answer
  unreferred {stop} is serves kind same got =
      rw is
      (record {
        serves = (missed v.post.machine stop, told _ _ tt, referred v f d (of_unpin d f) (asks v f d) w (missed v.post.machine stop) serves);
        stops = not_referred v f d (of_unpin d f) (asks v f d) w stop got.stops;
        kinds = ref_stop stop kind;
        hand = ap quiet same;
        rests = still_rests v w rests (ap quiet same);
        course = past_none (reference_undue stop kind) (course.unreferred stop got);
      })

  -- it is not pinned
  pub seen : {a b : PortValue} {g x : ℕ} {k : KindWord} → Looked v a b f d g x k → GivenBack b w g → k.pinned ≡ false → MeetsElement v w d (Unpin f) None gate gate (Err (Refused (NotPinned x)))
  seen {a} {b} {x} saw back off =
      let left : FlushedSame v w = ap quiet (given_back saw back) in
      record {
        serves = ([], told _ _ tt, put_back saw (of_unpin d f) (asks v f d) back);
        stops = before_stops saw w (came_back saw back) off;
        kinds = tt;
        hand = left;
        rests = still_rests v w rests left;
        course = past_none refl (course.unpinned_before a b x saw.got (look_there saw) (ap (λ (y : KindWord). y.pinned) (fields saw) ∙ off) (look.gave_ref saw back));
      }

-- ---- it is: the exchange
module _ {v a b : PortValue} {d f g x : ℕ} {k : KindWord} (rests : Rests v) (saw : Looked v a b f d g x k) (on : k.pinned ≡ true) {q : PortValue} {found : ℕ} (try : Moves b q (Kind g) (Cas (kind_write k) (kind_write (unpinned_kind k))) kinds.Kind None found) where
  on_x : is_pinned x ≡ true
  on_x = ap (λ (y : KindWord). y.pinned) (fields saw) ∙ on

  gave_ref : (r : PortValue) → GivenBack q r g → GaveRef q r f
  gave_ref r back = subst (λ j. GaveRef q r j) saw.at back.puts

  -- it found the same word: the table is released
  module _ (same_word : found ≡ kind_write k) (pins : Holds b q (took_pin g k b.holdings)) (r : PortValue) (back : GivenBack q r g) where
    pub holds : HoldsLive r g k.kind
    holds = holds_live v a b q r d g rests saw.taken saw.same k pins back.hand (came_trans b q r (moves_came b q _ _ _ _ _ try) (serves_came q r (of_back g) [] back.serves))

    pub released : {w : PortValue} {answer : Result (Unit {0}) Stop} {before after : Gate} → Serves r w (of_release g d d answer) (misses r.post.machine answer) → IfErr answer (λ e. e ≡ Paused Due) → LeavesUnheld r w g answer →
        ReleasesFrameBy r w g k.kind before after answer → MeetsElement v w d (Unpin f) None before after (Ok tt)
    released {w} {answer} serves due leaves by =
        let left = released_hand v a b q r d g rests saw.taken saw.same k pins back.hand w f saw.at answer leaves in
        record {
          serves = released_serves v r w f d g answer saw.at (unpinned_serves saw try on r (same_word ∙ written saw) back.serves) serves due;
          stops = tt;
          kinds = tt;
          hand = left;
          rests = rests_unpinned v w f (Ok tt) rests left;
          course = past_as (λ on. absurd cc)
              (λ answers was.
              course.released a b q r x answers answer saw.got (look_there saw) on_x (subst (λ y. TakesPinOff b q f x y) (same_word ∙ written saw) (takes_off saw try)) (gave_ref r back)
              (subst (λ t. WasReleased r f t w answers answer) (sym (ap (λ (y : KindWord). y.kind) (fields saw))) (subst (λ j. WasReleased r j k.kind w answers answer) saw.at was)) due) (gated_past by);
        }

  -- it found another word
  module _ (lost_it : found ≢ kind_write k) (looks : Holds b q (looked_at g found b.holdings)) {r : PortValue} (back : GivenBack q r g) {j : KindWord} (read_now : kind_read found ≡ Some j) where
    other : found ≢ x
    other = subst (λ e. found ≢ e) (written saw) lost_it

    left : FlushedSame v r
    left = ap quiet (lost_hand v a b q r d g rests saw.taken saw.same found looks back.hand)

    -- which is not pinned
    pub raced : {gate : Gate} → j.pinned ≡ false → MeetsElement v r d (Unpin f) None gate gate (Err (Refused (NotPinned found)))
    raced off =
        record {
          serves = raced_serves saw try on other r back.serves;
          stops = raced_stops saw try on other r back.serves j read_now off;
          kinds = tt;
          hand = left;
          rests = still_rests v r rests left;
          course = past_none refl
              (course.raced a b q x found saw.got (look_there saw) on_x (takes_off saw try) other (ap (λ (y : KindWord). y.pinned) (fields_of found j read_now) ∙ off) (gave_ref r back));
        }

    -- which is
    pub lost : {stop : Stop} {gate : Gate} → stop ≡ Paused (Lost (number (sizes_of r.post.machine) (Kind g)) x found) → j.pinned ≡ true → MeetsElement v r d (Unpin f) None gate gate (Err stop)
    lost {stop} is still =
        let why = stop_is saw try on other r back.serves stop is in
        record {
          serves = lost_serves saw try on other r back.serves stop is;
          stops = lost_why saw try on other r back.serves stop is;
          kinds = rw why tt;
          hand = left;
          rests = still_rests v r rests left;
          course = rw why
              (past_none refl
              (course.lost a b q x found saw.got (look_there saw) on_x (takes_off saw try) other (ap (λ (y : KindWord). y.pinned) (fields_of found j read_now) ∙ still) (gave_ref r back)));
        }
