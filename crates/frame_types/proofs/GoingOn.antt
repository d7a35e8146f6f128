-- A frame that came into the own works, behind the wait for its flush.
use Rattle.std.proofs.Common.{◌≡◌, ℕ, if◌then◌else◌, Bool, true, false, List, Some, refl, sym, ap, ◌∙◌}
use Rattle.xp_words.specs.declared.kind.KindWord.{KindWord}
use Rattle.xp_words.specs.declared.kind.PageType.{PageType}
use Rattle.xp_words.specs.declared.place.Place.TheVariants.{Kind}
use Rattle.xp_words.specs.declared.reply.Stop.{Stop}
use Rattle.xp_words.specs.KindWords.{kind_write}
use Rattle.xp_board.specs.Told.{PortValue, is_telling, told_word}
use Rattle.step_maker.specs.Holds.{FlushedSame}
use Rattle.step_maker.specs.Moves.{Came, Met}
use Rattle.step_maker.specs.Answers.{Deed, Serves, Stops}
use Rattle.step_maker.specs.Asked.{of_frame}
use Rattle.step_maker.specs.Reasons.{AwaitsStamp, OfOwner}
use Rattle.step_maker.specs.Twins.{Alike}
use Rattle.step_maker.proofs.Alikes.{alike_trans, alike_store}
use Rattle.kind_words.specs.Kinds.{live_kind, work_kind}
use Rattle.flush_waits.specs.Waiting.{ServesBehind, StopsBehind}
use Rattle.step_maker.proofs.Telling.{came_telling}
use Rattle.frame_types.specs.declared.taking.Taken.{Taken}
use Rattle.frame_types.specs.declared.taking.Taken.TheVariants.{Counted, InWork, Waiting}
use Rattle.frame_types.specs.Plain.{GoesPlainly, TwinOn, set_kind}
use Rattle.frame_types.specs.Taking.{Enters, IsDone, ShowsWait, WaitsWith}
use Rattle.frame_types.proofs.Entering.{entered_after, entered_fields, work_typed}
use Rattle.frame_types.proofs.Finishing.{entered_working}

module _ (v w : PortValue) (f owner : ℕ) (want : PageType) (stamp : ℕ) where
  pub serves_after : ServesBehind v w (OfOwner owner) stamp → (u : PortValue) (ds : List Deed) → Serves u v (of_frame f owner (Some want)) ds →
      AwaitsStamp v.post.machine v.post.vcpu (of_frame f owner (Some want)) (Met u v) (OfOwner owner) stamp → Serves u w (of_frame f owner (Some want)) ds
  unfolding ServesBehind
  serves_after behind u ds before awaits = behind u (of_frame f owner (Some want)) ds before awaits

  pub stops_after : (stop : Stop) → StopsBehind v w (OfOwner owner) stamp stop → (u : PortValue) → Came u v → AwaitsStamp v.post.machine v.post.vcpu (of_frame f owner (Some want)) (Met u v) (OfOwner owner) stamp →
      Stops u w (of_frame f owner (Some want)) stop
  unfolding StopsBehind
  stops_after stop behind u came awaits = behind u (of_frame f owner (Some want)) came awaits

pub done_waits : (v w : PortValue) (f owner : ℕ) (want : PageType) (t : Taken) → IsDone t → ShowsWait v w f owner want t
done_waits v w f owner want Counted done = tt
done_waits v w f owner want (InWork progress own) done = tt
done_waits v w f owner want (Waiting own stamp stop) done = absurd done

pub still_waits : (b v w : PortValue) (f owner : ℕ) (want : PageType) (stamp progress : ℕ) (own : Bool) → Enters b v f owner want true stamp progress own → Came v w → FlushedSame v w → WaitsWith b w f owner want own stamp
still_waits b v w f owner want stamp progress own entered came same =
    let e = entered_after b v w f owner want true stamp progress own entered came same in
    let fields = entered_fields b w f owner want true stamp progress own e in
    record {
      work = e.work;
      works = entered_working b w f owner want true stamp progress own e;
      none = e.recorded ∙ e.none refl;
      settled = e.settled (e.none refl);
      marked = ap (λ (k : KindWord). k.unflushed) fields;
      stamped = ap (λ (k : KindWord). k.number) fields;
      typed = work_typed want true stamp e.spelled;
      whose = e.whose;
    }

-- ---- on a board that tells all words
goes_after : (v a w : PortValue) (f : ℕ) (want : PageType) (marked own : Bool) (recorded : ℕ) (t : Taken) → Alike (told_word a) (told_word v) → GoesPlainly a w f want marked own recorded t → GoesPlainly v w f want marked own recorded t
goes_after v a w f want marked own recorded Counted alike goes =
    let l = live_kind want (if own then 1 else 2) in
    (goes.0, alike_trans (told_word w) (set_kind f l (told_word a)) (set_kind f l (told_word v)) goes.1 (alike_store (kind_write l) (Kind f) (told_word a) (told_word v) alike))
goes_after v a w f want marked own recorded (InWork progress mine) alike goes =
    let l = work_kind want false 0 in
    (goes.0, goes.1, goes.2, alike_trans (told_word w) (set_kind f l (told_word a)) (set_kind f l (told_word v)) goes.3 (alike_store (kind_write l) (Kind f) (told_word a) (told_word v) alike))
goes_after v a w f want marked own recorded (Waiting mine stamp stop) alike goes = (goes.0, goes.1, alike_trans (told_word w) (told_word a) (told_word v) goes.2 alike)

pub plain_after : (v a w : PortValue) (f : ℕ) (want : PageType) (marked own : Bool) (recorded : ℕ) (t : Taken) → Came v a → Alike (told_word a) (told_word v) → is_telling v ≡ true → marked ≡ true → TwinOn a w f want marked own recorded t →
    GoesPlainly v w f want marked own recorded t
plain_after v a w f want marked own recorded t came alike telling on twin =
    goes_after v a w f want marked own recorded t alike (twin (came_telling v a came ∙ telling) (λ off. absurd (let both : true ≡ false = sym on ∙ off in cc)))
