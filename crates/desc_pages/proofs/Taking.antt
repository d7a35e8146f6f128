-- A frame is taken as a descriptor page under the reference in hand: by its calls, what the steps serve, and why it stops.
use Rattle.std.proofs.Common.{◌≡◌, ℕ, Bool, true, List, [], Some, None, Result, Ok, Err, IfErr, refl, sym, ap, ◌∙◌, subst}
use Rattle.xp_words.specs.Machine.{Machine}
use Rattle.xp_words.specs.declared.kind.PageType.TheVariants.{Desc}
use Rattle.xp_words.specs.declared.reply.Pause.TheVariants as pauses
use Rattle.xp_words.specs.declared.reply.Refusal.TheVariants as refusals
use Rattle.xp_words.specs.declared.reply.Stop.{Stop}
use Rattle.xp_words.specs.declared.reply.Stop.TheVariants.{Refused, Paused}
use Rattle.xp_board.specs.Hands.{work_on}
use Rattle.xp_board.specs.Lists.{first_by}
use Rattle.xp_board.specs.Told.{PortValue, is_telling, told_word}
use Rattle.xp_board.proofs.Sums.{when_eq}
use Rattle.step_maker.specs.Holds.{FlushedHolds, Holds, Same, quiet}
use Rattle.step_maker.specs.Moves.{Came, Met}
use Rattle.step_maker.specs.Plain.{Leaves}
use Rattle.step_maker.proofs.Coming.{came_trans}
use Rattle.step_maker.specs.Answers.{Deed, Serves, Stops, missed, misses}
use Rattle.step_maker.specs.Asked.{Within, named, of_back, of_frame}
use Rattle.step_maker.proofs.Piecing.{serves_came, serves_within, stops_before, stops_within, within_frame}
use Rattle.flush_waits.specs.Waiting.{IsWait}
use Rattle.flush_waits.proofs.Shared.{wait_missed as none_missed}
use Rattle.frame_words.specs.Freeing.{Puts, gave}
use Rattle.frame_words.specs.Plain.{put}
use Rattle.frame_types.specs.Found.{TakesFound}
use Rattle.frame_types.specs.Leaving.{WaitsFrom}
use Rattle.frame_types.specs.Plain.{TwinTake}
use Rattle.frame_types.specs.Taking.{IsTypeStop, LentBy, ShowsWait, WaitsWith, WorksFrom, typed_as}
use Rattle.frame_types.specs.declared.taking.Taken.{Taken}
use Rattle.frame_types.specs.declared.taking.Taken.TheVariants.{Counted, InWork, Waiting}
use Rattle.frame_types.proofs.Serving.{back_serves}
use Rattle.desc_pages.proofs.Short.{took_short}
use Rattle.desc_pages.specs.Pages.{IsTakenStop, LeavesWaiting, PageValidated, TakenFrom, TakesDesc, TookDescType, Validates, counted, fixed, of_desc, read, unfixed, untyped, waiting}

-- no frame is in the own works
pub no_work_on : (v : PortValue) (f : ℕ) → v.holdings.works ≡ [] → work_on f v.holdings.works ≡ None
unfolding first_by
no_work_on v f none = ap (λ ws. work_on f ws) none

-- ---- requests
module _ (v w : PortValue) (f owner : ℕ) where
  desc_within : Within v.post.machine v.post.vcpu (of_frame f owner (Some Desc)) (Met v w) (of_desc f owner) (Met v w)
  desc_within = within_frame v.post.machine v.post.vcpu f owner (Some Desc) (of_desc f owner) (Met v w) (Met v w) (λ m x. x) (named (when_eq f f refl) refl refl)

  pub desc_serves : (ds : List Deed) → Serves v w (of_frame f owner (Some Desc)) ds → Serves v w (of_desc f owner) ds
  desc_serves ds a = serves_within v w (of_frame f owner (Some Desc)) (of_desc f owner) ds desc_within a

  pub desc_stops : (e : Stop) → Stops v w (of_frame f owner (Some Desc)) e → Stops v w (of_desc f owner) e
  desc_stops e a = stops_within v w (of_frame f owner (Some Desc)) (of_desc f owner) e desc_within a

pub type_kind : (e : Stop) → IsTypeStop e → IsTakenStop e
type_kind (Refused (refusals.OtherType f want x)) is = tt
type_kind (Refused (refusals.Clock x)) is = tt
type_kind (Paused (pauses.Lost place e x)) is = tt
type_kind (Paused (pauses.Busy f x)) is = tt
type_kind (Paused (pauses.Flush v stamp x)) is = tt
type_kind _ is = absurd is

wait_kind : (e : Stop) → IsWait e → IsTakenStop e
wait_kind (Refused (refusals.Clock x)) is = tt
wait_kind (Paused (pauses.Flush v stamp x)) is = tt
wait_kind _ is = absurd is

-- ---- the type is not to be had
pub untyped_takes : (v u w : PortValue) (f owner : ℕ) (e : Stop) → Serves v u (of_frame f owner (Some Desc)) (missed v.post.machine e) → Stops v u (of_frame f owner (Some Desc)) e → IsTypeStop e → Same v u →
    TakesFound v u f owner Desc (Err e) → TwinTake v u f Desc (Err e) → Serves u w (of_back f) [] → Puts u w f → Holds u w (gave f u.holdings) → (is_telling u ≡ true → Leaves w (put f (told_word u))) → TakesDesc v w f owner (Err e)
untyped_takes v u w f owner e serves stops kind same found twin back puts hand leaves =
    let after = serves_came u w (of_back f) [] back in
    let course = untyped u w e (record { found = found; plain = twin }) (record { found = puts; plain = leaves }) in
    record {
      came = came_trans v u w (serves_came v u (of_frame f owner (Some Desc)) (missed v.post.machine e) serves) after;
      serves = desc_serves v w f owner (missed v.post.machine e) (back_serves v u w f owner Desc (missed v.post.machine e) serves back);
      stops = desc_stops v w f owner e (stops_before v u w (of_frame f owner (Some Desc)) e stops after);
      kinds = type_kind e kind;
      hand = ap quiet hand ∙ ap (λ (q : PortValue). quiet (record q { holdings = gave f q.holdings })) same;
      course = course;
      short = took_short v w f owner (Err e) course;
    }

-- ---- its words are read
no_deeds : (n : Machine) {u w : PortValue} {f : ℕ} {answer : Result (Unit {0}) Stop} → PageValidated u w f answer → misses n answer ≡ []
no_deeds n (unfixed z e i word low so died) = refl
no_deeds n (fixed z e old so store) = refl

read_kind : {u w : PortValue} {f : ℕ} {answer : Result (Unit {0}) Stop} → PageValidated u w f answer → IfErr answer IsTakenStop
read_kind (unfixed z e i word low so died) = tt
read_kind (fixed z e old so store) = tt

stops_there : (v u w : PortValue) (f owner : ℕ) (answer : Result (Unit {0}) Stop) → Came v u → IfErr answer (λ e. (b : PortValue) → Came b u → Stops b w (of_desc f owner) e) → IfErr answer (λ e. Stops v w (of_desc f owner) e)
stops_there v u w f owner (Ok done) came a = tt
stops_there v u w f owner (Err e) came a = a v came

pub taken_from : (v u : PortValue) (f owner progress : ℕ) (own : Bool) → WorksFrom v u f owner Desc progress own → v.holdings.works ≡ [] → v.holdings.locks ≡ [] → v.holdings.claimed ≡ [] → TakenFrom v u f owner
taken_from v u f owner progress own works none locks claimed =
    record {
      works = subst (λ b. WorksFrom v u f owner Desc 0 b) works.whose (subst (λ p. WorksFrom v u f owner Desc p own) (works.bare refl) works);
      none = none;
      locks = locks;
      claimed = claimed;
    }

-- ---- how it is taken
module _ (v u : PortValue) (f owner : ℕ) {t : Taken} (serves : Serves v u (of_frame f owner (Some Desc)) []) (found : TakesFound v u f owner Desc (Ok t)) (twin : TwinTake v u f Desc (Ok t)) where
  type_by : (s : Taken) → t ≡ s → TookDescType v u f owner (Ok s)
  type_by s is = subst (λ y. TookDescType v u f owner (Ok y)) is (record { found = found; plain = twin })

  pub counted_takes : t ≡ Counted → FlushedHolds v u (typed_as f owner Desc v.holdings) → TakesDesc v u f owner (Ok tt)
  counted_takes is hand =
      record {
        came = serves_came v u (of_frame f owner (Some Desc)) [] serves;
        serves = desc_serves v u f owner [] serves;
        stops = tt;
        kinds = tt;
        hand = hand;
        course = counted u (type_by Counted is);
        short = took_short v u f owner (Ok tt) (counted u (type_by Counted is));
      }

  -- it waits
  pub waiting_takes : (w : PortValue) (own : Bool) (stamp : ℕ) (stop : Stop) → t ≡ Waiting own stamp stop → LentBy f owner v.holdings → WaitsWith v u f owner Desc own stamp → ShowsWait v u f owner Desc (Waiting own stamp stop) →
      LeavesWaiting u w f owner stamp stop → TakesDesc v w f owner (Err stop)
  waiting_takes w own stamp stop is lent waits shows leaves =
      let mine : own ≡ true = waits.whose in
      let course = waiting u w stamp stop (type_by (Waiting true stamp stop) (is ∙ ap (λ b. Waiting b stamp stop) mine)) leaves.course in
      let from : WaitsFrom v u f owner Desc true stamp = record { waits = subst (λ b. WaitsWith v u f owner Desc b stamp) mine waits; lent = lent } in
      record {
        came = came_trans v u w (serves_came v u (of_frame f owner (Some Desc)) [] serves) leaves.came;
        serves = subst (λ ds. Serves v w (of_desc f owner) ds) (sym (none_missed v.post.machine stop shows.0)) (desc_serves v w f owner [] (leaves.serves v [] serves));
        stops = desc_stops v w f owner stop (stops_before v u w (of_frame f owner (Some Desc)) stop shows.1 leaves.came);
        kinds = wait_kind stop shows.0;
        hand = leaves.hand v from;
        course = course;
        short = took_short v w f owner (Err stop) course;
      }

  pub read_takes : (w : PortValue) (progress : ℕ) (own : Bool) (answer : Result (Unit {0}) Stop) → t ≡ InWork progress own → WorksFrom v u f owner Desc progress own → v.holdings.works ≡ [] → v.holdings.locks ≡ [] → v.holdings.claimed ≡ [] →
      ((b : PortValue) (o : ℕ) → TakenFrom b u f o → Validates b u w f o answer) → TakesDesc v w f owner answer
  read_takes w progress own answer is works none locks claimed validates =
      let a = validates v owner (taken_from v u f owner progress own works none locks claimed) in
      let course = read u w answer (type_by (InWork 0 true) (is ∙ ap (λ p. InWork p own) (works.bare refl) ∙ ap (λ b. InWork 0 b) works.whose)) a.course in
      record {
        came = came_trans v u w (serves_came v u (of_frame f owner (Some Desc)) [] serves) a.came;
        serves = subst (λ ds. Serves v w (of_desc f owner) ds) (sym (no_deeds v.post.machine a.course)) (a.serves v [] (desc_serves v u f owner [] serves));
        stops = stops_there v u w f owner answer (serves_came v u (of_frame f owner (Some Desc)) [] serves) a.stops;
        kinds = read_kind a.course;
        hand = a.hand;
        course = course;
        short = took_short v w f owner answer course;
      }
