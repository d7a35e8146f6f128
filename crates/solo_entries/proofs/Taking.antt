-- A reference to a frame, or the frame as ordinary memory, is taken or refused as by any plain value that describes the words, which are at rest.
use Rattle.std.proofs.Common.{◌≡◌, ℕ, ◌<◌, not, nat_lt, nat_le, if◌then◌else◌, ◌==◌, Bool, true, false, [], Option, Some, None, Ok, Err, refl, sym, ap, ◌∙◌, subst, Result}
use Rattle.xp_words.specs.Machine.{IsMachine, Machine}
use Rattle.xp_words.specs.declared.place.Place.TheVariants.{Kind, Refs}
use Rattle.xp_words.specs.declared.reply.Refusal.{Refusal}
use Rattle.xp_words.specs.declared.reply.Refusal.TheVariants as refusals
use Rattle.xp_words.specs.declared.reply.Stop.{Stop}
use Rattle.xp_words.specs.declared.reply.Stop.TheVariants.{Refused, Paused}
use Rattle.xp_board.specs.Told.{Post, PortValue, is_telling, told_word}
use Rattle.step_maker.specs.Moves.{Came}
use Rattle.step_maker.specs.Plain.{Leaves, Words}
use Rattle.step_maker.proofs.Coming.{came_post, came_trans}
use Rattle.step_maker.proofs.Telling.{came_telling}
use Rattle.step_maker.proofs.Alikes.{same_alike}
use Rattle.step_maker.proofs.Visiting.{does_came}
use Rattle.frame_words.specs.Plain.{got, refer}
use Rattle.frame_types.specs.Plain.{type_stop}
use Rattle.frame_types.specs.declared.taking.Taken.TheVariants as types
use Rattle.partial_state.specs.Levels.{level_type}
use Rattle.table_law.specs.Alone.{Cause, CountFull, NoFrame, PlainOutcome, WrongOwner, alone, fine, go_on, refused, take_at, take_reference, take_reference_of}
use Rattle.table_law.specs.Lawful.{IsAtRest}
use Rattle.table_law.specs.Plain.{Describes, Plain, Share, raised_share, reference_back, with_share}
use Rattle.table_twins.specs.Answers.{IsCause, IsSameAnswer}
use Rattle.table_twins.specs.Types.{IsReady}
use Rattle.table_twins.proofs.Kinding.{described_alike}
use Rattle.table_twins.proofs.Referring.{same_answer, same_taken}
use Rattle.table_twins.proofs.Typing.{refused_plain, taken_plain}
use Rattle.table_entries.specs.Acquiring.{GaveRef, GotRef, TookType}
use Rattle.course_laws.specs.Courses.{IsFinal, IsOrderly}
use Rattle.course_laws.proofs.Calling.{IsDone}
use Rattle.course_laws.proofs.Frames.{count_at, frame_ready}
use Rattle.course_laws.proofs.Lending.{fine_there, lent_there, was_room}
use Rattle.course_laws.proofs.Starting.{rest_frames}
use Rattle.exchange_laws.proofs.Given.{given_back}
use Rattle.flush_waits.specs.Waiting.{IsWait}
use Rattle.writable_pages.specs.Pages as pages
use Rattle.writable_pages.specs.Pages.{TookPage}

-- ---- what is taken, or refused at once
-- refused, for the cause of a plain refusal; and the words are those that this leaves
pub record IsRefusedNow (n : Machine) (w : PortValue) (y : Refusal) (a : PlainOutcome) : Type 0 where
  pub cause : Cause
  pub is : a.refusal ≡ Some cause
  pub same : IsCause y cause
  pub describes : Describes n (told_word w) a.left

abbrev pub EndsSo : {A : Type 0} → Machine → PortValue → PlainOutcome → Result A Stop → Type 0
EndsSo n w a (Ok done) = (a.refusal ≡ None) × Describes n (told_word w) a.left
EndsSo n w a (Err (Refused y)) = IsRefusedNow n w y a
EndsSo n w a (Err (Paused x)) = ⊥

-- done, or refused, and that not for the clock
abbrev pub IsEnded : {A : Type 0} → Result A Stop → Type 0
IsEnded (Ok done) = Unit {0}
IsEnded (Err e) = IsFinal e

-- ---- a reference that is refused changes nothing
module _ (n : Machine) (owner g : ℕ) (p : Plain) where
  left_owned : (b k : Bool) (s : Share) (c : Cause) → (if not b then refused (WrongOwner g (Some s)) p else if k then refused (CountFull g s) p else fine (with_share g (raised_share s) p)).refusal ≡ Some c →
      (if not b then refused (WrongOwner g (Some s)) p else if k then refused (CountFull g s) p else fine (with_share g (raised_share s) p)).left ≡ p
  left_owned false k s c is = refl
  left_owned true true s c is = refl
  left_owned true false s c is = absurd cc

  left_of : (o : Option Share) (c : Cause) → (take_reference_of n owner g p o).refusal ≡ Some c → (take_reference_of n owner g p o).left ≡ p
  left_of None c is = refl
  left_of (Some s) c is = left_owned (s.owner == owner) (nat_le n.limit s.count) s c is

  left_by : (b : Bool) (c : Cause) → (if b then take_reference_of n owner g p (p.shares g) else refused (NoFrame g) p).refusal ≡ Some c → (if b then take_reference_of n owner g p (p.shares g) else refused (NoFrame g) p).left ≡ p
  left_by true c is = left_of (p.shares g) c is
  left_by false c is = refl

  pub refused_left : (c : Cause) → (take_reference n owner g p).refusal ≡ Some c → (take_reference n owner g p).left ≡ p
  refused_left c is = left_by (nat_lt g n.frames) c is

-- ---- from words at rest, which any plain value describes
module _ (v : PortValue) (owner : ℕ) (p : Plain) (machine : IsMachine v.post.machine) (telling : is_telling v ≡ true) (calm : IsAtRest v.post.machine (told_word v)) (orderly : IsOrderly v.post.machine (told_word v)) (d : Describes v.post.machine (told_word v) p) where
  abbrev n : Machine
  n = v.post.machine

  abbrev m : Words
  m = told_word v

  -- a reference to a frame
  module _ (g : ℕ) where
    abbrev takes : PlainOutcome
    takes = take_reference v.post.machine owner g p

    refused_by : (w : PortValue) (y : Refusal) (r : Option Cause) → takes.refusal ≡ r → IsSameAnswer (Some y) r → Leaves w (told_word v) → IsRefusedNow n w y takes
    refused_by w y None is same leaves = absurd same
    refused_by w y (Some c) is same leaves =
        record { cause = c; is = is; same = same; describes = subst (λ q. Describes n (told_word w) q) (sym (refused_left n owner g p c is)) (described_alike n (told_word w) m p (same_alike (told_word w) m leaves) d) }

    pub unreferred : (w : PortValue) (y : Refusal) → GotRef v w g owner (Err (Refused y)) → IsRefusedNow v.post.machine w y (take_reference v.post.machine owner g p)
    unreferred w y ref =
        let a = ref.plain telling in
        refused_by w y takes.refusal refl (subst (λ o. IsSameAnswer o takes.refusal) a.0 (same_answer n m p owner g d)) a.1

    -- and with it whatever is taken behind it
    pub untaken : (l : ℕ) (w : PortValue) (y : Refusal) → GotRef v w g owner (Err (Refused y)) → IsRefusedNow v.post.machine w y (alone v.post.machine owner l g p)
    untaken l w y ref =
        let a = unreferred w y ref in
        let is : alone n owner l g p ≡ refused a.cause takes.left = ap (λ r. go_on r takes.left (take_at l n owner g)) a.is in
        record { cause = a.cause; is = ap (λ (o : PlainOutcome). o.refusal) is; same = a.same; describes = subst (λ (o : PlainOutcome). Describes n (told_word w) o.left) (sym is) a.describes }

    -- taken: at u the words are those with the reference
    module _ (u : PortValue) (none : refer v.post.machine owner g (told_word v (Refs g)) ≡ None) (words : Leaves u (got g (told_word v))) (came : Came v u) where
      telling_there : is_telling u ≡ true
      telling_there = came_telling v u came ∙ telling

      pub free : (take_reference v.post.machine owner g p).refusal ≡ None
      free = fine_there n m p owner g d none

      pub got_it : Describes v.post.machine (told_word u) (take_reference v.post.machine owner g p).left
      got_it = described_alike n (told_word u) (got g m) takes.left (same_alike (told_word u) (got g m) words) (same_taken n m p owner g d machine none)

      pub inside : g < v.post.machine.frames
      inside = (lent_there n m p owner g machine d none).inside

      kind_same : told_word u (Kind g) ≡ m (Kind g)
      kind_same = words (Kind g)

      ready : type_stop g (level_type 0) (told_word u (Kind g)) ≡ None → IsReady n (level_type 0) (told_word u (Kind g))
      ready go =
          let stop : type_stop g (level_type 0) (m (Kind g)) ≡ None = sym (ap (type_stop g (level_type 0)) kind_same) ∙ go in
          subst (IsReady n (level_type 0)) (sym kind_same) (frame_ready g 0 (m (Kind g)) (count_at m g) [] tt stop n (was_room n m p owner g machine d none) (rest_frames n m calm orderly g inside))

      -- with its type behind it
      behind : (o : PlainOutcome) → take_at 0 n owner g takes.left ≡ o → alone n owner 0 g p ≡ o
      behind o is = ap (λ r. go_on r takes.left (take_at 0 n owner g)) free ∙ is

      counted_page : (w : PortValue) → TookType u w g owner 0 (Ok types.Counted) → IsDone v.post.machine w (alone v.post.machine owner 0 g p)
      counted_page w type =
          let a = type.plain telling_there in
          let t = taken_plain n (told_word u) (told_word w) takes.left 0 owner g types.Counted machine got_it inside (ready a.0) a.0 a.1 a.2 in
          let is = behind (fine t.left) t.takes in
          record { none = ap (λ (o : PlainOutcome). o.refusal) is; describes = subst (λ (o : PlainOutcome). Describes n (told_word w) o.left) (sym is) t.describes }

      untyped_page : (x w : PortValue) (y : Refusal) → TookType u x g owner 0 (Err (Refused y)) → GaveRef x w g → IsRefusedNow v.post.machine w y (alone v.post.machine owner 0 g p)
      untyped_page x w y type back =
          let a = type.plain telling_there in
          let t = refused_plain n (told_word u) takes.left 0 owner g y got_it inside a.0 in
          let is = behind (refused t.cause (reference_back g takes.left)) t.takes in
          let on = came_trans v u x came (does_came u x _ type.found) in
          let at_x = described_alike n (told_word x) (told_word u) takes.left (same_alike (told_word x) (told_word u) a.1) got_it in
          let left = given_back n x w g takes.left (ap (λ (q : Post). q.machine) (came_post v x on)) (came_telling v x on ∙ telling) at_x back in
          record { cause = t.cause; is = ap (λ (o : PlainOutcome). o.refusal) is; same = t.same; describes = subst (λ (o : PlainOutcome). Describes n (told_word w) o.left) (sym is) left }

      -- ---- ordinary memory
      stopped_page : (x w : PortValue) (e : Stop) → IsFinal e → TookType u x g owner 0 (Err e) → GaveRef x w g → EndsSo {A = Unit {0}} v.post.machine w (alone v.post.machine owner 0 g p) (Err e)
      stopped_page x w (Refused y) final type back = untyped_page x w y type back
      stopped_page x w (Paused y) final type back = absurd final

      never_waits : (w : PortValue) (e : Stop) → IsFinal e → IsWait e → EndsSo {A = Unit {0}} v.post.machine w (alone v.post.machine owner 0 g p) (Err e)
      never_waits w (Refused (refusals.Clock x)) final wait = absurd final
      never_waits w (Refused _) final wait = absurd wait
      never_waits w (Paused x) final wait = absurd final

      pub page_ends : (w : PortValue) (r : Result (Unit {0}) Stop) → TookPage u g owner w r → IsEnded r → EndsSo v.post.machine w (alone v.post.machine owner 0 g p) r
      page_ends _ _ (pages.counted w type) ended = let a = counted_page w type in (a.none, a.describes)
      page_ends _ _ (pages.untyped x w stop type back) ended = stopped_page x w stop ended type back
      page_ends _ _ (pages.waiting x w own stamp stop type left) ended = never_waits w stop ended type.waits.0
