-- What the new word asks is taken, or refused, as by the plain value of the words, which are at rest.
use Rattle.std.proofs.Common.{◌≡◌, ℕ, ◌<◌, ◌≤◌, not, nat_lt, nat_le, if◌then◌else◌, ◌==◌, Bool, true, false, [], Option, Some, None, Ok, Err, refl, sym, ap, ◌∙◌, subst, arith, ◌⊎◌, inl, inr}
use Rattle.std.proofs.Math.Path.{fun_ext}
use Rattle.xp_words.specs.Machine.{IsMachine, Machine}
use Rattle.xp_words.specs.declared.place.Place.TheVariants.{Kind, Refs}
use Rattle.xp_words.specs.declared.reply.Refusal.{Refusal}
use Rattle.xp_words.specs.declared.reply.Refusal.TheVariants as refusals
use Rattle.xp_words.specs.declared.reply.Stop.{Stop}
use Rattle.xp_words.specs.declared.reply.Stop.TheVariants.{Refused, Paused}
use Rattle.xp_board.specs.Told.{Post, PortValue, is_telling, told_word}
use Rattle.step_maker.specs.Moves.{Came}
use Rattle.step_maker.specs.Plain.{Leaves, Words}
use Rattle.step_maker.proofs.Coming.{came_post, came_trans}
use Rattle.step_maker.proofs.Telling.{came_telling}
use Rattle.step_maker.proofs.Alikes.{same_alike}
use Rattle.step_maker.proofs.Visiting.{does_came}
use Rattle.frame_words.specs.Plain.{got, refer}
use Rattle.frame_types.specs.Plain.{type_stop}
use Rattle.frame_types.specs.declared.taking.Taken.TheVariants as types
use Rattle.partial_state.specs.Levels.{level_type}
use Rattle.table_law.specs.Alone.{Cause, CountFull, NoFrame, PlainOutcome, WrongOwner, alone, fine, go_on, refused, take_at, take_reference, take_reference_of}
use Rattle.table_law.specs.Lawful.{IsAtRest}
use Rattle.table_law.specs.Plain.{Describes, Plain, Share, plain_of, raised_share, reference_back, with_share}
use Rattle.table_twins.specs.Answers.{IsCause, IsSameAnswer}
use Rattle.table_twins.specs.Types.{IsReady}
use Rattle.table_twins.proofs.Kinding.{described_alike}
use Rattle.table_twins.proofs.Referring.{same_answer, same_taken}
use Rattle.table_twins.proofs.Typing.{refused_plain, taken_plain}
use Rattle.table_entries.specs.Acquiring.{GaveRef, GotRef, TookType}
use Rattle.course_laws.specs.Courses.{IsFinal, IsOrderly}
use Rattle.course_laws.proofs.Calling.{IsDone}
use Rattle.course_laws.proofs.Frames.{count_at, frame_ready}
use Rattle.course_laws.proofs.Lending.{fine_there, lent_there, was_room}
use Rattle.course_laws.proofs.Deciding.{RefusesAs}
use Rattle.course_laws.proofs.Starting.{described, rest_frames}
use Rattle.exchange_laws.specs.Plain.{ExchangesAsPlain, IsRefusedFor}
use Rattle.exchange_laws.proofs.Given.{given_back}

-- ---- what a refusal comes to
stopped_by : (n : Machine) (w : PortValue) (level : ℕ) (a : PlainOutcome) (y : Refusal) → IsRefusedFor y a.refusal → (level ≡ 1 → Describes n (told_word w) a.left) → ExchangesAsPlain n w level a (Err (Refused y))
stopped_by n w level a (refusals.Clock x) refuses left = tt
stopped_by n w level a _ refuses left = (refuses, left)

pub stopped_with : (n : Machine) (w : PortValue) (level : ℕ) (a : PlainOutcome) (y : Refusal) (c : Cause) → a.refusal ≡ Some c → IsCause y c → Describes n (told_word w) a.left → ExchangesAsPlain n w level a (Err (Refused y))
stopped_with n w level a y c is same d = stopped_by n w level a y (subst (λ r. IsRefusedFor y r) (sym is) same) (λ one. d)

-- above level 1 nothing is said of the words
for_clock_or_not : (y : Refusal) → ((x : ℕ) × (y ≡ refusals.Clock x)) ⊎ IsFinal (Refused y)
for_clock_or_not (refusals.Clock x) = inl (x, refl)
for_clock_or_not _ = inr tt

pub stopped_above : (n : Machine) (w : PortValue) (level : ℕ) (a : PlainOutcome) (e : Stop) → 2 ≤ level → (IsFinal e → RefusesAs a e) → ExchangesAsPlain n w level a (Err e)
stopped_above n w level a (Refused y) above refuses =
    elim (for_clock_or_not y) [
      | inl clock ↦ subst (λ z. ExchangesAsPlain n w level a (Err (Refused z))) (sym clock.1) tt
      | inr final ↦ let r = refuses final in stopped_by n w level a y (subst (λ o. IsRefusedFor y o) (sym r.is) r.same) (λ one. absurd (omega (arith, one, above)))
    ]
stopped_above n w level a (Paused x) above refuses = tt

-- ---- a reference that is refused changes nothing
module _ (n : Machine) (owner g : ℕ) (p : Plain) where
  left_owned : (b k : Bool) (s : Share) (c : Cause) → (if not b then refused (WrongOwner g (Some s)) p else if k then refused (CountFull g s) p else fine (with_share g (raised_share s) p)).refusal ≡ Some c →
      (if not b then refused (WrongOwner g (Some s)) p else if k then refused (CountFull g s) p else fine (with_share g (raised_share s) p)).left ≡ p
  left_owned false k s c is = refl
  left_owned true true s c is = refl
  left_owned true false s c is = absurd cc

  left_of : (o : Option Share) (c : Cause) → (take_reference_of n owner g p o).refusal ≡ Some c → (take_reference_of n owner g p o).left ≡ p
  left_of None c is = refl
  left_of (Some s) c is = left_owned (s.owner == owner) (nat_le n.limit s.count) s c is

  left_by : (b : Bool) (c : Cause) → (if b then take_reference_of n owner g p (p.shares g) else refused (NoFrame g) p).refusal ≡ Some c → (if b then take_reference_of n owner g p (p.shares g) else refused (NoFrame g) p).left ≡ p
  left_by true c is = left_of (p.shares g) c is
  left_by false c is = refl

  refused_left : (c : Cause) → (take_reference n owner g p).refusal ≡ Some c → (take_reference n owner g p).left ≡ p
  refused_left c is = left_by (nat_lt g n.frames) c is

-- ---- from words at rest
module _ (v : PortValue) (owner : ℕ) (machine : IsMachine v.post.machine) (telling : is_telling v ≡ true) (calm : IsAtRest v.post.machine (told_word v)) (orderly : IsOrderly v.post.machine (told_word v)) where
  abbrev n : Machine
  n = v.post.machine

  abbrev m : Words
  m = told_word v

  abbrev p : Plain
  p = plain_of (told_word v)

  -- a reference to a frame
  module _ (g : ℕ) where
    abbrev takes : PlainOutcome
    takes = take_reference v.post.machine owner g (plain_of (told_word v))

    -- refused, for that cause; and so is what would be taken behind it
    pub record IsUnreferred (w : PortValue) (y : Refusal) : Type 0 where
      pub cause : Cause
      pub is : takes.refusal ≡ Some cause
      pub same : IsCause y cause
      pub describes : Describes v.post.machine (told_word w) takes.left

    unreferred_by : (w : PortValue) (y : Refusal) (r : Option Cause) → takes.refusal ≡ r → IsSameAnswer (Some y) r → Leaves w (told_word v) → IsUnreferred w y
    unreferred_by w y None is same leaves = absurd same
    unreferred_by w y (Some c) is same leaves =
        record { cause = c; is = is; same = same; describes = subst (λ q. Describes n (told_word w) q) (sym (refused_left n owner g p c is)) (described_alike n (told_word w) m p (same_alike (told_word w) m leaves) (described n m)) }

    pub unreferred : (w : PortValue) (y : Refusal) → GotRef v w g owner (Err (Refused y)) → IsUnreferred w y
    unreferred w y ref =
        let a = ref.plain telling in
        unreferred_by w y takes.refusal refl (subst (λ o. IsSameAnswer o takes.refusal) a.0 (same_answer n m p owner g (described n m))) a.1

    -- taken
    module _ (u : PortValue) (ref : GotRef v u g owner (Ok g)) where
      none : refer n owner g (m (Refs g)) ≡ None
      none = (ref.plain telling).0

      words : told_word u ≡ got g m
      words = fun_ext (ref.plain telling).1

      came : Came v u
      came = does_came v u _ ref.found

      telling_there : is_telling u ≡ true
      telling_there = came_telling v u came ∙ telling

      pub free : takes.refusal ≡ None
      free = fine_there n m p owner g (described n m) none

      pub got_it : Describes v.post.machine (told_word u) takes.left
      got_it = subst (λ x. Describes n x takes.left) (sym words) (same_taken n m p owner g (described n m) machine none)

      inside : g < n.frames
      inside = (lent_there n m p owner g machine (described n m) none).inside

      kind_same : told_word u (Kind g) ≡ m (Kind g)
      kind_same = ap (λ (x : Words). x (Kind g)) words

      ready : type_stop g (level_type 0) (told_word u (Kind g)) ≡ None → IsReady n (level_type 0) (told_word u (Kind g))
      ready go =
          let stop : type_stop g (level_type 0) (m (Kind g)) ≡ None = sym (ap (type_stop g (level_type 0)) kind_same) ∙ go in
          subst (IsReady n (level_type 0)) (sym kind_same) (frame_ready g 0 (m (Kind g)) (count_at m g) [] tt stop n (was_room n m p owner g machine (described n m) none) (rest_frames n m calm orderly g inside))

      -- with its type behind it
      behind : (o : PlainOutcome) → take_at 0 n owner g takes.left ≡ o → alone n owner 0 g p ≡ o
      behind o is = ap (λ r. go_on r takes.left (take_at 0 n owner g)) free ∙ is

      pub counted_page : (w : PortValue) → TookType u w g owner 0 (Ok types.Counted) → IsDone v.post.machine w (alone v.post.machine owner 0 g (plain_of (told_word v)))
      counted_page w type =
          let a = type.plain telling_there in
          let t = taken_plain n (told_word u) (told_word w) takes.left 0 owner g types.Counted machine got_it inside (ready a.0) a.0 a.1 a.2 in
          let is = behind (fine t.left) t.takes in
          record { none = ap (λ (o : PlainOutcome). o.refusal) is; describes = subst (λ (o : PlainOutcome). Describes n (told_word w) o.left) (sym is) t.describes }

      pub untyped_page : (x w : PortValue) (y : Refusal) → TookType u x g owner 0 (Err (Refused y)) → GaveRef x w g → (level : ℕ) → ExchangesAsPlain v.post.machine w level (alone v.post.machine owner 0 g (plain_of (told_word v))) (Err (Refused y))
      untyped_page x w y type back level =
          let a = type.plain telling_there in
          let t = refused_plain n (told_word u) takes.left 0 owner g y got_it inside a.0 in
          let is = behind (refused t.cause (reference_back g takes.left)) t.takes in
          let on = came_trans v u x came (does_came u x _ type.found) in
          let at_x = described_alike n (told_word x) (told_word u) takes.left (same_alike (told_word x) (told_word u) a.1) got_it in
          let left = given_back n x w g takes.left (ap (λ (q : Post). q.machine) (came_post v x on)) (came_telling v x on ∙ telling) at_x back in
          stopped_with n w level (alone n owner 0 g p) y t.cause (ap (λ (o : PlainOutcome). o.refusal) is) t.same (subst (λ (o : PlainOutcome). Describes n (told_word w) o.left) (sym is) left)
