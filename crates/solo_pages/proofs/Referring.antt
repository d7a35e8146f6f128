-- A reference that is taken or given back, on words as on the plain value that describes them.
use Rattle.std.proofs.Common.{◌≡◌, ℕ, ◌<◌, ◌==◌, not, nat_lt, nat_le, if◌then◌else◌, Bool, true, false, Option, Some, None, Ok, Err, refl, sym, ap, subst}
use Rattle.std.proofs.Math.Path.{fun_ext}
use Rattle.xp_words.specs.Machine.{IsMachine, Machine}
use Rattle.xp_words.specs.declared.place.Place.TheVariants.{Kind}
use Rattle.xp_words.specs.declared.reply.Refusal.{Refusal}
use Rattle.xp_words.specs.declared.reply.Stop.TheVariants.{Refused}
use Rattle.xp_board.specs.Told.{PortValue, is_telling, told_word}
use Rattle.step_maker.specs.Plain.{Leaves, Words}
use Rattle.step_maker.proofs.Alikes.{same_alike}
use Rattle.frame_words.specs.Plain.{got, put}
use Rattle.table_law.specs.Alone.{Cause, CountFull, NoFrame, WrongOwner, fine, refused, take_reference, take_reference_of}
use Rattle.table_law.specs.Plain.{Describes, Plain, Share, raised_share, reference_back, with_share}
use Rattle.table_twins.specs.Answers.{IsSameAnswer}
use Rattle.table_twins.proofs.Kinding.{described_alike}
use Rattle.table_twins.proofs.Referring.{same_answer, same_taken}
use Rattle.table_entries.specs.Acquiring.{GaveRef, GotRef}
use Rattle.course_laws.proofs.Frames.{count_at}
use Rattle.course_laws.proofs.Lending.{Lent, fine_there, lent_there, was_room}
use Rattle.exchange_laws.proofs.Given.{given_back}
use Rattle.solo_pages.specs.Shown.{SameBeside}
use Rattle.solo_pages.specs.Ends.{EndsAs}
use Rattle.solo_pages.proofs.Beside.{beside_got, beside_leaves, beside_put}

-- ---- a reference that is refused changes nothing
module _ (n : Machine) (owner g : ℕ) (p : Plain) where
  left_owned : (b k : Bool) (s : Share) (c : Cause) → (if not b then refused (WrongOwner g (Some s)) p else if k then refused (CountFull g s) p else fine (with_share g (raised_share s) p)).refusal ≡ Some c →
      (if not b then refused (WrongOwner g (Some s)) p else if k then refused (CountFull g s) p else fine (with_share g (raised_share s) p)).left ≡ p
  left_owned false k s c is = refl
  left_owned true true s c is = refl
  left_owned true false s c is = absurd cc

  left_of : (o : Option Share) (c : Cause) → (take_reference_of n owner g p o).refusal ≡ Some c → (take_reference_of n owner g p o).left ≡ p
  left_of None c is = refl
  left_of (Some s) c is = left_owned (s.owner == owner) (nat_le n.limit s.count) s c is

  left_by : (b : Bool) (c : Cause) → (if b then take_reference_of n owner g p (p.shares g) else refused (NoFrame g) p).refusal ≡ Some c → (if b then take_reference_of n owner g p (p.shares g) else refused (NoFrame g) p).left ≡ p
  left_by true c is = left_of (p.shares g) c is
  left_by false c is = refl

  pub refused_left : (c : Cause) → (take_reference n owner g p).refusal ≡ Some c → (take_reference n owner g p).left ≡ p
  refused_left c is = left_by (nat_lt g n.frames) c is

-- ---- taken
pub record RefTaken (n : Machine) (v u : PortValue) (owner g : ℕ) (p : Plain) : Type 0 where
  pub lent : Lent n g p (take_reference n owner g p)
  pub free : (take_reference n owner g p).refusal ≡ None
  pub frames : Describes n (told_word u) (take_reference n owner g p).left
  pub room : count_at (told_word v) g < n.limit
  pub kind : told_word u (Kind g) ≡ told_word v (Kind g)
  pub beside : SameBeside (told_word v) (told_word u)

taken_here : (v u : PortValue) (owner g : ℕ) (p : Plain) → IsMachine v.post.machine → is_telling v ≡ true → Describes v.post.machine (told_word v) p → GotRef v u g owner (Ok g) → RefTaken v.post.machine v u owner g p
taken_here v u owner g p machine telling d ref =
    let n = v.post.machine in
    let m = told_word v in
    let a = ref.plain telling in
    let words : told_word u ≡ got g m = fun_ext a.1 in
    record {
      lent = lent_there n m p owner g machine d a.0;
      free = fine_there n m p owner g d a.0;
      frames = subst (λ x. Describes n x (take_reference n owner g p).left) (sym words) (same_taken n m p owner g d machine a.0);
      room = was_room n m p owner g machine d a.0;
      kind = ap (λ (x : Words). x (Kind g)) words;
      beside = beside_leaves m (got g m) u a.1 (beside_got g m);
    }

pub ref_taken : (n : Machine) (v u : PortValue) (owner g : ℕ) (p : Plain) → v.post.machine ≡ n → IsMachine n → is_telling v ≡ true → Describes n (told_word v) p → GotRef v u g owner (Ok g) → RefTaken n v u owner g p
ref_taken n v u owner g p same =
    subst (λ k. IsMachine k → is_telling v ≡ true → Describes k (told_word v) p → GotRef v u g owner (Ok g) → RefTaken k v u owner g p) same (taken_here v u owner g p)

-- ---- or refused
refused_by : (n : Machine) (w : PortValue) (owner g : ℕ) (m : Words) (p : Plain) (y : Refusal) (r : Option Cause) → (take_reference n owner g p).refusal ≡ r → IsSameAnswer (Some y) r → Describes n (told_word w) p →
    EndsAs {A = ℕ} n (told_word w) (take_reference n owner g p) (Err (Refused y))
refused_by n w owner g m p y None is same d = absurd same
refused_by n w owner g m p y (Some c) is same d = (c, is, same, subst (λ q. Describes n (told_word w) q) (sym (refused_left n owner g p c is)) d)

pub record RefRefused (n : Machine) (v w : PortValue) (owner g : ℕ) (p : Plain) (y : Refusal) : Type 0 where
  pub ends : EndsAs {A = ℕ} n (told_word w) (take_reference n owner g p) (Err (Refused y))
  pub same : Leaves w (told_word v)

refused_here : (v w : PortValue) (owner g : ℕ) (p : Plain) (y : Refusal) → is_telling v ≡ true → Describes v.post.machine (told_word v) p → GotRef v w g owner (Err (Refused y)) → RefRefused v.post.machine v w owner g p y
refused_here v w owner g p y telling d ref =
    let n = v.post.machine in
    let m = told_word v in
    let a = ref.plain telling in
    record {
      ends = refused_by n w owner g m p y (take_reference n owner g p).refusal refl (subst (λ o. IsSameAnswer o (take_reference n owner g p).refusal) a.0 (same_answer n m p owner g d))
          (described_alike n (told_word w) m p (same_alike (told_word w) m a.1) d);
      same = a.1;
    }

pub ref_refused : (n : Machine) (v w : PortValue) (owner g : ℕ) (p : Plain) (y : Refusal) → v.post.machine ≡ n → is_telling v ≡ true → Describes n (told_word v) p → GotRef v w g owner (Err (Refused y)) → RefRefused n v w owner g p y
ref_refused n v w owner g p y same =
    subst (λ k. is_telling v ≡ true → Describes k (told_word v) p → GotRef v w g owner (Err (Refused y)) → RefRefused k v w owner g p y) same (refused_here v w owner g p y)

-- ---- given back
pub gave_ref : (n : Machine) (v w : PortValue) (f : ℕ) (p : Plain) → v.post.machine ≡ n → is_telling v ≡ true → Describes n (told_word v) p → GaveRef v w f → Describes n (told_word w) (reference_back f p) × SameBeside (told_word v) (told_word w)
gave_ref n v w f p same telling d gave =
    (given_back n v w f p same telling d gave, beside_leaves (told_word v) (put f (told_word v)) w (gave.plain telling) (beside_put f (told_word v)))
