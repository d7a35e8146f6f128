-- Frames that one vCPU alone gives back: as the plain ones.
use Rattle.std.proofs.Common.{◌≡◌, ℕ, zero, suc, ◌+◌, ◌<◌, ◌≤◌, ◌==◌, not, nat_lt, if◌then◌else◌, Bool, true, false, [], Option, Some, None, refl, sym, ap, ◌∙◌, subst, inl, inr, arith}
use Rattle.std.proofs.lemmas.Bool.{cases_eq}
use Rattle.std.proofs.lemmas.Bool.Decides.{nat_tests}
use Rattle.xp_words.specs.Machine.{Machine}
use Rattle.xp_words.specs.RefWords.{IsRef, ref_read}
use Rattle.xp_words.specs.declared.place.Place.TheVariants.{M2p, Refs, Vcpu}
use Rattle.xp_words.specs.declared.refs.RefWord.{RefWord}
use Rattle.xp_words.specs.declared.refs.RefWord.TheVariants.{Dying, Free, Owned}
use Rattle.xp_words.specs.declared.reply.Refusal.{Refusal}
use Rattle.xp_words.specs.declared.reply.Refusal.TheVariants as refusals
use Rattle.xp_words.proofs.RefLaws.{ref_read-write, ref_write-read}
use Rattle.xp_board.specs.Acts.{left_by}
use Rattle.xp_board.specs.Readings.{owner_of, ref_count}
use Rattle.xp_board.specs.RefSteps.{owner_number}
use Rattle.xp_board.specs.declared.step.Act.TheVariants.{Store}
use Rattle.xp_board.proofs.RefWords.{read_small}
use Rattle.step_maker.specs.Plain.{Words, change}
use Rattle.frame_words.specs.Plain.{lowered, set_free}
use Rattle.reservations.specs.Returning.{all_returned, cleared, cleared_in, is_own_allocated, next_refusal, number_at, return_refusal, returned}
use Rattle.table_law.specs.Alone as causes
use Rattle.table_law.specs.Plain.{Describes, Plain, Share, reference_back, share_in, share_of, with_share}
use Rattle.table_law.proofs.Counting.{at_here}
use Rattle.table_twins.specs.Answers.{IsCause}
use Rattle.table_twins.proofs.Sharing.{same_back, shared}
use Rattle.script_law.specs.Memory.{is_allocated_to, return_frame, return_frames, unmarked}
use Rattle.script_law.specs.Values.{Frames, Outcome, Solo, Why, did, next_behind, stopped, then_do, with_frames}
use Rattle.solo_ports.proofs.Staying.{put_word}
use Rattle.solo_memory.specs.Extents.{return_rest}

-- ---- one frame
own_is : (d : ℕ) (r : Option RefWord) → is_allocated_to d (share_in r) ≡ is_own_allocated d r
own_is d (Some (Owned owner allocated count)) = refl
own_is d (Some (Free stamp)) = refl
own_is d (Some (Dying owner)) = refl
own_is d None = refl

module _ (n : Machine) (d g : ℕ) (m : Words) (p : Plain) (x : Solo) (describes : Describes n m p) where
  -- the frame as the plain value has it behind that
  record IsReturned : Type 0 where
    after : Plain
    is : return_frame n d g (with_frames p x) ≡ did (with_frames after x)
    described : Describes n (returned g m) after
    kinds : (h : ℕ) → after.kinds h ≡ p.kinds h

  cleared_share : (o c : ℕ) (a : Bool) → ref_read (m (Refs g)) ≡ Some (Owned o a c) → Some (record { owner = o; allocated = false; count = c }) ≡ share_of (cleared (m (Refs g)))
  unfolding IsRef
  cleared_share o c a is =
      let whole = (ref_write-read (m (Refs g)) (Owned o a c) (read_small (m (Refs g)) (Owned o a c) is) is).0 in
      sym (ap (λ r. share_of (cleared_in (m (Refs g)) r)) is ∙ ap share_in (ref_read-write (Owned o false c) (whole.0, whole.1, whole.2)))

  asks : (b c : Bool) → nat_lt g n.frames ≡ b → is_allocated_to d (p.shares g) ≡ c →
      return_frame n d g (with_frames p x)
      ≡ (if not b then stopped (Frames (causes.NoFrame g)) (with_frames p x)
      else if c then did (with_frames (unmarked g (p.shares g) p) x) else stopped (Frames (causes.WrongOwner g (p.shares g))) (with_frames p x))
  asks b c is own =
      ap (λ t. if not t then stopped (Frames (causes.NoFrame g)) (with_frames p x) else if is_allocated_to d (p.shares g) then did (with_frames (unmarked g (p.shares g) p) x) else stopped (Frames (causes.WrongOwner g (p.shares g))) (with_frames p x)) is
      ∙ ap (λ t. if not b then stopped (Frames (causes.NoFrame g)) (with_frames p x) else if t then did (with_frames (unmarked g (p.shares g) p) x) else stopped (Frames (causes.WrongOwner g (p.shares g))) (with_frames p x)) own

  owned_back : (r : Option RefWord) → ref_read (m (Refs g)) ≡ r → nat_lt g n.frames ≡ true → is_own_allocated d r ≡ true → IsReturned
  unfolding left_by
  owned_back (Some (Owned o a c)) is inside own =
      let low : g < n.frames = grind (arith, nat_tests) in
      let share : p.shares g ≡ Some (record { owner = o; allocated = a; count = c }) = describes.shares g low ∙ ap share_in is in
      let s : Share = record { owner = o; allocated = false; count = c } in
      let m1 = change (Store (cleared (m (Refs g)))) (Refs g) m in
      let marked : Describes n m1 (with_share g s p) = shared n m m1 p g (cleared (m (Refs g))) (Some s) describes (cleared_share o c a is) (λ h. refl) (λ h. refl) (λ h i. refl) in
      record {
        after = reference_back g (with_share g s p);
        is = asks true true inside (ap (is_allocated_to d) share ∙ own) ∙ ap (λ t. did (with_frames (unmarked g t p) x)) share;
        described = same_back n m1 (with_share g s p) g s marked low (at_here g (Some s) p.shares);
        kinds = λ h. refl;
      }
  owned_back (Some (Free stamp)) is inside own = absurd cc
  owned_back (Some (Dying o)) is inside own = absurd cc
  owned_back None is inside own = absurd cc

  may_by : (b c : Bool) → nat_lt g n.frames ≡ b → is_own_allocated d (ref_read (m (Refs g))) ≡ c → (if b then (if c then None else Some (refusals.WrongOwner g (m (Refs g)))) else Some (refusals.NoFrame g)) ≡ None → IsReturned
  may_by true true inside own none = owned_back (ref_read (m (Refs g))) refl inside own
  may_by true false inside own none = absurd cc
  may_by false c inside own none = absurd cc

  gives_back : return_refusal n d g (m (Refs g)) ≡ None → IsReturned
  gives_back none = may_by (nat_lt g n.frames) (is_own_allocated d (ref_read (m (Refs g)))) refl refl none

  -- or it is not
  record IsUnreturned (y : Refusal) : Type 0 where
    cause : causes.Cause
    is : return_frame n d g (with_frames p x) ≡ stopped (Frames cause) (with_frames p x)
    same : IsCause y cause

  not_by : (y : Refusal) (b c : Bool) → nat_lt g n.frames ≡ b → is_own_allocated d (ref_read (m (Refs g))) ≡ c → (if b then (if c then None else Some (refusals.WrongOwner g (m (Refs g)))) else Some (refusals.NoFrame g)) ≡ Some y → IsUnreturned y
  not_by y true true inside own is = absurd cc
  not_by y true false inside own is =
      let low : g < n.frames = grind (arith, nat_tests) in
      let share = describes.shares g low in
      let e : refusals.WrongOwner g (m (Refs g)) ≡ y = cc in
      record {
        cause = causes.WrongOwner g (p.shares g);
        is = asks true false inside (ap (is_allocated_to d) share ∙ (own_is d (ref_read (m (Refs g))) ∙ own));
        same = subst (λ z. IsCause z (causes.WrongOwner g (p.shares g))) e (refl, sym share);
      }
  not_by y false c inside own is =
      let e : refusals.NoFrame g ≡ y = cc in
      record { cause = causes.NoFrame g; is = asks false (is_allocated_to d (p.shares g)) inside refl; same = subst (λ z. IsCause z (causes.NoFrame g)) e refl }

  keeps : (y : Refusal) → return_refusal n d g (m (Refs g)) ≡ Some y → IsUnreturned y
  keeps y is = not_by y (nat_lt g n.frames) (is_own_allocated d (ref_read (m (Refs g)))) refl refl is

-- ---- one after the other
module _ (n : Machine) (d first from : ℕ) (m : Words) (x : Solo) (describes : Describes n m x.frames) where
  pub record AreReturned (k : ℕ) : Type 0 where
    pub after : Plain
    pub is : return_rest n d first from k x ≡ did (with_frames after x)
    pub described : Describes n (all_returned first from k m) after
    pub kinds : (h : ℕ) → after.kinds h ≡ x.frames.kinds h

  next_returned : (k : ℕ) → AreReturned k → next_refusal n d first from k m ≡ None → AreReturned (suc k)
  unfolding return_rest
  next_returned k before may =
      let g = number_at first (from + k) in
      let one = gives_back n d g (all_returned first from k m) before.after x before.described may in
      record {
        after = one.after;
        is = ap (λ o. then_do o (return_frame n d g)) before.is ∙ one.is;
        described = one.described;
        kinds = λ h. one.kinds h ∙ before.kinds h;
      }

  pub all_back : (k : ℕ) → ((j : ℕ) → j < k → next_refusal n d first from j m ≡ None) → AreReturned k
  unfolding return_rest
  all_back zero may = record { after = x.frames; is = refl; described = describes; kinds = λ h. refl }
  all_back (suc k) may = next_returned k (all_back k (λ j low. may j (omega arith))) (may k (omega arith))

  -- up to one that is refused, which ends it
  pub record EndsRefused (k : ℕ) (y : Refusal) (before : AreReturned k) : Type 0 where
    pub cause : causes.Cause
    pub is : return_rest n d first from (suc k) x ≡ stopped (Frames cause) (with_frames before.after x)
    pub same : IsCause y cause

  pub next_refused : (k : ℕ) (y : Refusal) (before : AreReturned k) → next_refusal n d first from k m ≡ Some y → EndsRefused k y before
  unfolding return_rest
  next_refused k y before is =
      let g = number_at first (from + k) in
      let one = keeps n d g (all_returned first from k m) before.after x before.described y is in
      record { cause = one.cause; is = ap (λ o. then_do o (return_frame n d g)) before.is ∙ one.is; same = one.same }

pub stays_stopped : (n : Machine) (d first from : ℕ) (x s : Solo) (y : Why) (k t : ℕ) → k ≤ t → return_rest n d first from k x ≡ stopped y s → return_rest n d first from t x ≡ stopped y s
unfolding return_rest
stays_stopped n d first from x s y k zero low is = let e : k ≡ 0 = omega arith in subst (λ j. return_rest n d first from j x ≡ stopped y s) e is
stays_stopped n d first from x s y k (suc t) low is =
    elim (cases_eq k (suc t)) [
      | inl same ↦ subst (λ j. return_rest n d first from j x ≡ stopped y s) same is
      | inr off ↦ ap (λ o. then_do o (return_frame n d (number_at first (from + t)))) (stays_stopped n d first from x s y k t (omega (arith, low, off)) is)
    ]

-- ---- words that stay
put_map : (b : Bool) (f owner g : ℕ) (m : Words) → (if b then set_free f owner (lowered f m) else lowered f m) (M2p g) ≡ m (M2p g)
put_map true f owner g m = refl
put_map false f owner g m = refl

pub words_stay : (first from k s j : ℕ) (m : Words) → all_returned first from k m (Vcpu s j) ≡ m (Vcpu s j)
words_stay first from zero s j m = refl
words_stay first from (suc k) s j m =
    let b = all_returned first from k m in
    let g = number_at first (from + k) in
    let a = change (Store (cleared (b (Refs g)))) (Refs g) b in
    put_word g s j a ∙ words_stay first from k s j m

pub maps_stay : (first from k h : ℕ) (m : Words) → all_returned first from k m (M2p h) ≡ m (M2p h)
maps_stay first from zero h m = refl
maps_stay first from (suc k) h m =
    let b = all_returned first from k m in
    let g = number_at first (from + k) in
    let a = change (Store (cleared (b (Refs g)))) (Refs g) b in
    put_map (ref_count (a (Refs g)) == 1) g (owner_number (owner_of (a (Refs g)))) h a ∙ maps_stay first from k h m

-- ---- an extent is its parts
then_same : (o : Outcome) (f g : Solo → Outcome) (r : Option Why) → o.refusal ≡ r → then_do (next_behind o r f) g ≡ next_behind o r (λ s. then_do (f s) g)
then_same o f g None is = refl
then_same o f g (Some y) is = ap (λ r. next_behind o r g) is

pub all_frames : (n : Machine) (d first k : ℕ) (x : Solo) → return_frames n d first k x ≡ return_rest n d first 0 k x
unfolding return_rest return_frames
all_frames n d first zero x = refl
all_frames n d first (suc k) x =
    let e : k ≡ 0 + k = omega arith in
    ap (λ o. then_do o (return_frame n d (number_at first k))) (all_frames n d first k x) ∙ ap (λ j. then_do (return_rest n d first 0 k x) (return_frame n d (number_at first j))) e

-- it makes no line
abbrev IsSilent : Outcome → Type 0
IsSilent o = (o.value ≡ 0) × (o.lines ≡ [])

frame_by : (b c : Bool) (o p q : Outcome) → IsSilent o → IsSilent p → IsSilent q → IsSilent (if b then o else if c then p else q)
frame_by true c o p q x y z = x
frame_by false true o p q x y z = y
frame_by false false o p q x y z = z

frame_silent : (n : Machine) (d g : ℕ) (s : Solo) → IsSilent (return_frame n d g s)
frame_silent n d g s =
    frame_by (not (nat_lt g n.frames)) (is_allocated_to d (s.frames.shares g)) (stopped (Frames (causes.NoFrame g)) s) (did (with_frames (unmarked g (s.frames.shares g) s.frames) s)) (stopped (Frames (causes.WrongOwner g (s.frames.shares g))) s) (refl, refl) (refl, refl) (refl, refl)

next_silent : (o : Outcome) (r : Option Why) (next : Solo → Outcome) → IsSilent o → ((s : Solo) → IsSilent (next s)) → IsSilent (next_behind o r next)
next_silent o None next silent all = all o.left
next_silent o (Some y) next silent all = silent

rest_silent : (n : Machine) (d first from k : ℕ) (x : Solo) → IsSilent (return_rest n d first from k x)
unfolding return_rest
rest_silent n d first from zero x = (refl, refl)
rest_silent n d first from (suc k) x =
    let o = return_rest n d first from k x in
    next_silent o o.refusal (return_frame n d (number_at first (from + k))) (rest_silent n d first from k x) (frame_silent n d (number_at first (from + k)))

nothing_more : (o : Outcome) (r : Option Why) → o.refusal ≡ r → IsSilent o → o ≡ next_behind o r did
nothing_more o None is silent =
    ap (λ r. record { refusal = r; value = o.value; lines = o.lines; left = o.left }) is
    ∙ (ap (λ c. record { refusal = None; value = c; lines = o.lines; left = o.left }) silent.0 ∙ ap (λ l. record { refusal = None; value = 0; lines = l; left = o.left }) silent.1)
nothing_more o (Some y) is silent = refl

pub parts_by : (n : Machine) (d first from k : ℕ) (x : Solo) → return_rest n d first 0 (from + k) x ≡ then_do (return_rest n d first 0 from x) (return_rest n d first from k)
unfolding return_rest
parts_by n d first from zero x =
    let o = return_rest n d first 0 from x in
    let e : from + 0 ≡ from = omega arith in
    ap (λ j. return_rest n d first 0 j x) e ∙ nothing_more o o.refusal refl (rest_silent n d first 0 from x)
parts_by n d first from (suc k) x =
    let o = return_rest n d first 0 from x in
    let e : from + suc k ≡ suc (from + k) = omega arith in
    let j : 0 + (from + k) ≡ from + k = omega arith in
    ap (λ i. return_rest n d first 0 i x) e
    ∙ (ap (λ b. then_do b (return_frame n d (number_at first (0 + (from + k))))) (parts_by n d first from k x)
    ∙ (ap (λ i. then_do (then_do o (return_rest n d first from k)) (return_frame n d (number_at first i))) j
    ∙ then_same o (return_rest n d first from k) (return_frame n d (number_at first (from + k))) o.refusal refl))
