-- References on words and on the plain value that describes them.
use Rattle.std.proofs.Common.{◌≡◌, ℕ, ◌+◌, ◌<◌, ◌^◌, ◌==◌, not, nat_lt, nat_le, if◌then◌else◌, Bool, true, false, Option, Some, None, refl, sym, ap, subst, arith}
use Rattle.std.proofs.lemmas.Bool.Decides.{nat_tests}
use Rattle.xp_words.specs.Machine.{IsMachine, Machine}
use Rattle.xp_words.specs.RefWords.{IsRef, ref_read, ref_write}
use Rattle.xp_words.specs.declared.refs.RefWord.{RefWord}
use Rattle.xp_words.specs.declared.refs.RefWord.TheVariants.{Free, Owned, Dying}
use Rattle.xp_words.specs.declared.place.Place.TheVariants.{Refs}
use Rattle.xp_words.specs.declared.reply.Refusal.TheVariants as refusals
use Rattle.xp_words.proofs.RefLaws.{ref_read-write, ref_write-read}
use Rattle.xp_board.proofs.RefWords.{read_small}
use Rattle.xp_board.specs.Acts.{left_by}
use Rattle.xp_board.specs.declared.step.Act.TheVariants.{Store}
use Rattle.xp_board.proofs.StepLists.{from_lt as is_inside}
use Rattle.step_maker.specs.Plain.{Words, change}
use Rattle.frame_words.specs.Plain.{got, one_more, refer, refer_by}
use Rattle.table_law.specs.Alone.{CountFull, NoFrame, WrongOwner, fine, refused, take_reference, take_reference_of}
use Rattle.table_law.specs.Plain.{Describes, Plain, Share, raised_share, share_in, share_of, with_share}
use Rattle.table_twins.specs.Answers.{IsSameAnswer}
use Rattle.table_twins.proofs.Sharing.{shared}

-- ---- whether it is to be had
module _ (n : Machine) (owner g w : ℕ) (p : Plain) where
  owned_by : (b k : Bool) (s : Share) → share_of w ≡ Some s →
      IsSameAnswer (if b then (if k then Some (refusals.CountFull g w) else None) else Some (refusals.WrongOwner g w))
      (if not b then refused (WrongOwner g (Some s)) p else if k then refused (CountFull g s) p else fine (with_share g (raised_share s) p)).refusal
  owned_by false k s is = (refl, is)
  owned_by true true s is = (refl, is)
  owned_by true false s is = tt

  word_by : (r : Option RefWord) → ref_read w ≡ r → IsSameAnswer (refer_by n.limit owner g w r) (take_reference_of n owner g p (share_in r)).refusal
  word_by (Some (Owned o allocated count)) e = owned_by (o == owner) (nat_le n.limit count) (record { owner = o; allocated = allocated; count = count }) (ap share_in e)
  word_by (Some (Free stamp)) e = (refl, ap share_in e)
  word_by (Some (Dying o)) e = (refl, ap share_in e)
  word_by None e = (refl, ap share_in e)

module _ (n : Machine) (m : Words) (p : Plain) (owner g : ℕ) (d : Describes n m p) where
  by_frame : (b : Bool) → (b ≡ true → g < n.frames) →
      IsSameAnswer (if b then refer_by n.limit owner g (m (Refs g)) (ref_read (m (Refs g))) else Some (refusals.NoFrame g)) (if b then take_reference_of n owner g p (p.shares g) else refused (NoFrame g) p).refusal
  by_frame true inside =
      subst (λ o. IsSameAnswer (refer_by n.limit owner g (m (Refs g)) (ref_read (m (Refs g)))) (take_reference_of n owner g p o).refusal) (sym (d.shares g (inside refl))) (word_by n owner g (m (Refs g)) p (ref_read (m (Refs g))) refl)
  by_frame false inside = refl

  pub same_answer : IsSameAnswer (refer n owner g (m (Refs g))) (take_reference n owner g p).refusal
  same_answer = by_frame (nat_lt g n.frames) (λ is. is_inside g n.frames is)

-- ---- what it leaves
one_more_is : (w o c : ℕ) (a : Bool) → ref_read w ≡ Some (Owned o a c) → c + 1 < 2 ^ 26 → share_of (ref_write (Owned o a (c + 1))) ≡ Some (record { owner = o; allocated = a; count = c + 1 })
unfolding IsRef
one_more_is w o c a e small =
    let was = (ref_write-read w (Owned o a c) (read_small w (Owned o a c) e) e).0 in
    ap share_in (ref_read-write (Owned o a (c + 1)) (was.0, omega arith, small))

pub not_full : (limit c : ℕ) → nat_le limit c ≡ false → c < limit
not_full limit c is = grind (arith, nat_tests)

module _ (n : Machine) (m : Words) (p : Plain) (owner g : ℕ) (d : Describes n m p) (machine : IsMachine n) where
  stored : (new : ℕ) (s : Share) → share_of new ≡ Some s → Describes n (change (Store new) (Refs g) m) (with_share g s p)
  unfolding left_by
  stored new s is = shared n m (change (Store new) (Refs g) m) p g new (Some s) d (sym is) (λ h. refl) (λ h. refl) (λ h i. refl)

  left_of : (b k : Bool) (s : Share) (new : ℕ) → (k ≡ false → share_of new ≡ Some (raised_share s)) →
      (if b then (if k then Some (refusals.CountFull g (m (Refs g))) else None) else Some (refusals.WrongOwner g (m (Refs g)))) ≡ None →
      Describes n (change (Store new) (Refs g) m) (if not b then refused (WrongOwner g (Some s)) p else if k then refused (CountFull g s) p else fine (with_share g (raised_share s) p)).left
  left_of false k s new is none = absurd cc
  left_of true true s new is none = absurd cc
  left_of true false s new is none = stored new (raised_share s) (is refl)

  left_by_word : (r : Option RefWord) → ref_read (m (Refs g)) ≡ r → refer_by n.limit owner g (m (Refs g)) r ≡ None →
      Describes n (change (Store (one_more (m (Refs g)) r)) (Refs g) m) (take_reference_of n owner g p (share_in r)).left
  left_by_word (Some (Owned o a c)) e none =
      left_of (o == owner) (nat_le n.limit c) (record { owner = o; allocated = a; count = c }) (ref_write (Owned o a (c + 1)))
      (λ full. one_more_is (m (Refs g)) o c a e (let k = not_full n.limit c full in let few = machine.few_counts in omega arith)) none
  left_by_word (Some (Free stamp)) e none = absurd cc
  left_by_word (Some (Dying o)) e none = absurd cc
  left_by_word None e none = absurd cc

  left_in : (b : Bool) → (b ≡ true → g < n.frames) → (if b then refer_by n.limit owner g (m (Refs g)) (ref_read (m (Refs g))) else Some (refusals.NoFrame g)) ≡ None →
      Describes n (got g m) (if b then take_reference_of n owner g p (p.shares g) else refused (NoFrame g) p).left
  left_in true inside none =
      subst (λ o. Describes n (got g m) (take_reference_of n owner g p o).left) (sym (d.shares g (inside refl))) (left_by_word (ref_read (m (Refs g))) refl none)
  left_in false inside none = absurd cc

  pub same_taken : refer n owner g (m (Refs g)) ≡ None → Describes n (got g m) (take_reference n owner g p).left
  same_taken none = left_in (nat_lt g n.frames) (λ is. is_inside g n.frames is) none
