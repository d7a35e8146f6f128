-- A reference that is taken and given back leaves all words as they were.
use Rattle.std.proofs.Common.{◌≡◌, ◌≢◌, ℕ, ◌+◌, ◌%◌, ◌^◌, ◌<◌, ◌==◌, nat_lt, nat_le, if◌then◌else◌, Bool, true, false, Option, Some, None, refl, sym, ap, ◌∙◌, inl, inr, arith}
use Rattle.std.proofs.lemmas.Bool.Decides.{nat_tests}
use Rattle.xp_words.specs.Machine.{IsMachine, Machine}
use Rattle.xp_words.specs.RefWords.{IsRef, ref_read, ref_write}
use Rattle.xp_words.specs.declared.place.Place.{Place}
use Rattle.xp_words.specs.declared.place.Place.TheVariants.{Refs}
use Rattle.xp_words.specs.declared.refs.RefWord.{RefWord}
use Rattle.xp_words.specs.declared.refs.RefWord.TheVariants.{Dying, Free, Owned}
use Rattle.xp_words.specs.declared.reply.Refusal.TheVariants as refusals
use Rattle.xp_words.proofs.RefLaws.{ref_read-write, ref_write-read}
use Rattle.xp_board.specs.Acts.{left_by}
use Rattle.xp_board.specs.Readings.{owner_of, ref_count}
use Rattle.xp_board.specs.RefSteps.{one_down, owner_number}
use Rattle.xp_board.proofs.RefWords.{owned_says, read_small}
use Rattle.xp_board.proofs.PlaceTests.{is_same-other, is_same-refl, same_or_other}
use Rattle.step_maker.specs.Plain.{Words}
use Rattle.frame_words.specs.Plain.{got, lowered, one_more, put, refer, refer_by, set_free}
use Rattle.table_twins.proofs.Referring.{not_full}

-- ---- the reference word
-- one more than an owned word with room counts, and one less again
pub record GoesBack (w up : ℕ) : Type 0 where
  pub down : (up + one_down) % 2 ^ 64 ≡ w
  pub several : (ref_count up == 1) ≡ false

back_from : (w o c : ℕ) (a : Bool) → ref_read w ≡ Some (Owned o a c) → c + 1 < 2 ^ 26 → GoesBack w (ref_write (Owned o a (c + 1)))
unfolding IsRef ref_write
back_from w o c a read few =
    let up = ref_write (Owned o a (c + 1)) in
    let was = ref_write-read w (Owned o a c) (read_small w (Owned o a c) read) read in
    let some = was.0.1 in
    let read_up = ref_read-write (Owned o a (c + 1)) (was.0.0, omega arith, few) in
    let next : up ≡ w + 1 = (let e = was.1 in omega arith) in
    let small : up < 2 ^ 64 = read_small up (Owned o a (c + 1)) read_up in
    let counts : ref_count up ≡ c + 1 = (owned_says up o a (c + 1) read_up).counts in
    record { down = omega arith; several = grind (arith, nat_tests) }

back_owned : (w o c limit owner f : ℕ) (a : Bool) → ref_read w ≡ Some (Owned o a c) → limit < 2 ^ 26 → (b k : Bool) → (k ≡ false → c < limit) →
    (if b then (if k then Some (refusals.CountFull f w) else None) else Some (refusals.WrongOwner f w)) ≡ None → GoesBack w (ref_write (Owned o a (c + 1)))
back_owned w o c limit owner f a read few true false room none = back_from w o c a read (let low = room refl in omega arith)
back_owned w o c limit owner f a read few true true room none = absurd cc
back_owned w o c limit owner f a read few false k room none = absurd cc

back_read : (w limit owner f : ℕ) (r : Option RefWord) → ref_read w ≡ r → limit < 2 ^ 26 → refer_by limit owner f w r ≡ None → GoesBack w (one_more w r)
back_read w limit owner f (Some (Owned o a c)) read few none = back_owned w o c limit owner f a read few (o == owner) (nat_le limit c) (λ off. not_full limit c off) none
back_read w limit owner f (Some (Free stamp)) read few none = absurd cc
back_read w limit owner f (Some (Dying o)) read few none = absurd cc
back_read w limit owner f None read few none = absurd cc

back_in : (n : Machine) (w owner f : ℕ) (b : Bool) → IsMachine n → (if b then refer_by n.limit owner f w (ref_read w) else Some (refusals.NoFrame f)) ≡ None → GoesBack w (one_more w (ref_read w))
back_in n w owner f true machine none = back_read w n.limit owner f (ref_read w) refl machine.few_counts none
back_in n w owner f false machine none = absurd cc

-- ---- all words
module _ (n : Machine) (m : Words) (owner f : ℕ) (machine : IsMachine n) (none : refer n owner f (m (Refs f)) ≡ None) where
  back : GoesBack (m (Refs f)) (one_more (m (Refs f)) (ref_read (m (Refs f))))
  back = back_in n (m (Refs f)) owner f (nat_lt f n.frames) machine none

  got_here : got f m (Refs f) ≡ one_more (m (Refs f)) (ref_read (m (Refs f)))
  unfolding left_by
  got_here = ap (λ b. if b then one_more (m (Refs f)) (ref_read (m (Refs f))) else m (Refs f)) (is_same-refl (Refs f))

  pub got_there : (q : Place) → q ≢ Refs f → got f m q ≡ m q
  unfolding left_by
  got_there q off = ap (λ b. if b then one_more (m (Refs f)) (ref_read (m (Refs f))) else m q) (is_same-other q (Refs f) off)

  lowered_here : lowered f (got f m) (Refs f) ≡ m (Refs f)
  unfolding left_by
  lowered_here =
      ap (λ b. if b then (got f m (Refs f) + one_down) % 2 ^ 64 else got f m (Refs f)) (is_same-refl (Refs f)) ∙ ap (λ x. (x + one_down) % 2 ^ 64) got_here ∙ back.down

  lowered_there : (q : Place) → q ≢ Refs f → lowered f (got f m) q ≡ m q
  unfolding left_by
  lowered_there q off = ap (λ b. if b then (got f m (Refs f) + one_down) % 2 ^ 64 else got f m q) (is_same-other q (Refs f) off) ∙ got_there q off

  lowered_all : (q : Place) → lowered f (got f m) q ≡ m q
  lowered_all q = elim (same_or_other q (Refs f)) [ inl at ↦ ap (lowered f (got f m)) at ∙ lowered_here ∙ ap m (sym at) | inr off ↦ lowered_there q off ]

  pub back_again : (q : Place) → put f (got f m) q ≡ m q
  back_again q =
      let several : (ref_count (got f m (Refs f)) == 1) ≡ false = ap (λ x. ref_count x == 1) got_here ∙ back.several in
      ap (λ b. (if b then set_free f (owner_number (owner_of (got f m (Refs f)))) (lowered f (got f m)) else lowered f (got f m)) q) several ∙ lowered_all q
