-- A frame that is busy is in somebody's hand.
use Rattle.std.proofs.Common.{◌≡◌, ◌⊎◌, ℕ, ◌<◌, ◌||◌, Bool, true, false, IsTrue, refl, ap, inl, inr, arith}
use Rattle.xp_words.specs.Machine.{Machine}
use Rattle.xp_words.specs.RefWords.{bit}
use Rattle.xp_words.specs.declared.place.Place.{Place}
use Rattle.xp_words.specs.declared.place.Place.TheVariants.{Kind}
use Rattle.xp_words.specs.Places.{sizes_of}
use Rattle.xp_board.specs.declared.holdings.Holdings.{Holdings}
use Rattle.xp_board.specs.declared.holdings.Lock.{Lock}
use Rattle.xp_board.specs.Hands.{work_on, lock_on, locks_on, ending_of, IsEmptyHand}
use Rattle.xp_board.specs.Lists.{first_by}
use Rattle.xp_board.specs.Readings.{kind_at, is_work, is_closing, is_locked}
use Rattle.xp_board.specs.Sound.{HeldAlone}
use Rattle.xp_board.proofs.ListCounts.{first_by-some}
use Rattle.xp_board.proofs.Sums.{hands-some}
use Rattle.xp_board.proofs.Works.{in_works}
use Rattle.step_maker.specs.Pauses.{IsElsewhere, found_busy}
use Rattle.answer_laws.proofs.Meeting.{none_some}

which : (w c l : Bool) → IsTrue (w || (l || c)) → ((w || c) ≡ true) ⊎ (l ≡ true)
which true c l is = inl refl
which false true l is = inl refl
which false false true is = inr refl
which false false false is = absurd cc

-- what no vCPU has in its works or locks is neither in work nor locked nor closing
pub nobody_busies : (n : Machine) (m : Place → ℕ) (h : ℕ → Holdings) (f : ℕ) → HeldAlone n m h → ((t : ℕ) → t < (sizes_of n).vcpus → IsElsewhere f (h t)) → IsTrue (found_busy (m (Kind f))) → ⊥
nobody_busies n m h f alone off busy =
    let k = kind_at m f in
    elim (which (is_work k) (is_closing k) (is_locked k) busy) [
      | inl at ↦
          let there = in_works n m h alone f at in
          none_some (work_on f (h there.vcpu).works) there.work (off there.vcpu there.real).0 there.here
      | inr at ↦
          let all = alone.locks f in
          let lit = ap bit at in
          let some = hands-some (λ (u : Holdings). locks_on f u.locks) (sizes_of n) h (omega (arith, all, lit)) in
          let there = first_by-some (λ (y : Lock). y.frame) f (h some.0).locks some.2 in
          none_some (lock_on f (h some.0).locks) there.0 (off some.0 some.1).1 there.1
    ]

-- an empty hand has no frame
pub empty_elsewhere : (f : ℕ) (h : Holdings) → IsEmptyHand h → IsElsewhere f h
unfolding first_by
empty_elsewhere f h e = (ap (work_on f) e.works, ap (lock_on f) e.locks, ap (ending_of f) e.ending)
