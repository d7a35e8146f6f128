-- A reference word that goes one up or one down keeps its owner, and is free neither before nor after.
use Rattle.std.proofs.Common.{◌≡◌, ℕ, ◌+◌, ◌%◌, ◌^◌, ◌<◌, Bool, false, refl, arith, Some}
use Rattle.xp_words.specs.declared.refs.RefWord.TheVariants.{Owned, Dying}
use Rattle.xp_words.specs.RefWords.{ref_read}
use Rattle.xp_words.specs.Machine.{Machine}
use Rattle.xp_words.specs.declared.place.Place.{Place}
use Rattle.xp_words.specs.declared.place.Place.TheVariants.{Refs}
use Rattle.xp_words.specs.Places.{sizes_of}
use Rattle.xp_board.specs.declared.holdings.Holdings.{Holdings}
use Rattle.xp_board.specs.Readings.{owner_of, is_free, free_stamp}
use Rattle.xp_board.specs.Hands.{refs_to}
use Rattle.xp_board.specs.RefSteps.{one_down}
use Rattle.xp_board.specs.Sound.{Sound}
use Rattle.stale_rule.proofs.Stays.{RefKept}
use Rattle.xp_board.proofs.RefWords.{OneLess, more, last, one_down_leaves}
use Rattle.xp_board.proofs.Counted.{in_hand_counted}

-- ---- one up
pub owned_kept : (w w2 owner count count2 : ℕ) (allocated allocated2 : Bool) → ref_read w ≡ Some (Owned owner allocated count) →
    ref_read w2 ≡ Some (Owned owner allocated2 count2) → RefKept w w2
unfolding owner_of is_free free_stamp
owned_kept w w2 owner count count2 allocated allocated2 was now =
    record { owner = rw (was, now) refl; free = rw (was, now) refl; stamp = rw (was, now) refl }

dying_kept : (w w2 owner count : ℕ) (allocated : Bool) → ref_read w ≡ Some (Owned owner allocated count) → ref_read w2 ≡ Some (Dying owner) → RefKept w w2
unfolding owner_of is_free free_stamp
dying_kept w w2 owner count allocated was now =
    record { owner = rw (was, now) refl; free = rw (was, now) refl; stamp = rw (was, now) refl }

-- ---- one down
less_kept : (w v : ℕ) → OneLess w v → RefKept w v
less_kept w v (more o c a was now) = owned_kept w v o _ _ a a was now
less_kept w v (last o was now) = dying_kept w v o 1 false was now

pub lowered_kept : (n : Machine) (m : Place → ℕ) (h : ℕ → Holdings) (s f : ℕ) → Sound n m h → s < (sizes_of n).vcpus → 0 < refs_to f (h s).refs →
    RefKept (m (Refs f)) ((m (Refs f) + one_down) % 2 ^ 64)
lowered_kept n m h s f sound real in_hand =
    let above = in_hand_counted (sizes_of n) m h s f real sound.counts in_hand in
    less_kept (m (Refs f)) ((m (Refs f) + one_down) % 2 ^ 64) (one_down_leaves (m (Refs f)) (ref_read (m (Refs f))) (sound.spelled.small (Refs f)) refl (omega arith))
