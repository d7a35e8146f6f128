-- A reference word that has one reference more or one less keeps its owner and its allocated mark.
use Rattle.std.proofs.Common.{◌≡◌, ℕ, suc, ◌+◌, ◌%◌, ◌^◌, ◌<◌, ◌≤◌, Bool, Some, refl, arith}
use Rattle.xp_words.specs.declared.refs.RefWord.TheVariants.{Owned}
use Rattle.xp_words.specs.RefWords.{ref_read}
use Rattle.xp_board.specs.Readings.{owner_of, allocated_mark, ref_count}
use Rattle.xp_board.specs.RefSteps.{one_down}
use Rattle.xp_board.proofs.RefWords.{OneLess, more, last, one_down_leaves}

-- the word v has the owner and the mark of w
pub record SameOwner (w v : ℕ) : Type 0 where
  pub owner : owner_of v ≡ owner_of w
  pub allocated : allocated_mark v ≡ allocated_mark w

pub one_more_keeps : (w v o c d : ℕ) (a : Bool) → ref_read w ≡ Some (Owned o a c) → ref_read v ≡ Some (Owned o a d) → SameOwner w v
unfolding owner_of allocated_mark
one_more_keeps w v o c d a was is = record { owner = rw (was, is) refl; allocated = rw (was, is) refl }

less_keeps : (w v : ℕ) → OneLess w v → SameOwner w v
unfolding owner_of allocated_mark
less_keeps w v (more o c a was is) = one_more_keeps w v o (suc (suc c)) (suc c) a was is
less_keeps w v (last o was is) = record { owner = rw (was, is) refl; allocated = rw (was, is) refl }

pub one_less_keeps : (w : ℕ) → w < 2 ^ 64 → allocated_mark w + 1 ≤ ref_count w → SameOwner w ((w + one_down) % 2 ^ 64)
one_less_keeps w small above = less_keeps w ((w + one_down) % 2 ^ 64) (one_down_leaves w (ref_read w) small refl (omega arith))
