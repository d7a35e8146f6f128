-- Cells of frames: which frames the vCPU does not work on, and in which it may write.
use Rattle.std.specs.Prelude.{◌≡◌, ◌⊎◌, ℕ, ◌<◌, Some, None, IsTrue}
use Rattle.xp_words.specs.Entries.{fixed}
use Rattle.xp_words.specs.Machine.{Machine}
use Rattle.xp_words.specs.Places.{sizes_of}
use Rattle.xp_words.specs.declared.kind.PageType.{PageType}
use Rattle.xp_words.specs.declared.kind.PageType.TheVariants.{Desc, Writable}
use Rattle.xp_board.specs.declared.holdings.Holdings.{Holdings}
use Rattle.xp_board.specs.Hands.{work_on, lock_on, claim_of, typed_to}
use Rattle.xp_board.specs.Knowledge.{knows_live}

-- the frame is not in the own works, not under an own lock and not claimed
pub record IsApart (f : ℕ) (h : Holdings) : Type 0 where
  pub works : work_on f h.works ≡ None
  pub locks : lock_on f h.locks ≡ None
  pub claimed : claim_of f h.claimed ≡ None

-- a typed reference in hand keeps the frame live: writable, or a descriptor page, which takes fixed words alone
pub record MayStoreCell (n : Machine) (f new : ℕ) (h : Holdings) : Type 0 where
  pub held : 0 < typed_to f h.typed
  pub kind : PageType
  pub live : IsTrue (knows_live (sizes_of n) f kind h)
  pub ordinary : (kind ≡ Writable) ⊎ ((kind ≡ Desc) × (fixed new ≡ Some new))
  pub apart : IsApart f h
