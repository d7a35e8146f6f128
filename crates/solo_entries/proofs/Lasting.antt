-- A live table under a lock, in words.
use Rattle.std.proofs.Common.{◌≡◌, ◌<◌, ◌≤◌, ℕ, true, Some}
use Rattle.xp_words.specs.Machine.{Machine}
use Rattle.xp_words.specs.declared.kind.KindWord.{KindWord}
use Rattle.xp_words.specs.declared.place.Place.TheVariants.{Refs}
use Rattle.xp_board.specs.Readings.{kind_at}
use Rattle.step_maker.specs.Plain.{Words}
use Rattle.partial_state.specs.Levels.{level_type}
use Rattle.table_law.specs.Plain.{Share, share_of}

-- a live table of that level under a lock, with two type counts or more, of which the lock is one
pub record IsUnderLock (level : ℕ) (k : KindWord) : Type 0 where
  pub live : k.validated ≡ true
  pub locked : k.locked ≡ true
  pub several : 2 ≤ k.number
  pub kind : k.kind ≡ level_type level

-- frame f is one, of that owner
pub record IsLockedIn (n : Machine) (f owner level : ℕ) (m : Words) : Type 0 where
  pub inside : f < n.frames
  pub table : IsUnderLock level (kind_at m f)
  pub share : Share
  pub held : share_of (m (Refs f)) ≡ Some share
  pub owns : share.owner ≡ owner
