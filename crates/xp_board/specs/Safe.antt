-- What the whole product stands for: no guest writes a page table or descriptor page, or comes to a frame
-- that its domain is not permitted, and the counts are right.
use Rattle.std.specs.Prelude.{◌≡◌, ℕ, ◌<◌, Bool, true, false}
use Rattle.xp_words.specs.Machine.{Machine}
use Rattle.xp_words.specs.declared.place.Place.{Place}
use Rattle.xp_words.specs.Places.{sizes_of}
use Rattle.xp_board.specs.declared.step.Item.{Item}
use Rattle.xp_board.specs.declared.holdings.Holdings.{Holdings}
use Rattle.xp_board.specs.Lists.{Member}
use Rattle.xp_board.specs.Readings.{kind_at, domain_of}
use Rattle.xp_board.specs.Recorded.{CountsAgree}
use Rattle.xp_board.specs.Valid.{Permits}
use Rattle.xp_board.specs.Reach.{Path, is_in_use}

-- a guest that comes to frame g, to write or not
pub record SafeAt (n : Machine) (m : Place → ℕ) (v : ℕ) (writable : Bool) (g : ℕ) : Type 0 where
  pub unused : writable ≡ true → is_in_use (kind_at m g) ≡ false
  pub permitted : Permits m (domain_of n v) g

pub record Safe (n : Machine) (m : Place → ℕ) (h : ℕ → Holdings) : Type 0 where
  pub paths : (v g : ℕ) (writable : Bool) → v < (sizes_of n).vcpus → Path (sizes_of n) m v writable g → SafeAt n m v writable g
  pub items : (v : ℕ) (x : Item) → v < (sizes_of n).vcpus → Member x (h v).cache → SafeAt n m v x.writable x.frame
  pub counts : CountsAgree (sizes_of n) m h
