-- Entries of a table under the own lock: when one may be stored, and what is in hand after.
use Rattle.std.specs.Prelude.{◌≡◌, ℕ, Some}
use Rattle.xp_words.specs.Machine.{Machine}
use Rattle.xp_board.specs.declared.holdings.Holdings.{Holdings}
use Rattle.xp_board.specs.declared.holdings.Lock.{Lock}
use Rattle.xp_board.specs.After.{learned_cell}
use Rattle.xp_board.specs.CellSteps.{MayExchange, MayExchangeFrom, exchanged}
use Rattle.xp_board.specs.Hands.{lock_on}

-- the table is under the own lock, and what the new word asks is in hand, or the entry asks it already
pub record MayStoreEntry (m : Machine) (f i new : ℕ) (h : Holdings) : Type 0 where
  pub lock : Lock
  pub here : lock_on f h.locks ≡ Some lock
  pub may : MayExchange m f i new h lock

-- and the expected word is the one that was found there last
pub record MaySwapEntry (m : Machine) (f i expected new : ℕ) (h : Holdings) : Type 0 where
  pub lock : Lock
  pub here : lock_on f h.locks ≡ Some lock
  pub may : MayExchangeFrom m f i expected new h lock

-- the entry was w, and is that word
abbrev pub entry_set : ℕ → ℕ → ℕ → ℕ → Holdings → Holdings
entry_set f i new w h = learned_cell f i new (exchanged i new w (lock_on f h.locks) h)

-- it was found to be w, and is that still
abbrev pub entry_unset : ℕ → ℕ → ℕ → Holdings → Holdings
entry_unset f i w h = learned_cell f i w h
