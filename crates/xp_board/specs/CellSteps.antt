-- Steps that store into a cell of a frame, but for accesses of the guest.
use Rattle.std.specs.Prelude.{◌≡◌, ℕ, ◌<◌, ◌==◌, ◌⊎◌, if◌then◌else◌, Bool, true, false, Option, Some, None, IsTrue}
use Rattle.xp_words.specs.declared.kind.PageType.{PageType}
use Rattle.xp_words.specs.declared.kind.PageType.TheVariants as kinds
use Rattle.xp_words.specs.declared.entry.Demand.{Demand}
use Rattle.xp_words.specs.declared.entry.Demand.TheVariants.{Nothing, Read, Typed}
use Rattle.xp_words.specs.Entries.{demand_at, fixed}
use Rattle.xp_words.specs.KindWords.{kind_fields}
use Rattle.xp_words.specs.Machine.{Machine}
use Rattle.xp_words.specs.declared.place.Place.{Place}
use Rattle.xp_words.specs.declared.place.Place.TheVariants.{Cell}
use Rattle.xp_words.specs.Places.{sizes_of}
use Rattle.xp_board.specs.declared.step.Act.{Act}
use Rattle.xp_board.specs.declared.step.Act.TheVariants.{Cas, Store}
use Rattle.xp_board.specs.declared.holdings.Lock.{Lock}
use Rattle.xp_board.specs.declared.holdings.Seen.{Seen}
use Rattle.xp_board.specs.declared.holdings.Work.{Work}
use Rattle.xp_board.specs.declared.holdings.Claimed.{Claimed}
use Rattle.xp_board.specs.declared.holdings.Holdings.{Holdings}
use Rattle.xp_board.specs.Readings.{is_type, is_work}
use Rattle.xp_board.specs.Hands.{typed_to, lock_on, work_on, claim_of}
use Rattle.xp_board.specs.Knowledge.{knows_live}
use Rattle.xp_board.specs.Settling.{HasDemand, demand_in, demand_out}

-- ---- a table under the own entry lock
abbrev pub is_same_demand : Demand → Demand → Bool
is_same_demand Nothing Nothing = true
is_same_demand (Read f) (Read g) = f == g
is_same_demand (Typed f t) (Typed g u) = if f == g then is_type t u else false
is_same_demand _ _ = false

abbrev pub is_same_as_seen : PageType → ℕ → ℕ → Option Seen → Bool
is_same_as_seen kind i new (Some s) = if s.index == i then is_same_demand (demand_at kind i s.word) (demand_at kind i new) else false
is_same_as_seen kind i new None = false

-- the entry that the vCPU last found or left there since it took the lock asks the same as the new one
abbrev pub keeps_demand : Lock → ℕ → ℕ → Bool
keeps_demand e i new = is_same_as_seen e.kind i new e.seen

-- the old demand is the new one, or the new one is in hand
abbrev pub MayExchange : Machine → ℕ → ℕ → ℕ → Holdings → Lock → Type 0
MayExchange m f i new h e = IsTrue (keeps_demand e i new) ⊎ HasDemand m f e.kind h (demand_at e.kind i new)

-- an exchange is from the entry that the vCPU last found or left there since it took the lock
pub record MayExchangeFrom (m : Machine) (f i expected new : ℕ) (h : Holdings) (e : Lock) : Type 0 where
  pub seen : e.seen ≡ Some (record { index = i; word = expected })
  pub may : MayExchange m f i new h e

-- ---- a descriptor page in the own work, and an entry of ordinary memory
-- the word that the vCPU last found there is fixed
pub record MayFix (i new : ℕ) (e : Work) : Type 0 where
  pub work : IsTrue (is_work (kind_fields e.word))
  pub kind : (kind_fields e.word).kind ≡ kinds.Desc
  pub unmarked : (kind_fields e.word).unflushed ≡ false
  pub word : ℕ
  pub seen : e.seen ≡ Some (record { index = i; word = word })
  pub fix : fixed word ≡ Some new

-- a writable frame, or a live descriptor page and a fixed word, by a typed reference in hand
pub record MayWrite (m : Machine) (f new : ℕ) (h : Holdings) : Type 0 where
  pub in_hand : 0 < typed_to f h.typed
  pub kind : PageType
  pub live : IsTrue (knows_live (sizes_of m) f kind h)
  pub ordinary : (kind ≡ kinds.Writable) ⊎ ((kind ≡ kinds.Desc) × (fixed new ≡ Some new))

-- ---- legal
-- what the frame is in the hand
abbrev pub AllowsPlain : Machine → ℕ → ℕ → ℕ → Holdings → Option Claimed → Option Work → Type 0
AllowsPlain m f i new h (Some c) _ = new ≡ 0
AllowsPlain m f i new h None (Some e) = MayFix i new e
AllowsPlain m f i new h None None = MayWrite m f new h

abbrev pub AllowsCell : Machine → ℕ → ℕ → ℕ → Holdings → Option Lock → Type 0
AllowsCell m f i new h (Some e) = MayExchange m f i new h e
AllowsCell m f i new h None = AllowsPlain m f i new h (claim_of f h.claimed) (work_on f h.works)

abbrev pub AllowsCellFrom : Machine → ℕ → ℕ → ℕ → ℕ → Holdings → Option Lock → Type 0
AllowsCellFrom m f i expected new h (Some e) = MayExchangeFrom m f i expected new h e
AllowsCellFrom m f i expected new h None = ⊥

abbrev pub LegalCell : Machine → ℕ → Holdings → Place → Act → Type 0
LegalCell m s h (Cell f i) (Store new) = AllowsCell m f i new h (lock_on f h.locks)
LegalCell m s h (Cell f i) (Cas expected new) = AllowsCellFrom m f i expected new h (lock_on f h.locks)
LegalCell m s h _ _ = ⊥

-- ---- after
-- the new demand goes out of the hand, and the old one comes in
abbrev pub exchanged : ℕ → ℕ → ℕ → Option Lock → Holdings → Holdings
exchanged i new w (Some e) h =
    if keeps_demand e i new then h else demand_in true (demand_at e.kind i w) (demand_out (demand_at e.kind i new) h)
exchanged i new w None h = h

abbrev pub after_cell : Place → Act → ℕ → Holdings → Holdings
after_cell (Cell f i) (Store new) w h = exchanged i new w (lock_on f h.locks) h
after_cell (Cell f i) (Cas expected new) w h = if w == expected then exchanged i new w (lock_on f h.locks) h else h
after_cell _ _ w h = h
