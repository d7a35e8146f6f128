-- What a port holds, but for its steps and for what its board tells: one equation.
use Rattle.std.specs.Prelude.{◌≡◌, ℕ, [], false, None, Some}
use Rattle.xp_words.specs.Machine.{IsMachine}
use Rattle.xp_board.specs.declared.holdings.Holdings.{Holdings}
use Rattle.xp_board.specs.Hands.{IsEmptyHand}
use Rattle.xp_board.specs.Readings.{domain_of}
use Rattle.xp_board.specs.Told.{PortValue}

abbrev pub still : PortValue → PortValue
still v = record { post = v.post; holdings = record v.holdings { steps = [] }; told = None }

-- w is the same port as v, and holds h
abbrev pub Holds : PortValue → PortValue → Holdings → Type 0
Holds v w h = still w ≡ record { post = v.post; holdings = record h { steps = [] }; told = None }

-- the same port, with the same in hand
abbrev pub Same : PortValue → PortValue → Type 0
Same v w = still w ≡ still v

-- the domain of the own vCPU
abbrev pub own_domain : PortValue → ℕ
own_domain v = domain_of v.post.machine v.post.vcpu

-- the vCPU runs, no walk is in flight, and the machine is one
pub record MayWork (v : PortValue) : Type 0 where
  pub running : v.holdings.run ≡ Some 0
  pub no_walk : v.holdings.walk ≡ None
  pub machine : IsMachine v.post.machine

-- nothing in hand
pub record Rests (v : PortValue) : Type 0 where
  pub may : MayWork v
  pub empty : IsEmptyHand v.holdings

-- ---- where the own translations may have been flushed
-- what a port holds beside its steps, its translations, and when they were flushed
abbrev pub quiet : PortValue → PortValue
quiet v = record { post = v.post; holdings = record v.holdings { steps = []; cache = []; acked = 0; cold = false }; told = None }

-- w is the same port as v, and holds h; its translations may have been flushed
abbrev pub FlushedHolds : PortValue → PortValue → Holdings → Type 0
FlushedHolds v w h = quiet w ≡ record { post = v.post; holdings = record h { steps = []; cache = []; acked = 0; cold = false }; told = None }

abbrev pub FlushedSame : PortValue → PortValue → Type 0
FlushedSame v w = quiet w ≡ quiet v
