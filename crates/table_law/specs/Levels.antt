-- What an entry asks, and the tables in work.
use Rattle.std.specs.Prelude.{ℕ, Bool, false}
use Rattle.xp_words.specs.declared.kind.PageType.{PageType}
use Rattle.xp_words.specs.declared.entry.Demand.{Demand}
use Rattle.xp_words.specs.Entries.{demand_at}
use Rattle.kind_words.specs.Kinds.{dead_kind}
use Rattle.table_law.specs.Plain.{Plain, with_kind, reference_back}

abbrev pub entry_of : Plain → PageType → ℕ → ℕ → Demand
entry_of p t f i = demand_at t i (p.cells f i)

-- a frame whose last type count was given back: it is dead, and its reference goes too
abbrev pub closed : ℕ → PageType → Plain → Plain
closed g t p = reference_back g (with_kind g (dead_kind t false 0) p)

-- the same, with the mark of an awaited flush, or without
abbrev pub closed_as : Bool → ℕ → PageType → Plain → Plain
closed_as u g t p = reference_back g (with_kind g (dead_kind t u 0) p)

-- a table of level l + 1 of which the last `ahead` entries are still to be looked at
pub record TableLeft : Type 0 where
  pub frame : ℕ
  pub level : ℕ
  pub ahead : ℕ
