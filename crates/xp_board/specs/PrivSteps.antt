-- Privileges given and taken while the machine runs.
use Rattle.std.specs.Prelude.{◌≡◌, ℕ, ◌+◌, ◌-◌, ◌^◌, ◌<◌, ◌⊎◌, if◌then◌else◌, length, IsTrue}
use Rattle.xp_words.specs.Entries.{is_bit}
use Rattle.xp_words.specs.Machine.{Machine}
use Rattle.xp_words.specs.declared.place.Place.{Place}
use Rattle.xp_words.specs.declared.place.Place.TheVariants.{Priv}
use Rattle.xp_words.specs.Places.{sizes_of}
use Rattle.xp_board.specs.declared.step.Act.{Act}
use Rattle.xp_board.specs.declared.step.Act.TheVariants.{Cas}
use Rattle.xp_board.specs.declared.holdings.Holdings.{Holdings}
use Rattle.xp_board.specs.FillSteps.{with_bit}
use Rattle.xp_board.specs.Steps.{some_since}
use Rattle.xp_board.specs.Readings.{domain_of, has_now}

abbrev pub without_bit : ℕ → ℕ → ℕ
without_bit i w = if is_bit i w then w - 2 ^ i else w

-- given: set now, and ever
abbrev pub granted : ℕ → ℕ → ℕ
granted o w = with_bit (16 + o) (with_bit o w)

-- taken away: ever stays
abbrev pub revoked : ℕ → ℕ → ℕ
revoked o w = without_bit o w

-- privilege over a domain over which the vCPU's own domain was found to have it
pub record MaySetPrivilege (m : Machine) (s expected new : ℕ) (h : Holdings) : Type 0 where
  pub over : ℕ
  pub domain : over < length m.page_limit
  pub left : (new ≡ granted over expected) ⊎ (new ≡ revoked over expected)
  pub own : IsTrue (some_since (sizes_of m) 0 (Priv (domain_of m s)) (has_now over) h.steps)

abbrev pub LegalPriv : Machine → ℕ → Holdings → Place → Act → Type 0
LegalPriv m s h (Priv d) (Cas expected new) = MaySetPrivilege m s expected new h
LegalPriv m s h _ _ = ⊥
