-- In which order an audit looks, and which verdict comes first.
use Rattle.std.specs.Prelude.{◌≡◌, ℕ, ◌+◌, ◌*◌, ◌<◌, ◌≤◌, ◌⊎◌, Option, Some, None}
use Rattle.xp_words.specs.Machine.{Machine}
use Rattle.xp_words.specs.declared.place.Place.{Place}
use Rattle.walk_audit.specs.Breaks.{Breaks}
use Rattle.walk_audit.specs.declared.verdict.Verdict.{Verdict}
use Rattle.walk_audit.specs.declared.verdict.Verdict.TheVariants as verdicts

-- the number of the check: words, hands, counts of frames, pages, entries, words of vCPUs, stamps, dead domains, the map
abbrev pub check_of : Verdict → ℕ
check_of verdicts.Sound = 9
check_of (verdicts.Word k w) = 0
check_of (verdicts.Held f) = 1
check_of (verdicts.Refs f want found) = 2
check_of (verdicts.Count f want found) = 2
check_of (verdicts.OtherKind f) = 2
check_of (verdicts.Pages d want found) = 3
check_of (verdicts.BadEntry f i) = 4
check_of (verdicts.Context v k) = 5
check_of (verdicts.Stamp k) = 6
check_of (verdicts.Dead d) = 7
check_of (verdicts.Map k) = 8

-- Its place within the check. Of a frame are told, one after the other, its references, its type count and their types; entries are numbered
-- through all frames, 512 each, and words of vCPUs through all vCPUs, 38 each.
abbrev pub position : Verdict → ℕ
position verdicts.Sound = 0
position (verdicts.Word k w) = k
position (verdicts.Held f) = f
position (verdicts.Refs f want found) = 3 * f
position (verdicts.Count f want found) = 3 * f + 1
position (verdicts.OtherKind f) = 3 * f + 2
position (verdicts.Pages d want found) = d
position (verdicts.BadEntry f i) = 512 * f + i
position (verdicts.Context v k) = 38 * v + k
position (verdicts.Stamp k) = k
position (verdicts.Dead d) = d
position (verdicts.Map k) = k

-- verdict v comes before u, or in the same place
abbrev pub IsNoLater : Verdict → Verdict → Type 0
IsNoLater v u = (check_of v < check_of u) ⊎ ((check_of v ≡ check_of u) × (position v ≤ position u))

-- ---- what a part of a check finds
-- a verdict of check c whose position is from `low` up to `high`
pub record IsVerdictWithin (c low high : ℕ) (v : Verdict) : Type 0 where
  pub check : check_of v ≡ c
  pub from : low ≤ position v
  pub below : position v < high

-- none of them breaks the words
pub record NoneBreaks (n : Machine) (m : Place → ℕ) (c low high : ℕ) : Type 0 where
  pub none : (u : Verdict) → IsVerdictWithin c low high u → Breaks n m u → ⊥

-- v does, and none that comes before it
pub record IsFirst (n : Machine) (m : Place → ℕ) (c low high : ℕ) (v : Verdict) : Type 0 where
  pub breaks : Breaks n m v
  pub within : IsVerdictWithin c low high v
  pub before : NoneBreaks n m c low (position v)

-- the first of them, if there is one
abbrev pub FirstVerdict : Machine → (Place → ℕ) → ℕ → ℕ → ℕ → Option Verdict → Type 0
FirstVerdict n m c low high None = NoneBreaks n m c low high
FirstVerdict n m c low high (Some v) = IsFirst n m c low high v

-- ---- what all checks find
-- no verdict of a check below c breaks the words
pub record PassedUpTo (n : Machine) (m : Place → ℕ) (c : ℕ) : Type 0 where
  pub none : (u : Verdict) → check_of u < c → Breaks n m u → ⊥

-- v breaks the words, and what breaks them does not come before it
pub record ComesFirst (n : Machine) (m : Place → ℕ) (v : Verdict) : Type 0 where
  pub breaks : Breaks n m v
  pub first : (u : Verdict) → Breaks n m u → IsNoLater v u

-- the first of all, if there is one
abbrev pub FirstFrom : Machine → (Place → ℕ) → Option Verdict → Type 0
FirstFrom n m None = PassedUpTo n m 9
FirstFrom n m (Some v) = ComesFirst n m v
