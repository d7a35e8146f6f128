-- How far a destruction has come: what the destroying vCPU knows by its steps, phase by phase.
use Rattle.std.specs.Prelude.{◌≡◌, ◌≢◌, ◌⊎◌, ℕ, ◌+◌, ◌<◌, ◌≤◌, ◌==◌, not, if◌then◌else◌, List, length, sum_by, IsTrue}
use Rattle.xp_words.specs.Machine.{Machine}
use Rattle.xp_words.specs.Places.{run_of, sizes_of}
use Rattle.xp_words.specs.declared.place.Place.TheVariants.{Kind, Life, Refs, Vcpu}
use Rattle.xp_words.specs.declared.reply.LogLine.{LogLine}
use Rattle.xp_words.specs.declared.reply.LogLine.TheVariants as lines
use Rattle.xp_board.specs.declared.holdings.Holdings.{Holdings}
use Rattle.xp_board.specs.LifeSteps.{HasCleared, HasEmptied, HasStopped}
use Rattle.xp_board.specs.Readings.{domain_of, is_context, is_owned_by}
use Rattle.xp_board.specs.Steps.{some_before, some_since}
use Rattle.xp_board.specs.Told.{PortValue}
use Rattle.step_maker.specs.Pauses.{found_in_use}
use Rattle.dead_domains.specs.Listing.{IsListed}
use Rattle.domain_destroy.specs.declared.place.DestroyAt.{DestroyAt}
use Rattle.domain_destroy.specs.declared.place.DestroyAt.TheVariants.{Begins, Stops, Empties, Clears, Checks, Lists}

-- the domain is one of the machine's, and not the vCPU's own
pub record IsForeign (n : Machine) (s d : ℕ) : Type 0 where
  pub real : d < length n.page_limit
  pub other : domain_of n s ≢ d

-- below step `since` vCPU s stored the life word
pub record HasDoomed (n : Machine) (s d since : ℕ) (h : Holdings) : Type 0 where
  pub foreign : IsForeign n s d
  pub stored : IsTrue (some_before (sizes_of n) since (Life d) (λ w. w == s + 1) h.steps)
  pub order : since ≤ length h.steps

-- since then each vCPU of d below k was found stopped
pub record FoundStopped (n : Machine) (s d k : ℕ) (h : Holdings) : Type 0 where
  pub since : ℕ
  pub doomed : HasDoomed n s d since h
  pub stopped : (v : ℕ) → v < k → v < length n.vcpu_domain → domain_of n v ≡ d →
      IsTrue (some_since (sizes_of n) since (run_of v) (λ w. w == 1) h.steps)

-- all are stopped, and since then each word of those below k that may name a frame was found empty, or emptied
pub record FoundEmpty (n : Machine) (s d k : ℕ) (h : Holdings) : Type 0 where
  pub foreign : IsForeign n s d
  pub since : ℕ
  pub stopped : HasStopped n s d since h
  pub order : since ≤ length h.steps
  pub empty : (v j : ℕ) → v < k → v < length n.vcpu_domain → domain_of n v ≡ d → j < 38 → IsTrue (is_context j) →
      IsTrue (some_since (sizes_of n) since (Vcpu v j) (λ w. w == 0) h.steps)

-- so are all of them, and since then each frame below k was found not the domain's, or without its marks
pub record FoundCleared (n : Machine) (s d k since : ℕ) (h : Holdings) : Type 0 where
  pub foreign : IsForeign n s d
  pub emptied : HasEmptied n s d since h
  pub order : since ≤ length h.steps
  pub cleared : (f : ℕ) → f < k → f < n.frames → IsTrue (some_since (sizes_of n) since (Refs f) (λ w. not (is_owned_by d w)) h.steps) ⊎ HasCleared n f since h

-- since then the frame was found not the domain's, or no page table nor descriptor page in use
abbrev pub IsUnused : Machine → ℕ → ℕ → ℕ → Holdings → Type 0
IsUnused n d since f h =
    IsTrue (some_since (sizes_of n) since (Refs f) (λ w. not (is_owned_by d w)) h.steps) ⊎ IsTrue (some_since (sizes_of n) since (Kind f) (λ w. not (found_in_use w)) h.steps)

-- so are all frames, and none is in use
pub record FoundUnused (n : Machine) (s d since : ℕ) (h : Holdings) : Type 0 where
  pub cleared : FoundCleared n s d n.frames since h
  pub unused : (f : ℕ) → f < n.frames → IsUnused n d since f h

-- and since then each frame below k was found not the domain's, or is listed
pub record FoundListed (n : Machine) (s d k since : ℕ) (h : Holdings) (op : ℕ) (log : List LogLine) : Type 0 where
  pub unused : FoundUnused n s d since h
  pub listed : (f : ℕ) → f < k → f < n.frames → IsTrue (some_since (sizes_of n) since (Refs f) (λ w. not (is_owned_by d w)) h.steps) ⊎ IsListed n d since f h op log

-- ---- by the place
abbrev pub left_by_line : ℕ → LogLine → ℕ
left_by_line op (lines.Left o frame found) = if o == op then 1 else 0
left_by_line op _ = 0

-- how many frames that operation lists in a log
abbrev pub lefts_in : ℕ → List LogLine → ℕ
lefts_in op log = sum_by (left_by_line op) log

abbrev pub left_at : DestroyAt → ℕ
left_at (Lists frame left) = left
left_at _ = 0

-- of so many frames
abbrev pub seen_to : DestroyAt → ℕ
seen_to (Lists frame left) = frame
seen_to _ = 0

abbrev pub KnowsAt : Machine → ℕ → ℕ → DestroyAt → ℕ → List LogLine → Holdings → Type 0
KnowsAt n s d Begins op log h = Unit {0}
KnowsAt n s d (Stops vcpu) op log h = FoundStopped n s d vcpu h
KnowsAt n s d (Empties vcpu) op log h = FoundEmpty n s d vcpu h
KnowsAt n s d (Clears frame) op log h = (since : ℕ) × FoundCleared n s d frame since h
KnowsAt n s d Checks op log h = (since : ℕ) × FoundCleared n s d n.frames since h
KnowsAt n s d (Lists frame left) op log h = (since : ℕ) × FoundListed n s d frame since h op log

-- The destruction of domain d, operation number `op` of the vCPU, has come to that place, and has listed so many frames in the log, each at most once.
pub record HasCome (n : Machine) (s d : ℕ) (at : DestroyAt) (op : ℕ) (log : List LogLine) (h : Holdings) : Type 0 where
  pub knows : KnowsAt n s d at op log h
  pub counts : lefts_in op log ≡ left_at at
  pub few : left_at at ≤ seen_to at
  pub inside : seen_to at ≤ n.frames

abbrev pub HasComeTo : PortValue → ℕ → DestroyAt → ℕ → List LogLine → Type 0
HasComeTo v d at op log = HasCome v.post.machine v.post.vcpu d at op log v.holdings
