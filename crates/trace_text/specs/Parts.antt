-- What stays true while the lines of a trace are read.
use Rattle.std.specs.Prelude.{◌≡◌, ℕ, ◌+◌, ◌<◌, ◌≤◌, ◌==◌, ◌||◌, Bool, false, List, [], length, slice_index, slice_index_or, All, AllPairs, IsTrue}
use Rattle.std.specs.List.{list_any}
use Rattle.xp_words.specs.Machine.{IsMask}
use Rattle.trace_text.specs.declared.trace.Own.{Own}
use Rattle.trace_text.specs.Counted.{extents_of, destroys_of, ops_of, turns_of, pages_of, is_apart, has_frame}
use Rattle.trace_text.specs.Fronts.{Front, most_frames}
use Rattle.trace_text.specs.WellFormed.{IsCellRun, IsOp}

-- what the counters beside the lines stand for
pub record Tallies (f : Front) (taken : List Bool) (pages : List ℕ) (ops destroys extents turned : ℕ) : Type 0 where
  pub each_frame : length taken ≡ f.frames
  pub taken_are : (k : ℕ) → k < f.frames → slice_index_or taken k false ≡ list_any (has_frame k) f.owned
  pub pages_are : (d : ℕ) → d < 16 → slice_index pages d ≡ pages_of d f.owned
  pub ops_are : ops ≡ ops_of f.scripts
  pub destroys_are : destroys ≡ destroys_of f.scripts
  pub extents_are : extents ≡ extents_of f.scripts
  pub turned_are : turned ≡ turns_of f.turns
  pub few_ops : ops ≤ 65536
  pub few_destroys : destroys ≤ 16
  pub few_extents : extents ≤ 1000000
  pub few_turned : turned ≤ 1000000

-- a mask of privileges for each of the domains
pub record HasMasks (domains : ℕ) (masks : List ℕ) : Type 0 where
  pub each : length masks ≡ domains
  pub are : (d : ℕ) → d < domains → IsMask domains d (slice_index masks d)

-- the numbers of the machine so far are within their ranges, once their lines were read
pub record HasMachine (f : Front) : Type 0 where
  pub version : 1 ≤ f.place → IsTrue ((f.version == 1) || (f.version == 2))
  pub some_frames : 2 ≤ f.place → 1 ≤ f.frames
  pub few_frames : 2 ≤ f.place → f.frames ≤ most_frames f.version
  pub some_count : 2 ≤ f.limit
  pub few_counts : f.limit ≤ 67108863
  pub some_clock : 1 ≤ f.clock
  pub clock : f.clock ≤ 68719476734
  pub some_domains : 5 ≤ f.place → 1 ≤ length f.domains
  pub few_domains : length f.domains ≤ 16
  pub few_pages : All (λ n. n ≤ 65536) f.domains
  pub masks : HasMasks (length f.domains) f.masks
  pub some_vcpus : 7 ≤ f.place → 1 ≤ length f.vcpus
  pub few_vcpus : length f.vcpus ≤ 16
  pub of_domains : All (λ d. d < length f.domains) f.vcpus

-- frames of one of the domains, one or more
pub record IsRun (domains frames : ℕ) (o : Own) : Type 0 where
  pub domain : o.domain < domains
  pub some : 1 ≤ o.count
  pub inside : o.first + o.count ≤ frames

-- so is what the machine opens with, and what its vCPUs do
pub record HasOpening (f : Front) : Type 0 where
  pub unowned : f.place < 8 → f.owned ≡ []
  pub owned : All (IsRun (length f.domains) f.frames) f.owned
  pub apart : AllPairs (λ a b. IsTrue (is_apart a b)) f.owned
  pub pages : (d : ℕ) → d < length f.domains → pages_of d f.owned ≤ slice_index f.domains d
  pub unfilled : f.place < 9 → f.cells ≡ []
  pub cells : All (IsCellRun f.frames) f.cells
  pub unscripted : f.place < 7 → f.scripts ≡ []
  pub scripts : length f.scripts ≡ length f.vcpus
  pub ops : All (λ script. All (IsOp f.version) script) f.scripts
  pub turns : All (λ t. t.vcpu < length f.vcpus) f.turns
