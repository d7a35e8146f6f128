-- The fixed numbers of a machine.
use Rattle.std.specs.Prelude.{◌≡◌, ℕ, ◌^◌, ◌<◌, ◌≤◌, not, List, length, slice_index, All, IsTrue}
use Rattle.xp_words.specs.Entries.{is_bit}

pub record Machine : Type 0 where
  pub frames : ℕ
  pub limit : ℕ
  pub page_limit : List ℕ
  pub privilege : List ℕ
  pub vcpu_domain : List ℕ

-- no bit at or above the number of domains, and not the domain's own
pub record IsMask (domains d mask : ℕ) : Type 0 where
  pub within : mask < 2 ^ domains
  pub no_own : IsTrue (not (is_bit d mask))

-- frames 1 to 65,536; count limit 2 to 67,108,863; 1 to 16 domains and vCPUs
pub record IsMachine (m : Machine) : Type 0 where
  pub some_frames : 1 ≤ m.frames
  pub few_frames : m.frames ≤ 65536
  pub some_count : 2 ≤ m.limit
  pub few_counts : m.limit < 2 ^ 26
  pub some_domains : 1 ≤ length m.page_limit
  pub few_domains : length m.page_limit ≤ 16
  pub few_pages : All (λ n. n ≤ 65536) m.page_limit
  pub masks : length m.privilege ≡ length m.page_limit
  pub no_own : (d : ℕ) → d < length m.privilege → IsMask (length m.page_limit) d (slice_index m.privilege d)
  pub some_vcpus : 1 ≤ length m.vcpu_domain
  pub few_vcpus : length m.vcpu_domain ≤ 16
  pub of_domains : All (λ d. d < length m.page_limit) m.vcpu_domain
