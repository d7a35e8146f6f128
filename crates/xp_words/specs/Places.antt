-- The words of a machine by name, and where each stands in the list of all words.
use Rattle.std.specs.Prelude.{ℕ, ◌+◌, ◌*◌, ◌-◌, ◌/◌, ◌%◌, ◌==◌, ◌&&◌, nat_lt, if◌then◌else◌, Bool, true, List, length, slice_index}
use Rattle.xp_words.specs.Machine.{Machine}
use Rattle.xp_words.specs.declared.place.Place.{Place}
use Rattle.xp_words.specs.declared.place.Place.TheVariants.{Clock, Pages, Life, Vcpu, Refs, Kind, M2p, Cell, Map, Priv}

-- how many domains, vCPUs and frames there are
pub record Sizes : Type 0 where
  pub domains : ℕ
  pub vcpus : ℕ
  pub frames : ℕ

abbrev pub sizes_of : Machine → Sizes
sizes_of m = record { domains = length m.page_limit; vcpus = length m.vcpu_domain; frames = m.frames }

-- ---- the words of a vCPU by name
-- the bases of its page tables, for kernel and user mode
abbrev pub base_of : ℕ → Place
base_of v = Vcpu v 0

abbrev pub user_base_of : ℕ → Place
user_base_of v = Vcpu v 1

-- frames whose release is unfinished
abbrev pub old0_of : ℕ → Place
old0_of v = Vcpu v 2

abbrev pub old1_of : ℕ → Place
old1_of v = Vcpu v 3

-- up to which clock value it is asked to flush its translations, and up to which it has
abbrev pub asked_of : ℕ → Place
asked_of v = Vcpu v 4

abbrev pub flushed_of : ℕ → Place
flushed_of v = Vcpu v 5

-- 0 running, 1 stopped, 2 off its processor
abbrev pub run_of : ℕ → Place
run_of v = Vcpu v 6

abbrev pub ldt_base_of : ℕ → Place
ldt_base_of v = Vcpu v 7

-- how many words the free map has
abbrev pub map_words : Sizes → ℕ
map_words z = (z.frames + 63) / 64

-- whether the machine has that word
unfoldable pub is_place : Sizes → Place → Bool
is_place z Clock = true
is_place z (Pages d) = nat_lt d z.domains
is_place z (Life d) = nat_lt d z.domains
is_place z (Vcpu v k) = nat_lt v z.vcpus && nat_lt k 38
is_place z (Refs f) = nat_lt f z.frames
is_place z (Kind f) = nat_lt f z.frames
is_place z (M2p f) = nat_lt f z.frames
is_place z (Cell f i) = nat_lt f z.frames && nat_lt i 512
is_place z (Map k) = nat_lt k (map_words z)
is_place z (Priv d) = nat_lt d z.domains

abbrev pub first_vcpu : Sizes → ℕ
first_vcpu z = 1 + 2 * z.domains

abbrev pub first_frame : Sizes → ℕ
first_frame z = 1 + 2 * z.domains + 38 * z.vcpus

abbrev pub first_map : Sizes → ℕ
first_map z = 1 + 2 * z.domains + 38 * z.vcpus + 515 * z.frames

abbrev pub first_priv : Sizes → ℕ
first_priv z = 1 + 2 * z.domains + 38 * z.vcpus + 515 * z.frames + map_words z

-- where the word stands in the list
unfoldable pub number : Sizes → Place → ℕ
number z Clock = 0
number z (Pages d) = 1 + 2 * d
number z (Life d) = 2 + 2 * d
number z (Vcpu v k) = first_vcpu z + 38 * v + k
number z (Refs f) = first_frame z + 515 * f
number z (Kind f) = first_frame z + 515 * f + 1
number z (M2p f) = first_frame z + 515 * f + 2
number z (Cell f i) = first_frame z + 515 * f + 3 + i
number z (Map k) = first_map z + k
number z (Priv d) = first_priv z + d

-- how many words there are
unfoldable pub size : Sizes → ℕ
size z = first_priv z + z.domains

-- the word of a frame's own
abbrev pub frame_place : ℕ → ℕ → Place
frame_place f k =
    if k == 0 then Refs f else if k == 1 then Kind f else if k == 2 then M2p f else Cell f (k - 3)

-- the word that stands there
unfoldable pub place_at : Sizes → ℕ → Place
place_at z n =
    if n == 0 then Clock
    else if nat_lt n (first_vcpu z) then (if n % 2 == 1 then Pages ((n - 1) / 2) else Life ((n - 2) / 2))
    else if nat_lt n (first_frame z) then Vcpu ((n - first_vcpu z) / 38) ((n - first_vcpu z) % 38)
    else if nat_lt n (first_map z) then frame_place ((n - first_frame z) / 515) ((n - first_frame z) % 515)
    else if nat_lt n (first_priv z) then Map (n - first_map z)
    else Priv (n - first_priv z)

-- the words by name; 0 where the machine has no such word
unfoldable pub memory : Sizes → List ℕ → Place → ℕ
memory z words p = if is_place z p then slice_index words (number z p) else 0
