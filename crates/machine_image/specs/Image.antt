-- The bytes of an image: the fixed numbers of a machine and its words, as numbers of eight bytes each.
use Rattle.std.specs.Prelude.{◌≡◌, ℕ, ◌<◌, ◌^◌, List, [], ◌∷◌, ◌++◌, length, All, codes}
use Rattle.std.specs.List.{flat_map}
use Rattle.byteorder.specs.Endian.{little_bytes}
use Rattle.xp_words.specs.Machine.{Machine, IsMachine}
use Rattle.xp_words.specs.Places.{size, sizes_of}

-- a number as eight bytes, the lowest of them first
unfoldable pub number_bytes : ℕ → List ℕ
number_bytes n = little_bytes 8 n

-- all bytes of these numbers, in order
abbrev pub numbers_bytes : List ℕ → List ℕ
numbers_bytes numbers = flat_map number_bytes numbers

-- frames, count limit, and how many domains and vCPUs there are
abbrev pub sizes_numbers : Machine → List ℕ
sizes_numbers m = m.frames ∷ m.limit ∷ length m.page_limit ∷ length m.vcpu_domain ∷ []

-- these, the page limits, the privilege masks, and the domains of the vCPUs
abbrev pub fixed_numbers : Machine → List ℕ
fixed_numbers m = sizes_numbers m ++ (m.page_limit ++ (m.privilege ++ m.vcpu_domain))

-- eight letters, these numbers, how many words there are, and the words
unfoldable pub image_of : Machine → List ℕ → List ℕ
image_of m words = codes "XPVIMG01" ++ numbers_bytes (fixed_numbers m ++ (length words ∷ words))

-- what has an image: a machine, and as many words as it has, of 64 bits each
pub record IsImaged (m : Machine) (words : List ℕ) : Type 0 where
  pub machine : IsMachine m
  pub whole : length words ≡ size (sizes_of m)
  pub narrow : All (λ w. w < 2 ^ 64) words
