-- The map of free frames.
use Rattle.std.specs.Prelude.{◌≡◌, ℕ, ◌+◌, ◌-◌, ◌/◌, ◌%◌, ◌^◌, ◌<◌, ◌==◌, ◌&&◌, ◌⊎◌, Bool, List, ◌∷◌, map, ◌++◌, Option, Some, None, IsTrue}
use Rattle.xp_words.specs.declared.place.Place.{Place}
use Rattle.xp_words.specs.declared.place.Place.TheVariants.{Map}
use Rattle.xp_board.specs.declared.step.Act.{Act}
use Rattle.xp_board.specs.declared.step.Act.TheVariants.{Add}
use Rattle.xp_board.specs.declared.holdings.Holdings.{Holdings}
use Rattle.xp_board.specs.Lists.{times, without_by, first_of}
use Rattle.xp_board.specs.Hands.{endings_of, claims_of}

-- the frame's bit, in word frame / 64
abbrev pub map_bit : ℕ → ℕ
map_bit f = 2 ^ (f % 64)

-- whether adding that to word k sets, or clears, the frame's bit
abbrev pub is_raise : ℕ → ℕ → ℕ → Bool
is_raise k by f = (f / 64 == k) && (map_bit f == by)

abbrev pub is_lower : ℕ → ℕ → ℕ → Bool
is_lower k by f = (f / 64 == k) && (2 ^ 64 - map_bit f == by)

-- the frame is ending or claimed, and its bit is not set
pub record MayHint (k by : ℕ) (h : Holdings) : Type 0 where
  pub frame : ℕ
  pub adds : IsTrue (is_raise k by frame)
  pub held : 0 < endings_of frame h.ending + claims_of frame h.claimed
  pub lowered : times frame h.raised ≡ 0

-- the frame is claimed, and its bit is set
pub record MayUnhint (k by : ℕ) (h : Holdings) : Type 0 where
  pub frame : ℕ
  pub adds : IsTrue (is_lower k by frame)
  pub held : 0 < claims_of frame h.claimed
  pub raised : 0 < times frame h.raised

abbrev pub LegalHint : Holdings → Place → Act → Type 0
LegalHint h (Map k) (Add by) = MayHint k by h ⊎ MayUnhint k by h
LegalHint h _ _ = ⊥

-- ---- after
-- the frames that are ending or claimed
abbrev pub held_frames : Holdings → List ℕ
held_frames h = map (λ e. e.frame) h.ending ++ map (λ e. e.frame) h.claimed

-- the frame whose bit is cleared: a raised one
abbrev pub lowered_frame : ℕ → ℕ → Holdings → Option ℕ
lowered_frame k by h = first_of (is_lower k by) h.raised

-- the frame whose bit is set
abbrev pub raised_frame : ℕ → ℕ → Holdings → Option ℕ
raised_frame k by h = first_of (is_raise k by) (held_frames h)

abbrev pub raised_by : Option ℕ → Option ℕ → List ℕ → List ℕ
raised_by (Some f) _ xs = without_by (λ g. g) f xs
raised_by None (Some f) xs = f ∷ xs
raised_by None None xs = xs

-- adding 2^63 both sets and clears bit 63: it clears the bit of a raised frame
abbrev pub after_hint : Place → Act → Holdings → Holdings
after_hint (Map k) (Add by) h = record h { raised = raised_by (lowered_frame k by h) (raised_frame k by h) h.raised }
after_hint _ _ h = h
