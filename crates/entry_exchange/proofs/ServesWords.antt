-- What a new word asks: of the level of its table, and the bits that are kept of the old word change nothing of it.
use Rattle.std.proofs.Common.{◌≡◌, ◌≢◌, ◌&&◌, not, ℕ, ◌+◌, ◌/◌, ◌%◌, ◌^◌, Bool, true, false, if◌then◌else◌, IsTrue, refl, ◌∙◌, arith}
use Rattle.std.proofs.lemmas.Bool.Decides.{nat_tests}
use Rattle.xp_words.specs.Entries.{below, demand_at, demand_of, frame_of, is_bit, is_lowest, is_reserved, is_slot}
use Rattle.xp_words.specs.declared.entry.Demand.{Demand}
use Rattle.xp_words.specs.declared.entry.Demand.TheVariants.{Bad, Nothing, Read, Typed}
use Rattle.xp_words.specs.declared.kind.PageType.{PageType}
use Rattle.xp_board.specs.Found.{is_same_entry, without_bits}
use Rattle.xp_board.proofs.EntryWords.{entry_asks_same}
use Rattle.step_maker.specs.Licences.{with_old_bit}
use Rattle.partial_state.specs.Levels.{level_type}
use Rattle.entry_exchange.specs.Parts.{IsOfLevel}
use Rattle.entry_exchange.specs.Words.{word_kept}

set5 : (w : ℕ) (b : Bool) → is_bit 5 w ≡ b → without_bits (if b then w else w + 2 ^ 5) ≡ without_bits w
set5 w true e = refl
set5 w false e = let off : w / 2 ^ 5 % 2 ≡ 0 = grind (arith, nat_tests) in omega arith

set6 : (w : ℕ) (b : Bool) → is_bit 6 w ≡ b → without_bits (if b then w else w + 2 ^ 6) ≡ without_bits w
set6 w true e = refl
set6 w false e = let off : w / 2 ^ 6 % 2 ≡ 0 = grind (arith, nat_tests) in omega arith

old5 : (x w : ℕ) (b : Bool) → is_bit 5 x ≡ b → without_bits (with_old_bit 5 x w) ≡ without_bits w
old5 x w true e = rw e (set5 w (is_bit 5 w) refl)
old5 x w false e = rw e refl

old6 : (x w : ℕ) (b : Bool) → is_bit 6 x ≡ b → without_bits (with_old_bit 6 x w) ≡ without_bits w
old6 x w true e = rw e (set6 w (is_bit 6 w) refl)
old6 x w false e = rw e refl

same_entry : (w x : ℕ) → without_bits w ≡ without_bits x → IsTrue (is_same_entry w x)
same_entry w x e = grind (arith, nat_tests)

pub kept_asks : (t : PageType) (i : ℕ) (keep : Bool) (seen word : ℕ) → demand_at t i (word_kept keep seen word) ≡ demand_at t i word
kept_asks t i true seen word =
    let both = old6 seen (with_old_bit 5 seen word) (is_bit 6 seen) refl ∙ old5 seen word (is_bit 5 seen) refl in
    entry_asks_same t i (word_kept true seen word) word (same_entry (word_kept true seen word) word both)
kept_asks t i false seen word = refl

-- ---- what is not bad is of the level of its table
abbrev asked_by : Bool → Bool → Bool → Bool → ℕ → PageType → Demand
asked_by slot gone reserved plain g t = if slot then Nothing else if gone then Nothing else if reserved then Bad else if plain then Read g else Typed g t

level_by : (level : ℕ) (slot gone reserved plain : Bool) (g : ℕ) → asked_by slot gone reserved plain g (below (level_type level)) ≢ Bad → IsOfLevel level (asked_by slot gone reserved plain g (below (level_type level)))
level_by level true gone reserved plain g off = tt
level_by level false true reserved plain g off = tt
level_by level false false true plain g off = absurd (off refl)
level_by level false false false true g off = tt
level_by level false false false false g off = refl

pub fits_level : (level i w : ℕ) → demand_at (level_type level) i w ≢ Bad → IsOfLevel level (demand_at (level_type level) i w)
unfolding demand_at demand_of
fits_level level i w off =
    level_by level (is_slot (level_type level) i) (not (is_bit 0 w)) (is_reserved (is_lowest (level_type level)) w) (is_lowest (level_type level) && not (is_bit 1 w)) (frame_of w) off
