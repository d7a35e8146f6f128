-- What a walk reads of an entry, and that the bits which walks set leave it.
use Rattle.std.proofs.Common.{ap, ◌≢◌, ◌≡◌, ℕ, ◌+◌, ◌/◌, ◌%◌, ◌^◌, Bool, true, false, refl, ◌∙◌, arith, if◌then◌else◌}
use Rattle.std.proofs.lemmas.Bool.Decides.{nat_tests}
use Rattle.xp_words.specs.Entries.{is_bit, frame_of}
use Rattle.xp_board.specs.declared.holdings.Walk.{Walk}
use Rattle.xp_board.specs.FillSteps.{with_bit, touched, sets_dirty}
use Rattle.xp_board.proofs.Bits.{with_bit-other}
use Rattle.xp_board.specs.Reach.{Table, Reads, use_below}

-- of an entry a walk reads whether it is present, whether it may be written through, and the frame
pub record CellAlike (w w2 : ℕ) : Type 0 where
  pub present : is_bit 0 w2 ≡ is_bit 0 w
  pub writable : is_bit 1 w2 ≡ is_bit 1 w
  pub frame : frame_of w2 ≡ frame_of w

pub alike_same : (w w2 : ℕ) → w2 ≡ w → CellAlike w w2
alike_same w w2 e = record { present = ap (λ x. is_bit 0 x) e; writable = ap (λ x. is_bit 1 x) e; frame = ap frame_of e }

pub use_alike : (level w w2 : ℕ) → CellAlike w w2 → use_below level w2 ≡ use_below level w
use_alike level w w2 alike = rw alike.writable refl

pub not_reads : (level : ℕ) → Table level ≢ Reads
not_reads level e = cc

-- ---- a bit set by a walk
frame_by5 : (w : ℕ) (b : Bool) → is_bit 5 w ≡ b → frame_of (if b then w else w + 2 ^ 5) ≡ frame_of w
frame_by5 w true e = refl
frame_by5 w false e = let off : w / 2 ^ 5 % 2 ≡ 0 = grind (arith, nat_tests) in omega arith

frame_by6 : (w : ℕ) (b : Bool) → is_bit 6 w ≡ b → frame_of (if b then w else w + 2 ^ 6) ≡ frame_of w
frame_by6 w true e = refl
frame_by6 w false e = let off : w / 2 ^ 6 % 2 ≡ 0 = grind (arith, nat_tests) in omega arith

alike5 : (w : ℕ) → CellAlike w (with_bit 5 w)
alike5 w =
    record {
      present = with_bit-other w 5 0 (λ e. omega arith);
      writable = with_bit-other w 5 1 (λ e. omega arith);
      frame = frame_by5 w (is_bit 5 w) refl;
    }

alike6 : (w : ℕ) → CellAlike w (with_bit 6 w)
alike6 w =
    record {
      present = with_bit-other w 6 0 (λ e. omega arith);
      writable = with_bit-other w 6 1 (λ e. omega arith);
      frame = frame_by6 w (is_bit 6 w) refl;
    }

alike_then : (w x y : ℕ) → CellAlike w x → CellAlike x y → CellAlike w y
alike_then w x y one two = record { present = two.present ∙ one.present; writable = two.writable ∙ one.writable; frame = two.frame ∙ one.frame }

touched_by : (w : ℕ) (b : Bool) → CellAlike w (if b then with_bit 6 (with_bit 5 w) else with_bit 5 w)
touched_by w true = alike_then w (with_bit 5 w) _ (alike5 w) (alike6 (with_bit 5 w))
touched_by w false = alike5 w

pub touched_alike : (walk : Walk) (w : ℕ) → CellAlike w (touched walk w)
touched_alike walk w = touched_by w (sets_dirty walk)
