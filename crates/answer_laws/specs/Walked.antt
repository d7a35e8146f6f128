-- What a walk found on its way down.
use Rattle.std.specs.Prelude.{◌≡◌, ℕ, ◌<◌, false, IsTrue}
use Rattle.xp_words.specs.Entries.{frame_of}
use Rattle.xp_words.specs.Machine.{Machine}
use Rattle.xp_words.specs.declared.place.Place.TheVariants.{Cell, Vcpu}
use Rattle.xp_board.specs.Readings.{is_frame_word}
use Rattle.step_maker.specs.Finding.{Finding, FoundAt}
use Rattle.step_maker.specs.Licences.{is_unmapped}

-- That entry was found in a table of level 3 which an entry of level 4 names, that is mapped; and that one in the table that a base of the vCPU names.
pub record SeenBelow (n : Machine) (s : ℕ) (F : Finding) (e : ℕ) : Type 0 where
  pub k : ℕ
  pub base : ℕ
  pub table : ℕ
  pub index : ℕ
  pub entry : ℕ
  pub lower : ℕ
  pub is_base : k < 2
  pub names : FoundAt F (Vcpu s k) base
  pub is_table : IsTrue (is_frame_word table base)
  pub above : FoundAt F (Cell table index) entry
  pub mapped : is_unmapped n entry ≡ false
  pub found : FoundAt F (Cell (frame_of entry) lower) e
