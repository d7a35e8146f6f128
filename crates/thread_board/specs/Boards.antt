-- The fields of a shared board.
use Rattle.std.specs.Prelude.{◌≡◌}
use Rattle.xp_words.specs.Places.{sizes_of, size}
use Rattle.xp_board.specs.Sound.{SoundWords}
use Rattle.thread_board.specs.Values.{BoardValue}
use Rattle.thread_board.specs.declared.board.SharedBoard.TheInside.{Inside}

abbrev pub board_value : Inside → BoardValue
board_value b = record { table = b.table.shared.table_id; machine = b.opening.layout; opening = b.opening.words }

pub record IsSharedInside (b : Inside) : Type 0 where
  pub key : b.table.shared.key ≡ b.opening
  pub no_slots : b.table.shared.table_id.slots ≡ 0
  pub words : b.table.shared.table_id.words ≡ size (sizes_of b.opening.layout)
  pub sound : SoundWords b.opening.layout b.opening.words
