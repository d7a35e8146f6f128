-- The fields of a board that lists its steps.
use Rattle.std.specs.Prelude.{◌≡◌, false}
use Rattle.shared_board.specs.Board.{Board}
use Rattle.told_board.specs.Telling.{told_steps, words_after}
use Rattle.told_board.specs.declared.told_board.ToldBoard.TheInside.{Inside}

abbrev pub board_of : Inside → Board
board_of b = b.board

-- the list is that of all steps, unless one was lost for want of memory
pub record IsToldBoard (b : Inside) : Type 0 where
  pub words : b.board.story.words ≡ words_after b.board.story.opening b.board.story.log
  pub steps : b.lost ≡ false → b.steps.items ≡ told_steps b.board.story.opening b.board.story.log
