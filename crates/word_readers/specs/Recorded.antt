-- The recorded entries of a frame, where no vCPU holds anything.
use Rattle.std.specs.Prelude.{ℕ, None}
use Rattle.xp_words.specs.declared.kind.KindWord.{KindWord}
use Rattle.xp_board.specs.Recorded.{held_of}

-- how many leading entries of a frame are recorded: all of a live table, as many as its progress of a partial one
abbrev pub recorded_entries : KindWord → ℕ
recorded_entries k = held_of k None
