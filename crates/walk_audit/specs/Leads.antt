-- Where a recorded entry may lead with a type, where no vCPU holds anything.
use Rattle.std.specs.Prelude.{◌≡◌, ◌+◌, ◌==◌, ◌&&◌, ℕ, ◌⊎◌, if◌then◌else◌, IsTrue}
use Rattle.xp_words.specs.PageTypes.{type_number}
use Rattle.xp_words.specs.declared.kind.KindWord.{KindWord}
use Rattle.xp_board.specs.Readings.{is_live, is_partial}
use Rattle.word_readers.specs.Recorded.{recorded_entries}

-- the target is live; or it is partial, and the entry is the last recorded one of a partial table
abbrev pub LeadsAsRead : KindWord → ℕ → KindWord → Type 0
LeadsAsRead table i target = IsTrue (is_live target) ⊎ (IsTrue (is_partial target) × IsTrue (is_partial table) × (i + 1 ≡ table.progress))

-- how many words of a frame are entries that are recorded, or descriptors of a live page
abbrev pub words_looked_at : KindWord → ℕ
words_looked_at k = if is_live k && (type_number k.kind == 5) then 512 else recorded_entries k
