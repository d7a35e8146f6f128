-- Pins of live tables.
use Rattle.std.specs.Prelude.{ℕ, true, false}
use Rattle.xp_words.specs.KindWords.{kind_write}
use Rattle.xp_words.specs.declared.kind.KindWord.{KindWord}
use Rattle.xp_board.specs.declared.holdings.Holdings.{Holdings}
use Rattle.xp_board.specs.KindSteps.{pinned, unpinned}
use Rattle.kind_words.specs.Kinds.{looked_at}

abbrev pub pinned_kind : KindWord → KindWord
pinned_kind k = record k { pinned = true }

abbrev pub unpinned_kind : KindWord → KindWord
unpinned_kind k = record k { pinned = false }

-- a typed reference went out of the hand into the pin
abbrev pub gave_pin : ℕ → KindWord → Holdings → Holdings
gave_pin f k h = pinned f (looked_at f (kind_write (pinned_kind k)) h)

-- the reference of the pin came into the hand, known live
abbrev pub took_pin : ℕ → KindWord → Holdings → Holdings
took_pin f k h = unpinned f k (looked_at f (kind_write (unpinned_kind k)) h)
