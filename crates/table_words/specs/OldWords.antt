-- The own words that name frames whose release is unfinished.
use Rattle.std.specs.Prelude.{ℕ, ◌+◌, Option, Some}
use Rattle.xp_words.specs.declared.place.Place.{Place}
use Rattle.xp_words.specs.declared.place.Place.TheVariants.{Vcpu}
use Rattle.xp_board.specs.declared.holdings.Holdings.{Holdings}
use Rattle.xp_board.specs.ContextSteps.{named_in}
use Rattle.xp_board.specs.Hands.{without_typed}
use Rattle.table_words.specs.declared.old_words.OldWord.{OldWord}
use Rattle.table_words.specs.declared.old_words.OldWord.TheVariants.{First, Second}

-- which word of a vCPU it is
abbrev pub old_number : OldWord → ℕ
old_number First = 2
old_number Second = 3

abbrev pub old_place : ℕ → OldWord → Place
old_place s which = Vcpu s (old_number which)

-- the own word, as the vCPU last found or left it
abbrev pub known_old : OldWord → Holdings → Option ℕ
known_old First h = h.old0
known_old Second h = h.old1

-- that word was found or left there
abbrev pub learned_old : OldWord → ℕ → Holdings → Holdings
learned_old First w h = record h { old0 = Some w }
learned_old Second w h = record h { old1 = Some w }

-- a typed reference went out of the hand into the word
abbrev pub kept_in_old : OldWord → ℕ → Holdings → Holdings
kept_in_old which f h = learned_old which (f + 1) (record h { typed = without_typed f h.typed })

-- the word was w and is empty: the typed reference to the frame that it named came into the hand
abbrev pub taken_from_old : OldWord → ℕ → Holdings → Holdings
taken_from_old which w h = learned_old which 0 (named_in (old_number which) w h)
