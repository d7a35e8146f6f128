-- The plain exchange of an entry, and what an exchange comes to by it.
use Rattle.std.specs.Prelude.{◌≡◌, ◌⊎◌, ℕ, ◌<◌, Bool, List, Option, Some, None, Result, Ok, Err}
use Rattle.xp_words.specs.Machine.{Machine}
use Rattle.xp_words.specs.declared.reply.Refusal.{Refusal}
use Rattle.xp_words.specs.declared.reply.Refusal.TheVariants as refusals
use Rattle.xp_words.specs.declared.reply.Stop.{Stop}
use Rattle.xp_words.specs.declared.reply.Stop.TheVariants.{Refused, Paused}
use Rattle.xp_board.specs.Told.{PortValue, told_word}
use Rattle.xp_preempt.specs.Gates.{yeses}
use Rattle.table_law.specs.Alone.{Cause, PlainOutcome}
use Rattle.table_law.specs.Exchange.{EntryPlace, exchanged}
use Rattle.table_law.specs.Plain.{Describes, Plain}
use Rattle.table_twins.specs.Answers.{IsCause}
use Rattle.release_laws.specs.Pauses.{IsLeft}
use Rattle.foreign_map.specs.declared.owners.Owners.{Owners}
use Rattle.entry_exchange.specs.Holding.{owner_at}
use Rattle.entry_exchange.specs.Words.{word_kept}
use Rattle.entry_exchange.specs.declared.exchanging.EntryUpdate.{EntryUpdate}

-- ---- the plain exchange for an update of an entry
abbrev pub place_in : EntryUpdate → EntryPlace
place_in x = record { table = x.table; level = x.level; index = x.index }

-- the word that the entry gets
abbrev pub new_word : EntryUpdate → Plain → ℕ
new_word x p = word_kept x.keep (p.cells x.table x.index) x.word

abbrev pub exchanged_plain : Machine → EntryUpdate → Owners → Plain → PlainOutcome
exchanged_plain n x o p = exchanged n (owner_at x.level o.tables o.frames) (place_in x) (new_word x p) p

-- ---- what an exchange comes to
abbrev pub IsRefusedFor : Refusal → Option Cause → Type 0
IsRefusedFor r None = ⊥
IsRefusedFor r (Some c) = IsCause r c

-- Done, the plain one is fine, and leaves these words; refused, it is refused for the same cause, and at level 1, where no table is taken, leaves these words.
abbrev pub ExchangesAsPlain : Machine → PortValue → ℕ → PlainOutcome → Result (Unit {0}) Stop → Type 0
ExchangesAsPlain n w level a (Ok done) = (a.refusal ≡ None) × Describes n (told_word w) a.left
ExchangesAsPlain n w level a (Err (Refused (refusals.Clock found))) = Unit {0}
ExchangesAsPlain n w level a (Err (Refused r)) = IsRefusedFor r a.refusal × (level ≡ 1 → Describes n (told_word w) a.left)
ExchangesAsPlain n w level a (Err (Paused x)) = Unit {0}

-- The words w are q; or the gate said yes, and the release of a table is unfinished, which the first old word names: it leaves q.
abbrev pub LeavesPlain : Machine → PortValue → List Bool → Plain → Type 0
LeavesPlain n w answers q = Describes n (told_word w) q ⊎ ((0 < yeses answers) × ((f : ℕ) × (level : ℕ) × IsLeft n w f level q))

-- the same, where the gate may have said yes
abbrev pub ComesAsPlain : Machine → PortValue → ℕ → PlainOutcome → List Bool → Result (Unit {0}) Stop → Type 0
ComesAsPlain n w level a answers (Ok done) = (a.refusal ≡ None) × LeavesPlain n w answers a.left
ComesAsPlain n w level a answers (Err e) = ExchangesAsPlain n w level a (Err e)

-- where the vCPU is alone, it is neither paused nor refused for the clock
abbrev pub EndsAsPlain : Machine → PortValue → ℕ → PlainOutcome → Result (Unit {0}) Stop → Type 0
EndsAsPlain n w level a (Err (Refused (refusals.Clock found))) = ⊥
EndsAsPlain n w level a (Err (Paused x)) = ⊥
EndsAsPlain n w level a answer = ExchangesAsPlain n w level a answer
