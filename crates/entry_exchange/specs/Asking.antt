-- What an exchange of an entry asks, what a guest sees of it, and why it is not done.
use Rattle.std.specs.Prelude.{◌≡◌, ◌⊎◌, ℕ, ◌++◌, true, List, [], ◌∷◌, Some, None, Result, Ok, Err}
use Rattle.xp_words.specs.Machine.{Machine}
use Rattle.xp_words.specs.declared.place.Place.TheVariants.{Kind}
use Rattle.xp_words.specs.declared.reply.Stop.{Stop}
use Rattle.xp_words.specs.declared.reply.Stop.TheVariants.{Paused}
use Rattle.xp_board.specs.Told.{PortValue}
use Rattle.step_maker.specs.Answers.{Deed, Misses, Serves, SetsEntry, missed}
use Rattle.step_maker.specs.Asked.{Request, of_frame}
use Rattle.foreign_map.specs.declared.owners.Owners.{Owners}
pub use Rattle.table_entries.specs.Ending.{may_rise}
pub use Rattle.level_validate.specs.Acquiring.{IsAcquireStop}
use Rattle.entry_exchange.specs.declared.exchanging.EntryUpdate.{EntryUpdate}
use Rattle.entry_exchange.specs.Words.{word_kept}

-- it names the table, and its entry asks frames of the one domain at level 1, above it of the other one
abbrev pub of_exchange : EntryUpdate → Owners → Result (Unit {0}) Stop → Request
of_exchange x o answer =
    record (of_frame x.table o.tables None) { pages_of = o.frames; entries = true; index = Some x.index; new_word = Some x.word; locks = true; rose = may_rise answer }

-- an exchange that was lost, beside that for which it is paused: one that was to take the mark of a foreign frame back
abbrev pub IsHidden : Stop → List Deed → Type 0
IsHidden (Paused x) ds = (ds ≡ []) ⊎ ((f : ℕ) × (ds ≡ Misses (Kind f) ∷ []))
IsHidden e ds = ds ≡ []

-- done, it has the one deed: the entry that was there, and the new word; else none
pub data HasExchangeDeeds (n : Machine) (x : EntryUpdate) : Result (Unit {0}) Stop → List Deed → Type 0 where
  stored : (seen old : ℕ) → HasExchangeDeeds n x (Ok tt) (SetsEntry x.table x.index old (word_kept x.keep seen x.word) ∷ [])
  stopped : (e : Stop) (hidden : List Deed) → IsHidden e hidden → HasExchangeDeeds n x (Err e) (hidden ++ missed n e)

abbrev pub ServesExchange : PortValue → PortValue → EntryUpdate → Owners → Result (Unit {0}) Stop → Type 0
ServesExchange v w x o answer = (ds : List Deed) × HasExchangeDeeds v.post.machine x answer ds × Serves v w (of_exchange x o answer) ds
