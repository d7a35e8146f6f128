-- Each element of `mmu_update` comes to its plain meaning, or what the gate paused of it is kept.
use Rattle.std.proofs.Common.{◌≡◌, ◌⊎◌, ◌<◌, ℕ, Bool, List, length, Result, Err, sym, subst, inl, inr}
use Rattle.xp_words.specs.declared.reply.Pause.TheVariants.{Due}
use Rattle.xp_words.specs.declared.reply.Refusal.TheVariants.{BadCommand, BadRange}
use Rattle.xp_words.specs.declared.reply.Stop.{Stop}
use Rattle.xp_words.specs.declared.reply.Stop.TheVariants.{Paused}
use Rattle.xp_board.specs.Told.{PortValue}
use Rattle.foreign_map.specs.declared.owners.Owners.{Owners}
use Rattle.mmu_update.specs.Fits.{Updates}
use Rattle.mmu_update.specs.declared.element.Element.{Element}
use Rattle.mmu_update.specs.declared.element.Element.TheVariants.{Misaligned, SetM2p, Unknown, Write}
use Rattle.course_laws.proofs.Awaiting.{AloneStays}
use Rattle.script_law.specs.Elements.{updated}
use Rattle.script_law.specs.Frames.{write_word}
use Rattle.script_law.specs.Values.{Outcome, Solo}
use Rattle.solo_ports.specs.Coming.{Comes}
use Rattle.solo_ports.specs.Standing.{Clean, Fair, StaysAlike, whose}
use Rattle.solo_entries.specs.Kept.{KeepsEntry, KeepsWrite}
use Rattle.solo_entries.proofs.Known.{Known}
use Rattle.solo_entries.proofs.Mapping.{map_set, refused_numbers}
use Rattle.solo_entries.proofs.Pairs.{write_first}
use Rattle.solo_entries.proofs.Pausing.{keeps_entry_on, keeps_paused}
use Rattle.solo_entries.proofs.Resuming.{resumed}
use Rattle.solo_entries.proofs.Writing.{unpaused_comes}

never : {A : Type 0} → (A ⊎ ⊥) → A
never (inl a) = a
never (inr none) = absurd none

due_comes : (Kept : PortValue → Solo → Type 0) (w : PortValue) (x : Solo) (a : Outcome) (r : Result (Unit {0}) Stop) → (r ≡ Err (Paused Due)) × Kept w x → Comes Kept w x a r
due_comes Kept w x a r (due, kept) = subst (Comes Kept w x a) (sym due) (inr kept)

module _ (k : Known) (v w : PortValue) (x : Solo) (o : Owners) (answers : List Bool) (answer : Result (Unit {0}) Stop) (real : o.tables < length v.post.machine.page_limit) (alive : x.lives o.tables ≡ 0) (fair : Fair v w) where
  written : (f i word : ℕ) (keep : Bool) → Clean v x ⊎ KeepsEntry o f i word keep v x → Updates o (Write f i word keep) v w answers answer → Comes (KeepsEntry o f i word keep) w x (write_word v.post.machine o f i word keep x) answer
  written f i word keep (inl clean) updates = elim (write_first k v w x o f i word keep answers answer clean fair.clock updates) [
    | inl paused ↦ due_comes (KeepsEntry o f i word keep) w x (write_word v.post.machine o f i word keep x) answer (keeps_paused k v w x o f i word keep answers answer clean real alive updates paused)
    | inr comes ↦ unpaused_comes (KeepsEntry o f i word keep) w x (write_word v.post.machine o f i word keep x) answer comes
  ]
  written f i word keep (inr kept) updates = resumed k v w x o f i word keep answers answer kept real alive fair updates

  pub pair_comes : (e : Element) → Clean v x ⊎ KeepsWrite o e v x → Updates o e v w answers answer → Comes (KeepsWrite o e) w x (updated (whose v) o e x) answer
  pair_comes (Write f i word keep) starts updates = written f i word keep starts updates
  pair_comes (SetM2p f gpfn) starts updates = unpaused_comes (KeepsWrite o (SetM2p f gpfn)) w x (updated (whose v) o (SetM2p f gpfn) x) answer (map_set k v w x o.frames f gpfn answer (never starts) updates.rests updates.course.1 updates.course.2)
  pair_comes Misaligned starts updates = unpaused_comes (KeepsWrite o Misaligned) w x (updated (whose v) o Misaligned x) answer (refused_numbers v w x BadRange answer (never starts) updates.course.0 updates.course.2)
  pair_comes Unknown starts updates = unpaused_comes (KeepsWrite o Unknown) w x (updated (whose v) o Unknown x) answer (refused_numbers v w x BadCommand answer (never starts) updates.course.0 updates.course.2)

-- what is kept goes along steps that change nothing of it
pub keeps_write_on : AloneStays → (o : Owners) (e : Element) (v w : PortValue) (x : Solo) → StaysAlike v w → KeepsWrite o e v x → KeepsWrite o e w x
keeps_write_on stays o (Write f i word keep) v w x on kept = keeps_entry_on stays o f i word keep v w x on kept
keeps_write_on stays o (SetM2p f gpfn) v w x on kept = absurd kept
keeps_write_on stays o Misaligned v w x on kept = absurd kept
keeps_write_on stays o Unknown v w x on kept = absurd kept
