-- A word is written, from a port at which nothing is left to be settled: so as the plain one; or the gate paused the acquisition of the table that the new word asks.
use Rattle.std.proofs.Common.{◌≡◌, ◌⊎◌, ◌≤◌, ℕ, zero, suc, Bool, true, false, List, Result, Ok, Err, IfErr, refl, sym, ap, ◌∙◌, subst, arith, inl, inr}
use Rattle.xp_words.specs.Entries.{is_slot}
use Rattle.xp_words.specs.declared.reply.Refusal.TheVariants as refusals
use Rattle.xp_words.specs.declared.reply.Stop.{Stop}
use Rattle.xp_words.specs.declared.reply.Stop.TheVariants.{Refused}
use Rattle.xp_board.specs.Told.{PortValue}
use Rattle.step_maker.specs.Answers.{Deed, Serves, Stops}
use Rattle.step_maker.specs.Asked.{Request}
use Rattle.step_maker.specs.Holds.{Rests}
use Rattle.entry_exchange.specs.Course.{Exchanged, LeftLock}
use Rattle.entry_locks.specs.declared.locking.Locked.TheVariants.{Table}
use Rattle.foreign_map.specs.declared.owners.Owners.{Owners}
use Rattle.mmu_update.specs.Course as pairs
use Rattle.mmu_update.specs.Course.{TriedLock, Wrote, entry_update}
use Rattle.mmu_update.specs.Elements.{update_request}
use Rattle.mmu_update.specs.Fits.{Updates}
use Rattle.mmu_update.specs.declared.element.Element.TheVariants.{Write}
use Rattle.partial_state.specs.Levels.{level_type}
use Rattle.table_entries.specs.Acquiring.{GotRef}
use Rattle.course_laws.specs.Courses.{ClockGoesOn}
use Rattle.script_law.specs.Frames.{write_word}
use Rattle.script_law.specs.Values.{Numbers, Solo}
use Rattle.solo_ports.specs.Coming.{ComesUnpaused, IsRefusedSo}
use Rattle.solo_ports.specs.Standing.{Clean, IsQuiet}
use Rattle.solo_entries.proofs.Capping.{above, capped}
use Rattle.solo_entries.proofs.Known.{Known}
use Rattle.solo_entries.proofs.Memory.{memory_stopped, memory_stored}
use Rattle.solo_entries.proofs.Serving.{write_quiet}
use Rattle.solo_entries.proofs.Standing.{KeepsOthers, keeps_others}
use Rattle.solo_entries.proofs.Stopping.{never_lost_alone}
use Rattle.solo_entries.proofs.Writes.{PausedWrite, entry_comes, here, is_here, low, slot_left, unlocked, unreferred}

-- a table of a level above 4 that was locked is one of level 4
lock_capped : (u y : PortValue) (f owner l found : ℕ) → TriedLock u y f owner (Ok (Table (above l) found)) → TriedLock u y f owner (Ok (Table 4 found))
lock_capped u y f owner l found lock = record { found = lock.found; plain = lock.plain; stops = tt }

-- by any request that changes nothing but frames, and shows why it stops
module _ (k : Known) (v w : PortValue) (x : Solo) (o : Owners) (f i word : ℕ) (keep : Bool) (clean : Clean v x) (goes : ClockGoesOn v w) (r : Request) (ds : List Deed) (serves : Serves v w r ds) (quiet : IsQuiet v.post.vcpu r ds) (rests : Rests w) where
  abbrev Plainly : Result (Unit {0}) Stop → Type 0
  Plainly answer = ComesUnpaused w (write_word v.post.machine o f i word keep x) answer

  others : KeepsOthers v w x
  others = keeps_others v w x r ds clean.stands serves quiet rests

  slot_comes : (u y : PortValue) (level found : ℕ) → GotRef v u f o.tables (Ok f) → TriedLock u y f o.tables (Ok (Table level found)) → is_slot (level_type level) i ≡ true → LeftLock y f level w → Plainly (Err (Refused (refusals.Slot i)))
  slot_comes u y level found ref lock slot gone =
      subst (IsRefusedSo w (refusals.Slot i)) (sym (is_here k v w x o f i word keep clean goes others u y level found ref lock ∙ ap (here k v w x o f i word keep clean goes others u y level found ref lock) slot))
      (record { why = Numbers (refusals.Slot i); is = refl; same = refl; none = refl; owes = slot_left k v w x o f i word keep clean goes others u y level found ref lock gone })

  by_entry : (u y : PortValue) (level found : ℕ) (answers : List Bool) (answer : Result (Unit {0}) Stop) → level ≤ 4 → GotRef v u f o.tables (Ok f) → TriedLock u y f o.tables (Ok (Table level found)) → is_slot (level_type level) i ≡ false →
      Exchanged y (entry_update f level i word keep) o w answers answer → IfErr answer (λ e. Stops v w r e) → PausedWrite v w o f i word keep answers answer ⊎ Plainly answer
  by_entry u y level found answers answer high ref lock slot went stops =
      elim (entry_comes k v w x o f i word keep clean goes others u y level found ref lock high answers answer went (never_lost_alone k v w r answer clean.stands.alone quiet.destroys stops)) [
        | inl paused ↦ inl (record {
          referred = u;
          held = y;
          level = level;
          found = found;
          ref = ref;
          lock = lock;
          low = low k v w x o f i word keep clean goes others u y level found ref lock;
          high = high;
          open_slot = slot;
          paused = paused;
        })
        | inr comes ↦
            let is = is_here k v w x o f i word keep clean goes others u y level found ref lock ∙ ap (here k v w x o f i word keep clean goes others u y level found ref lock) slot in
            inr (subst (λ e. ComesUnpaused w e answer) (sym is) comes)
      ]

  by_level : (u y : PortValue) (level found : ℕ) (answers : List Bool) (answer : Result (Unit {0}) Stop) → GotRef v u f o.tables (Ok f) → TriedLock u y f o.tables (Ok (Table level found)) → is_slot (level_type level) i ≡ false →
      Exchanged y (entry_update f level i word keep) o w answers answer → IfErr answer (λ e. Stops v w r e) → PausedWrite v w o f i word keep answers answer ⊎ Plainly answer
  by_level u y (suc (suc (suc (suc (suc l))))) found answers answer ref lock slot went stops =
      by_entry u y 4 found answers answer (omega arith) ref (lock_capped u y f o.tables l found lock) slot (capped y f l i word keep o w answers answer went) stops
  by_level u y zero found answers answer ref lock slot went stops = by_entry u y zero found answers answer (omega arith) ref lock slot went stops
  by_level u y (suc zero) found answers answer ref lock slot went stops = by_entry u y (suc zero) found answers answer (omega arith) ref lock slot went stops
  by_level u y (suc (suc zero)) found answers answer ref lock slot went stops = by_entry u y (suc (suc zero)) found answers answer (omega arith) ref lock slot went stops
  by_level u y (suc (suc (suc zero))) found answers answer ref lock slot went stops = by_entry u y (suc (suc (suc zero))) found answers answer (omega arith) ref lock slot went stops
  by_level u y (suc (suc (suc (suc zero)))) found answers answer ref lock slot went stops = by_entry u y (suc (suc (suc (suc zero)))) found answers answer (omega arith) ref lock slot went stops

  pub write_comes : (answers : List Bool) (answer : Result (Unit {0}) Stop) → Wrote v o f i word keep w answers answer → IfErr answer (λ e. Stops v w r e) → PausedWrite v w o f i word keep answers answer ⊎ Plainly answer
  write_comes _ _ (pairs.unreferred _ stop ref) stops = inr (unreferred k v w x o f i word keep clean goes others stop ref)
  write_comes _ _ (pairs.unlocked u y _ stop ref lock gave) stops = absurd (unlocked k v w x o f i word keep clean goes others u y stop ref lock)
  write_comes _ _ (pairs.slot u y _ level found ref lock slot gone) stops = inr (slot_comes u y level found ref lock slot gone)
  write_comes _ _ (pairs.exchanged u y _ level found answers answer ref lock slot went) stops = by_level u y level found answers answer ref lock slot went stops
  write_comes _ _ (pairs.untaken u y _ found stop ref lock page) stops = inr (memory_stopped k v w x o f i word keep clean u y found ref lock r ds serves quiet rests stop page goes)
  write_comes _ _ (pairs.stored u y a b _ found old ref lock page store gave) stops = inr (memory_stored k v w x o f i word keep clean u y found ref lock r ds serves quiet rests a b old page store gave)

-- a pair's element
pub write_first : (k : Known) (v w : PortValue) (x : Solo) (o : Owners) (f i word : ℕ) (keep : Bool) (answers : List Bool) (answer : Result (Unit {0}) Stop) → Clean v x → ClockGoesOn v w → Updates o (Write f i word keep) v w answers answer →
    PausedWrite v w o f i word keep answers answer ⊎ ComesUnpaused w (write_word v.post.machine o f i word keep x) answer
write_first k v w x o f i word keep answers answer clean goes a =
    let r = update_request o (Write f i word keep) answer in
    write_comes k v w x o f i word keep clean goes r a.serves.0 a.serves.2
    (write_quiet v.post.machine v.post.vcpu o f i word keep answer a.serves.0 a.serves.1) a.rests answers answer a.course a.stops
