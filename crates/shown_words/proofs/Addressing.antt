-- What the refusals of updates by address show: no word of a frame that is just being given back.
use Rattle.std.proofs.Common.{◌≡◌, ℕ, ◌-◌, if◌then◌else◌, Bool, true, false, List, Some, None, Result, Ok, Err, refl, sym, ap, ◌∙◌, subst}
use Rattle.xp_words.specs.Entries.{frame_of, is_slot}
use Rattle.xp_words.specs.Machine.{IsMachine}
use Rattle.xp_words.specs.declared.kind.PageType.TheVariants.{L4}
use Rattle.xp_words.specs.declared.place.Place.TheVariants.{Cell, Vcpu}
use Rattle.xp_words.specs.declared.reply.Refusal.TheVariants.{NonCanonical, Slot, WrongOwner}
use Rattle.xp_words.specs.declared.reply.Stop.{Stop}
use Rattle.xp_words.specs.declared.reply.Stop.TheVariants.{Refused}
use Rattle.xp_board.specs.Readings.{is_dying}
use Rattle.xp_board.specs.Told.{PortValue, is_telling, told_word}
use Rattle.xp_board.specs.declared.step.StepKind.TheVariants as steps
use Rattle.entry_locks.specs.declared.locking.Locked.TheVariants.{Table}
use Rattle.foreign_map.specs.declared.owners.Owners.{Owners}
use Rattle.mmu_update.specs.Addresses as ways
use Rattle.mmu_update.specs.Addresses.{Descends, EnteredAt, Leads, UpdatedAt}
use Rattle.mmu_update.specs.Course.{entry_update}
use Rattle.tlb_walks.specs.Addresses.{index_of, is_canonical, slot_refusal, walk_refusal}
use Rattle.shown_words.specs.Shown.{NoneDies}
use Rattle.shown_words.proofs.Base.{Settling, had_settling, look_settling, nothing_settling, settling_then}
use Rattle.shown_words.proofs.Writing.{AcquiredShows, AnswerShows, Quiet, exchanged_shows, lock_settling, lock_shows, quiet_after, unreferred_shows}

-- ---- the way
-- loads alone
descends_settling : (va : ℕ) (w : PortValue) (answer : Result ℕ Stop) (v : PortValue) (level table : ℕ) → Descends va w answer v level table → Settling v w
descends_settling va w answer _ _ _ (ways.unmapped v level table entry saw off is) = look_settling v w (Cell table (index_of va level)) steps.Look None entry saw
descends_settling va w answer _ _ _ (ways.reached v level table entry low saw off is) = look_settling v w (Cell table (index_of va level)) steps.Look None entry saw
descends_settling va w answer _ _ _ (ways.goes v u level table entry high saw off on) =
    settling_then v u w (look_settling v u (Cell table (index_of va level)) steps.Look None entry saw) (descends_settling va w answer u (level - 1) (frame_of entry) on)

leads_settling : (v : PortValue) (va : ℕ) (w : PortValue) (answer : Result ℕ Stop) → Leads v va w answer → Settling v w
leads_settling v va w answer (ways.barred x barred stays is) = subst (Settling v) (sym stays) (nothing_settling v)
leads_settling v va w answer (ways.unbased free saw is) = look_settling v w (Vcpu v.post.vcpu 0) steps.Look None 0 saw
leads_settling v va w answer (ways.based u base free there saw on) =
    settling_then v u w (look_settling v u (Vcpu v.post.vcpu 0) steps.Look None base saw) (descends_settling va w answer u 4 (base - 1) on)

-- and it ends for no owner
descends_unowned : (va : ℕ) (w : PortValue) (answer : Result ℕ Stop) (v : PortValue) (level table g x : ℕ) → Descends va w answer v level table → answer ≡ Err (Refused (WrongOwner g x)) → ⊥
descends_unowned va w answer _ _ _ g x (ways.unmapped v level table entry saw off is) wrong = absurd cc
descends_unowned va w answer _ _ _ g x (ways.reached v level table entry low saw off is) wrong = absurd cc
descends_unowned va w answer _ _ _ g x (ways.goes v u level table entry high saw off on) wrong = descends_unowned va w answer u (level - 1) (frame_of entry) g x on wrong

barred_unowned : (va g x : ℕ) → walk_refusal va ≡ Some (WrongOwner g x) → ⊥
barred_unowned va g x is = by (is_canonical va) is
  where
    by : (b : Bool) → (if b then slot_refusal (index_of va 4) else Some NonCanonical) ≡ Some (WrongOwner g x) → ⊥
    by false e = absurd cc
    by true e = slot (is_slot L4 (index_of va 4)) e
      where
        slot : (c : Bool) → (if c then Some (Slot (index_of va 4)) else None) ≡ Some (WrongOwner g x) → ⊥
        slot true s = absurd cc
        slot false s = absurd cc

leads_unowned : (v : PortValue) (va : ℕ) (w : PortValue) (answer : Result ℕ Stop) (g x : ℕ) → Leads v va w answer → answer ≡ Err (Refused (WrongOwner g x)) → ⊥
leads_unowned v va w answer g x (ways.barred y barred stays is) wrong =
    let e : Some y ≡ Some (WrongOwner g x) = cc in barred_unowned va g x (barred ∙ e)
leads_unowned v va w answer g x (ways.unbased free saw is) wrong = absurd cc
leads_unowned v va w answer g x (ways.based u base free there saw on) wrong = descends_unowned va w answer u 4 (base - 1) g x on wrong

-- ---- the table
module _ (acquired : AcquiredShows) where
  entered_shows : (v : PortValue) (o : Owners) (f i word : ℕ) (w : PortValue) (answers : List Bool) (answer : Result (Unit {0}) Stop) → Quiet v → EnteredAt v o f i word w answers answer → AnswerShows answer
  entered_shows v o f i word _ _ _ q (ways.unreferred w stop ref) = unreferred_shows v w f o.tables stop q ref
  entered_shows v o f i word _ _ _ q (ways.unlocked u y w stop ref lock gave) = lock_shows u y f o.tables stop (quiet_after v u (had_settling v u f o.tables f ref) q) lock
  entered_shows v o f i word _ _ _ q (ways.other u y w found ref lock gave) = λ g x is. absurd cc
  entered_shows v o f i word _ _ _ q (ways.level u y w level found ref lock apart left) = λ g x is. absurd cc
  entered_shows v o f i word _ _ _ q (ways.exchanged u y w found answers answer ref lock went) =
      exchanged_shows acquired y (entry_update f 1 i word false) o w answers answer (quiet_after v y (settling_then v u y (had_settling v u f o.tables f ref) (lock_settling u y f o.tables (Table 1 found) lock)) q) went

  updated_by : (v : PortValue) (o : Owners) (va word table : ℕ) (w : PortValue) (answers : List Bool) (answer : Result (Unit {0}) Stop) → Quiet v → UpdatedAt v o va word table w answers answer → AnswerShows answer
  updated_by v o va word table _ _ _ q (ways.unled w stop high leads) = λ g x is. absurd (leads_unowned v va w (Err stop) g x leads (ap Err is))
  updated_by v o va word table _ _ _ q (ways.led u w answers answer leads went) =
      entered_shows u o table (index_of va 1) word w answers answer (quiet_after v u (leads_settling v va u (Ok table) leads) q) went

  -- by address: what a refusal shows is a word of no frame that is just being given back
  pub updated_at_shows : (v : PortValue) (o : Owners) (va word table : ℕ) (w : PortValue) (answers : List Bool) (g x : ℕ) → IsMachine v.post.machine → is_telling v ≡ true → NoneDies (told_word v) →
      UpdatedAt v o va word table w answers (Err (Refused (WrongOwner g x))) → is_dying x ≡ false
  updated_at_shows v o va word table w answers g x machine telling n a =
      updated_by v o va word table w answers (Err (Refused (WrongOwner g x))) (record { machine = machine; telling = telling; none = n }) a g x refl
