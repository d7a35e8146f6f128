-- An update by address that is paused before its entry is set: no frame falls back.
use Rattle.std.proofs.Common.{◌≡◌, ℕ, Bool, true, false, List, Result, Ok, Err, refl, sym, ◌∙◌, subst}
use Rattle.xp_words.specs.Machine.{Machine}
use Rattle.xp_words.specs.declared.reply.Stop.{Stop}
use Rattle.xp_board.specs.Told.{PortValue, is_telling, told_word}
use Rattle.step_maker.proofs.Telling.{came_telling}
use Rattle.foreign_map.specs.declared.owners.Owners.{Owners}
use Rattle.mmu_update.specs.Addresses as addresses
use Rattle.mmu_update.specs.Addresses.{Descends, EnteredAt, Leads, UpdatedAt}
use Rattle.tlb_walks.specs.Addresses.{index_of}
use Rattle.vcpu_turn.specs.Mappings as mappings
use Rattle.vcpu_turn.specs.Mappings.{UpdatesWord}
use Rattle.course_laws.proofs.Awaiting.{AloneStays}
use Rattle.turn_measures.proofs.Asides.{Passes, moves_passes, passes_then, ref_passes}
use Rattle.turn_measures.proofs.Calm.{AcquiredForward, AcquiredFurther, IsCalm, calm_on, calm_telling}
use Rattle.turn_measures.proofs.Owners.{owners_pass}
use Rattle.turn_measures.proofs.Pages.{ComesBy, by_passes, never_for, unreferred_for}
use Rattle.turn_measures.proofs.Updating.{exchanged_from, lock_never}

-- ---- the loads that lead to the table
descends_passes : (va : ℕ) (w : PortValue) (r : Result ℕ Stop) (v : PortValue) (level table : ℕ) → is_telling v ≡ true → Descends va w r v level table → Passes v w
descends_passes va w r _ _ _ telling (addresses.Descends.unmapped v level table entry saw is answer) = moves_passes v w _ _ _ _ _ telling refl saw
descends_passes va w r _ _ _ telling (addresses.Descends.reached v level table entry at saw is answer) = moves_passes v w _ _ _ _ _ telling refl saw
descends_passes va w r _ _ _ telling (addresses.Descends.goes v u level table entry above saw is more) =
    let p : Passes v u = moves_passes v u _ _ _ _ _ telling refl saw in
    passes_then v u w p (descends_passes va w r u _ _ (came_telling v u p.came ∙ telling) more)

leads_passes : (v : PortValue) (va : ℕ) (w : PortValue) (table : ℕ) → is_telling v ≡ true → Leads v va w (Ok table) → Passes v w
leads_passes v va w table telling (addresses.Leads.barred x is same answer) = absurd cc
leads_passes v va w table telling (addresses.Leads.unbased is saw answer) = absurd cc
leads_passes v va w table telling (addresses.Leads.based u base is some saw more) =
    let p : Passes v u = moves_passes v u _ _ _ _ _ telling refl saw in
    passes_then v u w p (descends_passes va w (Ok table) u _ _ (came_telling v u p.came ∙ telling) more)

module _ (n : Machine) where
  -- where they lead to none, it is refused
  descends_for : (va : ℕ) (w : PortValue) (r : Result ℕ Stop) (v a : PortValue) (level table : ℕ) → Descends va w r v level table → ComesBy n r a w
  descends_for va w r _ a _ _ (addresses.Descends.unmapped v level table entry saw is answer) = subst (λ x. ComesBy n x a w) (sym answer) tt
  descends_for va w r _ a _ _ (addresses.Descends.reached v level table entry at saw is answer) = subst (λ x. ComesBy n x a w) (sym answer) tt
  descends_for va w r _ a _ _ (addresses.Descends.goes v u level table entry above saw is more) = descends_for va w r u a _ _ more

  leads_for : (v a : PortValue) (va : ℕ) (w : PortValue) (r : Result ℕ Stop) → Leads v va w r → ComesBy n r a w
  leads_for v a va w r (addresses.Leads.barred x is same answer) = subst (λ x. ComesBy n x a w) (sym answer) tt
  leads_for v a va w r (addresses.Leads.unbased is saw answer) = subst (λ x. ComesBy n x a w) (sym answer) tt
  leads_for v a va w r (addresses.Leads.based u base is some saw more) = descends_for va w r u a _ _ more

  module _ (stays : AloneStays) (forward : AcquiredForward) (further : AcquiredFurther) where
    -- ---- the entry
    entered_for : (v : PortValue) (o : Owners) (table i word : ℕ) (w : PortValue) (answers : List Bool) (r : Result (Unit {0}) Stop) → IsCalm v → EnteredAt v o table i word w answers r → ComesBy n r v w
    entered_for v o table i word _ _ _ calm (addresses.EnteredAt.unreferred w stop ref) = unreferred_for n v w table o.tables stop (calm_telling v calm) ref
    entered_for v o table i word _ _ _ calm (addresses.EnteredAt.unlocked u y w stop ref lock gave) =
        never_for n stop v w (lock_never n stays forward further y table (told_word u) stop (lock.plain (came_telling v u (ref_passes v u table o.tables (calm_telling v calm) ref).came ∙ calm_telling v calm)))
    entered_for v o table i word _ _ _ calm (addresses.EnteredAt.other u y w found ref lock gave) = tt
    entered_for v o table i word _ _ _ calm (addresses.EnteredAt.level u y w level found ref lock off left) = tt
    entered_for v o table i word _ _ _ calm (addresses.EnteredAt.exchanged u y w found answers answer ref lock exchange) =
        exchanged_from n stays forward further v u y o table i word false 1 found w answers answer calm ref lock exchange

    pub at_for : (v : PortValue) (o : Owners) (va word table : ℕ) (w : PortValue) (answers : List Bool) (r : Result (Unit {0}) Stop) → IsCalm v → UpdatedAt v o va word table w answers r → ComesBy n r v w
    at_for v o va word table _ _ _ calm (addresses.UpdatedAt.unled w stop beyond leads) = leads_for v v va w (Err stop) leads
    at_for v o va word table _ _ _ calm (addresses.UpdatedAt.led u w answers answer leads entered) =
        let p = leads_passes v va u table (calm_telling v calm) leads in
        by_passes n answer v u w p (entered_for u o table (index_of va 1) word w answers answer (calm_on stays v u calm p) entered)

    -- ---- behind its numbers
    pub word_for : (d foreign va word flags : ℕ) (v w : PortValue) (answers : List Bool) (r : Result (Unit {0}) Stop) → IsCalm v → UpdatesWord d foreign va word flags v w answers r → ComesBy n r v w
    word_for d foreign va word flags v _ _ _ calm (mappings.UpdatesWord.far above) = tt
    word_for d foreign va word flags v _ _ _ calm (mappings.UpdatesWord.unowned w x few finds) = tt
    word_for d foreign va word flags v _ _ _ calm (mappings.UpdatesWord.flagged w o few finds bad) = tt
    word_for d foreign va word flags v _ _ _ calm (mappings.UpdatesWord.owned u w o answers answer few finds good updates) =
        let p = owners_pass v u d foreign (Ok o) (calm_telling v calm) finds.found in
        by_passes n answer v u w p (at_for u o va word updates.table w answers answer (calm_on stays v u calm p) updates.course)
