-- An element of `mmu_update` that is paused: no frame falls back.
use Rattle.std.proofs.Common.{◌≡◌, ℕ, ◌<◌, Bool, true, List, Option, Result, Ok, Err, refl, sym, ◌∙◌, subst}
use Rattle.xp_words.specs.Machine.{Machine}
use Rattle.xp_words.specs.declared.entry.Demand.{Demand}
use Rattle.xp_words.specs.declared.reply.Pause.{Pause}
use Rattle.xp_words.specs.declared.reply.Pause.TheVariants.{Due, Lost, Busy, Flush, Alive}
use Rattle.xp_words.specs.declared.reply.Refusal.{Refusal}
use Rattle.xp_words.specs.declared.reply.Stop.{Stop}
use Rattle.xp_words.specs.declared.reply.Stop.TheVariants.{Refused, Paused}
use Rattle.xp_board.specs.Told.{PortValue, is_telling, told_word}
use Rattle.step_maker.specs.Plain.{Words}
use Rattle.step_maker.proofs.Coming.{came_trans, same_machine}
use Rattle.step_maker.proofs.Telling.{came_telling}
use Rattle.step_maker.specs.Twins.{AnswersAs}
use Rattle.step_maker.proofs.Visiting.{does_came}
use Rattle.foreign_map.specs.declared.owners.Owners.{Owners}
use Rattle.entry_exchange.specs.Course as course
use Rattle.entry_exchange.specs.Course.{Exchanged, PutEntry, TookDemand, new_demand}
use Rattle.entry_exchange.specs.Holding.{owner_at}
use Rattle.entry_exchange.specs.declared.exchanging.EntryUpdate.{EntryUpdate}
use Rattle.entry_locks.specs.Plain.{LocksPlainly}
use Rattle.entry_locks.specs.declared.locking.Locked.TheVariants.{Other, Table}
use Rattle.mmu_update.specs.Course as updating
use Rattle.mmu_update.specs.Course.{TriedLock, Updated, Wrote, entry_update}
use Rattle.mmu_update.specs.declared.element.Element.{Element}
use Rattle.mmu_update.specs.declared.element.Element.TheVariants.{SetM2p, Write, Misaligned, Unknown}
use Rattle.exchange_laws.proofs.Going.{demand_came}
use Rattle.vcpu_turn.specs.Unhindered.{IsUnhindered}
use Rattle.vcpu_turn.specs.declared.cpu.TurnEnd.TheVariants as ends
use Rattle.course_laws.proofs.Awaiting.{AloneStays}
use Rattle.table_entries.specs.Acquiring.{GotRef}
use Rattle.turn_measures.proofs.Forward.{still_all}
use Rattle.turn_measures.proofs.Asides.{Passes, moves_passes, passes_then, ref_passes}
use Rattle.turn_measures.proofs.Calm.{AcquiredForward, AcquiredFurther, IsCalm, alive_on, calm_on, calm_telling}
use Rattle.turn_measures.proofs.Locking.{IsLocked}
use Rattle.turn_measures.proofs.Pages.{ComesBy, ComesFor, acquired_for, by_passes, for_from, is_lost, never_for, page_for, took_page_for, unreferred_for}
use Rattle.turn_measures.proofs.Unlocking.{locked_calm, locked_machine, locked_words, room, under_lock}

module _ (n : Machine) (stays : AloneStays) (forward : AcquiredForward) (further : AcquiredFurther) where
  -- ---- what the new word asks
  demand_for : (owner level : ℕ) (v : PortValue) (d : Demand) (w : PortValue) (answers : List Bool) (r : Result (Unit {0}) Stop) → IsCalm v → TookDemand owner level v d w answers r → ComesBy n r v w
  demand_for owner level v _ _ _ _ calm course.nothing = tt
  demand_for owner level v _ _ _ _ calm (course.referred w g ref) = tt
  demand_for owner level v _ _ _ _ calm (course.unreferred w g stop ref) = unreferred_for n v w g owner stop (calm_telling v calm) ref
  demand_for owner level v _ _ _ _ calm (course.paged w g one page) = tt
  demand_for owner level v _ _ _ _ calm (course.unpaged w g stop one page) = page_for n v g owner w (Err stop) (calm_telling v calm) calm.alive page
  demand_for owner level v _ _ _ _ calm (course.acquired w g answers two had) = tt
  demand_for owner level v _ _ _ _ calm (course.refused w g answers stop two had) = acquired_for n forward further v w g owner _ answers stop calm had

  -- ---- an exchange that was lost
  abbrev NeverBy : Result ℕ Stop → Type 0
  NeverBy (Ok old) = Unit {0}
  NeverBy (Err e) = (p : Pause) → e ≡ Paused p → IsUnhindered n (ends.Paused p) → ⊥

  put_never : (v w : PortValue) (f i seen new : ℕ) (keep : Bool) (r : Result ℕ Stop) → PutEntry v w f i seen new keep r → NeverBy r
  put_never v w f i seen new _ _ (course.stored old step) = tt
  put_never v w f i seen new _ _ (course.exchanged step) = tt
  put_never v w f i seen new _ _ (course.lost found off step) = λ p is un. is_lost n p _ seen found is un

  put_for : (v w a b : PortValue) (f i seen new : ℕ) (keep : Bool) (e : Stop) → PutEntry v w f i seen new keep (Err e) → ComesFor n e a b
  put_for v w a b f i seen new keep e puts = never_for n e a b (put_never v w f i seen new keep (Err e) puts)

  -- ---- under the lock
  exchange_for : (u y : PortValue) (x : EntryUpdate) (o : Owners) (w : PortValue) (answers : List Bool) (r : Result (Unit {0}) Stop) → IsLocked (told_word u) (told_word y) x.table → y.post.machine ≡ u.post.machine → x.table < u.post.machine.frames →
      IsCalm y → Exchanged y x o w answers r → ComesBy n r u w
  exchange_for u y x o _ _ _ l same inside calm (course.bad a w seen saw bad lock) = tt
  exchange_for u y x o _ _ _ l same inside calm (course.same a b w seen old saw is puts lock) = tt
  exchange_for u y x o _ _ _ l same inside calm (course.unput a b w seen stop saw is puts lock) = put_for a b u w _ _ _ _ _ stop puts
  exchange_for u y x o _ _ _ l same inside calm (course.lost a b z c w seen answers stop saw differ took puts gave lock) = put_for b z u w _ _ _ _ _ stop puts
  exchange_for u y x o _ _ _ l same inside calm (course.done a b z c w seen old answers more saw differ took puts lock gone) = tt
  exchange_for u y x o _ _ _ l same inside calm (course.untaken a z w seen answers stop saw differ took lock) =
      let look = moves_passes y a _ _ _ _ _ (calm_telling y calm) refl saw in
      let owner = owner_at x.level o.tables o.frames in
      let c = demand_for owner x.level a (new_demand x seen) z answers (Err stop) (calm_on stays y a calm look) took in
      let came = came_trans y a z look.came (demand_came owner x.level a (new_demand x seen) z answers (Err stop) took) in
      under_lock n u y z x.table stop l same inside (came_telling y z came ∙ calm_telling y calm) (for_from n stop y a z look c) w x.level lock

  -- ---- the word is written
  pub lock_never : (y : PortValue) (f : ℕ) (m : Words) (e : Stop) → LocksPlainly y f m (Err e) → (p : Pause) → e ≡ Paused p → IsUnhindered n (ends.Paused p) → ⊥
  lock_never y f m (Refused x) plain p is un = plain
  lock_never y f m (Paused (Busy g x)) plain p is un = let e : p ≡ Busy g x = cc in subst (λ q. IsUnhindered n (ends.Paused q)) e un
  lock_never y f m (Paused Due) plain p is un = plain
  lock_never y f m (Paused (Lost place expected found)) plain p is un = plain
  lock_never y f m (Paused (Flush s stamp found)) plain p is un = plain
  lock_never y f m (Paused (Alive s found)) plain p is un = plain

  other_passes : (u y : PortValue) (f owner found : ℕ) → is_telling u ≡ true → TriedLock u y f owner (Ok (Other found)) → Passes u y
  other_passes u y f owner found telling lock = record { came = does_came u y _ lock.found; still = still_all (told_word u) (told_word y) (lock.plain telling).3 }

  pub exchanged_from : (v u y : PortValue) (o : Owners) (f i word : ℕ) (keep : Bool) (level found : ℕ) (w : PortValue) (answers : List Bool) (r : Result (Unit {0}) Stop) → IsCalm v → GotRef v u f o.tables (Ok f) →
      TriedLock u y f o.tables (Ok (Table level found)) → Exchanged y (entry_update f level i word keep) o w answers r → ComesBy n r v w
  exchanged_from v u y o f i word keep level found w answers r calm ref lock exchange =
      let p = ref_passes v u f o.tables (calm_telling v calm) ref in
      let l = locked_words stays v u y f o.tables level found calm ref lock in
      let inside = subst (λ (k : Machine). f < k.frames) (sym (same_machine v u p.came)) (room stays v u y f o.tables level found calm ref lock).inside in
      by_passes n r v u w p
      (exchange_for u y (entry_update f level i word keep) o w answers r l (locked_machine stays v u y f o.tables level found calm ref lock) inside (locked_calm stays v u y f o.tables level found calm ref lock (calm_on stays v u calm p)) exchange)

  wrote_for : (v : PortValue) (o : Owners) (f i word : ℕ) (keep : Bool) (w : PortValue) (answers : List Bool) (r : Result (Unit {0}) Stop) → IsCalm v → Wrote v o f i word keep w answers r → ComesBy n r v w
  wrote_for v o f i word keep _ _ _ calm (updating.unreferred w stop ref) = unreferred_for n v w f o.tables stop (calm_telling v calm) ref
  wrote_for v o f i word keep _ _ _ calm (updating.unlocked u y w stop ref lock gave) =
      never_for n stop v w (lock_never y f (told_word u) stop (lock.plain (came_telling v u (ref_passes v u f o.tables (calm_telling v calm) ref).came ∙ calm_telling v calm)))
  wrote_for v o f i word keep _ _ _ calm (updating.slot u y w level found ref lock slot left) = tt
  wrote_for v o f i word keep _ _ _ calm (updating.exchanged u y w level found answers answer ref lock slot exchange) =
      exchanged_from v u y o f i word keep level found w answers answer calm ref lock exchange
  wrote_for v o f i word keep _ _ _ calm (updating.untaken u y w found stop ref lock took) =
      let p = ref_passes v u f o.tables (calm_telling v calm) ref in
      let q = other_passes u y f o.tables found (came_telling v u p.came ∙ calm_telling v calm) lock in
      let all = passes_then v u y p q in
      for_from n stop v y w all (took_page_for n y f o.tables w (Err stop) (came_telling v y all.came ∙ calm_telling v calm) (alive_on v y all calm.alive) took)
  wrote_for v o f i word keep _ _ _ calm (updating.stored u y a b w found old ref lock took store gave) = tt

  -- ---- one element
  set_for : (v w : PortValue) (refusal : Option Refusal) (m : Words) (r : Result (Unit {0}) Stop) → AnswersAs v w refusal m r → ComesBy n r v w
  set_for v w refusal m (Ok done) plain = tt
  set_for v w refusal m (Err (Refused x)) plain = tt
  set_for v w refusal m (Err (Paused x)) plain = absurd plain

  pub updated_for : (v : PortValue) (o : Owners) (e : Element) (w : PortValue) (answers : List Bool) (r : Result (Unit {0}) Stop) → IsCalm v → Updated v o e w answers r → ComesBy n r v w
  updated_for v o (SetM2p f gpfn) w answers r calm a = set_for v w _ _ r (a.2 (calm_telling v calm))
  updated_for v o (Write f i word keep) w answers r calm a = wrote_for v o f i word keep w answers r calm a
  updated_for v o Misaligned w answers r calm a = subst (λ x. ComesBy n x v w) (sym a.2) tt
  updated_for v o Unknown w answers r calm a = subst (λ x. ComesBy n x v w) (sym a.2) tt
