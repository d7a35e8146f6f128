-- Updates by address, descriptor tables, and the guest's reads and writes are determined.
use Rattle.std.proofs.Common.{◌≡◌, ◌≢◌, ◌<◌, ◌≤◌, ◌⊎◌, ℕ, zero, suc, Bool, true, false, List, [], Option, Some, None, Result, Ok, Err, refl, sym, ap, ◌∙◌, subst}
use native.Mathlib.Omega.{arith}
use Rattle.xp_words.specs.declared.reply.Refusal.{Refusal}
use Rattle.xp_words.specs.declared.reply.Refusal.TheVariants as refusals
use Rattle.xp_words.specs.declared.reply.Stop.{Stop}
use Rattle.xp_words.specs.declared.reply.Stop.TheVariants.{Refused}
use Rattle.xp_board.specs.Told.{PortValue}
use Rattle.step_maker.specs.Moves.{Came}
use Rattle.step_maker.proofs.Coming.{came_self, came_trans}
use Rattle.step_maker.proofs.Piecing.{serves_came}
use Rattle.step_maker.proofs.Visiting.{does_came}
use Rattle.xp_preempt.specs.Gates.{GivesAnswers}
use Rattle.foreign_map.specs.declared.owners.Owners.{Owners}
use Rattle.mmu_update.specs.UpdatesAt.{UpdatesAt}
use Rattle.mmuext_ops.specs.Elements.{every_vcpu}
use Rattle.mmuext_ops.specs.declared.element.Element.{Element}
use Rattle.mmuext_ops.specs.declared.element.Element.TheVariants.{FlushVcpus}
use Rattle.tlb_walks.specs.Accesses as ways
use Rattle.tlb_walks.specs.Accesses.{GuestReads, GuestWrites}
use Rattle.vcpu_turn.specs.Accesses.{MakesRead, MakesWrite, done_by}
use Rattle.vcpu_turn.specs.Descriptors.{DescriptorFits, DescriptorTask, DoesDescriptors, SetDescriptor, SetGdt, TouchLdt}
use Rattle.vcpu_turn.specs.Ext.{Performs}
use Rattle.vcpu_turn.specs.Mappings.{DropsBehind, DropsOwn, MapsWord, UpdatesWord, WaitsForAll, done_behind, is_bad_flags, own_drop, waits_for_all}
use Rattle.vcpu_turn.specs.Pairs.{FindsOwners}
use Rattle.vcpu_turn.specs.Settling.{SettlesFirst}
use Rattle.determined_laws.specs.Courses.{Alike}
use Rattle.determined_laws.proofs.Accesses.{reads_tie, writes_tie}
use Rattle.determined_laws.proofs.Courses.{alike_apart, alike_map, alike_next, alike_same}
use Rattle.determined_tables.proofs.Descriptors.{updates_descriptor_alike, updates_descriptor_came}
use Rattle.determined_tables.proofs.Gdt.{sets_gdt_alike, sets_gdt_came}
use Rattle.determined_tables.proofs.Touching.{touches_ldt_alike, touches_ldt_came}
use Rattle.determined_calls.proofs.Addressing.{updated_at_alike, updated_at_came}
use Rattle.determined_calls.proofs.Elements.{performed_alike, performed_came}
use Rattle.determined_turns.proofs.Elements.{err_same, finds_alike, finds_came, ok_same}
use Rattle.determined_turns.proofs.Lists.{Answer}
use Rattle.determined_turns.proofs.Settling.{first_alike, first_came}

no_asks : (says : ℕ → Bool) (n : ℕ) → GivesAnswers says n []
unfolding GivesAnswers
no_asks says n = tt

-- ---- behind the entry
performs_came : {d : ℕ} {e : Element} {awaited : Option ℕ} {v w : PortValue} {answers : List Bool} {a : Answer} → Performs d e awaited v w answers a → Came v w
performs_came {d} {e} {awaited} {v} {w} {answers} {a} p = performed_came v w d e awaited answers a p.course

performs_alike : {d : ℕ} {e : Element} {awaited : Option ℕ} {v w x : PortValue} {a b : Answer} → Performs d e awaited v w [] a → Performs d e awaited v x [] b → Alike v w x (a ≡ b)
performs_alike {d} {e} {awaited} {v} {w} {x} {a} {b} p q = alike_map (performed_alike v w x d e awaited [] [] a b (λ n. false) 0 (no_asks _ 0) (no_asks _ 0) p.course q.course) (λ s. s.1)

drops_came : (d : ℕ) (e : Option Element) (v w : PortValue) (a : Answer) → DropsOwn d e v w a → Came v w
drops_came d (Some e) v w a p = performs_came p
drops_came d None v w a p = subst (λ z. Came v z) (sym p.0) (came_self v)

drops_alike : (d : ℕ) (e : Option Element) (v w x : PortValue) (a b : Answer) → DropsOwn d e v w a → DropsOwn d e v x b → Alike v w x (a ≡ b)
drops_alike d (Some e) v w x a b p q = performs_alike p q
drops_alike d None v w x a b p q = alike_same (p.0 ∙ sym q.0) (p.1 ∙ sym q.1)

waits_came : (d : ℕ) (all : Bool) (awaited : Option ℕ) (v w : PortValue) (a : Answer) → WaitsForAll d all awaited v w a → Came v w
waits_came d true awaited v w a p = performs_came p
waits_came d false awaited v w a p = subst (λ z. Came v z) (sym p.0) (came_self v)

waits_alike : (d : ℕ) (all : Bool) (awaited : Option ℕ) (v w x : PortValue) (a b : Answer) → WaitsForAll d all awaited v w a → WaitsForAll d all awaited v x b → Alike v w x (a ≡ b)
waits_alike d true awaited v w x a b p q = performs_alike p q
waits_alike d false awaited v w x a b p q = alike_same (p.0 ∙ sym q.0) (p.1 ∙ sym q.1)

behind_came : {d flags va : ℕ} {v w : PortValue} {a : Answer} → DropsBehind d flags va v w a → Came v w
behind_came {d} {flags} {va} {v} (DropsBehind.undropped w e drops) = drops_came d (own_drop flags va) v w (Err e) drops
behind_came {d} {flags} {va} {v} (DropsBehind.dropped u w a drops waits) = came_trans v u w (drops_came d (own_drop flags va) v u (Ok tt) drops) (waits_came d (waits_for_all flags) None u w a waits)

behind_alike : {d flags va : ℕ} {v w x : PortValue} {a b : Answer} → DropsBehind d flags va v w a → DropsBehind d flags va v x b → Alike v w x (a ≡ b)
behind_alike {d} {flags} {va} {v} (DropsBehind.undropped w e drops) (DropsBehind.undropped x f lets) = drops_alike d (own_drop flags va) v w x (Err e) (Err f) drops lets
behind_alike {d} {flags} {va} {v} (DropsBehind.undropped w e drops) (DropsBehind.dropped u x b lets waits) =
    alike_apart (came_self w) (waits_came d (waits_for_all flags) None u x b waits) (drops_alike d (own_drop flags va) v w u (Err e) (Ok tt) drops lets) (λ s. absurd (let t = s in cc))
behind_alike {d} {flags} {va} {v} (DropsBehind.dropped u w a lets waits) (DropsBehind.undropped x e drops) =
    alike_apart (waits_came d (waits_for_all flags) None u w a waits) (came_self x) (drops_alike d (own_drop flags va) v u x (Ok tt) (Err e) lets drops) (λ s. absurd (let t = s in cc))
behind_alike {d} {flags} {va} {v} (DropsBehind.dropped u w a drops waits) (DropsBehind.dropped y x b lets awaits) =
    alike_next (λ z. WaitsForAll d (waits_for_all flags) None z x b) (drops_came d (own_drop flags va) v u (Ok tt) drops) (waits_came d (waits_for_all flags) None u w a waits) (waits_came d (waits_for_all flags) None y x b awaits)
    (drops_alike d (own_drop flags va) v u y (Ok tt) (Ok tt) drops lets) awaits (λ s more. waits_alike d (waits_for_all flags) None u w x a b waits more)

-- ---- the entry
module _ (d foreign va word flags : ℕ) (says : ℕ → Bool) where
  updates_came : (v w : PortValue) (answers : List Bool) (a : Answer) → UpdatesWord d foreign va word flags v w answers a → Came v w
  updates_came v _ _ _ (UpdatesWord.far above) = came_self v
  updates_came v _ _ _ (UpdatesWord.unowned w x low finds) = finds_came finds
  updates_came v _ _ _ (UpdatesWord.flagged w o low finds bad) = finds_came finds
  updates_came v _ _ _ (UpdatesWord.owned u w o answers a low finds good run) = came_trans v u w (finds_came finds) (updated_at_came run.course)

  flags_apart : {A : Type 0} (c : Bool) → c ≡ true → c ≡ false → A
  flags_apart c on off = absurd (let e = sym on ∙ off in cc)

  updates_alike : (v w x : PortValue) (answers others : List Bool) (a b : Answer) (m : ℕ) → GivesAnswers says m answers → GivesAnswers says m others → UpdatesWord d foreign va word flags v w answers a →
      UpdatesWord d foreign va word flags v x others b → Alike v w x ((answers ≡ others) × (a ≡ b))
  updates_alike v _ _ _ _ _ _ m g h (UpdatesWord.far above) (UpdatesWord.far over) = alike_same refl (refl, refl)
  updates_alike v _ _ _ _ _ _ m g h (UpdatesWord.far above) (UpdatesWord.unowned w x low finds) = absurd (omega (arith, above, low))
  updates_alike v _ _ _ _ _ _ m g h (UpdatesWord.far above) (UpdatesWord.flagged w o low finds bad) = absurd (omega (arith, above, low))
  updates_alike v _ _ _ _ _ _ m g h (UpdatesWord.far above) (UpdatesWord.owned u w o answers a low finds good run) = absurd (omega (arith, above, low))
  updates_alike v _ _ _ _ _ _ m g h (UpdatesWord.unowned w x low finds) (UpdatesWord.far above) = absurd (omega (arith, above, low))
  updates_alike v _ _ _ _ _ _ m g h (UpdatesWord.unowned w x low finds) (UpdatesWord.unowned z y less found) = alike_map (finds_alike finds found) (λ e. (refl, ap (λ k. Err (Refused k)) (err_same says 0 {A = Owners} x y e)))
  updates_alike v _ _ _ _ _ _ m g h (UpdatesWord.unowned w x low finds) (UpdatesWord.flagged z o less found bad) = alike_map (finds_alike finds found) (λ e. absurd (let t = e in cc))
  updates_alike v _ _ _ _ _ _ m g h (UpdatesWord.unowned w x low finds) (UpdatesWord.owned u z o others b less found good run) = alike_apart (came_self w) (updated_at_came run.course) (finds_alike finds found) (λ e. absurd (let t = e in cc))
  updates_alike v _ _ _ _ _ _ m g h (UpdatesWord.flagged w o low finds bad) (UpdatesWord.far above) = absurd (omega (arith, above, low))
  updates_alike v _ _ _ _ _ _ m g h (UpdatesWord.flagged w o low finds bad) (UpdatesWord.unowned z y less found) = alike_map (finds_alike finds found) (λ e. absurd (let t = e in cc))
  updates_alike v _ _ _ _ _ _ m g h (UpdatesWord.flagged w o low finds bad) (UpdatesWord.flagged z q less found also) = alike_map (finds_alike finds found) (λ e. (refl, refl))
  updates_alike v _ _ _ _ _ _ m g h (UpdatesWord.flagged w o low finds bad) (UpdatesWord.owned u z q others b less found good run) = flags_apart (is_bad_flags flags) bad good
  updates_alike v _ _ _ _ _ _ m g h (UpdatesWord.owned u w o answers a low finds good run) (UpdatesWord.far above) = absurd (omega (arith, above, low))
  updates_alike v _ _ _ _ _ _ m g h (UpdatesWord.owned u w o answers a low finds good run) (UpdatesWord.unowned z y less found) = alike_apart (updated_at_came run.course) (came_self z) (finds_alike finds found) (λ e. absurd (let t = e in cc))
  updates_alike v _ _ _ _ _ _ m g h (UpdatesWord.owned u w o answers a low finds good run) (UpdatesWord.flagged z q less found bad) = flags_apart (is_bad_flags flags) bad good
  updates_alike v _ _ _ _ _ _ m g h (UpdatesWord.owned u w o answers a low finds good run) (UpdatesWord.owned y z q others b less found fine goes) =
      alike_next (λ k. UpdatesAt q va word k z others b) (finds_came finds) (updated_at_came run.course) (updated_at_came goes.course) (finds_alike finds found) goes
      (λ e rest. again (subst (λ k. UpdatesAt k va word u z others b) (sym (ok_same says 0 {E = Refusal} o q e)) rest))
    where
      again : UpdatesAt o va word u z others b → Alike u w z ((answers ≡ others) × (a ≡ b))
      again rest = updated_at_alike says m g h run.course rest.course

  -- ---- the operation
  pub maps_came : (awaited : Option ℕ) (v : PortValue) (from to : ℕ) (w : PortValue) (answers : List Bool) (a : Answer) → MapsWord d foreign va word flags awaited v from to w answers a → Came v w
  maps_came awaited v _ _ _ _ _ (MapsWord.unset w answers e first) = first_came _ says updates_came updates_alike v w answers (Err e) first
  maps_came awaited v _ _ _ _ _ (MapsWord.set u w answers a first drops) = came_trans v u w (first_came _ says updates_came updates_alike v u answers (Ok tt) first) (behind_came drops)
  maps_came awaited v _ _ _ _ _ (MapsWord.waited w a waits) = waits_came d true awaited v w a waits

  pub maps_alike : (awaited : Option ℕ) (v : PortValue) (from to other : ℕ) (w x : PortValue) (answers others : List Bool) (a b : Answer) (n : ℕ) → GivesAnswers says n answers → GivesAnswers says n others →
      MapsWord d foreign va word flags awaited v from to w answers a → MapsWord d foreign va word flags awaited v from other x others b → Alike v w x ((to ≡ other) × (answers ≡ others) × (a ≡ b))
  maps_alike awaited v _ _ _ _ _ _ _ _ _ n g h (MapsWord.unset w answers e first) (MapsWord.unset x others f begin) =
      alike_map (first_alike _ says updates_came updates_alike v w x answers others (Err e) (Err f) n g h first begin) (λ s. (refl, s.0, s.1))
  maps_alike awaited v _ _ _ _ _ _ _ _ _ n g h (MapsWord.unset w answers e first) (MapsWord.set u x others b begin drops) =
      alike_apart (came_self w) (behind_came drops) (first_alike _ says updates_came updates_alike v w u answers others (Err e) (Ok tt) n g h first begin) (λ s. absurd (let t = s.1 in cc))
  maps_alike awaited v _ _ _ _ _ _ _ _ _ n g h (MapsWord.set u w answers a begin drops) (MapsWord.unset x others e first) =
      alike_apart (behind_came drops) (came_self x) (first_alike _ says updates_came updates_alike v u x answers others (Ok tt) (Err e) n g h begin first) (λ s. absurd (let t = s.1 in cc))
  maps_alike awaited v _ _ _ _ _ _ _ _ _ n g h (MapsWord.set u w answers a first drops) (MapsWord.set y x others b begin lets) =
      alike_next (λ z. DropsBehind d flags va z x b) (first_came _ says updates_came updates_alike v u answers (Ok tt) first) (behind_came drops) (behind_came lets) (first_alike _ says updates_came updates_alike v u y answers others (Ok tt) (Ok tt) n g h first begin)
      lets (λ s rest. alike_map (behind_alike drops rest) (λ e. (ap done_behind e, s.0, e)))
  maps_alike awaited v _ _ _ _ _ _ _ _ _ n g h (MapsWord.waited w a waits) (MapsWord.waited x b awaits) = alike_map (waits_alike d true awaited v w x a b waits awaits) (λ e. (ap done_behind e, refl, e))

-- ---- descriptor tables
fits_came : (t : DescriptorTask) (v w : PortValue) (a : Answer) → DescriptorFits t v w a → Came v w
fits_came (SetGdt entries frames) v w a p = sets_gdt_came p.course
fits_came (SetDescriptor address word) v w a p = updates_descriptor_came p.course
fits_came (TouchLdt page) v w a p = touches_ldt_came p.course

fits_alike : (t : DescriptorTask) (v w x : PortValue) (a b : Answer) → DescriptorFits t v w a → DescriptorFits t v x b → Alike v w x (a ≡ b)
fits_alike (SetGdt entries frames) v w x a b p q = sets_gdt_alike p.course q.course
fits_alike (SetDescriptor address word) v w x a b p q = alike_map (updates_descriptor_alike p.course q.course) (λ s. s.1)
fits_alike (TouchLdt page) v w x a b p q = alike_map (touches_ldt_alike p.course q.course) (λ s. s.2)

pub descriptors_came : (t : DescriptorTask) (v : PortValue) (to : ℕ) (w : PortValue) (answers : List Bool) (a : Answer) → DoesDescriptors t v to w answers a → Came v w
descriptors_came t v to w answers a p = fits_came t v w a p.does

pub descriptors_alike : (t : DescriptorTask) (v : PortValue) (to other : ℕ) (w x : PortValue) (answers others : List Bool) (a b : Answer) → DoesDescriptors t v to w answers a → DoesDescriptors t v other x others b →
    Alike v w x ((to ≡ other) × (answers ≡ others) × (a ≡ b))
descriptors_alike t v to other w x answers others a b p q = alike_map (fits_alike t v w x a b p.does q.does) (λ e. (p.done ∙ (ap (λ z. done_by z) e ∙ sym q.done), p.no_ask ∙ sym q.no_ask, e))

-- ---- reads and writes
pub read_alike : (user : Bool) (va : ℕ) (v : PortValue) (to other : ℕ) (w x : PortValue) (answers others : List Bool) (a b : Result ℕ Stop) → MakesRead user va v to w answers a → MakesRead user va v other x others b →
    Alike v w x ((to ≡ other) × (answers ≡ others) × (a ≡ b))
read_alike user va v to other w x answers others a b p q = alike_map (reads_tie v w x user va a b p.course q.course) (λ e. (p.done ∙ (ap (λ z. done_by z) e ∙ sym q.done), p.no_ask ∙ sym q.no_ask, e))

guest_writes_came : {v w : PortValue} {user : Bool} {va val : ℕ} {a : Answer} → GuestWrites v w user va val a → Came v w
guest_writes_came {v} {w} (ways.GuestWrites.barred x is does same) = does_came v w _ does
guest_writes_came {v} {w} (ways.GuestWrites.cached x found may has does same) = does_came v w _ does
guest_writes_came {v} {w} (ways.GuestWrites.stopped e may has does same) = does_came v w _ does
guest_writes_came {v} {w} (ways.GuestWrites.read_only r e may has bars does walked) = does_came v w _ does
guest_writes_came {v} {w} (ways.GuestWrites.walked r found may has bars does walked) = does_came v w _ does

pub write_came : (user : Bool) (va val : ℕ) (v : PortValue) (to : ℕ) (w : PortValue) (answers : List Bool) (a : Answer) → MakesWrite user va val v to w answers a → Came v w
write_came user va val v to w answers a p = guest_writes_came p.course

pub write_alike : (user : Bool) (va val : ℕ) (v : PortValue) (to other : ℕ) (w x : PortValue) (answers others : List Bool) (a b : Answer) → MakesWrite user va val v to w answers a → MakesWrite user va val v other x others b →
    Alike v w x ((to ≡ other) × (answers ≡ others) × (a ≡ b))
write_alike user va val v to other w x answers others a b p q = alike_map (writes_tie v w x user va val a b p.course q.course) (λ e. (p.done ∙ (ap (λ z. done_by z) e ∙ sym q.done), p.no_ask ∙ sym q.no_ask, e))
