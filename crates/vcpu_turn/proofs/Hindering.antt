-- What an element of an operation does as steps of its port, and what pauses it where no other vCPU holds anything.
use Rattle.std.proofs.Common.{◌≡◌, ◌^◌, ℕ, ◌<◌, Bool, List, [], length, Option, Some, None, Result, Ok, Err, IfErr, refl, sym, subst, inl, inr, arith, true, false}
use Rattle.std.specs.Prelude.{slice_get}
use Rattle.std.proofs.lemmas.Bool.{cases_eq}
use Rattle.xp_words.specs.Machine.{Machine}
use Rattle.xp_words.specs.declared.ops.ExtOp.{ExtOp}
use Rattle.xp_words.specs.declared.ops.Pair.{Pair}
use Rattle.xp_words.specs.declared.reply.Pause.{Pause}
use Rattle.xp_words.specs.declared.reply.Pause.TheVariants.{Due, Lost, Busy, Flush, Alive}
use Rattle.xp_words.specs.declared.reply.Refusal.{Refusal}
use Rattle.xp_words.specs.declared.reply.Stop.{Stop}
use Rattle.xp_words.specs.declared.reply.Stop.TheVariants.{Refused, Paused}
use Rattle.xp_board.specs.Told.{Post, PortValue}
use Rattle.step_maker.specs.Moves.{Came}
use Rattle.step_maker.proofs.Coming.{came_self, came_trans, came_post}
use Rattle.step_maker.specs.Answers.{Stops, missed, misses}
use Rattle.step_maker.specs.Asked.{Request}
use Rattle.step_maker.proofs.Piecing.{serves_came}
use Rattle.answer_laws.specs.Alone.{IsAlone, IsDueOrFlush}
use Rattle.foreign_map.specs.Owning.{of_owners}
use Rattle.foreign_map.specs.declared.owners.Owners.{Owners}
use Rattle.desc_pages.specs.Descriptors.{of_descriptor}
use Rattle.desc_pages.specs.Gdt.{of_gdt}
use Rattle.desc_pages.specs.Names.{own_domain}
use Rattle.ldt_pages.specs.Touching.{of_touch}
use Rattle.level_release.specs.Asking.{of_settle}
use Rattle.mmu_update.specs.Addresses.{of_at}
use Rattle.mmu_update.specs.Elements as pairs
use Rattle.mmu_update.specs.Fits.{Updates}
use Rattle.mmu_update.specs.declared.element.Element as updating
use Rattle.mmu_update.specs.declared.element.Element.TheVariants as updates
use Rattle.mmuext_ops.specs.Bases.{may_rise, of_base, user_frame}
use Rattle.mmuext_ops.specs.Elements as elements
use Rattle.mmuext_ops.specs.declared.element.Element.{Element}
use Rattle.mmuext_ops.specs.declared.element.Element.TheVariants as performs
use Rattle.tlb_walks.specs.Accesses.{ServesWrite}
use Rattle.tlb_walks.specs.Asking.{of_read, of_write}
use Rattle.vcpu_turn.specs.declared.cpu.TurnEnd.TheVariants as ends
use Rattle.vcpu_turn.specs.Descriptors.{DescriptorFits, DescriptorTask, SetDescriptor, SetGdt, TouchLdt}
use Rattle.vcpu_turn.specs.Lists as lists
use Rattle.vcpu_turn.specs.Lists.{DidItems, Fitting, WorksOn, more, all_done, last_done, due, stopped}
use Rattle.vcpu_turn.specs.Accesses.{MakesRead, MakesWrite}
use Rattle.vcpu_turn.specs.Ext.{ExtFits, FitsExt, Performs, awaited_for}
use Rattle.vcpu_turn.specs.Mappings as mapping
use Rattle.vcpu_turn.specs.Mappings.{DropsBehind, DropsOwn, MapsWord, UpdatesWord, WaitsForAll, own_drop, waits_for_all}
use Rattle.vcpu_turn.specs.Pairs.{FindsOwners, FitsPair, PairFits}
use Rattle.vcpu_turn.specs.Settling.{SettlesFirst, Settles, unsettled, performed}
use Rattle.reservations.specs.Extents.{StopsExtent, of_extent}
use Rattle.reservations.specs.declared.extents.Extent.{Extent}
use Rattle.reservations.specs.declared.extents.Extent.TheVariants as extents
use Rattle.vcpu_turn.specs.Extents.{ExtentFits, given_by}
use Rattle.vcpu_turn.specs.Working.{valued}
use Rattle.vcpu_turn.specs.Unhindered.{IsUnhindered}

-- ---- steps
pub same_came : (v w : PortValue) → w ≡ v → Came v w
same_came v w same = subst (Came v) (sym same) (came_self v)

pub settles_came : {below : Option ℕ} → (v w : PortValue) (answers : List Bool) (answer : Result (Unit {0}) Stop) → Settles below v w answers answer → Came v w
settles_came v w answers answer s = serves_came v w (of_settle 0 0 answer) (misses v.post.machine answer) (s.serves 0 0)

performs_came : (d : ℕ) (e : Element) (awaited : Option ℕ) (v w : PortValue) (answers : List Bool) (answer : Result (Unit {0}) Stop) → Performs d e awaited v w answers answer → Came v w
performs_came d e awaited v w answers answer p = serves_came v w (elements.ext_request v.post.machine v.post.vcpu d e awaited answer) p.serves.0 p.serves.2

pub reads_came : (user : Bool) (va : ℕ) (v : PortValue) (to : ℕ) (w : PortValue) (answers : List Bool) (answer : Result ℕ Stop) → MakesRead user va v to w answers answer → Came v w
reads_came user va v to w answers answer r = serves_came v w (of_read va) (misses v.post.machine answer) r.serves

write_came : (user : Bool) (va val : ℕ) (v w : PortValue) (answer : Result (Unit {0}) Stop) → ServesWrite v w user va val answer → Came v w
write_came user va val v w (Ok done) serves = serves_came v w (of_write v user va) _ serves.2
write_came user va val v w (Err e) serves = serves_came v w (of_write v user va) (missed v.post.machine e) serves

pub writes_came : (user : Bool) (va val : ℕ) (v : PortValue) (to : ℕ) (w : PortValue) (answers : List Bool) (answer : Result (Unit {0}) Stop) → MakesWrite user va val v to w answers answer → Came v w
writes_came user va val v to w answers answer r = write_came user va val v w answer r.serves

updates_came : (o : Owners) (e : updating.Element) (v w : PortValue) (answers : List Bool) (answer : Result (Unit {0}) Stop) → Updates o e v w answers answer → Came v w
updates_came o e v w answers answer u = serves_came v w (pairs.update_request o e answer) u.serves.0 u.serves.2

pub owners_came : (v w : PortValue) (d foreign : ℕ) (answer : Result Owners Refusal) → FindsOwners v w d foreign answer → Came v w
owners_came v w d foreign answer f = serves_came v w (of_owners v.post.machine d foreign) [] f.serves

-- what is done behind a settling
module _ (P : PortValue → PortValue → List Bool → Result (Unit {0}) Stop → Type 0) (comes : (v w : PortValue) (answers : List Bool) (answer : Result (Unit {0}) Stop) → P v w answers answer → Came v w) where
  pub behind_came : (v w : PortValue) (answers : List Bool) (answer : Result (Unit {0}) Stop) → SettlesFirst P v w answers answer → Came v w
  behind_came v _ _ _ (unsettled w answers stop s) = settles_came v w answers (Err stop) s
  behind_came v _ _ _ (performed u w early answers answer s p) = came_trans v u w (settles_came v u early (Ok tt) s) (comes u w answers answer p)

pair_came : (o : Owners) (x : Option Pair) (v w : PortValue) (answers : List Bool) (answer : Result (Unit {0}) Stop) → FitsPair o x v w answers answer → Came v w
pair_came o None v w answers answer f = absurd f
pair_came o (Some p) v w answers answer f = behind_came (Updates o (pairs.element_of p)) (updates_came o (pairs.element_of p)) v w answers answer f

ext_came : (d : ℕ) (awaited : Option ℕ) (x : Option ExtOp) (v w : PortValue) (answers : List Bool) (answer : Result (Unit {0}) Stop) → FitsExt d awaited x v w answers answer → Came v w
ext_came d awaited None v w answers answer f = absurd f
ext_came d awaited (Some op) v w answers answer f = behind_came (Performs d (elements.ext_element op) awaited) (performs_came d (elements.ext_element op) awaited) v w answers answer f

pub pairs_came : (o : Owners) (list : List Pair) (k : ℕ) (v w : PortValue) (answers : List Bool) (answer : Result (Unit {0}) Stop) → PairFits o list k v w answers answer → Came v w
pairs_came o list k v w answers answer f = pair_came o (slice_get list k) v w answers answer f

pub exts_came : (d : ℕ) (list : List ExtOp) (from : ℕ) (awaited : Option ℕ) (k : ℕ) (v w : PortValue) (answers : List Bool) (answer : Result (Unit {0}) Stop) → ExtFits d list from awaited k v w answers answer →
    Came v w
exts_came d list from awaited k v w answers answer f = ext_came d (awaited_for from awaited k) (slice_get list k) v w answers answer f

-- an update by address
pub word_came : (d foreign va word flags : ℕ) (v w : PortValue) (answers : List Bool) (answer : Result (Unit {0}) Stop) → UpdatesWord d foreign va word flags v w answers answer → Came v w
word_came d foreign va word flags v _ _ _ (mapping.UpdatesWord.far above) = came_self v
word_came d foreign va word flags v _ _ _ (mapping.UpdatesWord.unowned w x few finds) = owners_came v w d foreign (Err x) finds
word_came d foreign va word flags v _ _ _ (mapping.UpdatesWord.flagged w o few finds bad) = owners_came v w d foreign (Ok o) finds
word_came d foreign va word flags v _ _ _ (mapping.UpdatesWord.owned u w o answers answer few finds good at) =
    came_trans v u w (owners_came v u d foreign (Ok o) finds) (serves_came u w (of_at o va at.table word answer) at.serves.0 at.serves.2)

pub drop_came : (d : ℕ) (e : Option Element) (v w : PortValue) (answer : Result (Unit {0}) Stop) → DropsOwn d e v w answer → Came v w
drop_came d (Some e) v w answer drops = performs_came d e None v w [] answer drops
drop_came d None v w answer drops = same_came v w drops.0

pub wait_came : (d : ℕ) (waits : Bool) (awaited : Option ℕ) (v w : PortValue) (answer : Result (Unit {0}) Stop) → WaitsForAll d waits awaited v w answer → Came v w
wait_came d true awaited v w answer waits = performs_came d (performs.FlushVcpus elements.every_vcpu) awaited v w [] answer waits
wait_came d false awaited v w answer waits = same_came v w waits.0

pub drops_came : (d flags va : ℕ) (v w : PortValue) (answer : Result (Unit {0}) Stop) → DropsBehind d flags va v w answer → Came v w
drops_came d flags va v _ _ (mapping.DropsBehind.undropped w e drops) = drop_came d (own_drop flags va) v w (Err e) drops
drops_came d flags va v _ _ (mapping.DropsBehind.dropped u w answer drops waits) =
    came_trans v u w (drop_came d (own_drop flags va) v u (Ok tt) drops) (wait_came d (waits_for_all flags) None u w answer waits)

pub maps_came : (d foreign va word flags : ℕ) (awaited : Option ℕ) (v : PortValue) (from to : ℕ) (w : PortValue) (answers : List Bool) (answer : Result (Unit {0}) Stop) →
    MapsWord d foreign va word flags awaited v from to w answers answer → Came v w
maps_came d foreign va word flags awaited v _ _ _ _ _ (mapping.MapsWord.unset w answers e first) =
    behind_came (UpdatesWord d foreign va word flags) (word_came d foreign va word flags) v w answers (Err e) first
maps_came d foreign va word flags awaited v _ _ _ _ _ (mapping.MapsWord.set u w answers answer first drops) =
    came_trans v u w (behind_came (UpdatesWord d foreign va word flags) (word_came d foreign va word flags) v u answers (Ok tt) first) (drops_came d flags va u w answer drops)
maps_came d foreign va word flags awaited v _ _ _ _ _ (mapping.MapsWord.waited w answer waits) = wait_came d true awaited v w answer waits

-- an operation on descriptor tables
pub descriptors_came : (t : DescriptorTask) (v w : PortValue) (answer : Result (Unit {0}) Stop) → DescriptorFits t v w answer → Came v w
descriptors_came (SetGdt entries frames) v w answer fit = fit.came
descriptors_came (SetDescriptor address word) v w answer fit = fit.came
descriptors_came (TouchLdt page) v w answer fit = serves_came v w _ _ fit.serves

pub extent_came : (d command order : ℕ) (items : List ℕ) (from within k : ℕ) (v w : PortValue) (answers : List Bool) (answer : Result (Unit {0}) Stop) → ExtentFits d command order items from within k v w answers answer → Came v w
extent_came d command order items from within k v w answers answer f = serves_came v w _ _ f.reserves.serves.serves

-- a list of items
module _ (fits : Fitting) (comes : (k : ℕ) (v w : PortValue) (answers : List Bool) (answer : Result (Unit {0}) Stop) → fits k v w answers answer → Came v w) (count from : ℕ) (v : PortValue) where
  pub did_came : (k : ℕ) (w : PortValue) (answers : List Bool) → DidItems fits count from v k w answers → Came v w
  did_came _ _ _ lists.DidItems.none = came_self v
  did_came _ _ _ (more k u w answers asked before f less) = came_trans v u w (did_came k u answers before) (comes k u w asked (Ok tt) f)

  pub list_came : (to : ℕ) (w : PortValue) (answers : List Bool) (answer : Result (Unit {0}) Stop) → WorksOn fits count from v to w answers answer → Came v w
  list_came _ _ _ _ (all_done same) = came_self v
  list_came _ _ _ _ (last_done k u w answers asked before f at) = came_trans v u w (did_came k u answers before) (comes k u w asked (Ok tt) f)
  list_came _ _ _ _ (due k u w answers asked before f less) = came_trans v u w (did_came k u answers before) (comes k u w asked (Ok tt) f)
  list_came _ _ _ _ (stopped k u w answers asked e before f less) = came_trans v u w (did_came k u answers before) (comes k u w asked (Err e) f)

-- ---- pauses
abbrev pub AloneStays : Type 0
AloneStays = (v w : PortValue) → IsAlone v → Came v w → IsAlone w

abbrev pub NeitherLostNorBusy : Type 0
NeitherLostNorBusy = (v w : PortValue) (r : Request) (x : Pause) → IsAlone v → r.destroys ≡ None → Stops v w r (Paused x) → IsDueOrFlush x

abbrev pub NobodyWaitedFor : Type 0
NobodyWaitedFor = (v w : PortValue) (r : Request) (u stamp x : ℕ) → length v.post.machine.vcpu_domain ≡ 1 → Stops v w r (Paused (Flush u stamp x)) → ⊥

pub pair_destroys : (o : Owners) (e : updating.Element) (answer : Result (Unit {0}) Stop) → (pairs.update_request o e answer).destroys ≡ None
pair_destroys o (updates.SetM2p f w) answer = refl
pair_destroys o (updates.Write f i w keep) answer = refl
pair_destroys o updates.Misaligned answer = refl
pair_destroys o updates.Unknown answer = refl

base_destroys : (d : ℕ) (new : Option ℕ) (rose : Bool) → (of_base d new rose).destroys ≡ None
base_destroys d None rose = refl
base_destroys d (Some f) rose = refl

pub element_destroys : (n : Machine) (s d : ℕ) (e : Element) (awaited : Option ℕ) (answer : Result (Unit {0}) Stop) → (elements.ext_request n s d e awaited answer).destroys ≡ None
element_destroys n s d (performs.Pin f level) awaited answer = refl
element_destroys n s d (performs.Unpin f) awaited answer = refl
element_destroys n s d (performs.NewBase f) awaited answer = refl
element_destroys n s d (performs.NewUserBase f) awaited answer = base_destroys d (user_frame f) (may_rise answer)
element_destroys n s d performs.FlushLocal awaited answer = refl
element_destroys n s d (performs.Invalidate va) awaited answer = refl
element_destroys n s d (performs.FlushVcpus mask) awaited answer = refl
element_destroys n s d (performs.SetLdt address entries) awaited answer = refl
element_destroys n s d (performs.ClearPage f) awaited answer = refl
element_destroys n s d (performs.CopyPage to from) awaited answer = refl
element_destroys n s d performs.Unknown awaited answer = refl

pub extent_destroys : (owner size : ℕ) (extent : Extent) (block : ℕ) → (of_extent owner size extent block).destroys ≡ None
extent_destroys owner size extents.Increase block = refl
extent_destroys owner size (extents.Decrease first) block = refl
extent_destroys owner size (extents.Populate gpfn) block = refl

-- no turn of a vCPU of the machine is paused so
abbrev pub Spared : {A : Type 0} → PortValue → Result A Stop → Type 0
Spared v (Err (Paused x)) = IsUnhindered v.post.machine (ends.Paused x)
Spared v _ = Unit {0}

pub refused_whole : {A : Type 0} (v : PortValue) (x : Refusal) (answer : Result A Stop) → answer ≡ Err (Refused x) → Spared v answer
refused_whole v x answer e = rw e tt

pub valued_spared : (v : PortValue) (ended : Result (Unit {0}) Stop) (answer : Result ℕ Stop) → answer ≡ valued ended → Spared v ended → Spared v answer
valued_spared v (Ok done) answer is s = rw is tt
valued_spared v (Err (Refused x)) answer is s = rw is tt
valued_spared v (Err (Paused x)) answer is s = rw is s

-- one that is alone, and of its machine
pub record IsSpared (v : PortValue) : Type 0 where
  pub alone : IsAlone v
  pub real : v.post.vcpu < length v.post.machine.vcpu_domain

module _ (stays : AloneStays) (neither : NeitherLostNorBusy) (nobody : NobodyWaitedFor) where
  paused_for : (v w : PortValue) (r : Request) (x : Pause) → r.destroys ≡ None → IsSpared v → Stops v w r (Paused x) → IsUnhindered v.post.machine (ends.Paused x)
  paused_for v w r Due kept s stops = tt
  paused_for v w r (Lost place expected found) kept s stops = neither v w r (Lost place expected found) s.alone kept stops
  paused_for v w r (Busy frame found) kept s stops = neither v w r (Busy frame found) s.alone kept stops
  paused_for v w r (Alive vcpu found) kept s stops = neither v w r (Alive vcpu found) s.alone kept stops
  paused_for v w r (Flush vcpu stamp found) kept s stops =
      elim (cases_eq (length v.post.machine.vcpu_domain) 1) [
        | inl one ↦ absurd (nobody v w r vcpu stamp found one stops)
        | inr other ↦ (let real = s.real in omega (arith, real, other))
      ]

  -- a call that destroys nothing
  pub call_spared : {A : Type 0} (v w : PortValue) (r : Request) (answer : Result A Stop) → r.destroys ≡ None → IsSpared v → IfErr answer (λ e. Stops v w r e) → Spared v answer
  call_spared v w r (Ok done) kept s stops = tt
  call_spared v w r (Err (Refused x)) kept s stops = tt
  call_spared v w r (Err (Paused x)) kept s stops = paused_for v w r x kept s stops

  -- behind steps of the own
  pub spared_on : (v u : PortValue) → Came v u → IsSpared v → IsSpared u
  spared_on v u came s = record { alone = stays v u s.alone came; real = subst (λ (q : Post). q.vcpu < length q.machine.vcpu_domain) (sym (came_post v u came)) s.real }

  pub spared_back : (v u : PortValue) (answer : Result (Unit {0}) Stop) → Came v u → Spared u answer → Spared v answer
  spared_back v u (Ok done) came s = tt
  spared_back v u (Err (Refused x)) came s = tt
  spared_back v u (Err (Paused x)) came s = subst (λ (q : Post). IsUnhindered q.machine (ends.Paused x)) (came_post v u came) s

  pub settles_spared : {below : Option ℕ} → (v w : PortValue) (answers : List Bool) (answer : Result (Unit {0}) Stop) → IsSpared v → Settles below v w answers answer → Spared v answer
  settles_spared v w answers answer s settles = call_spared v w (of_settle 0 0 answer) answer refl s (settles.stops 0 0)

  updates_spared : (o : Owners) (e : updating.Element) (v w : PortValue) (answers : List Bool) (answer : Result (Unit {0}) Stop) → IsSpared v → Updates o e v w answers answer → Spared v answer
  updates_spared o e v w answers answer s u = call_spared v w (pairs.update_request o e answer) answer (pair_destroys o e answer) s u.stops

  performs_spared : (d : ℕ) (e : Element) (awaited : Option ℕ) (v w : PortValue) (answers : List Bool) (answer : Result (Unit {0}) Stop) → IsSpared v → Performs d e awaited v w answers answer → Spared v answer
  performs_spared d e awaited v w answers answer s p =
      let n = v.post.machine in
      call_spared v w (elements.ext_request n v.post.vcpu d e awaited answer) answer (element_destroys n v.post.vcpu d e awaited answer) s p.stops

  module _ (P : PortValue → PortValue → List Bool → Result (Unit {0}) Stop → Type 0) (spares : (v w : PortValue) (answers : List Bool) (answer : Result (Unit {0}) Stop) → IsSpared v → P v w answers answer → Spared v answer) where
    behind_spared : (v w : PortValue) (answers : List Bool) (answer : Result (Unit {0}) Stop) → IsSpared v → SettlesFirst P v w answers answer → Spared v answer
    behind_spared v _ _ _ s (unsettled w answers stop settles) = settles_spared v w answers (Err stop) s settles
    behind_spared v _ _ _ s (performed u w early answers answer settles p) =
        let came = settles_came v u early (Ok tt) settles in
        spared_back v u answer came (spares u w answers answer (spared_on v u came s) p)

  pub pair_spared : (o : Owners) (x : Option Pair) (v w : PortValue) (answers : List Bool) (answer : Result (Unit {0}) Stop) → IsSpared v → FitsPair o x v w answers answer → Spared v answer
  pair_spared o None v w answers answer s f = absurd f
  pair_spared o (Some p) v w answers answer s f = behind_spared (Updates o (pairs.element_of p)) (updates_spared o (pairs.element_of p)) v w answers answer s f

  pub ext_spared : (d : ℕ) (awaited : Option ℕ) (x : Option ExtOp) (v w : PortValue) (answers : List Bool) (answer : Result (Unit {0}) Stop) → IsSpared v → FitsExt d awaited x v w answers answer → Spared v answer
  ext_spared d awaited None v w answers answer s f = absurd f
  ext_spared d awaited (Some op) v w answers answer s f =
      behind_spared (Performs d (elements.ext_element op) awaited) (performs_spared d (elements.ext_element op) awaited) v w answers answer s f

  -- an update by address
  word_spared : (d foreign va word flags : ℕ) (v w : PortValue) (answers : List Bool) (answer : Result (Unit {0}) Stop) → IsSpared v → UpdatesWord d foreign va word flags v w answers answer → Spared v answer
  word_spared d foreign va word flags v _ _ _ s (mapping.UpdatesWord.far above) = tt
  word_spared d foreign va word flags v _ _ _ s (mapping.UpdatesWord.unowned w x few finds) = tt
  word_spared d foreign va word flags v _ _ _ s (mapping.UpdatesWord.flagged w o few finds bad) = tt
  word_spared d foreign va word flags v _ _ _ s (mapping.UpdatesWord.owned u w o answers answer few finds good at) =
      let came = owners_came v u d foreign (Ok o) finds in
      spared_back v u answer came (call_spared u w (of_at o va at.table word answer) answer refl (spared_on v u came s) at.stops)

  drop_spared : (d : ℕ) (e : Option Element) (v w : PortValue) (answer : Result (Unit {0}) Stop) → IsSpared v → DropsOwn d e v w answer → Spared v answer
  drop_spared d (Some e) v w answer s drops = performs_spared d e None v w [] answer s drops
  drop_spared d None v w answer s drops = rw drops.1 tt

  wait_spared : (d : ℕ) (waits : Bool) (awaited : Option ℕ) (v w : PortValue) (answer : Result (Unit {0}) Stop) → IsSpared v → WaitsForAll d waits awaited v w answer → Spared v answer
  wait_spared d true awaited v w answer s waits = performs_spared d (performs.FlushVcpus elements.every_vcpu) awaited v w [] answer s waits
  wait_spared d false awaited v w answer s waits = rw waits.1 tt

  drops_spared : (d flags va : ℕ) (v w : PortValue) (answer : Result (Unit {0}) Stop) → IsSpared v → DropsBehind d flags va v w answer → Spared v answer
  drops_spared d flags va v _ _ s (mapping.DropsBehind.undropped w e drops) = drop_spared d (own_drop flags va) v w (Err e) s drops
  drops_spared d flags va v _ _ s (mapping.DropsBehind.dropped u w answer drops waits) =
      let came = drop_came d (own_drop flags va) v u (Ok tt) drops in
      spared_back v u answer came (wait_spared d (waits_for_all flags) None u w answer (spared_on v u came s) waits)

  pub maps_spared : (d foreign va word flags : ℕ) (awaited : Option ℕ) (v : PortValue) (from to : ℕ) (w : PortValue) (answers : List Bool) (answer : Result (Unit {0}) Stop) → IsSpared v →
      MapsWord d foreign va word flags awaited v from to w answers answer → Spared v answer
  maps_spared d foreign va word flags awaited v _ _ _ _ _ s (mapping.MapsWord.unset w answers e first) =
      behind_spared (UpdatesWord d foreign va word flags) (word_spared d foreign va word flags) v w answers (Err e) s first
  maps_spared d foreign va word flags awaited v _ _ _ _ _ s (mapping.MapsWord.set u w answers answer first drops) =
      let came = behind_came (UpdatesWord d foreign va word flags) (word_came d foreign va word flags) v u answers (Ok tt) first in
      spared_back v u answer came (drops_spared d flags va u w answer (spared_on v u came s) drops)
  maps_spared d foreign va word flags awaited v _ _ _ _ _ s (mapping.MapsWord.waited w answer waits) = wait_spared d true awaited v w answer s waits

  -- an operation on descriptor tables
  pub descriptors_spared : (t : DescriptorTask) (v w : PortValue) (answer : Result (Unit {0}) Stop) → IsSpared v → DescriptorFits t v w answer → Spared v answer
  descriptors_spared (SetGdt entries frames) v w answer s fit = call_spared v w (of_gdt (own_domain v) entries frames) answer refl s fit.stops
  descriptors_spared (SetDescriptor address word) v w answer s fit = call_spared v w (of_descriptor (own_domain v) address word fit.want) answer refl s fit.stops
  descriptors_spared (TouchLdt page) v w answer s fit = call_spared v w (of_touch (own_domain v) page fit.base) answer refl s fit.stops

  -- an extent, whose answer says besides which block was given
  reserves_spared : (owner size : ℕ) (extent : Extent) (given : Option ℕ) (v w : PortValue) (answer : Result (Unit {0}) Stop) → IsSpared v → IfErr (given_by given answer) (λ e. StopsExtent owner size extent v w e) → Spared v answer
  reserves_spared owner size extent given v w (Ok done) s stops = tt
  reserves_spared owner size extent given v w (Err e) s stops = call_spared {A = Unit {0}} v w (of_extent owner size extent stops.0) (Err e) (extent_destroys owner size extent stops.0) s stops.1

  pub extent_spared : (d command order : ℕ) (items : List ℕ) (from within k : ℕ) (v w : PortValue) (answers : List Bool) (answer : Result (Unit {0}) Stop) → IsSpared v → ExtentFits d command order items from within k v w answers answer → Spared v answer
  extent_spared d command order items from within k v w answers answer s f = reserves_spared d (2 ^ order) f.extent f.given v w answer s f.reserves.stops

  pub list_spared : (fits : Fitting) → ((k : ℕ) (v w : PortValue) (answers : List Bool) (answer : Result (Unit {0}) Stop) → fits k v w answers answer → Came v w) →
      ((k : ℕ) (v w : PortValue) (answers : List Bool) (answer : Result (Unit {0}) Stop) → IsSpared v → fits k v w answers answer → Spared v answer) →
      (count from : ℕ) (v : PortValue) (to : ℕ) (w : PortValue) (answers : List Bool) (answer : Result (Unit {0}) Stop) → IsSpared v → WorksOn fits count from v to w answers answer → Spared v answer
  list_spared fits comes spares count from v _ _ _ _ s (all_done same) = tt
  list_spared fits comes spares count from v _ _ _ _ s (last_done k u w answers asked before f at) = tt
  list_spared fits comes spares count from v _ _ _ _ s (due k u w answers asked before f less) = tt
  list_spared fits comes spares count from v _ _ _ _ s (stopped k u w answers asked e before f less) =
      let came = did_came fits comes count from v k u answers before in
      spared_back v u (Err e) came (spares k u w asked (Err e) (spared_on v u came s) f)
