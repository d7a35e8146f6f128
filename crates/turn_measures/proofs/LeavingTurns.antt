-- What a turn leaves of the others.
use Rattle.std.proofs.Common.{◌≡◌, ◌+◌, ◌^◌, ℕ, length, Bool, true, false, List, [], Option, Some, None, Result, Ok, Err, is_some, refl, sym, ap, ◌∙◌, subst, inl, inr}
use Rattle.std.specs.Prelude.{slice_get}
use Rattle.xp_words.specs.declared.ops.ExtOp.{ExtOp}
use Rattle.xp_words.specs.declared.ops.Op.{Op}
use Rattle.xp_words.specs.declared.ops.Pair.{Pair}
use Rattle.xp_words.specs.declared.place.Place.{Place}
use Rattle.xp_words.specs.declared.place.Place.TheVariants.{Clock, Vcpu}
use Rattle.xp_words.specs.declared.reply.Refusal.{Refusal}
use Rattle.xp_words.specs.declared.reply.Stop.{Stop}
use Rattle.xp_words.specs.declared.reply.Stop.TheVariants.{Paused}
use Rattle.xp_board.specs.Told.{Post, PortValue, is_telling}
use Rattle.xp_board.specs.declared.step.Act.{Act}
use Rattle.xp_board.specs.declared.step.Act.TheVariants.{Load, Store}
use Rattle.xp_board.specs.declared.step.Mark.{Mark}
use Rattle.xp_board.specs.declared.step.StepKind.{StepKind}
use Rattle.step_maker.specs.Moves.{Came, Moves}
use Rattle.step_maker.proofs.Coming.{came_self, came_trans, came_post, moves_came}
use Rattle.step_maker.proofs.Telling.{came_telling}
use Rattle.step_maker.specs.Answers.{Deed, Serves, missed, misses}
use Rattle.step_maker.specs.Asked.{Request}
use Rattle.step_maker.proofs.Piecing.{serves_came}
use Rattle.answer_laws.specs.Alone.{IsAlone}
use Rattle.flush_words.specs.Flushing.{FlushesOwn}
use Rattle.flush_words.specs.Flushing as flushing
use Rattle.desc_pages.specs.Descriptors.{descriptor_deeds, of_descriptor}
use Rattle.desc_pages.specs.Gdt.{gdt_deeds, of_gdt}
use Rattle.desc_pages.specs.Names.{own_domain}
use Rattle.foreign_map.specs.Owning.{of_owners}
use Rattle.foreign_map.specs.declared.owners.Owners.{Owners}
use Rattle.ldt_pages.specs.Touching.{of_touch, touch_deeds}
use Rattle.level_release.specs.Asking.{of_settle}
use Rattle.mmu_update.specs.Addresses.{of_at}
use Rattle.mmu_update.specs.Elements as pairs
use Rattle.mmu_update.specs.Fits.{Updates}
use Rattle.mmu_update.specs.declared.element.Element as updating
use Rattle.mmuext_ops.specs.Elements as elements
use Rattle.mmuext_ops.specs.declared.element.Element.{Element}
use Rattle.mmuext_ops.specs.declared.element.Element.TheVariants.{FlushVcpus}
use Rattle.reservations.specs.Extents.{of_extent}
use Rattle.tlb_walks.specs.Accesses.{ServesWrite}
use Rattle.tlb_walks.specs.Asking.{of_read, of_write}
use Rattle.tlb_walks.specs.Dropping.{Acks, Heeds}
use Rattle.vcpu_turn.specs.Cpus.{OfDescriptors, OfExt, OfMapping, OfMem, OfPairs, OfRead, OfWrite, Processing, Task, job_of, next_of, nothing_left}
use Rattle.vcpu_turn.specs.Descriptors.{DescriptorFits, DescriptorTask, SetDescriptor, SetGdt, TouchLdt}
use Rattle.vcpu_turn.specs.Extents as extents
use Rattle.vcpu_turn.specs.Extents.{ExtentFits, WorksExtents, begins_in, extents_in}
use Rattle.vcpu_turn.specs.Lists as lists
use Rattle.vcpu_turn.specs.Lists.{DidItems, Fitting, WorksOn, WorksThrough, more, all_done, last_done, due, stopped}
use Rattle.vcpu_turn.specs.Ext.{ExtFits, FitsExt, Performs, awaited_for}
use Rattle.vcpu_turn.specs.Mappings as mapping
use Rattle.vcpu_turn.specs.Mappings.{DropsBehind, DropsOwn, MapsWord, UpdatesWord, WaitsForAll, own_drop, waits_for_all}
use Rattle.vcpu_turn.specs.Pairs as owning
use Rattle.vcpu_turn.specs.Pairs.{FindsOwners, FitsPair, PairFits, WorksOwned}
use Rattle.vcpu_turn.specs.Settling.{SettlesFirst, Settles, unsettled, performed}
use Rattle.vcpu_turn.specs.Turning as turning
use Rattle.vcpu_turn.specs.Turning.{Begins, DiesNext, DoesNext, DoesTurn, EndsTurn, IsStop, IsTurn}
use Rattle.vcpu_turn.specs.Working.{Works}
use Rattle.vcpu_turn.specs.declared.cpu.TurnEnd.{TurnEnd}
use Rattle.vcpu_turn.specs.declared.cpu.TurnEnd.TheVariants as ends
use Rattle.vcpu_turn.proofs.Hindering.{element_destroys, extent_destroys, pair_destroys}
use Rattle.turn_measures.specs.Measures.{DestroysNothing}
use Rattle.turn_measures.proofs.Leaving.{Spared, Spares, same_spared, spared_trans, step_leaves}
use Rattle.turn_measures.proofs.LeavingCalls.{clock_spares, load_spares, moves_up, own_spares, serves_spares}
use Rattle.turn_measures.proofs.OverCalls.{Pieces, job_over}

-- ---- steps of the own
pub record Kept (v w : PortValue) : Type 0 where
  pub came : Came v w
  pub spared : is_telling v ≡ true → Spared v w

kept_self : (v : PortValue) → Kept v v
kept_self v = record { came = came_self v; spared = λ is. same_spared v v refl }

kept_same : (v w : PortValue) → w ≡ v → Kept v w
kept_same v w same = subst (Kept v) (sym same) (kept_self v)

kept_trans : (v u w : PortValue) → Kept v u → Kept u w → Kept v w
kept_trans v u w a b =
    record { came = came_trans v u w a.came b.came; spared = λ is. spared_trans v u w (came_post v u a.came) (a.spared is) (b.spared (came_telling v u a.came ∙ is)) }

kept_serves : (v w : PortValue) (r : Request) (ds : List Deed) → r.destroys ≡ None → Serves v w r ds → Kept v w
kept_serves v w r ds kept serves = record { came = serves_came v w r ds serves; spared = serves_spares v w r ds kept serves }

-- one step
kept_moves : (v w : PortValue) (p : Place) (a : Act) (kind : StepKind) (mark : Option Mark) (found : ℕ) → Moves v w p a kind mark found → Spares v.post.vcpu p a found → Kept v w
kept_moves v w p a kind mark found m spares = record { came = moves_came v w p a kind mark found m; spared = λ is. step_leaves v w p a kind mark found m is spares }

kept_look : (v w : PortValue) (p : Place) (kind : StepKind) (mark : Option Mark) (found : ℕ) → Moves v w p Load kind mark found → Kept v w
kept_look v w p kind mark found m = kept_moves v w p Load kind mark found m (load_spares v.post.vcpu p found)

kept_clock : (v w : PortValue) (a : Act) (kind : StepKind) (mark : Option Mark) (found : ℕ) → Moves v w Clock a kind mark found → Kept v w
kept_clock v w a kind mark found m = kept_moves v w Clock a kind mark found m (clock_spares v.post.vcpu a found (moves_up v w a kind mark found m))

-- ---- the beginning and the end
-- the own flush, last
ack_kept : (v b w : PortValue) (k : ℕ) (a : Act) (kind : StepKind) (found : ℕ) → Kept v b → Moves b w (Vcpu v.post.vcpu k) a kind None found → Kept v w
ack_kept v b w k a kind found before m =
    kept_trans v b w before (kept_moves b w _ a kind None found m (subst (λ (q : Post). Spares q.vcpu (Vcpu v.post.vcpu k) a found) (sym (came_post v b before.came)) (own_spares v.post.vcpu k a found)))

own_kept : (v w : PortValue) (answer : Result (Unit {0}) Refusal) → FlushesOwn v w answer → Kept v w
own_kept v w _ (flushing.spent look) = kept_look v w _ _ _ _ look
own_kept v w _ (flushing.ticked a b clock before room look tick ack) =
    ack_kept v b w 5 _ _ _ (kept_trans v a b (kept_look v a _ _ _ _ look) (kept_clock a b _ _ _ _ tick)) ack
own_kept v w _ (flushing.overtaken a b clock found before room other look tick ack) =
    ack_kept v b w 5 _ _ _ (kept_trans v a b (kept_look v a _ _ _ _ look) (kept_clock a b _ _ _ _ tick)) ack

heeds_kept : (b : Bool) (v w : PortValue) → Heeds b v w → Kept v w
heeds_kept true v w same = kept_same v w same
heeds_kept false v w f = own_kept v w f.0 f.1

acks_kept : (v w : PortValue) → Acks v w → Kept v w
acks_kept v w a = kept_trans v a.b w (kept_trans v a.a a.b (kept_look v a.a _ _ _ _ a.marked) (kept_look a.a a.b _ _ _ _ a.looked)) (heeds_kept _ a.b w a.heeds)

begins_kept : (v w : PortValue) (d run life : ℕ) → Begins v w d run life → Kept v w
begins_kept v w d run life b = kept_trans v b.acked w (acks_kept v b.acked b.acks) (kept_trans b.acked b.looked w (kept_look b.acked b.looked _ _ _ _ b.running) (kept_look b.looked w _ _ _ _ b.lives))

stop_kept : (v w : PortValue) → IsStop v w → Kept v w
stop_kept v w s = kept_moves v w _ _ _ _ _ s.1 (own_spares v.post.vcpu 6 (Store 1) s.0)

ends_kept : (end : TurnEnd) (v w : PortValue) → EndsTurn end v w → Kept v w
ends_kept (ends.Answered reply) v w e = kept_look v w _ _ _ _ e.1
ends_kept (ends.Paused p) v w e = kept_same v w e
ends_kept ends.Retired v w e = stop_kept v w e

-- ---- what is done between
settles_kept : {below : Option ℕ} → (v w : PortValue) (answers : List Bool) (answer : Result (Unit {0}) Stop) → Settles below v w answers answer → Kept v w
settles_kept v w answers answer s = kept_serves v w (of_settle 0 0 answer) (misses v.post.machine answer) refl (s.serves 0 0)

performs_kept : (d : ℕ) (e : Element) (awaited : Option ℕ) (v w : PortValue) (answers : List Bool) (answer : Result (Unit {0}) Stop) → Performs d e awaited v w answers answer → Kept v w
performs_kept d e awaited v w answers answer p =
    let n = v.post.machine in
    kept_serves v w (elements.ext_request n v.post.vcpu d e awaited answer) p.serves.0 (element_destroys n v.post.vcpu d e awaited answer) p.serves.2

write_kept : (user : Bool) (va val : ℕ) (v w : PortValue) (answer : Result (Unit {0}) Stop) → ServesWrite v w user va val answer → Kept v w
write_kept user va val v w (Ok done) serves = kept_serves v w (of_write v user va) _ refl serves.2
write_kept user va val v w (Err e) serves = kept_serves v w (of_write v user va) (missed v.post.machine e) refl serves

updates_kept : (o : Owners) (e : updating.Element) (v w : PortValue) (answers : List Bool) (answer : Result (Unit {0}) Stop) → Updates o e v w answers answer → Kept v w
updates_kept o e v w answers answer u = kept_serves v w (pairs.update_request o e answer) u.serves.0 (pair_destroys o e answer) u.serves.2

owners_kept : (v w : PortValue) (d foreign : ℕ) (answer : Result Owners Refusal) → FindsOwners v w d foreign answer → Kept v w
owners_kept v w d foreign answer f = kept_serves v w (of_owners v.post.machine d foreign) [] refl f.serves

-- behind a settling
module _ (P : PortValue → PortValue → List Bool → Result (Unit {0}) Stop → Type 0) (keeps : (v w : PortValue) (answers : List Bool) (answer : Result (Unit {0}) Stop) → P v w answers answer → Kept v w) where
  behind_kept : (v w : PortValue) (answers : List Bool) (answer : Result (Unit {0}) Stop) → SettlesFirst P v w answers answer → Kept v w
  behind_kept v _ _ _ (unsettled w answers stop s) = settles_kept v w answers (Err stop) s
  behind_kept v _ _ _ (performed u w early answers answer s p) = kept_trans v u w (settles_kept v u early (Ok tt) s) (keeps u w answers answer p)

pair_kept : (o : Owners) (x : Option Pair) (v w : PortValue) (answers : List Bool) (answer : Result (Unit {0}) Stop) → FitsPair o x v w answers answer → Kept v w
pair_kept o None v w answers answer f = absurd f
pair_kept o (Some p) v w answers answer f = behind_kept (Updates o (pairs.element_of p)) (updates_kept o (pairs.element_of p)) v w answers answer f

ext_kept : (d : ℕ) (awaited : Option ℕ) (x : Option ExtOp) (v w : PortValue) (answers : List Bool) (answer : Result (Unit {0}) Stop) → FitsExt d awaited x v w answers answer → Kept v w
ext_kept d awaited None v w answers answer f = absurd f
ext_kept d awaited (Some op) v w answers answer f = behind_kept (Performs d (elements.ext_element op) awaited) (performs_kept d (elements.ext_element op) awaited) v w answers answer f

extent_kept : (d command order : ℕ) (items : List ℕ) (from within k : ℕ) (v w : PortValue) (asked : List Bool) (answer : Result (Unit {0}) Stop) → ExtentFits d command order items from within k v w asked answer → Kept v w
extent_kept d command order items from within k v w asked answer f =
    let serves = f.reserves.serves in
    kept_serves v w (of_extent d (2 ^ order) f.extent serves.block) _ (extent_destroys d (2 ^ order) f.extent serves.block) serves.serves

-- a list of items
module _ (fits : Fitting) (keeps : (k : ℕ) (v w : PortValue) (answers : List Bool) (answer : Result (Unit {0}) Stop) → fits k v w answers answer → Kept v w) (count from : ℕ) (v : PortValue) where
  did_kept : (k : ℕ) (w : PortValue) (answers : List Bool) → DidItems fits count from v k w answers → Kept v w
  did_kept _ _ _ lists.DidItems.none = kept_self v
  did_kept _ _ _ (more k u w answers asked before f less) = kept_trans v u w (did_kept k u answers before) (keeps k u w asked (Ok tt) f)

  list_kept : (to : ℕ) (w : PortValue) (answers : List Bool) (answer : Result (Unit {0}) Stop) → WorksOn fits count from v to w answers answer → Kept v w
  list_kept _ _ _ _ (all_done same) = kept_self v
  list_kept _ _ _ _ (last_done k u w answers asked before f at) = kept_trans v u w (did_kept k u answers before) (keeps k u w asked (Ok tt) f)
  list_kept _ _ _ _ (due k u w answers asked before f less) = kept_trans v u w (did_kept k u answers before) (keeps k u w asked (Ok tt) f)
  list_kept _ _ _ _ (stopped k u w answers asked e before f less) = kept_trans v u w (did_kept k u answers before) (keeps k u w asked (Err e) f)

owned_kept : (d foreign : ℕ) (list : List Pair) (v : PortValue) (from to : ℕ) (w : PortValue) (answers : List Bool) (answer : Result (Unit {0}) Stop) → WorksOwned d foreign list v from to w answers answer → Kept v w
owned_kept d foreign list v from _ _ _ _ (owning.WorksOwned.long to w answers answer above whole) = kept_same v w whole.no_step
owned_kept d foreign list v from _ _ _ _ (owning.WorksOwned.none empty) = kept_self v
owned_kept d foreign list v from _ _ _ _ (owning.WorksOwned.unowned w x some few finds) = owners_kept v w d foreign (Err x) finds
owned_kept d foreign list v from _ _ _ _ (owning.WorksOwned.owned to u w o answers answer some few finds on) =
    kept_trans v u w (owners_kept v u d foreign (Ok o) finds) (list_kept (PairFits o list) (λ k x y asked a f. pair_kept o (slice_get list k) x y asked a f) (length list) from u to w answers answer on)

through_kept : (d : ℕ) (list : List ExtOp) (awaited : Option ℕ) (v : PortValue) (from to : ℕ) (w : PortValue) (answers : List Bool) (answer : Result (Unit {0}) Stop) →
    WorksThrough (ExtFits d list from awaited) (length list) v from to w answers answer → Kept v w
through_kept d list awaited v from to w answers answer (inl whole) = kept_same v w whole.1.no_step
through_kept d list awaited v from to w answers answer (inr on) =
    list_kept (ExtFits d list from awaited) (λ k x y asked a f. ext_kept d (awaited_for from awaited k) (slice_get list k) x y asked a f) (length list) from v to w answers answer on.1

extents_kept : (d command order : ℕ) (items : List ℕ) (v : PortValue) (from to : ℕ) (w : PortValue) (answers : List Bool) (answer : Result (Unit {0}) Stop) → WorksExtents d command order items v from to w answers answer → Kept v w
extents_kept d command order items v from _ _ _ _ (extents.WorksExtents.refused to w answers answer x why whole) = kept_same v w whole.no_step
extents_kept d command order items v from _ _ _ _ (extents.WorksExtents.none why empty) = kept_self v
extents_kept d command order items v from _ _ _ _ (extents.WorksExtents.on to within w answers answer why some works) =
    let at = begins_in command from in
    list_kept (ExtentFits d command order items at within) (extent_kept d command order items at within) (extents_in command items) at v to w answers answer works

-- an update by address
word_kept : (d foreign va word flags : ℕ) (v w : PortValue) (answers : List Bool) (answer : Result (Unit {0}) Stop) → UpdatesWord d foreign va word flags v w answers answer → Kept v w
word_kept d foreign va word flags v _ _ _ (mapping.UpdatesWord.far above) = kept_self v
word_kept d foreign va word flags v _ _ _ (mapping.UpdatesWord.unowned w x few finds) = owners_kept v w d foreign (Err x) finds
word_kept d foreign va word flags v _ _ _ (mapping.UpdatesWord.flagged w o few finds bad) = owners_kept v w d foreign (Ok o) finds
word_kept d foreign va word flags v _ _ _ (mapping.UpdatesWord.owned u w o answers answer few finds good at) =
    kept_trans v u w (owners_kept v u d foreign (Ok o) finds) (kept_serves u w (of_at o va at.table word answer) at.serves.0 refl at.serves.2)

drop_kept : (d : ℕ) (e : Option Element) (v w : PortValue) (answer : Result (Unit {0}) Stop) → DropsOwn d e v w answer → Kept v w
drop_kept d (Some e) v w answer drops = performs_kept d e None v w [] answer drops
drop_kept d None v w answer drops = kept_same v w drops.0

wait_kept : (d : ℕ) (waits : Bool) (awaited : Option ℕ) (v w : PortValue) (answer : Result (Unit {0}) Stop) → WaitsForAll d waits awaited v w answer → Kept v w
wait_kept d true awaited v w answer waits = performs_kept d (FlushVcpus elements.every_vcpu) awaited v w [] answer waits
wait_kept d false awaited v w answer waits = kept_same v w waits.0

drops_kept : (d flags va : ℕ) (v w : PortValue) (answer : Result (Unit {0}) Stop) → DropsBehind d flags va v w answer → Kept v w
drops_kept d flags va v _ _ (mapping.DropsBehind.undropped w e drops) = drop_kept d (own_drop flags va) v w (Err e) drops
drops_kept d flags va v _ _ (mapping.DropsBehind.dropped u w answer drops waits) =
    kept_trans v u w (drop_kept d (own_drop flags va) v u (Ok tt) drops) (wait_kept d (waits_for_all flags) None u w answer waits)

maps_kept : (d foreign va word flags : ℕ) (awaited : Option ℕ) (v : PortValue) (from to : ℕ) (w : PortValue) (answers : List Bool) (answer : Result (Unit {0}) Stop) → MapsWord d foreign va word flags awaited v from to w answers answer → Kept v w
maps_kept d foreign va word flags awaited v _ _ _ _ _ (mapping.MapsWord.unset w answers e first) =
    behind_kept (UpdatesWord d foreign va word flags) (word_kept d foreign va word flags) v w answers (Err e) first
maps_kept d foreign va word flags awaited v _ _ _ _ _ (mapping.MapsWord.set u w answers answer first drops) =
    kept_trans v u w (behind_kept (UpdatesWord d foreign va word flags) (word_kept d foreign va word flags) v u answers (Ok tt) first) (drops_kept d flags va u w answer drops)
maps_kept d foreign va word flags awaited v _ _ _ _ _ (mapping.MapsWord.waited w answer waits) = wait_kept d true awaited v w answer waits

-- an operation on descriptor tables
descriptors_kept : (t : DescriptorTask) (v w : PortValue) (answer : Result (Unit {0}) Stop) → DescriptorFits t v w answer → Kept v w
descriptors_kept (SetGdt entries frames) v w answer fit = kept_serves v w (of_gdt (own_domain v) entries frames) (gdt_deeds v frames answer) refl fit.serves
descriptors_kept (SetDescriptor address word) v w answer fit = kept_serves v w (of_descriptor (own_domain v) address word fit.want) (descriptor_deeds v address word answer) refl fit.serves
descriptors_kept (TouchLdt page) v w answer fit = kept_serves v w (of_touch (own_domain v) page fit.base) (touch_deeds v page fit.frame answer) refl fit.serves

works_kept : (d : ℕ) (o : Option Task) (awaited : Option ℕ) (v : PortValue) (from to : ℕ) (w : PortValue) (answers : List Bool) (answer : Result ℕ Stop) → Works d o awaited v from to w answers answer → Kept v w
works_kept d None awaited v from to w answers answer whole = kept_same v w whole.no_step
works_kept d (Some (OfPairs foreign list)) awaited v from to w answers answer x = owned_kept d foreign list v from to w answers x.ended x.works
works_kept d (Some (OfExt list)) awaited v from to w answers answer x = through_kept d list awaited v from to w answers x.ended x.works
works_kept d (Some (OfMem command order items)) awaited v from to w answers answer x = extents_kept d command order items v from to w answers x.ended x.works
works_kept d (Some (OfMapping foreign va word flags)) awaited v from to w answers answer x = maps_kept d foreign va word flags awaited v from to w answers x.ended x.works
works_kept d (Some (OfDescriptors tables)) awaited v from to w answers answer x = descriptors_kept tables v w x.ended x.works.does
works_kept d (Some (OfRead user va)) awaited v from to w answers answer x = kept_serves v w (of_read va) (misses v.post.machine answer) refl x.serves
works_kept d (Some (OfWrite user va val)) awaited v from to w answers answer x = write_kept user va val v w x.ended x.works.serves

pub kept_pieces : Pieces Kept
kept_pieces = record { self = kept_self; trans = kept_trans; settles = settles_kept; clock = λ v w mark found look. kept_look v w Clock _ mark found look; works = works_kept }

-- ---- the whole turn
does_kept : (c : Processing) (o : Option Op) (c2 : Processing) (v w : PortValue) (answers : List Bool) (end : TurnEnd) → DestroysNothing o → DoesNext c o c2 v w answers end → Kept v w
does_kept c (Some op) c2 v w answers end sparing d = job_over kept_pieces c.domain (job_of op) (c.answered + 1) v c.at d.to w c.log d.log answers d.answer sparing d.went
does_kept c None c2 v w answers end sparing d = kept_same v w d.no_step

dies_kept : (life : ℕ) (c : Processing) (o : Option Op) (c2 : Processing) (v w : PortValue) (end : TurnEnd) → DiesNext life c o c2 v w end → Kept v w
dies_kept life c (Some op) c2 v w end d = stop_kept v w d.0
dies_kept life c None c2 v w end d = kept_same v w d.0

goes_kept : (c : Processing) (o : Option Op) (v : PortValue) (c2 : Processing) (w : PortValue) (answers : List Bool) (end : TurnEnd) → DestroysNothing o → DoesTurn c o v c2 w answers end → Kept v w
goes_kept c o v _ _ _ _ sparing (turning.DoesTurn.unsettled w answers p s) = settles_kept v w answers (Err (Paused p)) s
goes_kept c o v _ _ _ _ sparing (turning.DoesTurn.settled u w c2 early answers end s d) = kept_trans v u w (settles_kept v u early (Ok tt) s) (does_kept (nothing_left c) o c2 u w answers end sparing d)
goes_kept c o v _ _ _ _ sparing (turning.DoesTurn.dying life w c2 end dead d) = dies_kept life c o c2 v w end d

pub turn_kept : (c d : Processing) (end : TurnEnd) (v w : PortValue) (answers : List Bool) → DestroysNothing (next_of c) → IsTurn c d end v w answers → Kept v w
turn_kept c d end v w answers sparing t =
    kept_trans v t.begun w (begins_kept v t.begun c.domain t.run t.life t.begins)
    (kept_trans t.begun t.worked w (goes_kept c (next_of c) t.begun d t.worked answers end sparing t.does) (ends_kept end t.worked w t.ends))

pub turn_spares : (c d : Processing) (end : TurnEnd) (v w : PortValue) (answers : List Bool) → IsAlone v → DestroysNothing (next_of c) → IsTurn c d end v w answers → Spared v w
turn_spares c d end v w answers alone sparing t = (turn_kept c d end v w answers sparing t).spared (ap is_some alone.telling)
