-- A turn that is paused for a flush ends with a call that stopped for that.
use Rattle.std.proofs.Common.{◌≡◌, ◌+◌, ◌^◌, ℕ, Bool, true, false, List, [], length, Option, Some, None, Result, Ok, Err, IfErr, refl, sym, subst, inl, inr}
use Rattle.std.specs.Prelude.{slice_get}
use Rattle.xp_words.specs.declared.ops.Call.{Call}
use Rattle.xp_words.specs.declared.ops.ExtOp.{ExtOp}
use Rattle.xp_words.specs.declared.ops.Op.{Op}
use Rattle.xp_words.specs.declared.ops.Pair.{Pair}
use Rattle.xp_words.specs.declared.reply.LogLine.{LogLine}
use Rattle.xp_words.specs.declared.reply.Pause.TheVariants.{Flush}
use Rattle.xp_words.specs.declared.reply.Refusal.{Refusal}
use Rattle.xp_words.specs.declared.reply.Stop.{Stop}
use Rattle.xp_words.specs.declared.reply.Stop.TheVariants.{Refused, Paused}
use Rattle.xp_board.specs.Told.{PortValue}
use Rattle.step_maker.specs.Moves.{Came}
use Rattle.step_maker.proofs.Coming.{came_self, came_trans, moves_came}
use Rattle.step_maker.specs.Answers.{Stops}
use Rattle.step_maker.specs.Asked.{Request}
use Rattle.desc_pages.specs.Descriptors.{of_descriptor}
use Rattle.desc_pages.specs.Gdt.{of_gdt}
use Rattle.desc_pages.specs.Names.{own_domain}
use Rattle.foreign_map.specs.declared.owners.Owners.{Owners}
use Rattle.ldt_pages.specs.Touching.{of_touch}
use Rattle.level_release.specs.Asking.{of_settle}
use Rattle.mmu_update.specs.Addresses.{of_at}
use Rattle.mmu_update.specs.Elements as pairs
use Rattle.mmu_update.specs.Fits.{Updates}
use Rattle.mmu_update.specs.declared.element.Element as updating
use Rattle.reservations.specs.Extents.{StopsExtent, of_extent}
use Rattle.reservations.specs.declared.extents.Extent.{Extent}
use Rattle.mmuext_ops.specs.Elements as elements
use Rattle.mmuext_ops.specs.declared.element.Element.{Element}
use Rattle.mmuext_ops.specs.declared.element.Element.TheVariants.{FlushVcpus}
use Rattle.tlb_walks.specs.Asking.{of_read, of_write}
use Rattle.vcpu_turn.specs.declared.cpu.TurnEnd.{TurnEnd}
use Rattle.vcpu_turn.specs.declared.cpu.TurnEnd.TheVariants as ends
use Rattle.vcpu_turn.specs.Lists.{Fitting, IsRefusedWhole, WorksOn, WorksThrough, all_done, last_done, due, stopped}
use Rattle.vcpu_turn.specs.Calls as calling
use Rattle.vcpu_turn.specs.Calls.{AnswersCall, WentBy, WorksCalls}
use Rattle.domain_destroy.specs.Asking.{IsDestroyStop}
use Rattle.vcpu_turn.specs.Cpus.{Job, OfCalls, OfDescriptors, OfDestroy, OfExt, OfMapping, OfMem, OfOne, OfPairs, OfRead, OfWrite, Processing, Task, end_of, job_of, next_of, nothing_left, task_in}
use Rattle.vcpu_turn.specs.Descriptors.{DescriptorFits, DescriptorTask, SetDescriptor, SetGdt, TouchLdt}
use Rattle.vcpu_turn.specs.Ext.{ExtFits, FitsExt, Performs, awaited_for}
use Rattle.vcpu_turn.specs.Extents as extending
use Rattle.vcpu_turn.specs.Extents.{ExtentFits, WorksExtents, begins_in, extents_in, given_by}
use Rattle.vcpu_turn.specs.Mappings as mapping
use Rattle.vcpu_turn.specs.Mappings.{DropsBehind, DropsOwn, MapsWord, UpdatesWord, WaitsForAll, own_drop, waits_for_all}
use Rattle.vcpu_turn.specs.Pairs as owning
use Rattle.vcpu_turn.specs.Pairs.{FitsPair, PairFits, WorksOwned}
use Rattle.vcpu_turn.specs.Settling.{Settles, SettlesFirst, unsettled, performed}
use Rattle.vcpu_turn.specs.Turning as turning
use Rattle.vcpu_turn.specs.Turning.{DoesNext, DoesTurn, IsTurn}
use Rattle.vcpu_turn.specs.Working.{Works, valued}
use Rattle.vcpu_turn.specs.declared.cpu.Progress.{Progress}
use Rattle.vcpu_turn.proofs.Turns.{begins_came}
use Rattle.vcpu_turn.proofs.Hindering.{behind_came, did_came, drop_came, word_came, extent_came, exts_came, owners_came, pairs_came, settles_came}
use Rattle.vcpu_turn.proofs.TurnSteps.{begun_came}
use Rattle.turn_measures.proofs.LeavingTurns.{kept_pieces}
use Rattle.turn_measures.proofs.OverCalls.{answered_over}

-- some of the steps from v to w are a call that stopped for that
pub record StopsWithin (v w : PortValue) (e : Stop) : Type 0 where
  pub from : PortValue
  pub to : PortValue
  pub request : Request
  pub before : Came v from
  pub after : Came to w
  pub stops : Stops from to request e

abbrev pub PausesWithin : {A : Type 0} → PortValue → PortValue → Result A Stop → Type 0
PausesWithin v w (Err (Paused (Flush vcpu stamp found))) = StopsWithin v w (Paused (Flush vcpu stamp found))
PausesWithin v w _ = Unit {0}

-- ---- one call
paused_here : {A : Type 0} (v w : PortValue) (r : Request) (answer : Result A Stop) → IfErr answer (λ e. Stops v w r e) → PausesWithin v w answer
paused_here v w r (Err (Paused (Flush vcpu stamp found))) stops = record { from = v; to = w; request = r; before = came_self v; after = came_self w; stops = stops }
paused_here v w r _ stops = tt

behind : {A : Type 0} (v u w : PortValue) (answer : Result A Stop) → Came v u → PausesWithin u w answer → PausesWithin v w answer
behind v u w (Err (Paused (Flush vcpu stamp found))) came s = record { from = s.from; to = s.to; request = s.request; before = came_trans v u s.from came s.before; after = s.after; stops = s.stops }
behind v u w _ came s = tt

refused_whole : {A : Type 0} (v w : PortValue) (x : Refusal) (answer : Result A Stop) → answer ≡ Err (Refused x) → PausesWithin v w answer
refused_whole v w x answer e = rw e tt

valued_paused : (v w : PortValue) (ended : Result (Unit {0}) Stop) (answer : Result ℕ Stop) → answer ≡ valued ended → PausesWithin v w ended → PausesWithin v w answer
valued_paused v w (Err (Paused (Flush vcpu stamp found))) answer is s = rw is s
valued_paused v w _ answer is s = rw is tt

-- ---- elements
settles_paused : {below : Option ℕ} → (v w : PortValue) (answers : List Bool) (answer : Result (Unit {0}) Stop) → Settles below v w answers answer → PausesWithin v w answer
settles_paused v w answers answer s = paused_here v w (of_settle 0 0 answer) answer (s.stops 0 0)

updates_paused : (o : Owners) (e : updating.Element) (v w : PortValue) (answers : List Bool) (answer : Result (Unit {0}) Stop) → Updates o e v w answers answer → PausesWithin v w answer
updates_paused o e v w answers answer u = paused_here v w (pairs.update_request o e answer) answer u.stops

performs_paused : (d : ℕ) (e : Element) (awaited : Option ℕ) (v w : PortValue) (answers : List Bool) (answer : Result (Unit {0}) Stop) → Performs d e awaited v w answers answer → PausesWithin v w answer
performs_paused d e awaited v w answers answer p = paused_here v w (elements.ext_request v.post.machine v.post.vcpu d e awaited answer) answer p.stops

module _ (P : PortValue → PortValue → List Bool → Result (Unit {0}) Stop → Type 0) (pauses : (v w : PortValue) (answers : List Bool) (answer : Result (Unit {0}) Stop) → P v w answers answer → PausesWithin v w answer) where
  first_paused : (v w : PortValue) (answers : List Bool) (answer : Result (Unit {0}) Stop) → SettlesFirst P v w answers answer → PausesWithin v w answer
  first_paused v _ _ _ (unsettled w answers stop s) = settles_paused v w answers (Err stop) s
  first_paused v _ _ _ (performed u w early answers answer s p) = behind v u w answer (settles_came v u early (Ok tt) s) (pauses u w answers answer p)

pair_paused : (o : Owners) (x : Option Pair) (v w : PortValue) (answers : List Bool) (answer : Result (Unit {0}) Stop) → FitsPair o x v w answers answer → PausesWithin v w answer
pair_paused o None v w answers answer f = absurd f
pair_paused o (Some p) v w answers answer f = first_paused (Updates o (pairs.element_of p)) (updates_paused o (pairs.element_of p)) v w answers answer f

ext_paused : (d : ℕ) (awaited : Option ℕ) (x : Option ExtOp) (v w : PortValue) (answers : List Bool) (answer : Result (Unit {0}) Stop) → FitsExt d awaited x v w answers answer → PausesWithin v w answer
ext_paused d awaited None v w answers answer f = absurd f
ext_paused d awaited (Some op) v w answers answer f = first_paused (Performs d (elements.ext_element op) awaited) (performs_paused d (elements.ext_element op) awaited) v w answers answer f

-- an extent, whose answer says besides which block was given
reserves_paused : (owner size : ℕ) (extent : Extent) (given : Option ℕ) (v w : PortValue) (answer : Result (Unit {0}) Stop) → IfErr (given_by given answer) (λ e. StopsExtent owner size extent v w e) → PausesWithin v w answer
reserves_paused owner size extent given v w (Ok done) stops = tt
reserves_paused owner size extent given v w (Err e) stops = paused_here {A = Unit {0}} v w (of_extent owner size extent stops.0) (Err e) stops.1

extent_paused : (d command order : ℕ) (items : List ℕ) (from within k : ℕ) (v w : PortValue) (answers : List Bool) (answer : Result (Unit {0}) Stop) → ExtentFits d command order items from within k v w answers answer → PausesWithin v w answer
extent_paused d command order items from within k v w answers answer f = reserves_paused d (2 ^ order) f.extent f.given v w answer f.reserves.stops

-- ---- a list
module _ (fits : Fitting) (comes : (k : ℕ) (v w : PortValue) (answers : List Bool) (answer : Result (Unit {0}) Stop) → fits k v w answers answer → Came v w)
    (pauses : (k : ℕ) (v w : PortValue) (answers : List Bool) (answer : Result (Unit {0}) Stop) → fits k v w answers answer → PausesWithin v w answer) (count from : ℕ) (v : PortValue) where
  list_paused : (to : ℕ) (w : PortValue) (answers : List Bool) (answer : Result (Unit {0}) Stop) → (works : WorksOn fits count from v to w answers answer) → PausesWithin v w answer
  list_paused _ _ _ _ (all_done same) = tt
  list_paused _ _ _ _ (last_done k u w answers asked before f at) = tt
  list_paused _ _ _ _ (due k u w answers asked before f less) = tt
  list_paused _ _ _ _ (stopped k u w answers asked e before f less) = behind {A = Unit {0}} v u w (Err e) (did_came fits comes count from v k u answers before) (pauses k u w asked (Err e) f)

-- ---- an operation
module _ {v : PortValue} {to : ℕ} {w : PortValue} {answers : List Bool} where
  whole_paused : {A : Type 0} {x : Refusal} (ended : Result A Stop) → IsRefusedWhole x v to w answers ended → PausesWithin v w ended
  whole_paused {x = x} ended whole = refused_whole v w x ended whole.refused

  ext_list_paused : (d : ℕ) (list : List ExtOp) (from : ℕ) (awaited : Option ℕ) (ended : Result (Unit {0}) Stop) → WorksThrough (ExtFits d list from awaited) (length list) v from to w answers ended → PausesWithin v w ended
  ext_list_paused d list from awaited ended (inl works) = whole_paused ended works.1
  ext_list_paused d list from awaited ended (inr works) =
      list_paused (ExtFits d list from awaited) (exts_came d list from awaited) (λ k x y asked a fit. ext_paused d (awaited_for from awaited k) (slice_get list k) x y asked a fit) (length list) from v to w answers ended works.1

owned_paused : (d foreign : ℕ) (list : List Pair) (from : ℕ) {v : PortValue} {to : ℕ} {w : PortValue} {answers : List Bool} {ended : Result (Unit {0}) Stop} → WorksOwned d foreign list v from to w answers ended → PausesWithin v w ended
owned_paused d foreign list from (owning.WorksOwned.long to w answers ended above whole) = whole_paused ended whole
owned_paused d foreign list from (owning.WorksOwned.none empty) = tt
owned_paused d foreign list from (owning.WorksOwned.unowned w x some few finds) = tt
owned_paused d foreign list from {v} (owning.WorksOwned.owned to u w o answers ended some few finds on) =
    behind v u w ended (owners_came v u d foreign (Ok o) finds)
    (list_paused (PairFits o list) (pairs_came o list) (λ k x y asked a fit. pair_paused o (slice_get list k) x y asked a fit) (length list) from u to w answers ended on)

extents_paused : (d command order : ℕ) (items : List ℕ) (from : ℕ) {v : PortValue} {to : ℕ} {w : PortValue} {answers : List Bool} {ended : Result (Unit {0}) Stop} → WorksExtents d command order items v from to w answers ended → PausesWithin v w ended
extents_paused d command order items from (extending.WorksExtents.refused to w answers ended x why whole) = whole_paused ended whole
extents_paused d command order items from (extending.WorksExtents.none why empty) = tt
extents_paused d command order items from {v} (extending.WorksExtents.on to within w answers ended why some works) =
    let first = begins_in command from in
    list_paused (ExtentFits d command order items first within) (extent_came d command order items first within) (extent_paused d command order items first within) (extents_in command items) first v to w answers ended works

-- an update by address
word_paused : (d foreign va word flags : ℕ) (v w : PortValue) (answers : List Bool) (answer : Result (Unit {0}) Stop) → UpdatesWord d foreign va word flags v w answers answer → PausesWithin v w answer
word_paused d foreign va word flags v _ _ _ (mapping.UpdatesWord.far above) = tt
word_paused d foreign va word flags v _ _ _ (mapping.UpdatesWord.unowned w x few finds) = tt
word_paused d foreign va word flags v _ _ _ (mapping.UpdatesWord.flagged w o few finds bad) = tt
word_paused d foreign va word flags v _ _ _ (mapping.UpdatesWord.owned u w o answers answer few finds good at) =
    behind v u w answer (owners_came v u d foreign (Ok o) finds) (paused_here u w (of_at o va at.table word answer) answer at.stops)

drop_paused : (d : ℕ) (e : Option Element) (v w : PortValue) (answer : Result (Unit {0}) Stop) → DropsOwn d e v w answer → PausesWithin v w answer
drop_paused d (Some e) v w answer drops = performs_paused d e None v w [] answer drops
drop_paused d None v w answer drops = rw drops.1 tt

wait_paused : (d : ℕ) (waits : Bool) (awaited : Option ℕ) (v w : PortValue) (answer : Result (Unit {0}) Stop) → WaitsForAll d waits awaited v w answer → PausesWithin v w answer
wait_paused d true awaited v w answer waits = performs_paused d (FlushVcpus elements.every_vcpu) awaited v w [] answer waits
wait_paused d false awaited v w answer waits = rw waits.1 tt

drops_paused : (d flags va : ℕ) (v w : PortValue) (answer : Result (Unit {0}) Stop) → DropsBehind d flags va v w answer → PausesWithin v w answer
drops_paused d flags va v _ _ (mapping.DropsBehind.undropped w e drops) = drop_paused d (own_drop flags va) v w (Err e) drops
drops_paused d flags va v _ _ (mapping.DropsBehind.dropped u w answer drops waits) =
    behind v u w answer (drop_came d (own_drop flags va) v u (Ok tt) drops) (wait_paused d (waits_for_all flags) None u w answer waits)

maps_paused : (d foreign va word flags : ℕ) (awaited : Option ℕ) {v : PortValue} {from to : ℕ} {w : PortValue} {answers : List Bool} {ended : Result (Unit {0}) Stop} → MapsWord d foreign va word flags awaited v from to w answers ended →
    PausesWithin v w ended
maps_paused d foreign va word flags awaited {v} (mapping.MapsWord.unset w answers e first) = first_paused (UpdatesWord d foreign va word flags) (word_paused d foreign va word flags) v w answers (Err e) first
maps_paused d foreign va word flags awaited {v} (mapping.MapsWord.set u w answers answer first drops) =
    behind v u w answer (behind_came (UpdatesWord d foreign va word flags) (word_came d foreign va word flags) v u answers (Ok tt) first) (drops_paused d flags va u w answer drops)
maps_paused d foreign va word flags awaited {v} (mapping.MapsWord.waited w answer waits) = wait_paused d true awaited v w answer waits

-- an operation on descriptor tables
descriptors_paused : (t : DescriptorTask) (v w : PortValue) (answer : Result (Unit {0}) Stop) → DescriptorFits t v w answer → PausesWithin v w answer
descriptors_paused (SetGdt entries frames) v w answer fit = paused_here v w (of_gdt (own_domain v) entries frames) answer fit.stops
descriptors_paused (SetDescriptor address word) v w answer fit = paused_here v w (of_descriptor (own_domain v) address word fit.want) answer fit.stops
descriptors_paused (TouchLdt page) v w answer fit = paused_here v w (of_touch (own_domain v) page fit.base) answer fit.stops

works_paused : (d : ℕ) (o : Option Task) (awaited : Option ℕ) (v : PortValue) (from to : ℕ) (w : PortValue) (answers : List Bool) (answer : Result ℕ Stop) → Works d o awaited v from to w answers answer → PausesWithin v w answer
works_paused d None awaited v from to w answers answer works = whole_paused answer works
works_paused d (Some (OfPairs foreign list)) awaited v from to w answers answer works = valued_paused v w works.ended answer works.answer_is (owned_paused d foreign list from works.works)
works_paused d (Some (OfExt list)) awaited v from to w answers answer works = valued_paused v w works.ended answer works.answer_is (ext_list_paused d list from awaited works.ended works.works)
works_paused d (Some (OfMem command order items)) awaited v from to w answers answer works = valued_paused v w works.ended answer works.answer_is (extents_paused d command order items from works.works)
works_paused d (Some (OfMapping foreign va word flags)) awaited v from to w answers answer works = valued_paused v w works.ended answer works.answer_is (maps_paused d foreign va word flags awaited works.works)
works_paused d (Some (OfDescriptors tables)) awaited v from to w answers answer works = valued_paused v w works.ended answer works.answer_is (descriptors_paused tables v w works.ended works.works.does)
works_paused d (Some (OfRead user va)) awaited v from to w answers answer works = paused_here v w (of_read va) answer works.stops
works_paused d (Some (OfWrite user va val)) awaited v from to w answers answer works = valued_paused v w works.ended answer works.answer_is (paused_here v w (of_write v user va) works.ended works.works.stops)

-- ---- the calls of a multicall
-- a call that is paused has no value
paused_unvalued : (v w : PortValue) (e : Stop) → PausesWithin {A = ℕ} v w (Err e) → PausesWithin {A = Unit {0}} v w (Err e)
paused_unvalued v w (Paused (Flush vcpu stamp found)) s = s
paused_unvalued v w _ s = tt

call_paused : (d : ℕ) (call : Call) (op : ℕ) (v : PortValue) (from to : Progress) (w : PortValue) (log log' : List LogLine) (asked : List Bool) (stop : Stop) → AnswersCall d call op v from log to w log' asked (Err stop) →
    PausesWithin {A = Unit {0}} v w (Err stop)
call_paused d call op v from _ _ log _ _ _ (calling.AnswersCall.unsettled w early stop s) = settles_paused v w early (Err stop) s
call_paused d call op v from _ _ log _ _ _ (calling.AnswersCall.paused to u w log' early asked p s went) =
    behind {A = Unit {0}} v u w (Err (Paused p)) (settles_came v u early (Ok tt) s)
    (paused_unvalued u w (Paused p) (works_paused d (task_in call) from.awaited u from.done to.done w asked (Err (Paused p)) went.works))

calls_paused : (d : ℕ) (calls : List Call) (op : ℕ) (v : PortValue) (from to : Progress) (w : PortValue) (log log' : List LogLine) (answers : List Bool) (ended : Result (Unit {0}) Stop) → WorksCalls d calls op v from log to w log' answers ended →
    PausesWithin v w ended
calls_paused d calls op v from _ _ log _ _ _ (calling.WorksCalls.long above) = tt
calls_paused d calls op v from _ _ log _ _ _ (calling.WorksCalls.all_answered at w behind answers few did all) = tt
calls_paused d calls op v from _ _ log _ _ _ (calling.WorksCalls.stopped at to u w call before after answers asked stop few did is stops) =
    behind {A = Unit {0}} v u w (Err stop) (answered_over kept_pieces at u before answers did).came (call_paused d call op u at to w before after asked stop stops)

-- a destruction waits for no flush
destroy_paused : (v w : PortValue) (answer : Result ℕ Stop) → IfErr answer IsDestroyStop → PausesWithin v w answer
destroy_paused v w (Err (Paused (Flush vcpu stamp found))) is = absurd is
destroy_paused v w _ is = tt

job_paused : (d : ℕ) (job : Job) (op : ℕ) (v : PortValue) (from to : Progress) (w : PortValue) (log log' : List LogLine) (answers : List Bool) (answer : Result ℕ Stop) → WentBy d job op v from to w log log' answers answer →
    PausesWithin v w answer
job_paused d (OfOne task) op v from to w log log' answers answer went = works_paused d task from.awaited v from.done to.done w answers answer went.works
job_paused d (OfCalls calls) op v from to w log log' answers answer went = valued_paused v w went.ended answer went.answer_is (calls_paused d calls op v from to w log log' answers went.ended went.works)
job_paused d (OfDestroy domain) op v from to w log log' answers answer went = destroy_paused v w answer went.destroyed.kinds

-- ---- a turn
ended_paused : (v w : PortValue) (to vcpu stamp found : ℕ) (answer : Result ℕ Stop) → ends.Paused (Flush vcpu stamp found) ≡ end_of to answer → PausesWithin v w answer → StopsWithin v w (Paused (Flush vcpu stamp found))
ended_paused v w to vcpu stamp found (Err (Paused (Flush t s f))) is p = let same : Flush t s f ≡ Flush vcpu stamp found = cc in subst (λ x. StopsWithin v w (Paused x)) same p
ended_paused v w to vcpu stamp found _ is p = absurd (cc)

next_paused : (c : Processing) (o : Option Op) (c2 : Processing) (v w : PortValue) (answers : List Bool) (vcpu stamp found : ℕ) → DoesNext c o c2 v w answers (ends.Paused (Flush vcpu stamp found)) → StopsWithin v w (Paused (Flush vcpu stamp found))
next_paused c (Some op) c2 v w answers vcpu stamp found d =
    ended_paused v w d.to.done vcpu stamp found d.answer d.end_is (job_paused c.domain (job_of op) (c.answered + 1) v c.at d.to w c.log d.log answers d.answer d.went)
next_paused c None c2 v w answers vcpu stamp found d = let is = d.end_is in absurd (cc)

does_paused : (c : Processing) (o : Option Op) (v : PortValue) (c2 : Processing) (w : PortValue) (answers : List Bool) (end : TurnEnd) (vcpu stamp found : ℕ) → end ≡ ends.Paused (Flush vcpu stamp found) → DoesTurn c o v c2 w answers end →
    StopsWithin v w (Paused (Flush vcpu stamp found))
does_paused c o v _ _ _ _ vcpu stamp found is (turning.unsettled w answers p s) =
    let same : p ≡ Flush vcpu stamp found = cc in
    settles_paused v w answers (Err (Paused (Flush vcpu stamp found))) (subst (λ x. Settles c.left v w answers (Err (Paused x))) same s)
does_paused c o v _ _ _ _ vcpu stamp found is (turning.settled u w c2 early answers end s d) =
    behind {A = ℕ} v u w (Err (Paused (Flush vcpu stamp found))) (settles_came v u early (Ok tt) s) (next_paused (nothing_left c) o c2 u w answers vcpu stamp found (subst (DoesNext (nothing_left c) o c2 u w answers) is d))
does_paused c None v _ _ _ _ vcpu stamp found is (turning.dying life w c2 end dead d) = absurd (let retired = d.1 in cc)
does_paused c (Some op) v _ _ _ _ vcpu stamp found is (turning.dying life w c2 end dead d) = absurd (let answered = d.1 in cc)

pub turn_paused : (c c2 : Processing) (v w : PortValue) (answers : List Bool) (vcpu stamp found : ℕ) → IsTurn c c2 (ends.Paused (Flush vcpu stamp found)) v w answers → StopsWithin v w (Paused (Flush vcpu stamp found))
turn_paused c c2 v w answers vcpu stamp found t =
    let worked = does_paused c (next_of c) t.begun c2 t.worked answers (ends.Paused (Flush vcpu stamp found)) vcpu stamp found refl t.does in
    let all = behind {A = ℕ} v t.begun t.worked (Err (Paused (Flush vcpu stamp found))) (begins_came v t.begun t.begins) worked in
    subst (λ y. StopsWithin v y (Paused (Flush vcpu stamp found))) (sym t.ends) all

-- ---- the steps behind the beginning of a turn
pub acked_came : (c c2 : Processing) (end : TurnEnd) (v w : PortValue) (answers : List Bool) (t : IsTurn c c2 end v w answers) → Came t.begins.acked w
acked_came c c2 end v w answers t =
    let b = t.begins in
    came_trans b.acked t.begun w (came_trans b.acked b.looked t.begun (moves_came b.acked b.looked _ _ _ _ _ b.running) (moves_came b.looked t.begun _ _ _ _ _ b.lives)) (begun_came c c2 end v w answers t)
