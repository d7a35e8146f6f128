-- An operation that is paused before another element of it is done lets no frame fall back; and where its gate pauses it, one is further.
use Rattle.std.proofs.Common.{◌≡◌, ℕ, ◌+◌, ◌≤◌, Bool, true, List, [], length, Option, Some, None, Result, Ok, Err, IfErr, refl, sym, ap, ◌∙◌, subst, inl, inr, arith}
use Rattle.std.specs.Prelude.{slice_get}
use Rattle.xp_words.specs.Machine.{Machine}
use Rattle.xp_words.specs.declared.ops.Call.{Call}
use Rattle.xp_words.specs.declared.ops.ExtOp.{ExtOp}
use Rattle.xp_words.specs.declared.ops.Op.{Op}
use Rattle.xp_words.specs.declared.ops.Pair.{Pair}
use Rattle.xp_words.specs.declared.reply.LogLine.{LogLine}
use Rattle.xp_words.specs.declared.reply.Pause.{Pause}
use Rattle.xp_words.specs.declared.reply.Pause.TheVariants.{Due, Lost, Busy, Flush, Alive}
use Rattle.xp_words.specs.declared.reply.Refusal.{Refusal}
use Rattle.xp_words.specs.declared.reply.Stop.{Stop}
use Rattle.xp_words.specs.declared.reply.Stop.TheVariants.{Refused, Paused}
use Rattle.xp_board.specs.Told.{PortValue, is_telling}
use Rattle.foreign_map.specs.declared.owners.Owners.{Owners}
use Rattle.mmu_update.specs.Elements.{element_of}
use Rattle.mmu_update.specs.Fits.{Updates}
use Rattle.mmuext_ops.specs.Elements.{every_vcpu, ext_element}
use Rattle.mmuext_ops.specs.declared.element.Element.TheVariants.{FlushVcpus}
use Rattle.tlb_walks.specs.Asking.{IsGuestReadStop, IsGuestWriteStop}
use Rattle.course_laws.proofs.Awaiting.{AloneStays}
use Rattle.vcpu_turn.specs.Unhindered.{IsUnhindered}
use Rattle.vcpu_turn.proofs.Bringing.{begins_later}
use Rattle.vcpu_turn.specs.Calls as calling
use Rattle.vcpu_turn.specs.Calls.{AnswersCall, WentBy, WorksCalls}
use Rattle.vcpu_turn.specs.Cpus.{Job, OfCalls, OfDescriptors, OfDestroy, OfExt, OfMapping, OfMem, OfOne, OfPairs, OfRead, OfWrite, Processing, Task, end_of, job_of, task_in}
use Rattle.vcpu_turn.specs.Descriptors.{DescriptorFits, DescriptorTask, SetDescriptor, SetGdt, TouchLdt}
use Rattle.vcpu_turn.specs.Mappings as mappings
use Rattle.vcpu_turn.specs.Mappings.{MapsWord, UpdatesWord}
use Rattle.vcpu_turn.specs.Ext.{ExtFits, FitsExt, Performs, awaited_for}
use Rattle.vcpu_turn.specs.Extents as extents
use Rattle.vcpu_turn.specs.Extents.{ExtentFits, WorksExtents, begins_in, extents_in}
use Rattle.vcpu_turn.specs.Lists as lists
use Rattle.vcpu_turn.specs.Lists.{DidItems, Fitting, IsRefusedWhole, WorksOn, WorksThrough}
use Rattle.vcpu_turn.specs.Pairs as pairs
use Rattle.vcpu_turn.specs.Pairs.{FitsPair, PairFits, WorksOwned}
use Rattle.vcpu_turn.specs.Turning.{GoesOnWith}
use Rattle.vcpu_turn.specs.Working.{Works, valued}
use Rattle.vcpu_turn.specs.declared.cpu.Progress.{Progress}
use Rattle.vcpu_turn.specs.declared.cpu.TurnEnd.TheVariants as ends
use Rattle.turn_measures.specs.Measures.{IsSparingJob}
use Rattle.turn_measures.proofs.Calm.{AcquiredForward, AcquiredFurther, ComesTo}
use Rattle.turn_measures.proofs.Addressing.{word_for}
use Rattle.turn_measures.proofs.Describing.{DescLaws, descriptor_for, gdt_for, ldt_for}
use Rattle.turn_measures.proofs.Owners.{owners_pass}
use Rattle.turn_measures.proofs.OverCalls.{stopped_first}
use Rattle.turn_measures.proofs.Pages.{ComesBy, by_passes, for_from}
use Rattle.turn_measures.proofs.Performing.{performed_for}
use Rattle.turn_measures.proofs.Reserving.{extent_for}
use Rattle.turn_measures.proofs.Settled.{IsSettled, SettledSame, first_for, never_unsettled, settled_on, settles_pass}
use Rattle.turn_measures.proofs.Updating.{updated_for}
use Rattle.answer_laws.proofs.Shared.{alone_telling}

-- ---- lists of which no item is done
did_least : (fits : Fitting) (count from : ℕ) (v : PortValue) (k : ℕ) (u : PortValue) (answers : List Bool) → DidItems fits count from v k u answers → from ≤ k
did_least fits count from v _ _ _ lists.DidItems.none = omega arith
did_least fits count from v _ _ _ (lists.DidItems.more k u w answers asked did fit less) = let a = did_least fits count from v k u answers did in omega (arith, a)

did_none : (fits : Fitting) (count from : ℕ) (v : PortValue) (k : ℕ) (u : PortValue) (answers : List Bool) → DidItems fits count from v k u answers → k ≤ from → u ≡ v
did_none fits count from v _ _ _ lists.DidItems.none most = refl
did_none fits count from v _ _ _ (lists.DidItems.more k u w answers asked did fit less) most = absurd (let a = did_least fits count from v k u answers did in omega (arith, a, most))

module _ (n : Machine) where
  whole_for : {A : Type 0} (x : Refusal) (v a b : PortValue) (to : ℕ) (w : PortValue) (answers : List Bool) (r : Result A Stop) → IsRefusedWhole x v to w answers r → ComesBy n r a b
  whole_for x v a b to w answers r whole = subst (λ y. ComesBy n y a b) (sym whole.refused) tt

  on_for : (fits : Fitting) (count from : ℕ) (v : PortValue) → ((k : ℕ) (w : PortValue) (asked : List Bool) (r : Result (Unit {0}) Stop) → fits k v w asked r → ComesBy n r v w) →
      (to : ℕ) (w : PortValue) (answers : List Bool) (r : Result (Unit {0}) Stop) → WorksOn fits count from v to w answers r → to ≤ from → ComesBy n r v w
  on_for fits count from v goes _ _ _ _ (lists.WorksOn.all_done at) most = tt
  on_for fits count from v goes _ _ _ _ (lists.WorksOn.last_done k u w answers asked did fit at) most = tt
  on_for fits count from v goes _ _ _ _ (lists.WorksOn.due k u w answers asked did fit less) most = absurd (let a = did_least fits count from v k u answers did in omega (arith, a, most))
  on_for fits count from v goes _ _ _ _ (lists.WorksOn.stopped k u w answers asked e did fit less) most =
      goes k w asked (Err e) (subst (λ (x : PortValue). fits k x w asked (Err e)) (did_none fits count from v k u answers did most) fit)

  -- ---- extents: the first of them is no earlier than behind those that are done
  extents_for : (d command order : ℕ) (items : List ℕ) (v : PortValue) (from to : ℕ) (w : PortValue) (answers : List Bool) (r : Result (Unit {0}) Stop) → is_telling v ≡ true →
      WorksExtents d command order items v from to w answers r → to ≡ from → ComesBy n r v w
  extents_for d command order items v from _ _ _ _ telling (extents.WorksExtents.refused to w answers r x why whole) is = whole_for x v v w to w answers r whole
  extents_for d command order items v from _ _ _ _ telling (extents.WorksExtents.none why empty) is = tt
  extents_for d command order items v from _ _ _ _ telling (extents.WorksExtents.on to within w answers r why some works) is =
      let at = begins_in command from in
      let later = begins_later (Some (OfMem command order items)) from in
      on_for (ExtentFits d command order items at within) (extents_in command items) at v (λ k y asked a fit. extent_for n d command order items at within k v y asked a telling fit) to w answers r works
      (omega (arith, is, later))

  -- ---- reads and writes of the guest
  read_for : (v w : PortValue) (r : Result ℕ Stop) → IfErr r IsGuestReadStop → ComesBy n r v w
  read_for v w (Ok x) stop = tt
  read_for v w (Err (Refused x)) stop = tt
  read_for v w (Err (Paused (Lost place expected found))) stop = λ un. absurd un
  read_for v w (Err (Paused Due)) stop = absurd stop
  read_for v w (Err (Paused (Busy f found))) stop = absurd stop
  read_for v w (Err (Paused (Flush u stamp found))) stop = absurd stop
  read_for v w (Err (Paused (Alive u found))) stop = absurd stop

  write_for : (v w : PortValue) (r : Result (Unit {0}) Stop) → IfErr r IsGuestWriteStop → ComesBy n r v w
  write_for v w (Ok x) stop = tt
  write_for v w (Err (Refused x)) stop = tt
  write_for v w (Err (Paused (Lost place expected found))) stop = λ un. absurd un
  write_for v w (Err (Paused Due)) stop = absurd stop
  write_for v w (Err (Paused (Busy f found))) stop = absurd stop
  write_for v w (Err (Paused (Flush u stamp found))) stop = absurd stop
  write_for v w (Err (Paused (Alive u found))) stop = absurd stop

  valued_for : (v w : PortValue) (r : Result (Unit {0}) Stop) → ComesBy n r v w → ComesBy n (valued r) v w
  valued_for v w (Ok done) c = tt
  valued_for v w (Err e) c = c

  module _ (stays : AloneStays) (forward : AcquiredForward) (further : AcquiredFurther) (laws : DescLaws) (same : SettledSame) where
    -- ---- one item
    pair_for : (o : Owners) (q : Option Pair) (v w : PortValue) (answers : List Bool) (r : Result (Unit {0}) Stop) → IsSettled v → FitsPair o q v w answers r → ComesBy n r v w
    pair_for o None v w answers r s fit = absurd fit
    pair_for o (Some q) v w answers r s fit =
        first_for n stays same (Updates o (element_of q)) (λ u y asked a calm does. updated_for n stays forward further u o (element_of q) y asked a calm does.course) v w answers r s fit

    ext_for : (d : ℕ) (awaited : Option ℕ) (q : Option ExtOp) (v w : PortValue) (answers : List Bool) (r : Result (Unit {0}) Stop) → IsSettled v → FitsExt d awaited q v w answers r → ComesBy n r v w
    ext_for d awaited None v w answers r s fit = absurd fit
    ext_for d awaited (Some q) v w answers r s fit =
        first_for n stays same (Performs d (ext_element q) awaited) (λ u y asked a calm does. performed_for n stays forward further u y d (ext_element q) awaited asked a calm does.course) v w answers r s fit

    -- ---- a list of them
    owned_for : (d foreign : ℕ) (list : List Pair) (v : PortValue) (from to : ℕ) (w : PortValue) (answers : List Bool) (r : Result (Unit {0}) Stop) → IsSettled v → WorksOwned d foreign list v from to w answers r → to ≡ from → ComesBy n r v w
    owned_for d foreign list v from _ _ _ _ s (pairs.WorksOwned.long to w answers answer above whole) is = whole_for _ v v w to w answers answer whole
    owned_for d foreign list v from _ _ _ _ s (pairs.WorksOwned.none empty) is = tt
    owned_for d foreign list v from _ _ _ _ s (pairs.WorksOwned.unowned w x some few finds) is = tt
    owned_for d foreign list v from _ _ _ _ s (pairs.WorksOwned.owned to u w o answers answer some few finds on) is =
        let p = owners_pass v u d foreign (Ok o) (alone_telling v s.alone) finds.found in
        by_passes n answer v u w p
        (on_for (PairFits o list) (length list) from u (λ k y asked a fit. pair_for o (slice_get list k) u y asked a (settled_on stays v u s p) fit) to w answers answer on (omega (arith, is)))

    through_for : (d : ℕ) (list : List ExtOp) (awaited : Option ℕ) (v : PortValue) (from to : ℕ) (w : PortValue) (answers : List Bool) (r : Result (Unit {0}) Stop) → IsSettled v →
        WorksThrough (ExtFits d list from awaited) (length list) v from to w answers r → to ≡ from → ComesBy n r v w
    through_for d list awaited v from to w answers r s (inl long) is = whole_for _ v v w to w answers r long.1
    through_for d list awaited v from to w answers r s (inr on) is =
        on_for (ExtFits d list from awaited) (length list) from v (λ k y asked a fit. ext_for d (awaited_for from awaited k) (slice_get list k) v y asked a s fit) to w answers r on.1 (omega (arith, is))

    -- ---- an update by address: one that is paused behind its entry went on no further only where it waited before, too
    maps_for : (d foreign va word flags : ℕ) (awaited : Option ℕ) (v : PortValue) (from to : ℕ) (w : PortValue) (answers : List Bool) (r : Result (Unit {0}) Stop) → IsSettled v →
        MapsWord d foreign va word flags awaited v from to w answers r → to ≡ from → ComesBy n r v w
    maps_for d foreign va word flags awaited v _ _ _ _ _ s (mappings.MapsWord.unset w answers e first) is =
        first_for n stays same (UpdatesWord d foreign va word flags) (λ u y asked a calm does. word_for n stays forward further d foreign va word flags u y asked a calm does) v w answers (Err e) s first
    maps_for d foreign va word flags awaited v _ _ _ _ _ s (mappings.MapsWord.set u w answers (Ok done) first drops) is = tt
    maps_for d foreign va word flags awaited v _ _ _ _ _ s (mappings.MapsWord.set u w answers (Err (Refused x)) first drops) is = tt
    maps_for d foreign va word flags awaited v _ _ _ _ _ s (mappings.MapsWord.set u w answers (Err (Paused x)) first drops) is = absurd (omega (arith, is))
    maps_for d foreign va word flags awaited v _ _ _ _ _ s (mappings.MapsWord.waited w answer waits) is =
        performed_for n stays forward further v w d (FlushVcpus every_vcpu) awaited [] answer (record { alone = s.alone; alive = s.alive }) waits.course

    -- ---- descriptor tables
    tables_for : (t : DescriptorTask) (v w : PortValue) (r : Result (Unit {0}) Stop) → IsSettled v → DescriptorFits t v w r → ComesBy n r v w
    tables_for (SetGdt entries frames) v w r s fits = gdt_for n stays laws v w entries frames r (record { alone = s.alone; alive = s.alive }) fits
    tables_for (SetDescriptor address word) v w r s fits = descriptor_for n stays laws v w address word r (record { alone = s.alone; alive = s.alive }) fits
    tables_for (TouchLdt page) v w r s fits = ldt_for n stays laws v w page r (record { alone = s.alone; alive = s.alive }) fits

    works_for : (d : ℕ) (o : Option Task) (awaited : Option ℕ) (v : PortValue) (from to : ℕ) (w : PortValue) (answers : List Bool) (r : Result ℕ Stop) → IsSettled v → Works d o awaited v from to w answers r → to ≡ from → ComesBy n r v w
    works_for d None awaited v from to w answers r s works is = whole_for _ v v w to w answers r works
    works_for d (Some (OfPairs foreign list)) awaited v from to w answers r s works is =
        subst (λ x. ComesBy n x v w) (sym works.answer_is) (valued_for v w works.ended (owned_for d foreign list v from to w answers works.ended s works.works is))
    works_for d (Some (OfExt list)) awaited v from to w answers r s works is =
        subst (λ x. ComesBy n x v w) (sym works.answer_is) (valued_for v w works.ended (through_for d list awaited v from to w answers works.ended s works.works is))
    works_for d (Some (OfMem command order items)) awaited v from to w answers r s works is =
        subst (λ x. ComesBy n x v w) (sym works.answer_is) (valued_for v w works.ended (extents_for d command order items v from to w answers works.ended (alone_telling v s.alone) works.works is))
    works_for d (Some (OfMapping foreign va word flags)) awaited v from to w answers r s works is =
        subst (λ x. ComesBy n x v w) (sym works.answer_is) (valued_for v w works.ended (maps_for d foreign va word flags awaited v from to w answers works.ended s works.works is))
    works_for d (Some (OfDescriptors tables)) awaited v from to w answers r s works is =
        subst (λ x. ComesBy n x v w) (sym works.answer_is) (valued_for v w works.ended (tables_for tables v w works.ended s works.works.does))
    works_for d (Some (OfRead user va)) awaited v from to w answers r s works is = read_for v w r works.kinds
    works_for d (Some (OfWrite user va val)) awaited v from to w answers r s works is =
        subst (λ x. ComesBy n x v w) (sym works.answer_is) (valued_for v w works.ended (write_for v w works.ended works.works.kinds))

    -- ---- calls: where none was answered, the one that is in progress is paused behind a settling that changed nothing
    call_for : (d : ℕ) (call : Call) (op : ℕ) (v : PortValue) (from to : Progress) (w : PortValue) (log log' : List LogLine) (answers : List Bool) (stop : Stop) → IsSettled v →
        AnswersCall d call op v from log to w log' answers (Err stop) → to.done ≡ from.done → ComesBy {A = Unit {0}} n (Err stop) v w
    call_for d call op v from _ _ log _ _ _ s (calling.AnswersCall.unsettled w early stop settles) is = absurd (never_unsettled v w early stop s settles)
    call_for d call op v from _ _ log _ _ _ s (calling.AnswersCall.paused to u w log' early asked p settles went) is =
        let same = settles_pass same v u early s settles in
        for_from n (Paused p) v u w same
        (works_for d (task_in call) from.awaited u from.done to.done w asked (Err (Paused p)) (settled_on stays v u s same) went.works is)

    calls_for : (d : ℕ) (calls : List Call) (op : ℕ) (v : PortValue) (from to : Progress) (w : PortValue) (log log' : List LogLine) (answers : List Bool) (r : Result (Unit {0}) Stop) → IsSettled v →
        WorksCalls d calls op v from log to w log' answers r → to.call ≡ from.call → to.done ≡ from.done → ComesBy n r v w
    calls_for d calls op v from _ _ log _ _ _ s (calling.WorksCalls.long above) same_call is = tt
    calls_for d calls op v from _ _ log _ _ _ s (calling.WorksCalls.all_answered at w behind answers few did all) same_call is = tt
    calls_for d calls op v from _ _ log _ _ _ s (calling.WorksCalls.stopped at to u w call before behind answers asked stop few did at_is stops) same_call is =
        call_for d call op v from to w log behind asked stop s (stopped_first did stops same_call) is

    job_for : (d : ℕ) (job : Job) (op : ℕ) (v : PortValue) (from to : Progress) (w : PortValue) (log log' : List LogLine) (answers : List Bool) (r : Result ℕ Stop) → IsSettled v → IsSparingJob job →
        WentBy d job op v from to w log log' answers r → to.call ≡ from.call → to.done ≡ from.done → ComesBy n r v w
    job_for d (OfOne task) op v from to w log log' answers r s sparing went same_call is = works_for d task from.awaited v from.done to.done w answers r s went.works is
    job_for d (OfCalls calls) op v from to w log log' answers r s sparing went same_call is =
        subst (λ x. ComesBy n x v w) (sym went.answer_is) (valued_for v w went.ended (calls_for d calls op v from to w log log' answers went.ended s went.works same_call is))
    job_for d (OfDestroy domain) op v from to w log log' answers r s sparing went same_call is = absurd sparing

    -- ---- the turn
    ended_for : (v w : PortValue) (p : Pause) (done : ℕ) (r : Result ℕ Stop) → ends.Paused p ≡ end_of done r → IsUnhindered n (ends.Paused p) → ComesBy n r v w → ComesTo p v w
    ended_for v w p done (Ok x) is un c = absurd cc
    ended_for v w p done (Err (Refused x)) is un c = absurd cc
    ended_for v w p done (Err (Paused q)) is un c = let same : q ≡ p = cc in subst (λ y. ComesTo y v w) same (c (subst (λ y. IsUnhindered n (ends.Paused y)) (sym same) un))

    pub turn_comes : (c d : Processing) (op : Op) (v w : PortValue) (answers : List Bool) (p : Pause) → IsSettled v → IsSparingJob (job_of op) → IsUnhindered n (ends.Paused p) → GoesOnWith c op d v w answers (ends.Paused p) → d.at.call ≡ c.at.call → d.at.done ≡ c.at.done → ComesTo p v w
    turn_comes c d op v w answers p s sparing un g same_call stays_there =
        let at : d.at ≡ g.to = ap (λ (x : Processing). x.at) g.cpu in
        ended_for v w p g.to.done g.answer g.end_is un
        (job_for c.domain (job_of op) (c.answered + 1) v c.at g.to w c.log g.log answers g.answer s sparing g.went
        (sym (ap (λ (x : Progress). x.call) at) ∙ same_call) (sym (ap (λ (x : Progress). x.done) at) ∙ stays_there))
