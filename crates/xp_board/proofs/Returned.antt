-- What comes back into the hand is known live; what an ask awaits of a free frame; what is known of the own words.
use Rattle.std.proofs.Common.{◌≡◌, ◌≢◌, ℕ, suc, ◌+◌, ◌<◌, ◌==◌, ◌&&◌, ◌||◌, length, nat_lt, if◌then◌else◌, Bool, true, false, List, [], ◌∷◌, Option, Some, None, IsTrue, refl, sym, ap, subst, arith}
use Rattle.std.proofs.lemmas.Bool.{eqb-true}
use Rattle.std.proofs.lemmas.Bool.Decides.{nat_tests}
use Rattle.xp_words.specs.declared.kind.PageType.{PageType}
use Rattle.xp_words.specs.declared.kind.PageType.TheVariants as kinds
use Rattle.xp_words.specs.declared.entry.Demand.{Demand}
use Rattle.xp_words.specs.declared.entry.Demand.TheVariants.{Typed}
use Rattle.xp_words.specs.Entries.{demand_at}
use Rattle.xp_words.specs.Machine.{Machine}
use Rattle.xp_words.specs.declared.place.Place.{Place}
use Rattle.xp_words.specs.declared.place.Place.TheVariants.{Vcpu, Refs, Cell}
use Rattle.xp_words.specs.Places.{Sizes, sizes_of, place_at, run_of}
use Rattle.xp_board.specs.declared.step.Act.TheVariants.{Store}
use Rattle.xp_board.specs.declared.step.Mark.TheVariants.{Shed}
use Rattle.xp_board.specs.declared.step.Step.{Step}
use Rattle.xp_board.specs.declared.holdings.Made.{Made}
use Rattle.xp_board.specs.declared.holdings.TypedReference.{TypedReference}
use Rattle.xp_board.specs.declared.holdings.Lock.{Lock}
use Rattle.xp_board.specs.declared.holdings.Work.{Work}
use Rattle.xp_board.specs.declared.holdings.Holdings.{Holdings}
use Rattle.xp_board.specs.Acts.{left_by}
use Rattle.xp_board.specs.After.{after_move, after_act, learned}
use Rattle.xp_board.specs.AskSteps.{AwaitsFree}
use Rattle.xp_board.specs.CellSteps.{exchanged, keeps_demand, after_cell}
use Rattle.xp_board.specs.ContextSteps.{context_type, named_in, named_out, after_context}
use Rattle.xp_board.specs.Hands.{refs_to, ending_of, claim_of, brought_as, brought_name, lock_on, work_on, changed_work}
use Rattle.xp_board.specs.Knowledge.{knows_live, tells_live}
use Rattle.xp_board.specs.Lists.{some_of, times_by, first_by}
use Rattle.xp_board.specs.Marks.{after_mark, shed, demand_seen}
use Rattle.xp_board.specs.Readings.{is_type, is_free, is_context}
use Rattle.xp_board.specs.Settling.{demand_in, demand_out, is_settled}
use Rattle.xp_board.specs.RefSteps.{Raise, Claim, after_ref_row, after_ref_store}
use Rattle.xp_words.specs.declared.refs.RefWord.TheVariants.{Free}
use Rattle.xp_board.specs.declared.holdings.Ending.{Ending}
use Rattle.xp_board.specs.declared.holdings.Claimed.{Claimed}
use Rattle.xp_board.specs.Sound.{Sound}
use Rattle.xp_board.specs.Steps.{some_step, some_before, last_since, is_at, left_of}
use Rattle.xp_board.specs.Told.{PortValue, stepped, own_run, run_or}

-- ---- it is known live
pub same_type : (t : PageType) → is_type t t ≡ true
same_type kinds.None = refl
same_type kinds.L1 = refl
same_type kinds.L2 = refl
same_type kinds.L3 = refl
same_type kinds.L4 = refl
same_type kinds.Desc = refl
same_type kinds.Writable = refl

same_frame : (f : ℕ) → (f == f) ≡ true
same_frame f = grind (arith, nat_tests)

-- by a typed reference that says so, the newest in hand
known_now : (z : Sizes) (f : ℕ) (t : PageType) (h : Holdings) (x : TypedReference) (xs : List TypedReference) → h.typed ≡ x ∷ xs → x.frame ≡ f → tells_live z h.steps f t x.kind x.live ≡ true →
    IsTrue (knows_live z f t h)
unfolding knows_live some_of
known_now z f t h x xs is at tells = rw (is, at, same_frame f, tells) refl

pub name_known : (z : Sizes) (v k new f : ℕ) (t : PageType) (h : Holdings) → IsTrue (is_context k) → context_type k ≡ Some t → IsTrue (knows_live z f t (after_context (Vcpu v k) (Store new) (suc f) h))
name_known z v k new f t h word types =
    let gone = named_out new h in
    subst (λ b. IsTrue (knows_live z f t (if b then named_in k (suc f) gone else h))) (sym word)
    (known_now z f t (named_in k (suc f) gone) (brought_name f (context_type k) gone) gone.typed refl refl (rw types (same_type t)))

demand_known : (z : Sizes) (d : Demand) (g : ℕ) (t : PageType) (h : Holdings) → d ≡ Typed g t → IsTrue (knows_live z g t (demand_in true d h))
demand_known z d g t h is = subst (λ (e : Demand). IsTrue (knows_live z g t (demand_in true e h))) (sym is) (known_now z g t (demand_in true (Typed g t) h) (brought_as true g t h) h.typed refl refl (same_type t))

pub entry_known : (z : Sizes) (f i new w g : ℕ) (t : PageType) (h : Holdings) (e : Lock) → lock_on f h.locks ≡ Some e → keeps_demand e i new ≡ false → demand_at e.kind i w ≡ Typed g t →
    IsTrue (knows_live z g t (after_cell (Cell f i) (Store new) w h))
entry_known z f i new w g t h e here other asked =
    subst (λ o. IsTrue (knows_live z g t (exchanged i new w o h))) (sym here)
    (subst (λ b. IsTrue (knows_live z g t (if b then h else demand_in true (demand_at e.kind i w) (demand_out (demand_at e.kind i new) h)))) (sym other)
    (demand_known z (demand_at e.kind i w) g t (demand_out (demand_at e.kind i new) h) asked))

pub settled_known : (n : Machine) (f upto g : ℕ) (t : PageType) (h : Holdings) (e : Work) → work_on f h.works ≡ Some e → IsTrue (is_settled (sizes_of n) h e) → demand_seen upto e ≡ Typed g t →
    IsTrue (knows_live (sizes_of n) g t (after_mark n (Some (Shed f upto)) h))
settled_known n f upto g t h e here settled asked =
    let left : Holdings = record h { works = changed_work f (λ x. record x { recorded = upto; unsettled = None }) h.works } in
    subst (λ o. IsTrue (knows_live (sizes_of n) g t (shed n f upto o h))) (sym here)
    (subst (λ (b : Bool). IsTrue (knows_live (sizes_of n) g t (demand_in b (demand_seen upto e) left))) (sym settled)
    (demand_known (sizes_of n) (demand_seen upto e) g t left asked))

-- ---- what an ask awaits of a free frame is the word of a free one
free_then : (a : Bool) (w stamp : ℕ) → (a && (is_free w && (w == stamp))) ≡ true → IsTrue (is_free stamp)
free_then true w stamp e = equal_then (is_free w) (w == stamp) refl refl e
  where
    equal_then : (a b : Bool) → is_free w ≡ a → (w == stamp) ≡ b → (a && b) ≡ true → IsTrue (is_free stamp)
    equal_then true true f s e = subst (λ x. IsTrue (is_free x)) (eqb-true w stamp s) f
    equal_then true false f s e = absurd cc
    equal_then false b f s e = absurd cc
free_then false w stamp e = absurd cc

one_free : (a b c : Bool) (P : Type 0) → (b ≡ true → P) → (IsTrue c → P) → IsTrue ((a && b) || c) → P
one_free true true c P here later h = here refl
one_free true false c P here later h = later h
one_free false b c P here later h = later h

found_free : (z : Sizes) (since frame stamp : ℕ) (xs : List Made) → IsTrue (some_before z since (Refs frame) (λ w. is_free w && (w == stamp)) xs) → IsTrue (is_free stamp)
unfolding some_step
found_free z since frame stamp [] h = absurd cc
found_free z since frame stamp (x ∷ xs) h =
    one_free (nat_lt (length xs) since) (is_at z (Refs frame) x && (is_free (left_of x) && (left_of x == stamp))) (some_before z since (Refs frame) (λ w. is_free w && (w == stamp)) xs) (IsTrue (is_free stamp))
    (λ here. free_then (is_at z (Refs frame) x) (left_of x) stamp here) (λ later. found_free z since frame stamp xs later) h

pub awaited_free : (n : Machine) (since stamp : ℕ) (h : Holdings) → AwaitsFree n since stamp h → IsTrue (is_free stamp)
awaited_free n since stamp h a = found_free (sizes_of n) since a.frame stamp h.steps a.found

-- ---- the own words
pub own_left : (n : Machine) (m : Place → ℕ) (h : ℕ → Holdings) (s k w : ℕ) → Sound n m h → s < (sizes_of n).vcpus → k ≢ 4 → k ≢ 5 → m (run_of s) ≢ 1 → last_since (sizes_of n) 0 (Vcpu s k) (h s).steps ≡ Some w →
    m (Vcpu s k) ≡ w
own_left n m h s k w sound real asked flushed running last = (sound.found s real).own.words k w asked flushed running last

-- a step at the own run word tells it
own_learned : (s k found left : ℕ) (h : Holdings) → (learned s (run_of s) found left h).run ≡ Some left
own_learned s k found left h = rw (same_frame s) refl

pub run_known : (v : PortValue) (x : Step) (found : ℕ) → place_at (sizes_of v.post.machine) x.place ≡ run_of v.post.vcpu → own_run (stepped v x found) ≡ left_by x.act found
run_known v x found at =
    let n = v.post.machine in
    let s = v.post.vcpu in
    let run : (after_move n s v.holdings (place_at (sizes_of n) x.place) x.act x.kind x.mark found).run ≡ Some (left_by x.act found) =
    subst (λ p. (after_move n s v.holdings p x.act x.kind x.mark found).run ≡ Some (left_by x.act found)) (sym at)
    (own_learned s 6 found (left_by x.act found) (after_act n s (run_of s) x.act x.kind x.mark found (after_mark n x.mark v.holdings))) in
    known_or v.post.run _ (left_by x.act found) run
  where
    known_or : (opened : ℕ) (o : Option ℕ) (w : ℕ) → o ≡ Some w → run_or opened o ≡ w
    known_or opened o w is = rw is refl

-- ---- what some rows move
pub raised_more : (n : Machine) (s f w : ℕ) (h : Holdings) → refs_to f (after_ref_row Raise n s f w h).refs ≡ refs_to f h.refs + 1
unfolding times_by
raised_more n s f w h = rw (same_frame f) (omega arith)

pub freed_page : (n : Machine) (s f stamp : ℕ) (h : Holdings) (e : Ending) → ending_of f h.ending ≡ Some e → (after_ref_store (Some (Free stamp)) n s f h).credits ≡ e.owner ∷ h.credits
freed_page n s f stamp h e here = rw here refl

pub claimed_dirty : (n : Machine) (s f w : ℕ) (h : Holdings) (e : Claimed) → claim_of f (after_ref_row Claim n s f w h).claimed ≡ Some e → e.scrubbed ≡ 0
unfolding first_by
claimed_dirty n s f w h e here =
    let new : Claimed = record { frame = f; stamp = w; scrubbed = 0; since = length h.steps + 1 } in
    let is : Some new ≡ Some e = subst (λ (b : Bool). (if b then Some new else claim_of f h.claimed) ≡ Some e) (same_frame f) here in
    ap (λ (o : Option Claimed). scrubbed_in o) (sym is)
  where
    scrubbed_in : Option Claimed → ℕ
    scrubbed_in (Some x) = x.scrubbed
    scrubbed_in None = 0
