-- A whole walk: from its base, and what its steps show.
use Rattle.std.proofs.Common.{◌≡◌, ◌≢◌, ℕ, suc, zero, ◌+◌, ◌-◌, ◌<◌, ◌≤◌, ◌^◌, ◌==◌, if◌then◌else◌, Bool, true, false, [], ◌++◌, Some, None, Result, Ok, Err, IsTrue, refl, sym, ap, ◌∙◌, subst, inl, arith, lit<, lit≤, append-nil}
use Rattle.std.proofs.lemmas.Bool.Decides.{nat_tests}
use Rattle.xp_words.specs.Entries.{frame_of, is_slot}
use Rattle.xp_words.specs.Machine.{Machine}
use Rattle.xp_words.specs.Places.{sizes_of}
use Rattle.xp_words.specs.declared.kind.PageType.TheVariants.{L4}
use Rattle.xp_words.specs.declared.place.Place.TheVariants.{Vcpu, Cell}
use Rattle.xp_words.specs.declared.reply.Refusal.{Refusal}
use Rattle.xp_words.specs.declared.reply.Refusal.TheVariants.{NotMapped, NonCanonical, Slot}
use Rattle.xp_words.specs.declared.reply.Stop.{Stop}
use Rattle.xp_words.specs.declared.reply.Stop.TheVariants.{Refused}
use Rattle.xp_board.specs.declared.holdings.Holdings.{Holdings}
use Rattle.xp_board.specs.declared.step.Act.TheVariants.{Load}
use Rattle.xp_board.specs.declared.step.Mark.TheVariants as marks
use Rattle.xp_board.specs.declared.step.StepKind.TheVariants as kinds
use Rattle.xp_board.specs.FillSteps.{cached_with}
use Rattle.xp_board.specs.Readings.{domain_of, is_context, is_frame_word}
use Rattle.xp_board.specs.Spelling.{IsSpelling}
use Rattle.xp_board.specs.Told.{Finds, Post, PortValue}
use Rattle.xp_board.proofs.Numbers.{vcpu_there}
use Rattle.xp_board.proofs.Sums.{when_eq}
use Rattle.step_maker.specs.Holds.{Same}
use Rattle.step_maker.specs.Moves.{Came, Met, Moves}
use Rattle.step_maker.proofs.Coming.{came_self, came_trans, moves_came}
use Rattle.step_maker.specs.Answers.{Serves, Stops, misses}
use Rattle.step_maker.specs.Asked.{Request, IsAsked, of, context}
use Rattle.step_maker.specs.Finding.{FoundAt}
use Rattle.step_maker.specs.Licences.{IsReached, top}
use Rattle.step_maker.specs.Visits.{Does}
use Rattle.step_maker.proofs.Changing.{moves_found}
use Rattle.step_maker.proofs.Piecing.{moves_serves, serves_nothing}
use Rattle.step_maker.proofs.Visiting.{does_as, does_nothing, does_one, does_then}
use Rattle.own_cache.specs.declared.flight.Flight.{Flight}
use Rattle.own_cache.specs.Translating.{Translating, flown, landed, translating, walk_begun}
use Rattle.tlb_walks.specs.Addresses.{index_of, is_canonical, slot_refusal, walk_refusal}
use Rattle.tlb_walks.specs.Asking.{IsWalkStop}
use Rattle.tlb_walks.specs.Flying.{EndedIn, IsAt, Turned, WalkMoves, barred, baseless, walks}
use Rattle.tlb_walks.specs.Translating.{WalkedTo, item_by}
use Rattle.tlb_walks.specs.Walks as by
use Rattle.tlb_walks.specs.Walks.{PathBy, WalkBy, base_visit, top_word}
use Rattle.tlb_walks.specs.declared.walks.Walked.{Walked}
use Rattle.tlb_walks.proofs.Descending.{no_page}
use Rattle.tlb_walks.proofs.Paths.{Barred, path_barrier, path_came, path_does, path_kind, path_last, path_serves, path_stops}
use Rattle.tlb_walks.proofs.RowSteps.{small_word}
use Rattle.tlb_walks.proofs.Turning.{turned_as, turned_is, turned_post, turned_rest, turned_same, turned_self, turned_then}

-- ---- the base
base_few : (n : Machine) (s w : ℕ) (user : Bool) → IsSpelling n (Vcpu s (top_word user)) w → w ≤ n.frames
unfolding IsSpelling
base_few n s w true e = let v = e.1 in grind (arith, nat_tests)
base_few n s w false e = let v = e.1 in grind (arith, nat_tests)

pub base_inside : (n : Machine) (s w : ℕ) (user : Bool) (h : Holdings) → Finds n s h (Vcpu s (top_word user)) w → (w ≤ n.frames) × (n.frames ≤ 65536)
base_inside n s w user h f = (
  base_few n s w user
      (subst (λ x. IsSpelling n (Vcpu s (top_word user)) x) f.word (f.sound.spelled.spelled (Vcpu s (top_word user)) (vcpu_there (sizes_of n) s (top_word user) f.real (small_word user)))),
  f.sound.machine.few_frames,
)

one_less : (w n : ℕ) → w ≢ 0 → w ≤ n → (w - 1) < n
one_less zero n some few = absurd (some refl)
one_less (suc w) n some few = omega arith

abbrev pub top_flight : Bool → Bool → ℕ → Flight
top_flight user write base = record { user = user; write = write; writable = true; touching = false; page = 0; table = base - 1; level = 4 }

begun_some : (user write : Bool) (base : ℕ) (t : Translating) → base ≢ 0 → walk_begun user write base t ≡ record t { flight = Some (top_flight user write base) }
begun_some user write base t some = let e : (base == 0) ≡ false = grind (arith, nat_tests) in rw e refl

module _ (v u : PortValue) (user write : Bool) (va base : ℕ) (load : Moves v u (Vcpu v.post.vcpu (top_word user)) Load kinds.Fill (Some (marks.Walk write)) base)
    (hand : Turned v u (walk_begun user write base (translating v.holdings))) (some : base ≢ 0) where
  begun : Turned v u (record (translating v.holdings) { flight = Some (top_flight user write base) })
  begun = turned_as v u _ _ (begun_some user write base (translating v.holdings) some) hand

  pub top_at : va < 2 ^ 64 → walk_refusal va ≡ None → IsAt u user va write None (top_flight user write base)
  top_at address unrefused =
      let few = base_inside v.post.machine v.post.vcpu base user v.holdings load.finds in
      record {
        flying = ap (λ (t : Translating). t.flight) (turned_is v u _ begun);
        user_is = refl;
        write_is = refl;
        free = refl;
        writable = refl;
        page = sym (no_page va);
        table = subst (λ (p : Post). base - 1 < p.machine.frames) (sym (turned_post v u _ begun)) (one_less base v.post.machine.frames some few.0);
        low = lit≤ tt;
        high = lit≤ tt;
        address = address;
        unrefused = unrefused;
      }

  pub top_hand : (w : PortValue) (r : Result Walked Stop) → EndedIn u w user va write r → EndedIn v w user va write r
  top_hand w (Ok r) (few, turn) = (
    subst (λ (p : Post). frame_of r.entry < p.machine.frames) (turned_post v u _ begun) few,
    turned_then v u w _ _ begun (turned_as u w _ _ (ap (λ (t : Translating). record { items = cached_with (item_by user va write r) t.items; flight = None }) (turned_is v u _ begun)) turn),
  )
  top_hand w (Err e) turn = turned_then v u w _ _ begun (turned_as u w _ _ (ap (λ (t : Translating). landed t) (turned_is v u _ begun)) turn)

pub stayed : (v : PortValue) → v.holdings.walk ≡ None → Turned v v (landed (translating v.holdings))
stayed v none = turned_self v _ (ap (λ o. record { items = v.holdings.cache; flight = flown o }) none)

pub none_begun : (v u : PortValue) (user write : Bool) (base : ℕ) → base ≡ 0 → Turned v u (walk_begun user write base (translating v.holdings)) → v.holdings.walk ≡ None → Turned v u (landed (translating v.holdings))
none_begun v u user write base zero_is hand none =
    turned_as v u _ _
    (ap (λ b. if b then translating v.holdings else record (translating v.holdings) { flight = Some (top_flight user write base) }) (when_eq base 0 zero_is)
    ∙ ap (λ o. record { items = v.holdings.cache; flight = flown o }) none) hand

-- ---- what its steps show
slot_kind : (i : ℕ) (x : Refusal) (b : Bool) → (if b then Some (Slot i) else None) ≡ Some x → IsWalkStop (Refused x)
slot_kind i x true e = let same : x ≡ Slot i = cc in subst (λ y. IsWalkStop (Refused y)) (sym same) tt
slot_kind i x false e = absurd cc

walk_by : (i : ℕ) (x : Refusal) (b : Bool) → (if b then slot_refusal i else Some NonCanonical) ≡ Some x → IsWalkStop (Refused x)
walk_by i x true e = slot_kind i x (is_slot L4 i) e
walk_by i x false e = let same : x ≡ NonCanonical = cc in subst (λ y. IsWalkStop (Refused y)) (sym same) tt

refusal_kind : (va : ℕ) (x : Refusal) → walk_refusal va ≡ Some x → IsWalkStop (Refused x)
refusal_kind va x e = walk_by (index_of va 4) x (is_canonical va) e

module _ (user : Bool) (va : ℕ) (write : Bool) where
  pub walk_came : (v w : PortValue) (answer : Result Walked Stop) → WalkMoves v w user va write answer → Came v w
  walk_came v w answer (barred x why e stay) = subst (λ q. Came v q) (sym stay) (came_self v)
  walk_came v w answer (baseless go e m) = moves_came v w _ _ _ _ _ m
  walk_came v w answer (walks u base go some m path) = came_trans v u w (moves_came v u _ _ _ _ _ m) (path_came w va write answer u 4 (base - 1) None path)

  pub walk_does : (v w : PortValue) (answer : Result Walked Stop) → WalkMoves v w user va write answer → Does v w (WalkBy v.post.machine v.post.vcpu user va write answer)
  walk_does v w answer (barred x why e stay) = subst (λ q. Does v q (WalkBy v.post.machine v.post.vcpu user va write answer)) (sym stay) (does_as v v _ _ (λ vs a. by.barred x why e a) (does_nothing v))
  walk_does v w answer (baseless go e m) = does_as v w _ _ (λ vs a. by.baseless go e a) (does_one v w _ _ _ _ _ m)
  walk_does v w answer (walks u base go some m path) =
      does_as v w _ _ (λ vs t. by.walks base go some t)
      (does_then v u w _ _ (does_one v u _ _ _ _ _ m)
      (subst (λ (p : Post). Does u w (PathBy p.machine va write answer 4 (base - 1) None)) (ap (λ (q : PortValue). q.post) m.to) (path_does w va write answer u 4 (base - 1) None path)))

  pub walk_kind : (v w : PortValue) (e : Stop) → WalkMoves v w user va write (Err e) → IsWalkStop e
  walk_kind v w e (barred x why is stay) = let same : e ≡ Refused x = cc in subst IsWalkStop (sym same) (refusal_kind va x why)
  walk_kind v w e (baseless go is m) = let same : e ≡ Refused (NotMapped 5 0) = cc in subst IsWalkStop (sym same) tt
  walk_kind v w e (walks u base go some m path) = path_kind w va write e u 4 (base - 1) None path

  pub walk_barrier : (v w : PortValue) (r : Walked) (e : ℕ) → r.barrier ≡ Some e → WalkMoves v w user va write (Ok r) → Barred v w e
  walk_barrier v w r e at (barred x why is stay) = absurd cc
  walk_barrier v w r e at (baseless go is m) = absurd cc
  walk_barrier v w r e at (walks u base go some m path) = path_barrier v w va write r u 4 (base - 1) None e (moves_came v u _ _ _ _ _ m) (λ y is. absurd cc) at path

  pub walk_last : (v w : PortValue) (r : Walked) → WalkMoves v w user va write (Ok r) → (t : ℕ) × (i : ℕ) × FoundAt (Met v w) (Cell t i) r.entry
  walk_last v w r (barred x why is stay) = absurd cc
  walk_last v w r (baseless go is m) = absurd cc
  walk_last v w r (walks u base go some m path) = path_last v w va write r u 4 (base - 1) None (moves_came v u _ _ _ _ _ m) path

  -- the top table is asked by the context word that names it
  module _ (r : Request) (may_walk : r.walks ≡ true) (may_name : r.contexts ≡ true) where
    is_base : (k : ℕ) (b : Bool) → k ≡ top_word b → IsTrue (is_context k)
    is_base k true e = rw e refl
    is_base k false e = rw e refl

    names_top : (base : ℕ) → base ≢ 0 → IsTrue (is_frame_word (base - 1) base)
    names_top zero some = absurd (some refl)
    names_top (suc k) some = when_eq (suc k) (suc k - 1 + 1) (omega arith)

    top_asked : (v u : PortValue) (base : ℕ) → base ≢ 0 → Moves v u (Vcpu v.post.vcpu (top_word user)) Load kinds.Fill (Some (marks.Walk write)) base →
        IsAsked v.post.machine v.post.vcpu r (Met v u) (base - 1)
    top_asked v u base some m =
        of (domain_of v.post.machine v.post.vcpu) None
        (context v.post.vcpu (top_word user) base may_name (moves_found v u _ _ _ _ _ m) (is_base (top_word user) user refl) (names_top base some) (inl refl) refl tt)

    based : (v u : PortValue) (base : ℕ) → Moves v u (Vcpu v.post.vcpu (top_word user)) Load kinds.Fill (Some (marks.Walk write)) base → Serves v u r []
    based v u base m = moves_serves v u r _ _ _ _ _ m tt

    pub walk_serves : (v w : PortValue) (answer : Result Walked Stop) → WalkMoves v w user va write answer → Serves v w r (misses v.post.machine answer)
    walk_serves v w answer (barred x why e stay) =
        subst (λ a. Serves v w r (misses v.post.machine a)) (sym e) (subst (λ q. Serves v q r []) (sym stay) (serves_nothing v r))
    walk_serves v w answer (baseless go e m) = subst (λ a. Serves v w r (misses v.post.machine a)) (sym e) (based v w 0 m)
    walk_serves v w answer (walks u base go some m path) =
        subst (λ xs. Serves v w r xs) (append-nil _)
        (subst (λ (p : Post). Serves v w r (misses p.machine answer ++ [])) (ap (λ (q : PortValue). q.post) m.to)
        (path_serves r may_walk v w va write answer u 4 (base - 1) None [] (based v u base m) (top_asked v u base some m) path))

    few : (b : Bool) → top_word b < 2
    few true = lit< tt
    few false = lit< tt

    top_reached : (v u : PortValue) (base : ℕ) → base ≢ 0 → Moves v u (Vcpu v.post.vcpu (top_word user)) Load kinds.Fill (Some (marks.Walk write)) base → IsReached v.post.machine v.post.vcpu (Met v u) 4 (base - 1)
    top_reached v u base some m = top (top_word user) base (base - 1) (few user) (moves_found v u _ _ _ _ _ m) (names_top base some)

    by_address : (v w : PortValue) (x : Refusal) (b : Bool) → r.by_numbers ≡ Some x → (if b then slot_refusal (index_of va 4) else Some NonCanonical) ≡ Some x → b ≡ is_canonical va → Stops v w r (Refused x)
    unfolding Stops
    by_address v w x true may e is = by_slot (index_of va 4) (is_slot L4 (index_of va 4)) refl e
      where
        by_slot : (i : ℕ) (s : Bool) → is_slot L4 i ≡ s → (if s then Some (Slot i) else None) ≡ Some x → Stops v w r (Refused x)
        by_slot i true is e =
            let same : x ≡ Slot i = cc in
            subst (λ y. Stops v w r (Refused y)) (sym same) (is, inl (may ∙ ap Some same))
        by_slot i false is e = absurd cc
    by_address v w x false may e is = let same : x ≡ NonCanonical = cc in subst (λ y. Stops v w r (Refused y)) (sym same) (may ∙ ap Some same)

    no_base : (v w : PortValue) → Moves v w (Vcpu v.post.vcpu (top_word user)) Load kinds.Fill (Some (marks.Walk write)) 0 → Stops v w r (Refused (NotMapped 5 0))
    unfolding Stops
    no_base v w m = inl (refl, refl, may_walk, (top_word user, few user, moves_found v w _ _ _ _ _ m))

    pub walk_stops : (v w : PortValue) (e : Stop) → ((x : Refusal) → walk_refusal va ≡ Some x → r.by_numbers ≡ Some x) → WalkMoves v w user va write (Err e) → Stops v w r e
    walk_stops v w e may (barred x why is stay) = let same : e ≡ Refused x = cc in subst (λ y. Stops v w r y) (sym same) (by_address v w x (is_canonical va) (may x why) why refl)
    walk_stops v w e may (baseless go is m) = let same : e ≡ Refused (NotMapped 5 0) = cc in subst (λ y. Stops v w r y) (sym same) (no_base v w m)
    walk_stops v w e may (walks u base go some m path) =
        path_stops r may_walk v w va write e u 4 (base - 1) None (moves_came v u _ _ _ _ _ m) (top_asked v u base some m) (top_reached v u base some m) (lit≤ tt) (lit≤ tt) path

-- ---- what it leaves
pub walked_to : (v w : PortValue) (user : Bool) (va : ℕ) (write : Bool) (r : Walked) → v.holdings.walk ≡ None → EndedIn v w user va write (Ok r) → WalkedTo v w user va write r
walked_to v w user va write r none (few, turn) = record { inside = few; hand = turned_rest v w _ turn refl none }

pub stopped_same : (v w : PortValue) (user : Bool) (va : ℕ) (write : Bool) (e : Stop) → v.holdings.walk ≡ None → EndedIn v w user va write (Err e) → Same v w
stopped_same v w user va write e none turn = turned_same v w turn none
