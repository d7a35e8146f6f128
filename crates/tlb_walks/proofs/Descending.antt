-- A walk from one level to the next, and to its end.
use Rattle.std.proofs.Common.{◌≡◌, ◌≢◌, ℕ, suc, zero, ◌+◌, ◌*◌, ◌-◌, ◌^◌, ◌<◌, ◌≤◌, ◌==◌, ◌&&◌, ◌||◌, ◌⊎◌, not, nat_lt, if◌then◌else◌, is_some, Bool, true, false, Option, Some, None, Result, Ok, Err, refl, sym, ap, ◌∙◌, subst, inl, inr, arith}
use Rattle.std.proofs.lemmas.Bool.Decides.{nat_tests}
use Rattle.xp_words.specs.Entries.{is_bit, is_slot, frame_of}
use Rattle.xp_words.specs.Machine.{Machine}
use Rattle.xp_words.specs.declared.kind.PageType.TheVariants.{L4}
use Rattle.xp_words.specs.declared.reply.Refusal.{Refusal}
use Rattle.xp_words.specs.declared.reply.Refusal.TheVariants.{Slot}
use Rattle.xp_words.specs.declared.reply.Stop.{Stop}
use Rattle.xp_board.specs.declared.step.Item.{Item}
use Rattle.xp_board.specs.FillSteps.{cached_with, with_bit}
use Rattle.xp_board.specs.Told.{Post, PortValue}
use Rattle.xp_board.proofs.Bits.{with_bit-other}
use Rattle.step_maker.specs.Licences.{is_unmapped}
use Rattle.own_cache.specs.declared.flight.Flight.{Flight}
use Rattle.own_cache.specs.Translating.{Translating, item_in, landed, touched_in, translating, walk_below, with_entry}
use Rattle.tlb_walks.specs.Addresses.{index_of, page_of, slot_refusal}
use Rattle.tlb_walks.specs.Flying.{EndedIn, EntryMoves, IsAt, PassedBy, PassedTo, PathMoves, Turned, ends, goes, next_flight, page_above}
use Rattle.tlb_walks.specs.Translating.{item_by}
use Rattle.tlb_walks.specs.Walks.{EndsAt, barrier_with, with_needed}
use Rattle.tlb_walks.specs.declared.walks.Walked.{Walked}
use Rattle.tlb_walks.proofs.Passing.{same_frame}
use Rattle.tlb_walks.proofs.Turning.{turned_as, turned_is, turned_post, turned_then}

-- ---- addresses
four : (level : ℕ) → 1 ≤ level → level ≤ 4 → (level ≡ 1) ⊎ ((level ≡ 2) ⊎ ((level ≡ 3) ⊎ (level ≡ 4)))
four zero low high = absurd (omega arith)
four (suc zero) low high = inl refl
four (suc (suc zero)) low high = inr (inl refl)
four (suc (suc (suc zero))) low high = inr (inr (inl refl))
four (suc (suc (suc (suc k)))) low high = inr (inr (inr (omega arith)))

abbrev PageStep : ℕ → ℕ → Type 0
PageStep va level = page_above va level * 512 + index_of va level ≡ page_above va (level - 1)

pub page_step : (va level : ℕ) → va < 2 ^ 64 → 1 ≤ level → level ≤ 4 → page_above va level * 512 + index_of va level ≡ page_above va (level - 1)
page_step va level small low high = by (four level low high)
  where
    by : (level ≡ 1) ⊎ ((level ≡ 2) ⊎ ((level ≡ 3) ⊎ (level ≡ 4))) → PageStep va level
    by (inl e) = subst (PageStep va) (sym e) (let k : PageStep va 1 = omega arith in k)
    by (inr (inl e)) = subst (PageStep va) (sym e) (let k : PageStep va 2 = omega arith in k)
    by (inr (inr (inl e))) = subst (PageStep va) (sym e) (let k : PageStep va 3 = omega arith in k)
    by (inr (inr (inr e))) = subst (PageStep va) (sym e) (let k : PageStep va 4 = omega arith in k)

pub page_few : (va level : ℕ) → 2 ≤ level → level ≤ 4 → page_above va level < 2 ^ 27
page_few va level low high = by (four level (omega arith) high)
  where
    by : (level ≡ 1) ⊎ ((level ≡ 2) ⊎ ((level ≡ 3) ⊎ (level ≡ 4))) → page_above va level < 2 ^ 27
    by (inl e) = absurd (omega arith)
    by (inr (inl e)) = subst (λ l. page_above va l < 2 ^ 27) (sym e) (let k : page_above va 2 < 2 ^ 27 = omega arith in k)
    by (inr (inr (inl e))) = subst (λ l. page_above va l < 2 ^ 27) (sym e) (let k : page_above va 3 < 2 ^ 27 = omega arith in k)
    by (inr (inr (inr e))) = subst (λ l. page_above va l < 2 ^ 27) (sym e) (let k : page_above va 4 < 2 ^ 27 = omega arith in k)

pub no_page : (va : ℕ) → page_above va 4 ≡ 0
no_page va = omega arith

-- an address that is not refused leads through no slot
no_slot : (i : ℕ) → slot_refusal i ≡ None → is_slot L4 i ≡ false
no_slot i e = by (is_slot L4 i) refl e
  where
    by : (b : Bool) → is_slot L4 i ≡ b → (if b then Some (Slot i) else None) ≡ None → is_slot L4 i ≡ false
    by true is f = absurd cc
    by false is f = is

by_canonical : (b : Bool) (x : Refusal) (o : Option Refusal) → (if b then o else Some x) ≡ None → o ≡ None
by_canonical true x o e = e
by_canonical false x o e = absurd cc

-- ---- bits and barriers
open_by : (b : Bool) (x : ℕ) → not (is_some (if b then None else Some x)) ≡ b
open_by true x = refl
open_by false x = refl

pub open_with : (b : Option ℕ) (x : ℕ) → (not (is_some b) && is_bit 1 x) ≡ not (is_some (barrier_with b x))
open_with (Some y) x = refl
open_with None x = sym (open_by (is_bit 1 x) x)

pub needed_is : (f : Flight) (b : Option ℕ) (i x : ℕ) → f.writable ≡ not (is_some b) → touched_in (with_entry i x f) x ≡ with_needed f.write f.level (barrier_with b x) x
needed_is f b i x e =
    ap (λ y. if f.write && ((y && is_bit 1 x) && (f.level == 1)) then with_bit 6 (with_bit 5 x) else with_bit 5 x) e
    ∙ ap (λ y. if f.write && (y && (f.level == 1)) then with_bit 6 (with_bit 5 x) else with_bit 5 x) (open_with b x)

dirty_here : (x : ℕ) (b : Bool) → is_bit 6 x ≡ b → is_bit 6 (if b then x else x + 2 ^ 6) ≡ true
dirty_here x true e = e
dirty_here x false e = grind (arith, nat_tests)

dirty_by : (x : ℕ) (d : Bool) → is_bit 6 (if d then with_bit 6 (with_bit 5 x) else with_bit 5 x) ≡ (is_bit 6 x || d)
dirty_by x true = dirty_here (with_bit 5 x) (is_bit 6 (with_bit 5 x)) refl ∙ sym (or_true (is_bit 6 x))
  where
    or_true : (b : Bool) → (b || true) ≡ true
    or_true true = refl
    or_true false = refl
dirty_by x false = with_bit-other x 5 6 (omega arith) ∙ sym (or_false (is_bit 6 x))
  where
    or_false : (b : Bool) → (b || false) ≡ b
    or_false true = refl
    or_false false = refl

and_true : (a b c : Bool) → c ≡ true → (a && (b && c)) ≡ (a && b)
and_true true true c e = e
and_true true false c e = refl
and_true false b c e = refl

-- ---- an entry that the walk passes, or at which it stops
module _ (v u : PortValue) (user write : Bool) (va : ℕ) (b : Option ℕ) (f : Flight) (i : ℕ) (at : IsAt v user va write b f) (here : i ≡ index_of va f.level) where
  entry_at : (x found : ℕ) → EntryMoves v u f.table i x (touched_in (with_entry i x f) x) found →
      EntryMoves v u f.table (index_of va f.level) x (with_needed f.write f.level (barrier_with b x) x) found
  entry_at x found m = subst (λ j. EntryMoves v u f.table j x (with_needed f.write f.level (barrier_with b x) x) found) here (subst (λ y. EntryMoves v u f.table i x y found) (needed_is f b i x at.writable) m)

  end_at : (x found : ℕ) (e : Stop) → EndsAt v.post.machine f.table i f.level (barrier_with b x) x (touched_in (with_entry i x f) x) found (Err e) →
      EndsAt v.post.machine f.table (index_of va f.level) f.level (barrier_with b x) x (with_needed f.write f.level (barrier_with b x) x) found (Err e)
  end_at x found e a =
      subst (λ j. EndsAt v.post.machine f.table j f.level (barrier_with b x) x (with_needed f.write f.level (barrier_with b x) x) found (Err e)) here
      (subst (λ y. EndsAt v.post.machine f.table i f.level (barrier_with b x) x y found (Err e)) (needed_is f b i x at.writable) a)

  pub stop_path : (e : Stop) → PassedBy v u f i (Err e) → PathMoves u va f.write (Err e) v f.level f.table b
  stop_path e (x, found, m, a) = ends v f.level f.table b x found (entry_at x found m) (end_at x found e (a (barrier_with b x)))

  pub last_path : (x : ℕ) → PassedBy v u f i (Ok x) → f.level ≡ 1 → PathMoves u va f.write (Ok (record { entry = x; barrier = barrier_with b x })) v f.level f.table b
  last_path x (mapped, m) last = ends v f.level f.table b x x (entry_at x x m) (last, mapped, refl, refl, refl)

  pub more_path : (w : PortValue) (answer : Result Walked Stop) (x : ℕ) → PassedBy v u f i (Ok x) → f.level ≢ 1 → PathMoves w va f.write answer u (f.level - 1) (frame_of x) (barrier_with b x) →
      PathMoves w va f.write answer v f.level f.table b
  more_path w answer x (mapped, m) more path = goes v u f.level f.table b x (let low = at.low in omega arith) mapped (entry_at x x m) path

inside_by : (n : Machine) (x : ℕ) (b : Bool) → (not b || not (nat_lt (frame_of x) n.frames)) ≡ false → frame_of x < n.frames
inside_by n x true e = grind (arith, nat_tests)
inside_by n x false e = absurd cc

pub mapped_inside : (n : Machine) (x : ℕ) → is_unmapped n x ≡ false → frame_of x < n.frames
mapped_inside n x e = inside_by n x (is_bit 0 x) e

-- ---- down, and to the end
below_on : (frames : ℕ) (f : Flight) (x : ℕ) (t : Translating) → frame_of x < frames → f.level ≢ 1 → walk_below frames f x t ≡ record t { flight = Some (record f { touching = false; table = frame_of x; level = f.level - 1 }) }
below_on frames f x t inside low =
    let e : nat_lt (frame_of x) frames ≡ true = grind (arith, nat_tests) in
    let l : (f.level == 1) ≡ false = grind (arith, nat_tests) in
    rw (e, l) refl

below_end : (frames : ℕ) (f : Flight) (x : ℕ) (t : Translating) → frame_of x < frames → f.level ≡ 1 → walk_below frames f x t ≡ record { items = cached_with (item_in f x) t.items; flight = None }
below_end frames f x t inside last =
    let e : nat_lt (frame_of x) frames ≡ true = grind (arith, nat_tests) in
    let l : (f.level == 1) ≡ true = grind (arith, nat_tests) in
    rw (e, l) refl

module _ (v u : PortValue) (va : ℕ) (b : Option ℕ) (f : Flight) (i x : ℕ) (at : IsAt v f.user va f.write b f) (here : i ≡ index_of va f.level) (mapped : is_unmapped v.post.machine x ≡ false)
    (hand : PassedTo v u f i (Ok x)) where
  inside : frame_of (touched_in (with_entry i x f) x) < v.post.machine.frames
  inside = subst (λ y. y < v.post.machine.frames) (sym (same_frame (with_entry i x f) x)) (mapped_inside v.post.machine x mapped)

  page_is : f.page * 512 + i ≡ page_above va (f.level - 1)
  page_is = ap (λ j. f.page * 512 + j) here ∙ ap (λ p. p * 512 + index_of va f.level) at.page ∙ page_step va f.level at.address at.low at.high

  writable_is : (with_entry i x f).writable ≡ not (is_some (barrier_with b x))
  writable_is = ap (λ y. y && is_bit 1 x) at.writable ∙ open_with b x

  -- the new translation stands first
  item_is : f.level ≡ 1 → item_in (with_entry i x f) (touched_in (with_entry i x f) x) ≡ item_by f.user va f.write (record { entry = x; barrier = barrier_with b x })
  item_is last =
      let page : f.page * 512 + i ≡ page_of va = page_is ∙ ap (λ l. page_above va (l - 1)) last in
      let frame = same_frame (with_entry i x f) x in
      let here_last : (f.level == 1) ≡ true = grind (arith, nat_tests) in
      let dirty : is_bit 6 (touched_in (with_entry i x f) x) ≡ (is_bit 6 x || (f.write && not (is_some (barrier_with b x)))) =
      dirty_by x (f.write && ((with_entry i x f).writable && (f.level == 1))) ∙ ap (λ y. is_bit 6 x || y) (and_true f.write (with_entry i x f).writable (f.level == 1) here_last)
      ∙ ap (λ y. is_bit 6 x || (f.write && y)) writable_is in
      λ j. record { user = f.user; page = page j; frame = frame j; writable = writable_is j; dirty = dirty j }

  pub last_hand : f.level ≡ 1 → EndedIn v u f.user va f.write (Ok (record { entry = x; barrier = barrier_with b x }))
  last_hand last = (
    mapped_inside v.post.machine x mapped,
    turned_as v u _ _
        (below_end v.post.machine.frames (with_entry i x f) _ (translating v.holdings) inside last
        ∙ ap (λ (y : Item). record { items = cached_with y v.holdings.cache; flight = None }) (item_is last)) hand,
  )

  -- it comes to the table below
  next_to : f.level ≢ 1 → Turned v u (record (translating v.holdings) { flight = Some (next_flight f i x) })
  next_to more =
      turned_as v u _ _
      (below_on v.post.machine.frames (with_entry i x f) _ (translating v.holdings) inside more
      ∙ ap (λ y. record (translating v.holdings) { flight = Some (record (with_entry i x f) { touching = false; table = y; level = f.level - 1 }) }) (same_frame (with_entry i x f) x)) hand

  pub next_at : f.level ≢ 1 → IsAt u f.user va f.write (barrier_with b x) (next_flight f i x)
  next_at more =
      let low = at.low in
      let high = at.high in
      let down = next_to more in
      record {
        flying = ap (λ (t : Translating). t.flight) (turned_is v u _ down);
        user_is = refl;
        write_is = refl;
        free = refl;
        writable = writable_is;
        page = page_is;
        table = subst (λ (p : Post). frame_of x < p.machine.frames) (sym (turned_post v u _ down)) (mapped_inside v.post.machine x mapped);
        low = omega arith;
        high = omega arith;
        address = at.address;
        unrefused = at.unrefused;
      }

  pub next_hand : (w : PortValue) (r : Result Walked Stop) → f.level ≢ 1 → EndedIn u w f.user va f.write r → EndedIn v w f.user va f.write r
  next_hand w (Ok r) more (few, turn) =
      let down = next_to more in (
        subst (λ (p : Post). frame_of r.entry < p.machine.frames) (turned_post v u _ down) few,
        turned_then v u w _ _ down
            (turned_as u w _ _ (ap (λ (t : Translating). record { items = cached_with (item_by f.user va f.write r) t.items; flight = None }) (turned_is v u _ down)) turn),
      )
  next_hand w (Err e) more turn = let down = next_to more in turned_then v u w _ _ down (turned_as u w _ _ (ap (λ (t : Translating). landed t) (turned_is v u _ down)) turn)
