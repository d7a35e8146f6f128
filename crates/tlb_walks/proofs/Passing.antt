-- One entry of a walk: loaded, and its bits set.
use Rattle.std.proofs.Common.{◌≡◌, ◌≢◌, ℕ, ◌-◌, ◌<◌, ◌≤◌, ◌==◌, ◌&&◌, ◌||◌, ◌⊎◌, not, nat_lt, if◌then◌else◌, is_some, Bool, true, false, List, [], ◌∷◌, Option, Some, None, Result, Ok, Err, IfErr, MatchResult, IsTrue, refl, sym, ap, ◌∙◌, subst, inl, inr, arith}
use Rattle.std.proofs.lemmas.Bool.Decides.{nat_tests}
use Rattle.xp_words.specs.Entries.{is_bit, frame_of}
use Rattle.xp_words.specs.Machine.{Machine}
use Rattle.xp_words.specs.declared.place.Place.TheVariants.{Cell}
use Rattle.xp_words.proofs.Shared.{eq_false as not_equal}
use Rattle.xp_board.specs.declared.holdings.Holdings.{Holdings}
use Rattle.xp_board.specs.declared.holdings.Reached.{Reached}
use Rattle.xp_board.specs.declared.holdings.Touching.{Touching}
use Rattle.xp_board.specs.declared.holdings.Walk.{Walk}
use Rattle.xp_board.specs.declared.step.Act.TheVariants.{Load, Cas}
use Rattle.xp_board.specs.declared.step.StepKind.TheVariants as kinds
use Rattle.xp_board.specs.FillSteps as fill
use Rattle.xp_board.specs.FillSteps.{MayWalkOn, cached_with, is_walked, touched, walked_by, walked_on, with_bit}
use Rattle.xp_board.specs.Told.{Post, PortValue}
use Rattle.xp_board.specs.TouchSteps.{MayTouch}
use Rattle.xp_board.proofs.Sums.{when_eq as equal}
use Rattle.step_maker.specs.Licences.{is_unmapped}
use Rattle.own_cache.specs.declared.flight.Flight.{Flight}
use Rattle.own_cache.specs.Translating.{Translating, flight_of, flown, gone_on, item_in, landed, seen, set_bits, table_in, touched_in, translating, walk_below, with_entry}
use Rattle.step_maker.specs.Moves.{Moves, found_by}
use Rattle.tlb_walks.specs.Flying.{BitsLost, BitsSet, EntryMoves, WalkReady, Sees, TouchMoves, Turned, alone, both, lost, set, stands}
use Rattle.tlb_walks.proofs.Turning.{turned_as, turned_is, turned_post, turned_self, turned_then}

-- ---- a flight is a walk
pub record Walks (h : Holdings) (f : Flight) : Type 0 where
  pub walk : Walk
  pub flying : h.walk ≡ Some walk
  pub is : flight_of walk ≡ f

walks_by : (o : Option Walk) (f : Flight) → flown o ≡ Some f → (walk : Walk) × (o ≡ Some walk) × (flight_of walk ≡ f)
walks_by (Some walk) f e = (walk, refl, cc)
walks_by None f e = absurd cc

walks : (h : Holdings) (f : Flight) → flown h.walk ≡ Some f → Walks h f
walks h f e = let w = walks_by h.walk f e in record { walk = w.0; flying = w.1; is = w.2 }

untouched : (o : Option Touching) → is_some o ≡ false → o ≡ None
untouched None e = refl
untouched (Some x) e = absurd cc

reached_at : (l : List Reached) (f level : ℕ) → table_in l ≡ f → fill.level_in l ≡ level → 1 ≤ level → (above : List Reached) × (l ≡ record { table = f; level = level } ∷ above)
reached_at [] f level t e low = absurd (omega arith)
reached_at (x ∷ xs) f level t e low = (xs, λ k. record { table = t k; level = e k } ∷ xs)

pub may_load : (v : PortValue) (f : Flight) (i : ℕ) → WalkReady v → flown v.holdings.walk ≡ Some f → f.touching ≡ false → 1 ≤ f.level → IsTrue (is_walked f.level i) → (walk : Walk) × MayWalkOn f.table i walk v.holdings
may_load v f i r e free low walked =
    let w = walks v.holdings f e in
    let at = reached_at w.walk.reached f.table f.level (ap (λ (x : Flight). x.table) w.is) (ap (λ (x : Flight). x.level) w.is) low in (
      w.walk,
      record {
        flying = w.flying;
        touched = untouched w.walk.touching (ap (λ (x : Flight). x.touching) w.is ∙ free);
        level = f.level;
        above = at.0;
        reached = at.1;
        walked = walked;
        warm = r.warm;
      },
    )

third : (n : Machine) (f i w : ℕ) (walk : Walk) (h : Holdings) → is_bit 0 w ≡ true → (touched walk w == w) ≡ false →
    (fill.loaded n f i w walk h).walk ≡ Some (record walk { touching = Some (record { frame = f; index = i; word = w }) })
third n f i w walk h bit differs = rw (bit, differs) refl

-- ---- an entry was loaded
module _ (v u : PortValue) (f : Flight) (i x : ℕ) (flying : flown v.holdings.walk ≡ Some f) (load : Moves v u (Cell f.table i) Load kinds.Fill None x)
    (hand : Turned v u (gone_on v.post.machine.frames i x (flown v.holdings.walk) (translating v.holdings))) where
  pub seen_now : Turned v u (seen v.post.machine.frames (with_entry i x f) x (translating v.holdings))
  seen_now = turned_as v u _ _ (ap (λ o. gone_on v.post.machine.frames i x o (translating v.holdings)) flying) hand

  walk_is : u.holdings.walk ≡ (walked_on v.post.machine f.table i x v.holdings.walk v.holdings).walk
  walk_is = ap (λ (q : PortValue). q.holdings.walk) load.to

  may_touch : is_bit 0 x ≡ true → touched_in (with_entry i x f) x ≢ x → (walk : Walk) × MayTouch f.table i x (touched_in (with_entry i x f) x) walk u.holdings
  may_touch bit differs =
      let ws = walks v.holdings f flying in
      let new_is : touched_in (with_entry i x f) x ≡ touched (walked_by i x ws.walk) x = ap (λ (y : Flight). touched_in (with_entry i x y) x) (sym ws.is) in
      let no_bits : (touched (walked_by i x ws.walk) x == x) ≡ false = not_equal _ x (λ (same : touched (walked_by i x ws.walk) x ≡ x). differs (new_is ∙ same)) in (
        _,
        record {
          flying = walk_is ∙ ap (λ o. (walked_on v.post.machine f.table i x o v.holdings).walk) ws.flying ∙ third v.post.machine f.table i x (walked_by i x ws.walk) v.holdings bit no_bits;
          needed = refl;
          left = new_is;
        },
      )

  pub seen_is : translating u.holdings ≡ seen u.post.machine.frames (with_entry i x f) x (translating v.holdings)
  seen_is = turned_is v u _ seen_now ∙ ap (λ (p : Post). seen p.machine.frames (with_entry i x f) x (translating v.holdings)) (sym (turned_post v u _ hand))

  pub sees : is_bit 0 x ≡ true → Sees u f i x
  sees bit = record { before = translating v.holdings; present = bit; is = seen_is; may = may_touch bit }

  absent : (frames : ℕ) (g : Flight) (t : Translating) → is_bit 0 x ≡ false → seen frames g x t ≡ landed t
  absent frames g t b = rw b refl

-- ---- the bits are set
has_bits : (frames : ℕ) (f : Flight) (w x : ℕ) (t : Translating) → is_bit 0 w ≡ true → x ≡ w → (if not (is_bit 0 w) then landed t else if x == w then walk_below frames f w t else record t { flight = Some (record f { touching = true }) }) ≡ walk_below frames f x t
has_bits frames f w x t b s = let eq : (x == w) ≡ true = equal x w s in rw (b, eq) (ap (λ y. walk_below frames f y t) (sym s))

to_touch : (frames : ℕ) (f : Flight) (w : ℕ) (t : Translating) → is_bit 0 w ≡ true → (touched_in f w == w) ≡ false → seen frames f w t ≡ record t { flight = Some (record f { touching = true }) }
to_touch frames f w t bit differs = rw (bit, differs) refl

-- a flight that is to touch, and one that is not, go the same way down
below_same : (frames : ℕ) (f : Flight) (x : ℕ) (t : Translating) (o : Option Flight) → walk_below frames (record f { touching = true }) x (record t { flight = o }) ≡ walk_below frames f x t
below_same frames f x t o = by (nat_lt (frame_of x) frames) (f.level == 1)
  where
    by : (a b : Bool) →
        (if not a then landed (record t { flight = o }) else if b then (record { items = cached_with (item_in f x) t.items; flight = None }) else record t { flight = Some (record f { touching = false; table = frame_of x; level = f.level - 1 }) }) ≡
        (if not a then landed t else if b then (record { items = cached_with (item_in f x) t.items; flight = None }) else record t { flight = Some (record f { touching = false; table = frame_of x; level = f.level - 1 }) })
    by false b = refl
    by true true = refl
    by true false = refl

module _ (v w : PortValue) (f : Flight) (i x y : ℕ) (is : y ≡ touched_in (with_entry i x f) x) (sees : Sees v f i x) where
  pub set_stands : y ≡ x → BitsSet v v f i x
  set_stands same t e =
      turned_self v _ (e ∙ has_bits v.post.machine.frames (with_entry i x f) x (touched_in (with_entry i x f) x) t sees.present (sym is ∙ same))

  pub set_may : y ≢ x → (walk : Walk) × MayTouch f.table i x y walk v.holdings
  set_may off = subst (λ z. (walk : Walk) × MayTouch f.table i x z walk v.holdings) (sym is) (sees.may (λ e. off (is ∙ e)))

  now_is : y ≢ x → (t : Translating) → translating v.holdings ≡ seen v.post.machine.frames (with_entry i x f) x t →
      translating v.holdings ≡ record t { flight = Some (record (with_entry i x f) { touching = true }) }
  now_is off t e = e ∙ to_touch v.post.machine.frames (with_entry i x f) x t sees.present (not_equal _ x (λ (s : touched_in (with_entry i x f) x ≡ x). off (is ∙ s)))

  pub set_hand : y ≢ x → (r : Result (Unit {0}) ℕ) →
      MatchResult r (λ done. Turned v w (set_bits v.post.machine.frames true y (flown v.holdings.walk) (translating v.holdings))) (λ found. Turned v w (landed (translating v.holdings))) →
      MatchResult r (λ done. BitsSet v w f i x) (λ found. BitsLost v w f i x)
  set_hand off (Ok done) a = λ t e.
      turned_as v w _ _
      (ap (λ z. set_bits v.post.machine.frames true z (translating v.holdings).flight (translating v.holdings)) is
      ∙ ap (λ (u : Translating). set_bits v.post.machine.frames true (touched_in (with_entry i x f) x) u.flight u) (now_is off t e)
      ∙ below_same v.post.machine.frames (with_entry i x f) (touched_in (with_entry i x f) x) t (Some (record (with_entry i x f) { touching = true }))) a
  set_hand off (Err found) a = λ t e. turned_as v w _ _ (ap (λ (u : Translating). landed u) (now_is off t e)) a

  pub set_moves : y ≢ x → (r : Result (Unit {0}) ℕ) → Moves v w (Cell f.table i) (Cas x y) kinds.Touch None (found_by x r) → (IfErr r (λ found. found ≢ x)) → TouchMoves v w f.table i x y r
  set_moves off (Ok tt) m other = set off m
  set_moves off (Err found) m other = lost found off other m

-- ---- the entry as a whole
unneeded : (b : Bool) (x y : ℕ) → y ≡ x → (b && not (y == x)) ≡ false
unneeded true x y e = rw (equal y x e) refl
unneeded false x y e = refl

both_bits : (b c : Bool) → b ≡ true → c ≡ false → (b && not c) ≡ true
both_bits b c e f = rw (e, f) refl

pub entry_met : (v u w : PortValue) (table i x y : ℕ) → Moves v u (Cell table i) Load kinds.Fill None x → is_bit 0 x ≡ true → TouchMoves u w table i x y (Ok tt) → EntryMoves v w table i x y x
entry_met v u w table i x y m bit (stands same stay) = alone (unneeded (is_bit 0 x) x y same) refl (subst (λ q. Moves v q (Cell table i) Load kinds.Fill None x) (sym stay) m)
entry_met v u w table i x y m bit (set off k) = both u (both_bits (is_bit 0 x) (y == x) bit (not_equal y x off)) m k

pub entry_missed : (v u w : PortValue) (table i x y found : ℕ) → Moves v u (Cell table i) Load kinds.Fill None x → is_bit 0 x ≡ true → TouchMoves u w table i x y (Err found) →
    EntryMoves v w table i x y found × (y ≢ x) × (found ≢ x)
entry_missed v u w table i x y found m bit (lost z off other k) = (both u (both_bits (is_bit 0 x) (y == x) bit (not_equal y x off)) m k, off, other)

pub unmapped_past : (n : Machine) (x : ℕ) → n.frames ≤ frame_of x → is_unmapped n x ≡ true
unmapped_past n x past = by (is_bit 0 x) (let e : nat_lt (frame_of x) n.frames ≡ false = grind (arith, nat_tests) in e)
  where
    by : (b : Bool) → nat_lt (frame_of x) n.frames ≡ false → (not b || not (nat_lt (frame_of x) n.frames)) ≡ true
    by true e = rw e refl
    by false e = refl

pub mapped_in : (n : Machine) (x : ℕ) → is_bit 0 x ≡ true → frame_of x < n.frames → is_unmapped n x ≡ false
mapped_in n x bit inside = let e : nat_lt (frame_of x) n.frames ≡ true = grind (arith, nat_tests) in rw (bit, e) refl

-- the bits do not stand in the number of the frame
bit_frame : (j w : ℕ) → (j ≡ 5) ⊎ (j ≡ 6) → frame_of (with_bit j w) ≡ frame_of w
bit_frame j w (inl e) = rw e (grind (arith, nat_tests))
bit_frame j w (inr e) = rw e (grind (arith, nat_tests))

pub same_frame : (f : Flight) (w : ℕ) → frame_of (touched_in f w) ≡ frame_of w
same_frame f w = by (f.write && (f.writable && (f.level == 1)))
  where
    by : (b : Bool) → frame_of (if b then with_bit 6 (with_bit 5 w) else with_bit 5 w) ≡ frame_of w
    by true = bit_frame 6 (with_bit 5 w) (inr refl) ∙ bit_frame 5 w (inl refl)
    by false = bit_frame 5 w (inl refl)

below_out : (frames : ℕ) (f : Flight) (x : ℕ) (t : Translating) → frames ≤ frame_of x → walk_below frames f x t ≡ landed t
below_out frames f x t past = let e : nat_lt (frame_of x) frames ≡ false = grind (arith, nat_tests) in rw e refl

module _ (v u w : PortValue) (f : Flight) (i x : ℕ) (flying : flown v.holdings.walk ≡ Some f) (load : Moves v u (Cell f.table i) Load kinds.Fill None x)
    (hand : Turned v u (gone_on v.post.machine.frames i x (flown v.holdings.walk) (translating v.holdings))) where
  pub lost_to : BitsLost u w f i x → Turned v w (landed (translating v.holdings))
  lost_to gone = turned_then v u w _ _ hand (gone (translating v.holdings) (seen_is v u f i x flying load hand))

  pub set_to : BitsSet u w f i x → Turned v w (walk_below v.post.machine.frames (with_entry i x f) (touched_in (with_entry i x f) x) (translating v.holdings))
  set_to bits =
      turned_as v w _ _ (ap (λ (p : Post). walk_below p.machine.frames (with_entry i x f) (touched_in (with_entry i x f) x) (translating v.holdings)) (turned_post v u _ hand))
      (turned_then v u w _ _ hand (bits (translating v.holdings) (seen_is v u f i x flying load hand)))

  pub past_to : BitsSet u w f i x → v.post.machine.frames ≤ frame_of x → Turned v w (landed (translating v.holdings))
  past_to bits past =
      turned_as v w _ _ (below_out v.post.machine.frames (with_entry i x f) _ (translating v.holdings) (subst (λ k. v.post.machine.frames ≤ k) (sym (same_frame (with_entry i x f) x)) past)) (set_to bits)
