-- Steps of the own walk: what it comes to, it came to before, or the base serves.
use Rattle.std.proofs.Common.{◌≡◌, ◌≢◌, ℕ, zero, suc, ◌+◌, ◌-◌, ◌<◌, ◌≤◌, ◌==◌, not, nat_lt, if◌then◌else◌, Bool, true, false, List, [], ◌∷◌, length, take, Option, Some, None, IsTrue, refl, sym, ap, subst, inl, inr, arith}
use Rattle.std.proofs.lemmas.Bool.Decides.{nat_tests}
use Rattle.xp_words.specs.Entries.{is_bit, frame_of}
use Rattle.xp_words.specs.Machine.{Machine}
use Rattle.xp_words.specs.declared.place.Place.{Place}
use Rattle.xp_words.specs.declared.place.Place.TheVariants.{Cell}
use Rattle.xp_words.specs.Places.{sizes_of}
use Rattle.xp_board.specs.declared.step.Item.{Item}
use Rattle.xp_board.specs.declared.holdings.Reached.{Reached}
use Rattle.xp_board.specs.declared.holdings.Walk.{Walk}
use Rattle.xp_board.specs.declared.holdings.Holdings.{Holdings}
use Rattle.xp_board.specs.Lists.{Member}
use Rattle.xp_board.specs.FillSteps.{is_walked, descended, item_of, cached_with, level_of, level_in}
use Rattle.xp_board.specs.Reach.{Table, use_of, reached_by, cached, walked}
use Rattle.xp_board.specs.WellFormed.{IsDescent, IsWalkFormed, IsCacheFormed}
use Rattle.xp_board.specs.Sound.{Sound}
use Rattle.found_rule.proofs.Serving.{Came}
use Rattle.found_rule.proofs.RestLaw.{Rest}
use Rattle.xp_board.proofs.CellAlike.{CellAlike}
use Rattle.xp_board.proofs.WalkDown.{cached_comes, deeper_comes}

length_take : {A : Type 0} (n : ℕ) (xs : List A) → length (take n xs) ≤ n
length_take zero xs = omega arith
length_take (suc n) [] = omega arith
length_take (suc n) (x ∷ xs) = let k = length_take n xs in omega arith

-- ---- a hand in which only the walk and the cache moved, and what they hold is come to
pub record WalkHand (n : Machine) (m : Place → ℕ) (b : ℕ → Holdings) (s : ℕ) (u : Holdings) : Type 0 where
  pub rest : Rest (b s) u
  pub refs : u.refs ≡ (b s).refs
  pub typed : u.typed ≡ (b s).typed
  pub steps : u.steps ≡ (b s).steps
  pub run : u.run ≡ (b s).run
  pub old0 : u.old0 ≡ (b s).old0
  pub old1 : u.old1 ≡ (b s).old1
  pub items : (x : Item) → Member x u.cache → Came n m b s x.frame (use_of x)
  pub tables : (x : Reached) → Member x (reached_by u.walk) → Came n m b s x.table (Table x.level)
  pub formed : IsCacheFormed u

module _ (n : Machine) (m : Place → ℕ) (b : ℕ → Holdings) (s : ℕ) (l : s < (sizes_of n).vcpus) (sound : Sound n m b) where
  pub if_walk : (t : Bool) (y z : Holdings) → (t ≡ true → WalkHand n m b s y) → (t ≡ false → WalkHand n m b s z) → WalkHand n m b s (if t then y else z)
  if_walk true y z one two = one refl
  if_walk false y z one two = two refl

  pub walk_hand : (walk : Option Walk) (cache : List Item) → ((x : Item) → Member x cache → Came n m b s x.frame (use_of x)) →
      ((x : Reached) → Member x (reached_by walk) → Came n m b s x.table (Table x.level)) → length cache ≤ 64 → ((y : Walk) → walk ≡ Some y → IsWalkFormed y) →
      WalkHand n m b s (record (b s) { walk = walk; cache = cache })
  walk_hand walk cache items tables few formed =
      record {
        rest = record { works = refl; locks = refl; ending = refl; claimed = refl; raised = refl; looking = refl; cold = refl; turn = refl; acked = refl; ran = refl };
        refs = refl;
        typed = refl;
        steps = refl;
        run = refl;
        old0 = refl;
        old1 = refl;
        items = items;
        tables = tables;
        formed = record { few = few; walk = formed };
      }

  was : IsCacheFormed (b s)
  was = (sound.formed s l).cache

  none_there : (x : Reached) → Member x [] → ⊥
  unfolding Member
  none_there x e = e

  pub no_walk : WalkHand n m b s (record (b s) { walk = None })
  unfolding was
  no_walk = walk_hand None (b s).cache (λ x k. inl (cached x k)) (λ x k. absurd (none_there x k)) was.few (λ y e. absurd cc)

  pub same_walk : WalkHand n m b s (b s)
  unfolding was
  same_walk = walk_hand (b s).walk (b s).cache (λ x k. inl (cached x k)) (λ x k. inl (walked x k)) was.few was.walk

  -- ---- a walk goes down through an entry
  module _ (walk old : Walk) (f level i w : ℕ) (above : List Reached) (flying : (b s).walk ≡ Some old) (same : walk.reached ≡ old.reached)
      (reached : walk.reached ≡ record { table = f; level = level } ∷ above) (walks : IsTrue (is_walked level i)) (alike : CellAlike (m (Cell f i)) w)
      (present : is_bit 0 w ≡ true) (writable : walk.writable ≡ true → is_bit 1 w ≡ true) where
    level_here : level_of walk ≡ level
    level_here = ap level_in reached

    formed_was : IsWalkFormed old
    unfolding was
    formed_was = was.walk old flying

    -- the tables so far, from that level up
    descent_here : IsDescent level walk.reached × (1 ≤ level) × (level ≤ 4)
    unfolding formed_was
    descent_here =
        let d : IsDescent formed_was.level walk.reached = subst (λ xs. IsDescent formed_was.level xs) (sym same) formed_was.descent in
        let top : level ≡ formed_was.level = (subst (λ xs. IsDescent formed_was.level xs) reached d).0 in
        let lo = formed_was.low in
        let hi = formed_was.high in
        (subst (λ k. IsDescent k walk.reached) (sym top) d, omega arith, omega arith)

    deeper_formed : (level_of walk == 1) ≡ false → (y : Walk) →
        Some (record walk { reached = record { table = frame_of w; level = level_of walk - 1 } ∷ walk.reached; touching = None }) ≡ Some y → IsWalkFormed y
    unfolding descent_here level_here
    deeper_formed higher y e =
        let is : record walk { reached = record { table = frame_of w; level = level_of walk - 1 } ∷ walk.reached; touching = None } ≡ y = cc in
        let d = descent_here in
        let lo = d.1 in
        let hi = d.2 in
        let h = level_here in
        let off : level_of walk ≢ 1 = (λ at. absurd (let t : (level_of walk == 1) ≡ true = grind (arith, nat_tests) in cc)) in
        let next : level - 1 + 1 ≡ level = omega arith in
        subst IsWalkFormed is
        (record {
          level = level - 1;
          low = omega arith;
          high = omega arith;
          descent = (ap (λ k. k - 1) h, subst (λ k. IsDescent k walk.reached) (sym next) d.0);
          touching = tt;
        })

    cached_walk : frame_of w < (sizes_of n).frames → (level_of walk == 1) ≡ true → WalkHand n m b s (record (b s) { walk = None; cache = cached_with (item_of walk w) (b s).cache })
    cached_walk inside lowest =
        walk_hand None (cached_with (item_of walk w) (b s).cache)
        (cached_comes (sizes_of n) m (b s) (Came n m b s) (λ g u r. inl r) (λ g r. inr (inr refl)) walk old f level i w above flying same reached walks alike present inside writable lowest)
        (λ x k. absurd (none_there x k)) (length_take 64 (item_of walk w ∷ (b s).cache)) (λ y e. absurd cc)

    deeper_walk : frame_of w < (sizes_of n).frames → (level_of walk == 1) ≡ false →
        WalkHand n m b s (record (b s) { walk = Some (record walk { reached = record { table = frame_of w; level = level_of walk - 1 } ∷ walk.reached; touching = None }) })
    unfolding was
    deeper_walk inside higher =
        walk_hand (Some (record walk { reached = record { table = frame_of w; level = level_of walk - 1 } ∷ walk.reached; touching = None })) (b s).cache (λ k e. inl (cached k e))
        (deeper_comes (sizes_of n) m (b s) (Came n m b s) (λ g u r. inl r) (λ g r. inr (inr refl)) walk old f level i w above flying same reached walks alike present inside higher)
        was.few (deeper_formed higher)

    pub descends : WalkHand n m b s (descended n walk w (b s))
    unfolding cached_walk deeper_walk
    descends =
        if_walk (not (nat_lt (frame_of w) n.frames)) _ _ (λ out. no_walk)
        (λ inside.
        let within : frame_of w < (sizes_of n).frames = grind (arith, nat_tests) in
        if_walk (level_of walk == 1) _ _ (cached_walk within) (deeper_walk within))
