-- Acts on a kind word: what the vCPU knows of its references, locks and works after it.
use Rattle.std.proofs.Common.{◌≡◌, ◌≢◌, ℕ, suc, ◌+◌, ◌<◌, ◌≤◌, ◌==◌, ◌&&◌, nat_lt, not, true, false, List, length, Option, Some, None, IsTrue, refl, sym, ap, subst, inl, arith}
use Rattle.std.proofs.lemmas.Bool.{and_from, or_left}
use Rattle.std.proofs.lemmas.Bool.Decides.{nat_tests}
use Rattle.xp_words.specs.PageTypes.{is_table}
use Rattle.xp_words.specs.Machine.{Machine}
use Rattle.xp_words.specs.declared.place.Place.{Place}
use Rattle.xp_words.specs.declared.place.Place.TheVariants.{Refs, Kind, Cell, Priv}
use Rattle.xp_words.specs.Places.{Sizes, sizes_of, place_at, flushed_of, run_of}
use Rattle.xp_board.specs.declared.holdings.Made.{Made}
use Rattle.xp_board.specs.declared.holdings.Unsettled.{Unsettled}
use Rattle.xp_board.specs.declared.holdings.Reference.{Reference}
use Rattle.xp_board.specs.declared.holdings.TypedReference.{TypedReference}
use Rattle.xp_board.specs.declared.holdings.Lock.{Lock}
use Rattle.xp_board.specs.declared.holdings.Work.{Work}
use Rattle.xp_board.specs.declared.holdings.Holdings.{Holdings}
use Rattle.xp_board.specs.Lists.{EachOf}
use Rattle.xp_board.specs.Steps.{is_at, left_of, some_step, some_before}
use Rattle.xp_board.specs.Readings.{kind_at, domain_of, has_ever}
use Rattle.xp_board.specs.Hands.{works_on, ref_to, typed_on, lock_on, owner_by, owner_by_typed, owner_by_lock, owner_from, ref_owner, typed_owner, lock_owner}
use Rattle.xp_board.specs.KindSteps.{new_work}
use Rattle.xp_board.specs.Found.{WorkFound, LockFound, EndingFound, ClaimFound}
use Rattle.xp_board.specs.WellFormed.{LastIs, IsWorkFormed, IsLockFormed, IsLookingFormed}
use Rattle.xp_board.specs.Sound.{Sound}
use Rattle.xp_board.proofs.PlaceTests.{equal_refl, is_same-by}
use Rattle.found_rule.proofs.Growth.{Grown, added}
use Rattle.found_rule.proofs.Learning.{CellsLearned, cells_off, cells_at, Act}
use Rattle.found_rule.proofs.Words.{Words}
use Rattle.found_rule.proofs.KnownFacts.{OwnerRight, RefRight, TypedRight, LockRight}
use Rattle.found_rule.proofs.KnownStays.{owner_new}
use Rattle.found_rule.proofs.HandFacts.{ReachKept}
use Rattle.found_rule.proofs.MyHand.{works_old, endings_old, claims_old}
use Rattle.found_rule.proofs.Outcome.{outcome_by}
use Rattle.found_rule.proofs.FormedLaw.{works_formed_old, locks_formed_old, ending_formed_old, claimed_formed_old}
use Rattle.found_rule.proofs.Quiet.{Done, fix_kept, zero_kept, formed_with}
use Rattle.xp_board.proofs.HandLists.{EachOf-map, EachOf-first, first-key}
use Rattle.xp_board.proofs.ListCounts.{EachOf-there}
use Rattle.xp_board.proofs.MoreSteps.{none_last, none_since}

-- ---- what is known of the owner by the newest reference
module _ (z : Sizes) (m m2 : Place → ℕ) (xs ys : List Made) (g : Grown z m m2 xs ys) (f : ℕ) (h : Holdings) (long : length xs ≤ length h.steps) where
  ref_by : (o : Option Reference) → ref_to f h.refs ≡ o → EachOf (RefRight z m2 ys) h.refs → OwnerRight z m2 ys f (owner_by o (owner_from h))
  ref_by (Some e) q all = subst (λ y. OwnerRight z m2 ys y e.owner) (first-key (λ y. y.frame) f e h.refs q) (EachOf-first (RefRight z m2 ys) (λ y. y.frame) f e h.refs all q)
  ref_by None q all = owner_new z m m2 xs ys g f (length h.steps) long

  pub ref_owner_right : EachOf (RefRight z m2 ys) h.refs → OwnerRight z m2 ys f (ref_owner f h)
  ref_owner_right all = ref_by (ref_to f h.refs) refl all

  typed_by : (o : Option TypedReference) → typed_on f h.typed ≡ o → EachOf (TypedRight z m2 ys) h.typed → OwnerRight z m2 ys f (owner_by_typed o (owner_from h))
  typed_by (Some e) q all =
      subst (λ y. OwnerRight z m2 ys y e.owner) (first-key (λ y. y.frame) f e h.typed q) (EachOf-first (TypedRight z m2 ys) (λ y. y.frame) f e h.typed all q).owner
  typed_by None q all = owner_new z m m2 xs ys g f (length h.steps) long

  pub typed_owner_right : EachOf (TypedRight z m2 ys) h.typed → OwnerRight z m2 ys f (typed_owner f h)
  typed_owner_right all = typed_by (typed_on f h.typed) refl all

  lock_by : (o : Option Lock) → lock_on f h.locks ≡ o → EachOf (LockRight z m2 ys) h.locks → OwnerRight z m2 ys f (owner_by_lock o (owner_from h))
  lock_by (Some e) q all =
      subst (λ y. OwnerRight z m2 ys y e.owner) (first-key (λ y. y.frame) f e h.locks q) (EachOf-first (LockRight z m2 ys) (λ y. y.frame) f e h.locks all q).owner
  lock_by None q all = owner_new z m m2 xs ys g f (length h.steps) long

  pub lock_owner_right : EachOf (LockRight z m2 ys) h.locks → OwnerRight z m2 ys f (lock_owner f h)
  lock_owner_right all = lock_by (lock_on f h.locks) refl all

-- ---- the parts that no such act moves
pub record KindRest (a u : Holdings) : Type 0 where
  pub ending : u.ending ≡ a.ending
  pub claimed : u.claimed ≡ a.claimed
  pub raised : u.raised ≡ a.raised
  pub cache : u.cache ≡ a.cache
  pub walk : u.walk ≡ a.walk
  pub cold : u.cold ≡ a.cold
  pub turn : u.turn ≡ a.turn
  pub acked : u.acked ≡ a.acked
  pub ran : u.ran ≡ a.ran

-- what it leaves of the others
pub record KindHand (n : Machine) (s : ℕ) (m2 : Place → ℕ) (c : ℕ → Holdings) (u : Holdings) : Type 0 where
  pub refs : EachOf (RefRight (sizes_of n) m2 (c s).steps) u.refs
  pub typed : EachOf (TypedRight (sizes_of n) m2 (c s).steps) u.typed
  pub lock_right : EachOf (LockRight (sizes_of n) m2 (c s).steps) u.locks
  pub works : EachOf (WorkFound n m2 c (c s)) u.works
  pub locks : EachOf (LockFound (sizes_of n) m2 (c s)) u.locks

module _ (n : Machine) (s : ℕ) (m m2 : Place → ℕ) (b c : ℕ → Holdings) (l : s < (sizes_of n).vcpus) (sound : Sound n m b) (others : (t : ℕ) → t ≢ s → c t ≡ b t) (f : ℕ) (u : Holdings)
    (acted : Act n s (Kind f) m m2 (b s) u (c s)) (words : Words n s m m2 b) where
  cells : (g i : ℕ) → m2 (Cell g i) ≡ m (Cell g i)
  cells g i = acted.others (Cell g i) (λ e. cc)

  stay_by : CellsLearned (Kind f) (m2 (Kind f)) u (c s) → ((c s).works ≡ u.works) × ((c s).locks ≡ u.locks)
  stay_by (cells_off o w k d) = (w, k)
  stay_by (cells_at g i at w k d) = absurd (let q = at in cc)

  pub kind_done : KindRest (b s) u → (ReachKept n m m2 b c → KindHand n s m2 c u) → EachOf (IsWorkFormed n (c s)) u.works → EachOf (IsLockFormed n (c s)) u.locks →
      EachOf (IsLookingFormed n s) u.looking → Done n s m m2 b c
  unfolding cells
  kind_done rest hand works locks looking =
      let p = Kind f in
      let z = sizes_of n in
      let g = sound.formed s l in
      let same = stay_by acted.learned.cells in
      record {
        found = outcome_by n s p m m2 b c u acted others rest.cache rest.walk rest.cold rest.ran cells (λ v. acted.others (flushed_of v) (λ e. cc)) (λ v. acted.others (run_of v) (λ e. cc)) words
            (λ reach.
            let h = hand reach in
            record {
              refs = h.refs;
              typed = h.typed;
              lock_right = h.lock_right;
              works = h.works;
              locks = h.locks;
              endings = subst (λ xs. EachOf (EndingFound m2) xs) (sym rest.ending)
                  (EachOf-map (λ e. m2 (Refs e.frame) ≡ m (Refs e.frame) → EndingFound m2 e) (EndingFound m2) (b s).ending (λ e k. k (acted.others (Refs e.frame) (λ q. cc)))
                  (endings_old n s p m m2 b c u acted l sound words reach));
              claims = subst (λ xs. EachOf (ClaimFound z m2 (domain_of n s) (c s)) xs) (sym rest.claimed)
                  (EachOf-map (λ e. m2 (Refs e.frame) ≡ m (Refs e.frame) → ClaimFound z m2 (domain_of n s) (c s) e) (ClaimFound z m2 (domain_of n s) (c s)) (b s).claimed
                  (λ e k. k (acted.others (Refs e.frame) (λ q. cc))) (claims_old n s p m m2 b c u acted l sound words reach (zero_kept n s p m m2 b c u acted l sound cells)));
              acked = inl (acted.others (flushed_of s) (λ e. cc), rest.acked);
            });
        formed = formed_with n s p m m2 b c u acted l sound rest.turn rest.acked rest.ran rest.cache rest.walk (rw (rest.ending) (ending_formed_old n s p m m2 (b s) u (c s) acted g))
            (rw (rest.claimed) (claimed_formed_old n s p m m2 (b s) u (c s) acted g)) (record { held = λ y. rw (rest.raised, rest.ending, rest.claimed) (g.raised.held y) }) looking
            (subst (λ xs. EachOf (IsWorkFormed n (c s)) xs) (sym same.0) works) (subst (λ xs. EachOf (IsLockFormed n (c s)) xs) (sym same.1) locks);
      }

  -- ---- what the vCPU had
  pub kind_grown : Grown (sizes_of n) m m2 (b s).steps (c s).steps
  kind_grown = added acted.made (Kind f) acted.added acted.steps

  pub kind_works_found : ReachKept n m m2 b c → EachOf (λ e. m2 (Kind e.frame) ≡ m (Kind e.frame) → WorkFound n m2 c (c s) e) (b s).works
  unfolding cells
  kind_works_found reach = works_old n s (Kind f) m m2 b c u acted l sound words reach (fix_kept n s (Kind f) m m2 b c u acted l sound cells)

  pub kind_others : (e : Work) → e.frame ≢ f → m2 (Kind e.frame) ≡ m (Kind e.frame)
  kind_others e off = acted.others (Kind e.frame) (λ k. off (cc))

  -- where it has not that frame in work
  module _ (none : works_on f (b s).works ≡ 0) where
    pub kind_works_stay : ReachKept n m m2 b c → EachOf (WorkFound n m2 c (c s)) (b s).works
    kind_works_stay reach =
        EachOf-there (λ e. m2 (Kind e.frame) ≡ m (Kind e.frame) → WorkFound n m2 c (c s) e) (WorkFound n m2 c (c s)) (λ e. e.frame) (b s).works
        (λ e there h. h (kind_others e (λ at. let k = subst (λ y. 0 < works_on y (b s).works) at there in omega arith))) (kind_works_found reach)

  pub kind_works_formed : EachOf (IsWorkFormed n (c s)) (b s).works
  kind_works_formed = works_formed_old n s (Kind f) m m2 (b s) u (c s) acted (λ g i e. cc) (sound.formed s l)

  pub kind_locks_formed : EachOf (IsLockFormed n (c s)) (b s).locks
  kind_locks_formed = locks_formed_old n s (Kind f) m m2 (b s) u (c s) acted (λ g i e. cc) (sound.formed s l)

  -- ---- a frame that comes into work with this step
  module _ (recorded : ℕ) (unsettled : Option Unsettled) (h : Holdings) (same : h.steps ≡ (b s).steps) where
    abbrev new : Work
    new = new_work f (m2 (Kind f)) recorded unsettled h

    long : length h.steps ≡ length (b s).steps
    long = ap length same

    all : length (c s).steps ≡ suc (length (b s).steps)
    all = ap length acted.steps

    pub new_found : WorkFound n m2 c (c s) new
    new_found =
        let x = long in
        let y = all in
        record {
          word = refl;
          cells = λ t i w k. absurd (none_last (sizes_of n) (length h.steps + 1) (Cell f i) w (c s).steps (omega arith) k);
          fixed = λ i k. absurd (omega arith);
          passed = λ v o p marked r was other found past. absurd (let none = none_since (sizes_of n) (length h.steps + 1) (Priv (domain_of n v)) (λ w. not (has_ever o w)) (c s).steps (omega arith) in cc);
        }

    -- its kind word was left by this step
    clock_now : IsTrue (some_before (sizes_of n) (length h.steps + 1) (Kind f) (λ w. w == m2 (Kind f)) (c s).steps)
    unfolding some_step
    clock_now =
        let x = long in
        let o : nat_lt (length (b s).steps) (length h.steps + 1) ≡ true = grind (arith, nat_tests) in
        let p : is_at (sizes_of n) (Kind f) acted.made ≡ true = is_same-by (place_at (sizes_of n) acted.made.step.place) (Kind f) acted.added.place in
        let q : (left_of acted.made == m2 (Kind f)) ≡ true = rw (acted.added.left) (equal_refl (m2 (Kind f))) in
        subst (λ xs. IsTrue (some_before (sizes_of n) (length h.steps + 1) (Kind f) (λ w. w == m2 (Kind f)) xs)) (sym acted.steps)
        (or_left (nat_lt (length (b s).steps) (length h.steps + 1) && (is_at (sizes_of n) (Kind f) acted.made && (left_of acted.made == m2 (Kind f)))) _
        (and_from (nat_lt (length (b s).steps) (length h.steps + 1)) (is_at (sizes_of n) (Kind f) acted.made && (left_of acted.made == m2 (Kind f))) o
        (and_from (is_at (sizes_of n) (Kind f) acted.made) (left_of acted.made == m2 (Kind f)) p q)))

    pub new_formed : recorded ≤ 512 → (is_table (kind_at m2 f).kind ≡ false → recorded ≡ 0) → LastIs (sizes_of n) new (c s).steps unsettled →
        ((x : Unsettled) → unsettled ≡ Some x → (0 < recorded) × (x.since ≤ length (c s).steps)) → IsWorkFormed n (c s) new
    new_formed few table last since =
        let x = long in
        let y = all in
        record {
          recorded = few;
          none = table;
          marked = λ t. refl;
          seen = tt;
          last = last;
          unsettled = since;
          was_found = λ t. clock_now;
          fixed = λ k. absurd (omega arith);
          order = omega arith;
          past = omega arith;
        }
