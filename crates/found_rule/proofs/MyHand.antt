-- What the vCPU that acts knows of its hand: from what it knows of the hand that the act leaves, before it learns of the word.
use Rattle.std.proofs.Common.{◌≡◌, ℕ, suc, ◌+◌, ◌<◌, ◌≤◌, ◌==◌, ◌&&◌, if◌then◌else◌, Bool, true, false, length, Some, IsTrue, refl, sym, ap, subst, ◌∙◌, ◌⊎◌, inl, inr, arith}
use Rattle.std.proofs.lemmas.Bool.{cases_lt, eqb-true, and_parts}
use Rattle.xp_words.specs.declared.kind.PageType.TheVariants as kinds
use Rattle.xp_words.specs.KindWords.{kind_fields}
use Rattle.xp_words.specs.Machine.{Machine}
use Rattle.xp_words.specs.declared.place.Place.{Place}
use Rattle.xp_words.specs.declared.place.Place.TheVariants.{Refs, Kind, Cell}
use Rattle.xp_words.specs.Places.{Sizes, sizes_of, flushed_of}
use Rattle.xp_board.specs.declared.holdings.Work.{Work}
use Rattle.xp_board.specs.declared.holdings.Claimed.{Claimed}
use Rattle.xp_board.specs.declared.holdings.Holdings.{Holdings}
use Rattle.xp_board.specs.Lists.{EachOf}
use Rattle.xp_board.specs.Readings.{is_type, domain_of}
use Rattle.xp_board.specs.Hands.{works_on, endings_of, claims_of}
use Rattle.xp_board.specs.After.{is_fixed, counts_fixed, learned_work, learned_lock, learned_claim, learned_last}
use Rattle.xp_board.specs.Found.{WorkFound, LockFound, EndingFound, ClaimFound}
use Rattle.xp_board.specs.Sound.{Sound, WorkAgrees}
use Rattle.found_rule.proofs.Growth.{Grown, added}
use Rattle.found_rule.proofs.Learning.{CellsLearned, cells_off, cells_at, Act}
use Rattle.found_rule.proofs.Words.{Words}
use Rattle.found_rule.proofs.KnownFacts.{RefRight, TypedRight, LockRight}
use Rattle.found_rule.proofs.SoundWords.{work_counted}
use Rattle.found_rule.proofs.HandFacts.{ReachKept, my_work, my_lock, my_claim}
use Rattle.found_rule.proofs.FoundLaw.{Mine, refs_kept, typed_kept, locks_kept}
use Rattle.xp_board.proofs.HandLists.{EachOf-map}
use Rattle.xp_board.proofs.ListCounts.{EachOf-both, EachOf-there}
use Rattle.xp_board.proofs.ListChanges.{EachOf-changes}
use Rattle.xp_board.proofs.Works.{is_busy-mine}
use Rattle.xp_board.proofs.Sums.{either}

-- ---- what is learned of the word of one cell
fixed_if : (m2 : Place → ℕ) (f i w bound : ℕ) (t b : Bool) → b ≡ (t && ((i == bound) && is_fixed w)) → m2 (Cell f i) ≡ w →
    ((j : ℕ) → j < bound → IsTrue (is_fixed (m2 (Cell f j)))) → (j : ℕ) → j < (if b then bound + 1 else bound) → IsTrue (is_fixed (m2 (Cell f j)))
fixed_if m2 f i w bound t true e now h j l =
    let o = and_parts t ((i == bound) && is_fixed w) (sym e) in
    let p = and_parts (i == bound) (is_fixed w) o.1 in
    let q = eqb-true i bound p.0 in
    elim (cases_lt j bound) [ inl below ↦ h j below | inr above ↦ (let r : i ≡ j = omega arith in rw (← r, now) p.1) ]
fixed_if m2 f i w bound t false e now h j l = h j l

scrubbed_if : (m2 : Place → ℕ) (f i w bound : ℕ) (b : Bool) → b ≡ ((i == bound) && (w == 0)) → m2 (Cell f i) ≡ w →
    ((j : ℕ) → j < bound → m2 (Cell f j) ≡ 0) → (j : ℕ) → j < (if b then bound + 1 else bound) → m2 (Cell f j) ≡ 0
scrubbed_if m2 f i w bound true e now h j l =
    let p = and_parts (i == bound) (w == 0) (sym e) in
    let q = eqb-true i bound p.0 in
    elim (cases_lt j bound) [ inl below ↦ h j below | inr above ↦ (let r : i ≡ j = omega arith in rw (← r) (now ∙ eqb-true w 0 p.1)) ]
scrubbed_if m2 f i w bound false e now h j l = h j l

learned_work_law : (n : Machine) (m2 : Place → ℕ) (h2 : ℕ → Holdings) (b : Holdings) (f i : ℕ) (e : Work) → e.frame ≡ f → WorkFound n m2 h2 b e → WorkFound n m2 h2 b (learned_work i (m2 (Cell f i)) e)
learned_work_law n m2 h2 b f i e at c =
    let w = m2 (Cell f i) in
    either (λ x. WorkFound n m2 h2 b x) (kind_fields e.word).unflushed e
    (record e {
      seen = Some (record { index = i; word = w });
      unsettled = learned_last i e.recorded w e.unsettled;
      fixed = if counts_fixed i w e then e.fixed + 1 else e.fixed;
    })
    c
    (record {
      word = c.word;
      cells = c.cells;
      fixed = λ j l. fixed_if m2 e.frame i w e.fixed (is_type (kind_fields e.word).kind kinds.Desc) (counts_fixed i w e) refl (ap (λ x. m2 (Cell x i)) at) c.fixed j l;
      passed = c.passed;
    })

learned_claim_law : (z : Sizes) (m2 : Place → ℕ) (d : ℕ) (b : Holdings) (f i : ℕ) (e : Claimed) → e.frame ≡ f → ClaimFound z m2 d b e → ClaimFound z m2 d b (learned_claim i (m2 (Cell f i)) e)
learned_claim_law z m2 d b f i e at c =
    record {
      word = c.word;
      stamp = c.stamp;
      cells = c.cells;
      scrubbed = λ j l. scrubbed_if m2 e.frame i (m2 (Cell f i)) e.scrubbed ((i == e.scrubbed) && (m2 (Cell f i) == 0)) refl (ap (λ x. m2 (Cell x i)) at) c.scrubbed j l;
    }

-- ---- from the hand that the act leaves
pub record HandRight (n : Machine) (s : ℕ) (m m2 : Place → ℕ) (b c : ℕ → Holdings) (u : Holdings) : Type 0 where
  pub refs : EachOf (RefRight (sizes_of n) m2 (c s).steps) u.refs
  pub typed : EachOf (TypedRight (sizes_of n) m2 (c s).steps) u.typed
  pub lock_right : EachOf (LockRight (sizes_of n) m2 (c s).steps) u.locks
  pub works : EachOf (WorkFound n m2 c (c s)) u.works
  pub locks : EachOf (LockFound (sizes_of n) m2 (c s)) u.locks
  pub endings : EachOf (EndingFound m2) u.ending
  pub claims : EachOf (ClaimFound (sizes_of n) m2 (domain_of n s) (c s)) u.claimed
  pub acked : ((m2 (flushed_of s) ≡ m (flushed_of s)) × (u.acked ≡ (b s).acked)) ⊎ (suc (length (b s).steps) ≤ u.acked)

module _ (n : Machine) (s : ℕ) (p : Place) (m m2 : Place → ℕ) (b c : ℕ → Holdings) (u : Holdings) (acted : Act n s p m m2 (b s) u (c s)) where
  works_by : CellsLearned p (m2 p) u (c s) → EachOf (WorkFound n m2 c (c s)) u.works → EachOf (WorkFound n m2 c (c s)) (c s).works
  works_by (cells_off o w k d) t = subst (λ x. EachOf (WorkFound n m2 c (c s)) x) (sym w) t
  works_by (cells_at f i at w k d) t =
      subst (λ x. EachOf (WorkFound n m2 c (c s)) x) (sym w)
      (EachOf-changes (WorkFound n m2 c (c s)) (WorkFound n m2 c (c s)) (λ e. e.frame) f (learned_work i (m2 p)) u.works
      (λ e is h. subst (λ q. WorkFound n m2 c (c s) (learned_work i (m2 q) e)) (sym at) (learned_work_law n m2 c (c s) f i e is h)) (λ e h. h) t)

  lock_right_by : CellsLearned p (m2 p) u (c s) → EachOf (LockRight (sizes_of n) m2 (c s).steps) u.locks → EachOf (LockRight (sizes_of n) m2 (c s).steps) (c s).locks
  lock_right_by (cells_off o w k d) t = subst (λ x. EachOf (LockRight (sizes_of n) m2 (c s).steps) x) (sym k) t
  lock_right_by (cells_at f i at w k d) t =
      subst (λ x. EachOf (LockRight (sizes_of n) m2 (c s).steps) x) (sym k)
      (EachOf-changes (LockRight (sizes_of n) m2 (c s).steps) (LockRight (sizes_of n) m2 (c s).steps) (λ e. e.frame) f (learned_lock i (m2 p)) u.locks
      (λ e is h. record { owner = h.owner; live = h.live }) (λ e h. h) t)

  locks_by : CellsLearned p (m2 p) u (c s) → EachOf (LockFound (sizes_of n) m2 (c s)) u.locks → EachOf (LockFound (sizes_of n) m2 (c s)) (c s).locks
  locks_by (cells_off o w k d) t = subst (λ x. EachOf (LockFound (sizes_of n) m2 (c s)) x) (sym k) t
  locks_by (cells_at f i at w k d) t =
      subst (λ x. EachOf (LockFound (sizes_of n) m2 (c s)) x) (sym k)
      (EachOf-changes (LockFound (sizes_of n) m2 (c s)) (LockFound (sizes_of n) m2 (c s)) (λ e. e.frame) f (learned_lock i (m2 p)) u.locks (λ e is h. h) (λ e h. h) t)

  claims_by : CellsLearned p (m2 p) u (c s) → EachOf (ClaimFound (sizes_of n) m2 (domain_of n s) (c s)) u.claimed → EachOf (ClaimFound (sizes_of n) m2 (domain_of n s) (c s)) (c s).claimed
  claims_by (cells_off o w k d) t = subst (λ x. EachOf (ClaimFound (sizes_of n) m2 (domain_of n s) (c s)) x) (sym d) t
  claims_by (cells_at f i at w k d) t =
      subst (λ x. EachOf (ClaimFound (sizes_of n) m2 (domain_of n s) (c s)) x) (sym d)
      (EachOf-changes (ClaimFound (sizes_of n) m2 (domain_of n s) (c s)) (ClaimFound (sizes_of n) m2 (domain_of n s) (c s)) (λ e. e.frame) f (learned_claim i (m2 p)) u.claimed
      (λ e is h. subst (λ q. ClaimFound (sizes_of n) m2 (domain_of n s) (c s) (learned_claim i (m2 q) e)) (sym at) (learned_claim_law (sizes_of n) m2 (domain_of n s) (c s) f i e is h)) (λ e h. h) t)

  acks_by : ((m2 (flushed_of s) ≡ m (flushed_of s)) × (u.acked ≡ (b s).acked)) ⊎ (suc (length (b s).steps) ≤ u.acked) →
      ((m2 (flushed_of s) ≡ m (flushed_of s)) × ((c s).acked ≡ (b s).acked)) ⊎ (length (c s).steps ≤ (c s).acked)
  acks_by (inl same) = inl (same.0, acted.learned.acked ∙ same.1)
  acks_by (inr now) = inr (let a = acted.learned.acked in let k : length (c s).steps ≡ suc (length (b s).steps) = ap length acted.steps in omega arith)

  pub mine_by : HandRight n s m m2 b c u → Mine n s p m m2 b c u
  mine_by h =
      record {
        act = acted;
        known = record {
          refs = subst (λ xs. EachOf (RefRight (sizes_of n) m2 (c s).steps) xs) (sym acted.learned.refs) h.refs;
          typed = subst (λ xs. EachOf (TypedRight (sizes_of n) m2 (c s).steps) xs) (sym acted.learned.typed) h.typed;
          locks = lock_right_by acted.learned.cells h.lock_right;
        };
        works = works_by acted.learned.cells h.works;
        locks = locks_by acted.learned.cells h.locks;
        endings = subst (λ xs. EachOf (EndingFound m2) xs) (sym acted.learned.ending) h.endings;
        claims = claims_by acted.learned.cells h.claims;
        acked = acks_by h.acked;
      }

  -- ---- what the hand had before the act
  module _ (l : s < (sizes_of n).vcpus) (sound : Sound n m b) (words : Words n s m m2 b) (reach : ReachKept n m m2 b c) where
    more : Grown (sizes_of n) m m2 (b s).steps (c s).steps
    more = added acted.made p acted.added acted.steps

    pub refs_old : EachOf (RefRight (sizes_of n) m2 (c s).steps) (b s).refs
    unfolding more
    refs_old = refs_kept n m m2 b sound words.moves s l (c s) more

    pub typed_old : EachOf (TypedRight (sizes_of n) m2 (c s).steps) (b s).typed
    unfolding more
    typed_old = typed_kept n m m2 b sound words.moves s l (c s) more

    pub lock_right_old : EachOf (LockRight (sizes_of n) m2 (c s).steps) (b s).locks
    unfolding more
    lock_right_old = locks_kept n m m2 b sound words.moves s l (c s) more

    pub works_old : EachOf (λ e. (i : ℕ) → p ≡ Cell e.frame i → i < e.fixed → IsTrue (is_fixed (m2 p))) (b s).works →
        EachOf (λ e. m2 (Kind e.frame) ≡ m (Kind e.frame) → WorkFound n m2 c (c s) e) (b s).works
    unfolding more
    works_old fix =
        EachOf-there (λ e. WorkFound n m b (b s) e × (WorkAgrees (b s) e × ((i : ℕ) → p ≡ Cell e.frame i → i < e.fixed → IsTrue (is_fixed (m2 p)))))
        (λ e. m2 (Kind e.frame) ≡ m (Kind e.frame) → WorkFound n m2 c (c s) e) (λ e. e.frame) (b s).works
        (λ e there old kept.
        my_work n m m2 b c sound.fresh.each reach words.moves.ever (b s) (c s) more acted.made p acted.added acted.others acted.steps e (is_busy-mine n m b sound.alone e.frame s l there)
        (words.moves.owner e.frame (work_counted n m b sound s l e there old.0 (old.1).0)) kept (old.1).1 old.0)
        (EachOf-both (WorkFound n m b (b s)) (λ e. WorkAgrees (b s) e × ((i : ℕ) → p ≡ Cell e.frame i → i < e.fixed → IsTrue (is_fixed (m2 p)))) (b s).works (sound.found s l).works
        (EachOf-both (WorkAgrees (b s)) (λ e. (i : ℕ) → p ≡ Cell e.frame i → i < e.fixed → IsTrue (is_fixed (m2 p))) (b s).works (sound.works s l) fix))

    pub locks_old : EachOf (LockFound (sizes_of n) m2 (c s)) (b s).locks
    locks_old =
        EachOf-map (LockFound (sizes_of n) m (b s)) (LockFound (sizes_of n) m2 (c s)) (b s).locks
        (λ e old. my_lock (sizes_of n) m m2 acted.made p acted.added acted.others (b s).steps (c s).steps acted.steps (b s) (c s) refl refl e old) (sound.found s l).locks

    pub endings_old : EachOf (λ e. m2 (Refs e.frame) ≡ m (Refs e.frame) → EndingFound m2 e) (b s).ending
    endings_old = EachOf-map (EndingFound m) (λ e. m2 (Refs e.frame) ≡ m (Refs e.frame) → EndingFound m2 e) (b s).ending (λ e old kept. kept ∙ old) (sound.found s l).endings

    pub claims_old : EachOf (λ e. (i : ℕ) → p ≡ Cell e.frame i → i < e.scrubbed → m2 p ≡ 0) (b s).claimed →
        EachOf (λ e. m2 (Refs e.frame) ≡ m (Refs e.frame) → ClaimFound (sizes_of n) m2 (domain_of n s) (c s) e) (b s).claimed
    claims_old zero =
        EachOf-map (λ e. ClaimFound (sizes_of n) m (domain_of n s) (b s) e × ((i : ℕ) → p ≡ Cell e.frame i → i < e.scrubbed → m2 p ≡ 0))
        (λ e. m2 (Refs e.frame) ≡ m (Refs e.frame) → ClaimFound (sizes_of n) m2 (domain_of n s) (c s) e) (b s).claimed
        (λ e old kept.
        my_claim (sizes_of n) m m2 acted.made p acted.added acted.others (b s).steps (c s).steps acted.steps (domain_of n s) (b s) (c s) refl refl words.moves.clock e kept old.1 old.0)
        (EachOf-both (ClaimFound (sizes_of n) m (domain_of n s) (b s)) (λ e. (i : ℕ) → p ≡ Cell e.frame i → i < e.scrubbed → m2 p ≡ 0) (b s).claimed (sound.found s l).claims zero)

    -- where the act moves nothing
    pub hand_old : ((f : ℕ) → 0 < works_on f (b s).works → m2 (Kind f) ≡ m (Kind f)) → ((f : ℕ) → 0 < endings_of f (b s).ending + claims_of f (b s).claimed → m2 (Refs f) ≡ m (Refs f)) →
        EachOf (λ e. (i : ℕ) → p ≡ Cell e.frame i → i < e.fixed → IsTrue (is_fixed (m2 p))) (b s).works → EachOf (λ e. (i : ℕ) → p ≡ Cell e.frame i → i < e.scrubbed → m2 p ≡ 0) (b s).claimed →
        m2 (flushed_of s) ≡ m (flushed_of s) → HandRight n s m m2 b c (b s)
    hand_old kinds words fix zero flushed =
        record {
          refs = refs_old;
          typed = typed_old;
          lock_right = lock_right_old;
          works = EachOf-there (λ e. m2 (Kind e.frame) ≡ m (Kind e.frame) → WorkFound n m2 c (c s) e) (WorkFound n m2 c (c s)) (λ e. e.frame) (b s).works
              (λ e there h. h (kinds e.frame there)) (works_old fix);
          locks = locks_old;
          endings = EachOf-there (λ e. m2 (Refs e.frame) ≡ m (Refs e.frame) → EndingFound m2 e) (EndingFound m2) (λ e. e.frame) (b s).ending
              (λ e there h. h (words e.frame (omega arith))) endings_old;
          claims = EachOf-there (λ e. m2 (Refs e.frame) ≡ m (Refs e.frame) → ClaimFound (sizes_of n) m2 (domain_of n s) (c s) e) (ClaimFound (sizes_of n) m2 (domain_of n s) (c s)) (λ e. e.frame) (b s).claimed
              (λ e there h. h (words e.frame (omega arith))) (claims_old zero);
          acked = inl (flushed, refl);
        }

    -- where it moves none of these lists
    pub hand_with : u.refs ≡ (b s).refs → u.typed ≡ (b s).typed → u.works ≡ (b s).works → u.locks ≡ (b s).locks → u.ending ≡ (b s).ending → u.claimed ≡ (b s).claimed →
        ((f : ℕ) → m2 (Kind f) ≡ m (Kind f)) → ((f : ℕ) → m2 (Refs f) ≡ m (Refs f)) →
        EachOf (λ e. (i : ℕ) → p ≡ Cell e.frame i → i < e.fixed → IsTrue (is_fixed (m2 p))) (b s).works → EachOf (λ e. (i : ℕ) → p ≡ Cell e.frame i → i < e.scrubbed → m2 p ≡ 0) (b s).claimed →
        ((m2 (flushed_of s) ≡ m (flushed_of s)) × (u.acked ≡ (b s).acked)) ⊎ (suc (length (b s).steps) ≤ u.acked) → HandRight n s m m2 b c u
    hand_with refs typed works locks ending claimed kinds words fix zero acks =
        let z = sizes_of n in
        record {
          refs = subst (λ xs. EachOf (RefRight z m2 (c s).steps) xs) (sym refs) refs_old;
          typed = subst (λ xs. EachOf (TypedRight z m2 (c s).steps) xs) (sym typed) typed_old;
          lock_right = subst (λ xs. EachOf (LockRight z m2 (c s).steps) xs) (sym locks) lock_right_old;
          works = subst (λ xs. EachOf (WorkFound n m2 c (c s)) xs) (sym works)
              (EachOf-map (λ e. m2 (Kind e.frame) ≡ m (Kind e.frame) → WorkFound n m2 c (c s) e) (WorkFound n m2 c (c s)) (b s).works (λ e h. h (kinds e.frame)) (works_old fix));
          locks = subst (λ xs. EachOf (LockFound z m2 (c s)) xs) (sym locks) locks_old;
          endings = subst (λ xs. EachOf (EndingFound m2) xs) (sym ending)
              (EachOf-map (λ e. m2 (Refs e.frame) ≡ m (Refs e.frame) → EndingFound m2 e) (EndingFound m2) (b s).ending (λ e h. h (words e.frame)) endings_old);
          claims = subst (λ xs. EachOf (ClaimFound z m2 (domain_of n s) (c s)) xs) (sym claimed)
              (EachOf-map (λ e. m2 (Refs e.frame) ≡ m (Refs e.frame) → ClaimFound z m2 (domain_of n s) (c s) e) (ClaimFound z m2 (domain_of n s) (c s)) (b s).claimed (λ e h. h (words e.frame)) (claims_old zero));
          acked = acks;
        }
