-- What a vCPU knows of the frames in its hand alone: another vCPU's act spares them, and of its own it knows what it left.
use Rattle.std.proofs.Common.{◌≡◌, ◌≢◌, ℕ, ◌<◌, ◌≤◌, ◌==◌, not, if◌then◌else◌, Bool, true, false, List, ◌∷◌, Some, IsTrue, sym, ap, subst, ◌∙◌, ◌⊎◌, inl, inr, arith}
use Rattle.std.proofs.lemmas.Bool.{eqb-true, not-true, false_from_ne_true}
use Rattle.xp_words.specs.PageTypes.{is_table}
use Rattle.xp_words.specs.KindWords.{kind_fields}
use Rattle.xp_words.specs.Machine.{Machine}
use Rattle.xp_words.specs.declared.place.Place.{Place}
use Rattle.xp_words.specs.declared.place.Place.TheVariants.{Clock, Refs, Kind, Cell, Priv}
use Rattle.xp_words.specs.Places.{Sizes, sizes_of}
use Rattle.xp_board.specs.declared.holdings.Made.{Made}
use Rattle.xp_board.specs.declared.holdings.Work.{Work}
use Rattle.xp_board.specs.declared.holdings.Lock.{Lock}
use Rattle.xp_board.specs.declared.holdings.Claimed.{Claimed}
use Rattle.xp_board.specs.declared.holdings.Holdings.{Holdings}
use Rattle.xp_board.specs.Steps.{last_since, some_since}
use Rattle.xp_board.specs.Readings.{kind_at, owner_of, domain_of, has_ever}
use Rattle.xp_board.specs.After.{is_fixed}
use Rattle.xp_board.specs.Reach.{Use, Reads, Reach}
use Rattle.xp_board.specs.Fresh.{FreshFor}
use Rattle.xp_board.specs.Found.{CellsFound, is_known_inside, WorkFound, LockFound, ClaimFound, is_same_cell, is_same_entry, without_bits}
use Rattle.xp_board.specs.Sound.{is_busy}
use Rattle.xp_board.proofs.PlaceTests.{same_or_other, equal_refl}
use Rattle.found_rule.proofs.Growth.{Added, Grown, grown_some, added_last}
use Rattle.found_rule.proofs.ReachSame.{reads_only}

-- ---- the same word, but for the bits that walks set
equal_then : (x y w : ℕ) → IsTrue (x == y) → IsTrue (y == w) → IsTrue (x == w)
equal_then x y w a b = let p = eqb-true x y a in let q = eqb-true y w b in rw (p, q) (equal_refl w)

pub cell_refl : (t : Bool) (w : ℕ) → IsTrue (if t then is_same_entry w w else w == w)
cell_refl true w = equal_refl (without_bits w)
cell_refl false w = equal_refl w

pub entry_kept : (x y : ℕ) → x ≡ y → IsTrue (is_same_entry x y)
entry_kept x y e = rw e (equal_refl (without_bits y))

pub cell_kept : (t : Bool) (x y : ℕ) → x ≡ y → IsTrue (if t then is_same_entry x y else x == y)
cell_kept t x y e = rw e (cell_refl t y)

cell_then : (t : Bool) (x y w : ℕ) → IsTrue (if t then is_same_entry x y else x == y) → IsTrue (if t then is_same_entry y w else y == w) →
    IsTrue (if t then is_same_entry x w else x == w)
cell_then true x y w a b = equal_then (without_bits x) (without_bits y) (without_bits w) a b
cell_then false x y w a b = equal_then x y w a b

-- ---- a marked frame in work, of another domain that never had privilege over its owner
-- whatever comes to a marked frame in work came to it before, or can but read it
abbrev pub ReachKept : Machine → (Place → ℕ) → (Place → ℕ) → (ℕ → Holdings) → (ℕ → Holdings) → Type 0
ReachKept n m m2 b c =
    (v f : ℕ) (p : Use) → v < (sizes_of n).vcpus → is_busy (kind_at m f) ≡ true → (kind_at m f).unflushed ≡ true → Reach (sizes_of n) m2 (c v) f p →
    Reach (sizes_of n) m (b v) f p ⊎ (p ≡ Reads)

abbrev pub Passed : Machine → (Place → ℕ) → (ℕ → Holdings) → List Made → Work → Type 0
Passed n m h steps e =
    (v o : ℕ) (p : Use) → (kind_fields e.word).unflushed ≡ true → v < (sizes_of n).vcpus →
    owner_of (m (Refs e.frame)) ≡ Some o → domain_of n v ≢ o →
    IsTrue (some_since (sizes_of n) e.since (Priv (domain_of n v)) (λ w. not (has_ever o w)) steps) →
    Reach (sizes_of n) m (h v) e.frame p → p ≡ Reads

module _ (n : Machine) (m m2 : Place → ℕ) (b c : ℕ → Holdings) (fresh : (v : ℕ) → v < (sizes_of n).vcpus → FreshFor n m b v) (reach : ReachKept n m m2 b c)
    (ever : (d o : ℕ) → IsTrue (has_ever o (m (Priv d))) → IsTrue (has_ever o (m2 (Priv d)))) (xs ys : List Made) (g : Grown (sizes_of n) m m2 xs ys) where
  pub passed_law : (e : Work) → is_busy (kind_at m e.frame) ≡ true → m (Kind e.frame) ≡ e.word → owner_of (m2 (Refs e.frame)) ≡ owner_of (m (Refs e.frame)) →
      Passed n m b xs e → Passed n m2 c ys e
  passed_law e busy word same old v o p marked l was other found comes =
      let owner = sym same ∙ was in
      elim (reach v e.frame p l busy (ap (λ w. (kind_fields w).unflushed) word ∙ marked) comes) [
        | inr reads ↦ reads
        | inl before ↦
            elim (grown_some (sizes_of n) m m2 xs ys e.since (Priv (domain_of n v)) (λ w. not (has_ever o w)) g found) [
              | inl new ↦
                  reads_only m (domain_of n v) e.frame o p (fresh v l e.frame p before).owner owner other
                  (false_from_ne_true (has_ever o (m (Priv (domain_of n v))))
                  (λ had. let a = ever (domain_of n v) o had in let q = not-true (has_ever o (m2 (Priv (domain_of n v)))) new in cc))
              | inr past ↦ old v o p marked l owner other past before
            ]
      ]

-- ---- the own cells
module _ (z : Sizes) (m m2 : Place → ℕ) (x : Made) (p : Place) (a : Added z m m2 x p) (others : (q : Place) → q ≢ p → m2 q ≡ m q) (xs ys : List Made) (grown : ys ≡ x ∷ xs) where
  pub my_cells : (n f : ℕ) (same : ℕ → ℕ → Bool) → ((w : ℕ) → IsTrue (same w w)) → CellsFound z m n f same xs → CellsFound z m2 n f same ys
  my_cells n f same r c i w h =
      elim (added_last z m m2 x p xs ys n (Cell f i) w a grown h) [
        | inl new ↦ subst (λ y. IsTrue (same (m2 (Cell f i)) y)) new (r (m2 (Cell f i)))
        | inr old ↦ subst (λ y. IsTrue (same y w)) (sym (others (Cell f i) old.0)) (c i w old.1)
      ]

  -- what holds of all cells of a frame below some number holds of the one that was written
  pub my_range : (P : ℕ → Type 0) (f bound : ℕ) → ((i : ℕ) → p ≡ Cell f i → i < bound → P (m2 p)) → ((i : ℕ) → i < bound → P (m (Cell f i))) →
      (i : ℕ) → i < bound → P (m2 (Cell f i))
  my_range P f bound here c i l =
      elim (same_or_other (Cell f i) p) [
        | inl at ↦ subst (λ q. P (m2 q)) (sym at) (here i (sym at) l)
        | inr off ↦ subst P (sym (others (Cell f i) off)) (c i l)
      ]

  pub my_lock : (u w : Holdings) → u.steps ≡ xs → w.steps ≡ ys → (e : Lock) → LockFound z m u e → LockFound z m2 w e
  my_lock u w k l e c = rw l (my_cells e.since e.frame is_same_entry (λ y. equal_refl (without_bits y)) (rw (← k) c))

  pub my_claim : (d : ℕ) (u w : Holdings) → u.steps ≡ xs → w.steps ≡ ys → m Clock ≤ m2 Clock → (e : Claimed) → m2 (Refs e.frame) ≡ m (Refs e.frame) →
      ((i : ℕ) → p ≡ Cell e.frame i → i < e.scrubbed → m2 p ≡ 0) → ClaimFound z m d u e → ClaimFound z m2 d w e
  my_claim d u w k l o e kept zero c =
      record {
        word = kept ∙ c.word;
        stamp = let s = c.stamp in omega arith;
        cells = rw l (my_cells e.since e.frame (λ y v. y == v) (λ y. equal_refl y) (rw (← k) c.cells));
        scrubbed = my_range (λ y. y ≡ 0) e.frame e.scrubbed zero c.scrubbed;
      }

-- ---- the cells of another vCPU
module _ (z : Sizes) (m m2 : Place → ℕ) (u w : Holdings) (steps : w.steps ≡ u.steps) where
  their_cells : (n f : ℕ) (same : ℕ → ℕ → Bool) → ((i y : ℕ) → IsTrue (same (m (Cell f i)) y) → IsTrue (same (m2 (Cell f i)) y)) →
      CellsFound z m n f same u.steps → CellsFound z m2 n f same w.steps
  their_cells n f same k c i y h = k i y (c i y (ap (last_since z n (Cell f i)) (sym steps) ∙ h))

  pub their_lock : (e : Lock) → ((i : ℕ) → IsTrue (is_same_entry (m2 (Cell e.frame i)) (m (Cell e.frame i)))) → LockFound z m u e → LockFound z m2 w e
  their_lock e k c =
      their_cells e.since e.frame is_same_entry (λ i y t. equal_then (without_bits (m2 (Cell e.frame i))) (without_bits (m (Cell e.frame i))) (without_bits y) (k i) t) c

  pub their_claim : (d : ℕ) → m Clock ≤ m2 Clock → (e : Claimed) → m2 (Refs e.frame) ≡ m (Refs e.frame) → ((i : ℕ) → m2 (Cell e.frame i) ≡ m (Cell e.frame i)) →
      ClaimFound z m d u e → ClaimFound z m2 d w e
  their_claim d o e kept k c =
      record {
        word = kept ∙ c.word;
        stamp = let s = c.stamp in omega arith;
        cells = their_cells e.since e.frame (λ y v. y == v) (λ i y t. subst (λ v. IsTrue (v == y)) (sym (k i)) t) c.cells;
        scrubbed = λ i l. k i ∙ c.scrubbed i l;
      }

  pub their_work_cells : (e : Work) → m (Kind e.frame) ≡ e.word →
      (IsTrue (is_known_inside (kind_at m e.frame)) → (i : ℕ) → IsTrue (is_same_cell (kind_at m e.frame).kind (m2 (Cell e.frame i)) (m (Cell e.frame i)))) →
      (IsTrue (is_known_inside (kind_fields e.word)) → CellsFound z m e.unmarked e.frame (is_same_cell (kind_fields e.word).kind) u.steps) →
      IsTrue (is_known_inside (kind_fields e.word)) → CellsFound z m2 e.unmarked e.frame (is_same_cell (kind_fields e.word).kind) w.steps
  their_work_cells e word k c inside =
      let kept = subst (λ y. IsTrue (is_known_inside (kind_fields y)) → (i : ℕ) → IsTrue (is_same_cell (kind_fields y).kind (m2 (Cell e.frame i)) (m (Cell e.frame i)))) word k in
      their_cells e.unmarked e.frame (is_same_cell (kind_fields e.word).kind)
      (λ i y t. cell_then (is_table (kind_fields e.word).kind) (m2 (Cell e.frame i)) (m (Cell e.frame i)) y (kept inside i) t) (c inside)

-- ---- works
module _ (n : Machine) (m m2 : Place → ℕ) (b c : ℕ → Holdings) (fresh : (v : ℕ) → v < (sizes_of n).vcpus → FreshFor n m b v) (reach : ReachKept n m m2 b c)
    (ever : (d o : ℕ) → IsTrue (has_ever o (m (Priv d))) → IsTrue (has_ever o (m2 (Priv d)))) (u w : Holdings) (g : Grown (sizes_of n) m m2 u.steps w.steps) where
  pub my_work : (x : Made) (p : Place) → Added (sizes_of n) m m2 x p → ((q : Place) → q ≢ p → m2 q ≡ m q) → w.steps ≡ x ∷ u.steps →
      (e : Work) → is_busy (kind_at m e.frame) ≡ true → owner_of (m2 (Refs e.frame)) ≡ owner_of (m (Refs e.frame)) → m2 (Kind e.frame) ≡ m (Kind e.frame) →
      ((i : ℕ) → p ≡ Cell e.frame i → i < e.fixed → IsTrue (is_fixed (m2 p))) → WorkFound n m b u e → WorkFound n m2 c w e
  my_work x p a others grown e busy owner kept fix old =
      record {
        word = kept ∙ old.word;
        cells = λ t. my_cells (sizes_of n) m m2 x p a others u.steps w.steps grown e.unmarked e.frame (is_same_cell (kind_fields e.word).kind)
            (λ y. cell_refl (is_table (kind_fields e.word).kind) y) (old.cells t);
        fixed = my_range (sizes_of n) m m2 x p a others u.steps w.steps grown (λ y. IsTrue (is_fixed y)) e.frame e.fixed fix old.fixed;
        passed = passed_law n m m2 b c fresh reach ever u.steps w.steps g e busy old.word owner old.passed;
      }

  pub their_work : w.steps ≡ u.steps → (e : Work) → is_busy (kind_at m e.frame) ≡ true → owner_of (m2 (Refs e.frame)) ≡ owner_of (m (Refs e.frame)) → m2 (Kind e.frame) ≡ m (Kind e.frame) →
      (IsTrue (is_known_inside (kind_at m e.frame)) → (i : ℕ) → IsTrue (is_same_cell (kind_at m e.frame).kind (m2 (Cell e.frame i)) (m (Cell e.frame i)))) →
      ((i : ℕ) → i < e.fixed → m2 (Cell e.frame i) ≡ m (Cell e.frame i)) → WorkFound n m b u e → WorkFound n m2 c w e
  their_work steps e busy owner kept cells fix old =
      record {
        word = kept ∙ old.word;
        cells = their_work_cells (sizes_of n) m m2 u w steps e old.word cells old.cells;
        fixed = λ i l. subst (λ y. IsTrue (is_fixed y)) (sym (fix i l)) (old.fixed i l);
        passed = passed_law n m m2 b c fresh reach ever u.steps w.steps g e busy old.word owner old.passed;
      }
