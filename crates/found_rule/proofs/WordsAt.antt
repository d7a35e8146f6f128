-- What an act leaves of the words, by the place that it writes.
use Rattle.std.proofs.Common.{◌≡◌, ◌≢◌, ℕ, ◌+◌, ◌<◌, ◌≤◌, ◌==◌, not, Bool, true, false, IsTrue, refl, ap, ◌∙◌, inl, inr, arith}
use Rattle.std.proofs.lemmas.Bool.{cases_eq}
use Rattle.std.proofs.lemmas.Bool.Decides.{nat_tests}
use Rattle.xp_words.specs.PageTypes.{is_table}
use Rattle.xp_words.specs.KindWords.{kind_fields}
use Rattle.xp_words.specs.Machine.{Machine}
use Rattle.xp_words.specs.declared.place.Place.{Place}
use Rattle.xp_words.specs.declared.place.Place.TheVariants.{Clock, Pages, Life, Vcpu, Refs, Kind, M2p, Cell, Map, Priv}
use Rattle.xp_words.specs.Places.{sizes_of, flushed_of, run_of}
use Rattle.xp_board.specs.declared.holdings.Holdings.{Holdings}
use Rattle.xp_board.specs.Readings.{kind_at, is_live, owner_of, ref_count, type_count, clock_value, free_stamp, kind_stamp}
use Rattle.xp_board.specs.Hands.{works_on, endings_of, claims_of}
use Rattle.xp_board.specs.Sound.{Sound}
use Rattle.xp_board.proofs.PlaceTests.{same_or_other}
use Rattle.found_rule.proofs.SoundWords.{clock_within, had}
use Rattle.found_rule.proofs.HandFacts.{entry_kept, cell_kept}
use Rattle.found_rule.proofs.Words.{Words}
use Rattle.xp_board.proofs.HandLists.{EachOf-all}

-- a place of which facts speak
abbrev pub is_read : Place → Bool
is_read Clock = true
is_read (Pages d) = false
is_read (Life d) = true
is_read (Vcpu v k) = not (k == 4)
is_read (Refs f) = true
is_read (Kind f) = true
is_read (M2p f) = false
is_read (Cell f i) = true
is_read (Map k) = false
is_read (Priv d) = true

read_own : (t k : ℕ) → k ≢ 4 → IsTrue (is_read (Vcpu t k))
read_own t k off = grind (arith, nat_tests)

module _ (n : Machine) (s : ℕ) (m m2 : Place → ℕ) (b : ℕ → Holdings) (sound : Sound n m b) where
  -- ---- no word of which facts speak
  module _ (same : (q : Place) → IsTrue (is_read q) → m2 q ≡ m q) where
    clock_same : (q : Place) → clock_value q (m2 q) ≤ m2 Clock
    unfolding clock_value
    clock_same Clock = omega arith
    clock_same (Pages d) = omega arith
    clock_same (Life d) = omega arith
    clock_same (Vcpu v k) =
        elim (cases_eq k 5) [
          | inl at ↦
              (let u = clock_within n m sound.stamped (flushed_of v) in
              let e = same (flushed_of v) refl in
              let o = same Clock refl in
              let t : (k == 5) ≡ true = grind (arith, nat_tests) in
              rw (t, at, e, o) u)
          | inr off ↦ (let t : (k == 5) ≡ false = grind (arith, nat_tests) in rw t (omega arith))
        ]
    clock_same (Refs f) = rw (same (Refs f) refl, same Clock refl) (clock_within n m sound.stamped (Refs f))
    clock_same (Kind f) = rw (same (Kind f) refl, same Clock refl) (clock_within n m sound.stamped (Kind f))
    clock_same (M2p f) = omega arith
    clock_same (Cell f i) = omega arith
    clock_same (Map k) = omega arith
    clock_same (Priv d) = omega arith

    pub words_quiet : Words n s m m2 b
    words_quiet =
        record {
          moves = record {
            clock = let e = same Clock refl in omega arith;
            clocks = clock_same;
            flushed = λ v. let e = same (flushed_of v) refl in omega arith;
            stopped = λ v o. same (run_of v) refl ∙ o;
            life = λ d w o h. rw (same (Life d) refl) h;
            ever = λ d o h. rw (same (Priv d) refl) h;
            now = λ d o l r h. rw (same (Priv d) refl) (had n m b sound d r o l (rw (same (Priv d) refl) at h));
            owner = λ f h. ap owner_of (same (Refs f) refl);
            live = λ f h k. rw (same (Kind f) refl) k;
            kind = λ f h. ap (λ w. (kind_fields w).kind) (same (Kind f) refl);
          };
          spares = λ t l d. record {
            flushed = same (flushed_of t) refl;
            run = same (run_of t) refl;
            own = λ k a b o. same (Vcpu t k) (read_own t k a);
            works = λ f h. same (Kind f) refl;
            ending = λ f h. same (Refs f) refl;
            claimed = λ f h. same (Refs f) refl;
            work_cells = λ f i h k. cell_kept (is_table (kind_at m f).kind) (m2 (Cell f i)) (m (Cell f i)) (same (Cell f i) refl);
            lock_cells = λ f i h. entry_kept (m2 (Cell f i)) (m (Cell f i)) (same (Cell f i) refl);
            claim_cells = λ f i h. same (Cell f i) refl;
            fixed_cells = EachOf-all (λ e. (i : ℕ) → i < e.fixed → m2 (Cell e.frame i) ≡ m (Cell e.frame i)) (b t).works (λ e i h. same (Cell e.frame i) refl);
          };
        }

  -- ---- a clock value at the place that is written, and nowhere else
  module _ (p : Place) (others : (q : Place) → q ≢ p → m2 q ≡ m q) where
    pub clock_at : m Clock ≤ m2 Clock → clock_value p (m2 p) ≤ m2 Clock → (q : Place) → clock_value q (m2 q) ≤ m2 Clock
    clock_at o here q =
        elim (same_or_other q p) [
          | inl at ↦ rw at here
          | inr off ↦ (let u = clock_within n m sound.stamped q in let e = ap (clock_value q) (others q off) in omega arith)
        ]

  -- ---- a reference word
  pub words_refs : (f : ℕ) → ((q : Place) → q ≢ Refs f → m2 q ≡ m q) → (0 < ref_count (m (Refs f)) → owner_of (m2 (Refs f)) ≡ owner_of (m (Refs f))) →
      free_stamp (m2 (Refs f)) ≤ m Clock →
      ((t : ℕ) → t < (sizes_of n).vcpus → t ≢ s → 0 < endings_of f (b t).ending + claims_of f (b t).claimed → ⊥) → Words n s m m2 b
  unfolding clock_value
  words_refs f others owner stamp alone =
      record {
        moves = record {
          clock = let e = others Clock (λ k. cc) in omega arith;
          clocks = let e = others Clock (λ k. cc) in clock_at (Refs f) others (omega arith) (omega arith);
          flushed = λ v. let e = others (flushed_of v) (λ k. cc) in omega arith;
          stopped = λ v o. others (run_of v) (λ k. cc) ∙ o;
          life = λ d w o h. rw (others (Life d) (λ k. cc)) h;
          ever = λ d o h. rw (others (Priv d) (λ k. cc)) h;
          now = λ d o l r h. rw (others (Priv d) (λ k. cc)) (had n m b sound d r o l (rw (others (Priv d) (λ k. cc)) at h));
          owner = λ g h. elim (cases_eq g f) [ inl at ↦ rw at (owner (rw at at h)) | inr off ↦ ap owner_of (others (Refs g) (λ k. off (cc))) ];
          live = λ g h k. rw (others (Kind g) (λ e. cc)) k;
          kind = λ g h. ap (λ w. (kind_fields w).kind) (others (Kind g) (λ e. cc));
        };
        spares = λ t l d. record {
          flushed = others (flushed_of t) (λ e. cc);
          run = others (run_of t) (λ e. cc);
          own = λ k a b o. others (Vcpu t k) (λ e. cc);
          works = λ g h. others (Kind g) (λ e. cc);
          ending = λ g h. elim (cases_eq g f) [ inl at ↦ absurd (alone t l d (let q = rw at at h in omega arith)) | inr off ↦ others (Refs g) (λ k. off (cc)) ];
          claimed = λ g h. elim (cases_eq g f) [ inl at ↦ absurd (alone t l d (let q = rw at at h in omega arith)) | inr off ↦ others (Refs g) (λ k. off (cc)) ];
          work_cells = λ g i h k. cell_kept (is_table (kind_at m g).kind) (m2 (Cell g i)) (m (Cell g i)) (others (Cell g i) (λ e. cc));
          lock_cells = λ g i h. entry_kept (m2 (Cell g i)) (m (Cell g i)) (others (Cell g i) (λ e. cc));
          claim_cells = λ g i h. others (Cell g i) (λ e. cc);
          fixed_cells = EachOf-all (λ e. (i : ℕ) → i < e.fixed → m2 (Cell e.frame i) ≡ m (Cell e.frame i)) (b t).works (λ e i h. others (Cell e.frame i) (λ k. cc));
        };
      }

  -- ---- a kind word
  pub words_kind : (f : ℕ) → ((q : Place) → q ≢ Kind f → m2 q ≡ m q) → (0 < type_count (kind_at m f) → IsTrue (is_live (kind_at m f)) → IsTrue (is_live (kind_at m2 f))) →
      (0 < type_count (kind_at m f) → (kind_at m2 f).kind ≡ (kind_at m f).kind) → kind_stamp (m2 (Kind f)) ≤ m Clock →
      ((t : ℕ) → t < (sizes_of n).vcpus → t ≢ s → 0 < works_on f (b t).works → ⊥) → Words n s m m2 b
  unfolding clock_value
  words_kind f others live kind stamp alone =
      record {
        moves = record {
          clock = let e = others Clock (λ k. cc) in omega arith;
          clocks = let e = others Clock (λ k. cc) in clock_at (Kind f) others (omega arith) (omega arith);
          flushed = λ v. let e = others (flushed_of v) (λ k. cc) in omega arith;
          stopped = λ v o. others (run_of v) (λ k. cc) ∙ o;
          life = λ d w o h. rw (others (Life d) (λ k. cc)) h;
          ever = λ d o h. rw (others (Priv d) (λ k. cc)) h;
          now = λ d o l r h. rw (others (Priv d) (λ k. cc)) (had n m b sound d r o l (rw (others (Priv d) (λ k. cc)) at h));
          owner = λ g h. ap owner_of (others (Refs g) (λ k. cc));
          live = λ g h k. elim (cases_eq g f) [ inl at ↦ rw at (live (rw at at h) (rw at at k)) | inr off ↦ rw (others (Kind g) (λ e. off (cc))) k ];
          kind = λ g h. elim (cases_eq g f) [ inl at ↦ rw at (kind (rw at at h)) | inr off ↦ ap (λ w. (kind_fields w).kind) (others (Kind g) (λ e. off (cc))) ];
        };
        spares = λ t l d. record {
          flushed = others (flushed_of t) (λ e. cc);
          run = others (run_of t) (λ e. cc);
          own = λ k a b o. others (Vcpu t k) (λ e. cc);
          works = λ g h. elim (cases_eq g f) [ inl at ↦ absurd (alone t l d (rw at at h)) | inr off ↦ others (Kind g) (λ k. off (cc)) ];
          ending = λ g h. others (Refs g) (λ e. cc);
          claimed = λ g h. others (Refs g) (λ e. cc);
          work_cells = λ g i h k. cell_kept (is_table (kind_at m g).kind) (m2 (Cell g i)) (m (Cell g i)) (others (Cell g i) (λ e. cc));
          lock_cells = λ g i h. entry_kept (m2 (Cell g i)) (m (Cell g i)) (others (Cell g i) (λ e. cc));
          claim_cells = λ g i h. others (Cell g i) (λ e. cc);
          fixed_cells = EachOf-all (λ e. (i : ℕ) → i < e.fixed → m2 (Cell e.frame i) ≡ m (Cell e.frame i)) (b t).works (λ e i h. others (Cell e.frame i) (λ k. cc));
        };
      }
