-- What an act leaves of the words, where it writes a word of a vCPU, a domain, the clock or a cell.
use Rattle.std.proofs.Common.{◌≡◌, ◌≢◌, ℕ, ◌<◌, ◌≤◌, IsTrue, sym, ap, ◌∙◌, ◌⊎◌, inl, inr, arith}
use Rattle.xp_words.specs.PageTypes.{is_table}
use Rattle.xp_words.specs.KindWords.{kind_fields}
use Rattle.xp_words.specs.Machine.{Machine}
use Rattle.xp_words.specs.declared.place.Place.{Place}
use Rattle.xp_words.specs.declared.place.Place.TheVariants.{Clock, Life, Vcpu, Refs, Kind, Cell, Priv}
use Rattle.xp_words.specs.Places.{sizes_of, is_place, flushed_of, run_of}
use Rattle.xp_board.specs.declared.holdings.Holdings.{Holdings}
use Rattle.xp_board.specs.Lists.{EachOf}
use Rattle.xp_board.specs.Readings.{kind_at, owner_of, clock_value, has_now, has_ever}
use Rattle.xp_board.specs.Hands.{works_on, locks_on, claims_of}
use Rattle.xp_board.specs.Found.{is_known_inside, is_same_cell, is_same_entry}
use Rattle.xp_board.specs.Sound.{Sound}
use Rattle.xp_board.proofs.PlaceTests.{same_or_other}
use Rattle.found_rule.proofs.SoundWords.{had}
use Rattle.found_rule.proofs.HandFacts.{entry_kept, cell_kept}
use Rattle.found_rule.proofs.Words.{Words}
use Rattle.found_rule.proofs.WordsAt.{clock_at}
use Rattle.xp_board.proofs.HandLists.{EachOf-map, EachOf-all}

-- ---- a place that is no frame's: what it leaves is told place by place
pub record Lone (n : Machine) (s : ℕ) (m m2 : Place → ℕ) : Type 0 where
  pub clock : m Clock ≤ m2 Clock
  pub flushed : (v : ℕ) → m (flushed_of v) ≤ m2 (flushed_of v)
  pub stopped : (v : ℕ) → m (run_of v) ≡ 1 → m2 (run_of v) ≡ 1
  pub life : (d w : ℕ) → w ≢ 0 → (m (Life d) ≡ w) ⊎ (m (Life d) ≡ 255) → (m2 (Life d) ≡ w) ⊎ (m2 (Life d) ≡ 255)
  pub ever : (d o : ℕ) → IsTrue (has_ever o (m (Priv d))) → IsTrue (has_ever o (m2 (Priv d)))
  pub now : (d o : ℕ) → o < 16 → IsTrue (is_place (sizes_of n) (Priv d)) → IsTrue (has_now o (m2 (Priv d))) → IsTrue (has_ever o (m2 (Priv d)))
  pub acks : (t : ℕ) → t ≢ s → m2 (flushed_of t) ≡ m (flushed_of t)
  pub runs : (t : ℕ) → t ≢ s → m2 (run_of t) ≡ m (run_of t)
  pub own : (t : ℕ) → t ≢ s → (k : ℕ) → k ≢ 4 → k ≢ 5 → m2 (run_of t) ≢ 1 → m2 (Vcpu t k) ≡ m (Vcpu t k)

module _ (n : Machine) (s : ℕ) (m m2 : Place → ℕ) (b : ℕ → Holdings) (sound : Sound n m b) (p : Place) (others : (q : Place) → q ≢ p → m2 q ≡ m q) where
  pub words_lone : ((f : ℕ) → p ≢ Refs f) → ((f : ℕ) → p ≢ Kind f) → ((f i : ℕ) → p ≢ Cell f i) → Lone n s m m2 → clock_value p (m2 p) ≤ m2 Clock → Words n s m m2 b
  words_lone refs kind cell lone was_found =
      let r : (f : ℕ) → m2 (Refs f) ≡ m (Refs f) = (λ f. others (Refs f) (λ e. refs f (sym e))) in
      let k : (f : ℕ) → m2 (Kind f) ≡ m (Kind f) = (λ f. others (Kind f) (λ e. kind f (sym e))) in
      let c : (f i : ℕ) → m2 (Cell f i) ≡ m (Cell f i) = (λ f i. others (Cell f i) (λ e. cell f i (sym e))) in
      record {
        moves = record {
          clock = lone.clock;
          clocks = clock_at n s m m2 b sound p others lone.clock was_found;
          flushed = lone.flushed;
          stopped = lone.stopped;
          life = lone.life;
          ever = lone.ever;
          now = lone.now;
          owner = λ f h. ap owner_of (r f);
          live = λ f h l. rw (k f) l;
          kind = λ f h. ap (λ w. (kind_fields w).kind) (k f);
        };
        spares = λ t l d. record {
          flushed = lone.acks t d;
          run = lone.runs t d;
          own = lone.own t d;
          works = λ f h. k f;
          ending = λ f h. r f;
          claimed = λ f h. r f;
          work_cells = λ f i h inside. cell_kept (is_table (kind_at m f).kind) (m2 (Cell f i)) (m (Cell f i)) (c f i);
          lock_cells = λ f i h. entry_kept (m2 (Cell f i)) (m (Cell f i)) (c f i);
          claim_cells = λ f i h. c f i;
          fixed_cells = EachOf-all (λ e. (i : ℕ) → i < e.fixed → m2 (Cell e.frame i) ≡ m (Cell e.frame i)) (b t).works (λ e i h. c e.frame i);
        };
      }

  -- the parts that stay where the place is none of theirs
  clock_kept : p ≢ Clock → m Clock ≤ m2 Clock
  clock_kept off = let e = others Clock (λ k. off (sym k)) in omega arith

  life_kept : ((d : ℕ) → p ≢ Life d) → (d w : ℕ) → w ≢ 0 → (m (Life d) ≡ w) ⊎ (m (Life d) ≡ 255) → (m2 (Life d) ≡ w) ⊎ (m2 (Life d) ≡ 255)
  life_kept off d w o h = rw (others (Life d) (λ k. off d (sym k))) h

  ever_kept : ((d : ℕ) → p ≢ Priv d) → (d o : ℕ) → IsTrue (has_ever o (m (Priv d))) → IsTrue (has_ever o (m2 (Priv d)))
  ever_kept off d o h = rw (others (Priv d) (λ k. off d (sym k))) h

  now_kept : ((d : ℕ) → p ≢ Priv d) → (d o : ℕ) → o < 16 → IsTrue (is_place (sizes_of n) (Priv d)) → IsTrue (has_now o (m2 (Priv d))) → IsTrue (has_ever o (m2 (Priv d)))
  now_kept off d o l r h = let e = others (Priv d) (λ k. off d (sym k)) in rw e (had n m b sound d r o l (rw e at h))

  -- no word of a vCPU
  pub lone_off : ((v k : ℕ) → p ≢ Vcpu v k) → m Clock ≤ m2 Clock → ((d w : ℕ) → w ≢ 0 → (m (Life d) ≡ w) ⊎ (m (Life d) ≡ 255) → (m2 (Life d) ≡ w) ⊎ (m2 (Life d) ≡ 255)) →
      ((d o : ℕ) → IsTrue (has_ever o (m (Priv d))) → IsTrue (has_ever o (m2 (Priv d)))) →
      ((d o : ℕ) → o < 16 → IsTrue (is_place (sizes_of n) (Priv d)) → IsTrue (has_now o (m2 (Priv d))) → IsTrue (has_ever o (m2 (Priv d)))) → Lone n s m m2
  lone_off off clock life ever now =
      let v : (t k : ℕ) → m2 (Vcpu t k) ≡ m (Vcpu t k) = (λ t k. others (Vcpu t k) (λ e. off t k (sym e))) in
      record {
        clock = clock;
        flushed = λ t. let e = v t 5 in omega arith;
        stopped = λ t o. v t 6 ∙ o;
        life = life;
        ever = ever;
        now = now;
        acks = λ t d. v t 5;
        runs = λ t d. v t 6;
        own = λ t d k a b o. v t k;
      }

  -- a word of a vCPU
  pub lone_vcpu : (v k : ℕ) → p ≡ Vcpu v k → ((t : ℕ) → m (flushed_of t) ≤ m2 (flushed_of t)) → ((t : ℕ) → m (run_of t) ≡ 1 → m2 (run_of t) ≡ 1) →
      ((t : ℕ) → t ≢ s → m2 (flushed_of t) ≡ m (flushed_of t)) → ((t : ℕ) → t ≢ s → m2 (run_of t) ≡ m (run_of t)) →
      ((t : ℕ) → t ≢ s → (k : ℕ) → k ≢ 4 → k ≢ 5 → m2 (run_of t) ≢ 1 → m2 (Vcpu t k) ≡ m (Vcpu t k)) → Lone n s m m2
  lone_vcpu v k at flushed stopped acks runs own =
      record {
        clock = clock_kept (λ e. let q = at in cc);
        flushed = flushed;
        stopped = stopped;
        life = life_kept (λ d e. let q = at in cc);
        ever = ever_kept (λ d e. let q = at in cc);
        now = now_kept (λ d e. let q = at in cc);
        acks = acks;
        runs = runs;
        own = own;
      }

-- ---- a cell
-- what the write of cell i of frame f does to what another vCPU has in its hand
pub record CellSpared (m m2 : Place → ℕ) (f i : ℕ) (u : Holdings) : Type 0 where
  pub claims : claims_of f u.claimed ≡ 0
  pub locks : 0 < locks_on f u.locks → IsTrue (is_same_entry (m2 (Cell f i)) (m (Cell f i)))
  pub works : 0 < works_on f u.works → IsTrue (is_known_inside (kind_at m f)) → IsTrue (is_same_cell (kind_at m f).kind (m2 (Cell f i)) (m (Cell f i)))
  pub fixed : EachOf (λ e. e.frame ≡ f → i < e.fixed → m2 (Cell f i) ≡ m (Cell f i)) u.works

module _ (n : Machine) (s : ℕ) (m m2 : Place → ℕ) (b : ℕ → Holdings) (sound : Sound n m b) (f i : ℕ) (others : (q : Place) → q ≢ Cell f i → m2 q ≡ m q) where
  at_or_off : (P : ℕ → ℕ → Type 0) → P f i → ((g j : ℕ) → m2 (Cell g j) ≡ m (Cell g j) → P g j) → (g j : ℕ) → P g j
  at_or_off P here away g j =
      elim (same_or_other (Cell g j) (Cell f i)) [
        | inl at ↦ (let a : g ≡ f = cc in let c : j ≡ i = cc in rw (a, c) here)
        | inr off ↦ away g j (others (Cell g j) off)
      ]

  pub words_cell : ((t : ℕ) → t < (sizes_of n).vcpus → t ≢ s → CellSpared m m2 f i (b t)) → Words n s m m2 b
  unfolding clock_value
  words_cell spared =
      let v : (t k : ℕ) → m2 (Vcpu t k) ≡ m (Vcpu t k) = (λ t k. others (Vcpu t k) (λ e. cc)) in
      let o = others Clock (λ e. cc) in
      record {
        moves = record {
          clock = omega arith;
          clocks = clock_at n s m m2 b sound (Cell f i) others (omega arith) (omega arith);
          flushed = λ t. let e = v t 5 in omega arith;
          stopped = λ t h. v t 6 ∙ h;
          life = λ d w h k. rw (others (Life d) (λ e. cc)) k;
          ever = λ d q h. rw (others (Priv d) (λ e. cc)) h;
          now = λ d q l r h. rw (others (Priv d) (λ k. cc)) (had n m b sound d r q l (rw (others (Priv d) (λ k. cc)) at h));
          owner = λ g h. ap owner_of (others (Refs g) (λ e. cc));
          live = λ g h k. rw (others (Kind g) (λ e. cc)) k;
          kind = λ g h. ap (λ w. (kind_fields w).kind) (others (Kind g) (λ e. cc));
        };
        spares = λ t l d. record {
          flushed = v t 5;
          run = v t 6;
          own = λ k a b h. v t k;
          works = λ g h. others (Kind g) (λ e. cc);
          ending = λ g h. others (Refs g) (λ e. cc);
          claimed = λ g h. others (Refs g) (λ e. cc);
          work_cells = at_or_off (λ g j. 0 < works_on g (b t).works → IsTrue (is_known_inside (kind_at m g)) → IsTrue (is_same_cell (kind_at m g).kind (m2 (Cell g j)) (m (Cell g j))))
              (spared t l d).works (λ g j e h k. cell_kept (is_table (kind_at m g).kind) (m2 (Cell g j)) (m (Cell g j)) e);
          lock_cells = at_or_off (λ g j. 0 < locks_on g (b t).locks → IsTrue (is_same_entry (m2 (Cell g j)) (m (Cell g j))))
              (spared t l d).locks (λ g j e h. entry_kept (m2 (Cell g j)) (m (Cell g j)) e);
          claim_cells = at_or_off (λ g j. 0 < claims_of g (b t).claimed → m2 (Cell g j) ≡ m (Cell g j)) (λ h. absurd (let q = (spared t l d).claims in omega arith)) (λ g j e h. e);
          fixed_cells = EachOf-map (λ e. e.frame ≡ f → i < e.fixed → m2 (Cell f i) ≡ m (Cell f i)) (λ e. (j : ℕ) → j < e.fixed → m2 (Cell e.frame j) ≡ m (Cell e.frame j)) (b t).works
              (λ e c j h. elim (same_or_other (Cell e.frame j) (Cell f i)) [
                | inl at ↦ (let g : e.frame ≡ f = cc in let r : j ≡ i = cc in rw (g, r) (c g (rw (← r) h)))
                | inr off ↦ others (Cell e.frame j) off
              ]) (spared t l d).fixed;
        };
      }
