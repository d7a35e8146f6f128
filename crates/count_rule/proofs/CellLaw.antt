-- An act on a cell that asks what it asked, or of which no entry is recorded.
use Rattle.std.proofs.Common.{◌≡◌, ◌≢◌, ℕ, ◌<◌, true, [], Some, None, refl, sym, ◌∙◌, ap, subst, arith, inl, inr}
use Rattle.xp_words.specs.Machine.{Machine}
use Rattle.xp_words.specs.declared.place.Place.{Place}
use Rattle.xp_words.specs.declared.place.Place.TheVariants.{Clock, Pages, Vcpu, Refs, Kind, Cell, Map}
use Rattle.xp_words.specs.Places.{sizes_of, run_of}
use Rattle.xp_words.specs.Entries.{demand_at}
use Rattle.xp_words.specs.KindWords.{kind_fields}
use Rattle.xp_board.specs.declared.holdings.Holdings.{Holdings}
use Rattle.xp_board.specs.Readings.{kind_at}
use Rattle.xp_board.specs.Recorded.{held}
use Rattle.xp_board.specs.Sound.{Spelled, Sound}
use Rattle.xp_board.proofs.PlaceTests.{same_or_other}
use Rattle.count_rule.proofs.Learning.{Kept}
use Rattle.count_rule.proofs.PartLaws.{stamped_by, idle_running}
use Rattle.count_rule.proofs.Quiet.{Calm}
use Rattle.count_rule.proofs.Outcome.{Outcome, quiet_outcome, runs}

module _ (n : Machine) (s : ℕ) (m m2 : Place → ℕ) (b c : ℕ → Holdings) (vcpu : s < (sizes_of n).vcpus) (others : (t : ℕ) → t ≢ s → c t ≡ b t) (sound : Sound n m b) (f i : ℕ) where
  cell_calm : ((q : Place) → q ≢ Cell f i → m2 q ≡ m q) → (i < held (sizes_of n) m b f → demand_at (kind_at m f).kind i (m2 (Cell f i)) ≡ demand_at (kind_at m f).kind i (m (Cell f i))) →
      Calm n s m m2 b c vcpu others
  cell_calm words same =
      record {
        refs = λ g. words (Refs g) (λ e. cc);
        kinds = λ g. words (Kind g) (λ e. cc);
        contexts = λ v k t. words (Vcpu v k) (λ e. cc);
        demands = λ g j l. elim (same_or_other (Cell g j) (Cell f i)) [
          | inl at ↦
              let frame : g ≡ f = cc in
              let index : j ≡ i = cc in
              let inside : i < held (sizes_of n) m b f = subst (λ y. y < held (sizes_of n) m b f) index (subst (λ y. j < held (sizes_of n) m b y) frame l) in
              rw (frame, index) (ap (λ y. demand_at y.kind i (m2 (Cell f i))) (ap kind_fields (words (Kind f) (λ e. cc))) ∙ same inside)
          | inr off ↦ rw (words (Cell g j) off, words (Kind g) (λ e. cc)) refl
        ];
      }

  pub cell_outcome : ((q : Place) → q ≢ Cell f i → m2 q ≡ m q) → (i < held (sizes_of n) m b f → demand_at (kind_at m f).kind i (m2 (Cell f i)) ≡ demand_at (kind_at m f).kind i (m (Cell f i))) →
      Kept (b s) (c s) → (b s).run ≡ Some 0 → (c s).cold ≡ (b s).cold → ((b s).cold ≡ true → (b s).cache ≡ [] → (c s).cache ≡ []) → ((b s).cold ≡ true → (b s).walk ≡ None → (c s).walk ≡ None) →
      Spelled n m2 → Outcome n m2 c
  cell_outcome words same kept running cold cache walk spelled =
      let clock = words Clock (λ e. cc) in
      quiet_outcome n s m m2 b c vcpu others sound (cell_calm words same) kept (λ d. words (Pages d) (λ e. cc)) (λ k. words (Map k) (λ e. cc)) spelled
      (stamped_by n m m2 (Cell f i) words (omega arith) (λ v e. absurd (cc)) (λ g e. absurd (cc)) (λ g e. absurd (cc)) sound.stamped)
      (idle_running n s m m2 b c vcpu others (words (run_of s) (λ e. cc) ∙ runs n s m m2 b c vcpu others sound running) (λ v off. words (run_of v) (λ e. cc))
      (λ e. sym cold ∙ e) cache walk sound.idle)
