-- The parts of a sound machine that an act leaves, and what an act leaves that moves nothing that is counted.
use Rattle.xp_words.specs.RefWords.{bit}
use Rattle.std.proofs.Common.{◌≡◌, ◌≢◌, ℕ, ◌<◌, Bool, true, false, Some, refl, ap, ◌+◌, ◌/◌}
use Rattle.xp_words.specs.Machine.{Machine}
use Rattle.xp_words.specs.declared.place.Place.{Place}
use Rattle.xp_words.specs.declared.place.Place.TheVariants.{Pages, Vcpu, Refs, Kind, Cell, Map}
use Rattle.xp_words.specs.Places.{sizes_of, run_of}
use Rattle.xp_board.specs.declared.holdings.Holdings.{Holdings}
use Rattle.xp_board.specs.Lists.{times, EachOf}
use Rattle.xp_board.specs.Readings.{is_context}
use Rattle.xp_board.specs.Recorded.{entry_demand, CountsAgree}
use Rattle.xp_board.specs.Sound.{is_hinted, Spelled, HeldAlone, WorkAgrees, Stamped, Idle, FreeMap, Sound}
use Rattle.count_rule.proofs.Learning.{Kept, Stays, stays}
use Rattle.count_rule.proofs.Quiet.{Calm, quiet_counts, quiet_alone, quiet_map, quiet_works}

pub record Outcome (n : Machine) (m2 : Place → ℕ) (c : ℕ → Holdings) : Type 0 where
  pub spelled : Spelled n m2
  pub counts : CountsAgree (sizes_of n) m2 c
  pub alone : HeldAlone n m2 c
  pub works : (t : ℕ) → t < (sizes_of n).vcpus → EachOf (WorkAgrees (c t)) (c t).works
  pub stamped : Stamped n m2
  pub idle : (v : ℕ) → v < (sizes_of n).vcpus → Idle n m2 c v
  pub map : FreeMap n m2 c

-- whether the counts or the free map read the word
abbrev pub is_counted : Place → Bool
is_counted (Refs f) = true
is_counted (Kind f) = true
is_counted (Pages d) = true
is_counted (Map k) = true
is_counted (Cell f i) = true
is_counted (Vcpu v k) = is_context k
is_counted _ = false

pub apart : (p q : Place) → is_counted p ≡ false → is_counted q ≡ true → q ≢ p
apart p q a b e = let k : is_counted q ≡ is_counted p = ap is_counted e in cc

module _ (n : Machine) (s : ℕ) (m m2 : Place → ℕ) (b c : ℕ → Holdings) (vcpu : s < (sizes_of n).vcpus) (others : (t : ℕ) → t ≢ s → c t ≡ b t) where
  pub cells_same : ((f : ℕ) → m2 (Kind f) ≡ m (Kind f)) → ((f i : ℕ) → m2 (Cell f i) ≡ m (Cell f i)) → (f i : ℕ) → entry_demand m2 f i ≡ entry_demand m f i
  cells_same k e f i = rw (k f, e f i) refl

  -- no word changes
  pub calm_same : ((q : Place) → m2 q ≡ m q) → Calm n s m m2 b c vcpu others
  calm_same words =
      record {
        refs = λ g. words (Refs g);
        kinds = λ g. words (Kind g);
        contexts = λ v k t. words (Vcpu v k);
        demands = λ f i l. cells_same (λ g. words (Kind g)) (λ g j. words (Cell g j)) f i;
      }

  -- a word changes that nothing counts
  pub calm_away : (p : Place) → is_counted p ≡ false → ((q : Place) → q ≢ p → m2 q ≡ m q) → Calm n s m m2 b c vcpu others
  calm_away p away words =
      record {
        refs = λ g. words (Refs g) (apart p (Refs g) away refl);
        kinds = λ g. words (Kind g) (apart p (Kind g) away refl);
        contexts = λ v k t. words (Vcpu v k) (apart p (Vcpu v k) away t);
        demands = λ f i l. cells_same (λ g. words (Kind g) (apart p (Kind g) away refl)) (λ g j. words (Cell g j) (apart p (Cell g j) away refl)) f i;
      }

  -- the lists of frames stay; pages move with credits, and bits of the free map with raised frames
  pub calm_outcome : Sound n m b → Calm n s m m2 b c vcpu others → Stays (b s) (c s) → ((d : ℕ) → d < (sizes_of n).domains → m2 (Pages d) + times d (b s).credits ≡ m (Pages d) + times d (c s).credits) →
      ((g : ℕ) → g < (sizes_of n).frames → bit (is_hinted m2 g) + times g (b s).raised ≡ bit (is_hinted m g) + times g (c s).raised) → Spelled n m2 → Stamped n m2 →
      ((v : ℕ) → v < (sizes_of n).vcpus → Idle n m2 c v) → Outcome n m2 c
  calm_outcome sound calm kept pages bits spelled stamped idle =
      record {
        spelled = spelled;
        counts = quiet_counts n s m m2 b c vcpu others sound calm kept pages;
        alone = quiet_alone n s m m2 b c vcpu others sound calm kept;
        works = quiet_works n s m m2 b c vcpu others sound calm kept;
        stamped = stamped;
        idle = idle;
        map = quiet_map n s m m2 b c vcpu others sound calm kept bits;
      }

  pub quiet_outcome : Sound n m b → Calm n s m m2 b c vcpu others → Kept (b s) (c s) → ((d : ℕ) → m2 (Pages d) ≡ m (Pages d)) → ((k : ℕ) → m2 (Map k) ≡ m (Map k)) → Spelled n m2 → Stamped n m2 →
      ((v : ℕ) → v < (sizes_of n).vcpus → Idle n m2 c v) → Outcome n m2 c
  quiet_outcome sound calm kept pages maps spelled stamped idle =
      calm_outcome sound calm (stays (b s) (c s) kept) (λ d l. rw (pages d, kept.credits) refl) (λ g l. rw (maps (g / 64), kept.raised) refl) spelled stamped idle

  -- a vCPU that was last found running runs
  pub runs : Sound n m b → (b s).run ≡ Some 0 → m (run_of s) ≡ 0
  runs sound run = (sound.found s vcpu).own.run 0 run
