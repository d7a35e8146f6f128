-- What a sound machine's words tell: no clock value or stamp is above the clock, what is had now was had, and frames in work are counted.
use Rattle.std.proofs.Common.{◌≡◌, ℕ, ◌<◌, ◌≤◌, ◌==◌, if◌then◌else◌, Bool, true, false, IsTrue, refl, sym, subst, inl, inr, arith}
use Rattle.std.proofs.lemmas.Bool.{eqb-true}
use Rattle.xp_words.specs.KindWords.{kind_fields}
use Rattle.xp_words.specs.Machine.{Machine}
use Rattle.xp_words.specs.declared.place.Place.{Place}
use Rattle.xp_words.specs.declared.place.Place.TheVariants.{Clock, Pages, Life, Vcpu, Refs, Kind, M2p, Cell, Map, Priv}
use Rattle.xp_words.specs.Places.{sizes_of, flushed_of, is_place}
use Rattle.xp_board.specs.declared.holdings.Work.{Work}
use Rattle.xp_board.specs.declared.holdings.Holdings.{Holdings}
use Rattle.xp_board.specs.Readings.{kind_at, ref_count, clock_value, has_now, has_ever, is_closing, type_count}
use Rattle.xp_board.specs.Hands.{works_on, refs_to, typed_to, locks_on}
use Rattle.xp_board.specs.Spelling.{IsSpelling}
use Rattle.xp_board.specs.Found.{WorkFound}
use Rattle.xp_board.specs.Sound.{Stamped, Sound, WorkAgrees}
use Rattle.xp_board.proofs.KindReadings.{busy_cases}
use Rattle.xp_board.proofs.Counted.{type_below, in_hand_counted, typed_counted}
use Rattle.xp_board.proofs.Works.{is_busy-mine}

clock_if : (m : Place → ℕ) (v k : ℕ) (t : Bool) → (k == 5) ≡ t → m (flushed_of v) ≤ m Clock → (if t then m (Vcpu v k) else 0) ≤ m Clock
clock_if m v k true e h = let q = eqb-true k 5 e in subst (λ j. m (Vcpu v j) ≤ m Clock) (sym q) h
clock_if m v k false e h = omega arith

pub clock_within : (n : Machine) (m : Place → ℕ) → Stamped n m → (p : Place) → clock_value p (m p) ≤ m Clock
unfolding clock_value
clock_within n m s Clock = omega arith
clock_within n m s (Pages d) = omega arith
clock_within n m s (Life d) = omega arith
clock_within n m s (Vcpu v k) = clock_if m v k (k == 5) refl (s.flushed v)
clock_within n m s (Refs f) = s.free f
clock_within n m s (Kind f) = s.kinds f
clock_within n m s (M2p f) = omega arith
clock_within n m s (Cell f i) = omega arith
clock_within n m s (Map k) = omega arith
clock_within n m s (Priv d) = omega arith

-- what is had now was had
pub had : (n : Machine) (m : Place → ℕ) (h : ℕ → Holdings) → Sound n m h → (d : ℕ) → IsTrue (is_place (sizes_of n) (Priv d)) → (o : ℕ) → o < 16 →
    IsTrue (has_now o (m (Priv d))) → IsTrue (has_ever o (m (Priv d)))
unfolding IsSpelling
had n m h sound d there o l t = (sound.spelled.spelled (Priv d) there).1 o l t

-- ---- what is in a hand is counted
module _ (n : Machine) (m : Place → ℕ) (h : ℕ → Holdings) (sound : Sound n m h) (s f : ℕ) (l : s < (sizes_of n).vcpus) where
  pub ref_counted : 0 < refs_to f (h s).refs → 0 < ref_count (m (Refs f))
  ref_counted some = let k = in_hand_counted (sizes_of n) m h s f l sound.counts some in omega arith

  pub typed_ref_counted : 0 < typed_to f (h s).typed → 0 < type_count (kind_at m f)
  typed_ref_counted some = let k = typed_counted (sizes_of n) m h s f l sound.counts in omega arith

  pub lock_counted : 0 < locks_on f (h s).locks → 0 < type_count (kind_at m f)
  lock_counted some = let k = typed_counted (sizes_of n) m h s f l sound.counts in omega arith

-- ---- frames in work
pub work_counted : (n : Machine) (m : Place → ℕ) (h : ℕ → Holdings) → Sound n m h → (t : ℕ) → t < (sizes_of n).vcpus → (e : Work) → 0 < works_on e.frame (h t).works →
    WorkFound n m h (h t) e → WorkAgrees (h t) e → 0 < ref_count (m (Refs e.frame))
work_counted n m h sound t l e there found agrees =
    elim (busy_cases (kind_at m e.frame) (is_busy-mine n m h sound.alone e.frame t l there)) [
      | inl work ↦ (let a = type_below (sizes_of n) m h e.frame sound.counts in let b = work.1 in omega arith)
      | inr closing ↦ ref_counted n m h sound t e.frame l (agrees.closing (subst (λ w. IsTrue (is_closing (kind_fields w))) found.word closing.0))
    ]
