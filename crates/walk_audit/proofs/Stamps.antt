-- Which words tell clock values above the clock.
use Rattle.std.proofs.Common.{◌≡◌, ℕ, ◌+◌, ◌*◌, ◌<◌, ◌≤◌, ◌==◌, Bool, true, false, if◌then◌else◌, IsTrue, refl, arith}
use Rattle.std.proofs.lemmas.Bool.Decides.{nat_tests}
use Rattle.xp_words.specs.Machine.{Machine}
use Rattle.xp_words.specs.declared.place.Place.{Place}
use Rattle.xp_words.specs.declared.place.Place.TheVariants.{Clock, Vcpu, Refs, Kind}
use Rattle.xp_words.specs.Places.{sizes_of, is_place, number, flushed_of, first_vcpu, first_frame, first_map}
use Rattle.xp_board.specs.Readings.{clock_value, free_stamp, kind_stamp}
use Rattle.walk_audit.specs.Breaks.{Breaks, IsLate}
use Rattle.walk_audit.specs.Order.{NoneBreaks, IsFirst, check_of, position}
use Rattle.walk_audit.specs.declared.verdict.Verdict.{Verdict}
use Rattle.walk_audit.specs.declared.verdict.Verdict.TheVariants as verdicts
use Rattle.walk_audit.proofs.Rows.{in_vcpu, in_frame, in_head, in_tail}

module _ (n : Machine) (m : Place → ℕ) where
  -- a verdict of that check is of a late word
  pub stamps_only : (u : Verdict) → check_of u ≡ 6 → Breaks n m u → IsLate n m (position u)
  stamps_only verdicts.Sound e x = absurd x
  stamps_only (verdicts.Word k w) e x = absurd (omega arith)
  stamps_only (verdicts.Held f) e x = absurd (omega arith)
  stamps_only (verdicts.Refs f want found) e x = absurd (omega arith)
  stamps_only (verdicts.Count f want found) e x = absurd (omega arith)
  stamps_only (verdicts.OtherKind f) e x = absurd (omega arith)
  stamps_only (verdicts.Pages d want found) e x = absurd (omega arith)
  stamps_only (verdicts.BadEntry f i) e x = absurd (omega arith)
  stamps_only (verdicts.Context v k) e x = absurd (omega arith)
  stamps_only (verdicts.Stamp k) e x = x
  stamps_only (verdicts.Dead d) e x = absurd (omega arith)
  stamps_only (verdicts.Map k) e x = absurd (omega arith)

  -- none is where no place of the range is late
  abbrev IsQuiet : Place → Type 0
  IsQuiet q = clock_value q (m q) ≤ m Clock

  quiet_range : (a b : ℕ) → ((q : Place) → IsTrue (is_place (sizes_of n) q) → a ≤ number (sizes_of n) q → number (sizes_of n) q < b → IsQuiet q) → NoneBreaks n m 6 a b
  quiet_range a b h =
      record {
        none = λ u w x.
            (let late = stamps_only u w.check x in
            let at = late.stands in
            let from = w.from in
            let below = w.below in
            let above = late.late in
            let quiet = h late.place late.real (omega arith) (omega arith) in
            absurd (omega arith));
      }

  -- ---- vCPUs
  flushed_quiet : (v k b : ℕ) → (number (sizes_of n) (flushed_of v) < b → m (flushed_of v) ≤ m Clock) → number (sizes_of n) (Vcpu v k) < b → IsQuiet (Vcpu v k)
  unfolding clock_value
  flushed_quiet v k b h l = by_number (k == 5) refl
    where
      by_number : (t : Bool) → (k == 5) ≡ t → (if t then m (Vcpu v k) else 0) ≤ m Clock
      by_number true e = let at : k ≡ 5 = grind (arith, nat_tests) in rw at (h (rw (at) at l))
      by_number false e = omega arith

  pub vcpu_quiet : (v b : ℕ) → v < (sizes_of n).vcpus → b ≤ first_vcpu (sizes_of n) + 38 * v + 38 →
      (number (sizes_of n) (flushed_of v) < b → m (flushed_of v) ≤ m Clock) → NoneBreaks n m 6 (first_vcpu (sizes_of n) + 38 * v) b
  vcpu_quiet v b r l h =
      quiet_range _ b (λ q e from below.
      in_vcpu (sizes_of n) v q (λ p. number (sizes_of n) p < b → IsQuiet p) r e from (omega arith) (λ k few. flushed_quiet v k b h) below)

  -- ---- frames
  pub frame_quiet : (f b : ℕ) → f < n.frames → b ≤ first_frame (sizes_of n) + 515 * f + 515 →
      (number (sizes_of n) (Refs f) < b → free_stamp (m (Refs f)) ≤ m Clock) → (number (sizes_of n) (Kind f) < b → kind_stamp (m (Kind f)) ≤ m Clock) →
      NoneBreaks n m 6 (first_frame (sizes_of n) + 515 * f) b
  unfolding clock_value
  frame_quiet f b r l g h =
      quiet_range _ b (λ q e from below.
      in_frame (sizes_of n) f q (λ p. number (sizes_of n) p < b → IsQuiet p) r e from (omega arith) g h (λ k. omega arith) (λ i few k. omega arith) below)

  -- ---- the rest
  pub head_quiet : NoneBreaks n m 6 0 (first_vcpu (sizes_of n))
  unfolding clock_value
  head_quiet =
      quiet_range 0 _ (λ q e from below.
      in_head (sizes_of n) q (λ p. IsQuiet p) e below (omega arith) (λ d. omega arith) (λ d. omega arith))

  pub tail_quiet : (b : ℕ) → NoneBreaks n m 6 (first_map (sizes_of n)) b
  unfolding clock_value
  tail_quiet b =
      quiet_range _ b (λ q e from below.
      in_tail (sizes_of n) q (λ p. IsQuiet p) e from (λ k r at. omega arith) (λ d r at. omega arith))

  -- a late word is the first of its row where nothing before it is late
  pub late_first : (p : Place) (a b k : ℕ) → k ≡ number (sizes_of n) p → IsTrue (is_place (sizes_of n) p) → m Clock < clock_value p (m p) → a ≤ k → k < b →
      NoneBreaks n m 6 a k → IsFirst n m 6 a b (verdicts.Stamp k)
  late_first p a b k e real late l u before =
      record {
        breaks = record { place = p; real = real; stands = (cc); late = late };
        within = record { check = refl; from = l; below = u };
        before = before;
      }
