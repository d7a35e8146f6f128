-- What a vCPU found of a vCPU after it had found a stamp: the vCPU was flushed past it, or comes to nothing.
use Rattle.std.proofs.Common.{◌≡◌, ◌≢◌, ℕ, ◌<◌, ◌≤◌, ◌==◌, ◌&&◌, ◌||◌, ◌⊎◌, inl, inr, nat_lt, nat_le, Bool, true, false, List, [], ◌∷◌, length, refl, ◌∙◌, ap, subst, arith, IsTrue, if◌then◌else◌}
use Rattle.std.proofs.lemmas.Bool.Decides.{nat_tests}
use Rattle.std.proofs.lemmas.Bool.{and_parts, or_cases, or_right}
use Rattle.xp_words.specs.Machine.{Machine}
use Rattle.xp_words.specs.declared.place.Place.{Place}
use Rattle.xp_words.specs.Places.{Sizes, sizes_of, place_at, run_of, flushed_of}
use Rattle.xp_board.specs.declared.holdings.Made.{Made}
use Rattle.xp_board.specs.declared.holdings.Holdings.{Holdings}
use Rattle.xp_board.specs.Lists.{EachOf}
use Rattle.xp_board.specs.Steps.{is_at, left_of, some_step, some_since, some_before, steps_before}
use Rattle.xp_board.specs.Readings.{clock_value}
use Rattle.xp_board.specs.Flushes.{is_idle, is_past}
use Rattle.xp_board.specs.Found.{EachClockValue}
use Rattle.xp_board.specs.Reach.{Use, Reach}
use Rattle.xp_board.specs.Sound.{Sound}
use Rattle.xp_board.proofs.PlaceTests.{same_place}
use Rattle.xp_board.proofs.StepLists.{since_within}
use Rattle.xp_board.proofs.ReachAll.{Reach-none}
use Rattle.xp_board.proofs.MoreSteps.{since_each, since_later}

-- ---- what was found in some step holds by what holds of each

-- ---- a stamp that was found before the vCPU was found off
clock_before : (z : Sizes) (n : ℕ) (p : Place) (stamp : ℕ) (test : ℕ → Bool) (P : ℕ → Type 0) (Q : Type 0) (steps : List Made) →
    ((w : ℕ) → test w ≡ true → clock_value p w ≡ stamp) → (P stamp → Q) → EachClockValue z P steps → IsTrue (some_before z n p test steps) → Q
unfolding some_step EachOf
clock_before z n p stamp test P Q [] tells f each some = absurd (cc)
clock_before z n p stamp test P Q (x ∷ xs) tells f each some =
    elim (or_cases (nat_lt (length xs) n && (is_at z p x && test (left_of x))) _ some) [
      | inl here ↦
          let a = and_parts (nat_lt (length xs) n) (is_at z p x && test (left_of x)) here in
          let b = and_parts (is_at z p x) (test (left_of x)) a.1 in
          let at = same_place (place_at z x.step.place) p b.0 in
          f (subst P (ap (λ q. clock_value q (left_of x)) at ∙ tells (left_of x) b.1) each.0.1)
      | inr later ↦ clock_before z n p stamp test P Q xs tells f each.1 later
    ]

since_either : (z : Sizes) (n : ℕ) (p : Place) (test other : ℕ → Bool) (steps : List Made) → IsTrue (some_since z n p (λ w. test w || other w) steps) →
    IsTrue (some_since z n p test steps) ⊎ IsTrue (some_since z n p other steps)
unfolding some_step
since_either z n p test other [] some = absurd (cc)
since_either z n p test other (x ∷ xs) some =
    elim (or_cases (nat_le n (length xs) && (is_at z p x && (test (left_of x) || other (left_of x)))) _ some) [
      | inl here ↦ grind arith
      | inr later ↦
          elim (since_either z n p test other xs later) [
            | inl one ↦ inl (or_right _ _ one)
            | inr two ↦ inr (or_right _ _ two)
          ]
    ]

-- a step below number n stands before the newest of those that were made from n on
before_newest : (z : Sizes) (n : ℕ) (p q : Place) (test old : ℕ → Bool) (steps : List Made) → IsTrue (some_since z n p test steps) →
    IsTrue (some_before z n q old steps) → IsTrue (some_before z n q old (steps_before z p test steps))
unfolding some_step steps_before
before_newest z n p q test old [] since before = absurd (cc)
before_newest z n p q test old (x ∷ xs) since before =
    let later : IsTrue (some_before z n q old xs) =
    elim (or_cases (nat_lt (length xs) n && (is_at z q x && old (left_of x))) _ before) [
      | inl here ↦
          absurd (let a = (and_parts (nat_lt (length xs) n) (is_at z q x && old (left_of x)) here).0 in let b = since_within z n p test (x ∷ xs) since in
          let c : nat_lt (length xs) n ≡ false = grind (arith, nat_tests) in cc)
      | inr rest ↦ rest
    ] in
    elim (is_at z p x && test (left_of x)) as (λ b. (is_at z p x && test (left_of x)) ≡ b → IsTrue (some_before z n q old (if b then xs else steps_before z p test xs))) [
      | true ↦ λ e. later
      | false ↦ λ e.
          before_newest z n p q test old xs
          (elim (or_cases (nat_le n (length xs) && (is_at z p x && test (left_of x))) _ since) [
            | inl here ↦ absurd (let k = (and_parts (nat_le n (length xs)) _ here).1 in cc)
            | inr rest ↦ rest
          ])
          later
    ] refl

-- ---- the vCPU comes to nothing, or was flushed past the stamp
abbrev pub IsGone : (Place → ℕ) → (ℕ → Holdings) → ℕ → ℕ → Type 0
IsGone m h v stamp = (m (run_of v) ≢ 0) ⊎ (((h v).cold ≡ true) ⊎ (stamp < m (flushed_of v)))

module _ (n : Machine) (m : Place → ℕ) (h : ℕ → Holdings) (sound : Sound n m h) where
  pub past_gone : (s v since stamp : ℕ) (p : Place) (test : ℕ → Bool) → s < (sizes_of n).vcpus → v < (sizes_of n).vcpus →
      ((w : ℕ) → test w ≡ true → clock_value p w ≡ stamp) → IsTrue (some_before (sizes_of n) since p test (h s).steps) →
      IsTrue (is_past (sizes_of n) since stamp v (h s).steps) → IsGone m h v stamp
  past_gone s v since stamp p test vcpu real tells was_found past =
      let steps = (h s).steps in
      let found = sound.found s vcpu in
      elim (or_cases (some_since (sizes_of n) since (run_of v) is_idle steps) _ past) [
        | inr flushed ↦
            inr (inr (since_each (sizes_of n) since (flushed_of v) (λ w. nat_lt stamp w) (λ w. w ≤ m (flushed_of v)) (stamp < m (flushed_of v)) steps
            (since_later (sizes_of n) 0 since (flushed_of v) (λ w. w ≤ m (flushed_of v)) steps (omega arith) (found.flushed v)) flushed
            (λ w t below. let k : stamp < w = grind (arith, nat_tests) in omega arith)))
        | inl idle ↦
            elim (since_either (sizes_of n) since (run_of v) (λ w. w == 1) (λ w. w == 2) steps idle) [
              | inl stopped ↦
                  inl (since_each (sizes_of n) since (run_of v) (λ w. w == 1) (λ w. w ≡ 1 → m (run_of v) ≡ 1) (m (run_of v) ≢ 0) steps
                  (since_later (sizes_of n) 0 since (run_of v) (λ w. w ≡ 1 → m (run_of v) ≡ 1) steps (omega arith) (found.stopped v)) stopped
                  (λ w t one zero. let k : w ≡ 1 = grind (arith, nat_tests) in let e = one k in omega arith))
              | inr off ↦
                  clock_before (sizes_of n) since p stamp test (λ y. (m (run_of v) ≢ 0) ⊎ (((h v).cold ≡ true) ⊎ (y < m (flushed_of v)))) (IsGone m h v stamp) _
                  tells (λ gone. gone) (found.since_off v real) (before_newest (sizes_of n) since (run_of v) p (λ w. w == 2) test steps off was_found)
            ]
      ]

  -- so it does not come to a frame that is not to be reached past that stamp
  pub gone_unreached : (v stamp g : ℕ) (u : Use) → v < (sizes_of n).vcpus → IsGone m h v stamp → m (flushed_of v) ≤ stamp → Reach (sizes_of n) m (h v) g u → ⊥
  gone_unreached v stamp g u real (inl idle) below r = let i = sound.idle v real in Reach-none (i.cache idle) (i.walk idle) r
  gone_unreached v stamp g u real (inr (inl cold)) below r = let i = sound.idle v real in Reach-none (i.cold_cache cold) (i.cold_walk cold) r
  gone_unreached v stamp g u real (inr (inr later)) below r = absurd (omega arith)
