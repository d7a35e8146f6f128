-- The facts that speak of a vCPU's steps alone: the clock, flushes, run words, life words and privileges.
use Rattle.std.proofs.Common.{◌≡◌, ◌≢◌, ℕ, ◌<◌, ◌≤◌, ◌==◌, ◌||◌, true, List, [], ◌∷◌, IsTrue, refl, sym, ap, ◌∙◌, ◌⊎◌, inl, inr, arith}
use Rattle.std.proofs.lemmas.Bool.{eqb-true, or_cases}
use Rattle.xp_words.specs.Machine.{Machine}
use Rattle.xp_words.specs.declared.place.Place.{Place}
use Rattle.xp_words.specs.declared.place.Place.TheVariants.{Clock, Life, Priv}
use Rattle.xp_words.specs.Places.{Sizes, sizes_of, is_place, place_at, flushed_of, run_of}
use Rattle.xp_board.specs.declared.holdings.Made.{Made}
use Rattle.xp_board.specs.declared.holdings.Holdings.{Holdings}
use Rattle.xp_board.specs.Lists.{EachOf}
use Rattle.xp_board.specs.Steps.{left_of, some_step, some_since, EachSince}
use Rattle.xp_board.specs.Readings.{clock_value, has_now, has_ever}
use Rattle.xp_board.specs.Found.{ClockFound, FlushedFound, StoppedFound, ClockSinceAck, LifeFound, before_off, FlushedSinceOff, ColdSinceOff, PrivilegesFound}
use Rattle.found_rule.proofs.Growth.{Grown, grown_each, grown_clock, grown_before}
use Rattle.found_rule.proofs.Words.{Moves}
use Rattle.xp_board.proofs.HandLists.{EachOf-map, EachOf-all}
use Rattle.xp_board.proofs.ListCounts.{EachOf-both}
use Rattle.xp_board.proofs.MoreSteps.{EachOf-before, EachSince-map, some_since-cases}

module _ (n : Machine) (m m2 : Place → ℕ) (k : Moves n m m2) (clock_was : (p : Place) → clock_value p (m p) ≤ m Clock) (a b : Holdings) (g : Grown (sizes_of n) m m2 a.steps b.steps) where
  pub clock_law : ClockFound (sizes_of n) m a → ClockFound (sizes_of n) m2 b
  clock_law c =
      let z = sizes_of n in
      let l = k.clock in
      grown_clock z m m2 a.steps b.steps (λ y. y ≤ m2 Clock) g (λ p. let r = clock_was p in omega arith) k.clocks
      (EachOf-map (λ x. (clock_value (place_at z x.step.place) x.found ≤ m Clock) × (clock_value (place_at z x.step.place) (left_of x) ≤ m Clock))
      (λ x. (clock_value (place_at z x.step.place) x.found ≤ m2 Clock) × (clock_value (place_at z x.step.place) (left_of x) ≤ m2 Clock)) a.steps
      (λ x t. ((let r = t.0 in omega arith), (let r = t.1 in omega arith))) c)

  pub flushed_law : FlushedFound (sizes_of n) m a → FlushedFound (sizes_of n) m2 b
  flushed_law c v =
      let l = k.flushed v in
      grown_each (sizes_of n) m m2 a.steps b.steps 0 (flushed_of v) (λ w. w ≤ m2 (flushed_of v)) g (λ r. l) (λ r. omega arith)
      (EachSince-map (sizes_of n) 0 (flushed_of v) (λ w. w ≤ m (flushed_of v)) (λ w. w ≤ m2 (flushed_of v)) a.steps (λ w r. omega arith) (c v))

  pub stopped_law : StoppedFound (sizes_of n) m a → StoppedFound (sizes_of n) m2 b
  stopped_law c v =
      grown_each (sizes_of n) m m2 a.steps b.steps 0 (run_of v) (λ w. w ≡ 1 → m2 (run_of v) ≡ 1) g (λ r o. k.stopped v o) (λ r o. o)
      (EachSince-map (sizes_of n) 0 (run_of v) (λ w. w ≡ 1 → m (run_of v) ≡ 1) (λ w. w ≡ 1 → m2 (run_of v) ≡ 1) a.steps (λ w r o. k.stopped v (r o)) (c v))

  pub life_law : LifeFound (sizes_of n) m a → LifeFound (sizes_of n) m2 b
  life_law c d =
      grown_each (sizes_of n) m m2 a.steps b.steps 0 (Life d) (λ w. w ≢ 0 → (m2 (Life d) ≡ w) ⊎ (m2 (Life d) ≡ 255)) g (λ r o. k.life d (m (Life d)) o (inl refl)) (λ r o. inl refl)
      (EachSince-map (sizes_of n) 0 (Life d) (λ w. w ≢ 0 → (m (Life d) ≡ w) ⊎ (m (Life d) ≡ 255)) (λ w. w ≢ 0 → (m2 (Life d) ≡ w) ⊎ (m2 (Life d) ≡ 255)) a.steps
      (λ w r o. k.life d w o (r o)) (c d))

  -- what is had now was had
  pub privileges_law : ((d : ℕ) → IsTrue (is_place (sizes_of n) (Priv d)) → (o : ℕ) → o < 16 → IsTrue (has_now o (m (Priv d))) → IsTrue (has_ever o (m (Priv d)))) →
      PrivilegesFound (sizes_of n) m a → PrivilegesFound (sizes_of n) m2 b
  privileges_law f c d o l =
      grown_each (sizes_of n) m m2 a.steps b.steps 0 (Priv d) (λ w. IsTrue (has_now o w || has_ever o w) → IsTrue (has_ever o (m2 (Priv d)))) g
      (λ r t. k.ever d o (elim (or_cases (has_now o (m (Priv d))) (has_ever o (m (Priv d))) t) [ inl now ↦ f d r o l now | inr ever ↦ ever ]))
      (λ r t. elim (or_cases (has_now o (m2 (Priv d))) (has_ever o (m2 (Priv d))) t) [ inl now ↦ k.now d o l r now | inr ever ↦ ever ])
      (EachSince-map (sizes_of n) 0 (Priv d) (λ w. IsTrue (has_now o w || has_ever o w) → IsTrue (has_ever o (m (Priv d))))
      (λ w. IsTrue (has_now o w || has_ever o w) → IsTrue (has_ever o (m2 (Priv d)))) a.steps (λ w r t. k.ever d o (r t)) (c d o l))

  -- clock values since the last flush
  pub since_ack_law : (s : ℕ) → m (flushed_of s) ≤ m Clock → m2 (flushed_of s) ≡ m (flushed_of s) → b.acked ≡ a.acked → ClockSinceAck (sizes_of n) m s a → ClockSinceAck (sizes_of n) m2 s b
  since_ack_law s u e q c =
      let o = k.clock in
      rw (e, q) (grown_each (sizes_of n) m m2 a.steps b.steps a.acked Clock (λ w. m (flushed_of s) ≤ w) g (λ r. u) (λ r. omega arith) c)

  -- ---- vCPUs that were found off
  pub since_off_law : (h h2 : ℕ → Holdings) (v : ℕ) → (FlushedSinceOff (sizes_of n) m h v a → FlushedSinceOff (sizes_of n) m2 h2 v a) →
      FlushedSinceOff (sizes_of n) m h v a → FlushedSinceOff (sizes_of n) m2 h2 v b
  since_off_law h h2 v f c =
      let z = sizes_of n in
      elim (grown_before z m m2 a.steps b.steps (run_of v) (λ w. w == 2) g) [
        | inl now ↦
            (let t : m2 (run_of v) ≢ 0 = (λ o. let x = eqb-true (m2 (run_of v)) 2 now in omega arith) in
            EachOf-all (λ x. ((m2 (run_of v) ≢ 0) ⊎ (((h2 v).cold ≡ true) ⊎ (clock_value (place_at z x.step.place) x.found < m2 (flushed_of v)))) × ((m2 (run_of v) ≢ 0) ⊎ (((h2 v).cold ≡ true) ⊎ (clock_value (place_at z x.step.place) (left_of x) < m2 (flushed_of v)))))
            (before_off z v b) (λ x. (inl t, inl t)))
        | inr old ↦ rw old (f c)
      ]

  pub cold_off_law : (h h2 : ℕ → Holdings) (v : ℕ) → (ColdSinceOff (sizes_of n) m h v a → ColdSinceOff (sizes_of n) m2 h2 v a) →
      ColdSinceOff (sizes_of n) m h v a → ColdSinceOff (sizes_of n) m2 h2 v b
  cold_off_law h h2 v f c is run =
      elim (grown_before (sizes_of n) m m2 a.steps b.steps (run_of v) (λ w. w == 2) g) [
        | inl now ↦ absurd (let x = eqb-true (m2 (run_of v)) 2 now in omega arith)
        | inr old ↦ rw old (f c is run)
      ]

-- ---- where neither flush nor Run is made
module _ (n : Machine) (m m2 : Place → ℕ) (h h2 : ℕ → Holdings) (v : ℕ) (run : m2 (run_of v) ≡ m (run_of v)) (cold : (h2 v).cold ≡ (h v).cold) (u : Holdings) where
  pub off_same : m2 (flushed_of v) ≡ m (flushed_of v) → FlushedSinceOff (sizes_of n) m h v u → FlushedSinceOff (sizes_of n) m2 h2 v u
  off_same flushed c = rw (run, cold, flushed) c

  -- of a cold vCPU: the clock that it finds now is at least each value that was found before
  pub cold_same : m Clock ≤ m2 Clock → (h2 v).ran ≡ (h v).ran → Grown (sizes_of n) m m2 (h v).steps (h2 v).steps → ClockFound (sizes_of n) m u →
      ColdSinceOff (sizes_of n) m h v u → ColdSinceOff (sizes_of n) m2 h2 v u
  cold_same o ran grown found c is was =
      let z = sizes_of n in
      rw ran
      (EachOf-map
      (λ x. ((clock_value (place_at z x.step.place) x.found ≤ m Clock) × (clock_value (place_at z x.step.place) (left_of x) ≤ m Clock))
      × (EachSince z (h v).ran Clock (λ w. clock_value (place_at z x.step.place) x.found ≤ w) (h v).steps × EachSince z (h v).ran Clock (λ w. clock_value (place_at z x.step.place) (left_of x) ≤ w) (h v).steps))
      (λ x. EachSince z (h v).ran Clock (λ w. clock_value (place_at z x.step.place) x.found ≤ w) (h2 v).steps × EachSince z (h v).ran Clock (λ w. clock_value (place_at z x.step.place) (left_of x) ≤ w) (h2 v).steps)
      (before_off z v u)
      (λ x t. (
        grown_each z m m2 (h v).steps (h2 v).steps (h v).ran Clock (λ w. clock_value (place_at z x.step.place) x.found ≤ w) grown (λ r. (t.0).0) (λ r. let q = (t.0).0 in omega arith) (t.1).0,
        grown_each z m m2 (h v).steps (h2 v).steps (h v).ran Clock (λ w. clock_value (place_at z x.step.place) (left_of x) ≤ w) grown (λ r. (t.0).1) (λ r. let q = (t.0).1 in omega arith) (t.1).1,
      ))
      (EachOf-both
      (λ x. (clock_value (place_at z x.step.place) x.found ≤ m Clock) × (clock_value (place_at z x.step.place) (left_of x) ≤ m Clock))
      (λ x. EachSince z (h v).ran Clock (λ w. clock_value (place_at z x.step.place) x.found ≤ w) (h v).steps × EachSince z (h v).ran Clock (λ w. clock_value (place_at z x.step.place) (left_of x) ≤ w) (h v).steps)
      (before_off z v u)
      (EachOf-before z (run_of v) (λ w. w == 2) (λ x. (clock_value (place_at z x.step.place) x.found ≤ m Clock) × (clock_value (place_at z x.step.place) (left_of x) ≤ m Clock)) u.steps found)
      (c (sym cold ∙ is) (sym run ∙ was))))

-- ---- a clock value that was found
pub clock_some : (z : Sizes) (n y bound : ℕ) (xs : List Made) →
    EachOf (λ x. (clock_value (place_at z x.step.place) x.found ≤ bound) × (clock_value (place_at z x.step.place) (left_of x) ≤ bound)) xs →
    IsTrue (some_since z n Clock (λ w. w == y) xs) → y ≤ bound
unfolding some_step EachOf clock_value
clock_some z n y bound [] h t = absurd cc
clock_some z n y bound (x ∷ xs) h t =
    elim (some_since-cases z n Clock (λ w. w == y) x xs t) [
      | inl new ↦
          (let e = eqb-true (left_of x) y new.1 in
          let k : clock_value (place_at z x.step.place) (left_of x) ≡ left_of x = ap (λ p. clock_value p (left_of x)) new.0 in
          let b = (h.0).1 in
          omega arith)
      | inr old ↦ clock_some z n y bound xs h.1 old
    ]
