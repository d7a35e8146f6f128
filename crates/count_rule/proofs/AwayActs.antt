-- Stores of words that no part counts: the clock, flushes, runs, lives, privileges and the like.
use Rattle.std.proofs.Common.{◌≡◌, ◌≢◌, ℕ, ◌+◌, ◌^◌, ◌<◌, ◌≤◌, ◌==◌, Bool, true, false, if◌then◌else◌, [], length, Some, None, refl, sym, ◌∙◌, ap, subst, arith, inl, inr}
use Rattle.std.proofs.lemmas.Bool.{cases_eq}
use Rattle.xp_words.specs.Machine.{Machine}
use Rattle.xp_words.specs.declared.place.Place.{Place}
use Rattle.xp_words.specs.declared.place.Place.TheVariants.{Clock, Life, M2p, Priv, Pages, Map}
use Rattle.xp_words.specs.Places.{sizes_of, flushed_of, run_of, ldt_base_of, asked_of}
use Rattle.xp_words.proofs.Shared.{eq_false as when_ne}
use Rattle.xp_board.specs.declared.holdings.Holdings.{Holdings}
use Rattle.xp_board.specs.declared.step.Step.{Step}
use Rattle.xp_board.specs.Hands.{IsEmptyHand}
use Rattle.xp_board.specs.Spelling.{IsSpelling}
use Rattle.xp_board.specs.RunSteps.{ran_now}
use Rattle.xp_board.specs.After.{noted, learned_own, learned_life}
use Rattle.xp_board.specs.Keeping.{MayAct}
use Rattle.xp_board.specs.Sound.{Spelled, Sound, Idle}
use Rattle.step_effects.proofs.ActEffects.{Mapped, Based, Asked, Flushed, Ran, Ticked, Doomed, Buried, Privileged}
use Rattle.count_rule.proofs.Learning.{Kept, same_refl, same_hand, same_own, same_life, kept_same, kept_noted, still_life, empty_kept}
use Rattle.count_rule.proofs.PartLaws.{stamped_by, idle_still, idle_other}
use Rattle.count_rule.proofs.SpelledLaw.{wrote_spelled}
use Rattle.count_rule.proofs.Told.{clock_found}
use Rattle.xp_board.proofs.Sums.{when_eq}
use Rattle.count_rule.proofs.Outcome.{apart, Outcome, is_counted, calm_away, quiet_outcome}
use Rattle.count_rule.proofs.WalkHands.{same_ran, same_twice}

module _ (n : Machine) (s : ℕ) (x : Step) (m m2 : Place → ℕ) (b c : ℕ → Holdings) (vcpu : s < (sizes_of n).vcpus) (others : (t : ℕ) → t ≢ s → c t ≡ b t) (may : MayAct n s x (b s)) (sound : Sound n m b) where
  -- ---- a word that no part counts
  away_outcome : (p : Place) → is_counted p ≡ false → ((q : Place) → q ≢ p → m2 q ≡ m q) → m Clock ≤ m2 Clock → ((v : ℕ) → p ≡ flushed_of v → m2 p ≤ m2 Clock) → Kept (b s) (c s) →
      Spelled n m2 → ((v : ℕ) → v < (sizes_of n).vcpus → Idle n m2 c v) → Outcome n m2 c
  away_outcome p away words clock flush kept spelled idle =
      quiet_outcome n s m m2 b c vcpu others sound (calm_away n s m m2 b c vcpu others p away words) kept (λ d. words (Pages d) (apart p (Pages d) away refl)) (λ k. words (Map k) (apart p (Map k) away refl)) spelled
      (stamped_by n m m2 p words clock flush (λ f e. absurd (let k = ap is_counted e in cc)) (λ f e. absurd (let k = ap is_counted e in cc)) sound.stamped) idle

  -- the hand learns no more than the word
  noted_idle : ((v : ℕ) → m2 (run_of v) ≡ m (run_of v)) → (w : ℕ) → c s ≡ noted x w (b s) → (v : ℕ) → v < (sizes_of n).vcpus → Idle n m2 c v
  noted_idle words w hand =
      idle_still n s m m2 b c vcpu others words
      (empty_kept (b s) (c s) (kept_noted x w (b s) (b s) (c s) hand (kept_same (b s) (b s) (same_hand (b s)))) (λ e. ap (λ u. u.looking) hand ∙ e))
      (ap (λ u. u.cold) hand) (ap (λ u. u.cache) hand) (ap (λ u. u.walk) hand) sound.idle

  noted_outcome : (p : Place) → is_counted p ≡ false → ((q : Place) → q ≢ p → m2 q ≡ m q) → m Clock ≤ m2 Clock → ((v : ℕ) → p ≢ flushed_of v) → ((v : ℕ) → run_of v ≢ p) → (w : ℕ) →
      c s ≡ noted x w (b s) → Spelled n m2 → Outcome n m2 c
  noted_outcome p away words clock off run w hand spelled =
      away_outcome p away words clock (λ v e. absurd (off v e)) (kept_noted x w (b s) (b s) (c s) hand (kept_same (b s) (b s) (same_hand (b s)))) spelled
      (noted_idle (λ v. words (run_of v) (run v)) w hand)

  clock_same : (p : Place) → ((q : Place) → q ≢ p → m2 q ≡ m q) → Clock ≢ p → m Clock ≤ m2 Clock
  clock_same p words off = let e = words Clock off in omega arith

  pub mapped_outcome : (f : ℕ) → Mapped n x f m m2 (b s) (c s) → Outcome n m2 c
  mapped_outcome f d =
      noted_outcome (M2p f) refl d.wrote.others (clock_same (M2p f) d.wrote.others (λ e. cc)) (λ v e. cc) (λ v e. cc) (m (M2p f)) d.hand
      (wrote_spelled n s x (M2p f) _ m m2 (b s) d.wrote may sound.machine sound.spelled (λ by l. absurd l) (λ v l. absurd l))

  pub based_outcome : (v : ℕ) → Based n s x v m m2 (b s) (c s) → Outcome n m2 c
  based_outcome v d =
      noted_outcome (ldt_base_of v) refl d.wrote.others (clock_same (ldt_base_of v) d.wrote.others (λ e. cc)) (λ v e. cc) (λ v e. cc) (m (ldt_base_of v)) d.hand
      (wrote_spelled n s x (ldt_base_of v) _ m m2 (b s) d.wrote may sound.machine sound.spelled (λ by l. absurd l) (λ v l. absurd l))

  asked_spelled : (v w : ℕ) → w < 2 ^ 64 → IsSpelling n (asked_of v) w
  unfolding IsSpelling
  asked_spelled v w l = (l, refl)

  pub asked_outcome : (v : ℕ) → Asked n x v m m2 (b s) (c s) → Outcome n m2 c
  asked_outcome v d =
      noted_outcome (asked_of v) refl d.wrote.others (clock_same (asked_of v) d.wrote.others (λ e. cc)) (λ v e. cc) (λ v e. cc) (m (asked_of v)) d.hand
      (wrote_spelled n s x (asked_of v) _ m m2 (b s) d.wrote may sound.machine sound.spelled (λ by l. absurd l)
      (λ w l few is. asked_spelled v (m2 (asked_of v)) (let old = sound.spelled.small (asked_of v) in rw is (omega arith))))

  pub ticked_outcome : Ticked n x m m2 (b s) (c s) → Outcome n m2 c
  ticked_outcome d =
      noted_outcome Clock refl d.wrote.others (let e = d.is in omega arith) (λ v e. cc) (λ v e. cc) (m Clock) d.hand
      (wrote_spelled n s x Clock _ m m2 (b s) d.wrote may sound.machine sound.spelled (λ by l. absurd l) (λ v l. absurd l))

  pub privileged_outcome : (d : ℕ) → Privileged n s x d m m2 (b s) (c s) → Outcome n m2 c
  privileged_outcome o d =
      noted_outcome (Priv o) refl d.wrote.others (clock_same (Priv o) d.wrote.others (λ e. cc)) (λ v e. cc) (λ v e. cc) (m (Priv o)) d.hand
      (wrote_spelled n s x (Priv o) _ m m2 (b s) d.wrote may sound.machine sound.spelled (λ by l. absurd l) (λ v l. absurd l))

  life_outcome : (o w : ℕ) → ((q : Place) → q ≢ Life o → m2 q ≡ m q) → c s ≡ noted x w (learned_life o (m (Life o)) (b s)) → Spelled n m2 → Outcome n m2 c
  life_outcome o w words hand spelled =
      let k = still_life o (m (Life o)) (b s) in
      let kept = kept_noted x w (b s) _ (c s) hand (kept_same (b s) _ (same_life o (m (Life o)) (b s))) in
      away_outcome (Life o) refl words (clock_same (Life o) words (λ e. cc)) (λ v e. absurd (cc)) kept spelled
      (idle_still n s m m2 b c vcpu others (λ v. words (run_of v) (λ e. cc)) (empty_kept (b s) (c s) kept (λ e. ap (λ u. u.looking) hand ∙ k.looking e))
      (ap (λ u. u.cold) hand ∙ k.cold) (ap (λ u. u.cache) hand ∙ k.cache) (ap (λ u. u.walk) hand ∙ k.walk) sound.idle)

  -- the own vCPU's part, and those of the others
  own_idle : ((v : ℕ) → v ≢ s → m2 (run_of v) ≡ m (run_of v)) → Idle n m2 c s → (v : ℕ) → v < (sizes_of n).vcpus → Idle n m2 c v
  own_idle words mine v l =
      elim (cases_eq v s) [
        | inl at ↦ subst (Idle n m2 c) (sym at) mine
        | inr off ↦ idle_other n s m m2 b c vcpu others v (words v off) off (sound.idle v l)
      ]

  pub doomed_outcome : (d : ℕ) → Doomed n s x d m m2 (b s) (c s) → Outcome n m2 c
  doomed_outcome o d =
      life_outcome o _ d.wrote.others d.hand (wrote_spelled n s x (Life o) _ m m2 (b s) d.wrote may sound.machine sound.spelled (λ by l. absurd l) (λ v l. absurd l))

  pub buried_outcome : (d : ℕ) → Buried n s x d m m2 (b s) (c s) → Outcome n m2 c
  buried_outcome o d =
      life_outcome o _ d.wrote.others d.hand (wrote_spelled n s x (Life o) _ m m2 (b s) d.wrote may sound.machine sound.spelled (λ by l. absurd l) (λ v l. absurd l))

  -- ---- the own flush
  flush_found : Flushed n s x m m2 (b s) (c s) → m2 (flushed_of s) ≤ m2 Clock
  flush_found d =
      let was_found = clock_found (sizes_of n) (m Clock) (b s).acked (m2 (flushed_of s)) (b s).steps (sound.found s vcpu).clock d.may.was_found in
      let e = d.wrote.others Clock (λ e. cc) in
      omega arith

  pub flushed_outcome : Flushed n s x m m2 (b s) (c s) → Outcome n m2 c
  flushed_outcome d =
      let kept = kept_noted x (m (flushed_of s)) (b s) _ (c s) d.hand (kept_same (b s) _ (same_refl (b s) _ refl refl refl refl refl refl refl refl)) in
      let cold : (c s).cold ≡ false = ap (λ u. u.cold) d.hand in
      away_outcome (flushed_of s) refl d.wrote.others (clock_same (flushed_of s) d.wrote.others (λ e. cc)) (λ v e. flush_found d) kept
      (wrote_spelled n s x (flushed_of s) _ m m2 (b s) d.wrote may sound.machine sound.spelled (λ by l. absurd l) (λ v l. absurd l))
      (own_idle (λ v off. d.wrote.others (run_of v) (λ e. cc))
      (record {
        hand = λ k.
            empty_kept (b s) (c s) kept (λ e. ap (λ u. u.looking) d.hand ∙ e)
            ((sound.idle s vcpu).hand (λ e. k (d.wrote.others (run_of s) (λ e. cc) ∙ e)));
        cache = λ k. ap (λ u. u.cache) d.hand;
        walk = λ k. ap (λ u. u.walk) d.hand ∙ d.may.landed;
        cold_cache = λ k. ap (λ u. u.cache) d.hand;
        cold_walk = λ k. ap (λ u. u.walk) d.hand ∙ d.may.landed;
      }))

  -- ---- the own vCPU stops, leaves its processor or comes to it
  ran_as : (w : ℕ) → c s ≡ noted x (m (run_of s)) (learned_own 6 (m2 (run_of s)) (ran_now (m2 (run_of s)) (b s))) → (m2 (run_of s) == 0) ≡ false →
      (c s ≡ noted x (m (run_of s)) (learned_own 6 (m2 (run_of s)) (record (b s) { cache = []; ran = length (b s).steps + 1 })))
  ran_as w hand e = hand ∙ ap (λ (t : Bool). noted x (m (run_of s)) (learned_own 6 (m2 (run_of s)) (if t then record (b s) { cold = true; ran = length (b s).steps + 1 } else record (b s) { cache = []; ran = length (b s).steps + 1 }))) e

  -- off its processor
  idle_off : Ran n s x m m2 (b s) (c s) → m2 (run_of s) ≢ 0 → IsEmptyHand (b s) → (b s).walk ≡ None → Kept (b s) (c s) → Idle n m2 c s
  idle_off d off empty landed kept =
      let hand = ran_as 0 d.hand (when_ne (m2 (run_of s)) 0 off) in
      record {
        hand = λ k. empty_kept (b s) (c s) kept (λ e. ap (λ u. u.looking) hand ∙ e) empty;
        cache = λ k. ap (λ u. u.cache) hand;
        walk = λ k. ap (λ u. u.walk) hand ∙ landed;
        cold_cache = λ k. ap (λ u. u.cache) hand;
        cold_walk = λ k. ap (λ u. u.walk) hand ∙ landed;
      }

  -- on its processor again
  idle_on : Ran n s x m m2 (b s) (c s) → m2 (run_of s) ≡ 0 → (b s).run ≡ Some 2 → (b s).walk ≡ None → Idle n m2 c s
  idle_on d on run landed =
      let hand : c s ≡ noted x (m (run_of s)) (learned_own 6 (m2 (run_of s)) (record (b s) { cold = true; ran = length (b s).steps + 1 })) =
      d.hand ∙ ap (λ (t : Bool). noted x (m (run_of s)) (learned_own 6 (m2 (run_of s)) (if t then record (b s) { cold = true; ran = length (b s).steps + 1 } else record (b s) { cache = []; ran = length (b s).steps + 1 }))) (when_eq (m2 (run_of s)) 0 on)
      in
      let was : m (run_of s) ≡ 2 = (sound.found s vcpu).own.run 2 run in
      let none : (b s).cache ≡ [] = (sound.idle s vcpu).cache (λ e. absurd (omega arith)) in
      record {
        hand = λ k. absurd (k on);
        cache = λ k. absurd (k on);
        walk = λ k. absurd (k on);
        cold_cache = λ k. ap (λ u. u.cache) hand ∙ none;
        cold_walk = λ k. ap (λ u. u.walk) hand ∙ landed;
      }

  pub ran_outcome : Ran n s x m m2 (b s) (c s) → Outcome n m2 c
  ran_outcome d =
      let u = ran_now (m2 (run_of s)) (b s) in
      let kept = kept_noted x (m (run_of s)) (b s) _ (c s) d.hand (kept_same (b s) _ (same_twice (b s) u _ (same_ran (m2 (run_of s)) (b s)) (same_own 6 (m2 (run_of s)) u))) in
      away_outcome (run_of s) refl d.wrote.others (clock_same (run_of s) d.wrote.others (λ e. cc)) (λ v e. absurd (cc)) kept
      (wrote_spelled n s x (run_of s) _ m m2 (b s) d.wrote may sound.machine sound.spelled (λ by l. absurd l) (λ v l. absurd l))
      (own_idle (λ v off. d.wrote.others (run_of v) (λ e. off (cc)))
      (elim d.may [
        | inl stop ↦ idle_off d (λ e. let k = stop.0 in absurd (omega arith)) stop.1.hand stop.1.landed kept
        | inr more ↦
            elim more [
              | inl unload ↦ idle_off d (λ e. let k = unload.0 in absurd (omega arith)) unload.1.hand unload.1.landed kept
              | inr load ↦ idle_on d load.0 load.1.off load.1.landed
            ]
      ]))
