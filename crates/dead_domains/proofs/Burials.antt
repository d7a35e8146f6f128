-- What a burial leaves. A frame that the destroying vCPU found not the domain's, once it had found all vCPUs of it stopped, never comes to it, where the
-- domain was not dead as the run began: also if that vCPU buries it twice. It was not, where the vCPU found or left in the run that it destroys the domain.
use Rattle.std.proofs.Common.{◌≡◌, ◌≢◌, ◌⊎◌, ℕ, ◌+◌, ◌<◌, ◌≤◌, ◌==◌, not, false, List, [], ◌∷◌, length, Some, IsTrue, refl, sym, ap, ◌∙◌, subst, inl, inr, arith}
use Rattle.std.proofs.lemmas.Bool.{cases_Bool, cases_eq, eqb-true}
use Rattle.std.proofs.lemmas.Bool.Decides.{nat_tests}
use Rattle.xp_words.specs.Machine.{Machine}
use Rattle.xp_words.specs.declared.place.Place.{Place}
use Rattle.xp_words.specs.declared.place.Place.TheVariants.{Life, Refs}
use Rattle.xp_words.specs.Places.{is_place, memory, run_of, sizes_of}
use Rattle.xp_words.specs.declared.reply.LogLine.{LogLine}
use Rattle.xp_words.proofs.Shared.{not_true as not-true}
use Rattle.xp_board.specs.declared.step.Step.{Step}
use Rattle.xp_board.specs.declared.holdings.Holdings.{Holdings}
use Rattle.xp_board.specs.declared.holdings.Made.{Made}
use Rattle.xp_board.specs.LifeSteps.{HasStopped}
use Rattle.xp_board.specs.Readings.{is_owned_by, owner_of}
use Rattle.xp_board.specs.Runs.{Run, State, StepsTo, place_of, word_at}
use Rattle.xp_board.specs.Sound.{Sound, SoundState, hand_of}
use Rattle.xp_board.specs.Steps.{some_since}
use Rattle.xp_board.proofs.StepLists.{before_more, between_more, found_before, hit_left, since_more, since_within}
use Rattle.sound_rule.proofs.OwnRun.{RunsSound}
use Rattle.type_rule.proofs.DomainLaw.{by_owner, owned_by}
use Rattle.dead_domains.specs.Buried.{HasBuried, IsInList, LeavesOnlyListed}
use Rattle.dead_domains.specs.Holders.{LeftToOthers}
use Rattle.dead_domains.specs.Moments.{WasMade}
use Rattle.dead_domains.specs.Stopped.{GainsNothing, IsStopped}
use Rattle.dead_domains.proofs.Halves.{stepped}
use Rattle.dead_domains.proofs.Joined.{LifeWordsLeft, StepsHaveStates, is_dead, stopped_as}
use Rattle.dead_domains.proofs.LifeRuns.{own_steps, same_steps}
use Rattle.dead_domains.proofs.Lists.{all_stopped, owned_inside}
use Rattle.dead_domains.proofs.StoppedRuns.{RunsBringNothing}

-- the newest step was made later than all those that showed the vCPUs stopped
stopped_without : (n : Machine) (s d since : ℕ) (u h : Holdings) (x : Made) → u.steps ≡ x ∷ h.steps → since ≤ length h.steps → HasStopped n s d since u → HasStopped n s d since h
stopped_without n s d since u h x more late y =
    record {
      since = y.since;
      stored = elim (before_more (sizes_of n) y.since (Life d) (λ w. w == s + 1) x h.steps (rw more at y.stored)) [
        | inl here ↦ absurd (let a = here.1 in let b = y.order in omega arith)
        | inr there ↦ there
      ];
      stopped = λ v real own. elim (between_more (sizes_of n) y.since since (run_of v) (λ w. w == 1) x h.steps (rw more at (y.stopped v real own))) [
        | inl here ↦ absurd (let a = here.1 in omega arith)
        | inr there ↦ there
      ];
      order = y.order;
    }

still_other : (n : Machine) (m m2 : Place → ℕ) (d f : ℕ) → GainsNothing n m m2 → IsStopped n m d → is_owned_by d (m (Refs f)) ≡ false → is_owned_by d (m2 (Refs f)) ≡ false
still_other n m m2 d f gains all was =
    elim (cases_Bool (is_owned_by d (m2 (Refs f)))) [
      | inl now ↦ absurd (let e = by_owner d (m (Refs f)) (gains.frames d f all (owned_by d (m2 (Refs f)) now)) in cc)
      | inr off ↦ off
    ]

module _ (sound : RunsSound) (brings : RunsBringNothing) (n : Machine) (a : State) (s d : ℕ) (state : SoundState n a.words a.hands) (real : s < (sizes_of n).vcpus) (inside : d < (sizes_of n).domains)
    (alive : word_at n a (Life d) ≢ 255) where
  dying_first : (since : ℕ) → HasStopped n s d since (hand_of a.hands s) → word_at n a (Life d) ≡ s + 1
  dying_first since y =
      found_before (sizes_of n) y.since (Life d) (λ w. w == s + 1) (λ w. w ≢ 0 → (word_at n a (Life d) ≡ w) ⊎ (word_at n a (Life d) ≡ 255)) (hand_of a.hands s).steps
      ((state.sound.found s real).life d) y.stored
      (λ w passes is.
      let same = eqb-true w (s + 1) passes in
      elim (is (let some : w ≢ 0 = omega arith in some)) [
        | inl here ↦ here ∙ same
        | inr dead ↦ absurd (alive dead)
      ])

  Unowned : State → ℕ → Type 0
  Unowned b f = is_owned_by d (word_at n b (Refs f)) ≡ false

  stays : (c b : State) (t : ℕ) (x : Step) (f since : ℕ) → SoundState n c.words c.hands → StepsTo n c t x b → HasStopped n s d since (hand_of c.hands s) → Unowned c f → Unowned b f
  unfolding Unowned
  stays c b t x f since there move stopped was =
      still_other n (memory (sizes_of n) c.words) (memory (sizes_of n) b.words) d f (brings n c b ((t, x) ∷ []) (c, refl, move) there)
      (all_stopped n (memory (sizes_of n) c.words) d s since (hand_of c.hands s) (there.sound.found s real).stopped stopped) was

  pub never_back : (b : State) (log : List (ℕ × Step)) → Run n a log b → (f since : ℕ) → HasStopped n s d since (hand_of b.hands s) →
      IsTrue (some_since (sizes_of n) since (Refs f) (λ w. not (is_owned_by d w)) (hand_of b.hands s).steps) → is_owned_by d (word_at n b (Refs f)) ≡ false
  unfolding Unowned
  never_back b [] run f since stopped seen =
      let stopped_then = subst (λ (q : State). HasStopped n s d since (hand_of q.hands s)) run stopped in
      let seen_then = subst (λ (q : State). IsTrue (some_since (sizes_of n) since (Refs f) (λ w. not (is_owned_by d w)) (hand_of q.hands s).steps)) run seen in
      subst (λ (q : State). Unowned q f) (sym run) ((state.sound.domains.dying d s inside real (dying_first since stopped_then)).other f since stopped_then seen_then)
  never_back b (e ∷ es) run f since stopped seen =
      let c = run.0 in
      let there = sound n a c es run.1 state in
      elim (cases_eq s e.0) [
        | inr off ↦
            let same = same_steps n c b e.0 e.1 there run.2 s off in
            let before = stopped_as n s d since (hand_of b.hands s) (hand_of c.hands s) (sym same) stopped in
            stays c b e.0 e.1 f since there run.2 before (never_back c es run.1 f since before (rw same at seen))
        | inl at ↦
            let now : Made = record { step = e.1; found = word_at n c (place_of n e.1) } in
            let mine : (hand_of b.hands s).steps ≡ now ∷ (hand_of c.hands s).steps = subst (λ t. (hand_of b.hands t).steps ≡ now ∷ (hand_of c.hands t).steps) (sym at) (own_steps n c b e.0 e.1 there run.2) in
            elim (since_more (sizes_of n) since (Refs f) (λ w. not (is_owned_by d w)) now (hand_of c.hands s).steps (rw mine at seen)) [
              | inl here ↦ not-true (is_owned_by d (word_at n b (Refs f))) (hit_left (sizes_of n) (memory (sizes_of n) b.words) (Refs f) (λ w. not (is_owned_by d w)) now (sym ((stepped n c b e.0 e.1 there run.2).here)) here.0)
              | inr earlier ↦
                  let late = since_within (sizes_of n) since (Refs f) (λ w. not (is_owned_by d w)) (hand_of c.hands s).steps earlier in
                  let before = stopped_without n s d since (hand_of b.hands s) (hand_of c.hands s) now mine (omega arith) stopped in
                  stays c b e.0 e.1 f since there run.2 before (never_back c es run.1 f since before earlier)
            ]
      ]

-- ---- not dead at first
module _ (sound : RunsSound) (brings : RunsBringNothing) (n : Machine) (a : State) (s d : ℕ) (state : SoundState n a.words a.hands) (real : s < (sizes_of n).vcpus) where
  low_number : s + 1 ≢ 255
  low_number at = let few = state.sound.machine.few_vcpus in absurd (omega (arith, few, real, at))

  pub lived : (b : State) (log : List (ℕ × Step)) → Run n a log b → IsTrue (some_since (sizes_of n) (length (hand_of a.hands s).steps) (Life d) (λ w. w == s + 1) (hand_of b.hands s).steps) → word_at n a (Life d) ≢ 255
  lived b [] run seen dead =
      let within = since_within (sizes_of n) (length (hand_of a.hands s).steps) (Life d) (λ w. w == s + 1) (hand_of b.hands s).steps seen in
      let same : length (hand_of b.hands s).steps ≡ length (hand_of a.hands s).steps = ap (λ (q : State). length (hand_of q.hands s).steps) run in
      absurd (omega (arith, within, same))
  lived b (e ∷ es) run seen dead =
      let c = run.0 in
      let there = sound n a c es run.1 state in
      elim (cases_eq s e.0) [
        | inr off ↦ lived c es run.1 (subst (λ xs. IsTrue (some_since (sizes_of n) (length (hand_of a.hands s).steps) (Life d) (λ w. w == s + 1) xs)) (same_steps n c b e.0 e.1 there run.2 s off) seen) dead
        | inl at ↦
            let now : Made = record { step = e.1; found = word_at n c (place_of n e.1) } in
            let mine : (hand_of b.hands s).steps ≡ now ∷ (hand_of c.hands s).steps = subst (λ t. (hand_of b.hands t).steps ≡ now ∷ (hand_of c.hands t).steps) (sym at) (own_steps n c b e.0 e.1 there run.2) in
            elim (since_more (sizes_of n) (length (hand_of a.hands s).steps) (Life d) (λ w. w == s + 1) now (hand_of c.hands s).steps (rw mine at seen)) [
              | inl here ↦
                  let left = eqb-true (word_at n b (Life d)) (s + 1) (hit_left (sizes_of n) (memory (sizes_of n) b.words) (Life d) (λ w. w == s + 1) now (sym ((stepped n c b e.0 e.1 there run.2).here)) here.0) in
                  low_number (sym left ∙ (brings n a b (e ∷ es) run state).dead d dead)
              | inr earlier ↦ lived c es run.1 earlier dead
            ]
      ]

-- ---- a burial in a run
abbrev pub OthersHold : Type 0
OthersHold =
    (n : Machine) (m : Place → ℕ) (h : ℕ → Holdings) (d g : ℕ) → Sound n m h → d < (sizes_of n).domains → m (Life d) ≡ 255 → owner_of (m (Refs g)) ≡ Some d → LeftToOthers n m h d g

module _ (lives : LifeWordsLeft) (states : StepsHaveStates) (sound : RunsSound) (brings : RunsBringNothing) (hold : OthersHold) (n : Machine) (a b : State) (log : List (ℕ × Step)) (s d op : ℕ) (lines : List LogLine)
    (state : SoundState n a.words a.hands) (run : Run n a log b) (real : s < (sizes_of n).vcpus)
    (y : HasBuried n s d op (length (hand_of a.hands s).steps) (hand_of b.hands s) lines) where
  was : WasMade n a b s y.before y.step
  was = states n a b log s y.before y.after y.step run state real y.steps y.made

  there : SoundState n was.before.words was.before.hands
  there = sound n a was.before was.early was.led state

  alive : word_at n a (Life d) ≢ 255
  alive =
      lived sound brings n a s d state real was.before was.early was.led
      (subst (λ xs. IsTrue (some_since (sizes_of n) (length (hand_of a.hands s).steps) (Life d) (λ w. w == s + 1) xs)) (sym was.steps) y.doomed)

  inside : d < (sizes_of n).domains
  unfolding is_place
  inside = let here : IsTrue (is_place (sizes_of n) (Life d)) = subst (λ p. IsTrue (is_place (sizes_of n) p)) y.place was.step.legal.place in grind (arith, nat_tests)

  same : (hand_of was.before.hands s).steps ≡ y.then.steps
  same = was.steps ∙ sym y.then_is

  stopped_then : HasStopped n s d y.listed.since (hand_of was.before.hands s)
  stopped_then = stopped_as n s d y.listed.since y.then (hand_of was.before.hands s) same y.listed.stopped

  -- all vCPUs of the domain were stopped then, so that no frame came to it later
  all_then : IsStopped n (memory (sizes_of n) was.before.words) d
  all_then = all_stopped n (memory (sizes_of n) was.before.words) d s y.listed.since (hand_of was.before.hands s) (there.sound.found s real).stopped stopped_then

  own_then : (g : ℕ) → owner_of (word_at n b (Refs g)) ≡ Some d → owner_of (word_at n was.before (Refs g)) ≡ Some d
  own_then g own =
      let first = brings n was.before was.behind ((s, y.step.step) ∷ []) (was.before, refl, was.step) there in
      let behind = sound n was.before was.behind ((s, y.step.step) ∷ []) (was.before, refl, was.step) there in
      first.frames d g all_then ((brings n was.behind b was.late was.leads behind).frames d g (λ v real of. first.stopped v (all_then v real of)) own)

  in_list : (g : ℕ) → owner_of (word_at n b (Refs g)) ≡ Some d → IsInList d op g lines
  in_list g own =
      let words = memory (sizes_of n) was.before.words in
      elim (y.listed.frames g (owned_inside n words (hand_of was.before.hands) d g there.sound (own_then g own))) [
        | inl other ↦
            absurd
            (let off = never_back sound brings n a s d state real inside alive was.before was.early was.led g y.listed.since stopped_then (rw same other) in
            let on = by_owner d (words (Refs g)) (own_then g own) in cc)
        | inr line ↦ record { word = line.word; line = line.line; owned = line.owned; counted = line.counted }
      ]

  pub leaves_only : LeavesOnlyListed n d op lines (word_at n b) (hand_of b.hands)
  leaves_only =
      let dead = is_dead lives states sound brings n a b log s d y.before y.after y.step state run real y.steps y.made y.place y.act in
      record { dead = dead; listed = in_list; held = λ g own. hold n _ _ d g (sound n a b log run state).sound inside dead own }
