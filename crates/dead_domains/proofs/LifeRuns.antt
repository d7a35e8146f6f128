-- The life word of a domain that a vCPU destroys, over a run; and the state in which a step of a run was made.
use Rattle.std.proofs.Common.{◌≡◌, ◌≢◌, ℕ, ◌+◌, ◌<◌, ◌≤◌, List, [], ◌∷◌, ◌++◌, length, Some, refl, sym, ap, ◌∙◌, subst, inl, inr, arith}
use Rattle.std.proofs.lemmas.Bool.{cases_eq}
use Rattle.xp_words.specs.Machine.{Machine}
use Rattle.xp_words.specs.declared.place.Place.{Place}
use Rattle.xp_words.specs.declared.place.Place.TheVariants.{Life}
use Rattle.xp_words.specs.Places.{sizes_of, memory}
use Rattle.xp_board.specs.declared.step.Step.{Step}
use Rattle.xp_board.specs.declared.holdings.Made.{Made}
use Rattle.xp_board.specs.declared.holdings.Holdings.{Holdings}
use Rattle.xp_board.specs.Legal.{Legal}
use Rattle.xp_board.specs.Runs.{State, Stepped, Run, StepsTo, place_of, word_at}
use Rattle.xp_board.specs.Sound.{Sound, SoundState, hand_of}
use Rattle.xp_board.specs.Steps.{last_since}
use Rattle.xp_board.proofs.MoreSteps.{last_since-cases, none_last}
use Rattle.sound_rule.proofs.OwnRun.{RunsSound, steps_after}
use Rattle.dead_domains.specs.Moments.{WasMade}
use Rattle.dead_domains.specs.Stopped.{KeepsDying}
use Rattle.dead_domains.proofs.Halves.{stepped}

abbrev pub StepsKeepDying : Type 0
StepsKeepDying =
    (n : Machine) (s : ℕ) (x : Step) (m m2 : Place → ℕ) (h h2 : ℕ → Holdings) → s < (sizes_of n).vcpus → Legal n s (h s) x →
    Stepped n s x m m2 h h2 → Sound n m h → KeepsDying n s x m m2

-- ---- one step of a run
module _ (n : Machine) (c b : State) (t : ℕ) (x : Step) (sound : SoundState n c.words c.hands) (move : StepsTo n c t x b) where
  abbrev go : Stepped n t x (memory (sizes_of n) c.words) (memory (sizes_of n) b.words) (hand_of c.hands) (hand_of b.hands)
  go = stepped n c b t x sound move

  -- the vCPU that makes it has made one step more
  pub own_steps : (hand_of b.hands t).steps ≡ record { step = x; found = word_at n c (place_of n x) } ∷ (hand_of c.hands t).steps
  own_steps = ap (λ (u : Holdings). u.steps) go.mine ∙ steps_after n t (hand_of c.hands t) x (word_at n c (place_of n x))

  pub same_steps : (s : ℕ) → s ≢ t → (hand_of b.hands s).steps ≡ (hand_of c.hands s).steps
  same_steps s off = ap (λ (u : Holdings). u.steps) (go.others s off)

-- ---- life words
pub life_left : StepsKeepDying → RunsSound → (n : Machine) (a b : State) (log : List (ℕ × Step)) (s d : ℕ) → Run n a log b → SoundState n a.words a.hands → s < (sizes_of n).vcpus →
    last_since (sizes_of n) (length (hand_of a.hands s).steps) (Life d) (hand_of b.hands s).steps ≡ Some (s + 1) → word_at n b (Life d) ≡ s + 1
life_left step law n a b [] s d run state real last =
    absurd
    (none_last (sizes_of n) (length (hand_of a.hands s).steps) (Life d) (s + 1) (hand_of a.hands s).steps (omega arith)
    (ap (λ (q : State). last_since (sizes_of n) (length (hand_of a.hands s).steps) (Life d) (hand_of q.hands s).steps) (sym run) ∙ last))
life_left step law n a b (e ∷ es) s d run state real last =
    let c = run.0 in
    let there = law n a c es run.1 state in
    let k = length (hand_of a.hands s).steps in
    let step_to = stepped n c b e.0 e.1 there run.2 in
    elim (cases_eq s e.0) [
      | inr off ↦
          let before = life_left step law n a c es s d run.1 state real (ap (λ xs. last_since (sizes_of n) k (Life d) xs) (sym (same_steps n c b e.0 e.1 there run.2 s off)) ∙ last) in
          elim (step n e.0 e.1 (memory (sizes_of n) c.words) (memory (sizes_of n) b.words) (hand_of c.hands) (hand_of b.hands) run.2.vcpu run.2.legal step_to there.sound d s real before) [
            | inl kept ↦ kept
            | inr own ↦ absurd (off (sym own.0))
          ]
      | inl at ↦
          let mine : (hand_of b.hands s).steps ≡ record { step = e.1; found = word_at n c (place_of n e.1) } ∷ (hand_of c.hands s).steps =
          subst (λ t. (hand_of b.hands t).steps ≡ record { step = e.1; found = word_at n c (place_of n e.1) } ∷ (hand_of c.hands t).steps) (sym at) (own_steps n c b e.0 e.1 there run.2) in
          elim (last_since-cases (sizes_of n) k (Life d) (s + 1) (record { step = e.1; found = word_at n c (place_of n e.1) }) (hand_of c.hands s).steps (ap (λ xs. last_since (sizes_of n) k (Life d) xs) (sym mine) ∙ last)) [
            | inl here ↦ subst (λ p. word_at n b p ≡ s + 1) here.0 (step_to.here ∙ here.1)
            | inr away ↦ step_to.elsewhere (Life d) (λ q. away.0 (sym q)) ∙ life_left step law n a c es s d run.1 state real away.1
          ]
    ]

-- ---- moments
longer : (xs ys : List Made) (y : Made) → length xs < length (ys ++ (y ∷ xs))
longer xs [] y = omega arith
longer xs (x ∷ ys) y = let r = longer xs ys y in omega arith

module _ (n : Machine) (a c b : State) (s : ℕ) (e : ℕ × Step) (xs : List Made) (y : Made) (move : StepsTo n c e.0 e.1 b) where
  made_before : WasMade n a c s xs y → WasMade n a b s xs y
  made_before w =
      record {
        before = w.before;
        behind = w.behind;
        early = w.early;
        late = e ∷ w.late;
        led = w.led;
        step = w.step;
        leads = (c, w.leads, move);
        steps = w.steps;
        found = w.found;
      }

module _ (n : Machine) (a c b : State) (es : List (ℕ × Step)) (s t : ℕ) (x : Step) (xs : List Made) (y : Made) (led : Run n a es c) (move : StepsTo n c t x b) (at : s ≡ t) where
  -- the newest step is that one, or it is an earlier one
  newest : (ys : List Made) → ◌≡◌ {A = List Made} (record { step = x; found = word_at n c (place_of n x) } ∷ (hand_of c.hands s).steps) (ys ++ (y ∷ xs)) →
      ((zs : List Made) → (hand_of c.hands s).steps ≡ zs ++ (y ∷ xs) → WasMade n a c s xs y) → WasMade n a b s xs y
  newest [] eq rec =
      let head : ◌≡◌ {A = Made} (record { step = x; found = word_at n c (place_of n x) }) y = cc in
      let tail : (hand_of c.hands s).steps ≡ xs = cc in
      let same : x ≡ y.step = ap (λ (q : Made). q.step) head in
      record {
        before = c;
        behind = b;
        early = es;
        late = [];
        led = led;
        step = subst (λ (q : Step). StepsTo n c s q b) same (subst (λ r. StepsTo n c r x b) (sym at) move);
        leads = refl;
        steps = tail;
        found = sym (ap (λ (q : Made). q.found) head) ∙ ap (λ (q : Step). word_at n c (place_of n q)) same;
      }
  newest (z ∷ zs) eq rec =
      let tail : (hand_of c.hands s).steps ≡ zs ++ (y ∷ xs) = cc in
      made_before n a c b s (t, x) xs y move (rec zs tail)

pub was_made : RunsSound → (n : Machine) (a b : State) (log : List (ℕ × Step)) (s : ℕ) (xs ys : List Made) (y : Made) → Run n a log b → SoundState n a.words a.hands → s < (sizes_of n).vcpus →
    (hand_of b.hands s).steps ≡ ys ++ (y ∷ xs) → length (hand_of a.hands s).steps ≤ length xs → WasMade n a b s xs y
was_made law n a b [] s xs ys y run state real steps late =
    absurd
    (let same : length (hand_of a.hands s).steps ≡ length (ys ++ (y ∷ xs)) = ap (λ (q : State). length (hand_of q.hands s).steps) (sym run) ∙ ap (λ (zs : List Made). length zs) steps in
    let more = longer xs ys y in omega arith)
was_made law n a b (e ∷ es) s xs ys y run state real steps late =
    let c = run.0 in
    let there = law n a c es run.1 state in
    elim (cases_eq s e.0) [
      | inr off ↦ made_before n a c b s e xs y run.2 (was_made law n a c es s xs ys y run.1 state real (sym (same_steps n c b e.0 e.1 there run.2 s off) ∙ steps) late)
      | inl at ↦
          let mine : (hand_of b.hands s).steps ≡ record { step = e.1; found = word_at n c (place_of n e.1) } ∷ (hand_of c.hands s).steps =
          subst (λ t. (hand_of b.hands t).steps ≡ record { step = e.1; found = word_at n c (place_of n e.1) } ∷ (hand_of c.hands t).steps) (sym at) (own_steps n c b e.0 e.1 there run.2) in
          newest n a c b es s e.0 e.1 xs y run.1 run.2 at ys (sym mine ∙ steps) (λ zs there_steps. was_made law n a c es s xs zs y run.1 state real there_steps late)
    ]
