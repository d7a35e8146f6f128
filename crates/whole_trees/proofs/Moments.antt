-- A step of a vCPU on a run, and the moment before it.
use Rattle.std.proofs.Common.{◌≡◌, ◌≢◌, ◌<◌, ◌==◌, ◌++◌, ℕ, Bool, true, false, List, [], ◌∷◌, length, refl, sym, ap, subst, ◌∙◌, arith, get_or-set_same}
use Rattle.std.proofs.lemmas.List.{get_or-set_other}
use Rattle.std.proofs.lemmas.Bool.Decides.{nat_tests}
use Rattle.xp_words.specs.Machine.{Machine}
use Rattle.xp_words.specs.Places.{sizes_of}
use Rattle.xp_board.specs.declared.holdings.Holdings.{Holdings}
use Rattle.xp_board.specs.declared.holdings.Made.{Made}
use Rattle.xp_board.specs.declared.step.Step.{Step}
use Rattle.xp_board.specs.After.{after}
use Rattle.xp_board.specs.Hands.{empty}
use Rattle.xp_board.specs.Runs.{Run, State, StepsTo, next, place_of, start, word_at}
use Rattle.xp_board.specs.Sound.{SoundState, SoundWords, hand_of}
use Rattle.sound_rule.proofs.OwnRun.{RunsSound, steps_after}
use Rattle.shared_board.proofs.Opened.{all_empty, start_sound}

-- vCPU s made the step on the run, and had made these before
pub record Stood (n : Machine) (opening : List ℕ) (log : List (ℕ × Step)) (s : ℕ) (x : Made) (rest : List Made) : Type 0 where
  pub newer : List (ℕ × Step)
  pub older : List (ℕ × Step)
  pub parts : log ≡ newer ++ ((s, x.step) ∷ older)
  pub before : State
  pub run : Run n (start n opening) older before
  pub steps : (hand_of before.hands s).steps ≡ rest
  pub found : word_at n before (place_of n x.step) ≡ x.found
  pub step : StepsTo n before s x.step (next n before s x.step)

grown : (n : Machine) (opening : List ℕ) (e : ℕ × Step) (es : List (ℕ × Step)) (s : ℕ) (x : Made) (rest : List Made) → Stood n opening es s x rest → Stood n opening (e ∷ es) s x rest
grown n opening e es s x rest k =
    record { newer = e ∷ k.newer; older = k.older; parts = ap (λ l. e ∷ l) k.parts; before = k.before; run = k.run; steps = k.steps; found = k.found; step = k.step }

not_none : (later : List Made) (x : Made) (rest : List Made) → [] ≡ later ++ (x ∷ rest) → ⊥
not_none [] x rest e = absurd cc
not_none (y ∷ ys) x rest e = absurd cc

module _ (n : Machine) (opening : List ℕ) (s : ℕ) (sound : SoundWords n opening) (runs : RunsSound) where
  pub state : (b : State) (log : List (ℕ × Step)) → Run n (start n opening) log b → SoundState n b.words b.hands
  state b log run = runs n (start n opening) b log run (start_sound n opening sound)

  none_first : (hand_of (start n opening).hands s).steps ≡ []
  none_first = ap (λ (h : Holdings). h.steps) (all_empty (sizes_of n).vcpus s)

  module _ (c b : State) (t : ℕ) (y : Step) (es : List (ℕ × Step)) (run : Run n (start n opening) es c) (to : StepsTo n c t y b) where
    abbrev left : Holdings
    left = after n t (hand_of c.hands t) y (word_at n c (place_of n y))

    there : t < length c.hands
    there = subst (λ k. t < k) (sym (state c es run).all_hands) to.vcpu

    now : (hand_of b.hands s).steps ≡ (hand_of (next n c t y).hands s).steps
    now = ap (λ (a : State). (hand_of a.hands s).steps) to.next_is

    mine : s ≡ t → (hand_of b.hands s).steps ≡ record { step = y; found = word_at n c (place_of n y) } ∷ (hand_of c.hands s).steps
    mine same =
        let same_hand : hand_of (next n c t y).hands s ≡ left = subst (λ i. hand_of (next n c t y).hands i ≡ left) (sym same) (get_or-set_same c.hands t left empty there) in
        now ∙ ap (λ (h : Holdings). h.steps) same_hand ∙ steps_after n t (hand_of c.hands t) y (word_at n c (place_of n y))
        ∙ ap (λ i. record { step = y; found = word_at n c (place_of n y) } ∷ (hand_of c.hands i).steps) (sym same)

    other : s ≢ t → (hand_of b.hands s).steps ≡ (hand_of c.hands s).steps
    other off = now ∙ ap (λ (h : Holdings). h.steps) (get_or-set_other c.hands t s left empty off)

    here : s ≡ t → (x : Made) (rest : List Made) → (hand_of b.hands s).steps ≡ x ∷ rest → Stood n opening ((t, y) ∷ es) s x rest
    here same x rest is =
        let e : record { step = y; found = word_at n c (place_of n y) } ∷ (hand_of c.hands s).steps ≡ x ∷ rest = sym (mine same) ∙ is in
        let one : record { step = y; found = word_at n c (place_of n y) } ≡ x = cc in
        let step_is : y ≡ x.step = ap (λ (z : Made). z.step) one in
        record {
          newer = [];
          older = es;
          parts = ap (λ i. (i, y) ∷ es) (sym same) ∙ ap (λ z. (s, z) ∷ es) step_is;
          before = c;
          run = run;
          steps = cc;
          found = ap (λ z. word_at n c (place_of n z)) (sym step_is) ∙ ap (λ (z : Made). z.found) one;
          step =
              subst (λ z. StepsTo n c s z (next n c s z)) step_is
              (subst (λ i. StepsTo n c i y (next n c i y)) (sym same) (record { vcpu = to.vcpu; legal = to.legal; next_is = refl }));
        }

  module _ (c b : State) (t : ℕ) (y : Step) (es : List (ℕ × Step)) (run : Run n (start n opening) es c) (to : StepsTo n c t y b) (x : Made) (rest : List Made)
      (earlier : (ys : List Made) → (hand_of c.hands s).steps ≡ ys ++ (x ∷ rest) → Stood n opening es s x rest) where
    by : (q : Bool) → (s == t) ≡ q → (ys : List Made) → (hand_of b.hands s).steps ≡ ys ++ (x ∷ rest) → Stood n opening ((t, y) ∷ es) s x rest
    by false off ys at =
        let apart : s ≢ t = grind (arith, nat_tests) in
        grown n opening (t, y) es s x rest (earlier ys (sym (other c b t y es run to apart) ∙ at))
    by true on [] at =
        let same : s ≡ t = grind (arith, nat_tests) in
        here c b t y es run to same x rest at
    by true on (z ∷ zs) at =
        let same : s ≡ t = grind (arith, nat_tests) in
        let whole : record { step = y; found = word_at n c (place_of n y) } ∷ (hand_of c.hands s).steps ≡ z ∷ (zs ++ (x ∷ rest)) = sym (mine c b t y es run to same) ∙ at in
        grown n opening (t, y) es s x rest (earlier zs cc)

  pub stood : (b : State) (log : List (ℕ × Step)) (later : List Made) (x : Made) (rest : List Made) → Run n (start n opening) log b → (hand_of b.hands s).steps ≡ later ++ (x ∷ rest) → Stood n opening log s x rest
  stood b [] later x rest run is = absurd (not_none later x rest (sym none_first ∙ ap (λ (a : State). (hand_of a.hands s).steps) (sym run) ∙ is))
  stood b (e ∷ es) later x rest run is = by run.0 b e.0 e.1 es run.1 run.2 x rest (λ ys at. stood run.0 es ys x rest run.1 at) (s == e.0) refl later is
