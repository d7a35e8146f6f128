-- What a vCPU holds is told by its own steps: at a port that began with nothing in hand, and on a run.
use Rattle.std.proofs.Common.{◌≡◌, ◌≢◌, ◌<◌, ◌==◌, ◌++◌, ℕ, Bool, true, false, List, [], ◌∷◌, Option, length, refl, sym, ap, subst, ◌∙◌, arith, get_or-set_same}
use Rattle.std.proofs.lemmas.List.{get_or-set_other}
use Rattle.std.proofs.lemmas.Bool.Decides.{nat_tests}
use Rattle.xp_words.specs.Machine.{Machine}
use Rattle.xp_words.specs.declared.place.Place.{Place}
use Rattle.xp_words.specs.Places.{place_at, sizes_of}
use Rattle.xp_words.proofs.PlaceLaws.{place_back}
use Rattle.xp_board.specs.declared.holdings.Holdings.{Holdings}
use Rattle.xp_board.specs.declared.holdings.Made.{Made}
use Rattle.xp_board.specs.declared.step.Act.{Act}
use Rattle.xp_board.specs.declared.step.Mark.{Mark}
use Rattle.xp_board.specs.declared.step.Step.{Step}
use Rattle.xp_board.specs.declared.step.StepKind.{StepKind}
use Rattle.xp_board.specs.After.{after, after_move, hands_of, noted}
use Rattle.xp_board.specs.Hands.{empty}
use Rattle.xp_board.specs.Runs.{Run, State, StepsTo, next, place_of, start, word_at}
use Rattle.xp_board.specs.Sound.{SoundWords, hand_of}
use Rattle.xp_board.specs.Told.{Post, PortValue}
use Rattle.step_maker.specs.Moves.{Came, Moment, Moves, Ran, step_at}
use Rattle.step_maker.proofs.Coming.{ran_post}
use Rattle.step_maker.proofs.Noting.{made_now, moves_steps}
use Rattle.sound_rule.proofs.OwnRun.{RunsSound, steps_after}
use Rattle.shared_board.proofs.Opened.{all_empty}
use Rattle.whole_trees.specs.Whole.{IsToldBySteps}
use Rattle.whole_trees.proofs.Moments.{state}

-- ---- at a port
one_told : (v w : PortValue) (p : Place) (a : Act) (kind : StepKind) (mark : Option Mark) (found : ℕ) → Moves v w p a kind mark found → IsToldBySteps v.post.machine v.post.vcpu v.holdings → IsToldBySteps v.post.machine v.post.vcpu w.holdings
unfolding hands_of
one_told v w p a kind mark found m was =
    let n = v.post.machine in
    let x = step_at n p a kind mark in
    let here : place_at (sizes_of n) x.place ≡ p = place_back (sizes_of n) p m.may.place in
    ap (λ (y : PortValue). y.holdings) m.to
    ∙ ap (λ h. noted x found (after_move n v.post.vcpu h p a kind mark found)) was
    ∙ ap (λ q. noted x found (after_move n v.post.vcpu (hands_of n v.post.vcpu v.holdings.steps) q a kind mark found)) (sym here)
    ∙ ap (λ xs. hands_of n v.post.vcpu xs) (sym (moves_steps v w p a kind mark found m))

ran_told : (v w : PortValue) (ms : List Moment) → Ran v ms w → IsToldBySteps v.post.machine v.post.vcpu v.holdings → IsToldBySteps v.post.machine v.post.vcpu w.holdings
ran_told v w [] ran was = subst (λ (y : PortValue). IsToldBySteps v.post.machine v.post.vcpu y.holdings) (sym ran) was
ran_told v w (m ∷ ms) ran was =
    let u = ran.0 in
    let at : u.post ≡ v.post = ran_post v u ms ran.1 in
    subst (λ (o : Post). IsToldBySteps o.machine o.vcpu w.holdings) at
    (one_told u w m.place m.act m.kind m.mark m.found ran.2.moves (subst (λ (o : Post). IsToldBySteps o.machine o.vcpu u.holdings) (sym at) (ran_told v u ms ran.1 was)))

-- a port behind it is told by its steps, too
pub told_on : (v w : PortValue) → Came v w → IsToldBySteps v.post.machine v.post.vcpu v.holdings → IsToldBySteps v.post.machine v.post.vcpu w.holdings
unfolding Came
told_on v w came was = ran_told v w came.0 came.1 was

pub none_told : (n : Machine) (s : ℕ) (h : Holdings) → h ≡ empty → IsToldBySteps n s h
unfolding hands_of
none_told n s h none = none ∙ sym (ap (λ (u : Holdings). hands_of n s u.steps) none)

-- steps behind others
ran_more : (v w : PortValue) (ms : List Moment) → Ran v ms w → (more : List Made) × (w.holdings.steps ≡ more ++ v.holdings.steps)
ran_more v w [] ran = ([], ap (λ (y : PortValue). y.holdings.steps) ran)
ran_more v w (m ∷ ms) ran =
    let before = ran_more v ran.0 ms ran.1 in
    let made = made_now (step_at ran.0.post.machine m.place m.act m.kind m.mark) m.found in
    (made ∷ before.0, moves_steps ran.0 w m.place m.act m.kind m.mark m.found ran.2.moves ∙ ap (λ (xs : List Made). made ∷ xs) before.1)

pub came_more : (v w : PortValue) → Came v w → (more : List Made) × (w.holdings.steps ≡ more ++ v.holdings.steps)
unfolding Came
came_more v w came = ran_more v w came.0 came.1

-- ---- on a run
module _ (n : Machine) (opening : List ℕ) (s : ℕ) (sound : SoundWords n opening) (runs : RunsSound) where
  module _ (c b : State) (t : ℕ) (y : Step) (es : List (ℕ × Step)) (run : Run n (start n opening) es c) (to : StepsTo n c t y b) where
    abbrev left : Holdings
    left = after n t (hand_of c.hands t) y (word_at n c (place_of n y))

    there : t < length c.hands
    there = subst (λ k. t < k) (sym (state n opening s sound runs c es run).all_hands) to.vcpu

    now : hand_of b.hands s ≡ hand_of (next n c t y).hands s
    now = ap (λ (a : State). hand_of a.hands s) to.next_is

    mine : s ≡ t → hand_of b.hands s ≡ left
    mine same = now ∙ subst (λ i. hand_of (next n c t y).hands i ≡ left) (sym same) (get_or-set_same c.hands t left empty there)

    other : s ≢ t → hand_of b.hands s ≡ hand_of c.hands s
    other off = now ∙ get_or-set_other c.hands t s left empty off

    told_more : (q : Bool) → (s == t) ≡ q → IsToldBySteps n s (hand_of c.hands s) → IsToldBySteps n s (hand_of b.hands s)
    unfolding hands_of
    told_more false off was =
        let apart : s ≢ t = grind (arith, nat_tests) in
        subst (IsToldBySteps n s) (sym (other apart)) was
    told_more true on was =
        let same : s ≡ t = grind (arith, nat_tests) in
        let w = word_at n c (place_of n y) in
        let here : hand_of b.hands s ≡ after n s (hand_of c.hands s) y w = mine same ∙ ap (λ i. after n i (hand_of c.hands i) y w) (sym same) in
        here ∙ ap (λ h. after n s h y w) was ∙ ap (λ xs. hands_of n s xs) (sym (ap (λ (h : Holdings). h.steps) here ∙ steps_after n s (hand_of c.hands s) y w))

  pub run_told : (b : State) (log : List (ℕ × Step)) → Run n (start n opening) log b → IsToldBySteps n s (hand_of b.hands s)
  unfolding hands_of
  run_told b [] run =
      let none : hand_of b.hands s ≡ empty = ap (λ (a : State). hand_of a.hands s) run ∙ all_empty (sizes_of n).vcpus s in
      none ∙ sym (ap (λ (h : Holdings). hands_of n s h.steps) none)
  run_told b (e ∷ es) run = told_more run.0 b e.0 e.1 es run.1 run.2 (s == e.0) refl (run_told run.0 es run.1)
