-- The steps of a vCPU on a run are those in its hand.
use Rattle.std.proofs.Common.{◌≡◌, ◌≢◌, ℕ, ◌<◌, ◌==◌, List, [], ◌∷◌, ◌++◌, length, Bool, true, false, if◌then◌else◌, arith, refl, sym, ap, ◌∙◌, subst, get_or-set_same, length-set}
use Rattle.std.proofs.lemmas.List.{get_or-set_other, append-nil, length-replicate}
use Rattle.std.proofs.lemmas.Bool.Decides.{nat_tests}
use Rattle.xp_words.specs.Machine.{Machine}
use Rattle.xp_words.specs.Places.{sizes_of}
use Rattle.xp_board.specs.declared.step.Step.{Step}
use Rattle.xp_board.specs.declared.holdings.Made.{Made}
use Rattle.xp_board.specs.declared.holdings.Holdings.{Holdings}
use Rattle.xp_board.specs.After.{after}
use Rattle.xp_board.specs.Hands.{empty}
use Rattle.xp_board.specs.Runs.{State, Run, next, start, place_of, word_at}
use Rattle.xp_board.specs.Sound.{hand_of}
use Rattle.sound_rule.proofs.OwnRun.{steps_after}
use Rattle.shared_board.proofs.Opened.{all_empty}
use Rattle.thread_board.specs.OneRun.{own_steps}

run_hands : (n : Machine) (a b : State) (log : List (ℕ × Step)) → Run n a log b → length b.hands ≡ length a.hands
run_hands n a b [] run = ap (λ (c : State). length c.hands) run
run_hands n a b (e ∷ es) run =
    ap (λ (c : State). length c.hands) run.2.next_is
    ∙ length-set run.0.hands e.0 (after n e.0 (hand_of run.0.hands e.0) e.1 (word_at n run.0 (place_of n e.1)))
    ∙ run_hands n a run.0 es run.1

-- one more step, of vCPU t
one_more : (n : Machine) (s t : ℕ) (x : Step) (c b : State) (own before : List Made) → t < length c.hands → b ≡ next n c t x → (hand_of c.hands s).steps ≡ own ++ before →
    (hand_of b.hands s).steps ≡ (if s == t then record { step = x; found = word_at n c (place_of n x) } ∷ own else own) ++ before
one_more n s t x c b own before there is was = by (s == t) refl
  where
    w : ℕ
    w = word_at n c (place_of n x)

    k : Holdings
    k = after n t (hand_of c.hands t) x w

    now : hand_of b.hands s ≡ hand_of (next n c t x).hands s
    now = ap (λ (a : State). hand_of a.hands s) is

    by : (q : Bool) → (s == t) ≡ q → (hand_of b.hands s).steps ≡ (if q then record { step = x; found = w } ∷ own else own) ++ before
    by true e =
        let same : s ≡ t = grind (arith, nat_tests) in
        let mine : hand_of (next n c t x).hands s ≡ k = subst (λ i. hand_of (next n c t x).hands i ≡ k) (sym same) (get_or-set_same c.hands t k empty there) in
        ap (λ (u : Holdings). u.steps) (now ∙ mine) ∙ steps_after n t (hand_of c.hands t) x w
        ∙ ap (λ (l : List Made). record { step = x; found = w } ∷ l) (subst (λ i. (hand_of c.hands i).steps ≡ own ++ before) same was)
    by false e =
        let off : s ≢ t = grind (arith, nat_tests) in
        ap (λ (u : Holdings). u.steps) (now ∙ get_or-set_other c.hands t s k empty off) ∙ was

pub own_on : (n : Machine) (s : ℕ) (a b : State) (log : List (ℕ × Step)) (run : Run n a log b) → length a.hands ≡ (sizes_of n).vcpus →
    (hand_of b.hands s).steps ≡ own_steps n s a log b run ++ (hand_of a.hands s).steps
own_on n s a b [] run many = ap (λ (c : State). (hand_of c.hands s).steps) run
own_on n s a b (e ∷ es) run many =
    let c = run.0 in
    let there : e.0 < length c.hands = subst (λ k. e.0 < k) (sym (run_hands n a c es run.1 ∙ many)) run.2.vcpu in
    one_more n s e.0 e.1 c b (own_steps n s a es c run.1) (hand_of a.hands s).steps there run.2.next_is (own_on n s a c es run.1 many)

-- from empty hands
pub own_from : (n : Machine) (s : ℕ) (opening : List ℕ) (b : State) (log : List (ℕ × Step)) (run : Run n (start n opening) log b) →
    (hand_of b.hands s).steps ≡ own_steps n s (start n opening) log b run
own_from n s opening b log run =
    own_on n s (start n opening) b log run (length-replicate (sizes_of n).vcpus empty)
    ∙ ap (λ (u : Holdings). own_steps n s (start n opening) log b run ++ u.steps) (all_empty (sizes_of n).vcpus s)
    ∙ append-nil (own_steps n s (start n opening) log b run)
