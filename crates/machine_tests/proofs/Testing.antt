-- A vCPU of a fresh board at work, and what it may ask another one.
use Rattle.std.proofs.Common.{◌≡◌, ℕ, ◌<◌, ◌≤◌, ◌==◌, nat_le, [], length, Some, None, IsTrue, refl, sym, ap, ◌∙◌, subst, inl, inr, arith}
use Rattle.std.proofs.lemmas.Bool.{cases_eq, le-leb}
use Rattle.xp_words.specs.Machine.{IsMachine, Machine}
use Rattle.xp_words.specs.declared.place.Place.TheVariants.{Clock}
use Rattle.xp_words.specs.Places.{memory, sizes_of, run_of, flushed_of}
use Rattle.xp_board.specs.declared.step.Act.TheVariants.{Load}
use Rattle.xp_board.specs.declared.step.StepKind.TheVariants as kinds
use Rattle.xp_board.specs.Acts.{left_by}
use Rattle.xp_board.specs.AskSteps.{MayAsk}
use Rattle.xp_board.specs.declared.holdings.Holdings.{Holdings}
use Rattle.xp_board.specs.Hands.{typed_to, work_on}
use Rattle.xp_board.specs.Lists.{first_by, times_by}
use Rattle.xp_board.specs.Readings.{domain_of}
use Rattle.xp_board.specs.Sound.{hand_of}
use Rattle.xp_board.specs.Steps.{some_since}
use Rattle.xp_board.specs.Told.{Post, PortValue, run_or}
use Rattle.xp_board.proofs.Sums.{when_eq as is_test}
use Rattle.step_maker.specs.Holds.{Holds, Rests}
use Rattle.step_maker.specs.Moves.{Came, Moves}
use Rattle.step_maker.proofs.Coming.{came_post, moves_came}
use Rattle.step_maker.proofs.Noting.{moves_before, moves_keeps, moves_since, moves_steps}
use Rattle.step_maker.proofs.Wending.{came_goes}
use Rattle.shared_board.specs.Board.{Board, port_value}
use Rattle.xp_machine.specs.Ready.{Idles, IsOf, TakesFresh, fresh}
use Rattle.xp_machine.proofs.Fresh.{of_fresh}
use Rattle.xp_machine.proofs.Moving.{of_other, stepping}

-- ---- a look at the own run word
found_run : (v w : PortValue) (x : ℕ) → Holds v w (record v.holdings { run = Some x }) → Idles v → Idles w
found_run v w x hand idles =
    record {
      empty = record {
        refs = ap (λ (y : PortValue). y.holdings.refs) hand ∙ idles.empty.refs;
        typed = ap (λ (y : PortValue). y.holdings.typed) hand ∙ idles.empty.typed;
        works = ap (λ (y : PortValue). y.holdings.works) hand ∙ idles.empty.works;
        locks = ap (λ (y : PortValue). y.holdings.locks) hand ∙ idles.empty.locks;
        ending = ap (λ (y : PortValue). y.holdings.ending) hand ∙ idles.empty.ending;
        claimed = ap (λ (y : PortValue). y.holdings.claimed) hand ∙ idles.empty.claimed;
        raised = ap (λ (y : PortValue). y.holdings.raised) hand ∙ idles.empty.raised;
        credits = ap (λ (y : PortValue). y.holdings.credits) hand ∙ idles.empty.credits;
        looking = ap (λ (y : PortValue). y.holdings.looking) hand ∙ idles.empty.looking;
      };
      no_walk = ap (λ (y : PortValue). y.holdings.walk) hand ∙ idles.no_walk;
      machine = subst IsMachine (sym (ap (λ (y : PortValue). y.post.machine) hand)) idles.machine;
      warm = ap (λ (y : PortValue). y.holdings.cold) hand ∙ idles.warm;
    }

pub rests_then : (v w : PortValue) (x : ℕ) → Idles v → Holds v w (record v.holdings { run = Some x }) → x ≡ 0 → Rests w
rests_then v w x idles hand is =
    let now = found_run v w x hand idles in
    record {
      may = record { running = ap (λ (y : PortValue). y.holdings.run) hand ∙ ap (λ k. Some k) is; no_walk = now.no_walk; machine = now.machine };
      empty = now.empty;
    }

pub fresh_idles : (b b1 : Board) (s s1 : ℕ) → b1 ≡ b → s1 ≡ s → s < (sizes_of b.machine).vcpus → TakesFresh b → Idles (port_value b1 s1)
unfolding TakesFresh
fresh_idles b b1 s s1 same vcpu real takes = subst Idles (λ i. port_value (sym same i) (sym vcpu i)) (takes s [] real).idles

-- ---- the ask

-- The clock was found, then the other vCPU running and flushed no later.
pub may_ask : (u v w x : PortValue) (k clock run flushed : ℕ) → Moves u v Clock Load kinds.Look None clock → Moves v w (run_of k) Load kinds.Look None run → Moves w x (flushed_of k) Load kinds.Look None flushed →
    run ≡ 0 → flushed ≤ clock → MayAsk x.post.machine k clock x.holdings
unfolding left_by
may_ask u v w x k clock run flushed first second third idle behind =
    let since = length v.holdings.steps in
    let one : length u.holdings.steps < length v.holdings.steps = subst (λ n. length u.holdings.steps < n) (sym (ap length (moves_steps u v Clock Load kinds.Look None clock first))) (omega arith) in
    let two : length v.holdings.steps ≤ length w.holdings.steps = subst (λ n. length v.holdings.steps ≤ n) (sym (ap length (moves_steps v w (run_of k) Load kinds.Look None run second))) (omega arith) in
    let same : v.post ≡ u.post = came_post u v (moves_came u v Clock Load kinds.Look None clock first) in
    let again : w.post ≡ v.post = came_post v w (moves_came v w (run_of k) Load kinds.Look None run second) in
    let later : x.post ≡ w.post = came_post w x (moves_came w x (flushed_of k) Load kinds.Look None flushed third) in
    subst (λ (q : Post). MayAsk q.machine k clock x.holdings) (sym (later ∙ again ∙ same))
    (record {
      since = since;
      awaits = inr (inr (moves_keeps w x (flushed_of k) Load kinds.Look None flushed third _ (moves_keeps v w (run_of k) Load kinds.Look None run second _
          (moves_before u v Clock Load kinds.Look None clock first since (λ y. y == clock) one (is_test clock clock refl)))));
      running = subst (λ (q : Post). IsTrue (some_since (sizes_of q.machine) since (run_of k) (λ y. y == 0) x.holdings.steps)) same
          (moves_keeps w x (flushed_of k) Load kinds.Look None flushed third _
          (moves_since v w (run_of k) Load kinds.Look None run second since (λ y. y == 0) (omega arith) (is_test run 0 idle)));
      flushed = subst (λ (q : Post). IsTrue (some_since (sizes_of q.machine) since (flushed_of k) (λ y. nat_le y clock) x.holdings.steps)) (again ∙ same)
          (moves_since w x (flushed_of k) Load kinds.Look None flushed third since (λ y. nat_le y clock) two (le-leb flushed clock behind));
    })

-- ---- the board afterwards
-- what one port of the board did
takes_next : (b b2 : Board) (s : ℕ) → b2.machine ≡ b.machine → s < (sizes_of b.machine).vcpus → length b.story.hands ≡ (sizes_of b.machine).vcpus → Came (port_value b s) (port_value b2 s) →
    Holds (port_value b s) (port_value b2 s) (record (hand_of b.story.hands s) { run = Some 0 }) → TakesFresh b → TakesFresh b2
unfolding TakesFresh
takes_next b b2 s machine real hands came hand takes t script there =
    let v = port_value b s in
    let w = port_value b2 s in
    let idles : Idles w = found_run v w 0 hand (takes s [] real).idles in
    let moved = (stepping b b2 s real hands (came_goes v w came) idles.empty).moved in
    elim (cases_eq t s) [
      | inl own ↦
          rw own
          (of_fresh (port_value b2 s) script (record { empty = idles.empty; no_walk = idles.no_walk; machine = idles.machine; warm = idles.warm })
          (ap (λ (y : PortValue). run_or (memory (sizes_of b2.machine) b2.story.opening (run_of s)) y.holdings.run) hand))
      | inr off ↦
          subst (λ (n : Machine). IsOf (port_value b2 t) (fresh n.frames t (domain_of n t) script)) (sym machine)
          (of_other b b2 t (fresh b.machine.frames t (domain_of b.machine t) script) machine moved.opening (moved.others t off)
          (takes t script (subst (λ (n : Machine). t < (sizes_of n).vcpus) machine there)))
    ]

-- as the code has it
pub takes_after : (b b1 b2 : Board) (s s1 s2 : ℕ) → b1 ≡ b → s1 ≡ s → s < (sizes_of b.machine).vcpus → length b.story.hands ≡ (sizes_of b.machine).vcpus → Came (port_value b1 s1) (port_value b2 s2) →
    Holds (port_value b1 s1) (port_value b2 s2) (record (hand_of b1.story.hands s1) { run = Some 0 }) → TakesFresh b → TakesFresh b2
takes_after b b1 b2 s s1 s2 same vcpu real hands came hand takes =
    let post = came_post (port_value b1 s1) (port_value b2 s2) came in
    let vcpu2 : s2 ≡ s = ap (λ (q : Post). q.vcpu) post ∙ vcpu in
    let machine2 : b2.machine ≡ b.machine = ap (λ (q : Post). q.machine) post ∙ ap (λ (x : Board). x.machine) same in
    let before : port_value b1 s1 ≡ port_value b s = λ i. port_value (same i) (vcpu i) in
    let after : port_value b2 s2 ≡ port_value b2 s = λ i. port_value b2 (vcpu2 i) in
    takes_next b b2 s machine2 real hands
    (subst (λ v. Came v (port_value b2 s)) before (subst (λ w. Came (port_value b1 s1) w) after came))
    (subst (λ (v : PortValue). Holds v (port_value b2 s) (record v.holdings { run = Some 0 })) before (subst (λ w. Holds (port_value b1 s1) w (record (hand_of b1.story.hands s1) { run = Some 0 })) after hand))
    takes

pub takes_back : (b c : Board) → b ≡ c → TakesFresh c → TakesFresh b
takes_back b c same takes = subst TakesFresh (sym same) takes

-- ---- what a call for a type asks of a hand that was empty before a reference was taken
pub no_work : (f : ℕ) (v w : PortValue) (h : Holdings) → Holds v w h → h.works ≡ [] → work_on f w.holdings.works ≡ None
unfolding first_by
no_work f v w h hand empty = ap (λ (y : PortValue). work_on f y.holdings.works) hand ∙ ap (work_on f) empty

pub no_type : (f : ℕ) (v w : PortValue) (h : Holdings) → Holds v w h → h.typed ≡ [] → typed_to f w.holdings.typed ≡ 0
unfolding times_by
no_type f v w h hand empty = ap (λ (y : PortValue). typed_to f y.holdings.typed) hand ∙ ap (typed_to f) empty
