-- Two passes, taken from a list and put into one.
use Rattle.std.proofs.Common.{◌≡◌, ℕ, ◌<◌, List, [], ◌∷◌, ◌++◌, None, Some, length, sym, ap, ◌∙◌, subst, arith, length-append}
use mathlib.Core.Option.{some-injective}
use Rattle.xp_words.specs.Machine.{Machine}
use Rattle.xp_board.specs.declared.holdings.Holdings.{Holdings}
use Rattle.thread_board.specs.OneRun.{OneRun}
use Rattle.xp_words.specs.Machine.{IsMachine}
use Rattle.xp_words.specs.Places.{run_of, sizes_of}
use Rattle.xp_board.specs.Told.{Post, PortValue}
use Rattle.xp_board.specs.declared.step.Act.TheVariants.{Load}
use Rattle.xp_board.specs.declared.step.StepKind.TheVariants.{Look}
use Rattle.step_maker.specs.Holds.{Holds, MayWork}
use Rattle.step_maker.specs.Moves.{Moves}
use Rattle.thread_board.specs.Values.{BoardValue, PassValue, AreOpened, opened_pass, held_by}
use Rattle.thread_board.proofs.Dealing.{opened_is}
use Rattle.atomic_table.specs.Seated.{TableId}
use Rattle.thread_tests.specs.Two.{IsIdlePass}

pub two_are : (xs ys zs : List PassValue) (a b : PassValue) → xs ≡ [] → ys ≡ xs ++ a ∷ [] → zs ≡ ys ++ b ∷ [] → zs ≡ a ∷ b ∷ []
two_are xs ys zs a b none one two = two ∙ ap (λ (l : List PassValue). l ++ b ∷ []) (one ∙ ap (λ (l : List PassValue). l ++ a ∷ []) none)

pub two_closed : (n : Machine) (opening words : List ℕ) (zs : List PassValue) (a b : PassValue) → zs ≡ a ∷ b ∷ [] → OneRun n opening words (held_by zs) →
    (x : Holdings) × (y : Holdings) × OneRun n opening words (x ∷ y ∷ [])
two_closed n opening words zs a b all c = (a.holdings, b.holdings, subst (λ (l : List PassValue). OneRun n opening words (held_by l)) all c)

pub two_opened : (t : TableId) (xs ys zs : List PassValue) (a b : PassValue) → length xs ≡ 2 → AreOpened t xs → xs ≡ ys ++ b ∷ [] → ys ≡ zs ++ a ∷ [] → (a ≡ opened_pass t 0) × (b ≡ opened_pass t 1)
two_opened t xs ys [] a b count own is was =
    let all : xs ≡ a ∷ b ∷ [] = is ∙ ap (λ (l : List PassValue). l ++ b ∷ []) was in
    let both : AreOpened t (a ∷ b ∷ []) = subst (AreOpened t) all own in
    (some-injective a (opened_pass t 0) (both 0 (omega arith)), some-injective b (opened_pass t 1) (both 1 (omega arith)))
two_opened t xs ys (z ∷ zs) a b count own is was =
    let long = length-append (z ∷ zs) (a ∷ []) in
    let longer = length-append ys (b ∷ []) in
    absurd (omega (arith, count, ap length is, ap length was, long, longer))

-- a vCPU that has found itself running may work
pub may_work : (v w : PortValue) (found : ℕ) → Moves v w (run_of v.post.vcpu) Load Look None found → Holds v w (record v.holdings { run = Some found }) → found ≡ 0 → v.holdings.walk ≡ None → MayWork w
may_work v w found moves holds zero_found walk =
    record {
      running = ap (λ (x : PortValue). x.holdings.run) holds ∙ ap Some zero_found;
      no_walk = ap (λ (x : PortValue). x.holdings.walk) holds ∙ walk;
      machine = subst (λ (p : Post). IsMachine p.machine) (sym (ap (λ (x : PortValue). x.post) holds)) moves.finds.sound.machine;
    }

-- passes as they were made idle
idle_first : (b : BoardValue) (p : PassValue) (k : ℕ) → p ≡ opened_pass b.table k → k < (sizes_of b.machine).vcpus → IsIdlePass b p
idle_first b p k is real = record { pass = opened_is b p k is real; no_walk = ap (λ (q : PassValue). q.holdings.walk) is }

pub two_idle : (b : BoardValue) (p q : PassValue) → (sizes_of b.machine).vcpus ≡ 2 → (p ≡ opened_pass b.table 0) × (q ≡ opened_pass b.table 1) → IsIdlePass b p × IsIdlePass b q
two_idle b p q two is = (idle_first b p 0 is.0 (omega arith), idle_first b q 1 is.1 (omega arith))
