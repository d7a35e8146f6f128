-- Tables in work as what the vCPU holds, while entries are gone through.
use Rattle.std.proofs.Common.{◌≡◌, ℕ, ◌+◌, ◌-◌, not, Bool, true, false, List, [], ◌∷◌, Option, Some, refl, arith}
use Rattle.std.proofs.lemmas.Bool.Decides.{nat_tests}
use Rattle.xp_words.specs.RefWords.{bit}
use Rattle.xp_board.specs.declared.holdings.Unsettled.{Unsettled}
use Rattle.xp_board.specs.declared.holdings.Work.{Work}
use Rattle.xp_board.specs.Lists.{first_by, changed_by}
use Rattle.xp_board.specs.Hands.{work_on, changed_work}
use Rattle.partial_state.specs.declared.stack.TableWork.{TableWork}
use Rattle.partial_state.specs.Stacks.{advanced, retreated}
use Rattle.partial_state.specs.Works.{AreWorks, IsWorkOn}

-- ---- the newest frame in work is that of the innermost table
pub record HasTop (under_way : Bool) (t : TableWork) (ts : List TableWork) (works : List Work) : Type 0 where
  pub work : Work
  pub others : List Work
  pub are : works ≡ work ∷ others
  pub is : IsWorkOn under_way t work
  pub around : AreWorks (not t.recorded) ts others

pub works_top : (b : Bool) (t : TableWork) (ts : List TableWork) (works : List Work) → AreWorks b (t ∷ ts) works → HasTop b t ts works
works_top b t ts [] are = absurd are
works_top b t ts (e ∷ es) are = record { work = e; others = es; are = refl; is = are.0; around = are.1 }

pub work_here : (b : Bool) (t : TableWork) (e : Work) (es : List Work) → IsWorkOn b t e → work_on t.frame (e ∷ es) ≡ Some e
unfolding first_by
work_here b t e es is = let same = is.frame in grind (arith, nat_tests)

pub work_changed : (b : Bool) (t : TableWork) (e : Work) (es : List Work) (c : Work → Work) → IsWorkOn b t e → changed_work t.frame c (e ∷ es) ≡ c e ∷ es
unfolding changed_by
work_changed b t e es c is = let same = is.frame in grind (arith, nat_tests)

-- ---- an entry
counted : (b c : Bool) (t : TableWork) (d : ℕ) (e : Work) (r : ℕ) (u : Option Unsettled) → IsWorkOn b t e → r + bit c ≡ d → IsWorkOn c (record t { done = d }) (record e { recorded = r; unsettled = u })
counted b c t d e r u is count = record { frame = is.frame; work = is.work; kind = is.kind; unmarked = is.unmarked; recorded = count }

-- the next one of the innermost table is under way
pub works_advanced : (s : List TableWork) (es : List Work) → AreWorks false s es → AreWorks true (advanced s) es
works_advanced [] [] are = tt
works_advanced [] (e ∷ es) are = absurd are
works_advanced (t ∷ ts) [] are = absurd are
works_advanced (t ∷ ts) (e ∷ es) are =
    let r = are.0.recorded in (counted false true t (t.done + 1) e e.recorded e.unsettled are.0 (omega arith), are.1)

-- it is given up
pub works_retreated : (s : List TableWork) (es : List Work) → AreWorks true s es → AreWorks false (retreated s) es
works_retreated [] [] are = tt
works_retreated [] (e ∷ es) are = absurd are
works_retreated (t ∷ ts) [] are = absurd are
works_retreated (t ∷ ts) (e ∷ es) are =
    let r = are.0.recorded in (counted true false t (t.done - 1) e e.recorded e.unsettled are.0 (omega arith), are.1)

-- it is recorded
pub works_recorded : (t : TableWork) (ts : List TableWork) (e : Work) (es : List Work) (u : Option Unsettled) → AreWorks true (t ∷ ts) (e ∷ es) → AreWorks false (t ∷ ts) (record e { recorded = e.recorded + 1; unsettled = u } ∷ es)
works_recorded t ts e es u are =
    let r = are.0.recorded in (counted true false t t.done e (e.recorded + 1) u are.0 (omega arith), are.1)
