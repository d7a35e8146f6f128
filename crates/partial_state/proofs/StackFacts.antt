-- What entries that are done with leave of the tables in work.
use Rattle.std.proofs.Common.{◌≡◌, ◌+◌, ◌-◌, ◌<◌, List, [], ◌∷◌, refl, ap, arith}
use Rattle.partial_state.specs.declared.stack.TableWork.{TableWork}
use Rattle.partial_state.specs.Stacks.{IsStack, IsUnder, advanced, done_on_top, left_on_top, retreated}

pub stack_advanced : (s : List TableWork) → IsStack s → 0 < left_on_top s → IsStack (advanced s)
stack_advanced [] is b = tt
stack_advanced (t ∷ ts) is b = (record { low = is.0.low; high = is.0.high; done = omega arith }, is.1, is.2)

pub stack_retreated : (s : List TableWork) → IsStack s → IsStack (retreated s)
stack_retreated [] is = tt
stack_retreated (t ∷ ts) is = (let d = is.0.done in record { low = is.0.low; high = is.0.high; done = omega arith }, is.1, is.2)

-- a table is under the same one as before
pub under_advanced : (u : TableWork) (s : List TableWork) → IsUnder u s → IsUnder u (advanced s)
under_advanced u [] under = under
under_advanced u (t ∷ ts) under = under

pub retreated-advanced : (s : List TableWork) → retreated (advanced s) ≡ s
retreated-advanced [] = refl
retreated-advanced (t ∷ ts) = ap (λ d. record t { done = d } ∷ ts) (let e : t.done + 1 - 1 ≡ t.done = omega arith in e)

pub advanced-retreated : (s : List TableWork) → 0 < done_on_top s → advanced (retreated s) ≡ s
advanced-retreated [] b = refl
advanced-retreated (t ∷ ts) b = ap (λ d. record t { done = d } ∷ ts) (let e : t.done - 1 + 1 ≡ t.done = omega arith in e)
