-- How much of an operation is done, and that a turn does not undo it: what is done of a multicall goes up with each call that is answered.
use Rattle.std.proofs.Common.{◌≡◌, ◌⊎◌, ℕ, ◌+◌, ◌-◌, ◌<◌, ◌≤◌, List, length, drop, sum_by, slice_get, Option, Some, None, refl, sym, ap, ◌∙◌, subst, inl, inr, arith}
use Rattle.std.proofs.lemmas.List.Sums.{sum_by-drop_more, sum_by-take-drop}
use Rattle.std.proofs.lemmas.Option.{get_or_from_slice_get, slice_get_within}
use Rattle.std.proofs.lemmas.Bool.{cases_eq}
use Rattle.xp_words.specs.declared.ops.Call.{Call}
use Rattle.vcpu_turn.specs.Cpus.{Job, OfCalls, OfDescriptors, OfDestroy, OfExt, OfMapping, OfMem, OfOne, OfPairs, OfRead, OfWrite, Task, begun, begun_at, elements_in, task_called, task_in}
use Rattle.vcpu_turn.specs.declared.cpu.Progress.{Progress}
use Rattle.turn_measures.specs.Measures.{IsWithinJob, call_size, job_size, most_done, size_done}

most_few : (o : Option Task) → most_done o ≤ elements_in o
most_few None = omega arith
most_few (Some (OfPairs foreign list)) = omega arith
most_few (Some (OfExt list)) = omega arith
most_few (Some (OfMem command order items)) = omega arith
most_few (Some (OfMapping foreign va word flags)) = omega arith
most_few (Some (OfDescriptors tables)) = omega arith
most_few (Some (OfRead user va)) = omega arith
most_few (Some (OfWrite user va val)) = omega arith

-- what stands at a number, and what stands behind it
pub sum_next : {A : Type 0} (f : A → ℕ) (xs : List A) (k : ℕ) (x : A) → slice_get xs k ≡ Some x → sum_by f (drop k xs) ≡ f x + sum_by f (drop (k + 1) xs)
sum_next f xs k x at =
    let all = sum_by-drop_more f xs k x (slice_get_within xs k x at) in
    let one = get_or_from_slice_get xs k x x at in
    all ∙ ap (λ y. f y + sum_by f (drop (k + 1) xs)) one

-- ---- what may be done
pub begun_within : (job : Job) → IsWithinJob job begun
begun_within (OfOne task) = omega arith
begun_within (OfCalls calls) = (omega arith, omega arith)
begun_within (OfDestroy domain) = refl

-- of the calls that are not answered
ahead_most : (calls : List Call) (k done : ℕ) (o : Option Call) → slice_get calls k ≡ o → done ≤ most_done (task_called o) → done ≤ sum_by call_size (drop k calls)
ahead_most calls k done None at few = omega (arith, few)
ahead_most calls k done (Some call) at few = let all = sum_next call_size calls k call at in let most = most_few (task_in call) in omega (arith, all, most, few)

all_calls : (calls : List Call) (k : ℕ) → sum_by call_size (drop k calls) ≤ sum_by call_size calls
all_calls calls k = let parts = sum_by-take-drop call_size calls k in omega (arith, parts)

pub done_most : (job : Job) (at : Progress) → IsWithinJob job at → size_done job at ≤ job_size job
done_most (OfOne task) at within = let most = most_few task in omega (arith, most, within)
done_most (OfCalls calls) at within =
    let few = ahead_most calls at.call at.done (slice_get calls at.call) refl within.1 in
    let all = all_calls calls at.call in
    omega (arith, few, all)
done_most (OfDestroy domain) at within = omega arith

pub size_same : (job : Job) (a b : Progress) → b.call ≡ a.call → b.done ≡ a.done → size_done job b ≡ size_done job a
size_same (OfOne task) a b call done = done
size_same (OfCalls calls) a b call done = λ i. sum_by call_size calls - sum_by call_size (drop (call i) calls) + done i
size_same (OfDestroy domain) a b call done = refl

-- ---- what goes up
abbrev pub Between : ℕ → ℕ → ℕ → Type 0
Between from to size = (from ≤ to) × (to ≤ size)

-- more is done, or the operation stays where it was
abbrev pub GetsOn : Job → Progress → Progress → Type 0
GetsOn job from to = IsWithinJob job to × ((size_done job from < size_done job to) ⊎ ((to.call ≡ from.call) × (to.done ≡ from.done)))

pub on_self : (job : Job) (at : Progress) → IsWithinJob job at → GetsOn job at at
on_self job at within = (within, inr (refl, refl))

pub on_then : (job : Job) (a b c : Progress) → GetsOn job a b → GetsOn job b c → GetsOn job a c
on_then job a b c (in_b, up) (in_c, on) = (in_c, by up on)
  where
    by : (size_done job a < size_done job b) ⊎ ((b.call ≡ a.call) × (b.done ≡ a.done)) → (size_done job b < size_done job c) ⊎ ((c.call ≡ b.call) × (c.done ≡ b.done)) →
        (size_done job a < size_done job c) ⊎ ((c.call ≡ a.call) × (c.done ≡ a.done))
    by (inl less) (inl more) = inl (omega (arith, less, more))
    by (inl less) (inr (call, done)) = inl (let same = size_same job b c call done in omega (arith, less, same))
    by (inr (call, done)) (inl more) = inl (let same = size_same job a b call done in omega (arith, more, same))
    by (inr (call, done)) (inr (later, there)) = inr (later ∙ call, there ∙ done)

-- a task by itself went on
pub task_on : (task : Option Task) (from to : Progress) → to.call ≡ from.call → Between from.done to.done (most_done task) → GetsOn (OfOne task) from to
task_on task from to call (up, most) = (
  most,
  elim (cases_eq to.done from.done) [
    | inl same ↦ inr (call, same)
    | inr other ↦ inl (omega (arith, up, other))
  ],
)

module _ (calls : List Call) (call : Call) (from : Progress) (at : slice_get calls from.call ≡ Some call) where
  -- the call in progress went on
  pub paused_on : (to : Progress) → to.call ≡ from.call → IsWithinJob (OfCalls calls) from → Between from.done to.done (most_done (task_in call)) → GetsOn (OfCalls calls) from to
  paused_on to same within (up, most) = (
    (
      subst (λ k. k ≤ length calls) (sym same) within.0,
      subst (λ k. to.done ≤ most_done (task_called (slice_get calls k))) (sym same) (subst (λ o. to.done ≤ most_done (task_called o)) (sym at) most),
    ),
    elim (cases_eq to.done from.done) [
      | inl there ↦ inr (same, there)
      | inr other ↦ inl (let parts = ap (λ k. sum_by call_size calls - sum_by call_size (drop k calls)) same in omega (arith, up, other, parts))
    ],
  )

  -- and was answered
  pub answered_on : IsWithinJob (OfCalls calls) from → GetsOn (OfCalls calls) from (begun_at (from.call + 1))
  answered_on within =
      let inside = slice_get_within calls from.call call at in
      let all = all_calls calls from.call in
      let one = sum_next call_size calls from.call call at in
      let few = subst (λ o. from.done ≤ most_done (task_called o)) at within.1 in
      let most = most_few (task_in call) in
      ((omega (arith, inside), omega arith), inl (omega (arith, all, one, few, most)))
