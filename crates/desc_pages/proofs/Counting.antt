-- How many steps the calls make: lists of visits, and how long they are at most.
use Rattle.std.proofs.Common.{ℕ, ◌+◌, ◌≤◌, Bool, true, false, List, length, Option, Some, None, Result, Ok, Err, ap, ◌∙◌, arith, inl, inr}
use Rattle.std.proofs.lemmas.List.{length-append}
use Rattle.xp_words.specs.Machine.{Machine}
use Rattle.xp_words.specs.declared.reply.Pause.TheVariants as pauses
use Rattle.xp_words.specs.declared.reply.Refusal.{Refusal}
use Rattle.xp_words.specs.declared.reply.Stop.{Stop}
use Rattle.xp_words.specs.declared.reply.Stop.TheVariants.{Refused, Paused}
use Rattle.xp_board.specs.Told.{Post, PortValue}
use Rattle.step_maker.specs.Reasons.{OfOwner, Those, Whose}
use Rattle.step_maker.specs.Visits.{Visit, Does, Nothing, Only, Then, Where, visits}
use Rattle.flush_words.specs.Flushing.{FlushedBy}
use Rattle.flush_words.specs.Flushing as flushing
use Rattle.flush_waits.specs.Listing.{LooksAt, WeighsBy}
use Rattle.flush_waits.specs.Listing as listing
use Rattle.frame_words.specs.Freeing.{FreesBy, PutBy}
use Rattle.frame_words.specs.Refs.{GetsBy, UnreferredBy}
use Rattle.frame_words.specs.Refs as refs
use Rattle.frame_types.proofs.Shared.{ran_length}

-- ---- by their lists

abbrev pub IsAtMost : (List Visit → Type 0) → ℕ → Type 0
IsAtMost P n = (vs : List Visit) → P vs → length vs ≤ n

pub does_most : (v w : PortValue) (P : List Visit → Type 0) (n : ℕ) → IsAtMost P n → Does v w P → length w.holdings.steps ≤ length v.holdings.steps + n
unfolding Does
does_most v w P n most does =
    let exact = ran_length v w does.0 does.1 in let few = most (visits does.0) does.2 in omega (arith, exact, few)

pub nothing_most : IsAtMost Nothing 0
nothing_most vs is = let none = ap (λ (ws : List Visit). length ws) is in omega (arith, none)

pub only_most : (s : Visit) → IsAtMost (Only s) 1
only_most s vs is = let one = ap (λ (ws : List Visit). length ws) is in omega (arith, one)

pub then_most : (P Q : List Visit → Type 0) (a b : ℕ) → IsAtMost P a → IsAtMost Q b → IsAtMost (Then P Q) (a + b)
then_most P Q a b p q vs t =
    let all = ap (λ (ws : List Visit). length ws) t.list ∙ length-append t.after t.before in
    let first = p t.before t.first in
    let next = q t.after t.next in
    omega (arith, all, first, next)

pub where_most : (b : Bool) (P : List Visit → Type 0) (n : ℕ) → IsAtMost P n → IsAtMost (Where b P) n
where_most true P n most vs is = most vs is
where_most false P n most vs is = let none = nothing_most vs is in omega (arith, none)

-- ---- references
frees_most : (f : ℕ) (last : Option ℕ) → IsAtMost (FreesBy f last) 4
frees_most f (Some owner) vs is = let four = ap (λ (ws : List Visit). length ws) is.4 in omega (arith, four)
frees_most f None vs is = let none = nothing_most vs is in omega (arith, none)

pub put_most : (f : ℕ) → IsAtMost (PutBy f) 5
put_most f vs p = then_most (Only _) (FreesBy f p.last) 1 4 (only_most _) (frees_most f p.last) vs p.steps

unreferred_most : (n : Machine) (f owner : ℕ) (r : Refusal) → IsAtMost (UnreferredBy n f owner r) 2
unreferred_most n f owner r vs (refs.outside out is none) = let few = nothing_most vs none in omega (arith, few)
unreferred_most n f owner r vs (refs.refused x inside is one) = let few = only_most _ vs one in omega (arith, few)

pub gets_most : (n : Machine) (f owner : ℕ) (answer : Result ℕ Stop) → IsAtMost (GetsBy n f owner answer) 2
gets_most n f owner (Ok g) vs a = then_most (Only _) (Only _) 1 1 (only_most _) (only_most _) vs a.2
gets_most n f owner (Err (Refused r)) vs a = unreferred_most n f owner r vs a
gets_most n f owner (Err (Paused (pauses.Lost place expected found))) vs a = then_most (Only _) (Only _) 1 1 (only_most _) (only_most _) vs a.3
gets_most n f owner (Err (Paused r)) vs a = absurd a

-- ---- waits: four steps a vCPU
weighs_most : (n : Machine) (whose : Whose) (u : ℕ) (reaches : Bool) → IsAtMost (WeighsBy n whose u reaches) 1
weighs_most n (OfOwner owner) u reaches vs (inl a) = let few = nothing_most vs a.2 in omega (arith, few)
weighs_most n (OfOwner owner) u reaches vs (inr a) = only_most _ vs a.1.2
weighs_most n (Those means) u reaches vs a = let few = nothing_most vs a.1 in omega (arith, few)

flushed_most : (s : ℕ) (answer : Result (Unit {0}) Refusal) → IsAtMost (FlushedBy s answer) 3
flushed_most s _ _ flushing.none = omega arith
flushed_most s _ _ (flushing.once clock found to before low is) = omega arith

pub looks_most : (q : Post) (whose : Whose) (stamp u : ℕ) (vs : List Visit) (answer : Result (Option ℕ) Refusal) → LooksAt q whose stamp u vs answer → length vs ≤ 4
looks_most q whose stamp u vs _ (listing.unmeant means is off none) = let few = nothing_most vs none in omega (arith, few)
looks_most q whose stamp u vs _ (listing.idle x other off one) = let few = only_most _ vs one in omega (arith, few)
looks_most q whose stamp u vs _ (listing.late y other past two) = let few = then_most (Only _) (Only _) 1 1 (only_most _) (only_most _) vs two in omega (arith, few)
looks_most q whose stamp u vs _ (listing.barred y other low steps) =
    let few = then_most (Only _) (Then (Only _) (λ ws. WeighsBy q.machine whose u false ws)) 1 2 (only_most _) (then_most (Only _) (λ ws. WeighsBy q.machine whose u false ws) 1 1 (only_most _) (weighs_most q.machine whose u false)) vs steps in
    omega (arith, few)
looks_most q whose stamp u vs _ (listing.behind y z other low steps) =
    then_most (Only _) (Then (Only _) (Then (λ ws. WeighsBy q.machine whose u true ws) (Only _))) 1 3 (only_most _)
    (then_most (Only _) (Then (λ ws. WeighsBy q.machine whose u true ws) (Only _)) 1 2 (only_most _) (then_most (λ ws. WeighsBy q.machine whose u true ws) (Only _) 1 1 (weighs_most q.machine whose u true) (only_most _))) vs steps
looks_most q whose stamp u vs _ (listing.own_late y own past one) = let few = only_most _ vs one in omega (arith, few)
looks_most q whose stamp u vs _ (listing.own_flushed y own low steps) = then_most (Only _) (λ fs. FlushedBy u (Ok tt) fs) 1 3 (only_most _) (flushed_most u (Ok tt)) vs steps
looks_most q whose stamp u vs _ (listing.own_spent y r own low steps) = then_most (Only _) (λ fs. FlushedBy u (Err r) fs) 1 3 (only_most _) (flushed_most u (Err r)) vs steps
