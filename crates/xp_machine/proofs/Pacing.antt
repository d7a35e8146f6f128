-- Gates are told the pace one after the other.
use Rattle.std.proofs.Common.{◌≡◌, ℕ, zero, suc, ◌+◌, ◌<◌, List, [], ◌∷◌, length, map, sym, ap, ◌∙◌, subst, add-one, slice_set, slice_index_or, arith}
use Rattle.std.proofs.lemmas.List.{length-map}
use Rattle.vcpu_runners.specs.Gates.{ArePaced}
use Rattle.xp_preempt.specs.Gates.{Gate, IsPaced}

-- the first i of them were told it
abbrev pub PacedTo : ℕ → ℕ → List Gate → List Gate → Type 0
PacedTo every zero gs hs = hs ≡ gs
PacedTo every (suc i) (g ∷ gs) (h ∷ hs) = IsPaced every g h × PacedTo every i gs hs
PacedTo every (suc i) gs hs = ⊥

abbrev head_or : Gate → List Gate → Gate
head_or d [] = d
head_or d (g ∷ gs) = g

abbrev tail_of : List Gate → List Gate
tail_of [] = []
tail_of (g ∷ gs) = gs

next_paced : {A : Type 0} (gate : A → Gate) (every i : ℕ) (first gates : List A) (d y : A) → length gates ≡ length first → i < length first → PacedTo every i (map gate first) (map gate gates) →
    IsPaced every (gate (slice_index_or gates i d)) (gate y) → PacedTo every (suc i) (map gate first) (map gate (slice_set gates i y))
next_paced gate every i [] gates d y all within paced now = absurd (omega arith)
next_paced gate every i (f ∷ fs) [] d y all within paced now = absurd (omega arith)
next_paced gate every zero (f ∷ fs) (x ∷ xs) d y all within paced now = (subst (λ k. IsPaced every k (gate y)) (ap (head_or (gate f)) paced) now, ap tail_of paced)
next_paced gate every (suc i) (f ∷ fs) (x ∷ xs) d y all within paced now = (paced.0, next_paced gate every i fs xs d y (omega arith) (omega arith) paced.1 now)

pub one_more_paced : {A : Type 0} (gate : A → Gate) (every i : ℕ) (first gates : List A) (d y : A) → length gates ≡ length first → i < length first → PacedTo every i (map gate first) (map gate gates) →
    IsPaced every (gate (slice_index_or gates i d)) (gate y) → PacedTo every (i + 1) (map gate first) (map gate (slice_set gates i y))
one_more_paced gate every i first gates d y all within paced now = rw add-one (next_paced gate every i first gates d y all within paced now)

all_paced : (every : ℕ) (gs hs : List Gate) → PacedTo every (length gs) gs hs → ArePaced every gs hs
all_paced every [] hs paced = rw paced tt
all_paced every (g ∷ gs) [] paced = absurd paced
all_paced every (g ∷ gs) (h ∷ hs) paced = (paced.0, all_paced every gs hs paced.1)

pub paced_all : {A : Type 0} (gate : A → Gate) (every i : ℕ) (first gates : List A) → i ≡ length first → PacedTo every i (map gate first) (map gate gates) → ArePaced every (map gate first) (map gate gates)
paced_all gate every i first gates end paced =
    all_paced every (map gate first) (map gate gates) (subst (λ k. PacedTo every k (map gate first) (map gate gates)) (end ∙ sym (length-map first gate)) paced)
