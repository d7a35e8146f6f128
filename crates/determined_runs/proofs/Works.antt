-- A run leads to one stage.
use Rattle.std.proofs.Common.{◌≡◌, ℕ, List, sym, subst}
use Rattle.std.specs.List.{range_with_len}
use Rattle.xp_words.specs.Machine.{IsMachine, Machine}
use Rattle.xp_words.specs.Places.{sizes_of}
use Rattle.xp_machine.specs.Turns.{Stage, Stops, WorksOff}
use Rattle.determined_runs.proofs.Orders.{order_same}
use Rattle.determined_runs.proofs.Stages.{stop_by, turn_by}

pub works_same : (n : Machine) (vs : List ℕ) (s a b : Stage) → IsMachine n → WorksOff n vs s a → WorksOff n vs s b → a ≡ b
works_same n vs s a b machine p q =
    let one = order_same (λ v m x y f g. turn_by n machine v m x y f g) vs s p.worked q.worked p.turns q.turns in
    order_same (λ v m x y f g. stop_by n machine v m x y f g) (range_with_len 0 (sizes_of n).vcpus) p.worked a b p.stops (subst (λ z. Stops n (range_with_len 0 (sizes_of n).vcpus) z b) (sym one) q.stops)
