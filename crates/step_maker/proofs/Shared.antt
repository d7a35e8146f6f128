-- Lemmas that several crates above cite.
use Rattle.std.proofs.Common.{◌≤◌, List, [], ◌∷◌, length, ap, arith}
use Rattle.step_maker.proofs.Noting.{moves_steps}
use Rattle.step_maker.specs.Moves.{Moment, Ran}
use Rattle.xp_board.specs.Told.{PortValue}
use Rattle.xp_board.specs.declared.holdings.Made.{Made}

pub ran_longer : (v u : PortValue) (ms : List Moment) → Ran v ms u → length v.holdings.steps ≤ length u.holdings.steps
ran_longer v u [] a = rw a (omega arith)
ran_longer v u (m ∷ ms) a =
    let before = ran_longer v a.0 ms a.1 in
    let more = ap (λ (xs : List Made). length xs) (moves_steps a.0 u m.place m.act m.kind m.mark m.found a.2.moves) in
    omega (arith, before, more)
