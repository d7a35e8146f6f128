-- Steps at words by name, as steps of the list of all steps.
use Rattle.std.proofs.Common.{List, [], ◌∷◌}
use Rattle.xp_board.specs.Told.{PortValue, Went, Goes}
use Rattle.xp_board.specs.declared.holdings.Made.{Made}
use Rattle.xp_board.proofs.Going.{went_more}
use Rattle.step_maker.specs.Moves.{Moment, Ran, Came, step_at}
use Rattle.step_maker.proofs.Noting.{made_now}
use Rattle.step_maker.proofs.Telling.{moves_went}

pub ran_went : (v w : PortValue) (ms : List Moment) → Ran v ms w → (made : List Made) × Went v made w
ran_went v w [] a = ([], a)
ran_went v w (m ∷ ms) a =
    let before = ran_went v a.0 ms a.1 in
    let one = made_now (step_at a.0.post.machine m.place m.act m.kind m.mark) m.found in
    (one ∷ before.0, went_more v a.0 w before.0 (one ∷ []) before.1 (moves_went a.0 w m.place m.act m.kind m.mark m.found a.2.moves))

pub came_goes : (v w : PortValue) → Came v w → Goes v w
unfolding Came Goes
came_goes v w a = ran_went v w a.0 a.1
