-- Lemmas that several crates above cite.
use Rattle.std.proofs.Common.{◌≡◌, ◌+◌, List, [], ◌∷◌, length, ap, ◌∙◌, arith}
use Rattle.flush_words.proofs.Lasting.{moves_longer}
use Rattle.step_maker.specs.Moves.{Moment, Ran}
use Rattle.step_maker.specs.Visits.{visits}
use Rattle.xp_board.specs.Told.{PortValue}

pub ran_length : (v w : PortValue) (ms : List Moment) → Ran v ms w → length w.holdings.steps ≡ length v.holdings.steps + length (visits ms)
ran_length v w [] r = ap (λ (y : PortValue). length y.holdings.steps) r ∙ omega arith
ran_length v w (m ∷ ms) r =
    let before = ran_length v r.0 ms r.1 in
    let more = moves_longer r.0 w m.place m.act m.kind m.mark m.found r.2.moves in
    omega (arith, before, more)
