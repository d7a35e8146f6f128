use Rattle.claim_words.proofs.ClearSteps.{may_clear, cleared_hand, cleared_gives}
use Rattle.claim_words.proofs.marks.clear_allocated.Goals as goal

pub exchange-requires : goal.exchange-requires
exchange-requires g c = may_clear _ c.args.frame c.args.owner c.args.count c.requires.domain c.requires.may c.requires.some c.requires.below _ _ c.requires.frame c.marked_word-from.ensures c.marked_word-to.ensures

pub returns : goal.returns
returns g c =
    let moves = rw (c.marked_word-from.ensures, c.marked_word-to.ensures) at c.exchange.ensures.moves in
    let lost = rw c.marked_word-from.ensures at c.exchange.ensures.lost in
    let hand = cleared_hand _ c.args.frame c.args.owner c.args.count c.requires.domain c.requires.may c.requires.some c.requires.below _ c.exchange.result moves lost in
    record { moves = moves; lost = lost; hand = hand; gives = cleared_gives _ _ c.args.frame c.args.owner _ _ c.exchange.result moves hand }
