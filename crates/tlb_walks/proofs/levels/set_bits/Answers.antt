use Rattle.std.proofs.Common.{ℕ, refl, sym, ◌∙◌, subst}
use Rattle.tlb_walks.specs.Flying.{TouchMoves, stands}
use Rattle.tlb_walks.proofs.Passing.{set_hand, set_may, set_moves, set_stands}
use Rattle.tlb_walks.proofs.levels.set_bits.Goals as goal

pub returns-then-new-word-clause-moves : goal.returns-then-new-word-clause-moves
returns-then-new-word-clause-moves g c = stands (sym (c.needed-new.ensures c.args.index) ∙ c.if-new-word.true) refl

pub returns-then-new-word-clause-hand : goal.returns-then-new-word-clause-hand
returns-then-new-word-clause-hand g c = set_stands _ (g.P.Port.value c.args.port.now) c.args.flight.now c.args.index c.args.word c.needed-new.result (c.needed-new.ensures c.args.index) c.requires.seen c.if-new-word.true

pub touch_entry-requires-clause-touching : goal.touch_entry-requires-clause-touching
touch_entry-requires-clause-touching g c =
    set_may _ (g.P.Port.value c.args.port.now) c.args.flight.now c.args.index c.args.word c.needed-new.result (c.needed-new.ensures c.args.index) c.requires.seen c.if-new-word.false

pub returns-clause-moves : goal.returns-clause-moves
returns-clause-moves g c =
    subst (λ (y : ℕ). TouchMoves (g.P.Port.value c.args.port.now) (g.P.Port.value c.touch_entry.new.port) c.args.flight.now.table c.args.index c.args.word y c.touch_entry.result) (c.needed-new.ensures c.args.index)
    (set_moves _ _ c.args.flight.now c.args.index c.args.word c.needed-new.result (c.needed-new.ensures c.args.index) c.requires.seen c.if-new-word.false c.touch_entry.result c.touch_entry.ensures.moves c.touch_entry.ensures.lost)

pub returns-clause-hand : goal.returns-clause-hand
returns-clause-hand g c =
    set_hand _ _ c.args.flight.now c.args.index c.args.word c.needed-new.result (c.needed-new.ensures c.args.index) c.requires.seen c.if-new-word.false c.touch_entry.result c.touch_entry.ensures.hand
