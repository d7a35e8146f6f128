use Rattle.std.proofs.Common.{refl, sym, ◌∙◌}
use Rattle.vcpu_runners.specs.Replayed.{none}
use Rattle.vcpu_runners.proofs.Turning.{of_first_port, ran_out, short_more, turns_more}
use Rattle.vcpu_runners.proofs.worker.work.Goals as goal

pub turns-init : goal.turns-init
turns-init g c =
    record {
      post = refl;
      turns = none;
      of = of_first_port _ _ _ _ _ _ c.port-port.ensures.board c.port-port.ensures.pass (c.requires.of c.port-port.result.pass.ghost_name);
      short = c.requires.short;
      runs = c.requires.runs;
    }

pub turns-preserved : goal.turns-preserved
turns-preserved g c =
    record {
      post = c.turn.ensures.post ∙ c.turns.invariant.post;
      turns = turns_more _ _ _ _ _ _ _ _ _ c.turns.invariant.turns c.turns.invariant.runs c.turn.ensures.turn;
      of = c.turn.ensures.of;
      short = short_more _ _ _ _ _ _ c.turns.invariant.runs c.turn.ensures.turn c.turns.invariant.short;
      runs = sym c.is_retired.ensures ∙ c.if-is_retired.false;
    }

pub returns-then-is_retired : goal.returns-then-is_retired
returns-then-is_retired g c =
    ran_out _ c.port-port.result.board.now c.turn.new.port.board.now _ c.port-port.result.pass.now c.turn.new.port.pass.now c.port-port.result.pass.ghost_name c.turn.new.port.pass.ghost_name _ _ _ _ c.port-port.ensures.board
    c.port-port.ensures.pass (c.turn.ensures.post ∙ c.turns.invariant.post) (turns_more _ _ _ _ _ _ _ _ _ c.turns.invariant.turns c.turns.invariant.runs c.turn.ensures.turn)
    (sym c.is_retired.ensures ∙ c.if-is_retired.true) c.turn.ensures.of c.turn.new.port.own
