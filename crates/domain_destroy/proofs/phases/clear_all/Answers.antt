use Rattle.std.proofs.Common.{refl}
use Rattle.xp_preempt.proofs.Consulting.{gated_none}
use Rattle.domain_destroy.proofs.Phasing.{cleared_ends, cleared_keeps, cleared_opens, keeps_self, past_clears, phase_past}
use Rattle.domain_destroy.proofs.phases.clear_all.Goals as goal

pub returns-in_err-answer-clause-come : goal.returns-in_err-answer-clause-come
returns-in_err-answer-clause-come g c =
    cleared_keeps (g.P.Port.value c.args.port.now) (g.P.Port.value c.clear_frames-answer.new.port) c.args.domain c.args.at.now c.in-Clears.frame c.clear_frames-answer.new.at c.in-Clears.is c.in_err-answer.ensures.come

pub returns-in_ok-answer-clause-went : goal.returns-in_ok-answer-clause-went
returns-in_ok-answer-clause-went g c =
    let a = c.in_ok-answer.ensures in
    cleared_ends (g.P.Port.value c.args.port.now) (g.P.Port.value c.clear_frames-answer.new.port) c.args.domain c.args.at.now c.in-Clears.frame c.clear_frames-answer.new.at c.in-Clears.is a.all a.went

pub returns-in_ok-answer-clause-come : goal.returns-in_ok-answer-clause-come
returns-in_ok-answer-clause-come g c =
    let a = c.in_ok-answer.ensures in
    cleared_opens (g.P.Port.value c.args.port.now) (g.P.Port.value c.clear_frames-answer.new.port) c.args.domain c.args.at.now c.in-Clears.frame c.clear_frames-answer.new.at c.in-Clears.is a.all a.come

pub returns-in_default : goal.returns-in_default
returns-in_default g c =
    let v = g.P.Port.value c.args.port.now in
    record {
      went = gated_none refl (phase_past v c.args.domain c.args.at.now c.requires.rests c.requires.clear);
      come = keeps_self v c.args.domain c.args.at.now;
      past = past_clears c.args.at.now c.requires.phase c.in_default.not-Clears;
    }
