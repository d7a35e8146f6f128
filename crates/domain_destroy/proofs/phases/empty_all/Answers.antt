use Rattle.std.proofs.Common.{refl}
use Rattle.xp_preempt.proofs.Consulting.{gated_none}
use Rattle.domain_destroy.proofs.Phasing.{emptied_ends, emptied_opens, keeps_self, past_empties, phase_past}
use Rattle.domain_destroy.proofs.phases.empty_all.Goals as goal

pub returns-in_ok-answer-clause-went : goal.returns-in_ok-answer-clause-went
returns-in_ok-answer-clause-went g c =
    let a = c.in_ok-answer.ensures in
    emptied_ends (g.P.Port.value c.args.port.now) (g.P.Port.value c.empty_vcpus-answer.new.port) c.args.domain c.args.at.now c.in-Empties.vcpu c.empty_vcpus-answer.new.at c.in-Empties.is a.all a.went

pub returns-in_ok-answer-clause-come : goal.returns-in_ok-answer-clause-come
returns-in_ok-answer-clause-come g c =
    let a = c.in_ok-answer.ensures in
    emptied_opens (g.P.Port.value c.args.port.now) (g.P.Port.value c.empty_vcpus-answer.new.port) c.args.domain c.args.at.now c.in-Empties.vcpu c.empty_vcpus-answer.new.at c.in-Empties.is a.come a.all

pub returns-in_default : goal.returns-in_default
returns-in_default g c =
    let v = g.P.Port.value c.args.port.now in
    record {
      went = gated_none refl (phase_past v c.args.domain c.args.at.now c.requires.rests c.requires.clear);
      come = keeps_self v c.args.domain c.args.at.now;
      past = past_empties c.args.at.now c.requires.phase c.in_default.not-Empties;
    }
