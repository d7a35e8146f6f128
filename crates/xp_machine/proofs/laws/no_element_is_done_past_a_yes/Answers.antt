use Rattle.vcpu_turn.specs.Asking.{elements_tried}
use Rattle.vcpu_turn.specs.Cpus.{OfCalls}
use Rattle.vcpu_turn.proofs.Stopping.{job_hears, releasing_nothing_hears, task_hears}
use Rattle.vcpu_turn.proofs.Trying.{hears_nothing}
use Rattle.xp_machine.specs.Turns.{port_on}
use Rattle.xp_machine.proofs.laws.no_element_is_done_past_a_yes.Goals as goal

pub returns-clause-lists : goal.returns-clause-lists
returns-clause-lists g n v c s t m off = releasing_nothing_hears c m.after m.end (port_on n v s.board) (port_on n v t.board) m.answers m.turn off

pub returns-clause-silent : goal.returns-clause-silent
returns-clause-silent g n v c s t m quiet = hears_nothing (elements_tried m.turn) quiet

pub returns-clause-passes : goal.returns-clause-passes
returns-clause-passes g n v c s t op task m next built off = task_hears c m.after m.end (port_on n v s.board) (port_on n v t.board) m.answers m.turn op task next built off

pub returns-clause-calls : goal.returns-clause-calls
returns-clause-calls g n v c s t op calls m next built off = job_hears c m.after m.end (port_on n v s.board) (port_on n v t.board) m.answers m.turn op (OfCalls calls) next built off
