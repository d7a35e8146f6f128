use Rattle.script_law.proofs.Parts.{script_all, script_one, script_parts}
use Rattle.script_law.proofs.order.a_script_is_its_operations_in_order.Goals as goal

pub returns-clause-parts : goal.returns-clause-parts
returns-clause-parts c w ops more s = script_parts w ops more s

pub returns-clause-one : goal.returns-clause-one
returns-clause-one c w op s = script_one w op s

pub returns-clause-answers : goal.returns-clause-answers
returns-clause-answers c w ops s = script_all w ops s
