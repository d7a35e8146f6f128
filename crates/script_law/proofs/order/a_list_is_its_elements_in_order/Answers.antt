use Rattle.script_law.specs.Elements.{ext_alone, pair_alone}
use Rattle.script_law.specs.Memory.{reserve}
use Rattle.script_law.proofs.Parts.{calls_all, calls_one, calls_parts, ordered}
use Rattle.script_law.proofs.order.a_list_is_its_elements_in_order.Goals as goal

pub returns-clause-pairs : goal.returns-clause-pairs
returns-clause-pairs c w o = ordered (λ k. pair_alone w o)

pub returns-clause-elements : goal.returns-clause-elements
returns-clause-elements c w = ordered (λ k. ext_alone w)

pub returns-clause-extents : goal.returns-clause-extents
returns-clause-extents c w size call = ordered (λ k. reserve w size call k)

pub returns-clause-calls : goal.returns-clause-calls
returns-clause-calls c w cs more k s = calls_parts w cs more k s

pub returns-clause-one_call : goal.returns-clause-one_call
returns-clause-one_call c w call k s = calls_one w call k s

pub returns-clause-all_answered : goal.returns-clause-all_answered
returns-clause-all_answered c w cs k s = calls_all w cs k s
