use Rattle.mmu_update.specs.Elements.{element_of}
use Rattle.mmuext_ops.specs.Elements.{ext_element}
use Rattle.script_law.proofs.Untaking.{ext_untaken, pair_untaken}
use Rattle.script_law.proofs.refusing.a_refused_element_takes_nothing.Goals as goal

pub returns-clause-pairs : goal.returns-clause-pairs
returns-clause-pairs c w o p s y counts refused = pair_untaken w o (element_of p) s y counts refused

pub returns-clause-elements : goal.returns-clause-elements
returns-clause-elements c w op s y counts refused = ext_untaken w (ext_element op) s y counts refused
