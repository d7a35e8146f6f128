use Rattle.script_law.proofs.Unpinning.{pin_undone}
use Rattle.script_law.proofs.refusing.an_unpin_undoes_a_pin.Goals as goal

pub returns : goal.returns
returns c n d f l s low counts fine back = pin_undone n d f l s low counts fine back
