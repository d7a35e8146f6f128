use Rattle.std.proofs.Common.{◌∙◌, sym, ap, subst}
use Rattle.partial_state.specs.Stacks.{AreTables}
use Rattle.partial_state.specs.Weights.{weight}
use Rattle.partial_state.proofs.WeightSums.{items_tables, reversed_weighs}
use Rattle.partial_state.proofs.stack.Stack.weight.Goals as goal

pub weight_of-requires-clause-tables : goal.weight_of-requires-clause-tables
weight_of-requires-clause-tables c = subst AreTables (sym c.as_slice.ensures.value) (items_tables c.self.inside.items.items c.self.invariant)

pub returns : goal.returns
returns c =
    c.weight_of.ensures ∙ ap weight c.as_slice.ensures.value ∙ sym (reversed_weighs c.self.inside.items.items) ∙ ap weight c.self.view_is
