use Rattle.std.proofs.Common.{rules, arith, length}
use Rattle.trace_text.specs.Parts.{HasMasks}
use Rattle.trace_text.proofs.Masks.{masks_with}
use Rattle.trace_text.proofs.part.Part.privilege.Goals as goal

pub invariant_of-self : goal.invariant_of-self
invariant_of-self c =
    let given : HasMasks (length c.self.inside.domains.items) c.give.new.masks.items = rw c.give.ensures (masks_with _ _ _ _ c.self.invariant.0.masks (omega arith) (omega arith) c.if-domain-over.false) in
    (search rules, search rules, search rules)
