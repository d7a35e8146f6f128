use Rattle.std.proofs.Common.{◌≡◌, ◌+◌, ◌<◌, ◌++◌, ◌∷◌, [], slice_index_or, ap, rules, arith, length}
use Rattle.std.proofs.lemmas.Grind.{common_steps}
use Rattle.trace_text.specs.Counted.{extents_in}
use Rattle.trace_text.specs.Fronts.{Front}
use Rattle.trace_text.specs.WellFormed.{IsOp}
use Rattle.trace_text.proofs.OneMore.{op_is, op_opening, op_tallies}
use Rattle.trace_text.proofs.part.Part.op.Goals as goal

pub invariant_of-self-2 : goal.invariant_of-self-2
invariant_of-self-2 c =
    let version : c.self.inside.version ≡ c.args.self.now.version = ap (λ (f : Front). f.version) c.self.view_is in
    let one : IsOp c.self.inside.version c.args.op = op_is _ c.args.op (rw version c.requires.1) (omega (arith, c.numbers_of-numbers.ensures)) in
    let within : c.args.vcpu < length c.self.inside.scripts.items = grind (arith, common_steps) in
    let extents : c.saturating_add-extents.result ≡ c.self.inside.extents + extents_in c.args.op = grind (arith, common_steps) in
    let script : c.push.new.self ≡ slice_index_or c.self.inside.scripts.items c.args.vcpu [] ++ c.args.op ∷ [] = grind (arith, common_steps) in (
      search rules,
      rw script (op_opening _ c.args.vcpu c.args.op c.self.invariant.1 within one),
      rw script (op_tallies _ c.args.vcpu c.args.op _ _ _ _ _ _ _ _ c.self.invariant.2 within (omega arith) (ap (λ n. c.self.inside.destroys + n) c.destroys_of.ensures.destroys) (omega arith) extents (omega arith)),
    )
