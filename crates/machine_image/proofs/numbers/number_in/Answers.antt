use Rattle.std.proofs.Common.{rules, ◌+◌, ◌≤◌, length, arith}
use Rattle.machine_image.proofs.Bytes.{kept_inside, number_there}
use Rattle.machine_image.proofs.numbers.number_in.Goals as goal

pub bounds-whole-index : goal.bounds-whole-index
bounds-whole-index c = omega (arith, kept_inside c.args.whole.now c.args.rest.now (c.args.index + 1) c.requires.few (omega (arith, c.requires.there)))

pub offset_bounds-whole-index : goal.offset_bounds-whole-index
offset_bounds-whole-index c =
    let inside : c.args.index + 1 ≤ length c.args.whole.now = kept_inside c.args.whole.now c.args.rest.now (c.args.index + 1) c.requires.few (omega (arith, c.requires.there)) in
    search (rules, inside)

pub returns : goal.returns
returns c =
    let inside : c.args.index + 1 ≤ length c.args.whole.now = kept_inside c.args.whole.now c.args.rest.now (c.args.index + 1) c.requires.few (omega (arith, c.requires.there)) in
    number_there c.args.whole.now c.args.rest.now c.args.index (omega arith) (omega (arith, c.type_inv.whole c.args.index))
