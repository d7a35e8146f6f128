use Rattle.std.proofs.Common.{rules, ℕ, ◌≡◌, ◌≤◌, ◌+◌, ◌-◌, ◌∙◌, ap, length, take, drop, arith}
use Rattle.machine_image.proofs.Bytes.{kept_inside, numbers_there}
use Rattle.machine_image.proofs.numbers.numbers_in.Goals as goal

pub overflow_add-result : goal.overflow_add-result
overflow_add-result c =
    let inside : c.args.first + c.args.count ≤ length c.args.whole.now = kept_inside c.args.whole.now c.args.rest.now (c.args.first + c.args.count) c.requires.few c.requires.there in
    search (rules, inside)

pub offset_bounds-whole-first : goal.offset_bounds-whole-first
offset_bounds-whole-first c =
    let inside : c.args.first + c.args.count ≤ length c.args.whole.now = kept_inside c.args.whole.now c.args.rest.now (c.args.first + c.args.count) c.requires.few c.requires.there in
    search (rules, inside)

pub slice_bounds-result-end : goal.slice_bounds-result-end
slice_bounds-result-end c =
    let inside : c.args.first + c.args.count ≤ length c.args.whole.now = kept_inside c.args.whole.now c.args.rest.now (c.args.first + c.args.count) c.requires.few c.requires.there in
    search (rules, inside)

pub returns : goal.returns
returns c =
    let inside : c.args.first + c.args.count ≤ length c.args.whole.now = kept_inside c.args.whole.now c.args.rest.now (c.args.first + c.args.count) c.requires.few c.requires.there in
    let many : c.args.first + c.args.count - c.args.first ≡ c.args.count = omega arith in
    ap (λ (n : ℕ). take n (drop c.args.first c.args.whole.now)) many ∙ numbers_there c.args.whole.now c.args.rest.now c.args.first c.args.count inside (λ i. omega (arith, c.type_inv.whole i))
