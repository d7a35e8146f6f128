use Rattle.std.proofs.Common.{rules, ℕ, ◌+◌}
use Rattle.std.proofs.lemmas.Result.{err_from_is_err_and}
use Rattle.machine_image.specs.Reading.{mask_at, each_at}
use Rattle.machine_image.proofs.Loop.{goes_on, ends, is_done}
use Rattle.machine_image.proofs.read.masks.Goals as goal

pub returns-in_err-mask : goal.returns-in_err-mask
returns-in_err-mask c =
    let read = λ (d : ℕ). mask_at c.args.domains d c.args.bytes.now in
    let p = err_from_is_err_and c.from_residual.result c.from_residual.ensures.1 in
    rw (p.1, p.2) (ends read c.loop-domain.masks.items c.args.domains c.loop-domain.domain (5 + c.args.domains) (each_at read 0 (5 + c.args.domains) c.args.domains) c.in_err-mask.field-0.0 c.loop-domain-test.true c.in_err-mask.ensures c.loop-domain.invariant.so_far)

pub loop-domain-preserved : goal.loop-domain-preserved
loop-domain-preserved c =
    let read = λ (d : ℕ). mask_at c.args.domains d c.args.bytes.now in
    record {
      long = search rules;
      so_far = rw c.push.ensures.items (goes_on read c.loop-domain.masks.items c.args.domains c.loop-domain.domain (5 + c.args.domains) (each_at read 0 (5 + c.args.domains) c.args.domains) c.in_ok-mask.field-0 c.loop-domain-test.true c.in_ok-mask.ensures c.loop-domain.invariant.so_far);
    }

pub returns : goal.returns
returns c =
    let read = λ (d : ℕ). mask_at c.args.domains d c.args.bytes.now in
    is_done read c.loop-domain.masks.items c.args.domains c.loop-domain.domain (5 + c.args.domains) (each_at read 0 (5 + c.args.domains) c.args.domains) c.loop-domain-test.false c.loop-domain.invariant.so_far
