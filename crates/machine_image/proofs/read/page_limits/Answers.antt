use Rattle.std.proofs.Common.{rules, ℕ}
use Rattle.std.proofs.lemmas.Result.{err_from_is_err_and}
use Rattle.machine_image.specs.Reading.{ranged_at, each_at}
use Rattle.machine_image.proofs.Loop.{goes_on, ends, is_done}
use Rattle.machine_image.proofs.read.page_limits.Goals as goal

pub returns-in_err-limit : goal.returns-in_err-limit
returns-in_err-limit c =
    let read = λ (d : ℕ). ranged_at 0 65536 c.args.bytes.now in
    let p = err_from_is_err_and c.from_residual.result c.from_residual.ensures.1 in
    rw (p.1, p.2) (ends read c.loop-domain.limits.items c.args.domains c.loop-domain.domain 5 (each_at read 0 5 c.args.domains) c.in_err-limit.field-0.0 c.loop-domain-test.true c.in_err-limit.ensures.gives c.loop-domain.invariant.so_far)

pub loop-domain-preserved : goal.loop-domain-preserved
loop-domain-preserved c =
    let read = λ (d : ℕ). ranged_at 0 65536 c.args.bytes.now in
    record {
      long = search rules;
      so_far = rw c.push.ensures.items (goes_on read c.loop-domain.limits.items c.args.domains c.loop-domain.domain 5 (each_at read 0 5 c.args.domains) c.in_ok-limit.limit c.loop-domain-test.true c.in_ok-limit.ensures.gives c.loop-domain.invariant.so_far);
    }

pub returns : goal.returns
returns c =
    let read = λ (d : ℕ). ranged_at 0 65536 c.args.bytes.now in
    is_done read c.loop-domain.limits.items c.args.domains c.loop-domain.domain 5 (each_at read 0 5 c.args.domains) c.loop-domain-test.false c.loop-domain.invariant.so_far
