use Rattle.std.proofs.Common.{rules, ℕ, ◌+◌, ◌*◌, ◌-◌}
use Rattle.std.proofs.lemmas.Result.{err_from_is_err_and}
use Rattle.machine_image.specs.Reading.{ranged_at, each_at}
use Rattle.machine_image.proofs.Loop.{goes_on, ends, is_done}
use Rattle.machine_image.proofs.read.vcpu_domains.Goals as goal

pub returns-in_err-domain : goal.returns-in_err-domain
returns-in_err-domain c =
    let read = λ (d : ℕ). ranged_at 0 (c.args.domains - 1) c.args.bytes.now in
    let p = err_from_is_err_and c.from_residual.result c.from_residual.ensures.1 in
    rw (p.1, p.2) (ends read c.loop-vcpu.found.items c.args.vcpus c.loop-vcpu.vcpu (5 + 2 * c.args.domains) (each_at read 0 (5 + 2 * c.args.domains) c.args.vcpus) c.in_err-domain.field-0.0 c.loop-vcpu-test.true c.in_err-domain.ensures.gives c.loop-vcpu.invariant.so_far)

pub loop-vcpu-preserved : goal.loop-vcpu-preserved
loop-vcpu-preserved c =
    let read = λ (d : ℕ). ranged_at 0 (c.args.domains - 1) c.args.bytes.now in
    record {
      long = search rules;
      so_far = rw c.push.ensures.items (goes_on read c.loop-vcpu.found.items c.args.vcpus c.loop-vcpu.vcpu (5 + 2 * c.args.domains) (each_at read 0 (5 + 2 * c.args.domains) c.args.vcpus) c.in_ok-domain.domain c.loop-vcpu-test.true c.in_ok-domain.ensures.gives c.loop-vcpu.invariant.so_far);
    }

pub returns : goal.returns
returns c =
    let read = λ (d : ℕ). ranged_at 0 (c.args.domains - 1) c.args.bytes.now in
    is_done read c.loop-vcpu.found.items c.args.vcpus c.loop-vcpu.vcpu (5 + 2 * c.args.domains) (each_at read 0 (5 + 2 * c.args.domains) c.args.vcpus) c.loop-vcpu-test.false c.loop-vcpu.invariant.so_far
