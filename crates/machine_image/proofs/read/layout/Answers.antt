use Rattle.std.proofs.Common.{◌≡◌, Ok, refl}
use Rattle.xp_words.specs.Machine.{Machine}
use Rattle.machine_image.specs.Reading.{machine_at}
use Rattle.machine_image.proofs.Machines.{is_machine, machine_holds}
use Rattle.machine_image.proofs.read.layout.Goals as goal

pub invariant_of-result : goal.invariant_of-result
unfolding machine_at
invariant_of-result c =
    let bytes = c.args.bytes.now in
    let made : Machine = record { frames = c.in_ok-frames.frames; limit = c.in_ok-limit.limit; page_limit = c.in_ok-page_limit.page_limit.items; privilege = c.in_ok-privilege.privilege.items; vcpu_domain = c.in_ok-vcpu_domain.vcpu_domain.items } in
    let reads : machine_at bytes ≡ Ok made = rw (c.in_ok-_letters.ensures, c.in_ok-frames.ensures.gives, c.in_ok-limit.ensures.gives, c.in_ok-domains.ensures.gives, c.in_ok-vcpus.ensures.gives, c.in_ok-page_limit.ensures, c.in_ok-privilege.ensures, c.in_ok-vcpu_domain.ensures) refl in
    let is = is_machine bytes made (machine_holds bytes made reads) in
    rw (c.new.ensures, c.new-2.ensures, c.new-3.ensures) is
