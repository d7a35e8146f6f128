use Rattle.std.proofs.Common.{◌<◌, ◌≤◌, length, ap, sym, subst, arith}
use Rattle.xp_words.specs.Machine.{Machine}
use Rattle.xp_words.specs.declared.place.Place.{Place}
use Rattle.xp_words.specs.declared.place.Place.TheVariants.{Vcpu}
use Rattle.xp_words.specs.Places.{sizes_of}
use Rattle.xp_board.specs.Spelling.{IsSpelling}
use Rattle.worked_tests.proofs.Telling.{Stands, vcpu_stands, base_spelled}
use Rattle.worked_tests.proofs.walks.begin.Goals as goal

here : (c : goal.After-from) → Stands (sizes_of c.args.layout.now) c.vcpu_place.result (Vcpu 0 c.args.base)
here c =
    let some = subst (λ (n : Machine). 0 < length n.vcpu_domain) c.layout.view_is c.layout.invariant.some_vcpus in
    let base = c.if-base-gt1.false in
    vcpu_stands (sizes_of c.args.layout.now) 0 c.args.base c.vcpu_place.result some (omega arith) c.vcpu_place.ensures

pub hear-requires-clause-real : goal.hear-requires-clause-real
hear-requires-clause-real c = let there = here c in there.real

pub hear-requires-clause-awaits : goal.hear-requires-clause-awaits
hear-requires-clause-awaits c = let base = c.if-base-gt1.false in let there = here c in (c.args.base, omega arith, there.at)

pub hear-requires-clause-small : goal.hear-requires-clause-small
hear-requires-clause-small c =
    let base = c.if-base-gt1.false in
    let there = here c in
    let few = subst (λ (n : Machine). n.frames ≤ 65536) c.layout.view_is c.layout.invariant.few_frames in
    let low = subst (λ k. c.from.result ≤ k) (ap (λ (n : Machine). n.frames) c.layout.view_is) (subst (λ k. k ≤ c.layout.inside.frames) (sym c.from.ensures) c.if-word-layout.false) in
    subst (λ (p : Place). IsSpelling c.args.layout.now p c.from.result) (sym there.at)
    (base_spelled c.args.layout.now 0 c.args.base c.from.result (omega arith) (omega arith) low)
