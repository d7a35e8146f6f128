use Rattle.std.proofs.Common.{◌-◌, subst, arith}
use Rattle.desc_pages.specs.Ldt.{UnnamesAll}
use Rattle.desc_pages.proofs.Held.{one_below}
use Rattle.desc_pages.proofs.Unnaming.{holds_none, unnames_more, unnames_none}
use Rattle.desc_pages.proofs.ldt.unname_pages.Goals as goal

pub loop-left-init : goal.loop-left-init
loop-left-init g c = (omega arith, unnames_none (g.P.Port.value c.args.port.now))

pub loop-left-preserved : goal.loop-left-preserved
loop-left-preserved g c =
    let v = g.P.Port.value c.args.port.now in
    let y = g.P.Port.value c.loop-left.port in
    let k = c.loop-left.left - 1 in
    let few = c.loop-left.invariant.0 in
    let some = c.loop-left-test.true in
    let so = subst (λ j. UnnamesAll v y j) (one_below c.loop-left.left some) c.loop-left.invariant.1 in (
      omega (arith, few),
      unnames_more v y k (omega (arith, few, some)) so (g.P.Port.value c.put_page.new.port)
          (c.put_page.ensures y.holdings.typed (holds_none v y k (omega (arith, few, some)) so c.requires.rests.empty.works)),
    )
