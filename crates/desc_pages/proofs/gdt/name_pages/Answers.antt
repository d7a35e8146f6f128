use Rattle.std.proofs.Common.{◌-◌, ◌+◌, length, sym, subst, arith}
use Rattle.desc_pages.specs.Gdt.{NamesAll, held, least, own_domain}
use Rattle.desc_pages.specs.Names.{HoldsForPage, PutsPage}
use Rattle.desc_pages.proofs.Held.{one_below}
use Rattle.desc_pages.proofs.Naming.{holds_next, names_more, names_none}
use Rattle.desc_pages.proofs.gdt.name_pages.Goals as goal

pub loop-left-init : goal.loop-left-init
loop-left-init g c = (omega arith, names_none (g.P.Port.value c.args.port.now) c.args.frames.now c.requires.few c.requires.holds)

pub put_page-requires-clause-holds : goal.put_page-requires-clause-holds
put_page-requires-clause-holds g c =
    let v = g.P.Port.value c.args.port.now in
    let y = g.P.Port.value c.loop-left.port in
    let fs = c.args.frames.now in
    let k = c.loop-left.left - 1 in
    let few = c.loop-left.invariant.0 in
    let some = c.loop-left-test.true in
    let so = subst (λ j. NamesAll v y fs j) (one_below c.loop-left.left some) c.loop-left.invariant.1 in
    (held (own_domain v) fs (least k (length fs)), subst (λ o. HoldsForPage y o (held (own_domain v) fs (least k (length fs)))) (sym c.page_at.ensures) (holds_next v y fs k (omega (arith, few, some)) c.requires.holds so))

pub loop-left-preserved : goal.loop-left-preserved
loop-left-preserved g c =
    let v = g.P.Port.value c.args.port.now in
    let y = g.P.Port.value c.loop-left.port in
    let w = g.P.Port.value c.put_page.new.port in
    let fs = c.args.frames.now in
    let k = c.loop-left.left - 1 in
    let rest = held (own_domain v) fs (least k (length fs)) in
    let few = c.loop-left.invariant.0 in
    let some = c.loop-left-test.true in
    let so = subst (λ j. NamesAll v y fs j) (one_below c.loop-left.left some) c.loop-left.invariant.1 in
    let holds = holds_next v y fs k (omega (arith, few, some)) c.requires.holds so in (
      omega (arith, few),
      names_more v y fs k (omega (arith, few, some)) c.requires.holds so w
          (subst (λ o. PutsPage y w (8 + k) o rest) c.page_at.ensures (c.put_page.ensures rest (subst (λ o. HoldsForPage y o rest) (sym c.page_at.ensures) holds))),
    )
