use Rattle.desc_pages.proofs.WaitingLeft.{desc_may, paused_leaves, refused_leaves}
use Rattle.desc_pages.proofs.pages.leave_waiting.Goals as goal

pub leave-requires-clause-leaves : goal.leave-requires-clause-leaves
leave-requires-clause-leaves g c =
    let w = c.requires.waits in rw c.waiting_kind-kind.ensures (desc_may w.0 (g.P.Port.value c.args.port.now) c.args.frame c.args.owner c.args.stamp w.1)

pub returns-in-Refused : goal.returns-in-Refused
returns-in-Refused g c = let e = c.leave_dead.ensures in refused_leaves c.in-Refused.is e.came e.serves e.hand e.visits

pub returns-in-Paused : goal.returns-in-Paused
returns-in-Paused g c = paused_leaves c.in-Paused.is c.waiting_kind-kind.ensures c.requires.own c.requires.waits c.leave.ensures.moves c.leave.ensures.hand
