use Rattle.std.proofs.Common.{sym, ◌∙◌}
use Rattle.kind_words.proofs.KindFacts.{kind_is_some, read_is}
use Rattle.entry_locks.proofs.LockSteps.{locked_spelled}
use Rattle.entry_locks.proofs.Looking.{may_lock_it}
use Rattle.entry_locks.proofs.Standings.{plain_free, plain_idle, when_free}
use Rattle.entry_locks.proofs.Ways.{busy_locks, lost_locks, other_locks, table_locks}
use Rattle.entry_locks.proofs.locking.lock_found.Goals as goal

pub read_kind-kind-requires : goal.read_kind-kind-requires
read_kind-kind-requires g c =
    let l = c.requires.looked in kind_is_some (l.0).post.machine (l.0).post.vcpu (l.0).holdings c.args.frame c.args.word l.1.frame l.1.look.finds

pub set_lock-requires-clause-spelled : goal.set_lock-requires-clause-spelled
set_lock-requires-clause-spelled g c = (read_is c.args.word c.read_kind-kind.result c.read_kind-kind.ensures).1

pub set_lock-requires-clause-is : goal.set_lock-requires-clause-is
set_lock-requires-clause-is g c = (read_is c.args.word c.read_kind-kind.result c.read_kind-kind.ensures).0

pub set_lock-requires-clause-locks : goal.set_lock-requires-clause-locks
set_lock-requires-clause-locks g c =
    let l = c.requires.looked in
    may_lock_it l.0 (g.P.Port.value c.args.port.now) c.args.frame c.args.owner c.args.word l.1 c.read_kind-kind.result c.read_kind-kind.ensures (when_free c.read_kind-kind.result (sym c.is_free_table.ensures ∙ c.if-is_free_table.true))

pub returns-then-not-is_table : goal.returns-then-not-is_table
returns-then-not-is_table g c =
    let k = c.read_kind-kind.result in
    let off = sym c.is_table.ensures ∙ c.if-not-is_table.true in
    record { locks = λ b l. other_locks b (g.P.Port.value c.args.port.now) c.args.frame c.args.owner c.args.word l k c.read_kind-kind.ensures (plain_free k off) (plain_idle k off) }

pub returns-in-Ok : goal.returns-in-Ok
returns-in-Ok g c =
    let v = g.P.Port.value c.args.port.now in
    let k = c.read_kind-kind.result in
    let spelled = read_is c.args.word k c.read_kind-kind.ensures in
    let free = sym c.is_free_table.ensures ∙ c.if-is_free_table.true in
    record {
      locks = λ b l. table_locks b v c.args.frame c.args.owner c.args.word l k c.read_kind-kind.ensures (g.P.Port.value c.set_lock.new.port) spelled.0 spelled.1 free
          (locked_spelled v c.args.frame k c.requires.may spelled.0 (may_lock_it b v c.args.frame c.args.owner c.args.word l k c.read_kind-kind.ensures (when_free k free)))
          c.in-Ok.ensures.moves c.level_of.result c.level_of.ensures.kind c.level_of.ensures.low c.level_of.ensures.high c.in-Ok.ensures.hand;
    }

pub returns-in-Err : goal.returns-in-Err
returns-in-Err g c =
    let v = g.P.Port.value c.args.port.now in
    let k = c.read_kind-kind.result in
    let spelled = read_is c.args.word k c.read_kind-kind.ensures in
    let free = sym c.is_free_table.ensures ∙ c.if-is_free_table.true in
    record {
      locks = λ b l. lost_locks b v c.args.frame c.args.owner c.args.word l k c.read_kind-kind.ensures (g.P.Port.value c.set_lock.new.port) spelled.0 spelled.1 free
          (locked_spelled v c.args.frame k c.requires.may spelled.0 (may_lock_it b v c.args.frame c.args.owner c.args.word l k c.read_kind-kind.ensures (when_free k free)))
          c.in-Err.found c.in-Err.ensures.moves c.in-Err.ensures.lost c.in-Err.ensures.hand c.lost.result c.lost.ensures;
    }

pub returns-then-is_worked_on : goal.returns-then-is_worked_on
returns-then-is_worked_on g c =
    record { locks = λ b l. busy_locks b (g.P.Port.value c.args.port.now) c.args.frame c.args.owner c.args.word l c.read_kind-kind.result c.read_kind-kind.ensures (sym c.is_worked_on.ensures ∙ c.if-is_worked_on.true) }

pub returns : goal.returns
returns g c =
    record {
      locks = λ b l. other_locks b (g.P.Port.value c.args.port.now) c.args.frame c.args.owner c.args.word l c.read_kind-kind.result c.read_kind-kind.ensures (sym c.is_free_table.ensures ∙ c.if-is_free_table.false)
          (sym c.is_worked_on.ensures ∙ c.if-is_worked_on.false);
    }
