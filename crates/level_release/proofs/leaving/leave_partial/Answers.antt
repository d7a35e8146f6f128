use Rattle.std.proofs.Common.{◌-◌, false, sym, ap, ◌∙◌, subst}
use Rattle.xp_words.specs.declared.kind.KindWord.{KindWord}
use Rattle.kind_words.specs.Kinds.{MayLeave, partial_kind}
use Rattle.level_release.proofs.HandsLeft.{partial_leaves}
use Rattle.level_release.proofs.ServingTables.{partial_keeps}
use Rattle.level_release.proofs.leaving.leave_partial.Goals as goal

pub leave-requires-clause-leaves : goal.leave-requires-clause-leaves
leave-requires-clause-leaves g c =
    let v = g.P.Port.value c.args.port.now in
    let t = c.args.table in
    subst (λ (k : KindWord). MayLeave v t.frame k) (sym (c.partial_kind.ensures ∙ ap (λ y. partial_kind y false false (512 - t.done) 0) c.level_type.ensures)) (partial_leaves c.requires.stands.1.1)

pub returns-clause-course : goal.returns-clause-course
returns-clause-course g c =
    let moves = rw (c.partial_kind.ensures, c.level_type.ensures) at c.leave.ensures.moves in (c.leave.result, moves, partial_keeps c.requires.stands.1.1 moves)
