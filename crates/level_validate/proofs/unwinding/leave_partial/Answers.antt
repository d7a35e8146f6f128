use Rattle.std.proofs.Common.{false, None, ap, sym, ◌∙◌, subst}
use Rattle.xp_words.specs.KindWords.{kind_write}
use Rattle.xp_words.specs.declared.kind.KindWord.{KindWord}
use Rattle.xp_words.specs.declared.place.Place.TheVariants.{Kind}
use Rattle.xp_board.specs.declared.step.Act.TheVariants.{Store}
use Rattle.step_maker.specs.Holds.{Holds}
use Rattle.step_maker.specs.Moves.{Moves}
use Rattle.kind_words.specs.Kinds.{MayLeave, left, partial_kind}
use Rattle.level_validate.proofs.Standing.{top_inside, top_leaves, top_left}
use Rattle.xp_board.specs.declared.step.StepKind.TheVariants as kinds
use Rattle.level_validate.proofs.unwinding.leave_partial.Goals as goal

pub leave-requires-clause-frame : goal.leave-requires-clause-frame
leave-requires-clause-frame g c =
    let a = c.requires.stands in top_inside a.2.1

pub leave-requires-clause-leaves : goal.leave-requires-clause-leaves
leave-requires-clause-leaves g c =
    let is = c.partial_kind-kind.ensures ∙ ap (λ k. partial_kind k false false c.args.table.done 0) c.level_type.ensures in
    subst (λ l. MayLeave (g.P.Port.value c.args.port.now) c.args.table.frame l) (sym is) (top_leaves c.requires.stands.2.1 false (λ on. absurd cc))

pub returns-clause-moves : goal.returns-clause-moves
returns-clause-moves g c =
    let is = c.partial_kind-kind.ensures ∙ ap (λ k. partial_kind k false false c.args.table.done 0) c.level_type.ensures in
    subst (λ (l : KindWord). Moves (g.P.Port.value c.args.port.now) (g.P.Port.value c.leave.new.port) (Kind c.args.table.frame) (Store (kind_write l)) kinds.Kind None c.leave.result) is c.leave.ensures.moves

pub returns-clause-hand : goal.returns-clause-hand
returns-clause-hand g c =
    let w = g.P.Port.value c.args.port.now in
    let is = c.partial_kind-kind.ensures ∙ ap (λ k. partial_kind k false false c.args.table.done 0) c.level_type.ensures in
    subst (λ h. Holds w (g.P.Port.value c.leave.new.port) h) (ap (λ l. left w c.args.table.frame l) is ∙ top_left c.requires.stands.2.1) c.leave.ensures.hand
