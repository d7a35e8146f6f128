use Rattle.std.proofs.Common.{sym, ap, ◌∙◌, subst}
use Rattle.shared_board.proofs.Stepping.{awaited}
use Rattle.thread_board.specs.declared.rule.Opening.{Opening}
use Rattle.thread_board.specs.declared.rule.SharedView.{SharedView}
use Rattle.thread_board.specs.Sharing.{one, hold_of, deed_of, DidShare}
use Rattle.thread_board.specs.Boards.{board_value}
use Rattle.thread_board.specs.Passes.{pass_of}
use Rattle.thread_board.specs.Values.{BoardValue, PassValue, PassSteps}
use Rattle.thread_board.proofs.Sharing.{legal_inside, pass_inside, kept_on, steps_on}
use Rattle.thread_board.proofs.board.SharedBoard.step.Goals as goal

pub hear-requires-clause-awaits : goal.hear-requires-clause-awaits
hear-requires-clause-awaits c =
    awaited _ _ (hold_of c.pass.inside.seat.me.0) c.args.step _ c.pass.invariant.kept (legal_inside (board_value c.self.inside) _ (pass_of c.pass.inside) _ c.args.step c.self.view_is c.pass.view_is c.requires.legal)

pub invariant_of-pass : goal.invariant_of-pass
invariant_of-pass c =
    let was = c.pass.invariant in
    let s = c.pass.inside.vcpu in
    let did : DidShare (deed_of c.self.inside.opening s c.args.step) c.pass.inside.seat.me c.share_step-found.result c.share_step-found.new.seat.me =
    subst (λ (o : Opening). DidShare (deed_of o s c.args.step) c.pass.inside.seat.me c.share_step-found.result c.share_step-found.new.seat.me) c.self.invariant.key c.share_step-found.ensures.did in
    record {
      view = did.applied ∙ sym (ap (λ (v : SharedView). one s (hold_of v)) did.applied);
      slots = did.slots ∙ was.slots;
      kept = kept_on c.self.inside.opening.layout s c.share_step-found.result c.args.step _ _ c.pass.inside.translations c.hear.new.self was.kept c.hear.ensures (ap hold_of did.applied);
    }

pub returns : goal.returns
returns c =
    let s = c.pass.inside.vcpu in
    let did : DidShare (deed_of c.self.inside.opening s c.args.step) c.pass.inside.seat.me c.share_step-found.result c.share_step-found.new.seat.me =
    subst (λ (o : Opening). DidShare (deed_of o s c.args.step) c.pass.inside.seat.me c.share_step-found.result c.share_step-found.new.seat.me) c.self.invariant.key c.share_step-found.ensures.did in
    let mine = pass_inside (board_value c.self.inside) _ (pass_of c.pass.inside) _ c.self.view_is c.pass.view_is c.requires.pass in
    let now : PassValue = record { table = c.share_step-found.new.seat.table_id; vcpu = s; holdings = hold_of c.share_step-found.new.seat.me.0 } in
    subst (λ (y : BoardValue × PassValue). PassSteps y.0 y.1 c.args.step c.share_step-found.result now) (λ k. (c.self.view_is k, c.pass.view_is k))
    (steps_on (board_value c.self.inside) (pass_of c.pass.inside) now c.args.step c.share_step-found.result mine did.finds did.own
    (λ k. record { table = c.share_step-found.ensures.seat.0 k; vcpu = s; holdings = ap hold_of did.applied k }))
