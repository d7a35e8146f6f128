use Rattle.std.proofs.Common.{[], ◌≡◌, ◌+◌, ◌-◌, suc, ap, ◌∙◌, arith, length-append}
use Rattle.std.specs.Prelude.{length, replicate}
use Rattle.thread_board.specs.Values.{PassValue}
use Rattle.xp_board.specs.Hands.{empty}
use Rattle.thread_board.specs.declared.rule.SharedView.{SharedView}
use Rattle.thread_board.specs.Sharing.{one}
use Rattle.thread_board.proofs.Dealing.{splits_at, first_is, opened_more, pass_opened}
use Rattle.thread_board.proofs.board.deal.Goals as goal

pub split_seat-next-requires : goal.split_seat-next-requires
split_seat-next-requires c =
    let i = c.loop-vcpu.invariant in
    let more : c.args.vcpus - c.loop-vcpu.vcpu ≡ suc (c.args.vcpus - (c.loop-vcpu.vcpu + 1)) = omega arith in
    (i.table, c.requires.words, splits_at _ _ _ _ _ _ (ap (λ m. m.0) i.view) more)

pub loop-vcpu-preserved : goal.loop-vcpu-preserved
loop-vcpu-preserved c =
    let i = c.loop-vcpu.invariant in
    let s = c.split_seat-next.ensures in
    let p = c.push_reserved.ensures in
    let more : c.args.vcpus - c.loop-vcpu.vcpu ≡ suc (c.args.vcpus - (c.loop-vcpu.vcpu + 1)) = omega arith in
    let parts = first_is _ _ _ _ (ap (λ m. m.0) i.view) more in record {
      table = s.3 ∙ i.table;
      view = s.4 ∙ ap (λ (v : SharedView). (v, [])) parts.1;
      room = p.capacity ∙ i.room;
      count = omega (arith, ap length p.items, length-append {A = PassValue}, i.count);
      passes = opened_more _ _ _ _ _ i.passes i.count p.items (pass_opened _ _ _ _ (s.0 ∙ i.table) (ap (λ m. m.0) s.2 ∙ parts.0));
    }

pub returns-clause-passes : goal.returns-clause-passes
returns-clause-passes c =
    let i = c.loop-vcpu.invariant in
    let at : c.loop-vcpu.vcpu ≡ c.args.vcpus - 1 = omega arith in
    let left : c.args.vcpus - c.loop-vcpu.vcpu ≡ 1 = omega arith in
    let view : c.loop-vcpu.rest.me.0 ≡ one (c.args.vcpus - 1) empty = ap (λ m. m.0) i.view ∙ (λ k. record { from = at k; hands = replicate (left k) empty }) in
    opened_more _ _ _ _ _ i.passes (i.count ∙ at) c.push_reserved-2.ensures.items (pass_opened _ _ _ _ i.table view)
