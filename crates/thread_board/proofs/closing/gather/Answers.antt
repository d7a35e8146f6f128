use Rattle.std.proofs.Common.{List, ◌≡◌, ◌++◌, ◌∷◌, [], ◌+◌, length, sym, ap, ◌∙◌, arith, length-append}
use Rattle.xp_board.specs.declared.holdings.Holdings.{Holdings}
use Rattle.thread_board.specs.declared.rule.SharedView.{SharedView}
use Rattle.thread_board.specs.Sharing.{one, hold_of}
use Rattle.thread_board.specs.Values.{PassValue, held_by}
use Rattle.thread_board.proofs.Gathering.{last_of, held_more, held_first, hands_are, joins_at}
use Rattle.thread_board.proofs.closing.gather.Goals as goal

pub loop-pass-init : goal.loop-pass-init
loop-pass-init c =
    let popped : c.args.passes.items ≡ c.pop.new.self.items ++ c.in-Some.last ∷ [] = c.in-Some.ensures.items in
    let last = last_of _ _ _ _ c.requires.own popped in
    let view = c.last.invariant.view in record {
      table = ap (λ (p : PassValue). p.table) c.last.view_is ∙ last.1;
      from = ap (λ (v : SharedView). v.from) view ∙ (ap (λ (p : PassValue). p.vcpu) c.last.view_is ∙ last.2);
      hands = held_first _ _ _ _ popped (hands_are _ _ _ c.args.shared.now.table_id _ _ view c.last.view_is);
      slots = c.last.invariant.slots;
      own = last.0;
    }

pub join_seat-requires : goal.join_seat-requires
join_seat-requires c =
    let popped = c.in-Some-pop.ensures.items in
    let i = c.loop-pass.invariant in
    let last = last_of _ _ _ _ i.own popped in
    let view : c.pass.inside.seat.me.0 ≡ one (length c.pop-in-loop-pass.new.self.items) (hold_of c.pass.inside.seat.me.0) = c.pass.invariant.view ∙ ap (λ n. one n (hold_of c.pass.inside.seat.me.0)) (ap (λ (p : PassValue). p.vcpu) c.pass.view_is ∙ last.2) in
    let from : c.loop-pass.all.me.0.from ≡ length c.pop-in-loop-pass.new.self.items + 1 = omega (arith, i.from, ap length popped, length-append {A = PassValue}) in
    (ap (λ (p : PassValue). p.table) c.pass.view_is ∙ last.1, i.table, i.slots, c.requires.words, joins_at _ _ _ _ _ _ _ view from)

pub loop-pass-preserved : goal.loop-pass-preserved
loop-pass-preserved c =
    let popped = c.in-Some-pop.ensures.items in
    let i = c.loop-pass.invariant in
    let j = c.join_seat.ensures in
    let last = last_of _ _ _ _ i.own popped in
    let view = c.pass.invariant.view in
    let now = ap (λ m. m.0) j.2 in
    let mine : c.pass.inside.seat.me.0.hands ≡ c.in-Some-pop.pass.holdings ∷ [] = hands_are _ _ _ c.args.shared.now.table_id _ _ view c.pass.view_is in
    let joined : c.join_seat.new.seat.me.0.hands ≡ c.in-Some-pop.pass.holdings ∷ c.loop-pass.all.me.0.hands = ap (λ (v : SharedView). v.hands) now ∙ ap (λ (l : List Holdings). l ++ c.loop-pass.all.me.0.hands) mine in record {
      table = j.0 ∙ (ap (λ (p : PassValue). p.table) c.pass.view_is ∙ last.1);
      from = ap (λ (v : SharedView). v.from) now ∙ (ap (λ (v : SharedView). v.from) view ∙ (ap (λ (p : PassValue). p.vcpu) c.pass.view_is ∙ last.2));
      hands = held_more _ _ _ _ _ i.hands popped ∙ ap (λ (l : List Holdings). held_by c.pop-in-loop-pass.new.self.items ++ l) (sym joined);
      slots = ap (λ m. m.1) j.2 ∙ c.pass.invariant.slots;
      own = last.0;
    }
