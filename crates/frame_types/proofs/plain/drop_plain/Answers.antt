use Rattle.std.proofs.Common.{◌∙◌, sym, subst, None}
use Rattle.xp_words.specs.KindWords.{kind_write}
use Rattle.xp_words.specs.declared.place.Place.TheVariants.{Kind}
use Rattle.xp_board.specs.declared.step.Act.TheVariants.{Store}
use Rattle.xp_board.specs.declared.step.StepKind.TheVariants as kinds
use Rattle.step_maker.specs.Holds.{Holds}
use Rattle.step_maker.specs.Moves.{Moves}
use Rattle.kind_words.specs.Kinds.{left}
use Rattle.frame_types.proofs.Dropped.{last_serves, last_stands, last_words, more_serves, more_stands, more_words}
use Rattle.frame_types.proofs.Dropping.{last_may, last_gives, last_left, more_gives, more_left}
use Rattle.frame_types.proofs.LeavingSteps.{last_drops, more_drops}
use Rattle.frame_types.proofs.plain.drop_plain.Goals as goal

pub leave-requires-clause-leaves : goal.leave-requires-clause-leaves
leave-requires-clause-leaves g c =
    rw c.dead_kind.ensures
    (last_may (g.P.Port.value c.args.port.now) (g.P.Port.value c.drop_type.new.port) c.args.frame c.drop_type.ensures.drops.found c.args.kind c.requires.frame c.requires.drops c.drop_type.ensures.drops.lowers.step
    (sym c.drop_type.ensures.drops.counts ∙ c.if-drop_type.true) (g.P.Port.value c.look_clock-stamp.new.port) c.look_clock-stamp.result c.look_clock-stamp.ensures.moves c.look_clock-stamp.ensures.hand)

pub put_ref-requires-clause-gives : goal.put_ref-requires-clause-gives
put_ref-requires-clause-gives g c =
    let b = g.P.Port.value c.look_clock-stamp.new.port in
    let d = g.P.Port.value c.leave.new.port in
    last_gives (g.P.Port.value c.args.port.now) (g.P.Port.value c.drop_type.new.port) c.args.frame c.drop_type.ensures.drops.found c.args.kind c.requires.frame c.requires.drops c.drop_type.ensures.drops.lowers.step
    (sym c.drop_type.ensures.drops.counts ∙ c.if-drop_type.true) b c.look_clock-stamp.result c.look_clock-stamp.ensures.moves c.look_clock-stamp.ensures.hand d
    (subst (λ k. Holds b d (left b c.args.frame k)) c.dead_kind.ensures c.leave.ensures.hand)

pub put_ref-requires-else-drop_type-clause-gives : goal.put_ref-requires-else-drop_type-clause-gives
put_ref-requires-else-drop_type-clause-gives g c =
    more_gives (g.P.Port.value c.args.port.now) (g.P.Port.value c.drop_type.new.port) c.args.frame c.drop_type.ensures.drops.found c.args.kind c.requires.frame c.requires.drops c.drop_type.ensures.drops.lowers.step
    (sym c.drop_type.ensures.drops.counts ∙ c.if-drop_type.false)

pub returns-then-drop_type-clause-serves : goal.returns-then-drop_type-clause-serves
returns-then-drop_type-clause-serves g c =
    let b = g.P.Port.value c.look_clock-stamp.new.port in
    let d = g.P.Port.value c.leave.new.port in
    last_serves (g.P.Port.value c.args.port.now) (g.P.Port.value c.drop_type.new.port) b d (g.P.Port.value c.put_ref.new.port) c.args.frame c.drop_type.ensures.drops.found
    c.look_clock-stamp.result c.leave.result c.args.kind c.requires.frame c.requires.drops c.drop_type.ensures.drops.lowers.step (sym c.drop_type.ensures.drops.counts ∙ c.if-drop_type.true) c.look_clock-stamp.ensures.moves
    c.look_clock-stamp.ensures.hand
    (subst (λ k. Moves b d (Kind c.args.frame) (Store (kind_write k)) kinds.Kind None c.leave.result) c.dead_kind.ensures c.leave.ensures.moves)
    c.put_ref.ensures.serves

pub returns-then-drop_type-clause-hand : goal.returns-then-drop_type-clause-hand
returns-then-drop_type-clause-hand g c =
    let b = g.P.Port.value c.look_clock-stamp.new.port in
    let d = g.P.Port.value c.leave.new.port in
    last_left (g.P.Port.value c.args.port.now) (g.P.Port.value c.drop_type.new.port) c.args.frame c.drop_type.ensures.drops.found c.args.kind c.requires.frame c.requires.drops c.drop_type.ensures.drops.lowers.step
    (sym c.drop_type.ensures.drops.counts ∙ c.if-drop_type.true) b c.look_clock-stamp.result c.look_clock-stamp.ensures.moves c.look_clock-stamp.ensures.hand d
    (subst (λ k. Holds b d (left b c.args.frame k)) c.dead_kind.ensures c.leave.ensures.hand) (g.P.Port.value c.put_ref.new.port) c.put_ref.ensures.hand

pub returns-then-drop_type-clause-plain : goal.returns-then-drop_type-clause-plain
returns-then-drop_type-clause-plain g c =
    let b = g.P.Port.value c.look_clock-stamp.new.port in
    let d = g.P.Port.value c.leave.new.port in
    last_words (g.P.Port.value c.args.port.now) (g.P.Port.value c.drop_type.new.port) b d (g.P.Port.value c.put_ref.new.port) c.args.frame c.drop_type.ensures.drops.found
    c.look_clock-stamp.result c.leave.result c.args.kind c.requires.frame c.requires.drops c.drop_type.ensures.drops.lowers.step (sym c.drop_type.ensures.drops.counts ∙ c.if-drop_type.true) c.look_clock-stamp.ensures.moves
    c.look_clock-stamp.ensures.hand
    (subst (λ k. Moves b d (Kind c.args.frame) (Store (kind_write k)) kinds.Kind None c.leave.result) c.dead_kind.ensures c.leave.ensures.moves)
    c.put_ref.ensures.plain

pub returns-else-drop_type-clause-serves : goal.returns-else-drop_type-clause-serves
returns-else-drop_type-clause-serves g c =
    more_serves (g.P.Port.value c.args.port.now) (g.P.Port.value c.drop_type.new.port) _ c.args.frame c.drop_type.ensures.drops.found c.args.kind c.drop_type.ensures.drops.lowers.step c.put_ref-else-drop_type.ensures.serves

pub returns-else-drop_type-clause-hand : goal.returns-else-drop_type-clause-hand
returns-else-drop_type-clause-hand g c =
    more_left (g.P.Port.value c.args.port.now) (g.P.Port.value c.drop_type.new.port) c.args.frame c.drop_type.ensures.drops.found c.args.kind c.requires.frame c.requires.drops c.drop_type.ensures.drops.lowers.step
    (g.P.Port.value c.put_ref-else-drop_type.new.port) (sym c.drop_type.ensures.drops.counts ∙ c.if-drop_type.false) c.put_ref-else-drop_type.ensures.hand

pub returns-else-drop_type-clause-plain : goal.returns-else-drop_type-clause-plain
returns-else-drop_type-clause-plain g c =
    more_words (g.P.Port.value c.args.port.now) (g.P.Port.value c.drop_type.new.port) (g.P.Port.value c.put_ref-else-drop_type.new.port) c.args.frame c.drop_type.ensures.drops.found c.args.kind c.drop_type.ensures.drops.lowers.step
    (sym c.drop_type.ensures.drops.counts ∙ c.if-drop_type.false) c.put_ref-else-drop_type.ensures.plain

pub returns-then-drop_type-clause-stands : goal.returns-then-drop_type-clause-stands
returns-then-drop_type-clause-stands g c =
    last_stands (g.P.Port.value c.args.port.now) (g.P.Port.value c.drop_type.new.port) c.args.frame c.drop_type.ensures.drops.found c.args.kind c.requires.frame c.requires.drops c.drop_type.ensures.drops.lowers.step
    (g.P.Port.value c.look_clock-stamp.new.port) (g.P.Port.value c.leave.new.port) c.look_clock-stamp.result c.leave.result _ c.look_clock-stamp.ensures.moves c.leave.ensures.moves c.put_ref.ensures.owned

pub returns-else-drop_type-clause-stands : goal.returns-else-drop_type-clause-stands
returns-else-drop_type-clause-stands g c =
    more_stands (g.P.Port.value c.args.port.now) (g.P.Port.value c.drop_type.new.port) c.args.frame c.drop_type.ensures.drops.found c.args.kind c.requires.frame c.requires.drops c.drop_type.ensures.drops.lowers.step c.put_ref-else-drop_type.ensures.owned

pub returns-then-drop_type-clause-found : goal.returns-then-drop_type-clause-found
returns-then-drop_type-clause-found g c =
    let b = g.P.Port.value c.look_clock-stamp.new.port in
    let d = g.P.Port.value c.leave.new.port in
    last_drops (g.P.Port.value c.args.port.now) (g.P.Port.value c.drop_type.new.port) (g.P.Port.value c.put_ref.new.port) c.args.frame c.drop_type.ensures.drops.found c.args.kind c.drop_type.ensures.drops.lowers.step b d
    c.look_clock-stamp.result c.leave.result (sym c.drop_type.ensures.drops.counts ∙ c.if-drop_type.true) c.look_clock-stamp.ensures.moves
    (subst (λ k. Moves b d (Kind c.args.frame) (Store (kind_write k)) kinds.Kind None c.leave.result) c.dead_kind.ensures c.leave.ensures.moves) c.put_ref.ensures.puts

pub returns-else-drop_type-clause-found : goal.returns-else-drop_type-clause-found
returns-else-drop_type-clause-found g c =
    more_drops (g.P.Port.value c.args.port.now) (g.P.Port.value c.drop_type.new.port) (g.P.Port.value c.put_ref-else-drop_type.new.port) c.args.frame c.drop_type.ensures.drops.found c.args.kind c.drop_type.ensures.drops.lowers.step
    (sym c.drop_type.ensures.drops.counts ∙ c.if-drop_type.false) c.put_ref-else-drop_type.ensures.puts
