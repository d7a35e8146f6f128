use Rattle.std.proofs.Common.{false, None, ap, ◌∙◌, refl, subst}
use Rattle.step_maker.proofs.Piecing.{serves_came}
use Rattle.flush_words.proofs.Shared.{may_held}
use Rattle.step_maker.proofs.Coming.{moved_inside}
use Rattle.level_release.proofs.HandsTop.{top}
use Rattle.level_release.proofs.HandsDead.{close_gives, close_leaves, close_may, close_settled, close_stands}
use Rattle.xp_words.specs.KindWords.{kind_write}
use Rattle.xp_words.specs.declared.kind.KindWord.{KindWord}
use Rattle.xp_words.specs.declared.place.Place.TheVariants.{Kind}
use Rattle.xp_board.specs.declared.step.Act.TheVariants.{Store}
use Rattle.step_maker.specs.Moves.{Moves}
use Rattle.step_maker.proofs.Visiting.{does_then}
use Rattle.frame_words.specs.Freeing.{PutBy}
use Rattle.frame_types.specs.Found.{Dies}
use Rattle.frame_types.proofs.LeavingSteps.{dies}
use Rattle.kind_words.specs.Kinds.{dead_kind}
use Rattle.partial_state.specs.Levels.{level_type}
use Rattle.level_release.proofs.ServingTables.{closes}
use Rattle.xp_board.specs.declared.step.StepKind.TheVariants as kinds
use Rattle.level_release.proofs.emptying.close.Goals as goal

pub leave-requires : goal.leave-requires
leave-requires g c =
    let v = g.P.Port.value c.args.port.now in
    let s = c.requires.stands.1.1 in
    let look = c.look_clock-clock.ensures in
    record {
      frame = moved_inside look.moves (top s).is.inside;
      may = may_held v (g.P.Port.value c.look_clock-clock.new.port) v.holdings look.hand refl refl c.requires.may;
      leaves = close_leaves s c.requires.empty look.moves look.hand c.level_type.ensures c.dead_kind.ensures;
    }

pub put_ref-requires : goal.put_ref-requires
put_ref-requires g c =
    let v = g.P.Port.value c.args.port.now in
    let s = c.requires.stands.1.1 in
    let look = c.look_clock-clock.ensures in
    let store = c.leave.ensures in
    record {
      frame = moved_inside store.moves (moved_inside look.moves (top s).is.inside);
      may = close_may s c.requires.empty look.moves look.hand c.level_type.ensures c.dead_kind.ensures store.moves store.hand (may_held v (g.P.Port.value c.look_clock-clock.new.port) v.holdings look.hand refl refl c.requires.may);
      gives = close_gives s c.requires.empty look.moves look.hand c.level_type.ensures c.dead_kind.ensures store.moves store.hand;
    }

pub returns : goal.returns
returns g c =
    let v = g.P.Port.value c.args.port.now in
    let x = g.P.Port.value c.look_clock-clock.new.port in
    let d = g.P.Port.value c.leave.new.port in
    let t = c.args.table in
    let clock = c.look_clock-clock.result in
    let is = c.dead_kind.ensures ∙ ap (λ k. dead_kind k false clock) c.level_type.ensures in
    let look = c.look_clock-clock.ensures in
    let store = subst (λ (l : KindWord). Moves x d (Kind t.frame) (Store (kind_write l)) kinds.Kind None c.leave.result) is c.leave.ensures.moves in
    let w = g.P.Port.value c.put_ref.new.port in
    let put = c.put_ref.ensures in
    let behind = serves_came _ _ _ _ put.serves in
    record {
      found = does_then v d w (Dies t.frame (level_type t.level) false) (PutBy t.frame) (dies v x d t.frame c.leave.result clock (level_type t.level) false look.moves store) put.puts;
      serves = closes w c.requires.stands.1.1 look.moves look.hand store put.serves;
      stands = λ ts h s. close_stands s c.requires.empty look.moves look.hand c.level_type.ensures c.dead_kind.ensures c.leave.ensures.moves c.leave.ensures.hand w put.hand behind;
      settled = close_settled c.requires.stands.1.1 c.requires.empty look.moves look.hand c.level_type.ensures c.dead_kind.ensures c.leave.ensures.moves c.leave.ensures.hand w put.hand behind;
    }
