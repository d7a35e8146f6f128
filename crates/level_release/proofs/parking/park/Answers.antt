use Rattle.std.proofs.Common.{false, rules, length, subst, sym, ◌<◌}
use Rattle.table_releases.proofs.HandLive.{may_dropped}
use Rattle.step_maker.proofs.Piecing.{serves_came}
use Rattle.step_maker.proofs.Coming.{came_post}
use Rattle.xp_board.specs.Told.{Post}
use Rattle.level_release.proofs.Dropped.{counted_gives, may_drop}
use Rattle.level_release.proofs.Parked.{last_looks, last_may, last_owner, lives, marked_parks, named_parks, parks_held, shared_parks, last_inside, last_post, last_room, last_works, parks_inside, parks_room, parks_works}
use Rattle.level_release.proofs.parking.park.Goals as goal

pub drop_type-requires-clause-drops : goal.drop_type-requires-clause-drops
drop_type-requires-clause-drops g c = may_drop (lives c.requires.holds)

-- ---- other type counts are left
pub put_ref-requires : goal.put_ref-requires
put_ref-requires g c =
    let v = g.P.Port.value c.args.port.now in
    let u = g.P.Port.value c.drop_type.new.port in
    let d = c.drop_type.ensures in
    let drops = rw c.if-drop_type.false at d.drops in
    record {
      frame = subst (λ (p : Post). c.args.frame < p.machine.frames) (sym (came_post v u (serves_came v u _ _ d.serves))) c.requires.frame;
      may = may_dropped v u c.args.frame false drops c.requires.may;
      gives = counted_gives (lives c.requires.holds) drops;
    }

pub returns-else-drop_type : goal.returns-else-drop_type
returns-else-drop_type g c =
    let put = c.put_ref.ensures in
    shared_parks c.requires (rw c.if-drop_type.false at c.drop_type.ensures.drops) c.drop_type.ensures.serves put.serves put.hand (record { found = put.puts; plain = put.plain })

-- ---- it was the last
pub leave_kept-requires : goal.leave_kept-requires
leave_kept-requires g c =
    let drops = rw c.if-drop_type.true at c.drop_type.ensures.drops in
    record {
      frame = last_inside c.requires drops;
      may = last_works c.requires drops;
      leaves = rw (rw c.level_type.ensures at c.partial_kind-kind.ensures) (last_may c.requires drops c.args.kept);
      partial = search rules;
      kept = search rules;
      page = search rules;
      known = last_owner c.requires drops;
      real = subst (λ (p : Post). c.args.owner < length p.machine.page_limit) (sym (last_post c.requires drops)) c.requires.real;
      looked = last_looks c.requires drops;
      room = λ off. last_room c.requires drops;
    }

pub returns-then-kept : goal.returns-then-kept
returns-then-kept g c =
    let drops = rw c.if-drop_type.true at c.drop_type.ensures.drops in
    let left = c.leave_kept.ensures in
    rw c.if-kept.true (marked_parks c.requires drops c.drop_type.ensures.serves (rw (c.level_type.ensures, c.if-kept.true) at c.partial_kind-kind.ensures) left.came left.hand left.serves left.course)

pub leave-requires : goal.leave-requires
leave-requires g c =
    let drops = rw c.if-drop_type.true at c.drop_type.ensures.drops in
    record { frame = last_inside c.requires drops; may = last_works c.requires drops; leaves = rw (rw c.level_type.ensures at c.partial_kind-kind.ensures) (last_may c.requires drops c.args.kept) }

pub put_old-requires : goal.put_old-requires
put_old-requires g c =
    let y = g.P.Port.value c.leave.new.port in
    let drops = rw c.if-drop_type.true at c.drop_type.ensures.drops in
    let is = rw (c.level_type.ensures, c.if-kept.false) at c.partial_kind-kind.ensures in
    let serves = c.drop_type.ensures.serves in
    let left = c.leave.ensures.hand in
    record { frame = parks_inside c.requires drops serves y is left; may = parks_works c.requires drops serves y is left; empty = parks_room c.requires drops serves y is left; held = parks_held c.requires drops serves y is left }

pub returns-else-kept : goal.returns-else-kept
returns-else-kept g c =
    let drops = rw c.if-drop_type.true at c.drop_type.ensures.drops in
    let is = rw (c.level_type.ensures, c.if-kept.false) at c.partial_kind-kind.ensures in
    rw c.if-kept.false (named_parks c.requires drops c.drop_type.ensures.serves (g.P.Port.value c.leave.new.port) is c.leave.ensures.hand c.leave.ensures.moves c.put_old.ensures.moves c.put_old.ensures.hand)
