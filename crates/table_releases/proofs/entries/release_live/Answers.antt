use Rattle.std.proofs.Common.{rules, sym, subst, ◌∙◌}
use Rattle.frame_types.specs.Lowering.{DropsType}
use Rattle.table_entries.proofs.LastEntry.{seen_sheds}
use Rattle.table_releases.proofs.FrameSeen.{now_seen}
use Rattle.table_releases.proofs.HandLive.{counted_gives, live_drops, live_drops_plain, live_may, may_dropped}
use Rattle.table_releases.proofs.Ways.{releases_closed, releases_counted, releases_plain}
use Rattle.table_releases.proofs.entries.release_live.Goals as goal

pub shed_by_owner-requires-clause-may : goal.shed_by_owner-requires-clause-may
shed_by_owner-requires-clause-may g c = seen_sheds _ _ _ _ _ (now_seen c.requires.seen.1.3)

pub drop_plain-requires-clause-drops : goal.drop_plain-requires-clause-drops
drop_plain-requires-clause-drops g c = live_drops_plain c.requires.seen.1.3 c.requires.seen.2 (g.P.Port.value c.shed_by_owner.new.port) c.shed_by_owner.ensures.hand (sym c.is_table.ensures ∙ c.if-not-is_table.true)

pub drop_type-requires-clause-drops : goal.drop_type-requires-clause-drops
drop_type-requires-clause-drops g c = live_drops c.requires.seen.1.3 c.requires.seen.2 (g.P.Port.value c.shed_by_owner.new.port) c.shed_by_owner.ensures.hand

pub put_ref-requires : goal.put_ref-requires
put_ref-requires g c =
    let l = c.requires.seen.1.3 in
    let w = g.P.Port.value c.shed_by_owner.new.port in
    let z = g.P.Port.value c.drop_type.new.port in
    let shed = c.shed_by_owner.ensures.hand in
    record {
      frame = search rules;
      may = may_dropped w z c.args.frame c.drop_type.result c.drop_type.ensures.drops (live_may l c.requires.seen.2 w shed c.requires.may);
      gives = counted_gives l c.requires.seen.2 w shed z (subst (λ r. DropsType w z c.args.frame r) c.if-drop_type.false c.drop_type.ensures.drops);
    }

pub returns-then-not-is_table : goal.returns-then-not-is_table
returns-then-not-is_table g c x live b t word l =
    let shed = c.shed_by_owner.ensures in
    let drop = c.drop_plain.ensures in
    releases_plain l live shed.moves shed.hand (sym c.is_table.ensures ∙ c.if-not-is_table.true) drop.serves drop.hand drop.found drop.plain

pub returns-then-drop_type : goal.returns-then-drop_type
returns-then-drop_type g c x live b t word l =
    let shed = c.shed_by_owner.ensures in
    let drop = c.drop_type.ensures in
    releases_closed l live shed.moves shed.hand drop.drops (sym c.is_table.ensures ∙ c.if-not-is_table.false) drop.serves drop.plain c.if-drop_type.true

pub returns-else-drop_type : goal.returns-else-drop_type
returns-else-drop_type g c x live b t word l =
    let shed = c.shed_by_owner.ensures in
    let drop = c.drop_type.ensures in
    let back = c.put_ref.ensures in
    releases_counted l live shed.moves shed.hand drop.drops (sym c.is_table.ensures ∙ c.if-not-is_table.false) drop.serves drop.plain c.if-drop_type.false back.serves back.puts back.hand back.plain
