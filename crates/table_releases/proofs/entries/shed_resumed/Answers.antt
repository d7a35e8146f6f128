use Rattle.std.proofs.Common.{rules, sym, subst, ◌∙◌}
use Rattle.kind_words.specs.Kinds.{MayLeave, left}
use Rattle.step_maker.specs.Holds.{Holds}
use Rattle.table_entries.proofs.LastEntry.{seen_sheds}
use Rattle.table_releases.proofs.HandLive.{dead_gives, dead_may, dead_works, resumed_seen, shed_may}
use Rattle.table_releases.proofs.Ways.{releases_dead, releases_table}
use Rattle.table_releases.proofs.entries.shed_resumed.Goals as goal

pub shed_by_owner-requires-clause-may : goal.shed_by_owner-requires-clause-may
shed_by_owner-requires-clause-may g c = seen_sheds _ _ _ _ _ (resumed_seen c.requires.seen.3)

pub shed_entry-clock-requires : goal.shed_entry-clock-requires
shed_entry-clock-requires g c = seen_sheds _ _ _ _ _ (resumed_seen c.requires.seen.3)

pub leave-requires : goal.leave-requires
leave-requires g c =
    let r = c.requires.seen.3 in
    let w = g.P.Port.value c.shed_entry-clock.new.port in
    let shed = c.shed_entry-clock.ensures in
    let may = dead_may r w shed.hand (sym c.has_recorded.ensures ∙ c.if-has_recorded.false) c.shed_entry-clock.result shed.moves in
    record { frame = search rules; may = shed_may r w shed.hand c.requires.may; leaves = subst (λ k. MayLeave w c.args.frame k) (sym c.dead_kind.ensures) may }

pub put_ref-requires : goal.put_ref-requires
put_ref-requires g c =
    let r = c.requires.seen.3 in
    let w = g.P.Port.value c.shed_entry-clock.new.port in
    let d = g.P.Port.value c.leave.new.port in
    let shed = c.shed_entry-clock.ensures in
    let shut = sym c.has_recorded.ensures ∙ c.if-has_recorded.false in
    let dead = subst (λ k. Holds w d (left w c.args.frame k)) c.dead_kind.ensures c.leave.ensures.hand in
    record {
      frame = search rules;
      may = dead_works r w shed.hand shut c.shed_entry-clock.result shed.moves d dead (shed_may r w shed.hand c.requires.may);
      gives = dead_gives r w shed.hand shut c.shed_entry-clock.result shed.moves d dead;
    }

pub returns-then-has_recorded : goal.returns-then-has_recorded
returns-then-has_recorded g c b t word r = releases_table r c.shed_by_owner.ensures.moves c.shed_by_owner.ensures.hand (sym c.has_recorded.ensures ∙ c.if-has_recorded.true)

pub returns-else-has_recorded : goal.returns-else-has_recorded
returns-else-has_recorded g c b t word r =
    let shed = c.shed_entry-clock.ensures in
    let back = c.put_ref.ensures in
    releases_dead r shed.moves shed.hand (sym c.has_recorded.ensures ∙ c.if-has_recorded.false) c.dead_kind.ensures c.leave.ensures.moves c.leave.ensures.hand back.serves back.puts back.hand back.plain
