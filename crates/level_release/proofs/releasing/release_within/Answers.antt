use Rattle.std.proofs.Common.{[], ℕ, false, refl, sym, ◌∙◌, subst, rules}
use Rattle.frame_types.specs.Lowering.{DropsType}
use Rattle.level_release.proofs.Dropped.{closed_empties, closed_settled, counted_gives, counted_left, emptied_released, may_drop, may_drop_plain, plain_left}
use Rattle.level_release.specs.Asking.{is_due_answer}
use Rattle.level_release.specs.Course.{last, plain, shared}
use Rattle.xp_preempt.proofs.Consulting.{gated_as, gated_none}
use Rattle.level_release.proofs.Requested.{back_serves, both_serve, closed_piece}
use Rattle.level_release.proofs.ServingRun.{emptied_serves}
use Rattle.level_release.proofs.releasing.release_within.Goals as goal

-- ---- no table

pub drop_plain-requires-clause-drops : goal.drop_plain-requires-clause-drops
drop_plain-requires-clause-drops g c = may_drop_plain c.requires.holds (sym c.is_table.ensures ∙ c.if-not-is_table.true)

pub returns-then-not-is_table : goal.returns-then-not-is_table
returns-then-not-is_table g c =
    let v = g.P.Port.value c.args.port.now in
    let w = g.P.Port.value c.drop_plain.new.port in
    let e = c.drop_plain.ensures in
    record {
      serves = λ owner pages. back_serves v c.args.frame owner pages false w [] e.serves;
      stops = λ owner pages. tt;
      kinds = tt;
      hand = plain_left c.requires.holds w e.hand;
      course = gated_none refl (plain w (sym c.is_table.ensures ∙ c.if-not-is_table.true) (record { found = e.found; plain = e.plain; stands = e.stands }), refl);
    }

-- ---- a table

pub drop_type-requires-clause-drops : goal.drop_type-requires-clause-drops
drop_type-requires-clause-drops g c = may_drop c.requires.holds

-- ---- other type counts are left

pub put_ref-requires-clause-gives : goal.put_ref-requires-clause-gives
put_ref-requires-clause-gives g c =
    counted_gives c.requires.holds (subst (λ b. DropsType (g.P.Port.value c.args.port.now) (g.P.Port.value c.drop_type.new.port) c.args.frame b) c.if-drop_type.false c.drop_type.ensures.drops)

pub returns-else-drop_type : goal.returns-else-drop_type
returns-else-drop_type g c =
    let v = g.P.Port.value c.args.port.now in
    let a = g.P.Port.value c.drop_type.new.port in
    let w = g.P.Port.value c.put_ref.new.port in
    let e = c.put_ref.ensures in
    let d = subst (λ b. DropsType v a c.args.frame b) c.if-drop_type.false c.drop_type.ensures.drops in
    record {
      serves = λ owner pages. both_serve v c.args.frame owner pages false a w c.drop_type.ensures.serves e.serves;
      stops = λ owner pages. tt;
      kinds = tt;
      hand = counted_left c.requires.holds d w e.hand;
      course = gated_none refl (shared a w (sym c.is_table.ensures ∙ c.if-not-is_table.false) d (record { found = e.puts; plain = e.plain }), refl);
    }

-- ---- none is left

pub empty-requires : goal.empty-requires
empty-requires g c =
    let v = g.P.Port.value c.args.port.now in
    let a = g.P.Port.value c.drop_type.new.port in
    let d = subst (λ b. DropsType v a c.args.frame b) c.if-drop_type.true c.drop_type.ensures.drops in
    record {
      may = search rules;
      stands = (
        record v.holdings { typed = [] },
        closed_empties c.requires.holds d c.look_refs.ensures.moves c.look_refs.ensures.hand c.level_of.result c.level_of.ensures.kind c.level_of.ensures.low c.level_of.ensures.high
            (sym c.is_table.ensures ∙ c.if-not-is_table.false) c.requires.frame,
      );
      some = λ e. absurd cc;
      room = search rules;
    }

pub returns-then-drop_type : goal.returns-then-drop_type
returns-then-drop_type g c =
    let v = g.P.Port.value c.args.port.now in
    let a = g.P.Port.value c.drop_type.new.port in
    let x = g.P.Port.value c.look_refs.new.port in
    let w = g.P.Port.value c.empty.new.port in
    let answer = c.empty.result in
    let e = c.empty.ensures in
    let look = c.look_refs.ensures in
    let level = c.level_of.ensures in
    let table = sym c.is_table.ensures ∙ c.if-not-is_table.false in
    let d = subst (λ b. DropsType v a c.args.frame b) c.if-drop_type.true c.drop_type.ensures.drops in
    let run = λ (owner pages : ℕ). emptied_serves (closed_piece v c.args.frame owner pages (is_due_answer answer) refl c.drop_type.ensures.serves look.moves) refl e.course.course.0 in
    record {
      serves = λ owner pages. (run owner pages).serves;
      stops = λ owner pages. (run owner pages).stops;
      kinds = e.settled (closed_settled c.requires.holds d look.moves look.hand c.level_of.result level.kind);
      hand = emptied_released c.requires.holds d look.moves look.hand c.level_of.result level.kind level.low level.high table c.requires.frame w answer e.came e.hand;
      course = gated_as refl (λ answers emptied. (last a x w c.look_refs.result c.level_of.result answers answer table level.kind level.high d look.moves emptied.0, emptied.1)) e.course;
    }
