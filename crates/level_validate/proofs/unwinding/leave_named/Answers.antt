use Rattle.std.proofs.Common.{true, false, [], ◌+◌, refl, ap, sym, ◌∙◌, subst, rules}
use Rattle.xp_words.specs.declared.kind.KindWord.{KindWord}
use Rattle.step_maker.proofs.Coming.{came_trans, moves_came}
use Rattle.step_maker.specs.Asked.{of}
use Rattle.kind_words.specs.Kinds.{MayLeave, partial_kind}
use Rattle.kept_marks.specs.Marks.{IsUnpaged, KeptFor, LeavesKept}
use Rattle.level_validate.specs.Serving.{ServesLeft}
use Rattle.level_validate.proofs.Standing.{top_held, top_inside, top_kept_owner, top_leaves, top_spelled, top_unpaged}
use Rattle.level_validate.proofs.Leaving.{kept_left}
use Rattle.level_validate.proofs.Serving.{marked_kept, marked_none, piece_left, piece_names}
use Rattle.level_validate.proofs.Unwound.{outer_held, outer_kept, outer_named}
use Rattle.level_validate.proofs.unwinding.leave_named.Goals as goal

-- ---- into its mark

pub leave_kept-requires : goal.leave_kept-requires
leave_kept-requires g c =
    let is = c.partial_kind-kind.ensures ∙ ap (λ k. partial_kind k true false c.args.table.done 0) c.level_type.ensures in
    record {
      frame = top_inside c.requires.stands.1;
      may = search rules;
      leaves = subst (λ (l : KindWord). MayLeave (g.P.Port.value c.args.port.now) c.args.table.frame l) (sym is) (top_leaves c.requires.stands.1 true (λ on. c.requires.own));
      partial = search rules;
      kept = search rules;
      page = subst (λ (l : KindWord). IsUnpaged l) (sym is) (top_unpaged c.requires.stands.1);
      known = top_kept_owner c.requires.stands.1 c.requires.own;
      real = search rules;
      looked = search rules;
      room = search rules;
    }

pub returns-then-kept : goal.returns-then-kept
unfolding ServesLeft
returns-then-kept g c =
    let a = c.requires.stands in
    let w = g.P.Port.value c.args.port.now in
    let d = g.P.Port.value c.leave_kept.new.port in
    let t = c.args.table in
    let is = c.partial_kind-kind.ensures ∙ ap (λ k. partial_kind k true false c.args.table.done 0) c.level_type.ensures in
    let spelled = top_spelled a.1 true (λ on. c.requires.own) in
    record {
      came = search rules;
      hand = λ v s. outer_kept s c.requires.own c.args.kept c.if-kept.true d (subst (λ (l : KindWord). LeavesKept w d t.frame l c.args.owner) is c.leave_kept.ensures.hand);
      serves = λ u r ds a locks. marked_kept u _ r _ _ _ ds c.if-kept.true (c.leave_kept.ensures.serves u r ds a.serves (of r.owner _ a.asked.0) locks);
      course = kept_left w d c.args.owner t c.args.kept c.if-kept.true (subst (λ (l : KindWord). KeptFor w d t.frame l c.args.owner) is c.leave_kept.ensures.course);
    }

-- ---- into the first old word

pub put_old-requires-clause-held : goal.put_old-requires-clause-held
put_old-requires-clause-held g c =
    outer_held c.requires.stands.1 c.requires.own (g.P.Port.value c.leave_partial.new.port) c.leave_partial.ensures.hand (top_held c.requires.stands.1 c.requires.own)

pub returns-else-kept : goal.returns-else-kept
unfolding ServesLeft
returns-else-kept g c =
    let d = g.P.Port.value c.leave_partial.new.port in
    record {
      came = came_trans _ _ _ (moves_came _ _ _ _ _ _ _ c.leave_partial.ensures.moves) (moves_came _ _ _ _ _ _ 0 c.put_old.ensures.moves);
      hand = λ v s. outer_named s c.requires.own d c.leave_partial.ensures.hand c.args.kept c.if-kept.false (g.P.Port.value c.put_old.new.port) c.put_old.ensures.hand;
      serves = λ u r ds a locks. let left = piece_left c.requires.stands.1 _ (top_spelled c.requires.stands.1 false (λ on. absurd cc)) refl c.leave_partial.ensures.moves u r _ [] ds a in
          marked_none u _ r _ _ _ ds (piece_names _ left (c.args.table.frame + 1) c.put_old.ensures.moves).serves;
      course = search rules;
    }
