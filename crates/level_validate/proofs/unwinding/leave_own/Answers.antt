use Rattle.std.proofs.Common.{false, ◌∷◌, refl, sym, subst, rules}
use Rattle.step_maker.proofs.Coming.{came_trans, moves_came}
use Rattle.level_validate.specs.Serving.{CarriesOn}
use Rattle.level_validate.specs.Tables.{Carries}
use Rattle.level_validate.proofs.Leaving.{own_new, own_records, own_stands}
use Rattle.level_validate.proofs.Standing.{top_spelled}
use Rattle.level_validate.proofs.Serving.{piece_left, piece_records, piece_rest}
use Rattle.level_validate.proofs.unwinding.leave_own.Goals as goal

pub record_entry-requires : goal.record_entry-requires
record_entry-requires g c =
    let w = g.P.Port.value c.args.port.now in
    let t = c.args.table in
    own_records (subst (λ ts. Carries c.requires.stands.1.0 w c.requires.stands.0 (t ∷ ts)) c.in-Some.ensures.some c.requires.stands.1.1) c.requires.own (own_new c.requires.stands.1.1 c.requires.own)
    c.leave_partial.ensures.moves c.leave_partial.ensures.hand

pub returns-in-Some : goal.returns-in-Some
unfolding CarriesOn
returns-in-Some g c =
    let x = g.P.Port.value c.record_entry.new.port in
    let came = came_trans _ _ _ (moves_came _ _ _ _ _ _ _ c.leave_partial.ensures.moves) (moves_came _ _ _ _ _ _ _ c.record_entry.ensures.moves) in
    let b = c.requires.stands in
    let ts = c.args.stack.now in
    record {
      came = came_trans _ _ _ (moves_came _ _ _ _ _ _ _ c.leave_partial.ensures.moves) (moves_came _ _ _ _ _ _ _ c.record_entry.ensures.moves);
      stands = λ owner v s. subst (λ ts. Carries v x owner ts) (sym c.in-Some.ensures.some)
          (own_stands (subst (λ ts. Carries v (g.P.Port.value c.args.port.now) owner (c.args.table ∷ ts)) c.in-Some.ensures.some s) c.requires.own (own_new s c.requires.own)
          c.leave_partial.ensures.moves c.leave_partial.ensures.hand x c.record_entry.ensures.hand came);
      serves = λ owner u r ds a. let left = piece_left b.1.1 _ (top_spelled b.1.1 false (λ on. absurd cc)) refl c.leave_partial.ensures.moves u r owner _ ds a in
          piece_rest u _ r owner _ _ ds (piece_records _ left _ _ _ c.record_entry.ensures.moves);
      course = search rules;
    }
