use Rattle.std.proofs.Common.{false, [], refl, rules}
use Rattle.step_maker.proofs.Coming.{came_trans, moves_came}
use Rattle.step_maker.specs.Asked.{of_back}
use Rattle.step_maker.proofs.Piecing.{serves_came}
use Rattle.level_validate.specs.Serving.{CarriesOn}
use Rattle.level_validate.proofs.Standing.{top_spelled}
use Rattle.level_validate.proofs.Serving.{piece_around, piece_back, piece_left, piece_rest}
use Rattle.level_validate.proofs.Leaving.{lent_puts, lent_stands}
use Rattle.level_validate.proofs.unwinding.leave_lent.Goals as goal

pub put_ref-requires-clause-gives : goal.put_ref-requires-clause-gives
put_ref-requires-clause-gives g c =
    lent_puts c.requires.stands.2.1 c.requires.lent c.leave_partial.ensures.moves c.leave_partial.ensures.hand

pub returns : goal.returns
unfolding CarriesOn
returns g c =
    let came = came_trans _ _ _ (moves_came _ _ _ _ _ _ _ c.leave_partial.ensures.moves) (serves_came _ _ (of_back c.args.table.frame) [] c.put_ref.ensures.serves) in
    let b = c.requires.stands in
    let f = c.args.table.frame in
    record {
      came = came_trans _ _ _ (moves_came _ _ _ _ _ _ _ c.leave_partial.ensures.moves) (serves_came _ _ (of_back c.args.table.frame) [] c.put_ref.ensures.serves);
      stands = λ owner ts v s. lent_stands s c.requires.lent c.leave_partial.ensures.moves c.leave_partial.ensures.hand _ c.put_ref.ensures.hand came _ refl;
      serves = λ owner ts u r ds a. let left = piece_left b.2.1 _ (top_spelled b.2.1 false (λ on. absurd cc)) refl c.leave_partial.ensures.moves u r owner ts ds a in
          piece_around _ u _ r owner ts ds (piece_rest u _ r owner _ ts ds (piece_back _ left c.put_ref.ensures.serves));
      course = search rules;
    }
