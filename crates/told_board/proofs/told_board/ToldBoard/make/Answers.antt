use Rattle.std.proofs.Common.{◌∙◌, sym, ap}
use Rattle.xp_board.specs.Told.{Story}
use Rattle.told_board.proofs.Telling.{opened_list, opened_words}
use Rattle.told_board.proofs.told_board.ToldBoard.make.Goals as goal

pub invariant_of-result : goal.invariant_of-result
invariant_of-result c =
    let is = c.in_ok-board.ensures.1 in
    let none = ap (λ (a : Story). a.log) is in
    record {
      words = opened_words _ _ _ none (ap (λ (a : Story). a.words) is ∙ sym (ap (λ (a : Story). a.opening) is));
      steps = λ kept. c.new.ensures.items ∙ opened_list _ _ none;
    }
