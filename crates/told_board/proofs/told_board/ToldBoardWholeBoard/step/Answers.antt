use Rattle.std.proofs.Common.{rules, ◌≡◌, ◌∙◌, false, true, ◌++◌, ◌∷◌, [], sym, subst}
use Rattle.xp_board.specs.Legal.{Legal}
use Rattle.xp_board.specs.Sound.{hand_of}
use Rattle.shared_board.specs.Board.{Board}
use Rattle.told_board.proofs.Telling.{list_next, words_next}
use Rattle.told_board.proofs.told_board.ToldBoardWholeBoard.step.Goals as goal

pub invariant_of-self : goal.invariant_of-self
invariant_of-self c =
    let was = c.self.invariant in
    let legal = subst (λ (b : Board). Legal b.machine c.args.vcpu (hand_of b.story.hands c.args.vcpu) c.args.step) (sym c.self.view_is) c.requires.legal in
    let listed : c.self.inside.lost ≡ false = search rules in
    record {
      words = words_next _ _ c.args.vcpu c.args.step c.step-found.result legal c.step-found.ensures was.words;
      steps = λ kept.
          let pushed : c.push.new.self.items ≡ c.self.inside.steps.items ++ record { vcpu = c.args.vcpu; step = c.args.step; found = c.step-found.result } ∷ [] = search rules in
          pushed ∙ list_next _ _ c.args.vcpu c.args.step c.step-found.result legal c.step-found.ensures c.self.inside.steps.items was.words (was.steps listed);
    }

pub invariant_of-self-else-not-self : goal.invariant_of-self-else-not-self
invariant_of-self-else-not-self c =
    let was = c.self.invariant in
    let legal = subst (λ (b : Board). Legal b.machine c.args.vcpu (hand_of b.story.hands c.args.vcpu) c.args.step) (sym c.self.view_is) c.requires.legal in
    let lost : c.self.inside.lost ≡ true = search rules in
    record {
      words = words_next _ _ c.args.vcpu c.args.step c.step-found.result legal c.step-found.ensures was.words;
      steps = λ kept. absurd (let bad = sym kept ∙ lost in cc);
    }
