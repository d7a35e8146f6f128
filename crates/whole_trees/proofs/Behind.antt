-- The moment behind a step of a port whose vCPU's steps stand on a run.
use Rattle.std.proofs.Common.{◌≡◌, ◌<◌, ◌++◌, ℕ, List, ◌∷◌, length, None, IsTrue, sym, ap, subst, ◌∙◌, get_or-set_same}
use Rattle.xp_words.specs.declared.place.Place.{Place}
use Rattle.xp_words.specs.Machine.{Machine}
use Rattle.xp_words.specs.Places.{is_place, sizes_of}
use Rattle.xp_words.proofs.PlaceLaws.{memory_same, place_back}
use Rattle.xp_board.specs.declared.holdings.Holdings.{Holdings}
use Rattle.xp_board.specs.declared.holdings.Made.{Made}
use Rattle.xp_board.specs.declared.step.Act.{Act}
use Rattle.xp_board.specs.declared.step.Step.{Step}
use Rattle.xp_board.specs.declared.step.StepKind.{StepKind}
use Rattle.xp_board.specs.Acts.{left_by}
use Rattle.xp_board.specs.After.{after}
use Rattle.xp_board.specs.Hands.{empty}
use Rattle.xp_board.specs.Runs.{Run, State, next, place_of, start, word_at}
use Rattle.xp_board.specs.Sound.{SoundWords, hand_of}
use Rattle.xp_board.specs.Told.{PortValue}
use Rattle.step_maker.specs.Moves.{Moves, step_at}
use Rattle.step_maker.proofs.Noting.{made_now, moves_steps}
use Rattle.sound_rule.proofs.OwnRun.{RunsSound, steps_after}
use Rattle.whole_trees.specs.Whole.{IsSetIn}
use Rattle.whole_trees.proofs.Moments.{Stood, state, stood}

-- what was found and left by such a step, and what the vCPU had made and had then
pub record IsBehind (n : Machine) (opening : List ℕ) (log : List (ℕ × Step)) (s : ℕ) (p : Place) (a : Act) (found : ℕ) (first last rest : List Made) : Type 0 where
  pub before : State
  pub moment : State
  pub set : IsSetIn n opening log s first last p before moment
  pub older : List (ℕ × Step)
  pub run : Run n (start n opening) older moment
  pub steps : (hand_of before.hands s).steps ≡ rest
  pub found_there : word_at n before p ≡ found
  pub left : word_at n moment p ≡ left_by a found

module _ (n : Machine) (opening : List ℕ) (log : List (ℕ × Step)) (b : State) (later : List Made) (s : ℕ) (u w : PortValue) (p : Place) (a : Act) (kind : StepKind) (found : ℕ) (sound : SoundWords n opening) (runs : RunsSound)
    (run : Run n (start n opening) log b) (machine : u.post.machine ≡ n) (is : (hand_of b.hands s).steps ≡ later ++ w.holdings.steps) (m : Moves u w p a kind None found)
    (first since last then : List Made) (begins : u.holdings.steps ≡ since ++ first) (ends : last ≡ then ++ w.holdings.steps) where
  abbrev step : Step
  step = step_at n p a kind None

  steps : w.holdings.steps ≡ made_now step found ∷ u.holdings.steps
  steps = moves_steps u w p a kind None found m ∙ ap (λ o. made_now (step_at o p a kind None) found ∷ u.holdings.steps) machine

  there : Stood n opening log s (made_now step found) u.holdings.steps
  there = stood n opening s sound runs b log later (made_now step found) u.holdings.steps run (is ∙ ap (λ xs. later ++ xs) steps)

  abbrev moment : State
  moment = next n there.before s step

  is_there : place_of n step ≡ p
  is_there = place_back (sizes_of n) p (subst (λ o. IsTrue (is_place (sizes_of o) p)) machine m.may.place)

  left_now : word_at n moment p ≡ left_by a found
  left_now =
      memory_same (sizes_of n) there.before.words p (left_by a (word_at n there.before (place_of n step))) (subst (λ q. IsTrue (is_place (sizes_of n) q)) is_there there.step.legal.place)
      (state n opening s sound runs there.before there.older there.run).all_words
      ∙ ap (left_by a) there.found

  own_now : (hand_of moment.hands s).steps ≡ w.holdings.steps
  own_now =
      ap (λ (h : Holdings). h.steps) (get_or-set_same there.before.hands s (after n s (hand_of there.before.hands s) step (word_at n there.before (place_of n step))) empty within)
      ∙ steps_after n s (hand_of there.before.hands s) step (word_at n there.before (place_of n step))
      ∙ ap (λ x. made_now step x ∷ (hand_of there.before.hands s).steps) there.found ∙ ap (λ xs. made_now step found ∷ xs) there.steps ∙ sym steps
    where
      within : s < length there.before.hands
      within = subst (λ k. s < k) (sym (state n opening s sound runs there.before there.older there.run).all_hands) there.step.vcpu

  pub is_behind : IsBehind n opening log s p a found first last u.holdings.steps
  is_behind =
      record {
        before = there.before;
        moment = moment;
        set = record {
          newer = there.newer;
          earlier = there.older;
          step = step;
          parts = there.parts;
          run = there.run;
          made = there.step;
          place = is_there;
          since = since;
          begins = there.steps ∙ begins;
          later = then;
          ends = ends ∙ ap (λ xs. then ++ xs) (sym own_now);
        };
        older = (s, step) ∷ there.older;
        run = (there.before, there.run, there.step);
        steps = there.steps;
        found_there = ap (word_at n there.before) (sym is_there) ∙ there.found;
        left = left_now;
      }
