-- One more step of a board, in its list.
use Rattle.std.proofs.Common.{◌≡◌, ℕ, List, [], ◌∷◌, ◌++◌, ◌∙◌, refl, sym, ap}
use Rattle.std.specs.Prelude.{slice_index, slice_set}
use Rattle.xp_board.specs.declared.step.Step.{Step}
use Rattle.xp_board.specs.Acts.{left_by}
use Rattle.xp_board.specs.Legal.{Legal}
use Rattle.xp_board.specs.Sound.{hand_of}
use Rattle.xp_board.specs.Told.{PortValue, Story, tells}
use Rattle.xp_board.specs.After.{after}
use Rattle.xp_board.proofs.Numbers.{word_there}
use Rattle.xp_words.specs.Places.{sizes_of}
use Rattle.shared_board.specs.Board.{Board, Steps}
use Rattle.step_text.specs.declared.told.ToldStep.{ToldStep}
use Rattle.told_board.specs.Telling.{told_steps, words_after, words_by}
use Rattle.std.specs.Prelude.{Some, unwrap_or}

-- what is told after a step
module _ (b c : Board) (s : ℕ) (x : Step) (found : ℕ) (legal : Legal b.machine s (hand_of b.story.hands s) x) (steps : Steps b s x found c) where
  story_is : c.story ≡ unwrap_or (tells s x found (after b.machine s (hand_of b.story.hands s) x found) (Some b.story)) b.story
  story_is = ap (λ (v : PortValue). unwrap_or v.told b.story) steps.value

  pub found_is : found ≡ slice_index b.story.words x.place
  found_is = sym steps.told.1 ∙ word_there (sizes_of b.machine) b.story.words x.place legal.place

  pub opening_stays : c.story.opening ≡ b.story.opening
  opening_stays = ap (λ (a : Story). a.opening) story_is

  pub log_grows : c.story.log ≡ (s, x) ∷ b.story.log
  log_grows = ap (λ (a : Story). a.log) story_is

  pub words_move : c.story.words ≡ words_by x b.story.words
  words_move = ap (λ (a : Story). a.words) story_is ∙ ap (λ w. slice_set b.story.words x.place (left_by x.act w)) found_is

  -- the words stay those behind all steps
  pub words_next : b.story.words ≡ words_after b.story.opening b.story.log → c.story.words ≡ words_after c.story.opening c.story.log
  unfolding words_after
  words_next was = words_move ∙ ap (words_by x) was ∙ (λ i. words_after (sym opening_stays i) (sym log_grows i))

  -- and the list has one more
  pub list_next : (list : List ToldStep) → b.story.words ≡ words_after b.story.opening b.story.log → list ≡ told_steps b.story.opening b.story.log →
      list ++ record { vcpu = s; step = x; found = found } ∷ [] ≡ told_steps c.story.opening c.story.log
  unfolding told_steps
  list_next list was is =
      (λ i. is i ++ record { vcpu = s; step = x; found = (found_is ∙ ap (λ w. slice_index w x.place) was) i } ∷ []) ∙ (λ i. told_steps (sym opening_stays i) (sym log_grows i))

-- no step yet
pub opened_words : (opening : List ℕ) (log : List (ℕ × Step)) (words : List ℕ) → log ≡ [] → words ≡ opening → words ≡ words_after opening log
unfolding words_after
opened_words opening log words none is = rw none is

pub opened_list : (opening : List ℕ) (log : List (ℕ × Step)) → log ≡ [] → [] ≡ told_steps opening log
unfolding told_steps
opened_list opening log none = rw none refl
