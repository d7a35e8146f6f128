-- What steps found or left stays known: the word last found or left at a place, and what some step did.
use Rattle.std.proofs.Common.{◌≡◌, ◌≢◌, ℕ, ◌+◌, ◌≤◌, Bool, List, [], ◌∷◌, length, Option, Some, IsTrue, sym, ap, ◌∙◌, subst, arith}
use Rattle.xp_words.specs.declared.place.Place.{Place}
use Rattle.xp_words.specs.Places.{sizes_of, place_at}
use Rattle.xp_words.proofs.PlaceLaws.{place_back}
use Rattle.xp_board.specs.declared.step.Act.{Act}
use Rattle.xp_board.specs.declared.step.Act.TheVariants.{Load}
use Rattle.xp_board.specs.declared.step.Mark.{Mark}
use Rattle.xp_board.specs.declared.step.StepKind.{StepKind}
use Rattle.xp_board.specs.declared.holdings.Made.{Made}
use Rattle.xp_board.specs.Acts.{left_by}
use Rattle.xp_board.specs.Steps.{some_step, last_since}
use Rattle.xp_board.specs.Told.{PortValue}
use Rattle.xp_board.proofs.MoreSteps.{last_since-here, last_since-elsewhere}
use Rattle.step_maker.specs.Moves.{Moves, Moment, Ran, Came, step_at}
use Rattle.step_maker.proofs.Noting.{made_now, moves_steps, moves_keeps}
use Rattle.step_maker.specs.Reasons.{LastAtMost}
use Rattle.step_maker.proofs.Shared.{ran_longer}

module _ (v w : PortValue) (p : Place) (a : Act) (k : StepKind) (mark : Option Mark) (found : ℕ) (m : Moves v w p a k mark found) where
  at_place : place_at (sizes_of v.post.machine) (step_at v.post.machine p a k mark).place ≡ p
  at_place = place_back (sizes_of v.post.machine) p m.may.place

  pub moves_longer : length w.holdings.steps ≡ length v.holdings.steps + 1
  moves_longer = ap (λ (xs : List Made). length xs) (moves_steps v w p a k mark found m) ∙ omega arith

  -- the word that the step left was last found or left there
  pub last_left : (n : ℕ) → n ≤ length v.holdings.steps → last_since (sizes_of v.post.machine) n p w.holdings.steps ≡ Some (left_by a found)
  last_left n late =
      ap (last_since (sizes_of v.post.machine) n p) (moves_steps v w p a k mark found m)
      ∙ last_since-here (sizes_of v.post.machine) n p (made_now (step_at v.post.machine p a k mark) found) v.holdings.steps late at_place

  -- at another place the same word was
  pub last_kept : (n : ℕ) (q : Place) → n ≤ length v.holdings.steps → p ≢ q → last_since (sizes_of v.post.machine) n q w.holdings.steps ≡ last_since (sizes_of v.post.machine) n q v.holdings.steps
  last_kept n q late off =
      ap (last_since (sizes_of v.post.machine) n q) (moves_steps v w p a k mark found m)
      ∙ last_since-elsewhere (sizes_of v.post.machine) n q (made_now (step_at v.post.machine p a k mark) found) v.holdings.steps late (λ e. off (sym at_place ∙ e))

-- ---- a load
pub last_looked : (v w : PortValue) (p : Place) (k : StepKind) (mark : Option Mark) (x : ℕ) → Moves v w p Load k mark x → last_since (sizes_of v.post.machine) 0 p w.holdings.steps ≡ Some x
unfolding left_by
last_looked v w p k mark x m = last_left v w p Load k mark x m 0 (omega arith)

pub last_at_most : (v w : PortValue) (p : Place) (k : StepKind) (mark : Option Mark) (x stamp : ℕ) → Moves v w p Load k mark x → x ≤ stamp → LastAtMost v.post.machine p stamp w.holdings
last_at_most v w p k mark x stamp m low = record { last = x; was = last_looked v w p k mark x m; most = low }

-- ---- many steps
ran_keeps : (v w : PortValue) (ms : List Moment) (test : ℕ → Made → Bool) → Ran v ms w → IsTrue (some_step test v.holdings.steps) → IsTrue (some_step test w.holdings.steps)
ran_keeps v w [] test r h = subst (λ (y : PortValue). IsTrue (some_step test y.holdings.steps)) (sym r) h
ran_keeps v w (m ∷ ms) test r h = moves_keeps r.0 w m.place m.act m.kind m.mark m.found r.2.moves test (ran_keeps v r.0 ms test r.1 h)

-- what some step found or left, it still did
pub came_keeps : (v w : PortValue) (test : ℕ → Made → Bool) → Came v w → IsTrue (some_step test v.holdings.steps) → IsTrue (some_step test w.holdings.steps)
unfolding Came
came_keeps v w test c h = ran_keeps v w c.0 test c.1 h

pub came_longer : (v w : PortValue) → Came v w → length v.holdings.steps ≤ length w.holdings.steps
unfolding Came
came_longer v w c = ran_longer v w c.0 c.1
