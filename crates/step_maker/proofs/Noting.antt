-- A step of a port is noted in the hand, and the steps before it stay there.
use Rattle.std.proofs.Common.{◌≡◌, ℕ, ◌<◌, ◌≤◌, ◌==◌, ◌&&◌, ◌||◌, nat_lt, Bool, true, List, ◌∷◌, length, Option, IsTrue, refl, sym, ap, ◌∙◌, subst, arith}
use Rattle.std.proofs.lemmas.Bool.Decides.{nat_tests}
use Rattle.std.proofs.lemmas.Bool.{le-leb}
use Rattle.xp_words.specs.declared.place.Place.{Place}
use Rattle.xp_words.specs.Places.{sizes_of, place_at}
use Rattle.xp_words.proofs.PlaceLaws.{place_back}
use Rattle.xp_board.specs.declared.step.Act.{Act}
use Rattle.xp_board.specs.declared.step.Act.TheVariants.{Cas}
use Rattle.xp_board.specs.declared.step.Mark.{Mark}
use Rattle.xp_board.specs.declared.step.Step.{Step}
use Rattle.xp_board.specs.declared.step.StepKind.{StepKind}
use Rattle.xp_board.specs.declared.holdings.Made.{Made}
use Rattle.xp_board.specs.Acts.{left_by}
use Rattle.xp_board.specs.Steps.{is_same, some_step, some_since, some_before}
use Rattle.xp_board.specs.Told.{PortValue}
use Rattle.xp_board.proofs.Noted.{move_steps}
use Rattle.xp_board.proofs.PlaceTests.{is_same-refl}
use Rattle.xp_board.proofs.StepLists.{one_more}
use Rattle.step_maker.specs.Moves.{Moves, step_at}

below_here : (n k : ℕ) → k < n → nat_lt k n ≡ true
below_here n k l = grind (arith, nat_tests)

passes_head : (a b c d : Bool) → a ≡ true → b ≡ true → c ≡ true → IsTrue ((a && (b && c)) || d)
passes_head a b c d x y z = rw (x, y, z) refl

-- an exchange that finds the word that it expects leaves the new one
pub swapped : (expected new : ℕ) → left_by (Cas expected new) expected ≡ new
unfolding left_by
swapped expected new = let e : (expected == expected) ≡ true = grind (arith, nat_tests) in rw e refl

abbrev pub made_now : Step → ℕ → Made
made_now x found = record { step = x; found = found }

module _ (v w : PortValue) (p : Place) (a : Act) (k : StepKind) (mark : Option Mark) (found : ℕ) (m : Moves v w p a k mark found) where
  pub moves_steps : w.holdings.steps ≡ made_now (step_at v.post.machine p a k mark) found ∷ v.holdings.steps
  moves_steps =
      ap (λ (y : PortValue). y.holdings.steps) m.to
      ∙ ap (λ (xs : List Made). made_now (step_at v.post.machine p a k mark) found ∷ xs) (move_steps v.post.machine v.post.vcpu v.holdings p a k mark found)

  here_is : is_same (place_at (sizes_of v.post.machine) (step_at v.post.machine p a k mark).place) p ≡ true
  here_is = ap (λ q. is_same q p) (place_back (sizes_of v.post.machine) p m.may.place) ∙ is_same-refl p

  -- it found or left there a word that passes the test
  pub moves_since : (n : ℕ) (test : ℕ → Bool) → n ≤ length v.holdings.steps → test (left_by a found) ≡ true → IsTrue (some_since (sizes_of v.post.machine) n p test w.holdings.steps)
  unfolding some_step
  moves_since n test late passes = rw moves_steps (passes_head _ _ _ _ (le-leb n (length v.holdings.steps) late) here_is passes)

  pub moves_before : (n : ℕ) (test : ℕ → Bool) → length v.holdings.steps < n → test (left_by a found) ≡ true → IsTrue (some_before (sizes_of v.post.machine) n p test w.holdings.steps)
  unfolding some_step
  moves_before n test early passes = rw moves_steps (passes_head _ _ _ _ (below_here n (length v.holdings.steps) early) here_is passes)

  -- what the steps before it found or left, they still did
  pub moves_keeps : (test : ℕ → Made → Bool) → IsTrue (some_step test v.holdings.steps) → IsTrue (some_step test w.holdings.steps)
  moves_keeps test h =
      subst (λ xs. IsTrue (some_step test xs)) (sym moves_steps) (one_more test (made_now (step_at v.post.machine p a k mark) found) v.holdings.steps h)
