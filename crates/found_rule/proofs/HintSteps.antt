-- The bit of a frame in the free map is set or cleared.
use Rattle.std.proofs.Common.{◌≡◌, ◌≢◌, ℕ, ◌+◌, ◌<◌, ◌≤◌, List, refl, sym, ◌∙◌, inl, inr, arith, subst}
use Rattle.std.proofs.lemmas.Bool.{cases_eq}
use Rattle.xp_words.specs.Machine.{Machine}
use Rattle.xp_words.specs.declared.place.Place.{Place}
use Rattle.xp_words.specs.declared.place.Place.TheVariants.{Map}
use Rattle.xp_words.specs.Places.{sizes_of}
use Rattle.xp_board.specs.declared.step.Step.{Step}
use Rattle.xp_board.specs.declared.holdings.Holdings.{Holdings}
use Rattle.xp_board.specs.Lists.{times}
use Rattle.xp_board.specs.Hands.{endings_of, claims_of}
use Rattle.xp_board.specs.HintSteps.{lowered_frame, raised_frame, raised_by}
use Rattle.xp_board.specs.WellFormed.{IsRaisedFormed}
use Rattle.xp_board.specs.Sound.{Sound}
use Rattle.step_effects.proofs.ActEffects.{Hinted}
use Rattle.found_rule.proofs.Learning.{act}
use Rattle.found_rule.proofs.QuietSteps.{unread_raised}
use Rattle.found_rule.proofs.Quiet.{Done, SameHand}
use Rattle.xp_board.proofs.Hints.{Hint, sets, clears, hint_is}
use Rattle.xp_board.proofs.ListCounts.{times_by-cons_here, times_by-cons_other}
use Rattle.xp_board.proofs.HandLists.{times-without}

same_raised : (a : Holdings) (xs : List ℕ) → SameHand a (record a { raised = xs })
same_raised a xs =
    record { refs = refl; typed = refl; works = refl; locks = refl; ending = refl; claimed = refl; cache = refl; walk = refl; cold = refl; turn = refl; acked = refl; ran = refl }

module _ (b : Holdings) (k by : ℕ) (was : IsRaisedFormed b) where
  -- the raised frames are still such that the vCPU holds
  held_by : (xs : List ℕ) → Hint k by b → raised_by (lowered_frame k by b) (raised_frame k by b) b.raised ≡ xs → (g : ℕ) → times g xs ≤ endings_of g b.ending + claims_of g b.claimed
  held_by xs (sets f word bit some none raises) is g =
      let c = was.held g in
      elim (cases_eq f g) [
        | inl at ↦
            let one = times_by-cons_here (λ y. y) g f b.raised at in
            let zero : times g b.raised ≡ 0 = subst (λ y. times y b.raised ≡ 0) at none in
            let mine : 0 < endings_of g b.ending + claims_of g b.claimed = subst (λ y. 0 < endings_of y b.ending + claims_of y b.claimed) at some in
            rw (sym is ∙ raises) (omega arith)
        | inr off ↦ let other = times_by-cons_other (λ y. y) g f b.raised off in rw (sym is ∙ raises) (omega arith)
      ]
  held_by xs (clears f word bit some lowers) is g = let c = was.held g in let fewer = times-without (λ y. y) g f b.raised in rw (sym is ∙ lowers) (omega arith)

pub hinted_done : (n : Machine) (s : ℕ) (x : Step) (m m2 : Place → ℕ) (b c : ℕ → Holdings) (l : s < (sizes_of n).vcpus) (sound : Sound n m b) (others : (t : ℕ) → t ≢ s → c t ≡ b t) →
    (k by : ℕ) → Hinted n x k by m m2 (b s) (c s) → Done n s m m2 b c
hinted_done n s x m m2 b c l sound others k by d =
    let w = d.wrote in
    let xs = raised_by (lowered_frame k by (b s)) (raised_frame k by (b s)) (b s).raised in
    let u = record (b s) { raised = xs } in
    unread_raised n s x m m2 b c l sound others (Map k) u refl (act n s x (Map k) m m2 (b s) u (c s) w.place w.real w.left w.others refl refl refl refl d.hand) (same_raised (b s) xs)
    (record { held = held_by (b s) k by (sound.formed s l).raised xs (hint_is k by (b s) d.may) refl }) (sound.formed s l).looking
