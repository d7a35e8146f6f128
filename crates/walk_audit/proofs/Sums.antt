-- Frames of each domain, counted one after the other.
use Rattle.std.proofs.Common.{◌≡◌, ℕ, ◌+◌, ◌<◌, ◌^◌, List, slice_index, Option, add-one, refl, sym, ◌∙◌, arith}
use Rattle.xp_words.specs.RefWords.{bit}
use Rattle.xp_words.specs.declared.place.Place.{Place}
use Rattle.xp_words.specs.declared.place.Place.TheVariants.{Refs}
use Rattle.xp_board.specs.Readings.{owner_of, is_number}
use Rattle.xp_board.specs.Recorded.{is_page_of}
use Rattle.xp_board.specs.Sums.{sum_below}
use Rattle.xp_board.proofs.Sums.{bit_most}
use Rattle.reference_recount.proofs.More.{sum_most}

pub sum_below_none : (c : ℕ → ℕ) → sum_below 0 c ≡ 0
unfolding sum_below
sum_below_none c = refl

sum_below_more : (n : ℕ) (c : ℕ → ℕ) → sum_below (n + 1) c ≡ sum_below n c + c n
unfolding sum_below
sum_below_more n c = rw add-one refl

module _ (m : Place → ℕ) (counts : List ℕ) (frame d : ℕ) (same : slice_index counts d ≡ sum_below frame (λ f. is_page_of d (m (Refs f)))) where
  pub few_pages : frame < 2 ^ 32 → slice_index counts d < 2 ^ 32
  few_pages l = let most = sum_most frame 1 (λ f. is_page_of d (m (Refs f))) (λ f. bit_most _) in omega arith

  pub one_page_more : (more : List ℕ) (owner : Option ℕ) → owner ≡ owner_of (m (Refs frame)) → slice_index more d ≡ slice_index counts d + bit (is_number owner d) →
      slice_index more d ≡ sum_below (frame + 1) (λ f. is_page_of d (m (Refs f)))
  one_page_more more owner e step = step ∙ rw (same, e) (sym (sum_below_more frame (λ f. is_page_of d (m (Refs f)))))
