-- What a page asks that is taken is within what the call asks that takes it.
use Rattle.std.proofs.Common.{ℕ, ◌==◌, ◌<◌, false, List, [], ◌∷◌, length, get_or, zero, suc, Option, Some, IsTrue, refl, sym, subst, arith, rules}
use Rattle.std.proofs.lemmas.Bool.{or_left, or_right}
use Rattle.xp_words.specs.Machine.{Machine}
use Rattle.xp_words.specs.declared.kind.PageType.{PageType}
use Rattle.xp_words.specs.declared.reply.Refusal.{Refusal}
use Rattle.xp_board.specs.Lists.{some_of}
use Rattle.xp_board.proofs.Sums.{when_eq}
use Rattle.step_maker.specs.Moves.{Moment}
use Rattle.step_maker.specs.Asked.{Within, named, of_table}
use Rattle.step_maker.specs.Finding.{Finding}
use Rattle.step_maker.proofs.Grown.{grown_by}
use Rattle.step_maker.proofs.Piecing.{same_frame}
use Rattle.desc_pages.specs.Descriptors.{of_cell}
use Rattle.desc_pages.specs.Gdt.{is_listed, of_gdt}
use Rattle.desc_pages.specs.Pages.{of_desc}

-- each item of the list is one
pub listed : (fs : List ℕ) (k : ℕ) → k < length fs → IsTrue (is_listed fs (get_or fs k 0))
unfolding some_of
listed [] k low = absurd (omega arith)
listed (x ∷ xs) k low = elim k as (λ j. j < length (x ∷ xs) → IsTrue (some_of (λ f. get_or (x ∷ xs) j 0 == f) (x ∷ xs))) [
  | zero ↦ λ small. or_left (x == x) _ (when_eq x x refl)
  | suc j ↦ λ small. or_right (get_or xs j 0 == x) _ (listed xs j (omega arith))
] low

-- ---- one page of a GDT
module _ (n : Machine) (s f d entries : ℕ) (fs : List ℕ) (names : IsTrue (is_listed fs f)) (F G : Finding) (more : (m : Moment) → F m → G m) where
  listed_as : (g : ℕ) → IsTrue (g == f) → IsTrue (is_listed fs g)
  listed_as g is = subst (λ y. IsTrue (is_listed fs y)) (sym (same_frame g f is)) names

  pub within_gdt : Within n s (of_desc f d) F (of_gdt d entries fs) G
  within_gdt =
      grown_by n s (of_desc f d) (of_gdt d entries fs) F G more (search rules) (record { owner = refl; pages_of = refl }) (λ g is k less. named (listed_as g is) refl less) (λ any g is. listed_as g is) (λ g none. absurd cc)

-- ---- the frame in which a descriptor is written
module _ (n : Machine) (s f d i word : ℕ) (want : PageType) (by : Option Refusal) (F G : Finding) (more : (m : Moment) → F m → G m) where
  pub within_cell : Within n s (of_table f d (Some want) d false) F (of_cell d f i word want by) G
  within_cell =
      grown_by n s (of_table f d (Some want) d false) (of_cell d f i word want by) F G more (search rules) (record { owner = refl; pages_of = refl }) (λ g is k less. named is refl less) (λ any g is. is) (λ g none. absurd cc)
