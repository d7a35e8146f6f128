-- Page types as the code compares them.
use Rattle.std.proofs.Common.{◌≡◌, ℕ, Bool, true, false, refl, sym, ap, ◌∙◌, rules}
use Rattle.xp_words.specs.declared.kind.PageType.{PageType}
use Rattle.xp_words.specs.declared.kind.PageType.TheVariants as kinds
use Rattle.xp_words.specs.contracts.kind.PageType.{the_type}
use Rattle.xp_words.specs.KindWords.{kind_fields}
use Rattle.xp_words.specs.declared.kind.KindWord.{KindWord}
use Rattle.partial_state.specs.Levels.{level_type}
use Rattle.mmuext_ops.specs.Course.{IsPinnedAs}
use denote.Enum.Bare.{sameb, same_true}

pub same_is : (t u : PageType) → true ≡ sameb the_type t u → t ≡ u
same_is t u e = same_true the_type (search rules) t u (sym e)

itself : (t : PageType) → sameb the_type t t ≡ true
itself kinds.None = refl
itself kinds.L1 = refl
itself kinds.L2 = refl
itself kinds.L3 = refl
itself kinds.L4 = refl
itself kinds.Desc = refl
itself kinds.Writable = refl

pub other_is : (t u : PageType) (same : Bool) → same ≡ sameb the_type t u → same ≡ false → t ≡ u → ⊥
other_is t u same e off is = let on : same ≡ true = e ∙ ap (λ y. sameb the_type t y) (sym is) ∙ itself t in absurd cc

-- ---- a word that is not that of a frame which is pinned with the type of that level
module _ (level x : ℕ) {k : KindWord} (fields : kind_fields x ≡ k) where
  pub other_type : {t : PageType} {same : Bool} → t ≡ level_type level → same ≡ sameb the_type k.kind t → same ≡ false → IsPinnedAs level x → ⊥
  other_type {t} {same} want e off is = other_is k.kind t same e off (ap (λ (y : KindWord). y.kind) (sym fields) ∙ is.1 ∙ sym want)

  pub other_mark : k.pinned ≡ false → IsPinnedAs level x → ⊥
  other_mark off is = let on : k.pinned ≡ true = ap (λ (y : KindWord). y.pinned) (sym fields) ∙ is.0 in absurd cc
