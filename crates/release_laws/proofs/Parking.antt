-- Tables that are being released, the innermost first, of which a pause parks the innermost: what is left to give back stays the same plain value.
use Rattle.std.proofs.Common.{◌≡◌, ◌⊎◌, ℕ, suc, ◌==◌, if◌then◌else◌, Bool, true, false, [], ◌∷◌, refl, sym, ap, ◌∙◌, subst, inl, inr, arith}
use Rattle.std.proofs.lemmas.Bool.Decides.{nat_tests}
use Rattle.xp_words.specs.declared.kind.KindWord.{KindWord}
use Rattle.kind_words.specs.Kinds.{partial_kind, work_kind}
use Rattle.partial_state.specs.Levels.{level_type}
use Rattle.table_law.specs.Levels.{closed}
use Rattle.table_law.specs.Plain.{Plain, with_kind}
use Rattle.table_law.specs.Release.{drop_first, emptying, entries_held, is_counted_on, let_go, keeps_mark}
use Rattle.table_law.proofs.Counting.{at_here}
use Rattle.table_law.proofs.Undoing.{opened}
use Rattle.release_laws.proofs.Liking.{IsLike, IsSpent, first_closed, first_kept, let_go_kept, like_same}

-- a table of level l + 1 of which `held` entries are still recorded
abbrev pub parked : ℕ → ℕ → ℕ → Plain → Plain
parked l f held p = with_kind f (partial_kind (level_type (suc l)) false false held 0) p

module _ (l f held : ℕ) (p : Plain) (spent : IsSpent (p.kinds f)) where
  abbrev here : KindWord
  here = partial_kind (level_type (suc l)) false false held 0

  kind_by : (b : Bool) (g : ℕ) → (g == f) ≡ b → ((if b then work_kind (level_type (suc l)) false 0 else (if b then here else p.kinds g)) ≡ p.kinds g) ⊎ (((g ≡ f) ⊎ ⊥) × IsSpent (if b then work_kind (level_type (suc l)) false 0 else (if b then here else p.kinds g)) × IsSpent (p.kinds g))
  kind_by true g same = let e : g ≡ f = grind (arith, nat_tests) in inr (inl e, record { none = refl; whole = refl }, subst (λ i. IsSpent (p.kinds i)) (sym e) spent)
  kind_by false g same = inl refl

  -- taken into work again it is as before, but for its kind word
  again_like : IsLike (f ∷ []) (with_kind f (work_kind (level_type (suc l)) false 0) (parked l f held p)) p
  again_like = record { shares = λ g. refl; kinds = λ g. kind_by (g == f) g refl; cells = λ g i. refl }

  -- so the release of the partial table gives back what is still recorded of it
  pub parked_goes : let_go (suc l) f (parked l f held p) ≡ closed f (level_type (suc l)) (drop_first (let_go l) (level_type (suc l)) f held p)
  parked_goes =
      let t = level_type (suc l) in
      let at : (parked l f held p).kinds f ≡ here = at_here f here p.kinds in
      opened l f (parked l f held p) (ap is_counted_on at) (ap keeps_mark at)
      ∙ ap (λ (k : KindWord). closed f t (drop_first (let_go l) t f (entries_held k) (with_kind f (emptying k) (parked l f held p)))) at
      ∙ like_same _ _ (first_closed f [] _ _ t (first_kept (f ∷ []) (let_go l) (let_go_kept (f ∷ []) l) t f held _ _ again_like))
