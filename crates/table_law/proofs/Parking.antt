-- The words of a pause say where to go on.
use Rattle.std.proofs.Common.{◌≡◌, ◌≢◌, ℕ, suc, ◌==◌, if◌then◌else◌, Bool, false, List, [], ◌∷◌, refl, sym, ap, ◌∙◌, inl, inr}
use Rattle.std.proofs.lemmas.Bool.{cases_eq}
use Rattle.xp_words.specs.declared.kind.KindWord.{KindWord}
use Rattle.xp_words.proofs.Shared.{eq_false as when_ne}
use Rattle.xp_board.proofs.Sums.{when_eq}
use Rattle.partial_state.specs.Levels.{level_type}
use Rattle.table_law.specs.Plain.{Plain}
use Rattle.kind_words.specs.Kinds.{work_kind}
use Rattle.table_law.specs.Levels.{TableLeft}
use Rattle.table_law.specs.Stack.{parked_kind, parked_kinds, resumed_kinds, IsStackIn}

abbrev pub IsOff : List TableLeft → ℕ → Type 0
IsOff [] g = Unit {0}
IsOff (x ∷ xs) g = (g ≢ x.frame) × IsOff xs g

chosen : (g f : ℕ) (w r t : KindWord) → (g ≡ f → w ≡ t) → (g ≢ f → r ≡ t) → (if g == f then w else r) ≡ t
chosen g f w r t on off =
    elim (cases_eq g f) [
      | inl e ↦ let on2 = on e in let at = when_eq g f e in rw at on2
      | inr e ↦ let off2 = off e in let at = when_ne g f e in rw at off2
    ]

off_parked : (stack : List TableLeft) (kept : Bool) (old : ℕ → KindWord) (g : ℕ) → IsOff stack g → parked_kinds stack kept old g ≡ old g
off_parked [] kept old g off = refl
off_parked (x ∷ []) kept old g off = chosen g x.frame (parked_kind x kept) (old g) (old g) (λ e. absurd (off.0 e)) (λ e. refl)
off_parked (x ∷ y ∷ ys) kept old g off =
    chosen g x.frame (parked_kind x false) (parked_kinds (y ∷ ys) kept old g) (old g) (λ e. absurd (off.0 e)) (λ e. off_parked (y ∷ ys) kept old g off.1)

on_stack : (stack : List TableLeft) (p : Plain) (h : ℕ → KindWord) (g : ℕ) → IsStackIn stack p → (IsOff stack g → h g ≡ p.kinds g) → resumed_kinds stack h g ≡ p.kinds g
on_stack [] p h g is away = away tt
on_stack (x ∷ []) p h g is away = chosen g x.frame (work_kind (level_type (suc x.level)) false 0) (h g) (p.kinds g) (λ e. sym is.0 ∙ ap p.kinds (sym e)) (λ e. away (e, tt))
on_stack (x ∷ y ∷ ys) p h g is away =
    chosen g x.frame (work_kind (level_type (suc x.level)) false 0) (resumed_kinds (y ∷ ys) h g) (p.kinds g) (λ e. sym is.0 ∙ ap p.kinds (sym e))
    (λ e. on_stack (y ∷ ys) p h g is.4 (λ off. away (e, off)))

-- a frame not on the stack is as it was; one on it is as it was before the pause
pub resumed_is : (stack : List TableLeft) (kept : Bool) (p : Plain) → IsStackIn stack p → (g : ℕ) → resumed_kinds stack (parked_kinds stack kept p.kinds) g ≡ p.kinds g
resumed_is stack kept p is g = on_stack stack p (parked_kinds stack kept p.kinds) g is (off_parked stack kept p.kinds g)
