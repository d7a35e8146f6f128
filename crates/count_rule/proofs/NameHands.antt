-- What a step on a word of a vCPU that names a frame leaves of the hand.
use Rattle.std.proofs.Common.{◌≡◌, ◌≢◌, ℕ, zero, suc, ◌+◌, ◌<◌, refl, arith, inl, inr}
use Rattle.std.proofs.lemmas.Bool.{cases_eq}
use Rattle.xp_board.specs.declared.holdings.Holdings.{Holdings}
use Rattle.xp_board.specs.Lists.{one_at}
use Rattle.xp_board.specs.Hands.{typed_to, brought_name}
use Rattle.xp_board.specs.ContextSteps.{context_type, named_in, named_out}
use Rattle.xp_board.proofs.Sums.{when_eq}
use Rattle.xp_board.proofs.ListCounts.{times_by-cons, times_by-without}
use Rattle.xp_words.proofs.Shared.{eq_false as when_ne}

pub one_named : (g f : ℕ) → one_at (g + 1) (suc f) ≡ one_at g f
one_named g f =
    elim (cases_eq f g) [
      | inl at ↦ rw (when_eq f g at, when_eq (suc f) (g + 1) (omega arith)) refl
      | inr off ↦ let o : f ≢ g = off in rw (when_ne f g off, when_ne (suc f) (g + 1) (λ e. absurd (omega arith))) refl
    ]

pub none_named : (g : ℕ) → one_at (g + 1) 0 ≡ 0
none_named g = rw (when_ne 0 (g + 1) (λ e. absurd (omega arith))) refl

-- what a word names is in hand
abbrev pub IsNamed : ℕ → Holdings → Type 0
IsNamed zero u = Unit {0}
IsNamed (suc f) u = 0 < typed_to f u.typed

pub named_out_typed : (g w : ℕ) (u : Holdings) → IsNamed w u → typed_to g (named_out w u).typed + one_at (g + 1) w ≡ typed_to g u.typed
named_out_typed g zero u k = let z = none_named g in omega arith
named_out_typed g (suc f) u k = let z = one_named g f in let e = times_by-without (λ y. y.frame) g f u.typed k in omega arith

pub named_in_typed : (g k w : ℕ) (u : Holdings) → typed_to g (named_in k w u).typed ≡ typed_to g u.typed + one_at (g + 1) w
named_in_typed g k zero u = let z = none_named g in omega arith
named_in_typed g k (suc f) u = let z = one_named g f in let e = times_by-cons (λ y. y.frame) g (brought_name f (context_type k) u) u.typed in omega arith
