-- What is known of owners where one reference more came into the hand.
use Rattle.std.proofs.Common.{◌≡◌, ℕ, List, ◌∷◌, length, Option, Some, None, IsTrue, refl, ap, ◌∙◌, inl, inr}
use Rattle.std.proofs.lemmas.Bool.{cases_eq, or_left, or_right}
use Rattle.xp_words.specs.Places.{Sizes}
use Rattle.xp_board.specs.declared.holdings.Holdings.{Holdings}
use Rattle.xp_board.specs.declared.holdings.OwnerFound.TheVariants as owners
use Rattle.xp_board.specs.declared.holdings.Reference.{Reference}
use Rattle.xp_board.specs.declared.holdings.TypedReference.{TypedReference}
use Rattle.xp_board.specs.Hands.{owner_by, owner_by_typed, ref_to, typed_on}
use Rattle.xp_board.specs.Knowledge.{knows_owner}
use Rattle.xp_board.proofs.ListCounts.{first_by-cons_here, first_by-cons_other}
use Rattle.xp_board.proofs.Owners.{ref_knows, typed_knows}
use Rattle.flush_waits.specs.Waiting.{IsKnownOwner}

known_by_ref : (z : Sizes) (f o : ℕ) (k : Holdings) (e : Reference) → ref_to f k.refs ≡ Some e → e.owner ≡ owners.Of o → IsTrue (knows_owner z f o k)
unfolding knows_owner
known_by_ref z f o k e at of = or_left _ _ (ref_knows z f o k (Some e) at of)

pub known_by_typed : (z : Sizes) (f o : ℕ) (k : Holdings) (e : TypedReference) → typed_on f k.typed ≡ Some e → e.owner ≡ owners.Of o → IsTrue (knows_owner z f o k)
unfolding knows_owner
known_by_typed z f o k e at of = or_right _ _ (or_left _ _ (typed_knows z f o k (Some e) at of))

-- the reference that says it
ref_there : (f o n : ℕ) (rs : List Reference) (r : Option Reference) → ref_to f rs ≡ r → owner_by r (owners.Since n) ≡ owners.Of o → (e : Reference) × (ref_to f rs ≡ Some e) × (e.owner ≡ owners.Of o)
ref_there f o n rs (Some e) at of = (e, at, of)
ref_there f o n rs None at of = absurd cc

typed_there : (f o n : ℕ) (ts : List TypedReference) (r : Option TypedReference) → typed_on f ts ≡ r → owner_by_typed r (owners.Since n) ≡ owners.Of o → (e : TypedReference) × (typed_on f ts ≡ Some e) × (e.owner ≡ owners.Of o)
typed_there f o n ts (Some e) at of = (e, at, of)
typed_there f o n ts None at of = absurd cc

-- an untyped reference more
module _ (z : Sizes) (o : ℕ) (h k : Holdings) (r : Reference) (of : r.owner ≡ owners.Of o) (refs : k.refs ≡ r ∷ h.refs) (typed : k.typed ≡ h.typed) where
  pub ref_knows_its : IsTrue (knows_owner z r.frame o k)
  ref_knows_its = known_by_ref z r.frame o k r (ap (λ xs. ref_to r.frame xs) refs ∙ first_by-cons_here (λ (e : Reference). e.frame) r.frame r h.refs refl) of

  pub ref_knows_still : (f : ℕ) → IsKnownOwner f o h → IsTrue (knows_owner z f o k)
  ref_knows_still f (inr a) = let e = typed_there f o (length h.steps) h.typed (typed_on f h.typed) refl a.1 in known_by_typed z f o k e.0 (ap (λ xs. typed_on f xs) typed ∙ e.1) e.2
  ref_knows_still f (inl a) =
      let e = ref_there f o (length h.steps) h.refs (ref_to f h.refs) refl a.1 in
      elim (cases_eq r.frame f) [
        | inl same ↦ known_by_ref z f o k r (ap (λ xs. ref_to f xs) refs ∙ first_by-cons_here (λ (y : Reference). y.frame) f r h.refs same) of
        | inr other ↦ known_by_ref z f o k e.0 (ap (λ xs. ref_to f xs) refs ∙ first_by-cons_other (λ (y : Reference). y.frame) f r h.refs other ∙ e.1) e.2
      ]

-- a typed one more
module _ (z : Sizes) (o : ℕ) (h k : Holdings) (r : TypedReference) (of : r.owner ≡ owners.Of o) (refs : k.refs ≡ h.refs) (typed : k.typed ≡ r ∷ h.typed) where
  pub typed_knows_its : IsTrue (knows_owner z r.frame o k)
  typed_knows_its = known_by_typed z r.frame o k r (ap (λ xs. typed_on r.frame xs) typed ∙ first_by-cons_here (λ (e : TypedReference). e.frame) r.frame r h.typed refl) of

  pub typed_knows_still : (f : ℕ) → IsKnownOwner f o h → IsTrue (knows_owner z f o k)
  typed_knows_still f (inl a) = let e = ref_there f o (length h.steps) h.refs (ref_to f h.refs) refl a.1 in known_by_ref z f o k e.0 (ap (λ xs. ref_to f xs) refs ∙ e.1) e.2
  typed_knows_still f (inr a) =
      let e = typed_there f o (length h.steps) h.typed (typed_on f h.typed) refl a.1 in
      elim (cases_eq r.frame f) [
        | inl same ↦ known_by_typed z f o k r (ap (λ xs. typed_on f xs) typed ∙ first_by-cons_here (λ (y : TypedReference). y.frame) f r h.typed same) of
        | inr other ↦ known_by_typed z f o k e.0 (ap (λ xs. typed_on f xs) typed ∙ first_by-cons_other (λ (y : TypedReference). y.frame) f r h.typed other ∙ e.1) e.2
      ]
