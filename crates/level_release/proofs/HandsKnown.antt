-- Who owns a frame stays known while references to other frames go out of the hand, and any come in.
use Rattle.std.proofs.Common.{◌≡◌, ◌≢◌, ℕ, ◌==◌, ◌&&◌, ◌||◌, Bool, true, false, List, [], ◌∷◌, IsTrue, refl, sym, subst, inl, inr}
use Rattle.std.proofs.lemmas.Bool.{or_cases, or_left, or_right}
use Rattle.xp_words.specs.Places.{Sizes}
use Rattle.xp_words.proofs.Shared.{eq_false as when_ne}
use Rattle.xp_board.specs.declared.holdings.Holdings.{Holdings}
use Rattle.xp_board.specs.declared.holdings.Made.{Made}
use Rattle.xp_board.specs.declared.holdings.Reference.{Reference}
use Rattle.xp_board.specs.declared.holdings.TypedReference.{TypedReference}
use Rattle.xp_board.specs.Knowledge.{knows_owner, tells_owner}
use Rattle.xp_board.specs.Lists.{some_of}
use Rattle.flush_waits.proofs.Growing.{Grows, knows_later}
use Rattle.partial_state.specs.declared.stack.TableWork.{TableWork}
use Rattle.level_release.specs.Holding.{AreOwned}

-- ---- what some element with that number passes, some still does
abbrev pub Still : {A : Type 0} → (A → ℕ) → ℕ → List A → List A → Type 0
Still {A} key g xs ys = (test : A → Bool) → IsTrue (some_of (λ e. (key e == g) && test e) xs) → IsTrue (some_of (λ e. (key e == g) && test e) ys)

pub still_same : {A : Type 0} (key : A → ℕ) (g : ℕ) {xs ys : List A} → ys ≡ xs → Still key g xs ys
still_same key g same test passes = subst (λ zs. IsTrue (some_of (λ e. (key e == g) && test e) zs)) (sym same) passes

pub still_more : {A : Type 0} (key : A → ℕ) (g : ℕ) {x : A} {xs ys : List A} → ys ≡ x ∷ xs → Still key g xs ys
unfolding some_of
still_more key g more test passes = subst (λ zs. IsTrue (some_of (λ e. (key e == g) && test e) zs)) (sym more) (or_right _ _ passes)

off_first : (a b c : Bool) → a ≡ false → IsTrue ((a && b) || c) → IsTrue c
off_first true b c off t = absurd cc
off_first false b c off t = t

pub still_less : {A : Type 0} (key : A → ℕ) (g : ℕ) {x : A} {xs ys : List A} → key x ≢ g → xs ≡ x ∷ ys → Still key g xs ys
unfolding some_of
still_less key g {x} other less test passes = off_first (key x == g) (test x) _ (when_ne (key x) g other) (subst (λ zs. IsTrue (some_of (λ e. (key e == g) && test e) zs)) less passes)

-- ---- the owner
pub known_still : (z : Sizes) (g o : ℕ) (h k : Holdings) → Grows h k → Still (λ (e : Reference). e.frame) g h.refs k.refs → Still (λ (e : TypedReference). e.frame) g h.typed k.typed → k.locks ≡ h.locks →
    IsTrue (knows_owner z g o h) → IsTrue (knows_owner z g o k)
unfolding knows_owner
known_still z g o h k grows refs typed locks knows =
    elim (or_cases _ _ (knows_later z g o h (record k { refs = h.refs; typed = h.typed }) grows refl refl locks knows)) [
      | inl ref ↦ or_left _ _ (refs (λ e. tells_owner z k.steps g o e.owner) ref)
      | inr rest ↦ elim (or_cases _ _ rest) [
        | inl one ↦ or_right _ _ (or_left _ _ (typed (λ e. tells_owner z k.steps g o e.owner) one))
        | inr lock ↦ or_right _ _ (or_right _ _ lock)
      ]
    ]

-- an untyped reference becomes a typed one, and what it says of the owner goes with it
moved_first : (z : Sizes) (g o : ℕ) (steps : List Made) (r : Reference) (y : TypedReference) → y.frame ≡ r.frame → y.owner ≡ r.owner → IsTrue ((r.frame == g) && tells_owner z steps g o r.owner) → IsTrue ((y.frame == g) && tells_owner z steps g o y.owner)
moved_first z g o steps r y frame owner passes = rw (frame, owner) passes

pub known_moved : (z : Sizes) (g o : ℕ) (h k : Holdings) {r : Reference} {y : TypedReference} → Grows h k → h.refs ≡ r ∷ k.refs → k.typed ≡ y ∷ h.typed → y.frame ≡ r.frame → y.owner ≡ r.owner → k.locks ≡ h.locks →
    IsTrue (knows_owner z g o h) → IsTrue (knows_owner z g o k)
unfolding knows_owner some_of
known_moved z g o h k {r} {y} grows refs typed frame owner locks knows =
    elim (or_cases _ _ (knows_later z g o h (record k { refs = h.refs; typed = h.typed }) grows refl refl locks knows)) [
      | inl ref ↦ elim (or_cases _ _ (subst (λ zs. IsTrue (some_of (λ (e : Reference). (e.frame == g) && tells_owner z k.steps g o e.owner) zs)) refs ref)) [
        | inl first ↦ or_right _ _ (or_left _ _ (subst (λ zs. IsTrue (some_of (λ (e : TypedReference). (e.frame == g) && tells_owner z k.steps g o e.owner) zs)) (sym typed) (or_left _ _ (moved_first z g o k.steps r y frame owner first))))
        | inr other ↦ or_left _ _ other
      ]
      | inr rest ↦ elim (or_cases _ _ rest) [
        | inl one ↦ or_right _ _ (or_left _ _ (still_more (λ (e : TypedReference). e.frame) g typed (λ e. tells_owner z k.steps g o e.owner) one))
        | inr lock ↦ or_right _ _ (or_right _ _ lock)
      ]
    ]

-- ---- of all these tables
-- none of them is that frame
abbrev pub AreApart : ℕ → List TableWork → Type 0
AreApart f [] = Unit {0}
AreApart f (t ∷ ts) = (t.frame ≢ f) × AreApart f ts

pub owned_still : (z : Sizes) (o : ℕ) (ts : List TableWork) (h k : Holdings) → ((g : ℕ) → IsTrue (knows_owner z g o h) → IsTrue (knows_owner z g o k)) → AreOwned z o ts h → AreOwned z o ts k
owned_still z o [] h k still owned = tt
owned_still z o (t ∷ ts) h k still owned = (still t.frame owned.0, owned_still z o ts h k still owned.1)

pub owned_apart : (z : Sizes) (o f : ℕ) (ts : List TableWork) (h k : Holdings) → ((g : ℕ) → f ≢ g → IsTrue (knows_owner z g o h) → IsTrue (knows_owner z g o k)) → AreApart f ts → AreOwned z o ts h → AreOwned z o ts k
owned_apart z o f [] h k still apart owned = tt
owned_apart z o f (t ∷ ts) h k still apart owned = (still t.frame (λ same. apart.0 (sym same)) owned.0, owned_apart z o f ts h k still apart.1 owned.1)
