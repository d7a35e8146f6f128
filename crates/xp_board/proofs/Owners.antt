-- The owner of a frame: what tells a vCPU of it, and that it is a domain of the machine.
use Rattle.std.proofs.Common.{◌≡◌, ℕ, ◌<◌, ◌==◌, ◌&&◌, nat_lt, nat_le, Bool, true, false, List, [], ◌∷◌, length, Option, Some, None, IsTrue, ap, ◌∙◌, subst, inl, inr, arith, refl}
use Rattle.std.proofs.lemmas.Bool.{cases_eq, and_parts}
use Rattle.std.proofs.lemmas.Bool.Decides.{nat_tests}
use Rattle.xp_words.specs.Machine.{Machine}
use Rattle.xp_words.specs.Places.{Sizes}
use Rattle.xp_words.specs.declared.refs.RefWord.{RefWord}
use Rattle.xp_words.specs.declared.refs.RefWord.TheVariants.{Free, Owned, Dying}
use Rattle.xp_board.specs.declared.holdings.Holdings.{Holdings}
use Rattle.xp_board.specs.declared.holdings.Made.{Made}
use Rattle.xp_board.specs.declared.holdings.OwnerFound.{OwnerFound}
use Rattle.xp_board.specs.declared.holdings.OwnerFound.TheVariants as owners
use Rattle.xp_board.specs.declared.holdings.Reference.{Reference}
use Rattle.xp_board.specs.declared.holdings.TypedReference.{TypedReference}
use Rattle.xp_board.specs.Hands.{ref_to, typed_on, owner_by, owner_by_typed}
use Rattle.xp_board.specs.Knowledge.{tells_owner}
use Rattle.xp_board.specs.Lists.{some_of, first_by}
use Rattle.xp_board.specs.Readings.{owner_in}
use Rattle.xp_board.specs.Spelling.{is_ref_in}

-- ---- the owner that a vCPU knows
first_passes : {A : Type 0} (key : A → ℕ) (f : ℕ) (xs : List A) (e : A) (test : A → Bool) → first_by key f xs ≡ Some e → test e ≡ true →
    some_of (λ y. (key y == f) && test y) xs ≡ true
unfolding first_by some_of
first_passes key f [] e test h t = absurd (cc)
first_passes key f (y ∷ ys) e test h t =
    elim (cases_eq (key y) f) [
      | inl at ↦
          (let u : (key y == f) ≡ true = grind (arith, nat_tests) in
          let k : y ≡ e = (let q : Some y ≡ Some e = rw u at h in cc) in
          let v : test y ≡ true = ap test k ∙ t in
          rw (u, v) refl)
      | inr off ↦ (let u : (key y == f) ≡ false = grind (arith, nat_tests) in rw u (first_passes key f ys e test (rw u at h) t))
    ]

tells_of : (z : Sizes) (xs : List Made) (f o : ℕ) (w : OwnerFound) → w ≡ owners.Of o → tells_owner z xs f o w ≡ true
tells_of z xs f o w e = rw e (grind (arith, nat_tests))

pub ref_knows : (z : Sizes) (f o : ℕ) (h : Holdings) (r : Option Reference) → ref_to f h.refs ≡ r → owner_by r (owners.Since (length h.steps)) ≡ owners.Of o →
    some_of (λ e. (e.frame == f) && tells_owner z h.steps f o e.owner) h.refs ≡ true
ref_knows z f o h (Some r) at k = first_passes (λ e. e.frame) f h.refs r (λ e. tells_owner z h.steps f o e.owner) at (tells_of z h.steps f o r.owner k)
ref_knows z f o h None at k = absurd cc

pub typed_knows : (z : Sizes) (f o : ℕ) (h : Holdings) (r : Option TypedReference) → typed_on f h.typed ≡ r → owner_by_typed r (owners.Since (length h.steps)) ≡ owners.Of o →
    some_of (λ e. (e.frame == f) && tells_owner z h.steps f o e.owner) h.typed ≡ true
typed_knows z f o h (Some r) at k = first_passes (λ e. e.frame) f h.typed r (λ e. tells_owner z h.steps f o e.owner) at (tells_of z h.steps f o r.owner k)
typed_knows z f o h None at k = absurd cc

-- ---- the owner is a domain of the machine
pub owner_is_real : (n : Machine) (o : Option RefWord) (owner : ℕ) → IsTrue (is_ref_in n o) → owner_in o ≡ Some owner → owner < length n.page_limit
owner_is_real n (Some (Free stamp)) owner is at = absurd (cc)
owner_is_real n (Some (Owned d allocated count)) owner is at =
    let low = (and_parts (nat_lt d (length n.page_limit)) (nat_le count n.limit) is).0 in
    let same : d ≡ owner = cc in
    subst (λ k. k < length n.page_limit) same (grind (arith, nat_tests))
owner_is_real n (Some (Dying d)) owner is at =
    let same : d ≡ owner = cc in
    subst (λ k. k < length n.page_limit) same (grind (arith, nat_tests))
owner_is_real n None owner is at = absurd (cc)
