-- What references tell stays right while the vCPU makes steps.
use Rattle.std.proofs.Common.{◌≡◌, ℕ, ◌≤◌, List, length, Option, Some, IsTrue, ap, ◌∙◌, inl, inr}
use Rattle.std.proofs.lemmas.Bool.{eqb-true, and_parts}
use Rattle.xp_words.specs.declared.kind.PageType.{PageType}
use Rattle.xp_words.specs.KindWords.{kind_fields}
use Rattle.xp_words.specs.declared.place.Place.{Place}
use Rattle.xp_words.specs.declared.place.Place.TheVariants.{Refs, Kind}
use Rattle.xp_words.specs.Places.{Sizes}
use Rattle.xp_board.specs.declared.holdings.Made.{Made}
use Rattle.xp_board.specs.declared.holdings.OwnerFound.{OwnerFound}
use Rattle.xp_board.specs.declared.holdings.OwnerFound.TheVariants as owners
use Rattle.xp_board.specs.declared.holdings.Liveness.{Liveness}
use Rattle.xp_board.specs.declared.holdings.Liveness.TheVariants as lives
use Rattle.xp_board.specs.Steps.{last_since}
use Rattle.xp_board.specs.Readings.{kind_at, owner_of, is_live, is_type, is_owned_by, is_live_as, is_partial, is_partial_as}
use Rattle.xp_board.specs.Knowledge.{passes}
use Rattle.found_rule.proofs.Growth.{Grown, grown_some, grown_last}
use Rattle.found_rule.proofs.KnownFacts.{OwnerRight, IsLiveAs, LiveRight, PartialRight, owned_by, passes_some}
use Rattle.xp_board.proofs.MoreSteps.{none_last, none_since}
use Rattle.xp_board.proofs.EntryWords.{type_same}

module _ (z : Sizes) (m m2 : Place → ℕ) (xs ys : List Made) (g : Grown z m m2 xs ys) (f : ℕ) where
  -- ---- what was known
  pub owner_right : owner_of (m2 (Refs f)) ≡ owner_of (m (Refs f)) → (w : OwnerFound) → OwnerRight z m xs f w → OwnerRight z m2 ys f w
  owner_right k (owners.Of d) c o t = k ∙ c o t
  owner_right k (owners.Since n) c o t =
      elim (grown_some z m m2 xs ys n (Refs f) (is_owned_by o) g t) [
        | inl new ↦ owned_by (owner_of (m2 (Refs f))) o new
        | inr old ↦ k ∙ c o old
      ]

  pub live_now : (t : PageType) → IsTrue (is_live_as t (m2 (Kind f))) → IsLiveAs m2 f t
  live_now t h = let a = and_parts (is_live (kind_at m2 f)) (is_type (kind_at m2 f).kind t) h in (a.0, type_same (kind_at m2 f).kind t a.1)

  pub live_kept : (IsTrue (is_live (kind_at m f)) → IsTrue (is_live (kind_at m2 f))) → (kind_at m2 f).kind ≡ (kind_at m f).kind → (t : PageType) → IsLiveAs m f t → IsLiveAs m2 f t
  live_kept l k t h = (l h.0, k ∙ h.1)

  pub live_right : (IsTrue (is_live (kind_at m f)) → IsTrue (is_live (kind_at m2 f))) → (kind_at m2 f).kind ≡ (kind_at m f).kind → (kind : Option PageType) (w : Liveness) →
      LiveRight z m xs f kind w → LiveRight z m2 ys f kind w
  live_right l k kind lives.Found c t h = live_kept l k t (c t h)
  live_right l k kind (lives.Since n) c t h =
      elim (grown_some z m m2 xs ys n (Kind f) (is_live_as t) g h) [ inl new ↦ live_now t new | inr old ↦ live_kept l k t (c t old) ]

  partial_now : (t : PageType) (w : ℕ) → m2 (Kind f) ≡ w → IsTrue (is_partial_as t w) → (kind_at m2 f).kind ≡ t
  partial_now t w e h =
      let a = and_parts (is_partial (kind_fields w)) (is_type (kind_fields w).kind t) h in ap (λ y. (kind_fields y).kind) e ∙ type_same (kind_fields w).kind t a.1

  pub partial_right : (kind_at m2 f).kind ≡ (kind_at m f).kind → (w : Liveness) → PartialRight z m xs f w → PartialRight z m2 ys f w
  partial_right k lives.Found c t h = absurd cc
  partial_right k (lives.Since n) c t h =
      let p = passes_some (is_partial_as t) (last_since z n (Kind f) ys) h in
      elim (grown_last z m m2 xs ys n (Kind f) p.0 g p.1) [
        | inl new ↦ partial_now t p.0 new p.2
        | inr old ↦ k ∙ c t (ap (passes (is_partial_as t)) old ∙ p.2)
      ]

  -- ---- of a reference that this step brings, nothing was found before
  pub owner_new : (n : ℕ) → length xs ≤ n → OwnerRight z m2 ys f (owners.Since n)
  owner_new n l o t =
      elim (grown_some z m m2 xs ys n (Refs f) (is_owned_by o) g t) [
        | inl new ↦ owned_by (owner_of (m2 (Refs f))) o new
        | inr old ↦ absurd (let none = none_since z n (Refs f) (is_owned_by o) xs l in cc)
      ]

  pub live_new : (kind : Option PageType) (n : ℕ) → length xs ≤ n → LiveRight z m2 ys f kind (lives.Since n)
  live_new kind n l t h =
      elim (grown_some z m m2 xs ys n (Kind f) (is_live_as t) g h) [
        | inl new ↦ live_now t new
        | inr old ↦ absurd (let none = none_since z n (Kind f) (is_live_as t) xs l in cc)
      ]

  pub partial_new : (n : ℕ) → length xs ≤ n → PartialRight z m2 ys f (lives.Since n)
  partial_new n l t h =
      let p = passes_some (is_partial_as t) (last_since z n (Kind f) ys) h in
      elim (grown_last z m m2 xs ys n (Kind f) p.0 g p.1) [
        | inl new ↦ partial_now t p.0 new p.2
        | inr old ↦ absurd (none_last z n (Kind f) p.0 xs l old)
      ]

  -- found or made live by this step
  pub live_found : (k : PageType) → IsLiveAs m2 f k → LiveRight z m2 ys f (Some k) lives.Found
  live_found k h t e = (h.0, h.1 ∙ type_same k t e)

  pub partial_found : PartialRight z m2 ys f lives.Found
  partial_found t h = absurd cc

  pub owner_found : (d : ℕ) → owner_of (m2 (Refs f)) ≡ Some d → OwnerRight z m2 ys f (owners.Of d)
  owner_found d e o t = e ∙ ap Some (eqb-true d o t)
