-- What a vCPU knows by its references: owners, live types and partial types. Each reference by itself tells what is right.
use Rattle.std.proofs.Common.{◌≡◌, ℕ, ◌==◌, ◌&&◌, Bool, List, [], ◌∷◌, Option, Some, None, IsTrue, refl, sym, ap, subst, inl, inr}
use Rattle.std.proofs.lemmas.Bool.{eqb-true, or_cases, or_left, or_right, and_parts, and_from}
use Rattle.xp_words.specs.declared.kind.PageType.{PageType}
use Rattle.xp_words.specs.declared.place.Place.{Place}
use Rattle.xp_words.specs.declared.place.Place.TheVariants.{Refs}
use Rattle.xp_words.specs.Places.{Sizes}
use Rattle.xp_board.specs.declared.holdings.Made.{Made}
use Rattle.xp_board.specs.declared.holdings.OwnerFound.{OwnerFound}
use Rattle.xp_board.specs.declared.holdings.Liveness.{Liveness}
use Rattle.xp_board.specs.declared.holdings.Reference.{Reference}
use Rattle.xp_board.specs.declared.holdings.TypedReference.{TypedReference}
use Rattle.xp_board.specs.declared.holdings.Lock.{Lock}
use Rattle.xp_board.specs.declared.holdings.Holdings.{Holdings}
use Rattle.xp_board.specs.Lists.{some_of, EachOf}
use Rattle.xp_board.specs.Readings.{kind_at, owner_of, is_number, is_live, is_type}
use Rattle.xp_board.specs.Knowledge.{tells_owner, knows_owner, tells_live, knows_live, tells_partial, passes, knows_partial}
use Rattle.xp_board.specs.Found.{OwnersFound, LivesFound, PartialsFound}
use Rattle.xp_board.proofs.PlaceTests.{equal_refl}
use Rattle.xp_board.proofs.HandLists.{EachOf-map}
use Rattle.xp_board.proofs.ListCounts.{EachOf-both}

-- ---- some element of a list tells, and each that tells is right
each_right : {A B : Type 0} (key : A → ℕ) (tells : ℕ → B → A → Bool) (G : ℕ → B → Type 0) (xs : List A) →
    ((f : ℕ) (o : B) → IsTrue (some_of (λ e. (key e == f) && tells f o e) xs) → G f o) → EachOf (λ e. (o : B) → IsTrue (tells (key e) o e) → G (key e) o) xs
unfolding EachOf some_of
each_right key tells G [] h = tt
each_right key tells G (x ∷ xs) h = (
  (λ o t. h (key x) o (or_left ((key x == key x) && tells (key x) o x) (some_of (λ e. (key e == key x) && tells (key x) o e) xs) (and_from (key x == key x) (tells (key x) o x) (equal_refl (key x)) t))),
  each_right key tells G xs (λ f o t. h f o (or_right ((key x == f) && tells f o x) (some_of (λ e. (key e == f) && tells f o e) xs) t)),
)

some_right : {A B : Type 0} (key : A → ℕ) (tells : ℕ → B → A → Bool) (G : ℕ → B → Type 0) (xs : List A) →
    EachOf (λ e. (o : B) → IsTrue (tells (key e) o e) → G (key e) o) xs → (f : ℕ) (o : B) → IsTrue (some_of (λ e. (key e == f) && tells f o e) xs) → G f o
unfolding EachOf some_of
some_right key tells G [] h f o t = absurd cc
some_right key tells G (x ∷ xs) h f o t =
    elim (or_cases ((key x == f) && tells f o x) (some_of (λ e. (key e == f) && tells f o e) xs) t) [
      | inl new ↦
          let a = and_parts (key x == f) (tells f o x) new in
          let e = eqb-true (key x) f a.0 in
          subst (λ y. G y o) e (h.0 o (subst (λ y. IsTrue (tells y o x)) (sym e) a.1))
      | inr old ↦ some_right key tells G xs h.1 f o old
    ]

-- ---- what one reference tells
abbrev pub OwnerRight : Sizes → (Place → ℕ) → List Made → ℕ → OwnerFound → Type 0
OwnerRight z m steps f w = (o : ℕ) → IsTrue (tells_owner z steps f o w) → owner_of (m (Refs f)) ≡ Some o

abbrev pub IsLiveAs : (Place → ℕ) → ℕ → PageType → Type 0
IsLiveAs m f t = IsTrue (is_live (kind_at m f)) × ((kind_at m f).kind ≡ t)

abbrev pub LiveRight : Sizes → (Place → ℕ) → List Made → ℕ → Option PageType → Liveness → Type 0
LiveRight z m steps f kind w = (t : PageType) → IsTrue (tells_live z steps f t kind w) → IsLiveAs m f t

abbrev pub PartialRight : Sizes → (Place → ℕ) → List Made → ℕ → Liveness → Type 0
PartialRight z m steps f w = (t : PageType) → IsTrue (tells_partial z steps f t w) → (kind_at m f).kind ≡ t

abbrev pub RefRight : Sizes → (Place → ℕ) → List Made → Reference → Type 0
RefRight z m steps e = OwnerRight z m steps e.frame e.owner

pub record TypedRight (z : Sizes) (m : Place → ℕ) (steps : List Made) (e : TypedReference) : Type 0 where
  pub owner : OwnerRight z m steps e.frame e.owner
  pub live : LiveRight z m steps e.frame e.kind e.live
  pub partial : PartialRight z m steps e.frame e.live

pub record LockRight (z : Sizes) (m : Place → ℕ) (steps : List Made) (e : Lock) : Type 0 where
  pub owner : OwnerRight z m steps e.frame e.owner
  pub live : (t : PageType) → IsTrue (is_type e.kind t) → IsLiveAs m e.frame t

pub record KnownRight (z : Sizes) (m : Place → ℕ) (u : Holdings) : Type 0 where
  pub refs : EachOf (RefRight z m u.steps) u.refs
  pub typed : EachOf (TypedRight z m u.steps) u.typed
  pub locks : EachOf (LockRight z m u.steps) u.locks

-- ---- to and from what is known by some reference
pub known_each : (z : Sizes) (m : Place → ℕ) (u : Holdings) → OwnersFound z m u → LivesFound z m u → PartialsFound z m u → KnownRight z m u
unfolding knows_owner knows_live knows_partial
known_each z m u c l p =
    let G : ℕ → ℕ → Type 0 = λ g d. owner_of (m (Refs g)) ≡ Some d in
    let L : ℕ → PageType → Type 0 = λ f t. IsLiveAs m f t in
    let K : ℕ → PageType → Type 0 = λ f t. (kind_at m f).kind ≡ t in
    record {
      refs = each_right (λ e. e.frame) (λ g d e. tells_owner z u.steps g d e.owner) G u.refs (λ g d t. c g d (or_left _ _ t));
      typed = EachOf-map (λ e. OwnerRight z m u.steps e.frame e.owner × (LiveRight z m u.steps e.frame e.kind e.live × PartialRight z m u.steps e.frame e.live)) (TypedRight z m u.steps) u.typed
          (λ e h. record { owner = h.0; live = (h.1).0; partial = (h.1).1 })
          (EachOf-both (λ e. OwnerRight z m u.steps e.frame e.owner) (λ e. LiveRight z m u.steps e.frame e.kind e.live × PartialRight z m u.steps e.frame e.live) u.typed
          (each_right (λ e. e.frame) (λ g d e. tells_owner z u.steps g d e.owner) G u.typed (λ g d t. c g d (or_right _ _ (or_left _ _ t))))
          (EachOf-both (λ e. LiveRight z m u.steps e.frame e.kind e.live) (λ e. PartialRight z m u.steps e.frame e.live) u.typed
          (each_right (λ e. e.frame) (λ g t e. tells_live z u.steps g t e.kind e.live) L u.typed (λ g t h. l g t (or_left _ _ h)))
          (each_right (λ e. e.frame) (λ g t e. tells_partial z u.steps g t e.live) K u.typed p)));
      locks = EachOf-map (λ e. OwnerRight z m u.steps e.frame e.owner × ((t : PageType) → IsTrue (is_type e.kind t) → IsLiveAs m e.frame t)) (LockRight z m u.steps) u.locks
          (λ e h. record { owner = h.0; live = h.1 })
          (EachOf-both (λ e. OwnerRight z m u.steps e.frame e.owner) (λ e. (t : PageType) → IsTrue (is_type e.kind t) → IsLiveAs m e.frame t) u.locks
          (each_right (λ e. e.frame) (λ g d e. tells_owner z u.steps g d e.owner) G u.locks (λ g d t. c g d (or_right _ _ (or_right _ _ t))))
          (each_right (λ e. e.frame) (λ g t e. is_type e.kind t) L u.locks (λ g t h. l g t (or_right _ _ h))));
    }

pub owners_by : (z : Sizes) (m : Place → ℕ) (u : Holdings) → KnownRight z m u → OwnersFound z m u
unfolding knows_owner
owners_by z m u c f o t =
    let G : ℕ → ℕ → Type 0 = λ g d. owner_of (m (Refs g)) ≡ Some d in
    elim (or_cases _ _ t) [
      | inl refs ↦ some_right (λ e. e.frame) (λ g d e. tells_owner z u.steps g d e.owner) G u.refs c.refs f o refs
      | inr more ↦
          elim (or_cases _ _ more) [
            | inl typed ↦
                some_right (λ e. e.frame) (λ g d e. tells_owner z u.steps g d e.owner) G u.typed
                (EachOf-map (TypedRight z m u.steps) (λ e. OwnerRight z m u.steps e.frame e.owner) u.typed (λ e h. h.owner) c.typed) f o typed
            | inr locks ↦
                some_right (λ e. e.frame) (λ g d e. tells_owner z u.steps g d e.owner) G u.locks
                (EachOf-map (LockRight z m u.steps) (λ e. OwnerRight z m u.steps e.frame e.owner) u.locks (λ e h. h.owner) c.locks) f o locks
          ]
    ]

pub lives_by : (z : Sizes) (m : Place → ℕ) (u : Holdings) → KnownRight z m u → LivesFound z m u
unfolding knows_live
lives_by z m u c f t h =
    let L : ℕ → PageType → Type 0 = λ g w. IsLiveAs m g w in
    elim (or_cases _ _ h) [
      | inl i ↦
          some_right (λ e. e.frame) (λ g w e. tells_live z u.steps g w e.kind e.live) L u.typed
          (EachOf-map (TypedRight z m u.steps) (λ e. LiveRight z m u.steps e.frame e.kind e.live) u.typed (λ e k. k.live) c.typed) f t i
      | inr i ↦
          some_right (λ e. e.frame) (λ g w e. is_type e.kind w) L u.locks
          (EachOf-map (LockRight z m u.steps) (λ e. (w : PageType) → IsTrue (is_type e.kind w) → IsLiveAs m e.frame w) u.locks (λ e k. k.live) c.locks) f t i
    ]

pub partials_by : (z : Sizes) (m : Place → ℕ) (u : Holdings) → KnownRight z m u → PartialsFound z m u
unfolding knows_partial
partials_by z m u c f t h =
    let K : ℕ → PageType → Type 0 = λ g w. (kind_at m g).kind ≡ w in
    some_right (λ e. e.frame) (λ g w e. tells_partial z u.steps g w e.live) K u.typed
    (EachOf-map (TypedRight z m u.steps) (λ e. PartialRight z m u.steps e.frame e.live) u.typed (λ e k. k.partial) c.typed) f t h

-- ---- readings
pub owned_by : (o : Option ℕ) (d : ℕ) → IsTrue (is_number o d) → o ≡ Some d
owned_by (Some n) d t = ap Some (eqb-true n d t)
owned_by None d t = absurd cc

pub passes_some : (test : ℕ → Bool) (o : Option ℕ) → IsTrue (passes test o) → (w : ℕ) × (o ≡ Some w) × IsTrue (test w)
passes_some test (Some w) h = (w, refl, h)
passes_some test None h = absurd cc
