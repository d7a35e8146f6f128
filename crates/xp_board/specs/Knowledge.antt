-- What a vCPU knows of a frame by the references in its hand: what it found or made so at or after the step
-- that brought one of them.
use Rattle.std.specs.Prelude.{ℕ, ◌==◌, ◌&&◌, ◌||◌, Bool, false, List, Option, Some, None}
use Rattle.xp_words.specs.declared.kind.PageType.{PageType}
use Rattle.xp_words.specs.declared.place.Place.TheVariants.{Refs, Kind}
use Rattle.xp_words.specs.Places.{Sizes}
use Rattle.xp_board.specs.declared.holdings.Made.{Made}
use Rattle.xp_board.specs.declared.holdings.OwnerFound.{OwnerFound}
use Rattle.xp_board.specs.declared.holdings.OwnerFound.TheVariants as owners
use Rattle.xp_board.specs.declared.holdings.Liveness.{Liveness}
use Rattle.xp_board.specs.declared.holdings.Liveness.TheVariants as lives
use Rattle.xp_board.specs.declared.holdings.Holdings.{Holdings}
use Rattle.xp_board.specs.Lists.{some_of}
use Rattle.xp_board.specs.Steps.{some_since, last_since}
use Rattle.xp_board.specs.Readings.{is_owned_by, is_live_as, is_partial_as, is_type}

-- ---- the owner
abbrev pub tells_owner : Sizes → List Made → ℕ → ℕ → OwnerFound → Bool
tells_owner z steps f o (owners.Of d) = d == o
tells_owner z steps f o (owners.Since n) = some_since z n (Refs f) (is_owned_by o) steps

-- the vCPU knows that the frame is owned by o
unfoldable pub knows_owner : Sizes → ℕ → ℕ → Holdings → Bool
knows_owner z f o h =
    some_of (λ e. (e.frame == f) && tells_owner z h.steps f o e.owner) h.refs
    || (some_of (λ e. (e.frame == f) && tells_owner z h.steps f o e.owner) h.typed
    || some_of (λ e. (e.frame == f) && tells_owner z h.steps f o e.owner) h.locks)

-- ---- that it is live with a type
abbrev pub is_kind_found : Option PageType → PageType → Bool
is_kind_found (Some u) t = is_type u t
is_kind_found None t = false

abbrev pub tells_live : Sizes → List Made → ℕ → PageType → Option PageType → Liveness → Bool
tells_live z steps f t kind lives.Found = is_kind_found kind t
tells_live z steps f t kind (lives.Since n) = some_since z n (Kind f) (is_live_as t) steps

-- the vCPU knows by a typed reference or lock that the frame is live with type t
unfoldable pub knows_live : Sizes → ℕ → PageType → Holdings → Bool
knows_live z f t h =
    some_of (λ e. (e.frame == f) && tells_live z h.steps f t e.kind e.live) h.typed || some_of (λ e. (e.frame == f) && is_type e.kind t) h.locks

-- ---- that it is partial with a type
abbrev pub passes : (ℕ → Bool) → Option ℕ → Bool
passes test (Some w) = test w
passes test None = false

abbrev pub tells_partial : Sizes → List Made → ℕ → PageType → Liveness → Bool
tells_partial z steps f t lives.Found = false
tells_partial z steps f t (lives.Since n) = passes (is_partial_as t) (last_since z n (Kind f) steps)

-- the vCPU last found or left the frame partial with type t since a typed reference to it came
unfoldable pub knows_partial : Sizes → ℕ → PageType → Holdings → Bool
knows_partial z f t h = some_of (λ e. (e.frame == f) && tells_partial z h.steps f t e.live) h.typed
