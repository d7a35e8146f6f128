-- The new word of an entry may be put there: what it asks is in hand, and its owner fits.
use Rattle.std.proofs.Common.{◌≡◌, ◌≢◌, ◌⊎◌, ℕ, ◌<◌, ◌==◌, ◌&&◌, if◌then◌else◌, List, [], ◌∷◌, IsTrue, refl, sym, ap, ◌∙◌, subst, inl, inr}
use Rattle.std.proofs.lemmas.Bool.{cases_eq, or_left, or_right}
use Rattle.xp_words.specs.Entries.{is_lowest}
use Rattle.xp_words.specs.Places.{Sizes, sizes_of}
use Rattle.xp_words.specs.declared.entry.Demand.TheVariants.{Read, Typed}
use Rattle.xp_words.specs.declared.kind.PageType.{PageType}
use Rattle.xp_words.specs.declared.place.Place.TheVariants.{Priv}
use Rattle.xp_words.proofs.Shared.{eq_false as when_ne}
use Rattle.xp_board.specs.declared.holdings.Holdings.{Holdings}
use Rattle.xp_board.specs.declared.holdings.Lock.{Lock}
use Rattle.xp_board.specs.declared.holdings.Made.{Made}
use Rattle.xp_board.specs.declared.holdings.OwnerFound.{OwnerFound}
use Rattle.xp_board.specs.declared.holdings.OwnerFound.TheVariants as owners
use Rattle.xp_board.specs.declared.holdings.Reference.{Reference}
use Rattle.xp_board.specs.declared.holdings.TypedReference.{TypedReference}
use Rattle.xp_board.specs.Hands.{refs_to, typed_to}
use Rattle.xp_board.specs.Knowledge.{knows_owner, tells_owner}
use Rattle.xp_board.specs.KindSteps.{live_typed}
use Rattle.xp_board.specs.Readings.{has_now}
use Rattle.xp_board.specs.Settling.{HasDemand, OwnersMeet}
use Rattle.xp_board.specs.Steps.{some_since}
use Rattle.xp_board.specs.Told.{PortValue}
use Rattle.xp_board.proofs.ListCounts.{newest_held}
use Rattle.xp_board.proofs.Sums.{when_eq}
use Rattle.foreign_map.specs.Owning.{MayMapFor}
use Rattle.foreign_map.specs.declared.owners.Owners.{Owners}
use Rattle.kind_words.proofs.KindHands.{apart_spares, known_first, no_work, typed_held}
use Rattle.level_release.proofs.Owning.{first_passes}
use Rattle.partial_state.specs.Levels.{level_type}
use Rattle.entry_exchange.specs.Holding.{owner_at}

-- ---- whose a frame is, by the newest reference or lock
tells_its : (z : Sizes) (steps : List Made) (f g o : ℕ) (w : OwnerFound) → g ≡ f → w ≡ owners.Of o → IsTrue ((g == f) && tells_owner z steps f o w)
tells_its z steps f g o w same owned = rw (when_eq g f same, owned, when_eq o o refl) refl

pub known_by_ref : (z : Sizes) (f o : ℕ) (h : Holdings) (r : Reference) (xs : List Reference) → h.refs ≡ r ∷ xs → r.frame ≡ f → r.owner ≡ owners.Of o → IsTrue (knows_owner z f o h)
unfolding knows_owner
known_by_ref z f o h r xs newest same owned =
    or_left _ _ (first_passes (λ (e : Reference). (e.frame == f) && tells_owner z h.steps f o e.owner) r xs h.refs newest (tells_its z h.steps f r.frame o r.owner same owned))

pub known_by_typed : (z : Sizes) (f o : ℕ) (h : Holdings) (r : TypedReference) (xs : List TypedReference) → h.typed ≡ r ∷ xs → r.frame ≡ f → r.owner ≡ owners.Of o → IsTrue (knows_owner z f o h)
unfolding knows_owner
known_by_typed z f o h r xs newest same owned =
    or_right _ _ (or_left _ _ (first_passes (λ (e : TypedReference). (e.frame == f) && tells_owner z h.steps f o e.owner) r xs h.typed newest (tells_its z h.steps f r.frame o r.owner same owned)))

pub known_by_lock : (z : Sizes) (f o : ℕ) (h : Holdings) (e : Lock) (xs : List Lock) → h.locks ≡ e ∷ xs → e.frame ≡ f → e.owner ≡ owners.Of o → IsTrue (knows_owner z f o h)
unfolding knows_owner
known_by_lock z f o h e xs newest same owned =
    or_right _ _ (or_right _ _ (first_passes (λ (y : Lock). (y.frame == f) && tells_owner z h.steps f o y.owner) e xs h.locks newest (tells_its z h.steps f e.frame o e.owner same owned)))

-- ---- the owner at that level
pub at_level : (level tables frames : ℕ) → ((level ≡ 1) × (owner_at level tables frames ≡ frames)) ⊎ ((level ≢ 1) × (owner_at level tables frames ≡ tables))
at_level level tables frames =
    elim (cases_eq level 1) [
      | inl one ↦ inl (one, ap (λ b. if b then frames else tables) (when_eq level 1 one))
      | inr off ↦ inr (off, ap (λ b. if b then frames else tables) (when_ne level 1 off))
    ]

module _ (w : PortValue) (f level : ℕ) (o : Owners) (e : Lock) (locks : w.holdings.locks ≡ e ∷ []) (frame : e.frame ≡ f) (owned : e.owner ≡ owners.Of o.tables) (maps : MayMapFor w o) where
  meet : (owner_at level o.tables o.frames ≡ o.tables) ⊎ (IsTrue (is_lowest (level_type level)) × IsTrue (some_since (sizes_of w.post.machine) w.holdings.turn (Priv o.tables) (has_now (owner_at level o.tables o.frames)) w.holdings.steps))
  meet = by_level (at_level level o.tables o.frames) maps.over
    where
      by_level : ((level ≡ 1) × (owner_at level o.tables o.frames ≡ o.frames)) ⊎ ((level ≢ 1) × (owner_at level o.tables o.frames ≡ o.tables)) →
          (o.frames ≡ o.tables) ⊎ IsTrue (some_since (sizes_of w.post.machine) w.holdings.turn (Priv o.tables) (has_now o.frames) w.holdings.steps) →
          (owner_at level o.tables o.frames ≡ o.tables) ⊎ (IsTrue (is_lowest (level_type level)) × IsTrue (some_since (sizes_of w.post.machine) w.holdings.turn (Priv o.tables) (has_now (owner_at level o.tables o.frames)) w.holdings.steps))
      by_level (inr above) over = inl above.1
      by_level (inl low) (inl same) = inl (low.1 ∙ same)
      by_level (inl low) (inr over) =
          inr (
            subst (λ l. IsTrue (is_lowest (level_type l))) (sym low.0) refl,
            subst (λ d. IsTrue (some_since (sizes_of w.post.machine) w.holdings.turn (Priv o.tables) (has_now d) w.holdings.steps)) (sym low.1) over,
          )

  owners_meet : (g : ℕ) → IsTrue (knows_owner (sizes_of w.post.machine) g (owner_at level o.tables o.frames) w.holdings) → OwnersMeet w.post.machine f g (level_type level) w.holdings
  owners_meet g known =
      record {
        table = o.tables;
        frame = owner_at level o.tables o.frames;
        table_known = known_by_lock (sizes_of w.post.machine) f o.tables w.holdings e [] locks frame owned;
        frame_known = known;
        meet = meet;
      }

  -- ---- what a demand asks is in hand
  pub has_read : (g : ℕ) (rs : List Reference) → w.holdings.works ≡ [] → w.holdings.refs ≡ record { frame = g; owner = owners.Of (owner_at level o.tables o.frames) } ∷ rs → HasDemand w.post.machine f (level_type level) w.holdings (Read g)
  has_read g rs idle refs =
      record {
        in_hand = subst (λ (xs : List Reference). 0 < refs_to g xs) (sym refs) (newest_held g (record { frame = g; owner = owners.Of (owner_at level o.tables o.frames) }) rs refl);
        spares = apart_spares g w.holdings (no_work g w.holdings.works idle);
        owners = owners_meet g (known_by_ref (sizes_of w.post.machine) g (owner_at level o.tables o.frames) w.holdings (record { frame = g; owner = owners.Of (owner_at level o.tables o.frames) }) rs refs refl refl);
      }

  pub has_typed : (g : ℕ) (t : PageType) (ys : List TypedReference) → w.holdings.typed ≡ live_typed g t (owners.Of (owner_at level o.tables o.frames)) ∷ ys → HasDemand w.post.machine f (level_type level) w.holdings (Typed g t)
  has_typed g t ys typed =
      let item = live_typed g t (owners.Of (owner_at level o.tables o.frames)) in (
        record {
          in_hand = subst (λ (xs : List TypedReference). 0 < typed_to g xs) (sym typed) (typed_held g item ys refl);
          owners = owners_meet g (known_by_typed (sizes_of w.post.machine) g (owner_at level o.tables o.frames) w.holdings item ys typed refl refl);
        },
        known_first (sizes_of w.post.machine) g t (owners.Of (owner_at level o.tables o.frames)) ys w.holdings typed,
      )
