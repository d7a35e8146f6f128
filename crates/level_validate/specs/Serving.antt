-- What the steps on tables in work are to a call that asked these tables: they serve it.
use Rattle.std.specs.Prelude.{◌≡◌, ◌⊎◌, ℕ, Bool, true, List, [], ◌∷◌, ◌++◌, Some}
use Rattle.xp_words.specs.Machine.{Machine}
use Rattle.xp_words.specs.declared.place.Place.TheVariants.{Kind}
use Rattle.xp_board.specs.Told.{PortValue}
use Rattle.step_maker.specs.Moves.{Met}
use Rattle.step_maker.specs.Answers.{Deed, Misses, Serves}
use Rattle.step_maker.specs.Asked.{Asked, Request}
use Rattle.step_maker.specs.Finding.{Finding}
use Rattle.kept_marks.specs.Marks.{IsForeign}
use Rattle.partial_state.specs.Levels.{level_type}
use Rattle.partial_state.specs.declared.stack.TableWork.{TableWork}
use Rattle.level_validate.specs.Unwinding.{outermost_frame}

-- each of the tables is asked, for its type
abbrev pub AreAsked : Machine → ℕ → Request → Finding → List TableWork → Type 0
AreAsked n s r F [] = Unit {0}
AreAsked n s r F (t ∷ ts) = Asked n s r F t.frame r.owner (Some (level_type t.level)) × AreAsked n s r F ts

-- From u to v there is a piece of a call for which entries ask frames of that owner. It asks these tables.
pub record IsPiece (u v : PortValue) (r : Request) (owner : ℕ) (ts : List TableWork) (ds : List Deed) : Type 0 where
  pub entries : r.entries ≡ true
  pub whose : r.owner ≡ owner
  pub serves : Serves u v r ds
  pub asked : AreAsked u.post.machine u.post.vcpu r (Met u v) ts

-- Behind any such piece the steps from v to w go on with it, with these deeds more; and it asks the tables us then.
unfoldable pub CarriesOn : PortValue → PortValue → ℕ → List TableWork → List TableWork → List Deed → Type 0
CarriesOn v w owner ts us es = (u : PortValue) (r : Request) (ds : List Deed) → IsPiece u v r owner ts ds → IsPiece u w r owner us (es ++ ds)

-- ---- frames that are left
-- The steps serve a piece with these deeds. Where the mark of another domain's frame was to have its type count, an exchange may be lost
-- that is to take it back.
pub record ServesMarked (u w : PortValue) (r : Request) (owner : ℕ) (kept : Bool) (f : ℕ) (ds : List Deed) : Type 0 where
  pub more : List Deed
  pub hidden : (more ≡ []) ⊎ (IsForeign u owner × (kept ≡ true) × (more ≡ Misses (Kind f) ∷ []))
  pub serves : Serves u w r (more ++ ds)

-- behind any piece that asks these tables, and may take marks off where they are another domain's, with these deeds more
unfoldable pub ServesLeft : PortValue → PortValue → ℕ → Bool → ℕ → List TableWork → List Deed → Type 0
ServesLeft v w owner kept f ts es =
    (u : PortValue) (r : Request) (ds : List Deed) → IsPiece u v r owner ts ds → (IsForeign v owner → r.locks ≡ true) → ServesMarked u w r owner kept f (es ++ ds)

-- one of the tables ts is left, and us stand then: that is all of them, or the steps go on with the piece
abbrev pub ServesTo : PortValue → PortValue → ℕ → Bool → List TableWork → List TableWork → Type 0
ServesTo v w owner kept ts [] = ServesLeft v w owner kept (outermost_frame ts) ts []
ServesTo v w owner kept ts (u ∷ us) = CarriesOn v w owner ts (u ∷ us) []

-- behind any piece that asks a frame for that type
unfoldable pub ServesWaiting : PortValue → PortValue → ℕ → ℕ → ℕ → Bool → Type 0
ServesWaiting v w f level owner kept =
    (u : PortValue) (r : Request) (ds : List Deed) → Serves u v r ds → Asked u.post.machine u.post.vcpu r (Met u v) f owner (Some (level_type level)) → (IsForeign v owner → r.locks ≡ true) →
    ServesMarked u w r owner kept f ds
