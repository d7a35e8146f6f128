-- Words of a vCPU that name descriptor pages, and what is in hand as they are stored.
use Rattle.std.specs.Prelude.{◌≡◌, ℕ, ◌<◌, zero, suc, true, List, [], ◌∷◌, Option, Some, None}
use Rattle.xp_words.specs.declared.kind.PageType.TheVariants.{Desc}
use Rattle.xp_words.specs.declared.place.Place.TheVariants.{Vcpu}
use Rattle.xp_board.specs.declared.holdings.OwnerFound.TheVariants as owners
use Rattle.xp_board.specs.declared.holdings.TypedReference.{TypedReference}
use Rattle.xp_board.specs.declared.step.Act.TheVariants.{Store}
use Rattle.xp_board.specs.declared.step.StepKind.TheVariants as kinds
use Rattle.xp_board.specs.KindSteps.{live_typed}
use Rattle.xp_board.specs.Readings.{domain_of}
use Rattle.xp_board.specs.Told.{PortValue}
use Rattle.step_maker.specs.Holds.{Holds}
use Rattle.step_maker.specs.Moves.{Came, Moves}
use Rattle.step_maker.specs.Answers.{Deed, Serves, SetsWord}
use Rattle.step_maker.specs.Asked.{Request}
use Rattle.context_words.specs.Names.{naming}
use Rattle.frame_types.specs.Found.{DropsPlain}
pub use Rattle.step_maker.specs.Holds.{own_domain}

-- the newest typed reference is to that page, live and the own domain's; or none is for it
abbrev pub with_page : ℕ → Option ℕ → List TypedReference → List TypedReference
with_page owner None rest = rest
with_page owner (Some f) rest = live_typed f Desc (owners.Of owner) ∷ rest

abbrev pub IsInside : PortValue → Option ℕ → Type 0
IsInside v None = Unit {0}
IsInside v (Some f) = f < v.post.machine.frames

pub record HoldsForPage (v : PortValue) (new : Option ℕ) (rest : List TypedReference) : Type 0 where
  pub typed : v.holdings.typed ≡ with_page (own_domain v) new rest
  pub inside : IsInside v new
  pub works : v.holdings.works ≡ []

-- what the word named before was given back
abbrev pub GaveOld : PortValue → PortValue → ℕ → Type 0
GaveOld v w zero = w ≡ v
GaveOld v w (suc g) = DropsPlain v w g Desc

-- the word was stored, and what it named before given back
pub record NamesPage (v w : PortValue) (k : ℕ) (new : Option ℕ) : Type 0 where
  pub stored : PortValue
  pub old : ℕ
  pub stores : Moves v stored (Vcpu v.post.vcpu k) (Store (naming new)) kinds.Context None old
  pub gives : GaveOld stored w old

pub record PutsPage (v w : PortValue) (k : ℕ) (new : Option ℕ) (rest : List TypedReference) : Type 0 where
  pub came : Came v w
  pub hand : Holds v w (record v.holdings { typed = rest })
  pub serves : (u : PortValue) (r : Request) (ds : List Deed) → Serves u v r ds → r.contexts ≡ true → Serves u w r (SetsWord v.post.vcpu k (naming new) ∷ ds)
  pub course : NamesPage v w k new
