-- The steps of a call as a list of visits, the newest first, and what such lists are to be: one behind the other.
use Rattle.std.specs.Prelude.{◌≡◌, ◌==◌, if◌then◌else◌, ℕ, Bool, true, false, List, [], ◌∷◌, ◌++◌, Option, None}
use Rattle.xp_words.specs.declared.place.Place.{Place}
use Rattle.xp_words.specs.declared.place.Place.TheVariants as places
use Rattle.xp_board.specs.declared.step.Act.{Act}
use Rattle.xp_board.specs.declared.step.Act.TheVariants.{Load, Cas, Store, Add, Max}
use Rattle.xp_board.specs.declared.step.Mark.{Mark}
use Rattle.xp_board.specs.declared.step.StepKind.{StepKind}
use Rattle.xp_board.specs.declared.step.StepKind.TheVariants as steps
use Rattle.xp_board.specs.Told.{PortValue}
use Rattle.step_maker.specs.Moves.{Moment, Ran}

-- one step: the place, what was done there, what it was for, what it marked, and the word that was found
pub record Visit : Type 0 where
  pub place : Place
  pub act : Act
  pub kind : StepKind
  pub mark : Option Mark
  pub found : ℕ

-- what a step is for that changes a word of the hypervisor's own: most places have one kind of step
abbrev pub vcpu_kind : ℕ → StepKind
vcpu_kind k = if k == 5 then steps.Ack else if k == 6 then steps.Run else steps.Context

abbrev pub change_kind : Place → StepKind
change_kind places.Clock = steps.Tick
change_kind (places.Pages d) = steps.Pages
change_kind (places.Life d) = steps.Life
change_kind (places.Vcpu v k) = vcpu_kind k
change_kind (places.Refs f) = steps.Ref
change_kind (places.Kind f) = steps.Kind
change_kind (places.M2p f) = steps.M2p
change_kind (places.Cell f i) = steps.Cell
change_kind (places.Map k) = steps.Hint
change_kind (places.Priv d) = steps.Priv

-- of any step of the hypervisor's own: a load is a look, a maximum an ask for a flush
abbrev pub usual_kind : Place → Act → StepKind
usual_kind p Load = steps.Look
usual_kind p (Max value) = steps.Ask
usual_kind p (Cas expected new) = change_kind p
usual_kind p (Store new) = change_kind p
usual_kind p (Add by) = change_kind p

-- one of that kind, without a mark
abbrev pub visit_as : StepKind → Place → Act → ℕ → Visit
visit_as kind p a x = record { place = p; act = a; kind = kind; mark = None; found = x }

-- one of the hypervisor's own: neither of a page walk nor of the guest
abbrev pub visit : Place → Act → ℕ → Visit
visit p a x = visit_as (usual_kind p a) p a x

abbrev pub visit_of : Moment → Visit
visit_of m = record { place = m.place; act = m.act; kind = m.kind; mark = m.mark; found = m.found }

abbrev pub visits : List Moment → List Visit
visits [] = []
visits (m ∷ ms) = visit_of m ∷ visits ms

-- from v to w the port made steps whose list, all of them, is like that
unfoldable pub Does : PortValue → PortValue → (List Visit → Type 0) → Type 0
Does v w P = (ms : List Moment) × Ran v ms w × P (visits ms)

-- ---- what a list is to be
abbrev pub Nothing : List Visit → Type 0
Nothing vs = vs ≡ []

abbrev pub Only : Visit → List Visit → Type 0
Only s vs = vs ≡ s ∷ []

-- the one, and then the other
pub record Then (P Q : List Visit → Type 0) (vs : List Visit) : Type 0 where
  pub before : List Visit
  pub after : List Visit
  pub first : P before
  pub next : Q after
  pub list : vs ≡ after ++ before

-- that, where it is so, and else nothing
abbrev pub Where : Bool → (List Visit → Type 0) → List Visit → Type 0
Where true P vs = P vs
Where false P vs = Nothing vs
