-- Two lists of visits, the newest first, of one way of going on: they are the same, and so are their answers; or up to some visit, which both
-- made, they are the same, and there they found different words.
use Rattle.std.specs.Prelude.{◌≡◌, ◌≢◌, ◌⊎◌, ℕ, List, ◌∷◌, ◌++◌, Option, Result, Ok, Err}
use Rattle.xp_words.specs.declared.place.Place.{Place}
use Rattle.xp_words.specs.declared.reply.Stop.{Stop}
use Rattle.xp_board.specs.declared.step.Act.{Act}
use Rattle.xp_board.specs.declared.step.Mark.{Mark}
use Rattle.xp_board.specs.declared.step.StepKind.{StepKind}
use Rattle.xp_board.specs.Told.{PortValue}
use Rattle.step_maker.specs.Visits.{Does, Visit}
use Rattle.partial_state.specs.Levels.{level_type}
use Rattle.entry_locks.specs.declared.locking.Locked.{Locked}
use Rattle.entry_locks.specs.declared.locking.Locked.TheVariants.{Other, Table}

-- a visit by its parts
abbrev pub visit_by : StepKind → Place → Act → Option Mark → ℕ → Visit
visit_by t p a k x = record { place = p; act = a; kind = t; mark = k; found = x }

pub record Forks (us vs : List Visit) : Type 0 where
  pub place : Place
  pub act : Act
  pub kind : StepKind
  pub mark : Option Mark
  pub x : ℕ
  pub y : ℕ
  pub other : x ≢ y
  pub newer : List Visit
  pub later : List Visit
  pub older : List Visit
  pub left : us ≡ newer ++ (visit_by kind place act mark x ∷ older)
  pub right : vs ≡ later ++ (visit_by kind place act mark y ∷ older)

-- the same, and so is what E says of them; or they fork
abbrev pub Tie : List Visit → List Visit → Type 0 → Type 0
Tie us vs E = Forks us vs ⊎ ((us ≡ vs) × E)

-- ---- answers that are the same
-- both are done, or both stop alike
abbrev pub Agree : {A : Type 0} → Result A Stop → Result A Stop → Type 0
Agree (Ok a) (Ok b) = Unit {0}
Agree (Err e) (Err f) = e ≡ f
Agree (Ok a) (Err f) = ⊥
Agree (Err e) (Ok b) = ⊥

-- of a lock: the level is told by the type alone
abbrev pub AgreeLock : Result Locked Stop → Result Locked Stop → Type 0
AgreeLock (Ok (Table l x)) (Ok (Table k y)) = (x ≡ y) × (level_type l ≡ level_type k)
AgreeLock (Ok (Other x)) (Ok (Other y)) = x ≡ y
AgreeLock (Err e) (Err f) = e ≡ f
AgreeLock _ _ = ⊥

-- ---- from port to port
-- from v to w by exactly these steps, the newest first
abbrev pub MadeBy : PortValue → PortValue → List Visit → Type 0
MadeBy v w us = Does v w (λ vs. vs ≡ us)
