-- Lists of visits, put together.
use Rattle.std.proofs.Common.{◌≡◌, ℕ, List, [], ◌∷◌, ◌++◌, Option, refl, sym, ap, subst, append-nil}
use Rattle.xp_words.specs.declared.place.Place.{Place}
use Rattle.xp_board.specs.declared.step.Act.{Act}
use Rattle.xp_board.specs.declared.step.Mark.{Mark}
use Rattle.xp_board.specs.declared.step.StepKind.{StepKind}
use Rattle.xp_board.specs.Told.{Post, PortValue}
use Rattle.xp_words.specs.Machine.{Machine}
use Rattle.step_maker.specs.Moves.{Moment, Moves, Came}
use Rattle.step_maker.proofs.Coming.{came_post, moment_of, moves_ran, ran_more}
use Rattle.step_maker.specs.Visits.{Visit, visits, Does, Nothing, Only, Then}

visits_append : (xs ys : List Moment) → visits (ys ++ xs) ≡ visits ys ++ visits xs
visits_append xs [] = refl
visits_append xs (y ∷ ys) = ap (λ (vs : List Visit). record { place = y.place; act = y.act; kind = y.kind; mark = y.mark; found = y.found } ∷ vs) (visits_append xs ys)

pub does_nothing : (v : PortValue) → Does v v Nothing
unfolding Does
does_nothing v = ([], refl, refl)

pub does_came : (v w : PortValue) (P : List Visit → Type 0) → Does v w P → Came v w
unfolding Does Came
does_came v w P a = (a.0, a.1)

-- one step
pub does_one : (v w : PortValue) (p : Place) (a : Act) (kind : StepKind) (mark : Option Mark) (found : ℕ) → Moves v w p a kind mark found → Does v w (Only (record { place = p; act = a; kind = kind; mark = mark; found = found }))
unfolding Does moment_of
does_one v w p a kind mark found m = (moment_of v p a kind mark found ∷ [], moves_ran v w p a kind mark found m, refl)

-- one piece behind another
pub does_then : (v u w : PortValue) (P Q : List Visit → Type 0) → Does v u P → Does u w Q → Does v w (Then P Q)
unfolding Does
does_then v u w P Q a b = (
  b.0 ++ a.0,
  ran_more v u w a.0 b.0 a.1 b.1,
  record { before = visits a.0; after = visits b.0; first = a.2; next = b.2; list = visits_append a.0 b.0 },
)

-- the same list, said otherwise
pub does_as : (v w : PortValue) (P Q : List Visit → Type 0) → ((vs : List Visit) → P vs → Q vs) → Does v w P → Does v w Q
unfolding Does
does_as v w P Q so a = (a.0, a.1, so (visits a.0) a.2)

-- behind nothing, and before nothing
pub then_none : (P : List Visit → Type 0) (vs : List Visit) → P vs → Then P Nothing vs
then_none P vs a = record { before = vs; after = []; first = a; next = refl; list = refl }

pub none_then : (P : List Visit → Type 0) (vs : List Visit) → P vs → Then Nothing P vs
none_then P vs a = record { before = []; after = vs; first = refl; next = a; list = sym (append-nil vs) }

-- what is said of the machine is the same behind steps
pub does_next : (v u w : PortValue) (P : List Visit → Type 0) (Q : Machine → List Visit → Type 0) → Does v u P → Does u w (Q u.post.machine) → Does v w (Then P (Q v.post.machine))
does_next v u w P Q a b = does_then v u w P (Q v.post.machine) a (subst (λ (p : Post). Does u w (Q p.machine)) (came_post v u (does_came v u P a)) b)
