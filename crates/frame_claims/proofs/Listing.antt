-- Lists of steps in order, put together.
use Rattle.std.proofs.Common.{ℕ, ◌+◌, ◌<◌, List, Option, Some, None, subst, arith}
use Rattle.xp_board.specs.Told.{Post, PortValue}
use Rattle.step_maker.specs.Visits.{Visit, Does, Nothing, Then}
use Rattle.step_maker.proofs.Visiting.{does_as, does_came, does_nothing, does_then}
use Rattle.step_maker.proofs.Coming.{came_post}
use Rattle.frame_claims.specs.Found as founds
use Rattle.frame_claims.specs.Found.{Downwards, FirstOf, Upwards}

-- ---- upwards
pub up_map : (P Q : ℕ → List Visit → Type 0) (from n : ℕ) → ((i : ℕ) → i < n → (us : List Visit) → P i us → Q i us) → (vs : List Visit) → Upwards P from n vs → Upwards Q from n vs
up_map P Q from _ so _ (founds.Upwards.starts vs is) = founds.Upwards.starts vs is
up_map P Q from _ so _ (founds.Upwards.goes_up n before now vs earlier here is) =
    founds.Upwards.goes_up n before now vs (up_map P Q from n (λ i l. so i (omega (arith, l))) before earlier) (so n (omega arith) now here) is

module _ (P : ℕ → List Visit → Type 0) (from : ℕ) where
  pub up_none : (v : PortValue) → Does v v (λ vs. Upwards P from from vs)
  up_none v = does_as v v Nothing (λ vs. Upwards P from from vs) (λ vs is. founds.Upwards.starts vs is) (does_nothing v)

  pub up_more : (v u w : PortValue) (n : ℕ) → Does v u (λ vs. Upwards P from n vs) → Does u w (λ vs. P n vs) → Does v w (λ vs. Upwards P from (n + 1) vs)
  up_more v u w n before now =
      does_as v w (Then (λ vs. Upwards P from n vs) (λ vs. P n vs)) (λ vs. Upwards P from (n + 1) vs) (λ vs t. founds.Upwards.goes_up n t.before t.after vs t.first t.next t.list)
      (does_then v u w (λ vs. Upwards P from n vs) (λ vs. P n vs) before now)

-- ---- downwards
module _ (P : ℕ → List Visit → Type 0) (below : ℕ) where
  pub down_none : (v : PortValue) → Does v v (λ vs. Downwards P below below vs)
  down_none v = does_as v v Nothing (λ vs. Downwards P below below vs) (λ vs is. founds.Downwards.begins vs is) (does_nothing v)

  pub down_more : (v u w : PortValue) (n : ℕ) → Does v u (λ vs. Downwards P below (n + 1) vs) → Does u w (λ vs. P n vs) → Does v w (λ vs. Downwards P below n vs)
  down_more v u w n before now =
      does_as v w (Then (λ vs. Downwards P below (n + 1) vs) (λ vs. P n vs)) (λ vs. Downwards P below n vs) (λ vs t. founds.Downwards.goes_down n t.before t.after vs t.first t.next t.list)
      (does_then v u w (λ vs. Downwards P below (n + 1) vs) (λ vs. P n vs) before now)

-- ---- the first of them
pub first_had : {A : Type 0} (P : ℕ → Option A → List Visit → Type 0) (v u w : PortValue) (n i : ℕ) (a : A) → i < n → Does v u (λ vs. Upwards (λ j us. P j None us) 0 i vs) → Does u w (λ vs. P i (Some a) vs) →
    Does v w (λ vs. FirstOf P n (Some a) vs)
first_had P v u w n i a low before now =
    does_as v w (Then (λ vs. Upwards (λ j us. P j None us) 0 i vs) (λ vs. P i (Some a) vs)) (λ vs. FirstOf P n (Some a) vs) (λ vs t. (i, low, t))
    (does_then v u w (λ vs. Upwards (λ j us. P j None us) 0 i vs) (λ vs. P i (Some a) vs) before now)

-- ---- what is said of the port is the same behind steps
pub behind : (v u w : PortValue) (P : List Visit → Type 0) (Q : Post → List Visit → Type 0) → Does v u P → Does u w (λ vs. Q u.post vs) → Does v w (Then P (λ vs. Q v.post vs))
behind v u w P Q a b = does_then v u w P (λ vs. Q v.post vs) a (subst (λ (p : Post). Does u w (λ vs. Q p vs)) (came_post v u (does_came v u P a)) b)
