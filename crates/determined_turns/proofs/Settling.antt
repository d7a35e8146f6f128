-- What an earlier turn left, settled first: determined with what follows it.
use Rattle.std.proofs.Common.{◌≡◌, ℕ, Bool, List, ◌++◌, length, Option, None, Result, Ok, Err, refl, sym, ap, ◌∙◌, subst}
use Rattle.xp_words.specs.declared.reply.Stop.{Stop}
use Rattle.xp_board.specs.Told.{PortValue}
use Rattle.step_maker.specs.Moves.{Came}
use Rattle.step_maker.proofs.Coming.{came_self, came_trans}
use Rattle.xp_preempt.specs.Gates.{GivesAnswers, asks_on}
use Rattle.level_release.specs.Course.{left_settled}
use Rattle.vcpu_turn.specs.Settling.{Settles, SettlesFirst}
use Rattle.determined_laws.specs.Courses.{Alike}
use Rattle.determined_laws.proofs.Courses.{alike_apart, alike_map, alike_next}
use Rattle.determined_releases.proofs.Settled.{settled_alike, settled_came}
use Rattle.determined_calls.proofs.Asking.{gives_first, gives_more}
use Rattle.determined_turns.proofs.Lists.{Answer}

pub settles_came : {below : Option ℕ} {v w : PortValue} {answers : List Bool} {a : Answer} → Settles below v w answers a → Came v w
settles_came p = settled_came p.course

pub settles_alike : {below : Option ℕ} {v w x : PortValue} {answers others : List Bool} {a b : Answer} (says : ℕ → Bool) (n : ℕ) → GivesAnswers says n answers → GivesAnswers says n others →
    (p : Settles below v w answers a) → (q : Settles below v x others b) → Alike v w x ((answers ≡ others) × (a ≡ b) × (left_settled p.course ≡ left_settled q.course))
settles_alike says n g h p q = settled_alike says n g h p.course q.course

-- answers of two parts
pub both_answers : (early first late more : List Bool) → early ≡ first → late ≡ more → late ++ early ≡ more ++ first
both_answers early first late more e f = ap (λ z. z ++ early) f ∙ ap (λ z. more ++ z) e

module _ (P : PortValue → PortValue → List Bool → Answer → Type 0) (says : ℕ → Bool) (came : (u w : PortValue) (asked : List Bool) (a : Answer) → P u w asked a → Came u w)
    (alike : (u w x : PortValue) (asked others : List Bool) (a b : Answer) (m : ℕ) → GivesAnswers says m asked → GivesAnswers says m others → P u w asked a → P u x others b → Alike u w x ((asked ≡ others) × (a ≡ b)))
  where
    pub first_came : (v w : PortValue) (answers : List Bool) (a : Answer) → SettlesFirst P v w answers a → Came v w
    first_came v _ _ _ (SettlesFirst.unsettled w answers stop settles) = settles_came settles
    first_came v _ _ _ (SettlesFirst.performed u w early answers a settles p) = came_trans v u w (settles_came settles) (came u w answers a p)

    pub first_alike : (v w x : PortValue) (answers others : List Bool) (a b : Answer) (n : ℕ) → GivesAnswers says n answers → GivesAnswers says n others → SettlesFirst P v w answers a → SettlesFirst P v x others b →
        Alike v w x ((answers ≡ others) × (a ≡ b))
    first_alike v _ _ _ _ _ _ n g h (SettlesFirst.unsettled w answers stop p) (SettlesFirst.unsettled x others halt q) = alike_map (settles_alike says n g h p q) (λ s. (s.0, s.1))
    first_alike v _ _ _ _ _ _ n g h (SettlesFirst.unsettled w answers stop p) (SettlesFirst.performed u x early late b q run) =
        alike_apart (came_self w) (came u x late b run) (settles_alike says n g (gives_first says n late early h) p q) (λ s. absurd (let t = s.1 in cc))
    first_alike v _ _ _ _ _ _ n g h (SettlesFirst.performed u w early late a p run) (SettlesFirst.unsettled x others stop q) =
        alike_apart (came u w late a run) (came_self x) (settles_alike says n (gives_first says n late early g) h p q) (λ s. absurd (let t = s.1 in cc))
    first_alike v _ _ _ _ _ _ n g h (SettlesFirst.performed u w early late a p run) (SettlesFirst.performed y x first more b q goes) =
        alike_next (λ z. P z x more b) (settles_came p) (came u w late a run) (came y x more b goes) (settles_alike says n (gives_first says n late early g) (gives_first says n more first h) p q) goes
        (λ s rest. alike_map (alike u w x late more a b (asks_on (length early) n) (gives_more says n late early g) (subst (λ z. GivesAnswers says (asks_on (length z) n) more) (sym s.0) (gives_more says n more first h)) run rest)
        (λ t. (both_answers early first late more s.0 t.0, t.1)))
