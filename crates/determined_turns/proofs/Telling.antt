-- On a board that tells all words nothing can be found otherwise: courses that are alike are one.
use Rattle.std.proofs.Common.{◌≡◌, ◌≢◌, ◌⊎◌, ℕ, true, Bool, List, [], ◌∷◌, ◌++◌, is_some, Option, Some, None, refl, sym, ap, ◌∙◌, subst, inl, inr}
use Rattle.xp_words.specs.Machine.{Machine}
use Rattle.xp_words.specs.declared.place.Place.{Place}
use Rattle.xp_board.specs.Told.{IsTold, PortValue, Story, is_telling}
use Rattle.step_maker.specs.Moves.{Came, Moment, Moves, Ran}
use Rattle.step_maker.specs.Visits.{Does, Visit, visit_of, visits}
use Rattle.step_maker.proofs.Parts.{Cut, cut}
use Rattle.step_maker.proofs.Telling.{ran_telling}
use Rattle.determined_laws.specs.Courses.{Alike, Forked}
use Rattle.determined_laws.specs.Forks.{Forks, MadeBy, visit_by}
use Rattle.determined_laws.proofs.Courses.{same_end}

-- what is told is found
one_told : (n : Machine) (story : Option Story) (p : Place) (x y : ℕ) → is_some story ≡ true → IsTold n story p x → IsTold n story p y → x ≡ y
one_told n None p x y on a b = absurd cc
one_told n (Some story) p x y on a b = sym a.1 ∙ b.1

-- the last step of a list is a step of the port before it
last_move : (v w : PortValue) (s : Visit) (older : List Visit) (ms : List Moment) → Ran v ms w → visits ms ≡ s ∷ older → (u : PortValue) × (ns : List Moment) × Ran v ns u × (visits ns ≡ older) × Moves u w s.place s.act s.kind s.mark s.found
last_move v w s older [] ran is = absurd cc
last_move v w s older (m ∷ ms) ran is =
    (ran.0, ms, ran.1, (let e : visits ms ≡ older = cc in e), subst (λ (z : Visit). Moves ran.0 w z.place z.act z.kind z.mark z.found) (let e : visit_of m ≡ s = cc in e) ran.2.moves)

-- a list of steps up to one of them
up_to : (v w : PortValue) (s : Visit) (newer older us : List Visit) → MadeBy v w us → us ≡ newer ++ (s ∷ older) →
    (u : PortValue) × (t : PortValue) × (ns : List Moment) × Ran v ns u × (visits ns ≡ older) × Moves u t s.place s.act s.kind s.mark s.found
unfolding Does
up_to v w s newer older us made is =
    let c = cut v w (s ∷ older) newer made.0 made.1 (made.2 ∙ is) in
    let l = last_move v c.port s older c.ms c.ran c.are in
    (l.0, c.port, l.1, l.2, l.3, l.4)

pub never_forked : (v w x : PortValue) → is_telling v ≡ true → Forked v w x → ⊥
never_forked v w x telling f =
    let s = f.forks in
    let a = up_to v w (visit_by s.kind s.place s.act s.mark s.x) s.newer s.older f.us f.left s.left in
    let b = up_to v x (visit_by s.kind s.place s.act s.mark s.y) s.later s.older f.vs f.right s.right in
    let same = same_end v a.0 b.0 a.2 b.2 (a.4 ∙ sym b.4) a.3 b.3 in
    let on : is_telling a.0 ≡ true = ran_telling v a.0 a.2 a.3 ∙ telling in
    s.other (one_told a.0.post.machine a.0.told s.place s.x s.y on a.5.told (subst (λ (z : PortValue). IsTold z.post.machine z.told s.place s.y) (sym same) b.5.told))

pub told_alike : (v w x : PortValue) (E : Type 0) → is_telling v ≡ true → Alike v w x E → (w ≡ x) × E
told_alike v w x E telling (inl f) = absurd (never_forked v w x telling f)
told_alike v w x E telling (inr e) = e
