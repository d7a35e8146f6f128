-- Two courses from one port, part behind part: where the first parts are alike, the rest begins at one port.
use Rattle.std.proofs.Common.{◌≡◌, ◌≢◌, ◌⊎◌, ℕ, List, [], ◌∷◌, ◌++◌, Option, append_assoc, append-nil, refl, sym, ap, ◌∙◌, subst, inl, inr}
use Rattle.xp_words.specs.declared.place.Place.{Place}
use Rattle.xp_board.specs.declared.step.Act.{Act}
use Rattle.xp_board.specs.declared.step.Mark.{Mark}
use Rattle.xp_board.specs.declared.step.StepKind.{StepKind}
use Rattle.xp_board.specs.Told.{PortValue}
use Rattle.step_maker.specs.Moves.{Came, Moment, Moves, Ran, moved}
use Rattle.step_maker.specs.Visits.{Does, Visit, visit_of, visits}
use Rattle.step_maker.proofs.Coming.{came_self, came_trans, moment_of, moves_by, moves_ran, ran_more}
use Rattle.step_maker.proofs.Parts.{first_of, rest_of}
use Rattle.determined_laws.specs.Courses.{Alike, Forked}
use Rattle.determined_laws.specs.Forks.{Forks, MadeBy, Tie, visit_by}
use Rattle.determined_laws.proofs.Ties.{forks_newer, forks_older, same_or}

-- ---- where a port comes to is a function of the visits
abbrev moved_so : PortValue → Visit → PortValue
moved_so u s = moved u s.place s.act s.kind s.mark s.found

pub same_end : (v w x : PortValue) (ms ns : List Moment) → visits ms ≡ visits ns → Ran v ms w → Ran v ns x → w ≡ x
same_end v w x [] [] e a b = a ∙ sym b
same_end v w x [] (n ∷ ns) e a b = absurd cc
same_end v w x (m ∷ ms) [] e a b = absurd cc
same_end v w x (m ∷ ms) (n ∷ ns) e a b =
    let before = same_end v a.0 b.0 ms ns (rest_of (visit_of m) (visit_of n) (visits ms) (visits ns) e) a.1 b.1 in
    let head = first_of (visit_of m) (visit_of n) (visits ms) (visits ns) e in
    a.2.moves.to ∙ (ap (λ u. moved_so u (visit_of m)) before ∙ ap (λ s. moved_so b.0 s) head) ∙ sym b.2.moves.to

pub made_same : (v w x : PortValue) (us : List Visit) → MadeBy v w us → MadeBy v x us → w ≡ x
unfolding Does
made_same v w x us a b = same_end v w x a.0 b.0 (a.2 ∙ sym b.2) a.1 b.1

-- ---- lists of steps behind each other
pub made_then : (v u w : PortValue) (us vs : List Visit) → MadeBy v u us → MadeBy u w vs → MadeBy v w (vs ++ us)
unfolding Does
made_then v u w us vs a b = (b.0 ++ a.0, ran_more v u w a.0 b.0 a.1 b.1, visits_more b.0 a.0 ∙ (ap (λ z. z ++ visits a.0) b.2 ∙ ap (λ z. vs ++ z) a.2))
  where
    visits_more : (ms ns : List Moment) → visits (ms ++ ns) ≡ visits ms ++ visits ns
    visits_more [] ns = refl
    visits_more (m ∷ ms) ns = ap (λ z. visit_of m ∷ z) (visits_more ms ns)

pub made_some : (v w : PortValue) → Came v w → (us : List Visit) × MadeBy v w us
unfolding Came Does
made_some v w a = (visits a.0, (a.0, a.1, refl))

pub made_came : (v w : PortValue) (us : List Visit) → MadeBy v w us → Came v w
unfolding Came Does
made_came v w us a = (a.0, a.1)

-- ---- forks
pub forked_then : {v a b w x : PortValue} → Forked v a b → Came a w → Came b x → Forked v w x
forked_then {v} {a} {b} {w} {x} f one two =
    let p = made_some a w one in
    let q = made_some b x two in
    record {
      us = p.0 ++ f.us;
      vs = q.0 ++ f.vs;
      left = made_then v a w f.us p.0 f.left p.1;
      right = made_then v b x f.vs q.0 f.right q.1;
      forks = forks_newer f.us f.vs p.0 q.0 f.forks;
    }

pub forked_behind : {v u w x : PortValue} → Came v u → Forked u w x → Forked v w x
forked_behind {v} {u} {w} {x} one f =
    let p = made_some v u one in
    record {
      us = f.us ++ p.0;
      vs = f.vs ++ p.0;
      left = made_then v u w p.0 f.us p.1 f.left;
      right = made_then v u x p.0 f.vs p.1 f.right;
      forks = forks_older f.us f.vs p.0 f.forks;
    }

-- ---- one part behind another
-- the first parts are alike; where they come to one port, the rest is alike from there
pub alike_then : {v a b w x : PortValue} {E F : Type 0} → Came v a → Came a w → Came b x → Alike v a b E → (a ≡ b → E → Alike a w x F) → Alike v w x F
alike_then c one two (inl f) rest = inl (forked_then f one two)
alike_then {v} {a} {b} {w} {x} {E} {F} c one two (inr s) rest = behind (rest s.0 s.1)
  where
    behind : Alike a w x F → Alike v w x F
    behind (inl f) = inl (forked_behind c f)
    behind (inr t) = inr t

-- the same, where the rest of the other is said of its own port
pub alike_next : {v a b w x : PortValue} {E F : Type 0} (Rest : PortValue → Type 0) → Came v a → Came a w → Came b x → Alike v a b E → Rest b → (E → Rest a → Alike a w x F) → Alike v w x F
alike_next Rest c one two first q rest = alike_then c one two first (λ e s. rest s (subst Rest (sym e) q))

-- the first parts are alike, but their answers are not both to be had
pub alike_apart : {v a b w x : PortValue} {E F : Type 0} → Came a w → Came b x → Alike v a b E → (E → ⊥) → Alike v w x F
alike_apart one two (inl f) off = inl (forked_then f one two)
alike_apart one two (inr s) off = absurd (off s.1)

pub alike_map : {v w x : PortValue} {E F : Type 0} → Alike v w x E → (E → F) → Alike v w x F
alike_map (inl f) g = inl f
alike_map (inr s) g = inr (s.0, g s.1)

-- the one for the other
pub alike_turned : {v w x : PortValue} {E F : Type 0} → Alike v w x E → (E → F) → Alike v x w F
alike_turned {v} {w} {x} (inl f) g = inl (record { us = f.vs; vs = f.us; left = f.right; right = f.left; forks = record { place = f.forks.place; act = f.forks.act; kind = f.forks.kind; mark = f.forks.mark; x = f.forks.y; y = f.forks.x; other = λ z. f.forks.other (sym z); newer = f.forks.later; later = f.forks.newer; older = f.forks.older; left = f.forks.right; right = f.forks.left } })
alike_turned (inr s) g = inr (sym s.0, g s.1)

pub alike_same : {v w x : PortValue} {E : Type 0} → w ≡ x → E → Alike v w x E
alike_same e a = inr (e, a)

-- ---- by their lists
pub alike_lists : (v w x : PortValue) (us vs : List Visit) (E : Type 0) → MadeBy v w us → MadeBy v x vs → Tie us vs E → Alike v w x E
alike_lists v w x us vs E a b (inl f) = inl (record { us = us; vs = vs; left = a; right = b; forks = f })
alike_lists v w x us vs E a b (inr s) = inr (made_same v w x vs (subst (λ z. MadeBy v w z) s.0 a) b, s.1)

-- of calls that are told by what their lists are to be
pub alike_does : {v w x : PortValue} {P Q : List Visit → Type 0} {E : Type 0} → Does v w P → Does v x Q → ((us vs : List Visit) → P us → Q vs → Tie us vs E) → Alike v w x E
unfolding Does
alike_does {v} {w} {x} {P} {Q} {E} a b tie = alike_lists v w x (visits a.0) (visits b.0) E (a.0, a.1, refl) (b.0, b.1, refl) (tie (visits a.0) (visits b.0) a.2 b.2)

-- of one step
pub moves_made : (v w : PortValue) (p : Place) (a : Act) (kind : StepKind) (mark : Option Mark) (x : ℕ) → Moves v w p a kind mark x → MadeBy v w (visit_by kind p a mark x ∷ [])
unfolding Does moment_of
moves_made v w p a kind mark x m = (moment_of v p a kind mark x ∷ [], moves_ran v w p a kind mark x m, refl)

pub alike_move : {v w x : PortValue} {p : Place} {a : Act} {kind : StepKind} {mark : Option Mark} {m n : ℕ} → Moves v w p a kind mark m → Moves v x p a kind mark n → Alike v w x (m ≡ n)
alike_move {v} {w} {x} {p} {a} {kind} {mark} {m} {n} one two = by (same_or m n)
  where
    by : (m ≡ n) ⊎ (m ≢ n) → Alike v w x (m ≡ n)
    by (inl e) = inr (one.to ∙ (ap (λ z. moved v p a kind mark z) e ∙ sym two.to), e)
    by (inr n') = inl (record {
      us = visit_by kind p a mark m ∷ [];
      vs = visit_by kind p a mark n ∷ [];
      left = moves_made v w p a kind mark m one;
      right = moves_made v x p a kind mark n two;
      forks = record { place = p; act = a; kind = kind; mark = mark; x = m; y = n; other = n'; newer = []; later = []; older = []; left = refl; right = refl };
    })

-- ---- loops that are told from their end: so many steps from state to state, the last one named last
pub data Goes {S : Type 0} (Next : S → S → Type 0) (s : S) : S → Type 0 where
  none : Goes Next s s
  more : (m t : S) → Goes Next s m → Next m t → Goes Next s t

-- from the front: none, or a first step
pub data Begins {S : Type 0} (Next : S → S → Type 0) (s t : S) : Type 0 where
  ended : s ≡ t → Begins Next s t
  first : (m : S) → Next s m → Goes Next m t → Begins Next s t

pub begins : {S : Type 0} {Next : S → S → Type 0} {s t : S} → Goes Next s t → Begins Next s t
begins none = ended refl
begins {S} {Next} {s} (more m t before step) = by (begins before)
  where
    by : Begins Next s m → Begins Next s t
    by (ended e) = first t (subst (λ z. Next z t) (sym e) step) none
    by (first k one rest) = first k one (more m t rest step)

-- Where two steps from one state are alike, two loops from one state are alike as far as the shorter goes.
module _ {S : Type 0} (Next : S → S → Type 0) (at : S → PortValue) (steps : (s t : S) → Next s t → Came (at s) (at t))
    (same : (s t u : S) → Next s t → Next s u → Alike (at s) (at t) (at u) (t ≡ u)) where
  pub goes_came : (s t : S) → Goes Next s t → Came (at s) (at t)
  goes_came s _ none = came_self (at s)
  goes_came s _ (more m t before step) = came_trans (at s) (at m) (at t) (goes_came s m before) (steps m t step)

  pub data Beside (s t u : S) : Type 0 where
    forked : Forked (at s) (at t) (at u) → Beside s t u
    shorter : Goes Next t u → Beside s t u
    longer : Goes Next u t → Beside s t u

  pub goes_alike : (s t u : S) → Goes Next s t → Goes Next s u → Beside s t u
  goes_alike s _ u none b = shorter b
  goes_alike s _ u (more m t before step) b = by (goes_alike s m u before b)
    where
      next : Begins Next m u → Beside s t u
      next (ended e) = longer (subst (λ z. Goes Next z t) e (more m t none step))
      next (first k one rest) = meet (same m t k step one)
        where
          meet : Alike (at m) (at t) (at k) (t ≡ k) → Beside s t u
          meet (inl f) = forked (forked_then (forked_behind (goes_came s m before) f) (came_self (at t)) (goes_came k u rest))
          meet (inr e) = shorter (subst (λ z. Goes Next z u) (sym e.1) rest)

      by : Beside s m u → Beside s t u
      by (forked f) = forked (forked_then f (steps m t step) (came_self (at u)))
      by (shorter rest) = next (begins rest)
      by (longer rest) = longer (more m t rest step)

  -- loops that both came to a state from which no step goes on
  pub goes_same : (s t u : S) → ((k : S) → Next t k → ⊥) → ((k : S) → Next u k → ⊥) → Goes Next s t → Goes Next s u → Alike (at s) (at t) (at u) (t ≡ u)
  goes_same s t u off none_on a b = by (goes_alike s t u a b)
    where
      end : (p q : S) → ((k : S) → Next p k → ⊥) → Begins Next p q → p ≡ q
      end p q out (ended e) = e
      end p q out (first k one rest) = absurd (out k one)

      by : Beside s t u → Alike (at s) (at t) (at u) (t ≡ u)
      by (forked f) = inl f
      by (shorter g) = let e = end t u off (begins g) in inr (ap at e, e)
      by (longer g) = let e = sym (end u t none_on (begins g)) in inr (ap at e, e)
