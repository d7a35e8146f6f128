-- The steps from one port to another are one list; so what is said of a call's steps is said of those up to any port on its way.
use Rattle.std.proofs.Common.{◌≡◌, List, [], ◌∷◌, ◌++◌, IsTrue, refl, sym, ap, ◌∙◌, subst}
use Rattle.std.proofs.lemmas.List.{append_cancel_right}
use Rattle.xp_words.specs.Machine.{Machine}
use Rattle.xp_words.specs.Places.{place_at, sizes_of, is_place}
use Rattle.xp_words.proofs.PlaceLaws.{place_back}
use Rattle.xp_board.specs.declared.holdings.Holdings.{Holdings}
use Rattle.xp_board.specs.declared.holdings.Made.{Made}
use Rattle.xp_board.specs.Told.{Post, PortValue}
use Rattle.step_maker.specs.Moves.{Came, Moment, Ran, moved, step_at}
use Rattle.step_maker.specs.Visits.{Visit, visit_of, visits}
use Rattle.step_maker.proofs.Coming.{ran_more, ran_post}
use Rattle.step_maker.proofs.Noting.{made_now, moves_steps}

-- ---- visits, and what the hand keeps of them
abbrev made_of : Machine → Visit → Made
made_of n x = made_now (step_at n x.place x.act x.kind x.mark) x.found

abbrev visit_at : Machine → Made → Visit
visit_at n m = record { place = place_at (sizes_of n) m.step.place; act = m.step.act; kind = m.step.kind; mark = m.step.mark; found = m.found }

abbrev mades : Machine → List Visit → List Made
mades n [] = []
mades n (x ∷ xs) = made_of n x ∷ mades n xs

abbrev visits_at : Machine → List Made → List Visit
visits_at n [] = []
visits_at n (m ∷ ms) = visit_at n m ∷ visits_at n ms

back_one : (n : Machine) (x : Visit) → IsTrue (is_place (sizes_of n) x.place) → visit_at n (made_of n x) ≡ x
back_one n x real = ap (λ p. record { place = p; act = x.act; kind = x.kind; mark = x.mark; found = x.found }) (place_back (sizes_of n) x.place real)

ran_steps : (v w : PortValue) (ms : List Moment) → Ran v ms w → w.holdings.steps ≡ mades v.post.machine (visits ms) ++ v.holdings.steps
ran_steps v w [] ran = ap (λ (y : PortValue). y.holdings.steps) ran
ran_steps v w (m ∷ ms) ran =
    let u = ran.0 in
    moves_steps u w m.place m.act m.kind m.mark m.found ran.2.moves
    ∙ ap (λ (o : Post). made_now (step_at o.machine m.place m.act m.kind m.mark) m.found ∷ u.holdings.steps) (ran_post v u ms ran.1)
    ∙ ap (λ xs. made_of v.post.machine (visit_of m) ∷ xs) (ran_steps v u ms ran.1)

ran_visits : (v w : PortValue) (ms : List Moment) → Ran v ms w → visits_at v.post.machine (mades v.post.machine (visits ms)) ≡ visits ms
ran_visits v w [] ran = refl
ran_visits v w (m ∷ ms) ran =
    let u = ran.0 in
    let real = subst (λ (o : Post). IsTrue (is_place (sizes_of o.machine) m.place)) (ran_post v u ms ran.1) ran.2.moves.may.place in
    ap (λ x. x ∷ visits_at v.post.machine (mades v.post.machine (visits ms))) (back_one v.post.machine (visit_of m) real) ∙ ap (λ xs. visit_of m ∷ xs) (ran_visits v u ms ran.1)

-- ---- the same visits are the same moments
abbrev moment_at : Visit → Holdings → Moment
moment_at x h = record { place = x.place; act = x.act; kind = x.kind; mark = x.mark; found = x.found; hand = h }

record IsOneRun (w z : PortValue) (xs ys : List Moment) : Type 0 where
  list : xs ≡ ys
  port : w ≡ z

tail_of : (x y : Visit) (xs ys : List Visit) → x ∷ xs ≡ y ∷ ys → xs ≡ ys
tail_of x y xs ys e = cc

same_runs : (v w z : PortValue) (xs ys : List Moment) → Ran v xs w → Ran v ys z → visits xs ≡ visits ys → IsOneRun w z xs ys
same_runs v w z [] [] a b e = record { list = refl; port = a ∙ sym b }
same_runs v w z [] (y ∷ ys) a b e = absurd cc
same_runs v w z (x ∷ xs) [] a b e = absurd cc
same_runs v w z (x ∷ xs) (y ∷ ys) a b e =
    let one : visit_of x ≡ visit_of y = cc in
    let rest = same_runs v a.0 b.0 xs ys a.1 b.1 (tail_of (visit_of x) (visit_of y) (visits xs) (visits ys) e) in
    let hand = ap (λ (u : PortValue). u.holdings) rest.port in
    let moment : x ≡ y =
    ap (moment_at (visit_of x)) a.2.hand ∙ ap (λ (u : PortValue). moment_at (visit_of x) u.holdings) rest.port ∙ ap (λ s. moment_at s b.0.holdings) one ∙ sym (ap (moment_at (visit_of y)) b.2.hand) in
    record {
      list = ap (λ m. m ∷ xs) moment ∙ ap (λ ms. y ∷ ms) rest.list;
      port =
          a.2.moves.to ∙ ap (λ (u : PortValue). moved u x.place x.act x.kind x.mark x.found) rest.port
          ∙ ap (λ (s : Visit). moved b.0 s.place s.act s.kind s.mark s.found) one ∙ sym b.2.moves.to;
    }

pub one_run : (v w : PortValue) (xs ys : List Moment) → Ran v xs w → Ran v ys w → xs ≡ ys
one_run v w xs ys a b =
    let n = v.post.machine in
    let steps = append_cancel_right (mades n (visits xs)) (mades n (visits ys)) v.holdings.steps (sym (ran_steps v w xs a) ∙ ran_steps v w ys b) in
    (same_runs v w w xs ys a b (sym (ran_visits v w xs a) ∙ ap (visits_at n) steps ∙ ran_visits v w ys b)).list

-- ---- a port on the way
pub record IsOnWay (v u w : PortValue) (ms : List Moment) : Type 0 where
  pub before : List Moment
  pub after : List Moment
  pub to : Ran v before u
  pub from : Ran u after w
  pub all : ms ≡ after ++ before

pub on_way : (v u w : PortValue) (ms : List Moment) → Ran v ms w → Came v u → Came u w → IsOnWay v u w ms
unfolding Came
on_way v u w ms ran before after =
    record { before = before.0; after = after.0; to = before.1; from = after.1; all = one_run v w ms (after.0 ++ before.0) ran (ran_more v u w before.0 after.0 before.1 after.1) }
