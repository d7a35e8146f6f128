-- The steps of a call, taken apart again: one piece behind another, and single steps.
use Rattle.std.proofs.Common.{◌≡◌, List, [], ◌∷◌, ◌++◌, refl, sym, ap, ◌∙◌, subst}
use Rattle.xp_board.specs.Told.{PortValue}
use Rattle.step_maker.specs.Moves.{Moment, Moves, Ran}
use Rattle.step_maker.specs.Visits.{Does, Nothing, Only, Then, Visit, visit_of, visits}

-- where the list of all steps is of two parts, there is a port between them
pub record Cut (v w : PortValue) (before after : List Visit) : Type 0 where
  pub port : PortValue
  pub ms : List Moment
  pub ran : Ran v ms port
  pub are : visits ms ≡ before
  pub ns : List Moment
  pub goes : Ran port ns w
  pub more : visits ns ≡ after

pub first_of : {A : Type 0} (x y : A) (xs ys : List A) → x ∷ xs ≡ y ∷ ys → x ≡ y
first_of x y xs ys e = cc

pub rest_of : {A : Type 0} (x y : A) (xs ys : List A) → x ∷ xs ≡ y ∷ ys → xs ≡ ys
rest_of x y xs ys e = cc

pub cut : (v w : PortValue) (before after : List Visit) (ms : List Moment) → Ran v ms w → visits ms ≡ after ++ before → Cut v w before after
cut v w before [] ms ran is = record { port = w; ms = ms; ran = ran; are = is; ns = []; goes = refl; more = refl }
cut v w before (a ∷ rest) [] ran is = absurd cc
cut v w before (a ∷ rest) (m ∷ ms) ran is =
    let c = cut v ran.0 before rest ms ran.1 (rest_of (visit_of m) a (visits ms) (rest ++ before) is) in
    record {
      port = c.port;
      ms = c.ms;
      ran = c.ran;
      are = c.are;
      ns = m ∷ c.ns;
      goes = (ran.0, c.goes, ran.2);
      more = ap (λ x. x ∷ visits c.ns) (first_of (visit_of m) a (visits ms) (rest ++ before) is) ∙ ap (λ xs. a ∷ xs) c.more;
    }

pub parts : (v w : PortValue) (P Q : List Visit → Type 0) → Does v w (Then P Q) → (u : PortValue) × Does v u P × Does u w Q
unfolding Does
parts v w P Q a =
    let t = a.2 in
    let c = cut v w t.before t.after a.0 a.1 t.list in
    (c.port, (c.ms, c.ran, subst P (sym c.are) t.first), (c.ns, c.goes, subst Q (sym c.more) t.next))

-- ---- one step, or none
pub stayed : (v w : PortValue) → Does v w Nothing → w ≡ v
unfolding Does
stayed v w a = none a.0 a.1 a.2
  where
    none : (ms : List Moment) → Ran v ms w → visits ms ≡ [] → w ≡ v
    none [] ran is = ran
    none (m ∷ ms) ran is = absurd cc

pub single : (v w : PortValue) (s : Visit) → Does v w (Only s) → Moves v w s.place s.act s.kind s.mark s.found
unfolding Does
single v w s a = one a.0 a.1 a.2
  where
    one : (ms : List Moment) → Ran v ms w → visits ms ≡ s ∷ [] → Moves v w s.place s.act s.kind s.mark s.found
    one [] ran is = absurd cc
    one (m ∷ n ∷ ms) ran is = absurd cc
    one (m ∷ []) ran is =
        subst (λ (x : Visit). Moves v w x.place x.act x.kind x.mark x.found) (first_of (visit_of m) s [] [] is)
        (subst (λ u. Moves u w m.place m.act m.kind m.mark m.found) ran.1 ran.2.moves)
