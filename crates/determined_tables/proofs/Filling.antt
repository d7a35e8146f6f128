-- What fills the tables, entry by entry, with the answers of the gate, is determined.
use Rattle.std.proofs.Common.{◌≡◌, ℕ, ◌&&◌, if◌then◌else◌, Bool, true, false, List, [], ◌∷◌, Result, Ok, Err, refl, sym, ap, ◌∙◌, subst, inl, inr}
use Rattle.xp_words.specs.declared.reply.Pause.TheVariants.{Due}
use Rattle.xp_words.specs.declared.reply.Stop.{Stop}
use Rattle.xp_words.specs.declared.reply.Stop.TheVariants.{Paused}
use Rattle.xp_preempt.specs.Gates.{GivesAnswers}
use Rattle.xp_board.specs.Told.{PortValue}
use Rattle.step_maker.specs.Moves.{Came}
use Rattle.partial_state.specs.declared.stack.TableWork.{TableWork}
use Rattle.table_entries.specs.Acquiring as ways
use Rattle.table_entries.specs.Acquiring.{Filled, is_asked}
use Rattle.determined_laws.specs.Courses.{Alike}
use Rattle.determined_laws.proofs.Courses.{Goes, alike_map, goes_came, goes_same, more, none}
use Rattle.determined_tables.proofs.Chains.{IsFixed}
use Rattle.determined_tables.proofs.Tables.{Advances, Worksheet, advanced_fixed, none_from_full}

-- ---- the answers of a gate
pub given_rest : (says : ℕ → Bool) (n : ℕ) (a : Bool) (olds : List Bool) → GivesAnswers says n (a ∷ olds) → GivesAnswers says n olds
unfolding GivesAnswers
given_rest says n a olds g = g.1

pub given_once : (says : ℕ → Bool) (n : ℕ) (olds : List Bool) → GivesAnswers says n (true ∷ olds) → GivesAnswers says n (false ∷ olds) → ⊥
unfolding GivesAnswers
given_once says n olds g h = let e : true ≡ false = g.0 ∙ sym h.0 in cc

-- ---- where the filling stands: the tables in work, the answers so far, and how it ended
pub record Standing : Type 0 where
  pub at : PortValue
  pub tables : List TableWork
  pub answers : List Bool
  pub answer : Result (Unit {0}) Stop

-- the tables in work at the end, the answers, and how it ended
abbrev pub Outcome : Type 0
Outcome = List TableWork × List Bool × Result (Unit {0}) Stop

-- it is at its end: it stopped, or the only table is full
abbrev pub IsEnd : List TableWork → Result (Unit {0}) Stop → Type 0
IsEnd us (Err e) = Unit {0}
IsEnd [] (Ok done) = ⊥
IsEnd (t ∷ []) (Ok done) = t.done ≡ 512
IsEnd (t ∷ u ∷ us) (Ok done) = ⊥

module _ (owner : ℕ) (says : ℕ → Bool) (n : ℕ) where
  -- behind one more entry, or table: whether the gate is asked, and what it answers
  abbrev Asks : List Bool → Bool → List Bool → Result (Unit {0}) Stop → Type 0
  Asks olds false bs r = (bs ≡ olds) × (r ≡ Ok tt)
  Asks olds true bs r = (yes : Bool) × (bs ≡ yes ∷ olds) × (r ≡ (if yes then Err (Paused Due) else Ok tt))

  abbrev Behind : List Bool → Worksheet → List Bool → Result (Unit {0}) Stop → Type 0
  Behind olds (xs, Err stop) bs r = (bs ≡ olds) × (r ≡ Err stop)
  Behind olds (xs, Ok done) bs r = Asks olds (done && is_asked xs) bs r

  pub record Next (s t : Standing) : Type 0 where
    pub on : s.answer ≡ Ok tt
    pub done : Result Bool Stop
    pub advances : Advances owner s.at s.tables t.at (t.tables, done)
    pub asks : Behind s.answers (t.tables, done) t.answers t.answer
    pub given : GivesAnswers says n t.answers

  steps : (s t : Standing) → Next s t → Came s.at t.at
  steps s t p = (advanced_fixed owner s.at s.tables).came t.at (t.tables, p.done) p.advances

  asks_same : (olds : List Bool) (c : Bool) (bs cs : List Bool) (r q : Result (Unit {0}) Stop) → GivesAnswers says n bs → GivesAnswers says n cs → Asks olds c bs r → Asks olds c cs q → (bs ≡ cs) × (r ≡ q)
  asks_same olds false bs cs r q g h a b = (a.0 ∙ sym b.0, a.1 ∙ sym b.1)
  asks_same olds true bs cs r q g h (true, e, f) (true, i, j) = (e ∙ sym i, f ∙ sym j)
  asks_same olds true bs cs r q g h (false, e, f) (false, i, j) = (e ∙ sym i, f ∙ sym j)
  asks_same olds true bs cs r q g h (true, e, f) (false, i, j) = absurd (given_once says n olds (subst (λ z. GivesAnswers says n z) e g) (subst (λ z. GivesAnswers says n z) i h))
  asks_same olds true bs cs r q g h (false, e, f) (true, i, j) = absurd (given_once says n olds (subst (λ z. GivesAnswers says n z) i h) (subst (λ z. GivesAnswers says n z) e g))

  behind_same : (olds : List Bool) (z : Worksheet) (bs cs : List Bool) (r q : Result (Unit {0}) Stop) → GivesAnswers says n bs → GivesAnswers says n cs → Behind olds z bs r → Behind olds z cs q → (bs ≡ cs) × (r ≡ q)
  behind_same olds (xs, Err stop) bs cs r q g h a b = (a.0 ∙ sym b.0, a.1 ∙ sym b.1)
  behind_same olds (xs, Ok done) bs cs r q g h a b = asks_same olds (done && is_asked xs) bs cs r q g h a b

  abbrev made : PortValue → List TableWork → List Bool → Result (Unit {0}) Stop → Standing
  made v ts bs r = record { at = v; tables = ts; answers = bs; answer = r }

  standing_same : (s t : Standing) → s.at ≡ t.at → s.tables ≡ t.tables → s.answers ≡ t.answers → s.answer ≡ t.answer → s ≡ t
  standing_same s t a b c d =
      ap (λ z. made z s.tables s.answers s.answer) a ∙ (ap (λ z. made t.at z s.answers s.answer) b ∙ (ap (λ z. made t.at t.tables z s.answer) c ∙ ap (λ z. made t.at t.tables t.answers z) d))

  sheet_same : (us vs : List TableWork) (c d : Result Bool Stop) → ◌≡◌ {A = Worksheet} (us, c) (vs, d) → (us ≡ vs) × (c ≡ d)
  sheet_same us vs c d e = (ap (λ (z : Worksheet). z.0) e, ap (λ (z : Worksheet). z.1) e)

  same : (s t u : Standing) → Next s t → Next s u → Alike s.at t.at u.at (t ≡ u)
  same s t u p q = together (fixed.alike t.at u.at (t.tables, p.done) (u.tables, q.done) p.advances q.advances)
    where
      fixed : IsFixed s.at (Advances owner s.at s.tables)
      fixed = advanced_fixed owner s.at s.tables

      together : Alike s.at t.at u.at (◌≡◌ {A = Worksheet} (t.tables, p.done) (u.tables, q.done)) → Alike s.at t.at u.at (t ≡ u)
      together (inl f) = inl f
      together (inr e) =
          let sheets = sheet_same t.tables u.tables p.done q.done e.1 in
          let gate = behind_same s.answers (u.tables, q.done) t.answers u.answers t.answer u.answer p.given q.given (subst (λ (z : Worksheet). Behind s.answers z t.answers t.answer) e.1 p.asks) q.asks in
          inr (e.0, standing_same t u e.0 sheets.0 gate.0 gate.1)

  -- ---- the loop
  abbrev Fills : Standing → Standing → Type 0
  Fills s t = Goes Next s t

  fills : (v : PortValue) (ts : List TableWork) (before : List Bool) (w : PortValue) (us : List TableWork) (bs : List Bool) (r : Result (Unit {0}) Stop) → Filled owner v ts before w us bs r → GivesAnswers says n bs →
      Fills (made v ts before (Ok tt)) (made w us bs r)
  fills v ts before _ _ _ _ ways.begun g = none
  fills v ts before _ _ _ _ (ways.unasked u w us xs done bs f a e) g =
      more (made u us bs (Ok tt)) (made w xs bs (Ok tt)) (fills v ts before u us bs (Ok tt) f g) (record { on = refl; done = Ok done; advances = a; asks = subst (λ z. Asks bs z bs (Ok tt)) (sym e) (refl, refl); given = g })
  fills v ts before _ _ _ _ (ways.asked u w us xs bs f a e) g =
      more (made u us bs (Ok tt)) (made w xs (false ∷ bs) (Ok tt)) (fills v ts before u us bs (Ok tt) f (given_rest says n false bs g))
      (record { on = refl; done = Ok true; advances = a; asks = subst (λ z. Asks bs z (false ∷ bs) (Ok tt)) (sym e) (false, refl, refl); given = g })
  fills v ts before _ _ _ _ (ways.due u w us xs bs f a e) g =
      more (made u us bs (Ok tt)) (made w xs (true ∷ bs) (Err (Paused Due))) (fills v ts before u us bs (Ok tt) f (given_rest says n true bs g))
      (record { on = refl; done = Ok true; advances = a; asks = subst (λ z. Asks bs z (true ∷ bs) (Err (Paused Due))) (sym e) (true, refl, refl); given = g })
  fills v ts before _ _ _ _ (ways.stopped u w us xs bs stop f a) g =
      more (made u us bs (Ok tt)) (made w xs bs (Err stop)) (fills v ts before u us bs (Ok tt) f g) (record { on = refl; done = Err stop; advances = a; asks = (refl, refl); given = g })

  no_next : (v : PortValue) (us : List TableWork) (bs : List Bool) (r : Result (Unit {0}) Stop) → IsEnd us r → (t : Standing) → Next (made v us bs r) t → ⊥
  no_next v us bs (Err e) end t p = absurd (let on = p.on in cc)
  no_next v [] bs (Ok done) end t p = end
  no_next v (u ∷ []) bs (Ok done) end t p = none_from_full owner v u t.at (t.tables, p.done) end p.advances
  no_next v (u ∷ x ∷ xs) bs (Ok done) end t p = end

  -- ---- as a course
  abbrev pub FillsBy : PortValue → List TableWork → List Bool → PortValue → Outcome → Type 0
  FillsBy v ts before w z = Filled owner v ts before w z.0 z.1 z.2 × GivesAnswers says n z.1 × IsEnd z.0 z.2

  pub filled_fixed : (v : PortValue) (ts : List TableWork) (before : List Bool) → IsFixed v (FillsBy v ts before)
  filled_fixed v ts before =
      record {
        came = λ w z p. goes_came Next (λ (s : Standing). s.at) steps same (made v ts before (Ok tt)) (made w z.0 z.1 z.2) (fills v ts before w z.0 z.1 z.2 p.0 p.1);
        alike = λ w x z y p q.
            alike_map
            (goes_same Next (λ (s : Standing). s.at) steps same (made v ts before (Ok tt)) (made w z.0 z.1 z.2) (made x y.0 y.1 y.2) (no_next w z.0 z.1 z.2 p.2) (no_next x y.0 y.1 y.2 q.2)
            (fills v ts before w z.0 z.1 z.2 p.0 p.1) (fills v ts before x y.0 y.1 y.2 q.0 q.1))
            (λ e. ap (λ (s : Standing). (s.tables, s.answers, s.answer)) e);
      }

  -- what was answered before was answered by the same gate
  pub given_before : (v : PortValue) (ts : List TableWork) (before : List Bool) (w : PortValue) (us : List TableWork) (bs : List Bool) (r : Result (Unit {0}) Stop) → Filled owner v ts before w us bs r → GivesAnswers says n bs → GivesAnswers says n before
  given_before v ts before _ _ _ _ ways.begun g = g
  given_before v ts before _ _ _ _ (ways.unasked u w us xs done bs f a e) g = given_before v ts before u us bs (Ok tt) f g
  given_before v ts before _ _ _ _ (ways.asked u w us xs bs f a e) g = given_before v ts before u us bs (Ok tt) f (given_rest says n false bs g)
  given_before v ts before _ _ _ _ (ways.due u w us xs bs f a e) g = given_before v ts before u us bs (Ok tt) f (given_rest says n true bs g)
  given_before v ts before _ _ _ _ (ways.stopped u w us xs bs stop f a) g = given_before v ts before u us bs (Ok tt) f g
