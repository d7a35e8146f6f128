-- An acquisition is determined by the words that it finds, and by the answers of its gate.
use Rattle.std.proofs.Common.{◌≡◌, ℕ, ◌&&◌, if◌then◌else◌, Bool, true, false, List, [], ◌∷◌, Option, Some, None, Result, Ok, Err, refl, sym, ap, subst}
use Rattle.xp_words.specs.declared.reply.Pause.TheVariants.{Due}
use Rattle.xp_words.specs.declared.reply.Stop.{Stop}
use Rattle.xp_words.specs.declared.reply.Stop.TheVariants.{Paused}
use Rattle.xp_preempt.specs.Gates.{GivesAnswers}
use Rattle.xp_board.specs.Told.{PortValue}
use Rattle.step_maker.specs.Moves.{Came}
use Rattle.step_maker.proofs.Coming.{came_self, came_trans}
use Rattle.frame_types.specs.declared.taking.Taken.{Taken}
use Rattle.frame_types.specs.declared.taking.Taken.TheVariants as types
use Rattle.partial_state.specs.declared.stack.TableWork.{TableWork}
use Rattle.table_entries.specs.Acquiring as ways
use Rattle.table_entries.specs.Acquiring.{Acquired, Filled, GaveRef, GotRef, MadeLive, TookOn, TookType, Unwound, WaitingLeft, Worked, is_asked, keeps_it, outermost_table}
use Rattle.course_laws.proofs.Walking.{filled_came, worked_came}
use Rattle.determined_laws.specs.Courses.{Alike}
use Rattle.determined_laws.proofs.Courses.{alike_map}
use Rattle.determined_tables.proofs.Chains.{Chain, Choice, Ends, IsFixed, fixed_by, fixed_choice, fixed_ends, fixed_never, fixed_sure, fixed_then, left, right}
use Rattle.determined_tables.proofs.Filling.{FillsBy, IsEnd, Outcome, filled_fixed, given_before, given_once}
use Rattle.determined_tables.proofs.Leaves.{gave_sure, got_fixed, live_sure, ref_answer, type_fixed, unwound_sure, waiting_sure}
use Rattle.determined_tables.proofs.Tables.{Took, Worksheet, advanced_fixed, took_came, took_fixed}

module _ (owner : ℕ) (says : ℕ → Bool) (n : ℕ) where
  -- ---- the frame came into work: down to where it was left, and then entry by entry
  -- behind the way down the gate is asked, or not
  abbrev Asked : List TableWork → Bool → PortValue → PortValue → Outcome → Type 0
  Asked us false u w z = FillsBy owner says n u us [] w z
  Asked us true u w z =
      Choice (GivesAnswers says n (true ∷ [])) (GivesAnswers says n (false ∷ [])) (Ends u (us, true ∷ [], Err (Paused Due))) (FillsBy owner says n u us (false ∷ [])) w z

  abbrev WorkedRest : PortValue → Worksheet → PortValue → Outcome → Type 0
  WorkedRest u (us, Err stop) w z = Ends u (us, [], Err stop) w z
  WorkedRest u (us, Ok done) w z = Asked us (done && is_asked us) u w z

  abbrev WorkedView : PortValue → TableWork → PortValue → Outcome → Type 0
  WorkedView v t w z = Chain (Took owner v (t ∷ [])) WorkedRest w z

  filled_asked : (us : List TableWork) (c : Bool) (u w : PortValue) (z : Outcome) → FillsBy owner says n u us (if c then false ∷ [] else []) w z → Asked us c u w z
  filled_asked us false u w z p = p
  filled_asked us true u w z p = right (given_before owner says n u us (false ∷ []) w z.0 z.1 z.2 p.0 p.1) p

  worked_view : (v : PortValue) (t : TableWork) (w : PortValue) (us : List TableWork) (bs : List Bool) (r : Result (Unit {0}) Stop) → Worked owner v t w us bs r → GivesAnswers says n bs → IsEnd us r → WorkedView v t w (us, bs, r)
  worked_view v t _ _ _ _ (ways.cut_off w us stop p) g e = record { at = w; answer = (us, Err stop); first = p; rest = (refl, refl) }
  worked_view v t _ _ _ _ (ways.due w us p is) g e = record { at = w; answer = (us, Ok true); first = p; rest = subst (λ c. Asked us c w w (us, true ∷ [], Err (Paused Due))) (sym is) (left g (refl, refl)) }
  worked_view v t _ _ _ _ (ways.filled u w us xs done bs r p f) g e = record { at = u; answer = (us, Ok done); first = p; rest = filled_asked us (done && is_asked us) u w (xs, bs, r) (f, g, e) }

  asked_fixed : (us : List TableWork) (c : Bool) (u : PortValue) → IsFixed u (Asked us c u)
  asked_fixed us false u = filled_fixed owner says n u us []
  asked_fixed us true u = fixed_choice (λ g h. given_once says n [] g h) (λ g. fixed_ends u (us, true ∷ [], Err (Paused Due))) (λ h. filled_fixed owner says n u us (false ∷ []))

  worked_rest_fixed : (u : PortValue) (z : Worksheet) → IsFixed u (WorkedRest u z)
  worked_rest_fixed u (us, Err stop) = fixed_ends u (us, [], Err stop)
  worked_rest_fixed u (us, Ok done) = asked_fixed us (done && is_asked us) u

  abbrev pub WorksBy : PortValue → TableWork → PortValue → Outcome → Type 0
  WorksBy v t w z = Worked owner v t w z.0 z.1 z.2 × GivesAnswers says n z.1 × IsEnd z.0 z.2

  pub worked_fixed : (v : PortValue) (t : TableWork) → IsFixed v (WorksBy v t)
  worked_fixed v t = fixed_by (λ w z p. worked_view v t w z.0 z.1 z.2 p.0 p.1 p.2) (fixed_then (took_fixed owner v (t ∷ [])) (λ u z p. worked_rest_fixed u z))

-- ---- the whole: with a reference, the type, and the work where the frame came into work
module _ (f owner level : ℕ) (says : ℕ → Bool) (n : ℕ) where
  abbrev Answered : Type 0
  Answered = List Bool × Result ℕ Stop

  -- all tables in work are left; or the only one is made live
  abbrev EndRest : PortValue → Outcome → PortValue → Answered → Type 0
  EndRest y (us, bs, Err stop) w z = (z ≡ (bs, Err stop)) × Unwound y owner us (keeps_it stop) w
  EndRest y ([], bs, Ok done) w z = ⊥
  EndRest y (t ∷ [], bs, Ok done) w z = (z ≡ (bs, Ok f)) × MadeLive y w t
  EndRest y (t ∷ u ∷ us, bs, Ok done) w z = ⊥

  abbrev TypeRest : PortValue → Result Taken Stop → PortValue → Answered → Type 0
  TypeRest x (Ok types.Counted) w z = Ends x ([], Ok f) w z
  TypeRest x (Ok (types.InWork progress own)) w z = Chain (WorksBy owner says n x (outermost_table f level progress own)) EndRest w z
  TypeRest x (Ok (types.Waiting own stamp stop)) w z = (z ≡ ([], Err stop)) × WaitingLeft x w f level owner stamp own (keeps_it stop)
  TypeRest x (Err stop) w z = (z ≡ ([], Err stop)) × GaveRef x w f

  abbrev RefRest : PortValue → Option Stop → PortValue → Answered → Type 0
  RefRest u None w z = Chain (λ x a. TookType u x f owner level a) TypeRest w z
  RefRest u (Some stop) w z = Ends u ([], Err stop) w z

  abbrev AcquiredView : PortValue → PortValue → Answered → Type 0
  AcquiredView v w z = Chain (λ u o. GotRef v u f owner (ref_answer f o)) RefRest w z

  typed_view : (v u x w : PortValue) (a : Result Taken Stop) (z : Answered) → GotRef v u f owner (Ok f) → TookType u x f owner level a → TypeRest x a w z → AcquiredView v w z
  typed_view v u x w a z g t rest = record { at = u; answer = None; first = g; rest = record { at = x; answer = a; first = t; rest = rest } }

  acquired_view : (v w : PortValue) (bs : List Bool) (r : Result ℕ Stop) → Acquired v f owner level w bs r → GivesAnswers says n bs → AcquiredView v w (bs, r)
  acquired_view v _ _ _ (ways.unreferred w stop g) given = record { at = w; answer = Some stop; first = g; rest = (refl, refl) }
  acquired_view v _ _ _ (ways.untyped u x w stop g t p) given = typed_view v u x w (Err stop) ([], Err stop) g t (refl, p)
  acquired_view v _ _ _ (ways.counted u w g t) given = typed_view v u w w (Ok types.Counted) ([], Ok f) g t (refl, refl)
  acquired_view v _ _ _ (ways.waiting u x w own stamp stop g t l) given = typed_view v u x w (Ok (types.Waiting own stamp stop)) ([], Err stop) g t (refl, l)
  acquired_view v _ _ _ (ways.unfinished u x y w progress own us bs stop g t k l) given =
      typed_view v u x w (Ok (types.InWork progress own)) (bs, Err stop) g t (record { at = y; answer = (us, bs, Err stop); first = (k, given, tt); rest = (refl, l) })
  acquired_view v _ _ _ (ways.finished u x y w progress own o bs g t k full m) given =
      typed_view v u x w (Ok (types.InWork progress own)) (bs, Ok f) g t (record { at = y; answer = (o ∷ [], bs, Ok tt); first = (k, given, full); rest = (refl, m) })

  end_fixed : (y : PortValue) (z : Outcome) → IsFixed y (EndRest y z)
  end_fixed y (us, bs, Err stop) = fixed_sure (bs, Err stop) (unwound_sure y owner us (keeps_it stop))
  end_fixed y ([], bs, Ok done) = fixed_never y (λ w z p. p)
  end_fixed y (t ∷ [], bs, Ok done) = fixed_sure (bs, Ok f) (live_sure y t)
  end_fixed y (t ∷ u ∷ us, bs, Ok done) = fixed_never y (λ w z p. p)

  type_rest_fixed : (x : PortValue) (a : Result Taken Stop) → IsFixed x (TypeRest x a)
  type_rest_fixed x (Ok types.Counted) = fixed_ends x ([], Ok f)
  type_rest_fixed x (Ok (types.InWork progress own)) = fixed_then (worked_fixed owner says n x (outermost_table f level progress own)) (λ y z p. end_fixed y z)
  type_rest_fixed x (Ok (types.Waiting own stamp stop)) = fixed_sure ([], Err stop) (waiting_sure x f level owner stamp own (keeps_it stop))
  type_rest_fixed x (Err stop) = fixed_sure ([], Err stop) (gave_sure x f)

  ref_rest_fixed : (u : PortValue) (o : Option Stop) → IsFixed u (RefRest u o)
  ref_rest_fixed u None = fixed_then (type_fixed u f owner level) (λ x a p. type_rest_fixed x a)
  ref_rest_fixed u (Some stop) = fixed_ends u ([], Err stop)

  pub acquired_fixed : (v : PortValue) → IsFixed v (λ w (z : Answered). Acquired v f owner level w z.0 z.1 × GivesAnswers says n z.0)
  acquired_fixed v = fixed_by (λ w z p. acquired_view v w z.0 z.1 p.0 p.1) (fixed_then (got_fixed v f owner) (λ u o p. ref_rest_fixed u o))

-- ---- where it goes, whatever the gate
pub acquired_came : {v w : PortValue} {f owner level : ℕ} {answers : List Bool} {a : Result ℕ Stop} → Acquired v f owner level w answers a → Came v w
acquired_came {v} {w} {f} {owner} {level} {answers} {a} p = by w answers a p
  where
    typed_came : (u x w : PortValue) (b : Result Taken Stop) → GotRef v u f owner (Ok f) → TookType u x f owner level b → Came x w → Came v w
    typed_came u x w b g t rest = came_trans v u w ((got_fixed v f owner).came u None g) (came_trans u x w ((type_fixed u f owner level).came x b t) rest)

    by : (w : PortValue) (bs : List Bool) (r : Result ℕ Stop) → Acquired v f owner level w bs r → Came v w
    by _ _ _ (ways.unreferred w stop g) = (got_fixed v f owner).came w (Some stop) g
    by _ _ _ (ways.untyped u x w stop g t p) = typed_came u x w (Err stop) g t ((gave_sure x f).came w tt p)
    by _ _ _ (ways.counted u w g t) = typed_came u w w (Ok types.Counted) g t (came_self w)
    by _ _ _ (ways.waiting u x w own stamp stop g t l) = typed_came u x w (Ok (types.Waiting own stamp stop)) g t ((waiting_sure x f level owner stamp own (keeps_it stop)).came w tt l)
    by _ _ _ (ways.unfinished u x y w progress own us bs stop g t k l) =
        typed_came u x w (Ok (types.InWork progress own)) g t (came_trans x y w (worked_came owner x (outermost_table f level progress own) y us bs (Err stop) k) ((unwound_sure y owner us (keeps_it stop)).came w tt l))
    by _ _ _ (ways.finished u x y w progress own o bs g t k full m) =
        typed_came u x w (Ok (types.InWork progress own)) g t (came_trans x y w (worked_came owner x (outermost_table f level progress own) y (o ∷ []) bs (Ok tt) k) ((live_sure y o).came w tt m))

pub acquired_alike : {v w x : PortValue} {f owner level : ℕ} {answers others : List Bool} {a b : Result ℕ Stop} (says : ℕ → Bool) (n : ℕ) → GivesAnswers says n answers → GivesAnswers says n others →
    Acquired v f owner level w answers a → Acquired v f owner level x others b → Alike v w x ((answers ≡ others) × (a ≡ b))
acquired_alike {v} {w} {x} {f} {owner} {level} {answers} {others} {a} {b} says n give also p q =
    alike_map ((acquired_fixed f owner level says n v).alike w x (answers, a) (others, b) (p, give) (q, also))
    (λ e. (ap (λ (z : List Bool × Result ℕ Stop). z.0) e, ap (λ (z : List Bool × Result ℕ Stop). z.1) e))
