-- A list of items, each determined, is determined: which of them a turn does, how it ends, and what its gate answers.
use Rattle.std.proofs.Common.{◌≡◌, ◌⊎◌, ◌<◌, ◌≤◌, ℕ, ◌+◌, Bool, true, false, if◌then◌else◌, List, [], ◌∷◌, ◌++◌, length, Option, Some, None, Result, Ok, Err, refl, sym, ap, ◌∙◌, subst, inl, inr}
use native.Mathlib.Omega.{arith}
use Rattle.xp_words.specs.declared.reply.Pause.TheVariants.{Due}
use Rattle.xp_words.specs.declared.reply.Stop.{Stop}
use Rattle.xp_words.specs.declared.reply.Stop.TheVariants.{Paused}
use Rattle.xp_board.specs.Told.{PortValue}
use Rattle.step_maker.specs.Moves.{Came}
use Rattle.step_maker.proofs.Coming.{came_self}
use Rattle.xp_preempt.specs.Gates.{GivesAnswers, answer_at, asks_on}
use Rattle.vcpu_turn.specs.Lists.{DidItems, Fitting, WorksOn}
use Rattle.determined_laws.specs.Courses.{Alike}
use Rattle.determined_laws.proofs.Courses.{Goes, alike_map, alike_same, goes_came, goes_same, more, none}
use Rattle.determined_calls.proofs.Asking.{gives_first, gives_more}

-- an answer is the gate's
abbrev pub Answer : Type 0
Answer = Result (Unit {0}) Stop

-- two answers of one gate behind the same answers are one
pub one_answer : (says : ℕ → Bool) (n : ℕ) (a b : Bool) (first : List Bool) → GivesAnswers says n (a ∷ first) → GivesAnswers says n (b ∷ first) → a ≡ b
unfolding GivesAnswers
one_answer says n a b first p q = p.0 ∙ sym q.0

-- how far a list is, and what its items told
record State (O : Type 0) : Type 0 where
  at : ℕ
  port : PortValue
  answers : List Bool
  ended : Option Answer
  outs : List O

abbrev state : {O : Type 0} → ℕ → PortValue → List Bool → Option Answer → List O → State O
state k u answers ended outs = record { at = k; port = u; answers = answers; ended = ended; outs = outs }

-- `seen`: what an item tells beside its answer
module _ (fits : Fitting) (count : ℕ) (O : Type 0) (seen : (k : ℕ) (u w : PortValue) (asked : List Bool) (a : Answer) → fits k u w asked a → O) where
  abbrev pub outs_did : (from : ℕ) (v : PortValue) (k : ℕ) (u : PortValue) (answers : List Bool) → DidItems fits count from v k u answers → List O
  outs_did from v _ _ _ DidItems.none = []
  outs_did from v _ _ _ (DidItems.more k u w answers asked did fit less) = seen k u w asked (Ok tt) fit ∷ outs_did from v k u answers did

  abbrev pub outs_on : (from : ℕ) (v : PortValue) (to : ℕ) (w : PortValue) (answers : List Bool) (a : Answer) → WorksOn fits count from v to w answers a → List O
  outs_on from v _ _ _ _ (WorksOn.all_done at) = []
  outs_on from v _ _ _ _ (WorksOn.last_done k u w answers asked did fit at) = seen k u w asked (Ok tt) fit ∷ outs_did from v k u answers did
  outs_on from v _ _ _ _ (WorksOn.due k u w answers asked did fit less) = seen k u w asked (Ok tt) fit ∷ outs_did from v k u answers did
  outs_on from v _ _ _ _ (WorksOn.stopped k u w answers asked e did fit less) = seen k u w asked (Err e) fit ∷ outs_did from v k u answers did

module _ (fits : Fitting) (count : ℕ) (O : Type 0) (seen : (k : ℕ) (u w : PortValue) (asked : List Bool) (a : Answer) → fits k u w asked a → O) (says : ℕ → Bool) (n : ℕ)
    (came : (k : ℕ) (u w : PortValue) (asked : List Bool) (a : Answer) → fits k u w asked a → Came u w)
    (alike : (k : ℕ) (u w x : PortValue) (asked others : List Bool) (a b : Answer) (m : ℕ) → GivesAnswers says m asked → GivesAnswers says m others → (p : fits k u w asked a) → (q : fits k u x others b) →
    Alike u w x ((asked ≡ others) × (a ≡ b) × (seen k u w asked a p ≡ seen k u x others b q)))
  where
    -- behind an item that ended so, and told that
    data Behind (s : State O) (w : PortValue) (asked : List Bool) (o : O) (t : State O) : Answer → Type 0 where
      stopped : (e : Stop) → t ≡ state s.at w (asked ++ s.answers) (Some (Err e)) (o ∷ s.outs) → Behind s w asked o t (Err e)
      last : s.at + 1 ≡ count → t ≡ state (s.at + 1) w (asked ++ s.answers) (Some (Ok tt)) (o ∷ s.outs) → Behind s w asked o t (Ok tt)
      due : s.at + 1 < count → GivesAnswers says n (true ∷ (asked ++ s.answers)) → t ≡ state (s.at + 1) w (true ∷ (asked ++ s.answers)) (Some (Err (Paused Due))) (o ∷ s.outs) → Behind s w asked o t (Ok tt)
      goes : s.at + 1 < count → GivesAnswers says n (false ∷ (asked ++ s.answers)) → t ≡ state (s.at + 1) w (false ∷ (asked ++ s.answers)) None (o ∷ s.outs) → Behind s w asked o t (Ok tt)

    data Next (s t : State O) : Type 0 where
      tried : (w : PortValue) (asked : List Bool) (a : Answer) → s.ended ≡ None → (fit : fits s.at s.port w asked a) → s.at < count → GivesAnswers says n (asked ++ s.answers) → Behind s w asked (seen s.at s.port w asked a fit) t a → Next s t
      ends : s.ended ≡ None → s.at ≡ count → t ≡ state s.at s.port s.answers (Some (Ok tt)) s.outs → Next s t

    at_port : (s t : State O) (w : PortValue) (asked : List Bool) (o : O) (a : Answer) → Behind s w asked o t a → t.port ≡ w
    at_port s t w asked o _ (stopped e is) = ap (λ (k : State O). k.port) is
    at_port s t w asked o _ (last at is) = ap (λ (k : State O). k.port) is
    at_port s t w asked o _ (due less g is) = ap (λ (k : State O). k.port) is
    at_port s t w asked o _ (goes less g is) = ap (λ (k : State O). k.port) is

    next_came : (s t : State O) → Next s t → Came s.port t.port
    next_came s t (tried w asked a on fit less g rest) = subst (λ z. Came s.port z) (sym (at_port s t w asked _ a rest)) (came s.at s.port w asked a fit)
    next_came s t (ends on at is) = subst (λ (z : State O). Came s.port z.port) (sym is) (came_self s.port)

    -- one end of an item that was had so
    one_end : (s t u : State O) (w : PortValue) (asked : List Bool) (o : O) (a : Answer) → Behind s w asked o t a → Behind s w asked o u a → t ≡ u
    one_end s t u w asked o _ (stopped e is) (stopped _ also) = is ∙ sym also
    one_end s t u w asked o _ (last at is) (last there also) = is ∙ sym also
    one_end s t u w asked o _ (last at is) (due less g also) = absurd (omega (arith, at, less))
    one_end s t u w asked o _ (last at is) (goes less g also) = absurd (omega (arith, at, less))
    one_end s t u w asked o _ (due less g is) (last at also) = absurd (omega (arith, at, less))
    one_end s t u w asked o _ (due less g is) (due low h also) = is ∙ sym also
    one_end s t u w asked o _ (due less g is) (goes low h also) = absurd (let e = one_answer says n true false (asked ++ s.answers) g h in cc)
    one_end s t u w asked o _ (goes less g is) (last at also) = absurd (omega (arith, at, less))
    one_end s t u w asked o _ (goes less g is) (due low h also) = absurd (let e = one_answer says n true false (asked ++ s.answers) h g in cc)
    one_end s t u w asked o _ (goes less g is) (goes low h also) = is ∙ sym also

    next_alike : (s t u : State O) → Next s t → Next s u → Alike s.port t.port u.port (t ≡ u)
    next_alike s t u (tried w asked a on fit less g rest) (tried x others b off suit low h next) =
        subst (λ z. Alike s.port z u.port (t ≡ u)) (sym (at_port s t w asked _ a rest)) (subst (λ z. Alike s.port w z (t ≡ u)) (sym (at_port s u x others _ b next)) (by both))
      where
        mine : O
        mine = seen s.at s.port w asked a fit

        yours : O
        yours = seen s.at s.port x others b suit

        both : Alike s.port w x ((asked ≡ others) × (a ≡ b) × (mine ≡ yours))
        both = alike s.at s.port w x asked others a b (asks_on (length s.answers) n) (gives_more says n asked s.answers g) (gives_more says n others s.answers h) fit suit

        by : Alike s.port w x ((asked ≡ others) × (a ≡ b) × (mine ≡ yours)) → Alike s.port w x (t ≡ u)
        by (inl f) = inl f
        by (inr e) =
            inr (
              e.0,
              one_end s t u w asked mine a rest
                  (subst (λ z. Behind s z asked mine u a) (sym e.0) (subst (λ z. Behind s x z mine u a) (sym e.1.0) (subst (λ z. Behind s x others mine u z) (sym e.1.1) (subst (λ z. Behind s x others z u b) (sym e.1.2) next)))),
            )
    next_alike s t u (tried w asked a on fit less g rest) (ends off at is) = absurd (omega (arith, less, at))
    next_alike s t u (ends off at is) (tried w asked a on fit less g rest) = absurd (omega (arith, less, at))
    next_alike s t u (ends on at is) (ends off there also) = alike_same (ap (λ (z : State O). z.port) (is ∙ sym also)) (is ∙ sym also)

    none_next : (s t : State O) (a : Answer) → s.ended ≡ Some a → Next s t → ⊥
    none_next s t a end (tried w asked b on fit less g rest) = let e = sym end ∙ on in cc
    none_next s t a end (ends on at is) = let e = sym end ∙ on in cc

    -- ---- lists as such loops
    abbrev Did : (from : ℕ) (v : PortValue) (k : ℕ) (u : PortValue) (answers : List Bool) → DidItems fits count from v k u answers → List O
    Did from v k u answers did = outs_did fits count O seen from v k u answers did

    abbrev pub On : (from : ℕ) (v : PortValue) (to : ℕ) (w : PortValue) (answers : List Bool) (a : Answer) → WorksOn fits count from v to w answers a → List O
    On from v to w answers a works = outs_on fits count O seen from v to w answers a works

    from_did : (from : ℕ) (v : PortValue) (k : ℕ) (u : PortValue) (answers : List Bool) → GivesAnswers says n answers → (did : DidItems fits count from v k u answers) → Goes Next (state from v [] None []) (state k u answers None (Did from v k u answers did))
    from_did from v _ _ _ g DidItems.none = none
    from_did from v _ _ _ g (DidItems.more k u w answers asked did fit less) =
        more (state k u answers None (Did from v k u answers did)) _ (from_did from v k u answers (gives_first says n (false ∷ asked) answers g) did)
        (tried w asked (Ok tt) refl fit (omega (arith, less)) (gives_first says n (false ∷ []) (asked ++ answers) g) (goes less g refl))

    from_works : (from : ℕ) (v : PortValue) (to : ℕ) (w : PortValue) (answers : List Bool) (a : Answer) → GivesAnswers says n answers → (works : WorksOn fits count from v to w answers a) →
        Goes Next (state from v [] None []) (state to w answers (Some a) (On from v to w answers a works))
    from_works from v _ _ _ _ g (WorksOn.all_done at) = more (state from v [] None []) _ none (ends refl at refl)
    from_works from v _ _ _ _ g (WorksOn.last_done k u w answers asked did fit at) =
        more (state k u answers None (Did from v k u answers did)) _ (from_did from v k u answers (gives_first says n asked answers g) did) (tried w asked (Ok tt) refl fit (omega (arith, at)) g (last at refl))
    from_works from v _ _ _ _ g (WorksOn.due k u w answers asked did fit less) =
        more (state k u answers None (Did from v k u answers did)) _ (from_did from v k u answers (gives_first says n (true ∷ asked) answers g) did)
        (tried w asked (Ok tt) refl fit (omega (arith, less)) (gives_first says n (true ∷ []) (asked ++ answers) g) (due less g refl))
    from_works from v _ _ _ _ g (WorksOn.stopped k u w answers asked e did fit less) =
        more (state k u answers None (Did from v k u answers did)) _ (from_did from v k u answers (gives_first says n asked answers g) did) (tried w asked (Err e) refl fit less g (stopped e refl))

    pub works_on_came : (from to : ℕ) (v w : PortValue) (answers : List Bool) (a : Answer) → GivesAnswers says n answers → WorksOn fits count from v to w answers a → Came v w
    works_on_came from to v w answers a g p = goes_came Next (λ s. s.port) next_came next_alike (state from v [] None []) (state to w answers (Some a) (On from v to w answers a p)) (from_works from v to w answers a g p)

    pub works_on_alike : (from to other : ℕ) (v w x : PortValue) (answers others : List Bool) (a b : Answer) → GivesAnswers says n answers → GivesAnswers says n others → (p : WorksOn fits count from v to w answers a) →
        (q : WorksOn fits count from v other x others b) → Alike v w x ((to ≡ other) × (answers ≡ others) × (a ≡ b) × (On from v to w answers a p ≡ On from v other x others b q))
    works_on_alike from to other v w x answers others a b g h p q =
        alike_map
        (goes_same Next (λ s. s.port) next_came next_alike (state from v [] None []) (state to w answers (Some a) (On from v to w answers a p)) (state other x others (Some b) (On from v other x others b q)) (λ k step. none_next _ k a refl step)
        (λ k step. none_next _ k b refl step) (from_works from v to w answers a g p) (from_works from v other x others b h q))
        (λ e. (ap (λ (s : State O). s.at) e, ap (λ (s : State O). s.answers) e, same_answer (ap (λ (s : State O). s.ended) e), ap (λ (s : State O). s.outs) e))
      where
        same_answer : ◌≡◌ {A = Option Answer} (Some a) (Some b) → a ≡ b
        same_answer e = cc
