-- The calls of a multicall, one behind the other, are determined.
use Rattle.std.proofs.Common.{◌≡◌, ◌≤◌, ◌<◌, ℕ, ◌+◌, Bool, List, [], ◌∷◌, ◌++◌, length, slice_get, Option, Some, None, Result, Ok, Err, refl, sym, ap, ◌∙◌, subst, inl, inr}
use native.Mathlib.Omega.{arith}
use Rattle.std.proofs.lemmas.Option.{slice_get_past}
use Rattle.xp_words.specs.declared.ops.Call.{Call}
use Rattle.xp_words.specs.declared.reply.LogLine.{LogLine}
use Rattle.xp_words.specs.declared.reply.Refusal.TheVariants as refusals
use Rattle.xp_words.specs.declared.reply.Stop.{Stop}
use Rattle.xp_words.specs.declared.reply.Stop.TheVariants.{Refused}
use Rattle.xp_board.specs.Told.{PortValue}
use Rattle.step_maker.specs.Moves.{Came}
use Rattle.step_maker.proofs.Coming.{came_self}
use Rattle.xp_preempt.specs.Gates.{GivesAnswers, asks_on}
use Rattle.vcpu_turn.specs.Calls.{AnsweredCalls, AnswersCall, WorksCalls}
use Rattle.vcpu_turn.specs.declared.cpu.Progress.{Progress}
use Rattle.determined_laws.specs.Courses.{Alike}
use Rattle.determined_laws.proofs.Courses.{Goes, alike_map, alike_same, goes_came, goes_same, more, none}
use Rattle.determined_calls.proofs.Asking.{gives_first, gives_more}
use Rattle.determined_turns.proofs.Calling.{call_alike, call_came}
use Rattle.determined_turns.proofs.Lists.{Answer}

-- how far a multicall is
record State : Type 0 where
  at : Progress
  port : PortValue
  log : List LogLine
  answers : List Bool
  ended : Option Answer

abbrev state : Progress → PortValue → List LogLine → List Bool → Option Answer → State
state at u log answers ended = record { at = at; port = u; log = log; answers = answers; ended = ended }

module _ (says : ℕ → Bool) (n d : ℕ) (calls : List Call) (op : ℕ) where
  -- behind a call that ended so
  abbrev ended_by : Answer → Option Answer
  ended_by (Ok done) = None
  ended_by (Err e) = Some (Err e)

  data Next (s t : State) : Type 0 where
    tried : (call : Call) (to : Progress) (w : PortValue) (behind : List LogLine) (asked : List Bool) (a : Answer) → s.ended ≡ None → slice_get calls s.at.call ≡ Some call → AnswersCall d call op s.port s.at s.log to w behind asked a →
        GivesAnswers says n (asked ++ s.answers) → t ≡ state to w behind (asked ++ s.answers) (ended_by a) → Next s t
    all : s.ended ≡ None → length calls ≤ s.at.call → t ≡ state (record s.at { done = s.at.call }) s.port s.log s.answers (Some (Ok tt)) → Next s t

  next_came : (s t : State) → Next s t → Came s.port t.port
  next_came s t (tried call to w behind asked a on is p g at) =
      subst (λ (z : State). Came s.port z.port) (sym at) (call_came says d call op s.at s.log (asks_on (length s.answers) n) s.port to w behind asked a (gives_more says n asked s.answers g) p)
  next_came s t (all on far at) = subst (λ (z : State). Came s.port z.port) (sym at) (came_self s.port)

  one_call : (c e : Call) (o : Option Call) → o ≡ Some c → o ≡ Some e → c ≡ e
  one_call c e o p q = let t : ◌≡◌ {A = Option Call} (Some c) (Some e) = sym p ∙ q in cc

  -- a call that is there is within the list
  within : (xs : List Call) (k : ℕ) (c : Call) → slice_get xs k ≡ Some c → length xs ≤ k → ⊥
  within xs k c is far = let e = slice_get_past xs k far in (let t : ◌≡◌ {A = Option Call} None (Some c) = sym e ∙ is in cc)

  next_alike : (s t u : State) → Next s t → Next s u → Alike s.port t.port u.port (t ≡ u)
  next_alike s t u (tried call to w behind asked a on is p g at) (tried other by x late others b off also q h there) =
      subst (λ (z : State). Alike s.port z.port u.port (t ≡ u)) (sym at) (subst (λ (z : State). Alike s.port w z.port (t ≡ u)) (sym there) (by_ports both))
    where
      both : Alike s.port w x ((to ≡ by) × (behind ≡ late) × (asked ≡ others) × (a ≡ b))
      both =
          call_alike says d call op s.at s.log (asks_on (length s.answers) n) s.port to by w x behind late asked others a b (gives_more says n asked s.answers g) (gives_more says n others s.answers h) p
          (subst (λ z. AnswersCall d z op s.port s.at s.log by x late others b) (sym (one_call call other (slice_get calls s.at.call) is also)) q)

      same : w ≡ x → to ≡ by → behind ≡ late → asked ≡ others → a ≡ b → state to w behind (asked ++ s.answers) (ended_by a) ≡ state by x late (others ++ s.answers) (ended_by b)
      same k e f i j =
          ap (λ z. state z w behind (asked ++ s.answers) (ended_by a)) e ∙ (ap (λ z. state by z behind (asked ++ s.answers) (ended_by a)) k
          ∙ (ap (λ z. state by x z (asked ++ s.answers) (ended_by a)) f ∙ (ap (λ z. state by x late (z ++ s.answers) (ended_by a)) i ∙ ap (λ z. state by x late (others ++ s.answers) (ended_by z)) j)))

      by_ports : Alike s.port w x ((to ≡ by) × (behind ≡ late) × (asked ≡ others) × (a ≡ b)) → Alike s.port w x (t ≡ u)
      by_ports (inl f) = inl f
      by_ports (inr e) = inr (e.0, at ∙ (same e.0 e.1.0 e.1.1 e.1.2 e.1.3 ∙ sym there))
  next_alike s t u (tried call to w behind asked a on is p g at) (all off far there) = absurd (within calls s.at.call call is far)
  next_alike s t u (all off far there) (tried call to w behind asked a on is p g at) = absurd (within calls s.at.call call is far)
  next_alike s t u (all on far at) (all off out there) = alike_same (ap (λ (z : State). z.port) (at ∙ sym there)) (at ∙ sym there)

  none_next : (s t : State) (a : Answer) → s.ended ≡ Some a → Next s t → ⊥
  none_next s t a end (tried call to w behind asked b on is p g at) = let e = sym end ∙ on in cc
  none_next s t a end (all on far at) = let e = sym end ∙ on in cc

  module _ (v : PortValue) (from : Progress) (log : List LogLine) where
    first : State
    first = state from v log [] None

    from_answered : (at : Progress) (u : PortValue) (behind : List LogLine) (answers : List Bool) → GivesAnswers says n answers → AnsweredCalls d calls op v from log at u behind answers → Goes Next first (state at u behind answers None)
    unfolding first
    from_answered _ _ _ _ g AnsweredCalls.none = none
    from_answered _ _ _ _ g (AnsweredCalls.more at to u w call before behind answers asked did is next) =
        more (state at u before answers None) _ (from_answered at u before answers (gives_first says n asked answers g) did) (tried call to w behind asked (Ok tt) refl is next g refl)

    -- a list that is no longer than it may be
    from_calls : (to : Progress) (w : PortValue) (behind : List LogLine) (answers : List Bool) (a : Answer) → length calls ≤ 64 → GivesAnswers says n answers → WorksCalls d calls op v from log to w behind answers a → Goes Next first (state to w behind answers (Some a))
    unfolding first
    from_calls _ _ _ _ _ few g (WorksCalls.long above) = absurd (omega (arith, few, above))
    from_calls _ _ _ _ _ few g (WorksCalls.all_answered at w behind answers low did far) = more (state at w behind answers None) _ (from_answered at w behind answers g did) (all refl far refl)
    from_calls _ _ _ _ _ few g (WorksCalls.stopped at to u w call before behind answers asked stop low did is next) =
        more (state at u before answers None) _ (from_answered at u before answers (gives_first says n asked answers g) did) (tried call to w behind asked (Err stop) refl is next g refl)

    abbrev Ends : (to by : Progress) (one two : List LogLine) (answers others : List Bool) (a b : Answer) → Type 0
    Ends to by one two answers others a b = (to ≡ by) × (one ≡ two) × (answers ≡ others) × (a ≡ b)

    calls_by : (to by : Progress) (w x : PortValue) (behind late : List LogLine) (answers others : List Bool) (a b : Answer) → length calls ≤ 64 → GivesAnswers says n answers → GivesAnswers says n others → WorksCalls d calls op v from log to w behind answers a →
        WorksCalls d calls op v from log by x late others b → Alike v w x (Ends to by behind late answers others a b)
    unfolding first
    calls_by to by w x behind late answers others a b few g h p q =
        alike_map
        (goes_same Next (λ s. s.port) next_came next_alike first (state to w behind answers (Some a)) (state by x late others (Some b)) (λ k step. none_next _ k a refl step) (λ k step. none_next _ k b refl step)
        (from_calls to w behind answers a few g p) (from_calls by x late others b few h q))
        (λ e. (ap (λ (s : State). s.at) e, ap (λ (s : State). s.log) e, ap (λ (s : State). s.answers) e, same_answer (ap (λ (s : State). s.ended) e)))
      where
        same_answer : ◌≡◌ {A = Option Answer} (Some a) (Some b) → a ≡ b
        same_answer e = cc

    pub calls_came : (to : Progress) (w : PortValue) (behind : List LogLine) (answers : List Bool) (a : Answer) → GivesAnswers says n answers → WorksCalls d calls op v from log to w behind answers a → Came v w
    unfolding first
    calls_came _ _ _ _ _ g (WorksCalls.long above) = came_self v
    calls_came _ _ _ _ _ g (WorksCalls.all_answered at w behind answers low did far) =
        goes_came Next (λ s. s.port) next_came next_alike first _ (from_calls _ w behind answers (Ok tt) low g (WorksCalls.all_answered at w behind answers low did far))
    calls_came _ _ _ _ _ g (WorksCalls.stopped at to u w call before behind answers asked stop low did is next) =
        goes_came Next (λ s. s.port) next_came next_alike first _ (from_calls to w behind (asked ++ answers) (Err stop) low g (WorksCalls.stopped at to u w call before behind answers asked stop low did is next))

    pub calls_alike : (to by : Progress) (w x : PortValue) (behind late : List LogLine) (answers others : List Bool) (a b : Answer) → GivesAnswers says n answers → GivesAnswers says n others → WorksCalls d calls op v from log to w behind answers a →
        WorksCalls d calls op v from log by x late others b → Alike v w x (Ends to by behind late answers others a b)
    calls_alike _ _ _ _ _ _ _ _ _ _ g h (WorksCalls.long above) (WorksCalls.long over) = alike_same refl (refl, refl, refl, refl)
    calls_alike _ _ _ _ _ _ _ _ _ _ g h (WorksCalls.long above) (WorksCalls.all_answered at w behind answers low did far) = absurd (omega (arith, above, low))
    calls_alike _ _ _ _ _ _ _ _ _ _ g h (WorksCalls.long above) (WorksCalls.stopped at to u w call before behind answers asked stop low did is next) = absurd (omega (arith, above, low))
    calls_alike _ by _ x _ late _ others _ b g h (WorksCalls.all_answered at w behind answers low did far) q = calls_by _ by w x behind late answers others (Ok tt) b low g h (WorksCalls.all_answered at w behind answers low did far) q
    calls_alike _ by _ x _ late _ others _ b g h (WorksCalls.stopped at to u w call before behind answers asked stop low did is next) q =
        calls_by to by w x behind late (asked ++ answers) others (Err stop) b low g h (WorksCalls.stopped at to u w call before behind answers asked stop low did is next) q
