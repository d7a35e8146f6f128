-- The calls of `mmu_update` in a multicall: behind what is settled in front of one, its elements ask nothing, but for those that take or give back a table.
use Rattle.std.proofs.Common.{◌≡◌, ℕ, ◌+◌, ◌<◌, ◌≤◌, ◌++◌, ◌∷◌, ◌⊎◌, Bool, true, List, [], Any, length, slice_get, Option, Some, None, Result, Ok, Err, refl, sym, ap, ◌∙◌, inl, inr, arith, subst}
use Rattle.std.proofs.lemmas.List.Elements.{All-nil}
use Rattle.xp_words.specs.Places.{sizes_of}
use Rattle.xp_words.specs.declared.ops.Pair.{Pair}
use Rattle.xp_words.specs.declared.place.Place.{Place}
use Rattle.xp_words.specs.declared.place.Place.TheVariants.{Vcpu}
use Rattle.xp_words.specs.declared.reply.Stop.{Stop}
use Rattle.xp_board.specs.declared.holdings.Holdings.{Holdings}
use Rattle.xp_board.specs.declared.step.Act.{Act}
use Rattle.xp_board.specs.declared.step.Mark.{Mark}
use Rattle.xp_board.specs.declared.step.StepKind.{StepKind}
use Rattle.xp_board.specs.Steps.{last_since}
use Rattle.xp_board.specs.Told.{PortValue}
use Rattle.xp_preempt.specs.Gates.{GivesAnswers, last_ask}
use Rattle.step_maker.specs.Moves.{Came, Moment, Moves, Ran}
use Rattle.table_words.specs.declared.old_words.OldWord.{OldWord}
use Rattle.table_words.specs.declared.old_words.OldWord.TheVariants.{First, Second}
use Rattle.level_release.specs.Course as course
use Rattle.level_release.specs.Course.{Settled, SettledOne}
use Rattle.foreign_map.specs.declared.owners.Owners.{Owners}
use Rattle.vcpu_turn.specs.declared.cpu.TurnEnd.{TurnEnd}
use Rattle.vcpu_turn.specs.Asking.{AsksNothingWithin, CallGone, calls_of, elements_of}
use Rattle.vcpu_turn.specs.CallAsks.{asks_before, asks_first}
use Rattle.vcpu_turn.specs.Cpus.{OfPairs, Processing, Task, begins_at, task_in}
use Rattle.vcpu_turn.specs.Lists as lists
use Rattle.vcpu_turn.specs.Lists.{DidItems, Tried, WorksOn, asks_between}
use Rattle.vcpu_turn.specs.Pairs as owning
use Rattle.vcpu_turn.specs.Pairs.{FitsPair, MovesATable, MovesNoTable, PairFits, WorksOwned, tried_owned}
use Rattle.vcpu_turn.specs.Settling as settling
use Rattle.vcpu_turn.specs.Turning.{IsTurn, asks_for}
use Rattle.vcpu_turn.specs.Working.{Works, tried_of}
use Rattle.vcpu_turn.proofs.Bringing.{brings}
use Rattle.vcpu_turn.proofs.CallYeses.{call_stops}
use Rattle.vcpu_turn.proofs.Clearing.{Known}
use Rattle.vcpu_turn.proofs.Hindering.{owners_came}
use Rattle.vcpu_turn.proofs.PairTurns.{moves_none, operation_silent}
use Rattle.vcpu_turn.proofs.Silent.{IsClear, settled_one}
use Rattle.vcpu_turn.proofs.Trying.{hears_nothing, within_none}

-- ---- a vCPU that runs, and makes a step
record Ahead (v : PortValue) : Type 0 where
  to : PortValue
  place : Place
  act : Act
  kind : StepKind
  mark : Option Mark
  found : ℕ
  step : Moves v to place act kind mark found

ran_ahead : (v w : PortValue) (ms : List Moment) → Ran v ms w → (w ≡ v) ⊎ Ahead v
ran_ahead v w [] ran = inl ran
ran_ahead v w (m ∷ ms) ran = elim (ran_ahead v ran.0 ms ran.1) [
  | inl none ↦ inr (subst Ahead none (record { to = w; place = m.place; act = m.act; kind = m.kind; mark = m.mark; found = m.found; step = ran.2.moves }))
  | inr ahead ↦ inr ahead
]

came_ahead : (v w : PortValue) → Came v w → (w ≡ v) ⊎ Ahead v
unfolding Came
came_ahead v w came = ran_ahead v w came.0 came.1

-- its own run word was found 0
runs_known : (v : PortValue) → Ahead v → v.holdings.run ≡ Some 0 → Known 6 v
runs_known v ahead runs =
    let f = ahead.step.finds in
    let formed = (f.sound.formed v.post.vcpu f.real).own in
    sym (ap (λ (u : Holdings). last_since (sizes_of v.post.machine) 0 (Vcpu v.post.vcpu 6) u.steps) f.mine) ∙ sym formed.run ∙ ap (λ (u : Holdings). u.run) f.mine ∙ runs

-- ---- to settle what was left takes a step
one_ahead : {below : Option ℕ} → (v w : PortValue) (which : OldWord) (answers : List Bool) (answer : Result (Unit {0}) Stop) → SettledOne below v which w answers answer → Ahead v
one_ahead v _ which _ _ (course.SettledOne.none w looks) = record { to = w; place = _; act = _; kind = _; mark = _; found = _; step = looks }
one_ahead v _ which _ _ (course.SettledOne.live a b c w f word answers answer looks takes sees form released) = record { to = a; place = _; act = _; kind = _; mark = _; found = _; step = looks }
one_ahead v _ which _ _ (course.SettledOne.partial a b c d w f word answers answer looks takes sees form resumes settled) = record { to = a; place = _; act = _; kind = _; mark = _; found = _; step = looks }
one_ahead v _ which _ _ (course.SettledOne.lost a b c d w f word found looks takes sees form resumes other named) = record { to = a; place = _; act = _; kind = _; mark = _; found = _; step = looks }
one_ahead v _ which _ _ (course.SettledOne.busy a b c w f word looks takes sees off away named) = record { to = a; place = _; act = _; kind = _; mark = _; found = _; step = looks }

settled_ahead : {below : Option ℕ} → (v w : PortValue) (answers : List Bool) (answer : Result (Unit {0}) Stop) → Settled below v w answers answer → Ahead v
settled_ahead v _ _ _ (course.Settled.first w answers stop one) = one_ahead v w First answers (Err stop) one
settled_ahead v _ _ _ (course.Settled.both u w answers more answer one two) = one_ahead v u First answers (Ok tt) one

-- so an element does, and a list that is not at its end
pair_ahead : (o : Owners) (x : Option Pair) (v w : PortValue) (asked : List Bool) (answer : Result (Unit {0}) Stop) → FitsPair o x v w asked answer → Ahead v
pair_ahead o None v w asked answer fit = absurd fit
pair_ahead o (Some p) v _ _ _ (settling.SettlesFirst.unsettled w answers stop s) = settled_ahead v w answers (Err stop) s.course
pair_ahead o (Some p) v _ _ _ (settling.SettlesFirst.performed z w early answers answer s u) = settled_ahead v z early (Ok tt) s.course

module _ (pairs : List Pair) (o : Owners) {count from : ℕ} {v : PortValue} where
  did_ahead : {k : ℕ} {u : PortValue} {answers : List Bool} → DidItems (PairFits o pairs) count from v k u answers → (w : PortValue) (asked : List Bool) (answer : Result (Unit {0}) Stop) → PairFits o pairs k u w asked answer → Ahead v
  did_ahead {k} lists.DidItems.none w asked answer fit = pair_ahead o (slice_get pairs k) v w asked answer fit
  did_ahead (lists.DidItems.more k u x answers before did fit less) w asked answer last = did_ahead did x before (Ok tt) fit

  works_ahead : {to : ℕ} {w : PortValue} {answers : List Bool} {answer : Result (Unit {0}) Stop} → (works : WorksOn (PairFits o pairs) count from v to w answers answer) → (lists.tried_in works ≡ []) ⊎ Ahead v
  works_ahead (lists.WorksOn.all_done at) = inl refl
  works_ahead (lists.WorksOn.last_done k u w answers asked did fit at) = inr (did_ahead did w asked (Ok tt) fit)
  works_ahead (lists.WorksOn.due k u w answers asked did fit less) = inr (did_ahead did w asked (Ok tt) fit)
  works_ahead (lists.WorksOn.stopped k u w answers asked e did fit less) = inr (did_ahead did w asked (Err e) fit)

owned_ahead : {d named : ℕ} (list : List Pair) {from : ℕ} (v : PortValue) {to : ℕ} {w : PortValue} {answers : List Bool} {answer : Result (Unit {0}) Stop} → (works : WorksOwned d named list v from to w answers answer) → (tried_owned works ≡ []) ⊎ Ahead v
owned_ahead list v (owning.WorksOwned.long to w answers answer above whole) = inl refl
owned_ahead list v (owning.WorksOwned.none empty) = inl refl
owned_ahead list v (owning.WorksOwned.unowned w x some few finds) = inl refl
owned_ahead {d} {named} list v (owning.WorksOwned.owned to u w o answers answer some few finds on) = elim (came_ahead v u (owners_came v u d named (Ok o) finds)) [
  | inl same ↦ elim (works_ahead list o on) [
    | inl none ↦ inl none
    | inr ahead ↦ inr (subst Ahead same ahead)
  ]
  | inr ahead ↦ inr ahead
]

-- ---- a call
abbrev SilentOf : List Pair → {d : ℕ} → CallGone d → Type 0
SilentOf pairs g = AsksNothingWithin (elements_of g) ⊎ Any (λ (t : Tried). MovesATable pairs t) (elements_of g)

-- both old words name no frame behind what was settled in front of it
call_clear : {d : ℕ} (g : CallGone d) → Ahead g.before → IsClear g.before
call_clear g ahead = by g.early (Ok tt) refl g.settles.course
  where
    by : (early : List Bool) (answer : Result (Unit {0}) Stop) → answer ≡ Ok tt → Settled None g.start g.before early answer → IsClear g.before
    by _ _ ok (course.Settled.first _ answers stop one) = absurd (cc)
    by _ _ ok (course.Settled.both u _ answers more answer one two) =
        let a = settled_one g.start u First answers (Ok tt) refl one in
        let b = settled_one u g.before Second more answer ok two in
        record { first = b.others 2 (λ e. omega (arith, e)) a.clear; second = b.clear; runs = runs_known g.before ahead g.settles.rests.may.running }

module _ (foreign : ℕ) (pairs : List Pair) where
  operation_ahead : (d : ℕ) (l : Option Task) (awaited : Option ℕ) → l ≡ Some (OfPairs foreign pairs) → (v : PortValue) (from to : ℕ) (w : PortValue) (answers : List Bool) (answer : Result ℕ Stop) →
      (works : Works d l awaited v from to w answers answer) → (tried_of d l awaited v from to w answers answer works ≡ []) ⊎ Ahead v
  operation_ahead d l awaited is v from to w answers answer =
      subst (λ (o : Option Task). (works : Works d o awaited v from to w answers answer) → (tried_of d o awaited v from to w answers answer works ≡ []) ⊎ Ahead v) (sym is) (λ works. owned_ahead pairs v works.works)

  module _ {d : ℕ} (g : CallGone d) (is : task_in g.call ≡ Some (OfPairs foreign pairs)) where
    pub call_silent : SilentOf pairs g
    call_silent = elim (operation_ahead d (task_in g.call) g.from.awaited is g.before g.from.done g.to.done g.behind g.asked g.answer g.works) [
      | inl none ↦ inl (subst AsksNothingWithin (sym none) (All-nil (λ (t : Tried). t.asked ≡ [])))
      | inr ahead ↦ operation_silent foreign pairs d (task_in g.call) g.from.awaited is g.before (call_clear g ahead) g.from.done g.to.done g.behind g.asked g.answer g.works
    ]

    module _ (off : MovesNoTable pairs (elements_of g)) where
      call_quiet : AsksNothingWithin (elements_of g)
      call_quiet = moves_none pairs (elements_of g) off call_silent

      pub call_counts : length g.asked ≡ asks_between g.from.done g.to.done g.answer
      call_counts =
          let brought = brings d (task_in g.call) g.from.awaited g.before g.from.done g.to.done g.behind g.asked g.answer g.works in
          let number = brought.asks in
          let none = within_none (elements_of g) call_quiet in
          let between : asks_for (task_in g.call) g.from.done g.to.done g.answer ≡ asks_between g.from.done g.to.done g.answer = ap (λ (l : Option Task). asks_for l g.from.done g.to.done g.answer) is in
          omega (arith, number, none, between)

pub call_within : (c d : Processing) (foreign : ℕ) (pairs : List Pair) (end : TurnEnd) (v w : PortValue) (before : ℕ) (answers : List Bool) (says : ℕ → Bool) → (turn : IsTurn c d end v w answers) → GivesAnswers says before answers →
    (later earlier : List (CallGone c.domain)) (g : CallGone c.domain) → calls_of turn ≡ later ++ g ∷ earlier → task_in g.call ≡ Some (OfPairs foreign pairs) → MovesNoTable pairs (elements_of g) → (j : ℕ) → 0 < j →
    before + asks_before (asks_first turn) earlier g + j < last_ask → says (before + asks_before (asks_first turn) earlier g + j) ≡ true → g.to.done ≤ g.from.done + j
call_within c d foreign pairs end v w before answers says turn gives later earlier g at is off j some less is_yes =
    let quiet = call_quiet foreign pairs g is off in
    let none = within_none (elements_of g) quiet in
    let begins : begins_at (task_in g.call) g.from.done ≡ g.from.done = ap (λ (l : Option Task). begins_at l g.from.done) is in
    let within = (call_stops c d end v w before answers says turn gives later earlier g at (hears_nothing (elements_of g) quiet) j some less is_yes).within in
    omega (arith, none, begins, within)
