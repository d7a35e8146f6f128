-- No call of a multicall goes past a yes of the gate.
use Rattle.std.proofs.Common.{◌≡◌, ℕ, ◌+◌, ◌-◌, ◌<◌, Bool, true, false, List, [], ◌∷◌, ◌++◌, All, length, flat_map, Ok, refl, sym, subst, ap, ◌∙◌, inl, inr, arith, ◌⊎◌, append_assoc, length-append}
use Rattle.std.proofs.lemmas.List.Elements.{All-head, All-tail}
use Rattle.xp_board.specs.Told.{PortValue}
use Rattle.xp_preempt.specs.Gates.{GivesAnswers, answer_at, asks_on, ends_yes, last_ask, yeses}
use Rattle.xp_preempt.proofs.Consulting.{yeses_then, asks_then as asks_behind}
use Rattle.xp_preempt.proofs.Numbering.{asks_sum}
use Rattle.level_release.proofs.Noes.{settled_no}
use Rattle.vcpu_turn.specs.declared.cpu.TurnEnd.{TurnEnd}
use Rattle.vcpu_turn.specs.Asking.{CallGone, HearsNo, HearsNoWithin, NoUntilDue, asks_within, calls_of, elements_of, elements_tried}
use Rattle.vcpu_turn.specs.CallAsks.{CallStops, LastCallStops, asks_before, asks_first, first_going}
use Rattle.vcpu_turn.specs.Cpus.{Processing, begins_at, task_in}
use Rattle.vcpu_turn.specs.Lists.{Tried, is_due_answer}
use Rattle.vcpu_turn.specs.Turning.{IsTurn, asks_for, is_due}
use Rattle.vcpu_turn.proofs.Asking.{ends_at, past, turn_stops, within_by}
use Rattle.vcpu_turn.proofs.Bringing.{brings}
use Rattle.vcpu_turn.proofs.CallAnswers.{TellsAll, Undue, answers_count, answers_of, turn_tells}
use Rattle.vcpu_turn.proofs.CallsBringing.{all_both}
use Rattle.vcpu_turn.proofs.Noes.{noes_no}

-- ---- a part of the answers

module _ (says : ℕ → Bool) (before : ℕ) where
  gives_early : (late early : List Bool) → GivesAnswers says before (late ++ early) → GivesAnswers says before early
  unfolding GivesAnswers
  gives_early [] early gives = gives
  gives_early (a ∷ late) early gives = gives_early late early gives.1

  gives_late : (late early : List Bool) → GivesAnswers says before (late ++ early) → GivesAnswers says (asks_on (length early) before) late
  unfolding GivesAnswers
  gives_late [] early gives = tt
  gives_late (a ∷ late) early gives = (gives.0 ∙ ap (λ (n : ℕ). answer_at says n) (sym (asks_behind early late before)), gives_late late early gives.1)

  -- the answers within a call, and those before them
  gives_from : {d : ℕ} (first : List Bool) (later earlier : List (CallGone d)) (g : CallGone d) → GivesAnswers says before (answers_of (later ++ g ∷ earlier) ++ first) →
      GivesAnswers says before (g.asked ++ (g.early ++ (answers_of earlier ++ first)))
  gives_from first [] earlier g gives =
      subst (λ (xs : List Bool). GivesAnswers says before xs) (append_assoc (g.asked ++ g.early) (answers_of earlier) first ∙ append_assoc g.asked g.early (answers_of earlier ++ first)) gives
  gives_from first (h ∷ later) earlier g gives =
      gives_from first later earlier g
      (gives_early (h.asked ++ h.early) (answers_of (later ++ g ∷ earlier) ++ first)
      (subst (λ (xs : List Bool). GivesAnswers says before xs) (append_assoc (h.asked ++ h.early) (answers_of (later ++ g ∷ earlier)) first) gives))

front_count : {d : ℕ} (first : List Bool) (earlier : List (CallGone d)) (g : CallGone d) → length (g.early ++ (answers_of earlier ++ first)) ≡ asks_before (length first) earlier g
front_count first earlier g =
    let one = length-append g.early (answers_of earlier ++ first) in
    let more = length-append (answers_of earlier) first in
    let count = answers_count earlier in
    omega (arith, one, more, count)

-- ---- each call
module _ (says : ℕ → Bool) (before : ℕ) {d : ℕ} where
  stops_behind : (g : CallGone d) (front : List Bool) → GivesAnswers says before (g.asked ++ front) → HearsNoWithin (elements_of g) → (j : ℕ) → 0 < j → before + length front + j < last_ask → says (before + length front + j) ≡ true → CallStops g j
  stops_behind g front gives hears j some less is_yes =
      let brought = brings d (task_in g.call) g.from.awaited g.before g.from.done g.to.done g.behind g.asked g.answer g.works in
      let there : asks_on (length front) before ≡ before + length front = asks_sum (length front) before (omega (arith, less)) in
      let within : GivesAnswers says (before + length front) g.asked = subst (λ (n : ℕ). GivesAnswers says n g.asked) there (gives_late says before g.asked front gives) in
      let asks = past says (before + length front) g.asked (is_due_answer g.answer) within (brought.hears hears) j some less is_yes in
      record {
        asks = asks;
        within = within_by (begins_at (task_in g.call) g.from.done) g.to.done (asks_for (task_in g.call) g.from.done g.to.done g.answer) (asks_within (elements_of g)) (length g.asked) (length g.asked) j
            (is_due_answer g.answer) brought.asks brought.most brought.due (omega arith) asks;
      }

  stops_at : (first : List Bool) (later earlier : List (CallGone d)) (g : CallGone d) → GivesAnswers says before (answers_of (later ++ g ∷ earlier) ++ first) → HearsNoWithin (elements_of g) → (j : ℕ) → 0 < j →
      before + asks_before (length first) earlier g + j < last_ask → says (before + asks_before (length first) earlier g + j) ≡ true → CallStops g j
  stops_at first later earlier g gives hears j some less is_yes =
      let count = front_count first earlier g in
      stops_behind g (g.early ++ (answers_of earlier ++ first)) (gives_from says before first later earlier g gives) hears j some (omega (arith, less, count))
      (subst (λ (n : ℕ). says (before + n + j) ≡ true) (sym count) is_yes)

pub call_stops : (c d : Processing) (end : TurnEnd) (v w : PortValue) (before : ℕ) (answers : List Bool) (says : ℕ → Bool) → (turn : IsTurn c d end v w answers) → GivesAnswers says before answers →
    (later earlier : List (CallGone c.domain)) (g : CallGone c.domain) → calls_of turn ≡ later ++ g ∷ earlier → HearsNoWithin (elements_of g) → (j : ℕ) → 0 < j → before + asks_before (asks_first turn) earlier g + j < last_ask →
    says (before + asks_before (asks_first turn) earlier g + j) ≡ true → CallStops g j
call_stops c d end v w before answers says turn gives later earlier g is hears j some less is_yes =
    let told = turn_tells c d end v w answers turn in
    let first = first_going turn.does in
    stops_at says before first later earlier g
    (subst (λ (gone : List (CallGone c.domain)). GivesAnswers says before (answers_of gone ++ first)) is
    (gives_early says before told.last (answers_of (calls_of turn) ++ first) (subst (λ (xs : List Bool). GivesAnswers says before xs) told.all gives))) hears j some less is_yes

-- ---- the last one
-- where the gate said no before, a yes at last is of what was asked then
ends_late : (late early : List Bool) → yeses early ≡ 0 → ends_yes (late ++ early) ≡ true → 0 < length late
unfolding yeses
ends_late [] [] none said = absurd (cc)
ends_late [] (true ∷ early) none said = absurd (let more : yeses early + 1 ≡ 0 = none in omega (arith, more))
ends_late [] (false ∷ early) none said = absurd (cc)
ends_late (a ∷ late) early none said = omega arith

module _ {d : ℕ} where
  early_no : (g : CallGone d) → yeses g.early ≡ 0
  early_no g = settled_no g.start g.before g.early (Ok tt) refl g.settles.course

  -- calls that are answered heard no yes
  answered_no : (gone : List (CallGone d)) → All Undue gone → HearsNoWithin (flat_map elements_of gone) → yeses (answers_of gone) ≡ 0
  unfolding yeses
  answered_no [] undue hears = refl
  answered_no (g ∷ gone) undue hears =
      let parts = all_both HearsNo (elements_of g) (flat_map elements_of gone) hears in
      let brought = brings d (task_in g.call) g.from.awaited g.before g.from.done g.to.done g.behind g.asked g.answer g.works in
      let within = noes_no g.asked (subst (λ (b : Bool). NoUntilDue g.asked b) (All-head Undue g gone undue) (brought.hears parts.0)) in
      let before = early_no g in
      let rest = answered_no gone (All-tail Undue g gone undue) parts.1 in
      let one = yeses_then g.early g.asked in
      let all = yeses_then (answers_of gone) (g.asked ++ g.early) in
      omega (arith, within, before, rest, one, all)

  front_no : (first : List Bool) (earlier : List (CallGone d)) (g : CallGone d) → yeses first ≡ 0 → All Undue earlier → HearsNoWithin (flat_map elements_of earlier) → yeses (g.early ++ (answers_of earlier ++ first)) ≡ 0
  front_no first earlier g none undue hears =
      let before = early_no g in
      let rest = answered_no earlier undue hears in
      let one = yeses_then (answers_of earlier ++ first) g.early in
      let all = yeses_then first (answers_of earlier) in
      omega (arith, none, before, rest, one, all)

-- the yes is behind what was asked before the call
behind_front : (asked front last answers : List Bool) (due : Bool) (j : ℕ) → answers ≡ (last ++ asked) ++ front → yeses front ≡ 0 → (length answers < j) ⊎ ((length answers ≡ j) × (due ≡ true)) → (j ≡ length answers → ends_yes answers ≡ true) → length front < j
behind_front asked front last answers due j all none (inl before) said =
    let sum = ap length all ∙ length-append (last ++ asked) front in omega (arith, before, sum)
behind_front asked front last answers due j all none (inr at) said =
    let sum = ap length all ∙ length-append (last ++ asked) front in
    let is = at.0 in
    let some = ends_late (last ++ asked) front none (subst (λ (xs : List Bool). ends_yes xs ≡ true) all (said (sym at.0))) in
    omega (arith, sum, is, some)

module _ (says : ℕ → Bool) (before : ℕ) {d : ℕ} (j : ℕ) (less : before + j < last_ask) (is_yes : says (before + j) ≡ true) (first answers : List Bool) (gives : GivesAnswers says before answers) (due : Bool)
    (ends : (length answers < j) ⊎ ((length answers ≡ j) × (due ≡ true))) (said : j ≡ length answers → ends_yes answers ≡ true) where
  last_in : (gone : List (CallGone d)) (items : List Tried) → HearsNoWithin items → TellsAll gone items first answers → LastCallStops (length first) gone j
  last_in [] items hears told = tt
  last_in (g ∷ earlier) items hears told = elim told.behind [
    | inl none ↦ absurd (cc)
    | inr on ↦
        let within : HearsNoWithin (elements_of g ++ flat_map elements_of earlier) = subst (λ (xs : List Tried). HearsNoWithin xs) on.1 hears in
        let parts = all_both HearsNo (elements_of g) (flat_map elements_of earlier) within in
        let front = g.early ++ (answers_of earlier ++ first) in
        let split : told.last ++ (answers_of (g ∷ earlier) ++ first) ≡ (told.last ++ g.asked) ++ front =
        ap (λ (xs : List Bool). told.last ++ xs) (append_assoc (g.asked ++ g.early) (answers_of earlier) first ∙ append_assoc g.asked g.early (answers_of earlier ++ first)) ∙ sym (append_assoc told.last g.asked front) in
        let count = front_count first earlier g in
        let behind = behind_front g.asked front told.last answers due j (told.all ∙ split) (front_no first earlier g on.0 told.undue parts.1) ends said in
        let there : before + asks_before (length first) earlier g + (j - asks_before (length first) earlier g) ≡ before + j = omega (arith, count, behind) in (
          omega (arith, count, behind),
          stops_at says before first [] earlier g (gives_early says before told.last (answers_of (g ∷ earlier) ++ first) (subst (λ (xs : List Bool). GivesAnswers says before xs) told.all gives)) parts.0
              (j - asks_before (length first) earlier g) (omega (arith, count, behind)) (omega (arith, less, there)) (ap says there ∙ is_yes),
        )
  ]

pub last_stops : (c d : Processing) (end : TurnEnd) (v w : PortValue) (before : ℕ) (answers : List Bool) (says : ℕ → Bool) → (turn : IsTurn c d end v w answers) → HearsNoWithin (elements_tried turn) → GivesAnswers says before answers →
    (j : ℕ) → 0 < j → before + j < last_ask → says (before + j) ≡ true → LastCallStops (asks_first turn) (calls_of turn) j
last_stops c d end v w before answers says turn hears gives j some less is_yes =
    last_in says before j less is_yes (first_going turn.does) answers gives (is_due end) (turn_stops c d end v w before answers says turn hears gives j some less is_yes) (ends_at says before answers gives j some less is_yes)
    (calls_of turn) (elements_tried turn) hears (turn_tells c d end v w answers turn)
