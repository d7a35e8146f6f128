-- The asks of whole turns: how many there are, and that none follows a yes but where an element goes on past one.
use Rattle.std.proofs.Common.{◌≡◌, ℕ, ◌<◌, Bool, List, [], length, Option, Some, None, Ok, Err, refl, sym, subst, inl, inr, arith, ◌⊎◌, ◌+◌, ◌-◌, ◌≤◌, true, false, ◌∷◌, ◌++◌, ap, ◌∙◌, length-append}
use Rattle.std.proofs.lemmas.Bool.{cases_order}
use Rattle.xp_words.specs.declared.ops.Op.{Op}
use Rattle.xp_words.specs.declared.reply.LogLine.{LogLine}
use Rattle.xp_words.specs.declared.reply.Refusal.TheVariants.{Dying}
use Rattle.xp_words.specs.declared.reply.Stop.TheVariants.{Paused, Refused}
use Rattle.xp_board.specs.Told.{PortValue}
use Rattle.xp_preempt.specs.Gates.{GivesAnswers, ends_yes, last_ask}
use Rattle.xp_preempt.proofs.Numbering.{says_last, says_no}
use Rattle.level_release.proofs.Noes.{settled_no}
use Rattle.vcpu_turn.specs.declared.cpu.TurnEnd.{TurnEnd}
use Rattle.vcpu_turn.proofs.Dying.{one_dies}
use Rattle.vcpu_turn.specs.Cpus.{OfOne, Processing, Task, after_turn, begins_at, job_next, job_of, next_of, nothing_left}
use Rattle.vcpu_turn.specs.Lists.{is_due_answer}
use Rattle.vcpu_turn.specs.Turning.{DoesNext, DoesTurn, IsTurn, CountsAsks, GoesNoFurther, asks_for, is_due}
use Rattle.vcpu_turn.specs.Turning as turning
use Rattle.vcpu_turn.specs.Asking.{HearsNoWithin, NoUntilDue, asks_within, elements_tried, tried_going, tried_next}
use Rattle.vcpu_turn.proofs.Noes.{noes_none, noes_same, noes_then}
use Rattle.vcpu_turn.proofs.Turns.{due_ended, due_paused}
use Rattle.vcpu_turn.proofs.Hearing.{settles_hears}
use Rattle.vcpu_turn.proofs.Bringing.{begins_later}
use Rattle.vcpu_turn.proofs.CallsBringing.{by_hears, by_one, one_gave}

-- ---- a turn
next_hears : (c : Processing) (o : Option Op) (c2 : Processing) (v w : PortValue) (answers : List Bool) (end : TurnEnd) → (does : DoesNext c o c2 v w answers end) → HearsNoWithin (tried_next c o c2 v w answers end does) → NoUntilDue answers (is_due end)
next_hears c (Some op) c2 v w answers end on hears =
    subst (λ (b : Bool). NoUntilDue answers b) (sym (ap is_due on.end_is ∙ due_ended on.to.done on.answer)) (by_hears c.domain (c.answered + 1) v c.at on.to w c.log on.log answers on.answer (job_of op) on.went hears)
next_hears c None c2 v w answers end retires hears = noes_same answers [] (is_due end) retires.no_ask (noes_none (is_due end))

going_hears : (c : Processing) (o : Option Op) (v : PortValue) (c2 : Processing) (w : PortValue) (answers : List Bool) (end : TurnEnd) → (does : DoesTurn c o v c2 w answers end) → HearsNoWithin (tried_going does) → NoUntilDue answers (is_due end)
going_hears c o v _ _ _ _ (turning.DoesTurn.unsettled w answers p settles) hears = subst (λ (b : Bool). NoUntilDue answers b) (sym (due_paused p)) (settles_hears v w answers (Err (Paused p)) settles)
going_hears c o v _ _ _ _ (turning.DoesTurn.dying life w c2 end dead dies) hears = noes_none (is_due end)
going_hears c o v _ _ _ _ (turning.DoesTurn.settled u w c2 early answers end settles does) hears =
    noes_then early answers (is_due end) (settled_no v u early (Ok tt) refl settles.course) (next_hears (nothing_left c) o c2 u w answers end does hears)

pub turn_hears : (c c2 : Processing) (end : TurnEnd) (v w : PortValue) (answers : List Bool) → (turn : IsTurn c c2 end v w answers) → HearsNoWithin (elements_tried turn) → NoUntilDue answers (is_due end)
turn_hears c c2 end v w answers turn hears = going_hears c (next_of c) turn.begun c2 turn.worked answers end turn.does hears

going_asks : (c : Processing) (o : Option Op) (op : Op) → o ≡ Some op → (task : Option Task) → job_next o ≡ OfOne task → (v : PortValue) (c2 : Processing) (w : PortValue) (answers : List Bool) (end : TurnEnd) → (does : DoesTurn c o v c2 w answers end) →
    CountsAsks c.left task c.at.done end answers (asks_within (tried_going does))
going_asks c None op is task one v c2 w answers end does = absurd (cc)
going_asks c (Some other) op is task one v _ _ _ _ (turning.DoesTurn.unsettled w answers p settles) = turning.CountsAsks.settling v w p settles refl refl
going_asks c (Some other) op is task one v _ _ _ _ (turning.DoesTurn.dying life w c2 end dead dies) = turning.CountsAsks.refused c.domain life (one_dies c other task one life end dies.1) refl refl
going_asks c (Some other) op is task one v _ _ _ _ (turning.DoesTurn.settled u w c2 early answers end settles on) =
    turning.CountsAsks.counted on.to.done on.answer v u early answers settles on.end_is refl (by_one c.domain (c.answered + 1) u c.at on.to w c.log on.log answers on.answer (job_of other) task one on.went).asks

pub turn_asks : (c d : Processing) (op : Op) (task : Option Task) (end : TurnEnd) (v w : PortValue) (answers : List Bool) → next_of c ≡ Some op → job_of op ≡ OfOne task → (turn : IsTurn c d end v w answers) →
    CountsAsks c.left task c.at.done end answers (asks_within (elements_tried turn))
turn_asks c d op task end v w answers next one turn = going_asks c (next_of c) op next task (ap job_next next ∙ one) turn.begun d turn.worked answers end turn.does

-- ---- no ask follows one at which the gate says yes
-- where that is the last one, the newest answer is yes
pub ends_at : (says : ℕ → Bool) (before : ℕ) (answers : List Bool) → GivesAnswers says before answers → (j : ℕ) → 0 < j → before + j < last_ask → says (before + j) ≡ true → j ≡ length answers → ends_yes answers ≡ true
ends_at says before [] gives j some less is_yes at = absurd (omega (arith, some, at))
ends_at says before (a ∷ rest) gives j some less is_yes at =
    let there : before + length rest + 1 ≡ before + j = omega (arith, at) in
    sym (says_last says before a rest gives (omega (arith, less, at))) ∙ ap says there ∙ is_yes

pub past : (says : ℕ → Bool) (before : ℕ) (answers : List Bool) (due : Bool) → GivesAnswers says before answers → NoUntilDue answers due → (j : ℕ) → 0 < j → before + j < last_ask → says (before + j) ≡ true →
    (length answers < j) ⊎ ((length answers ≡ j) × (due ≡ true))
unfolding GivesAnswers
past says before [] due gives noes j some less is_yes = inl some
past says before (a ∷ rest) due gives noes j some less is_yes = elim (cases_order j (length rest + 1)) [
  | inl at ↦ inr (omega (arith, at), noes.last (ends_at says before (a ∷ rest) gives j some less is_yes (omega (arith, at))))
  | inr (inl below) ↦ absurd (both (says (before + j)) is_yes (says_no says before rest gives.1 noes.early j some (omega (arith, below)) (omega (arith, less))))
  | inr (inr above) ↦ inl (omega (arith, above))
]
  where
    both : (b : Bool) → b ≡ true → b ≡ false → ⊥
    both b on off = cc

pub turn_stops : (c c2 : Processing) (end : TurnEnd) (v w : PortValue) (before : ℕ) (answers : List Bool) (says : ℕ → Bool) → (turn : IsTurn c c2 end v w answers) → HearsNoWithin (elements_tried turn) → GivesAnswers says before answers →
    (j : ℕ) → 0 < j → before + j < last_ask → says (before + j) ≡ true → (length answers < j) ⊎ ((length answers ≡ j) × (is_due end ≡ true))
turn_stops c c2 end v w before answers says turn hears gives j some less is_yes = past says before answers (is_due end) gives (turn_hears c c2 end v w answers turn hears) j some less is_yes

-- so no more elements are done than up to there
pub within_by : (from to between within asks all j : ℕ) (due : Bool) → asks ≡ between + within → to ≤ from + between + 1 → (due ≡ true → to ≤ from + between) → asks ≤ all → (all < j) ⊎ ((all ≡ j) × (due ≡ true)) → to ≤ from + (j - within)
within_by from to between within asks all j due number most paused few (inl before) = omega (arith, number, most, few, before)
within_by from to between within asks all j due number most paused few (inr last) = let at = last.0 in let less = paused last.1 in omega (arith, number, less, few, at)

module _ (c : Processing) (task : Option Task) (before : ℕ) (says : ℕ → Bool) (j : ℕ) (some : 0 < j) (less : before + j < last_ask) (is_yes : says (before + j) ≡ true) where
  going_within : (o : Option Op) (op : Op) → o ≡ Some op → job_next o ≡ OfOne task → (v : PortValue) (c2 : Processing) (w : PortValue) (answers : List Bool) (end : TurnEnd) → (does : DoesTurn c o v c2 w answers end) → HearsNoWithin (tried_going does) → GivesAnswers says before answers →
      GoesNoFurther c c2 end (begins_at task c.at.done + (j - asks_within (tried_going does)))
  going_within None op is one v c2 w answers end does hears gives = absurd (cc)
  going_within (Some other) op is one v _ _ _ _ (turning.DoesTurn.unsettled w answers p settles) hears gives = record { to = c.at; answer = Err (Paused p); end_is = refl; cpu = inr (inl (p, refl, refl, refl)); within = (let later = begins_later task c.at.done in omega (arith, later)) }
  going_within (Some other) op is one v _ _ _ _ (turning.DoesTurn.dying life w c2 end dead dies) hears gives =
      record {
        to = c.at;
        answer = Err (Refused (Dying c.domain life));
        end_is = one_dies c other task one life end dies.1;
        cpu = inr (inr (life, refl, one_dies c other task one life end dies.1, dies.2));
        within = (let later = begins_later task c.at.done in omega (arith, later));
      }
  going_within (Some other) op is one v _ _ _ _ (turning.DoesTurn.settled u w c2 early answers end settles on) hears gives =
      let all = length-append answers early in
      let brought = by_one c.domain (c.answered + 1) u c.at on.to w c.log on.log answers on.answer (job_of other) task one on.went in
      let gave = one_gave c.domain (c.answered + 1) u c.at on.to w c.log on.log answers on.answer (job_of other) task one on.went in
      let noes = going_hears c (Some other) v c2 w (answers ++ early) end (turning.DoesTurn.settled u w c2 early answers end settles on) hears in
      record {
        to = on.to;
        answer = on.answer;
        end_is = on.end_is;
        cpu = inl (gave.0, on.cpu ∙ ap (λ (log : List LogLine). after_turn (nothing_left c) on.to log end) gave.1);
        within = within_by (begins_at task c.at.done) on.to.done (asks_for task c.at.done on.to.done on.answer) (asks_within (tried_next (nothing_left c) (Some other) c2 u w answers end on))
            (length answers) (length (answers ++ early)) j (is_due_answer on.answer) brought.asks brought.most brought.due (omega (arith, all))
            (subst (λ (b : Bool). (length (answers ++ early) < j) ⊎ ((length (answers ++ early) ≡ j) × (b ≡ true))) (ap is_due on.end_is ∙ due_ended on.to.done on.answer)
            (past says before (answers ++ early) (is_due end) gives noes j some less is_yes));
      }

pub turn_within : (c c2 : Processing) (op : Op) (task : Option Task) (end : TurnEnd) (v w : PortValue) (before : ℕ) (answers : List Bool) (says : ℕ → Bool) → next_of c ≡ Some op → job_of op ≡ OfOne task → (turn : IsTurn c c2 end v w answers) →
    HearsNoWithin (elements_tried turn) → GivesAnswers says before answers → (j : ℕ) → 0 < j → before + j < last_ask → says (before + j) ≡ true → GoesNoFurther c c2 end (begins_at task c.at.done + (j - asks_within (elements_tried turn)))
turn_within c c2 op task end v w before answers says next one turn hears gives j some less is_yes =
    going_within c task before says j some less is_yes (next_of c) op next (ap job_next next ∙ one) turn.begun c2 turn.worked answers end turn.does hears gives
