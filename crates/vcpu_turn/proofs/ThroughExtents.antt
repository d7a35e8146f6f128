-- The work of a turn on a list of extents.
use Rattle.std.proofs.Common.{◌≡◌, ℕ, ◌<◌, Bool, false, List, [], append-nil, Some, None, Result, Ok, Err, refl, sym, subst}
use Rattle.xp_words.specs.declared.reply.LogLine.{LogLine}
use Rattle.xp_words.specs.declared.reply.Refusal.{Refusal}
use Rattle.xp_words.specs.declared.reply.Stop.{Stop}
use Rattle.xp_words.specs.declared.reply.Stop.TheVariants.{Refused}
use Rattle.xp_board.specs.Told.{PortValue}
use Rattle.xp_preempt.specs.Gates.{Gate, GatedPast}
use Rattle.xp_preempt.proofs.Consulting.{past_as, past_none}
use Rattle.vcpu_turn.specs.Extents as extents
use Rattle.vcpu_turn.specs.Extents.{ListsExtents, begins_in, extents_in, mem_refusal}
use Rattle.vcpu_turn.specs.Lists.{is_due_answer}
use Rattle.vcpu_turn.specs.Working.{GoesExtents}
use Rattle.vcpu_turn.specs.declared.cpu.Progress.{Progress}
use Rattle.vcpu_turn.specs.declared.cpu.CallNumber.{CallNumber}

module _ {d command order : ℕ} {items : List ℕ} {number : CallNumber} {v : PortValue} {from : Progress} {log : List LogLine} {g : Gate} where
  pub goes_refused : (x : Refusal) → mem_refusal command order items ≡ Some x → GatedPast g g false (λ answers. GoesExtents d command order items number v from (record from { done = 0 }) v log log answers (Err (Refused x)))
  goes_refused x why =
      past_none refl
      (record {
        works = extents.WorksExtents.refused 0 v [] (Err (Refused x)) x why (record { none = refl; no_step = refl; no_ask = refl; refused = refl });
        calls = refl;
        within = refl;
        awaited = refl;
        lines = sym (append-nil log);
        place = refl;
      })

  module _ (checked : mem_refusal command order items ≡ None) where
    pub goes_none : extents_in command items ≡ 0 → GatedPast g g false (λ answers. GoesExtents d command order items number v from from v log log answers (Ok tt))
    goes_none empty = past_none refl (record { works = extents.WorksExtents.none checked empty; calls = refl; within = refl; awaited = refl; lines = sym (append-nil log); place = refl })

    -- they go on from the first that is still to be done
    pub goes_listed : 0 < extents_in command items → {h : Gate} {begun to left : ℕ} {w : PortValue} {log' : List LogLine} (answer : Result (Unit {0}) Stop) → begun ≡ begins_in command from.done →
        GatedPast g h (is_due_answer answer) (λ answers. ListsExtents d command order items number begun from.within v to left w log log' answers answer) →
        GatedPast g h (is_due_answer answer) (λ answers. GoesExtents d command order items number v from (record from { done = to; within = left }) w log log' answers answer)
    goes_listed some {to = to} {left} {w} {log'} answer first listed =
        past_as (λ due. due) (λ answers l. goes answers (subst (λ (n : ℕ). ListsExtents d command order items number n from.within v to left w log log' answers answer) first l)) listed
      where
        goes : (answers : List Bool) → ListsExtents d command order items number (begins_in command from.done) from.within v to left w log log' answers answer → GoesExtents d command order items number v from (record from { done = to; within = left }) w log log' answers answer
        goes answers l = record { works = extents.WorksExtents.on to from.within w answers answer checked some l.works; calls = refl; within = (refl, l.place); awaited = refl; lines = l.lines; place = refl }
