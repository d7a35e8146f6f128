-- The work of a turn on lists of any length, and on operations.
use Rattle.std.proofs.Common.{◌≡◌, ℕ, ◌<◌, ◌≤◌, Bool, false, List, [], ◌++◌, append-nil, length, Option, Some, None, Result, Ok, Err, IfErr, refl, sym, ap, ◌∙◌, inl, inr}
use Rattle.xp_words.specs.declared.ops.Pair.{Pair}
use Rattle.xp_words.specs.declared.reply.LogLine.{LogLine}
use Rattle.xp_words.specs.declared.reply.Refusal.{Refusal}
use Rattle.xp_words.specs.declared.reply.Refusal.TheVariants as refusals
use Rattle.xp_words.specs.declared.reply.Stop.{Stop}
use Rattle.xp_words.specs.declared.reply.Pause.TheVariants.{Due, Lost, Busy, Flush, Alive}
use Rattle.xp_words.specs.declared.reply.Stop.TheVariants.{Refused, Paused}
use Rattle.xp_board.specs.Told.{PortValue}
use Rattle.xp_preempt.specs.Gates.{Gate, GatedPast}
use Rattle.xp_preempt.proofs.Consulting.{past_as, past_none}
use Rattle.foreign_map.specs.declared.owners.Owners.{Owners}
use Rattle.tlb_walks.specs.Asking.{IsGuestReadStop, IsGuestWriteStop}
use Rattle.vcpu_turn.specs.Lists.{Fitting, WorksOn, is_due_answer, WorksThrough}
use Rattle.vcpu_turn.specs.Cpus.{OfDescriptors, OfExt, OfMapping, OfMem, OfPairs, OfRead, OfWrite, Task, left_waiting}
use Rattle.vcpu_turn.specs.Extents.{Block, given_lines}
use Rattle.vcpu_turn.specs.Pairs.{FindsOwners, PairFits, WorksOwned, long, none, unowned, owned}
use Rattle.vcpu_turn.specs.Working.{GoesExtents, IsPlaced, Valued, WentOn, Works, gave_of, valued}
use Rattle.vcpu_turn.specs.declared.cpu.Progress.{Progress}
use Rattle.vcpu_turn.specs.declared.cpu.CallNumber.{CallNumber}
use Rattle.vcpu_turn.proofs.Listing.{works_within}

module _ {fits : Fitting} {count from : ℕ} {v : PortValue} {g : Gate} where
  pub too_long : 512 < count → GatedPast g g false (λ answers. WorksThrough fits count v from 0 v answers (Err (Refused refusals.BatchLong)))
  too_long above = past_none refl (inl (above, record { none = refl; no_step = refl; no_ask = refl; refused = refl }))

  module _ {h : Gate} {to : ℕ} {w : PortValue} {answer : Result (Unit {0}) Stop} (works : GatedPast g h (is_due_answer answer) (λ answers. WorksOn fits count from v to w answers answer)) where
    pub not_long : count ≤ 512 → GatedPast g h (is_due_answer answer) (λ answers. WorksThrough fits count v from to w answers answer)
    not_long most = past_as (λ due. due) (λ answers on. inr (most, on)) works

    pub no_more : from ≤ count → to ≤ count
    no_more within = works_within fits count from v within to w works.answers answer works.course

-- ---- pairs, for the owners that a number names

module _ {d foreign : ℕ} {list : List Pair} {from : ℕ} {v : PortValue} {g : Gate} where
  pub owned_long : 512 < length list → GatedPast g g false (λ answers. WorksOwned d foreign list v from 0 v answers (Err (Refused refusals.BatchLong)))
  owned_long above = past_none refl (long 0 v [] (Err (Refused refusals.BatchLong)) above (record { none = refl; no_step = refl; no_ask = refl; refused = refl }))

  pub owned_none : length list ≡ 0 → GatedPast g g false (λ answers. WorksOwned d foreign list v from from v answers (Ok tt))
  owned_none empty = past_none refl (none empty)

  module _ (some : 0 < length list) (most : length list ≤ 512) where
    pub owned_refused : (w : PortValue) (x : Refusal) → FindsOwners v w d foreign (Err x) → GatedPast g g false (λ answers. WorksOwned d foreign list v from from w answers (Err (Refused x)))
    owned_refused w x finds = past_none refl (unowned w x some most finds)

    pub owned_on : (u : PortValue) (o : Owners) → FindsOwners v u d foreign (Ok o) → {h : Gate} {to : ℕ} {w : PortValue} (answer : Result (Unit {0}) Stop) →
        GatedPast g h (is_due_answer answer) (λ answers. WorksOn (PairFits o list) (length list) from u to w answers answer) → GatedPast g h (is_due_answer answer) (λ answers. WorksOwned d foreign list v from to w answers answer)
    owned_on u o finds {to = to} {w} answer works = past_as (λ due. due) (λ answers on. owned to u w o answers answer some most finds on) works

-- ---- operations
pub due_valued : (ended : Result (Unit {0}) Stop) (answer : Result ℕ Stop) → answer ≡ valued ended → is_due_answer answer ≡ is_due_answer ended
due_valued (Ok done) answer is = ap is_due_answer is
due_valued (Err e) answer is = ap is_due_answer is

-- what answers no value
pub without_value : {P : List Bool → Result (Unit {0}) Stop → Type 0} {g h : Gate} (ended : Result (Unit {0}) Stop) {answer : Result ℕ Stop} → answer ≡ valued ended → GatedPast g h (is_due_answer ended) (λ answers. P answers ended) →
    GatedPast g h (is_due_answer answer) (λ answers. Valued (λ e. P answers e) answer)
without_value ended {answer} is works = past_as (λ due. sym (due_valued ended answer is) ∙ due) (λ answers works. record { ended = ended; works = works; answer_is = is }) works

-- an access asks no gate
pub read_not_due : (answer : Result ℕ Stop) → IfErr answer IsGuestReadStop → is_due_answer answer ≡ false
read_not_due (Ok word) kinds = refl
read_not_due (Err (Refused r)) kinds = refl
read_not_due (Err (Paused Due)) kinds = absurd kinds
read_not_due (Err (Paused (Lost place expected found))) kinds = refl
read_not_due (Err (Paused (Busy f found))) kinds = refl
read_not_due (Err (Paused (Flush u stamp found))) kinds = refl
read_not_due (Err (Paused (Alive u found))) kinds = refl

pub write_not_due : (answer : Result (Unit {0}) Stop) → IfErr answer IsGuestWriteStop → is_due_answer answer ≡ false
write_not_due (Ok done) kinds = refl
write_not_due (Err (Refused r)) kinds = refl
write_not_due (Err (Paused Due)) kinds = absurd kinds
write_not_due (Err (Paused (Lost place expected found))) kinds = refl
write_not_due (Err (Paused (Busy f found))) kinds = refl
write_not_due (Err (Paused (Flush u stamp found))) kinds = refl
write_not_due (Err (Paused (Alive u found))) kinds = refl

-- ---- how far the vCPU is
-- operations without extents keep the place within an element, and the log
abbrev pub IsPlain : Option Task → Type 0
IsPlain (Some (OfMem command order items)) = ⊥
IsPlain _ = Unit {0}

module _ (d : ℕ) (awaited : Option ℕ) (v : PortValue) (from to : ℕ) (w : PortValue) (answers : List Bool) (answer : Result ℕ Stop) where
  placed_plain : (o : Option Task) → IsPlain o → (works : Works d o awaited v from to w answers answer) (old : ℕ) → IsPlaced d o awaited v from to w answers answer works old old
  placed_plain None plain works old = refl
  placed_plain (Some (OfPairs foreign pairs)) plain works old = refl
  placed_plain (Some (OfExt list)) plain works old = refl
  placed_plain (Some (OfMem command order items)) plain works old = absurd plain
  placed_plain (Some (OfMapping foreign va word flags)) plain works old = refl
  placed_plain (Some (OfDescriptors tables)) plain works old = refl
  placed_plain (Some (OfRead user va)) plain works old = refl
  placed_plain (Some (OfWrite user va val)) plain works old = refl

  gave_plain : (o : Option Task) → IsPlain o → (works : Works d o awaited v from to w answers answer) → gave_of d o awaited v from to w answers answer works ≡ []
  gave_plain None plain works = refl
  gave_plain (Some (OfPairs foreign pairs)) plain works = refl
  gave_plain (Some (OfExt list)) plain works = refl
  gave_plain (Some (OfMem command order items)) plain works = absurd plain
  gave_plain (Some (OfMapping foreign va word flags)) plain works = refl
  gave_plain (Some (OfDescriptors tables)) plain works = refl
  gave_plain (Some (OfRead user va)) plain works = refl
  gave_plain (Some (OfWrite user va val)) plain works = refl

module _ {d : ℕ} {number : CallNumber} {v : PortValue} {from : Progress} {log : List LogLine} where
  went_plain : (p : Option Task) → IsPlain p → (to : ℕ) (w : PortValue) (answers : List Bool) (answer : Result ℕ Stop) → Works d p from.awaited v from.done to w answers answer →
      WentOn d p number v from (left_waiting p (record from { done = to }) answer) w log log answers answer
  went_plain p plain to w answers answer works =
      record {
        works = works;
        calls = refl;
        within = placed_plain d from.awaited v from.done to w answers answer p plain works from.within;
        waits = refl;
        place = refl;
        lines = sym (append-nil log) ∙ ap (λ (bs : List Block). log ++ given_lines number bs) (sym (gave_plain d from.awaited v from.done to w answers answer p plain works));
      }

  module _ {o : Option Task} {g : Gate} where
    pub not_built : o ≡ None → GatedPast g g false (λ answers. WentOn d o number v from (left_waiting o (record from { done = 0 }) (Err (Refused refusals.BadCommand))) v log log answers (Err (Refused refusals.BadCommand)))
    not_built is = rw is (past_none refl (went_plain None tt 0 v [] (Err (Refused refusals.BadCommand)) (record { none = refl; no_step = refl; no_ask = refl; refused = refl })))

    pub built : (task : Task) → o ≡ Some task → IsPlain (Some task) → {h : Gate} {to : ℕ} {w : PortValue} {answer : Result ℕ Stop} → GatedPast g h (is_due_answer answer) (λ answers. Works d (Some task) from.awaited v from.done to w answers answer) →
        GatedPast g h (is_due_answer answer) (λ answers. WentOn d o number v from (left_waiting o (record from { done = to }) answer) w log log answers answer)
    built task is plain {to = to} {w} {answer} works = rw is (past_as (λ due. due) (λ answers on. went_plain (Some task) plain to w answers answer on) works)

    pub built_extents : (command order : ℕ) (items : List ℕ) → o ≡ Some (OfMem command order items) → {h : Gate} {to : Progress} {w : PortValue} {log' : List LogLine} (ended : Result (Unit {0}) Stop) {answer : Result ℕ Stop} → answer ≡ valued ended →
        GatedPast g h (is_due_answer ended) (λ answers. GoesExtents d command order items number v from to w log log' answers ended) →
        GatedPast g h (is_due_answer answer) (λ answers. WentOn d o number v from (left_waiting o to answer) w log log' answers answer)
    built_extents command order items is ended {answer} valued_is goes =
        rw is
        (past_as (λ due. sym (due_valued ended answer valued_is) ∙ due)
        (λ answers on. record { works = record { ended = ended; works = on.works; answer_is = valued_is }; calls = on.calls; within = on.within; waits = refl; lines = on.lines; place = on.place }) goes)
