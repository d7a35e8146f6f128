-- A list of extents that goes on by one, with a gate and a log.
use Rattle.std.proofs.Common.{◌≡◌, ℕ, ◌+◌, ◌^◌, ◌<◌, Bool, true, false, List, [], ◌∷◌, ◌++◌, append_assoc, append-nil, Option, Some, None, Result, Ok, Err, refl, sym, ap, ◌∙◌, arith, subst}
use Rattle.std.specs.Result.{IsErrAnd}
use Rattle.std.proofs.lemmas.Bool.Decides.{nat_tests}
use Rattle.xp_words.specs.declared.reply.LogLine.{LogLine}
use Rattle.xp_words.specs.declared.reply.LogLine.TheVariants as logged
use Rattle.xp_words.specs.declared.reply.Stop.{Stop}
use Rattle.xp_words.specs.declared.reply.Stop.TheVariants.{Refused, Paused}
use Rattle.xp_words.specs.declared.reply.Pause.TheVariants.{Due, Lost, Busy, Flush, Alive}
use Rattle.xp_board.specs.Told.{PortValue}
use Rattle.xp_preempt.specs.Gates.{Consulted, Gate, GatedPast}
use Rattle.xp_preempt.proofs.Consulting.{past_as, past_ask}
use Rattle.level_release.specs.Asking.{is_due_stop}
use Rattle.reservations.specs.Extents.{IsExtentStop, Reserves}
use Rattle.reservations.specs.declared.extents.Extent.{Extent}
use Rattle.reservations.specs.declared.extents.Extent.TheVariants.{Increase, Decrease, Populate}
use Rattle.vcpu_turn.specs.Extents.{Block, ExtentFits, ListsExtents, block_at, extent_at, extents_in, gave_did, given_by, given_lines, place_for}
use Rattle.vcpu_turn.specs.Lists as lists
use Rattle.vcpu_turn.specs.Lists.{DidItems, is_due_answer}
use Rattle.vcpu_turn.specs.declared.cpu.CallNumber.{CallNumber}
use Rattle.vcpu_turn.proofs.PassedOn.{is_err}
use Rattle.vcpu_turn.proofs.Listing.{did_on}

-- ---- lines
pub lines_both : (number : CallNumber) (bs cs : List Block) → given_lines number (bs ++ cs) ≡ given_lines number bs ++ given_lines number cs
lines_both number [] cs = refl
lines_both number (b ∷ bs) cs = ap (λ (ls : List LogLine). logged.Given number.op number.call b.extent b.first ∷ ls) (lines_both number bs cs)

-- ---- an extent does not pause for the gate
pub extent_not_due : (x : Extent) (e : Stop) → IsExtentStop x e → is_due_stop e ≡ false
extent_not_due x (Refused r) kinds = refl
extent_not_due Increase (Paused Due) kinds = absurd kinds
extent_not_due (Decrease first) (Paused Due) kinds = absurd kinds
extent_not_due (Populate gpfn) (Paused Due) kinds = absurd kinds
extent_not_due x (Paused (Lost place expected found)) kinds = refl
extent_not_due x (Paused (Busy f found)) kinds = refl
extent_not_due x (Paused (Flush u stamp found)) kinds = refl
extent_not_due x (Paused (Alive u found)) kinds = refl

-- ---- those from number `from` to below that one are done: how far the next one is, and what the log got
pub record Went (d command order : ℕ) (items : List ℕ) (number : CallNumber) (from within : ℕ) (v : PortValue) (log : List LogLine) (to : ℕ) (u : PortValue) (left : ℕ) (log' : List LogLine) (answers : List Bool) : Type 0 where
  pub did : DidItems (ExtentFits d command order items from within) (extents_in command items) from v to u answers
  pub place : left ≡ place_for from within to
  pub lines : log' ≡ log ++ given_lines number (gave_did did)

pub went_none : (d command order : ℕ) (items : List ℕ) (number : CallNumber) (from within : ℕ) (v : PortValue) (log : List LogLine) → Went d command order items number from within v log from v within log []
went_none d command order items number from within v log = record { did = lists.DidItems.none; place = grind (arith, nat_tests); lines = sym (append-nil log) }

-- none is left as the turn begins
all_of : {d command order : ℕ} {items : List ℕ} {number : CallNumber} {from within : ℕ} {v : PortValue} {log : List LogLine} {k : ℕ} {u : PortValue} {left : ℕ} {log' : List LogLine} {early : List Bool} →
    (did : DidItems (ExtentFits d command order items from within) (extents_in command items) from v k u early) → k ≡ extents_in command items → left ≡ place_for from within k → log' ≡ log ++ given_lines number (gave_did did) →
    ListsExtents d command order items number from within v k left u log log' early (Ok tt)
all_of {from = from} {within = within} lists.DidItems.none at place lines = record { works = lists.WorksOn.all_done at; place = place ∙ first from within; lines = lines }
  where
    first : (n m : ℕ) → place_for n m n ≡ m
    first n m = grind (arith, nat_tests)
all_of (lists.DidItems.more k u w answers asked did f less) at place lines = absurd (omega (arith, less, at))

module _ {d command order : ℕ} {items : List ℕ} {number : CallNumber} {from within : ℕ} {v : PortValue} {log : List LogLine} {k : ℕ} {u : PortValue} {left : ℕ} {log' : List LogLine} {early : List Bool}
    (went : Went d command order items number from within v log k u left log' early) where
  -- the next one
  abbrev fit : (x : Extent) → extent_at command items k ≡ Some x → (given : Option ℕ) (to : ℕ) (w : PortValue) (answer : Result (Unit {0}) Stop) → Reserves d (2 ^ order) x left u to w (given_by given answer) →
      ExtentFits d command order items from within k u w [] answer
  fit x is given to w answer reserves =
      record { extent = x; is = is; given = given; left = to; reserves = subst (λ (n : ℕ). Reserves d (2 ^ order) x n u to w (given_by given answer)) went.place reserves; no_ask = refl }

  -- there is none
  pub went_all : k ≡ extents_in command items → ListsExtents d command order items number from within v k left u log log' early (Ok tt)
  went_all at = all_of went.did at went.place went.lines

  -- it stopped
  stopped : (x : Extent) → extent_at command items k ≡ Some x → (to : ℕ) (w : PortValue) (e : Stop) → Reserves d (2 ^ order) x left u to w (Err e) → k < extents_in command items →
      ListsExtents d command order items number from within v k to w log log' early (Err e)
  stopped x is to w e reserves less =
      record { works = lists.WorksOn.stopped k u w early [] e went.did (fit x is None to w (Err e) reserves) less; place = refl; lines = went.lines }

  -- it was done
  module _ (x : Extent) (is : extent_at command items k ≡ Some x) (given : Option ℕ) (to : ℕ) (w : PortValue) (reserves : Reserves d (2 ^ order) x left u to w (Ok given)) (log'' : List LogLine)
      (more : log'' ≡ log' ++ given_lines number (block_at k given)) where
    lines_on : log'' ≡ log ++ given_lines number (gave_did went.did ++ block_at k given)
    lines_on =
        more ∙ ap (λ (ls : List LogLine). ls ++ given_lines number (block_at k given)) went.lines ∙ append_assoc log (given_lines number (gave_did went.did)) (given_lines number (block_at k given)) ∙
        ap (λ (ls : List LogLine). log ++ ls) (sym (lines_both number (gave_did went.did) (block_at k given)))

    -- it was the last one
    pub last_done : k + 1 ≡ extents_in command items → ListsExtents d command order items number from within v (k + 1) 0 w log log'' early (Ok tt)
    last_done at = record { works = lists.WorksOn.last_done k u w early [] went.did (fit x is given to w (Ok tt) reserves) at; place = refl; lines = lines_on }

    -- the gate said yes behind it
    due_behind : k + 1 < extents_in command items → ListsExtents d command order items number from within v (k + 1) 0 w log log'' (true ∷ early) (Err (Paused Due))
    due_behind less = record { works = lists.WorksOn.due k u w early [] went.did (fit x is given to w (Ok tt) reserves) less; place = refl; lines = lines_on }

    -- it said no
    went_more : k + 1 < extents_in command items → Went d command order items number from within v log (k + 1) w 0 log'' (false ∷ early)
    went_more less =
        let on = did_on _ _ _ _ _ _ _ went.did in
        record { did = lists.DidItems.more k u w early [] went.did (fit x is given to w (Ok tt) reserves) less; place = grind (arith, nat_tests); lines = lines_on }

-- ---- and what the gate was asked
module _ {d command order : ℕ} {items : List ℕ} {number : CallNumber} {from within : ℕ} {v : PortValue} {log : List LogLine} {k : ℕ} {u : PortValue} {left : ℕ} {log' : List LogLine} {g h : Gate}
    (went : GatedPast g h false (λ answers. Went d command order items number from within v log k u left log' answers)) where
  -- there was none left
  pub answers_all : k ≡ extents_in command items → GatedPast g h false (λ answers. ListsExtents d command order items number from within v k left u log log' answers (Ok tt))
  answers_all at = past_as (λ due. due) (λ answers so. went_all so at) went

  module _ (x : Extent) (is : extent_at command items k ≡ Some x) (to : ℕ) (w : PortValue) where
    -- one was refused or paused
    pub answers_stopped : (e : Stop) → Reserves d (2 ^ order) x left u to w (Err e) → k < extents_in command items → (answer : Result (Unit {0}) Stop) → IsErrAnd answer (λ y. y ≡ e) →
        GatedPast g h (is_due_answer answer) (λ answers. ListsExtents d command order items number from within v k to w log log' answers answer)
    answers_stopped e reserves less answer stops = rw (is_err answer e stops) (past_as (λ due. sym (extent_not_due x e reserves.kinds) ∙ due) (λ answers so. stopped so x is to w e reserves less) went)

    module _ (given : Option ℕ) (reserves : Reserves d (2 ^ order) x left u to w (Ok given)) (log'' : List LogLine) (more : log'' ≡ log' ++ given_lines number (block_at k given)) where
      -- the last one was done
      pub answers_done : k + 1 ≡ extents_in command items → GatedPast g h false (λ answers. ListsExtents d command order items number from within v (k + 1) 0 w log log'' answers (Ok tt))
      answers_done at = past_as (λ due. due) (λ answers so. last_done so x is given to w reserves log'' more at) went

      -- the gate was asked behind one
      module _ (less : k + 1 < extents_in command items) {last : Gate} where
        pub answers_due : Consulted h last (true ∷ []) → GatedPast g last true (λ answers. ListsExtents d command order items number from within v (k + 1) 0 w log log'' answers (Err (Paused Due)))
        answers_due said = past_ask (λ answers so. due_behind so x is given to w reserves log'' more less) went said

        pub answers_more : Consulted h last (false ∷ []) → GatedPast g last false (λ answers. Went d command order items number from within v log (k + 1) w 0 log'' answers)
        answers_more said = past_ask (λ answers so. went_more so x is given to w reserves log'' more less) went said
