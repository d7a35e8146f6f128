-- The tables in work are filled, and the gate is asked behind each entry: the course, of its parts.
use Rattle.std.proofs.Common.{◌≡◌, ℕ, Bool, true, List, Result, Err, IfErr, refl, sym, subst, ◌&&◌, false, [], ◌∷◌, Ok, ap, ◌∙◌, ◌++◌}
use Rattle.xp_words.specs.declared.reply.Stop.{Stop}
use Rattle.xp_words.specs.declared.reply.Pause.TheVariants.{Due, Busy, Flush, Lost}
use Rattle.xp_words.specs.declared.reply.Stop.TheVariants.{Paused, Refused}
use Rattle.xp_board.specs.Told.{PortValue}
use Rattle.partial_state.specs.declared.stack.TableWork.{TableWork}
use Rattle.level_validate.specs.Acquiring.{is_due_answer, is_due_stop}
use Rattle.xp_preempt.specs.Gates.{Consulted, Gate, Gated, ends_yes}
use Rattle.xp_preempt.proofs.Consulting.{gated_as, gated_none, gated_one, gated_then}
use Rattle.level_validate.specs.Courses.{asked_once, GoesOnFilling, LeavesAll, ValidatesBy}
use Rattle.table_entries.specs.Asking.{IsEntryStop}
use Rattle.table_entries.specs.Acquiring.{Filled, TookOn, Worked, is_asked, Advanced, MadeLive, keeps_it}

-- The gate is asked behind an entry, or not: what it answers, and what the answer of the call then says.
pub not_asked : {g : Gate} {asked : Bool} → asked ≡ false → Gated g g false (λ answers. answers ≡ asked_once asked false)
not_asked none = gated_none refl (sym (ap (λ (b : Bool). asked_once b false) none))

pub was_asked : {g h : Gate} {asked due rose : Bool} → asked ≡ true → due ≡ rose → Consulted g h (due ∷ []) → Gated g h rose (λ answers. answers ≡ asked_once asked rose)
was_asked {g} {h} {rose = rose} once same said = gated_one (subst (λ (b : Bool). Consulted g h (b ∷ [])) same said) (sym (ap (λ (b : Bool). asked_once b rose) once))

-- a pause: the gate was asked, behind an entry that is done with
pub due_asked : (done asked : Bool) (answers : List Bool) → true ≡ ends_yes answers → answers ≡ asked_once (done && asked) true → (done ≡ true) × (asked ≡ true)
due_asked true true answers ends is = (refl, refl)
due_asked true false answers ends is = absurd cc
due_asked false asked answers ends is = absurd cc

-- The tables are filled, one step behind the other: that part of the course.
pub entry_undue : (e : Stop) → IsEntryStop e → is_due_stop e ≡ false
entry_undue (Refused x) is = refl
entry_undue (Paused Due) is = absurd is
entry_undue (Paused (Lost place expected found)) is = refl
entry_undue (Paused (Busy f found)) is = refl
entry_undue (Paused (Flush vcpu stamp found)) is = refl
entry_undue _ is = absurd is

module _ (owner : ℕ) (v : PortValue) (t : TableWork) {g : Gate} where
  -- ---- down to where the table was left
  module _ {stack : List TableWork} (only : stack ≡ t ∷ []) (w : PortValue) (us : List TableWork) where
    pub cut_off_working : (answer : Result (Unit {0}) Stop) (e : Stop) → answer ≡ Err e → IsEntryStop e → TookOn owner v stack w us (Err e) → Gated g g (is_due_answer answer) (λ answers. Worked owner v t w us answers answer)
    cut_off_working answer e is kind took =
        gated_none (ap (λ (r : Result (Unit {0}) Stop). is_due_answer r) is ∙ entry_undue e kind)
        (subst (λ (r : Result (Unit {0}) Stop). Worked owner v t w us [] r) (sym is) (Worked.cut_off w us e (subst (λ (xs : List TableWork). TookOn owner v xs w us (Err e)) only took)))

    -- the gate is asked behind that, or not
    module _ {done : Bool} (took : TookOn owner v stack w us (Ok done)) {h : Gate} where
      pub begun_working : Gated g h false (λ answers. answers ≡ asked_once (done && is_asked us) false) → Gated g h false (λ answers. Worked owner v t w us answers (Ok tt))
      begun_working c =
          gated_as refl (λ answers once. subst (λ given. Worked owner v t w us given (Ok tt)) (sym once)
          (Worked.filled w w us us done (asked_once (done && is_asked us) false) (Ok tt) (subst (λ (xs : List TableWork). TookOn owner v xs w us (Ok done)) only took) Filled.begun)) c

      pub due_working : (answer : Result (Unit {0}) Stop) (e : Stop) → answer ≡ Err e → e ≡ Paused Due → Gated g h (is_due_stop e) (λ answers. answers ≡ asked_once (done && is_asked us) (is_due_stop e)) →
          Gated g h (is_due_answer answer) (λ answers. Worked owner v t w us answers answer)
      due_working answer e is due c =
          let rose : is_due_stop e ≡ true = ap (λ s. is_due_stop s) due in
          let once : c.answers ≡ asked_once (done && is_asked us) true = c.course ∙ ap (λ (b : Bool). asked_once (done && is_asked us) b) rose in
          let asks = due_asked done (is_asked us) c.answers (sym rose ∙ c.due) once in
          let one : c.answers ≡ true ∷ [] = once ∙ ap (λ (b : Bool). asked_once (b && is_asked us) true) asks.0 ∙ ap (λ (b : Bool). asked_once b true) asks.1 in
          let on : TookOn owner v (t ∷ []) w us (Ok true) = subst (λ (b : Bool). TookOn owner v (t ∷ []) w us (Ok b)) asks.0 (subst (λ (xs : List TableWork). TookOn owner v xs w us (Ok done)) only took) in
          record {
            answers = c.answers;
            course = subst (λ (r : Result (Unit {0}) Stop). Worked owner v t w us c.answers r) (ap Err (sym due) ∙ sym is) (subst (λ given. Worked owner v t w us given (Err (Paused Due))) (sym one) (Worked.due w us on asks.1));
            gate = c.gate;
            due = ap (λ (r : Result (Unit {0}) Stop). is_due_answer r) is ∙ c.due;
          }

-- ---- a step more
module _ (owner : ℕ) (v : PortValue) (t : TableWork) (x w : PortValue) (us xs : List TableWork) where
  worked_on : (answer : Result (Unit {0}) Stop) (earlier answers : List Bool) → Worked owner v t x us earlier (Ok tt) → GoesOnFilling owner x us w xs answers answer → Worked owner v t w xs (answers ++ earlier) answer
  unfolding GoesOnFilling
  worked_on answer earlier answers (Worked.filled u y ys zs done asked a took filled) on = Worked.filled u w ys xs done (answers ++ earlier) answer took (on u ys (asked_once (done && is_asked ys) false) earlier filled)

  module _ {g h k : Gate} where
    pub working_on : {rose : Bool} (answer : Result (Unit {0}) Stop) → Gated g h false (λ answers. Worked owner v t x us answers (Ok tt)) → Gated h k rose (λ answers. GoesOnFilling owner x us w xs answers answer) → Gated g k rose (λ answers. Worked owner v t w xs answers answer)
    working_on answer first next = gated_then refl (worked_on answer) first next

    pub working_stops : (answer : Result (Unit {0}) Stop) (e : Stop) → answer ≡ Err e → Gated g h false (λ answers. Worked owner v t x us answers (Ok tt)) → Gated h k (is_due_stop e) (λ answers. GoesOnFilling owner x us w xs answers (Err e)) →
        Gated g k (is_due_answer answer) (λ answers. Worked owner v t w xs answers answer)
    working_stops answer e is first next =
        subst (λ (r : Result (Unit {0}) Stop). Gated g k (is_due_answer r) (λ answers. Worked owner v t w xs answers r)) (sym is) (working_on (Err e) first next)

-- One entry more, or one table, and what the gate answered behind it: that part of the course.
module _ (owner : ℕ) (v w : PortValue) (ts us : List TableWork) where
  pub stopped_going : {g : Gate} (answer : Result (Unit {0}) Stop) (e : Stop) → answer ≡ Err e → is_due_stop e ≡ false → Advanced owner v ts w us (Err e) → Gated g g (is_due_answer answer) (λ answers. GoesOnFilling owner v ts w us answers answer)
  unfolding GoesOnFilling
  stopped_going answer e is undue step =
      gated_none (ap (λ (r : Result (Unit {0}) Stop). is_due_answer r) is ∙ undue)
      (λ u xs first earlier filled. subst (λ (r : Result (Unit {0}) Stop). Filled owner u xs first w us earlier r) (sym is) (Filled.stopped v w ts us earlier e filled step))

  -- the gate is asked behind it, or not
  by_answer : (done : Bool) → Advanced owner v ts w us (Ok done) → (asks : Bool) → is_asked us ≡ asks → (answer : Result (Unit {0}) Stop) → IfErr answer (λ e. e ≡ Paused Due) →
      (answers : List Bool) → is_due_answer answer ≡ ends_yes answers → answers ≡ asked_once (done && asks) (is_due_answer answer) → GoesOnFilling owner v ts w us answers answer
  unfolding GoesOnFilling
  by_answer true step true so (Ok x) kinds answers due is u xs first earlier filled = subst (λ given. Filled owner u xs first w us (given ++ earlier) (Ok tt)) (sym is) (Filled.asked v w ts us earlier filled step so)
  by_answer true step true so (Err (Paused Due)) kinds answers due is u xs first earlier filled = subst (λ given. Filled owner u xs first w us (given ++ earlier) (Err (Paused Due))) (sym is) (Filled.due v w ts us earlier filled step so)
  by_answer true step false so (Ok x) kinds answers due is u xs first earlier filled = subst (λ given. Filled owner u xs first w us (given ++ earlier) (Ok tt)) (sym is) (Filled.unasked v w ts us true earlier filled step so)
  by_answer false step asks so (Ok x) kinds answers due is u xs first earlier filled = subst (λ given. Filled owner u xs first w us (given ++ earlier) (Ok tt)) (sym is) (Filled.unasked v w ts us false earlier filled step refl)
  by_answer _ step _ so (Err _) kinds answers due is u xs first earlier filled = absurd cc

  pub asked_going : {g h : Gate} (done : Bool) → Advanced owner v ts w us (Ok done) → (answer : Result (Unit {0}) Stop) → IfErr answer (λ e. e ≡ Paused Due) →
      Gated g h (is_due_answer answer) (λ answers. answers ≡ asked_once (done && is_asked us) (is_due_answer answer)) → Gated g h (is_due_answer answer) (λ answers. GoesOnFilling owner v ts w us answers answer)
  asked_going done step answer kinds c =
      record { answers = c.answers; course = by_answer done step (is_asked us) refl answer kinds c.answers c.due c.course; gate = c.gate; due = c.due }

-- A frame is taken as a page table: the course, of its parts.
module _ {owner : ℕ} {v y w : PortValue} {t : TableWork} {us : List TableWork} {g h : Gate} where
  pub validated_live : us ≡ record t { done = 512 } ∷ [] → MadeLive y w (record t { done = 512 }) → Gated g h false (λ answers. Worked owner v t y us answers (Ok tt)) → Gated g h false (λ answers. ValidatesBy owner v t w answers (Ok tt))
  validated_live only live c = gated_as refl (λ answers worked. (y, subst (λ (xs : List TableWork). Worked owner v t y xs answers (Ok tt)) only worked, live)) c

  pub validated_left : {rose : Bool} {e : Stop} {kept : Bool} → kept ≡ keeps_it e → LeavesAll y w owner kept us → Gated g h rose (λ answers. Worked owner v t y us answers (Err e)) → Gated g h rose (λ answers. ValidatesBy owner v t w answers (Err e))
  validated_left is left c = gated_as refl (λ answers worked. (y, us, worked, subst (λ (b : Bool). LeavesAll y w owner b us) is left)) c
