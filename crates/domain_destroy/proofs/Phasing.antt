-- The phases of a destruction, each behind the other.
use Rattle.std.proofs.Common.{◌≡◌, ℕ, ◌≤◌, Bool, true, false, List, [], ◌++◌, length, Result, Ok, Err, IfErr, refl, sym, ap, ◌∙◌, subst, arith}
use Rattle.xp_words.specs.Machine.{Machine}
use Rattle.xp_words.specs.declared.reply.LogLine.{LogLine}
use Rattle.xp_words.specs.declared.reply.Stop.{Stop}
use Rattle.xp_board.specs.Told.{Post, PortValue}
use Rattle.xp_board.specs.declared.holdings.Holdings.{Holdings}
use Rattle.step_maker.specs.Holds.{Rests, Same}
use Rattle.step_maker.specs.Moves.{Came}
use Rattle.step_maker.specs.Visits.{Does, Visit}
use Rattle.step_maker.proofs.Coming.{came_post}
use Rattle.level_release.specs.Asking.{is_due_answer, is_due_stop}
use Rattle.domain_destroy.specs.Asking.{IsDestroyStop, ServesDestroy, StopsDestroyer}
use Rattle.domain_destroy.specs.Coming.{FoundCleared, FoundEmpty, FoundStopped, FoundUnused, IsForeign, KnowsAt, left_at, seen_to}
use Rattle.domain_destroy.specs.Course as course
use Rattle.domain_destroy.specs.Course.{Advances, BeginsBy, GoesOn, LeftFrame}
use Rattle.domain_destroy.specs.Destroying.{KeepsComing, ListsAll, ListsOn, PhaseWent, phase_of}
use Rattle.domain_destroy.specs.Emptying.{NamesNone}
use Rattle.domain_destroy.specs.declared.place.DestroyAt.{DestroyAt}
use Rattle.domain_destroy.specs.declared.place.DestroyAt.TheVariants.{Begins, Stops, Empties, Clears, Checks, Lists}
use Rattle.domain_destroy.proofs.Opening.{opens_cleared, opens_empty, opens_listed}
use Rattle.domain_destroy.proofs.Staying.{found_cleared_stays}
use Rattle.domain_destroy.proofs.Parts.{destroy_came, goes_on_one, goes_on_then, nothing_serves, settled_self, went_err, went_ok, went_same, went_then}
use Rattle.xp_preempt.specs.Gates.{Gate, Gated}
use Rattle.xp_preempt.proofs.Consulting.{gated_as}

-- ---- what is known
-- the log is not looked at before frames are listed
pub keeps_by : (v w : PortValue) (d : ℕ) (at to : DestroyAt) → left_at at ≡ 0 → left_at to ≡ 0 → seen_to to ≡ 0 →
    ((op : ℕ) (log : List LogLine) → KnowsAt v.post.machine v.post.vcpu d at op log v.holdings → KnowsAt w.post.machine w.post.vcpu d to op log w.holdings) → KeepsComing v w d at to
keeps_by v w d at to a b c knows op log h =
    record { knows = knows op log h.knows; counts = h.counts ∙ a ∙ sym b; few = omega (arith, b); inside = omega (arith, c) }

pub keeps_self : (v : PortValue) (d : ℕ) (at : DestroyAt) → KeepsComing v v d at at
keeps_self v d at op log h = h

-- the domain is another one from the first step on
pub come_foreign : (n : Machine) (s d : ℕ) (at : DestroyAt) (op : ℕ) (log : List LogLine) (h : Holdings) → 1 ≤ phase_of at → KnowsAt n s d at op log h → IsForeign n s d
come_foreign n s d Begins op log h late knows = absurd (let l : 1 ≤ 0 = late in omega (arith, l))
come_foreign n s d (Stops k) op log h late knows = knows.doomed.foreign
come_foreign n s d (Empties k) op log h late knows = knows.foreign
come_foreign n s d (Clears f) op log h late knows = knows.1.foreign
come_foreign n s d Checks op log h late knows = knows.1.foreign
come_foreign n s d (Lists f l) op log h late knows = knows.1.unused.cleared.foreign

cleared_full : (n : Machine) (s d k since : ℕ) (h : Holdings) → n.frames ≤ k → FoundCleared n s d k since h → FoundCleared n s d n.frames since h
cleared_full n s d k since h all y = record { foreign = y.foreign; emptied = y.emptied; order = y.order; cleared = λ f l real. y.cleared f (omega (arith, all, l)) real }

-- ---- how far it has come
advances_seen : {d : ℕ} {v : PortValue} {at : DestroyAt} {w : PortValue} {to : DestroyAt} {more : List LeftFrame} {answers : List Bool} {answer : Result (Unit {0}) Stop} → Advances d v at w to more answers answer → seen_to at ≤ seen_to to
advances_seen (course.Advances.begun w x) = omega arith
advances_seen (course.Advances.refused w e x) = omega arith
advances_seen (course.Advances.passed_over v x y) = omega arith
advances_seen (course.Advances.stopped v w x y m) = omega arith
advances_seen (course.Advances.alive v found w x y z m) = omega arith
advances_seen (course.Advances.all_stopped v x) = omega arith
advances_seen (course.Advances.emptied v w answers passed x y) = omega arith
advances_seen (course.Advances.emptied_due v w answers x y) = omega arith
advances_seen (course.Advances.unemptied v w answers e x y) = omega arith
advances_seen (course.Advances.all_emptied v x) = omega arith
advances_seen (course.Advances.cleared f w answers passed x y) = omega arith
advances_seen (course.Advances.cleared_due f w answers x y) = omega arith
advances_seen (course.Advances.uncleared f w answers e x y) = omega arith
advances_seen (course.Advances.all_cleared f x) = omega arith
advances_seen (course.Advances.checked w x) = omega arith
advances_seen (course.Advances.in_use f x w y z) = omega arith
advances_seen (course.Advances.listed f left y w more x m z) = omega arith
advances_seen (course.Advances.half_free f left y w x m z o) = omega arith

pub goes_on_seen : {d : ℕ} {v : PortValue} {at : DestroyAt} {w : PortValue} {to : DestroyAt} {more : List LeftFrame} {answers : List Bool} {answer : Result (Unit {0}) Stop} → GoesOn d v at w to more answers answer → seen_to at ≤ seen_to to
goes_on_seen course.GoesOn.begins = omega arith
goes_on_seen (course.GoesOn.advances u w by to s m a q answer before one) = let x = goes_on_seen before in let y = advances_seen one in omega (arith, x, y)

-- ---- where the gate is not asked
abbrev pub asks_at : DestroyAt → Bool
asks_at (Empties k) = true
asks_at (Clears f) = true
asks_at _ = false

begins_undue : (q : Post) (d : ℕ) (answer : Result (Unit {0}) Stop) (vs : List Visit) → BeginsBy q d answer vs → is_due_answer answer ≡ false
begins_undue q d _ _ (course.BeginsBy.begun x vs a b c e) = refl
begins_undue q d _ _ (course.BeginsBy.missing vs a b) = refl
begins_undue q d _ _ (course.BeginsBy.own vs a b) = refl
begins_undue q d _ _ (course.BeginsBy.barred x vs a b c e) = refl
begins_undue q d _ _ (course.BeginsBy.dying x found vs a b c e i) = refl

does_undue : (v w : PortValue) (d : ℕ) (e : Stop) → Does v w (λ vs. BeginsBy v.post d (Err e) vs) → is_due_stop e ≡ false
unfolding Does
does_undue v w d e by = begins_undue v.post d (Err e) _ by.2

pub advances_undue : {d : ℕ} {v : PortValue} {at : DestroyAt} {w : PortValue} {to : DestroyAt} {more : List LeftFrame} {answers : List Bool} {answer : Result (Unit {0}) Stop} → Advances d v at w to more answers answer → asks_at to ≡ false →
    is_due_answer answer ≡ false
advances_undue (course.Advances.begun w x) off = refl
advances_undue {d = d} {v = v} (course.Advances.refused w e x) off = does_undue v _ d e x
advances_undue (course.Advances.passed_over v x y) off = refl
advances_undue (course.Advances.stopped v w x y m) off = refl
advances_undue (course.Advances.alive v found w x y z m) off = refl
advances_undue (course.Advances.all_stopped v x) off = refl
advances_undue (course.Advances.emptied v w answers passed x y) off = refl
advances_undue (course.Advances.emptied_due v w answers x y) off = absurd (cc)
advances_undue (course.Advances.unemptied v w answers e x y) off = absurd (cc)
advances_undue (course.Advances.all_emptied v x) off = refl
advances_undue (course.Advances.cleared f w answers passed x y) off = refl
advances_undue (course.Advances.cleared_due f w answers x y) off = absurd (cc)
advances_undue (course.Advances.uncleared f w answers e x y) off = absurd (cc)
advances_undue (course.Advances.all_cleared f x) off = refl
advances_undue (course.Advances.checked w x) off = refl
advances_undue (course.Advances.in_use f x w y z) off = refl
advances_undue (course.Advances.listed f left y w more x m z) off = refl
advances_undue (course.Advances.half_free f left y w x m z o) off = refl

pub goes_on_undue : {d : ℕ} {v : PortValue} {at : DestroyAt} {w : PortValue} {to : DestroyAt} {more : List LeftFrame} {answers : List Bool} {answer : Result (Unit {0}) Stop} → GoesOn d v at w to more answers answer → asks_at to ≡ false →
    is_due_answer answer ≡ false
goes_on_undue course.GoesOn.begins off = refl
goes_on_undue (course.GoesOn.advances u w by to s m a q answer before one) off = advances_undue one off

pub undue_as : {A : Type 0} (e : Stop) (answer : Result A Stop) → answer ≡ Err e → is_due_stop e ≡ false → is_due_answer answer ≡ false
undue_as e answer was off = ap is_due_answer was ∙ off

pub refused_undue : (v w : PortValue) (d : ℕ) (e : Stop) (answer : Result (Unit {0}) Stop) → answer ≡ Err e → Does v w (λ vs. BeginsBy v.post d (Err e) vs) → is_due_answer answer ≡ false
refused_undue v w d e answer was by = undue_as e answer was (does_undue v w d e by)

-- ---- a phase
-- that is past already
pub phase_past : (v : PortValue) (d : ℕ) (at : DestroyAt) → Rests v → NamesNone v → PhaseWent v v d at at [] [] (Ok tt)
phase_past v d at rests none =
    record { rests = rests; hand = settled_self v; clear = none; serves = nothing_serves v d (Ok tt) refl; stops = tt; kinds = tt; course = course.GoesOn.begins }

-- of steps that leave the hand as it was
pub phase_same : (v w : PortValue) (d : ℕ) (at to : DestroyAt) (answer : Result (Unit {0}) Stop) → Rests v → NamesNone v → Same v w → ServesDestroy v w d answer → IfErr answer (λ e. StopsDestroyer v w d e) → IfErr answer IsDestroyStop →
    GoesOn d v at w to [] [] answer → PhaseWent v w d at to [] [] answer
phase_same v w d at to answer rests none same serves stops kinds goes = went_same v w d answer rests none same serves stops kinds goes

-- the next one begins
pub phase_ends : (v w : PortValue) (d : ℕ) (at by to : DestroyAt) (answers : List Bool) → PhaseWent v w d at by [] answers (Ok tt) → Advances d w by w to [] [] (Ok tt) → PhaseWent v w d at to [] answers (Ok tt)
phase_ends v w d at by to answers part one =
    record {
      rests = part.rests;
      hand = part.hand;
      clear = part.clear;
      serves = part.serves;
      stops = tt;
      kinds = tt;
      course = course.GoesOn.advances w w by to [] [] answers [] (Ok tt) part.course one;
    }

pub phase_then : (v u w : PortValue) (d : ℕ) (at by to : DestroyAt) (answers asked : List Bool) (answer : Result (Unit {0}) Stop) → PhaseWent v u d at by [] answers (Ok tt) → PhaseWent u w d by to [] asked answer → PhaseWent v w d at to [] (asked ++ answers) answer
phase_then v u w d at by to answers asked answer first second =
    went_then v u w d tt answer first second (goes_on_then d v at u by [] answers first.course w to [] asked answer second.course)

-- ---- the phases one by one
pub past_begins : (at : DestroyAt) → (at ≡ Begins → ⊥) → 1 ≤ phase_of at
past_begins Begins off = absurd (off refl)
past_begins (Stops k) off = omega arith
past_begins (Empties k) off = omega arith
past_begins (Clears f) off = omega arith
past_begins Checks off = omega arith
past_begins (Lists f l) off = omega arith

pub past_stops : (at : DestroyAt) → 1 ≤ phase_of at → ((k : ℕ) → at ≡ Stops k → ⊥) → 2 ≤ phase_of at
past_stops Begins late off = absurd (let l : 1 ≤ 0 = late in omega (arith, l))
past_stops (Stops k) late off = absurd (off k refl)
past_stops (Empties k) late off = omega arith
past_stops (Clears f) late off = omega arith
past_stops Checks late off = omega arith
past_stops (Lists f l) late off = omega arith

pub past_empties : (at : DestroyAt) → 2 ≤ phase_of at → ((k : ℕ) → at ≡ Empties k → ⊥) → 3 ≤ phase_of at
past_empties Begins late off = absurd (let l : 2 ≤ 0 = late in omega (arith, l))
past_empties (Stops k) late off = absurd (let l : 2 ≤ 1 = late in omega (arith, l))
past_empties (Empties k) late off = absurd (off k refl)
past_empties (Clears f) late off = omega arith
past_empties Checks late off = omega arith
past_empties (Lists f l) late off = omega arith

pub past_clears : (at : DestroyAt) → 3 ≤ phase_of at → ((f : ℕ) → at ≡ Clears f → ⊥) → 4 ≤ phase_of at
past_clears Begins late off = absurd (let l : 3 ≤ 0 = late in omega (arith, l))
past_clears (Stops k) late off = absurd (let l : 3 ≤ 1 = late in omega (arith, l))
past_clears (Empties k) late off = absurd (let l : 3 ≤ 2 = late in omega (arith, l))
past_clears (Clears f) late off = absurd (off f refl)
past_clears Checks late off = omega arith
past_clears (Lists f l) late off = omega arith

pub past_checks : (at : DestroyAt) → 4 ≤ phase_of at → (at ≡ Checks → ⊥) → 5 ≤ phase_of at
past_checks Begins late off = absurd (let l : 4 ≤ 0 = late in omega (arith, l))
past_checks (Stops k) late off = absurd (let l : 4 ≤ 1 = late in omega (arith, l))
past_checks (Empties k) late off = absurd (let l : 4 ≤ 2 = late in omega (arith, l))
past_checks (Clears f) late off = absurd (let l : 4 ≤ 3 = late in omega (arith, l))
past_checks Checks late off = absurd (off refl)
past_checks (Lists f l) late off = omega arith

module _ (v w : PortValue) (d : ℕ) (at : DestroyAt) where
  -- it stopped at the place where it stood
  pub stops_there : (here : DestroyAt) → at ≡ here → (e : Stop) (answer : Result (Unit {0}) Stop) → answer ≡ Err e → Rests v → NamesNone v → Same v w → ServesDestroy {A = Unit {0}} v w d (Err e) → StopsDestroyer v w d e → IsDestroyStop e →
      Advances d v here w here [] [] (Err e) → PhaseWent v w d at at [] [] answer
  stops_there here is e answer was rests none same serves stops kinds one =
      subst (λ (t : DestroyAt). PhaseWent v w d t t [] [] answer) (sym is)
      (subst (λ (r : Result (Unit {0}) Stop). PhaseWent v w d here here [] [] r) (sym was) (phase_same v w d here here (Err e) rests none same serves stops kinds (goes_on_one d v here w here [] [] (Err e) one)))

  -- one part is the whole phase
  pub ends_there : (here to : DestroyAt) → at ≡ here → Rests v → NamesNone v → Same v w → ServesDestroy {A = Unit {0}} v w d (Ok tt) → Advances d v here w to [] [] (Ok tt) → PhaseWent v w d at to [] [] (Ok tt)
  ends_there here to is rests none same serves one =
      subst (λ (t : DestroyAt). PhaseWent v w d t to [] [] (Ok tt)) (sym is) (phase_same v w d here to (Ok tt) rests none same serves tt tt (goes_on_one d v here w to [] [] (Ok tt) one))

  pub stopped_ends : (k new : ℕ) → at ≡ Stops k → Rests v → NamesNone v → Same v w → ServesDestroy {A = Unit {0}} v w d (Ok tt) → GoesOn d v (Stops k) w (Stops new) [] [] (Ok tt) → length w.post.machine.vcpu_domain ≤ new →
      PhaseWent v w d at (Empties 0) [] [] (Ok tt)
  stopped_ends k new is rests none same serves goes all =
      subst (λ (t : DestroyAt). PhaseWent v w d t (Empties 0) [] [] (Ok tt)) (sym is)
      (phase_ends v w d (Stops k) (Stops new) (Empties 0) [] (phase_same v w d (Stops k) (Stops new) (Ok tt) rests none same serves tt tt goes) (course.Advances.all_stopped new all))

  pub stopped_opens : (k new : ℕ) → at ≡ Stops k → FoundStopped w.post.machine w.post.vcpu d new w.holdings → length w.post.machine.vcpu_domain ≤ new → KeepsComing v w d at (Empties 0)
  stopped_opens k new is found all =
      subst (λ (t : DestroyAt). KeepsComing v w d t (Empties 0)) (sym is)
      (keeps_by v w d (Stops k) (Empties 0) refl refl refl (λ op log knows. opens_empty w.post.machine w.post.vcpu d new w.holdings found all))

  module _ {g h : Gate} {paused : Bool} where
    pub emptied_ends : (k new : ℕ) → at ≡ Empties k → length w.post.machine.vcpu_domain ≤ new → Gated g h paused (λ answers. PhaseWent v w d (Empties k) (Empties new) [] answers (Ok tt)) →
        Gated g h paused (λ answers. PhaseWent v w d at (Clears 0) [] answers (Ok tt))
    emptied_ends k new is all =
        gated_as refl
        (λ answers part. subst (λ (t : DestroyAt). PhaseWent v w d t (Clears 0) [] answers (Ok tt)) (sym is) (phase_ends v w d (Empties k) (Empties new) (Clears 0) answers part (course.Advances.all_emptied new all)))

    pub cleared_ends : (k new : ℕ) → at ≡ Clears k → w.post.machine.frames ≤ new → Gated g h paused (λ answers. PhaseWent v w d (Clears k) (Clears new) [] answers (Ok tt)) →
        Gated g h paused (λ answers. PhaseWent v w d at Checks [] answers (Ok tt))
    cleared_ends k new is all =
        gated_as refl (λ answers part. subst (λ (t : DestroyAt). PhaseWent v w d t Checks [] answers (Ok tt)) (sym is) (phase_ends v w d (Clears k) (Clears new) Checks answers part (course.Advances.all_cleared new all)))

  pub emptied_opens : (k new : ℕ) → at ≡ Empties k → FoundEmpty w.post.machine w.post.vcpu d new w.holdings → length w.post.machine.vcpu_domain ≤ new → KeepsComing v w d at (Clears 0)
  emptied_opens k new is found all =
      subst (λ (t : DestroyAt). KeepsComing v w d t (Clears 0)) (sym is)
      (keeps_by v w d (Empties k) (Clears 0) refl refl refl (λ op log knows. (length w.holdings.steps, opens_cleared w.post.machine w.post.vcpu d new w.holdings found all)))

  pub cleared_keeps : (k new : ℕ) → at ≡ Clears k →
      ((since : ℕ) → FoundCleared v.post.machine v.post.vcpu d k since v.holdings → FoundCleared w.post.machine w.post.vcpu d new since w.holdings) → KeepsComing v w d at (Clears new)
  cleared_keeps k new is more =
      subst (λ (t : DestroyAt). KeepsComing v w d t (Clears new)) (sym is) (keeps_by v w d (Clears k) (Clears new) refl refl refl (λ op log knows. (knows.0, more knows.0 knows.1)))

  pub cleared_opens : (k new : ℕ) → at ≡ Clears k → w.post.machine.frames ≤ new →
      ((since : ℕ) → FoundCleared v.post.machine v.post.vcpu d k since v.holdings → FoundCleared w.post.machine w.post.vcpu d new since w.holdings) → KeepsComing v w d at Checks
  cleared_opens k new is all more =
      subst (λ (t : DestroyAt). KeepsComing v w d t Checks) (sym is)
      (keeps_by v w d (Clears k) Checks refl refl refl (λ op log knows. (knows.0, cleared_full w.post.machine w.post.vcpu d new knows.0 w.holdings all (more knows.0 knows.1))))

  pub checked_keeps : at ≡ Checks → Came v w → KeepsComing v w d at at
  checked_keeps is came =
      subst (λ (t : DestroyAt). KeepsComing v w d t t) (sym is)
      (keeps_by v w d Checks Checks refl refl refl (λ op log knows. (
        knows.0,
        subst (λ (p : Post). FoundCleared p.machine p.vcpu d p.machine.frames knows.0 w.holdings) (sym (came_post v w came)) (found_cleared_stays v w came v.post.machine v.post.vcpu d v.post.machine.frames knows.0 knows.1),
      )))

  pub checked_opens : at ≡ Checks →
      ((since : ℕ) → FoundCleared v.post.machine v.post.vcpu d v.post.machine.frames since v.holdings → FoundUnused w.post.machine w.post.vcpu d since w.holdings) → KeepsComing v w d at (Lists 0 0)
  checked_opens is unused =
      subst (λ (t : DestroyAt). KeepsComing v w d t (Lists 0 0)) (sym is)
      (keeps_by v w d Checks (Lists 0 0) refl refl refl (λ op log knows. (knows.0, opens_listed w.post.machine w.post.vcpu d knows.0 w.holdings op log (unused knows.0 knows.1))))

-- ---- frames that are listed
pub lists_all : (v w : PortValue) (d op : ℕ) (at : DestroyAt) (log : List LogLine) (frame left : ℕ) (log' : List LogLine) → Rests v → NamesNone v → Same v w → ServesDestroy {A = Unit {0}} v w d (Ok tt) → ListsOn d op v at log w (Lists frame left) log' (Ok tt) →
    w.post.machine.frames ≤ frame → ListsAll d op v at log w (Lists frame left) log' (Ok left)
lists_all v w d op at log frame left log' rests none same serves lists all =
    let part = went_same {A = Unit {0}} v w d (Ok tt) rests none same serves tt tt lists.1 in
    record {
      more = lists.0;
      part = went_ok v w d tt left part lists.1;
      lines = lists.2;
      all = (frame, refl, subst (λ (p : Post). p.machine.frames ≤ frame) (came_post v w (destroy_came {A = Unit {0}} v w d (Ok tt) serves)) all);
    }

pub lists_some : (v w : PortValue) (d op : ℕ) (at to : DestroyAt) (log log' : List LogLine) (e : Stop) → Rests v → NamesNone v → Same v w → ServesDestroy {A = Unit {0}} v w d (Err e) → StopsDestroyer v w d e → IsDestroyStop e →
    ListsOn d op v at log w to log' (Err e) → ListsAll d op v at log w to log' (Err e)
lists_some v w d op at to log log' e rests none same serves stops kinds lists =
    let part = went_same {A = Unit {0}} v w d (Err e) rests none same serves stops kinds lists.1 in
    record { more = lists.0; part = went_err v w d e part lists.1; lines = lists.2; all = tt }
