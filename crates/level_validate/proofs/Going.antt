-- From the course by which tables are filled: how they stand then, what the steps are to a call that asked these tables, and why it stops.
use Rattle.std.proofs.Common.{◌≡◌, ℕ, ◌+◌, ◌<◌, ◌-◌, Bool, true, false, List, [], ◌∷◌, None, IsTrue, Result, Ok, Err, IfOk, IfErr, refl, sym, ap, ◌∙◌, subst, arith}
use Rattle.xp_words.specs.KindWords.{is_kind}
use Rattle.xp_words.specs.declared.reply.Pause.TheVariants.{Due}
use Rattle.xp_words.specs.declared.reply.Stop.{Stop}
use Rattle.xp_words.specs.declared.reply.Stop.TheVariants.{Paused}
use Rattle.xp_board.specs.KindSteps.{live_typed}
use Rattle.xp_board.specs.Told.{PortValue}
use Rattle.step_maker.specs.Answers.{misses, missed}
use Rattle.step_maker.specs.Holds.{FlushedHolds, Holds, MayWork, still}
use Rattle.kind_words.specs.Kinds.{left, live_kind}
use Rattle.step_maker.specs.Moves.{Came, Met}
use Rattle.step_maker.specs.Pauses.{Progress}
use Rattle.step_maker.proofs.Coming.{came_self, came_trans, moves_came}
use Rattle.step_maker.proofs.Piecing.{serves_came}
use Rattle.step_maker.proofs.Progressing.{progress_after, progress_before}
use Rattle.step_maker.proofs.Visiting.{does_came}
use Rattle.frame_types.specs.Leaving.{ServesType}
use Rattle.partial_state.specs.Levels.{level_type}
use Rattle.partial_state.specs.declared.stack.TableWork.{TableWork}
use Rattle.table_entries.specs.Acquiring.{Advanced, Filled, GaveBack, Joined, MadeLive, TookEntry, TookOn, Worked, keeps_it, one_entry_more, table_opened, type_counts}
use Rattle.table_entries.specs.declared.entries.Entered.TheVariants.{Opened}
use Rattle.table_entries.specs.Acquiring as course
use Rattle.level_validate.specs.Acquiring.{outermost_work}
use Rattle.level_validate.specs.Courses.{ValidatesBy}
use Rattle.level_validate.specs.Serving.{CarriesOn, ServesLeft}
use Rattle.level_validate.specs.Tables.{Carries, IsStanding, IsTopReady, StandsOn}
use Rattle.level_validate.specs.Unwinding.{UnwoundHand}
use Rattle.level_validate.proofs.Completed.{live_hand, live_leaves, new_ready, new_stands, old_ready, old_stands, outer_live, progress_records, progress_settles}
use Rattle.level_validate.proofs.Entered.{after_look, after_record, after_record_ready, after_settled, back_one, fresh_ready, taken_ready, taken_stands}
use Rattle.level_validate.proofs.LookedAgain.{OnTop, again_came, again_first, again_on_top, below_is, next_came, next_first, next_on_top, opened_standing}
use Rattle.level_validate.proofs.Opening.{left_waiting}
use Rattle.level_validate.proofs.Serving.{StopsRisen, goes_advanced, goes_back, goes_entries, goes_left, goes_nothing, goes_on, goes_then, goes_waiting, left_behind, left_on, piece_back, piece_left, piece_records, piece_rest, stops_behind, stops_due, stops_entries, stops_on}
use Rattle.level_validate.proofs.Standing.{may_back, may_stands}
use Rattle.level_validate.proofs.Unwound.{frame_alike, hand_alike, outermost_done}
use Rattle.xp_board.specs.declared.holdings.OwnerFound.TheVariants as owners

-- The tables us stand where ts stood, with the same outermost one; and the steps go on with what asked ts, and show why it stops.
pub record Going {A : Type 0} (v w : PortValue) (owner : ℕ) (ts us : List TableWork) (answer : Result A Stop) : Type 0 where
  pub came : Came v w
  pub stands : StandsOn v w owner ts us
  pub outer : outermost_work us ≡ outermost_work ts
  pub ready : IfOk answer (λ _. IsTopReady w)
  pub serves : CarriesOn v w owner ts us (misses v.post.machine answer)
  pub stops : IfErr answer (λ e. StopsRisen v w owner ts e)

-- and where an entry is done with, something got on
pub record Advancing (v w : PortValue) (owner : ℕ) (ts us : List TableWork) (answer : Result Bool Stop) : Type 0 where
  pub goes : Going v w owner ts us answer
  pub progress : IfOk answer (λ done. done ≡ true → Progress (Met v w))

module _ {A : Type 0} {v w : PortValue} {owner : ℕ} {ts us : List TableWork} {answer : Result A Stop} (i : Going v w owner ts us answer) (a : IsStanding v owner ts) where
  pub going_standing : IsStanding w owner us
  going_standing = (a.0, i.stands a.0 a.1)

  pub going_may : MayWork v → MayWork w
  going_may may = may_stands a.0 w owner us (i.stands a.0 a.1) (may_back a.0 v owner ts a.1 may)

-- ---- steps behind steps
going_then : {A B : Type 0} {v u w : PortValue} {owner : ℕ} {ts us xs : List TableWork} {done : A} {answer : Result B Stop} → Going v u owner ts us (Ok done) → Going u w owner us xs answer → Going v w owner ts xs answer
going_then {v = v} {u} {w} {owner} {ts} {us} {xs} {answer = answer} i l =
    record {
      came = came_trans v u w i.came l.came;
      stands = λ o s. l.stands o (i.stands o s);
      outer = l.outer ∙ i.outer;
      ready = l.ready;
      serves = goes_on v u w owner ts us xs answer i.came i.serves l.serves;
      stops = stops_behind v u w owner ts us answer i.stands i.serves l.stops;
    }

progress_answer : (v u w : PortValue) (r : Result Bool Stop) → Came v u → IfOk r (λ done. done ≡ true → Progress (Met u w)) → IfOk r (λ done. done ≡ true → Progress (Met v w))
progress_answer v u w (Ok done) came gets_on = λ is. progress_after v u w came (gets_on is)
progress_answer v u w (Err e) came gets_on = tt

-- the way down goes on from a table that came into work
going_below : {u x w : PortValue} {owner : ℕ} {ts next us : List TableWork} {inner : TableWork} {answer : Result Bool Stop} → Came u x → OnTop u x owner ts next inner → outermost_work next ≡ outermost_work ts → Advancing x w owner next us answer →
    Advancing u w owner ts us answer
going_below {u} {x} {w} {owner} {ts} {next} {us} {answer = answer} came o same i =
    record {
      goes = record {
        came = came_trans u x w came i.goes.came;
        stands = λ v s. i.goes.stands v (o.stands v s);
        outer = i.goes.outer ∙ same;
        ready = i.goes.ready;
        serves = goes_on u x w owner ts next us answer came o.serves i.goes.serves;
        stops = stops_behind u x w owner ts next answer o.stands o.serves i.goes.stops;
      };
      progress = progress_answer u x w answer came i.progress;
    }

-- whatever a call that goes on answers, and whatever one would that stops
going_done : {A B : Type 0} {v w : PortValue} {owner : ℕ} {ts us : List TableWork} {a : A} {b : B} → Going v w owner ts us (Ok a) → Going v w owner ts us (Ok b)
going_done i = record { came = i.came; stands = i.stands; outer = i.outer; ready = i.ready; serves = i.serves; stops = tt }

going_stopped : {A B : Type 0} {v w : PortValue} {owner : ℕ} {ts us : List TableWork} {e : Stop} → Going {A = A} v w owner ts us (Err e) → Going {A = B} v w owner ts us (Err e)
going_stopped i = record { came = i.came; stands = i.stands; outer = i.outer; ready = tt; serves = i.serves; stops = i.stops }

-- ---- down to where a table was left
-- a table of which nothing is recorded is ready
abbrev pub IsFreshReady : PortValue → List TableWork → Type 0
IsFreshReady v [] = Unit {0}
IsFreshReady v (t ∷ ts) = t.done ≡ 0 → IsTopReady v

some_done : (n : ℕ) → 0 < n → n ≡ 0 → ⊥
some_done n some none = absurd (omega (arith, some, none))

back_came : {v w : PortValue} {f : ℕ} → GaveBack v w f → Came v w
back_came {v} {w} b = serves_came v w _ [] b.serves

pub took_goes : {owner : ℕ} {v w : PortValue} {ts us : List TableWork} {answer : Result Bool Stop} → TookOn owner v ts w us answer → IsStanding v owner ts → IsFreshReady v ts → Advancing v w owner ts us answer
took_goes {owner} (course.TookOn.fresh v t ts none) a ready =
    record { goes = record { came = came_self v; stands = λ o s. s; outer = refl; ready = ready none; serves = goes_nothing v owner (t ∷ ts); stops = tt }; progress = λ is. absurd cc }
took_goes {owner} (course.TookOn.settled v w t ts some e) a ready =
    record {
      goes = record {
        came = again_came e;
        stands = λ o s. after_look w s (again_came e) (again_first e) (t.done - 1) e.hand.0;
        outer = refl;
        ready = after_settled w a.1 (again_came e) (again_first e) (t.done - 1) e.hand.0 e.hand.1;
        serves = goes_entries v w owner (t ∷ ts) [] e.serves;
        stops = tt;
      };
      progress = λ is. absurd cc;
    }
took_goes {owner} (course.TookOn.taken v u w t ts f some e back) a ready =
    let at = back_one t.done (some_done t.done some) in
    record {
      goes = record {
        came = came_trans v u w (again_came e) (back_came back);
        stands = λ o s. taken_stands s (again_came e) (again_first e) at e.hand.0 w back.hand (back_came back);
        outer = refl;
        ready = taken_ready a.1 (again_came e) (again_first e) at e.hand.0 w back.hand (back_came back) e.hand.1;
        serves = goes_back v u owner (t ∷ ts) (level_type t.level) f e.serves (λ pages. (e.shows pages).0) w back.serves;
        stops = tt;
      };
      progress = λ is. progress_before v u w (back_came back) (e.shows 0).1;
    }
took_goes {owner} (course.TookOn.opened v u w t ts us f progress answer some e on) a ready =
    let top = again_on_top refl (some_done t.done some) e refl a in
    going_below (again_came e) top refl (took_goes on (opened_standing top a) (λ zero. fresh_ready _ _ _ _ _ _ _ _ _ e.hand zero))
took_goes {owner} (course.TookOn.waiting v u w t ts f stamp stop some e left) a ready =
    let came = does_came u w _ left.found in
    let below = below_is refl a in
    record {
      goes = record {
        came = came_trans v u w (again_came e) came;
        stands = λ o s. after_look w s (came_trans v u w (again_came e) came) (again_first e) (t.done - 1) (left_waiting (t.level - 1) below e.hand.0 w _ refl left.hand);
        outer = refl;
        ready = tt;
        serves = goes_waiting v w owner (t ∷ ts) (t ∷ ts) stop (e.shows 0).1
            (goes_left v u owner (t ∷ ts) (level_type t.level) f e.serves (λ pages. (e.shows pages).0) w (subst (λ k. ServesType u w f k) (sym below) left.serves));
        stops = stops_on v u owner (t ∷ ts) stop w came (stops_entries v u owner (t ∷ ts) stop (λ pages. (e.shows pages).2));
      };
      progress = tt;
    }
took_goes {owner} (course.TookOn.stopped v w t ts stop some e) a ready =
    record {
      goes = record {
        came = again_came e;
        stands = λ o s. after_look w s (again_came e) (again_first e) (t.done - 1) e.hand;
        outer = refl;
        ready = tt;
        serves = goes_entries v w owner (t ∷ ts) (missed v.post.machine stop) e.serves;
        stops = stops_entries v w owner (t ∷ ts) stop e.stops;
      };
      progress = tt;
    }

-- ---- a full table inside another one is made live, and joined to that one
module _ {v u : PortValue} {owner : ℕ} {t outer : TableWork} {ts : List TableWork} (a : IsStanding v owner (t ∷ outer ∷ ts)) (full : t.done ≡ 512) (ready : IsTopReady v) (may : MayWork v) (live : MadeLive v u t) where
  left_live : Holds v u (left v t.frame (live_kind (level_type t.level) (type_counts t.own)))
  left_live = ap still live.1.to

  spelled : IsTrue (is_kind (live_kind (level_type t.level) (type_counts t.own)))
  spelled = (live_leaves a.1 full ready t.own refl may).is

  came_live : Came v u
  came_live = moves_came v u _ _ _ _ _ live.1

  completed_goes : {w : PortValue} (recorded : Bool) → t.recorded ≡ recorded → Joined u w t outer recorded → Advancing v w owner (t ∷ outer ∷ ts) (outer ∷ ts) (Ok true)
  unfolding CarriesOn
  completed_goes {w} true is back =
      let came = back_came back in
      record {
        goes = record {
          came = came_trans v u w came_live came;
          stands = λ o s. old_stands live.1 (live_hand s t.own refl u left_live) is spelled w back.hand came;
          outer = refl;
          ready = old_ready live.1 (live_hand a.1 t.own refl u left_live) is spelled w back.hand came;
          serves = λ o r ds b. piece_rest o w r owner t (outer ∷ ts) ds (piece_back w (piece_left a.1 _ spelled refl live.1 o r owner (outer ∷ ts) ds b) back.serves);
          stops = tt;
        };
        progress = λ done. progress_before v u w came (progress_settles live.1 (live_hand a.1 t.own refl u left_live) is spelled);
      }
  completed_goes {w} false is record_it =
      let look = record_it.1 in
      let came = came_trans v u w came_live (moves_came u w _ _ _ _ _ look) in
      record {
        goes = record {
          came = came;
          stands = λ o s. new_stands live.1 (live_hand s t.own refl u left_live) is w (ap still look.to) came;
          outer = refl;
          ready = new_ready live.1 (live_hand a.1 t.own refl u left_live) is w (ap still look.to) came;
          serves = λ o r ds b. piece_rest o w r owner t (outer ∷ ts) ds (piece_records w (piece_left a.1 _ spelled refl live.1 o r owner (outer ∷ ts) ds b) _ _ _ look);
          stops = tt;
        };
        progress = λ done. progress_after v u w came_live (progress_records u w _ _ _ look);
      }

-- ---- a table that the next entry names is taken on
opened_goes : {v u w : PortValue} {owner : ℕ} {t : TableWork} {ts us : List TableWork} {f progress : ℕ} {own : Bool} {answer : Result Bool Stop} → t.done < 512 → TookEntry v u owner t (Ok (Opened f progress own)) →
    TookOn owner u (table_opened t f progress own false ∷ one_entry_more t ∷ ts) w us answer → IsStanding v owner (t ∷ ts) → IsTopReady v → Advancing v w owner (t ∷ ts) us answer
opened_goes {t = t} {ts} few e on a ready =
    let top = next_on_top refl (omega (arith, few)) e ready refl refl a in
    going_below (next_came e) top (outermost_done t (t.done + 1) ts) (took_goes on (opened_standing top a) (λ zero. fresh_ready _ _ _ _ _ _ _ _ _ e.hand zero))

-- ---- one entry, or one table
pub advanced_goes : {owner : ℕ} {v w : PortValue} {ts us : List TableWork} {answer : Result Bool Stop} → Advanced owner v ts w us answer → IsStanding v owner ts → IsTopReady v → MayWork v → Advancing v w owner ts us answer
advanced_goes {owner} (course.Advanced.recorded v w t ts few e) a ready may =
    record {
      goes = record {
        came = next_came e;
        stands = λ o s. after_record w s (next_came e) (next_first e) None (omega (arith, few)) e.hand;
        outer = outermost_done t (t.done + 1) ts;
        ready = after_record_ready w a.1 (next_came e) (next_first e) e.hand;
        serves = goes_advanced v w owner (t ∷ ts) (t ∷ ts) [] (goes_entries v w owner (t ∷ ts) [] e.serves);
        stops = tt;
      };
      progress = λ is. e.shows 0;
    }
advanced_goes (course.Advanced.opened v u w t ts us f progress own done few e on) a ready may = opened_goes few e on a ready
advanced_goes (course.Advanced.cut_off v u w t ts us f progress own stop few e on) a ready may = opened_goes few e on a ready
advanced_goes {owner} (course.Advanced.unsettled v w t ts stop few e) a ready may =
    record {
      goes = record {
        came = next_came e;
        stands = λ o s. after_record w s (next_came e) (next_first e) e.hand.0 (omega (arith, few)) e.hand.1;
        outer = outermost_done t (t.done + 1) ts;
        ready = tt;
        serves = goes_waiting v w owner (t ∷ ts) _ stop (e.shows 0).1 (goes_advanced v w owner (t ∷ ts) (t ∷ ts) [] (goes_entries v w owner (t ∷ ts) [] e.serves));
        stops = stops_entries v w owner (t ∷ ts) stop (λ pages. (e.shows pages).2);
      };
      progress = tt;
    }
advanced_goes {owner} (course.Advanced.stopped v w t ts stop few e) a ready may =
    record {
      goes = record {
        came = next_came e;
        stands = λ o s. after_look w s (next_came e) (next_first e) t.done e.hand;
        outer = refl;
        ready = tt;
        serves = goes_entries v w owner (t ∷ ts) (missed v.post.machine stop) e.serves;
        stops = stops_entries v w owner (t ∷ ts) stop e.stops;
      };
      progress = tt;
    }
advanced_goes (course.Advanced.completed v u w t outer ts full live joined) a ready may = completed_goes a full ready may live t.recorded refl joined

-- behind such steps
step_behind : {v u w : PortValue} {owner : ℕ} {ts us xs : List TableWork} {answer : Result Bool Stop} → Going {A = Unit {0}} v u owner ts us (Ok tt) → Advanced owner u us w xs answer → IsStanding v owner ts → MayWork v → Advancing u w owner us xs answer
step_behind i step a may = advanced_goes step (going_standing i a) i.ready (going_may i a may)

-- the gate says yes
going_due : {v u w : PortValue} {owner : ℕ} {ts us xs : List TableWork} → Going {A = Unit {0}} v u owner ts us (Ok tt) → Advancing u w owner us xs (Ok true) → Going {A = Unit {0}} v w owner ts xs (Err (Paused Due))
going_due {v} {u} {w} {owner} {ts} i l =
    let all = going_then i l.goes in
    record { came = all.came; stands = all.stands; outer = all.outer; ready = tt; serves = all.serves; stops = stops_due v w owner ts (progress_after v u w i.came (l.progress refl)) }

-- ---- until the only table is full
pub filled_goes : {owner : ℕ} {v : PortValue} {ts : List TableWork} {before : List Bool} {w : PortValue} {us : List TableWork} {answers : List Bool} {answer : Result (Unit {0}) Stop} → Filled owner v ts before w us answers answer → IsStanding v owner ts → IsTopReady v → MayWork v → Going v w owner ts us answer
filled_goes {owner} {v} {ts} course.Filled.begun a ready may = record { came = came_self v; stands = λ o s. s; outer = refl; ready = ready; serves = goes_nothing v owner ts; stops = tt }
filled_goes (course.Filled.unasked u w us xs done answers earlier step off) a ready may =
    let i = filled_goes earlier a ready may in going_then i (going_done (step_behind i step a may).goes)
filled_goes (course.Filled.asked u w us xs answers earlier step on) a ready may =
    let i = filled_goes earlier a ready may in going_then i (going_done (step_behind i step a may).goes)
filled_goes (course.Filled.due u w us xs answers earlier step on) a ready may =
    let i = filled_goes earlier a ready may in going_due i (step_behind i step a may)
filled_goes (course.Filled.stopped u w us xs answers stop earlier step) a ready may =
    let i = filled_goes earlier a ready may in going_then i (going_stopped (step_behind i step a may).goes)

-- ---- the whole
pub worked_goes : {owner : ℕ} {v w : PortValue} {t : TableWork} {us : List TableWork} {answers : List Bool} {answer : Result (Unit {0}) Stop} → Worked owner v t w us answers answer → IsStanding v owner (t ∷ []) → (t.done ≡ 0 → IsTopReady v) → MayWork v →
    Going v w owner (t ∷ []) us answer
worked_goes (course.Worked.cut_off w us stop took) a ready may = going_stopped (took_goes took a ready).goes
worked_goes {owner} {v} {t = t} (course.Worked.due w us took on) a ready may =
    let l = took_goes took a ready in
    record { came = l.goes.came; stands = l.goes.stands; outer = l.goes.outer; ready = tt; serves = l.goes.serves; stops = stops_due v w owner (t ∷ []) (l.progress refl) }
worked_goes (course.Worked.filled u w us xs done answers answer took filled) a ready may =
    let i = (took_goes took a ready).goes in going_then i (filled_goes filled (going_standing i a) i.ready (going_may i a may))

-- ---- a frame is taken as a page table
-- from v to x it came into work, as the only one
pub record ComesIn (v x : PortValue) (owner : ℕ) (t : TableWork) : Type 0 where
  pub carries : Carries v x owner (t ∷ [])
  pub fresh : t.done ≡ 0 → IsTopReady x
  pub may : MayWork x

-- it is live then
pub record IsLive (v x w : PortValue) (owner : ℕ) (t : TableWork) : Type 0 where
  pub hand : FlushedHolds v w (record v.holdings { typed = live_typed t.frame (level_type t.level) (owners.Of owner) ∷ v.holdings.typed })
  pub serves : ServesLeft x w owner false t.frame (t ∷ []) []

-- or all tables in work are left
pub record IsLeft (v x w : PortValue) (owner : ℕ) (t : TableWork) (e : Stop) : Type 0 where
  pub hand : UnwoundHand v w owner (keeps_it e) (t ∷ [])
  pub serves : ServesLeft x w owner (keeps_it e) t.frame (t ∷ []) (missed x.post.machine e)
  pub stops : StopsRisen x w owner (t ∷ []) e

module _ {v x : PortValue} {owner : ℕ} {t : TableWork} (s : ComesIn v x owner t) {w : PortValue} {answers : List Bool} where
  pub live_validated : ValidatesBy owner x t w answers (Ok tt) → IsLive v x w owner t
  unfolding CarriesOn
  live_validated c =
      let u = record t { done = 512 } in
      let live = c.2 in
      let i = worked_goes c.1 (v, s.carries) s.fresh s.may in
      let now = i.stands v s.carries in
      let spelled = (live_leaves now refl i.ready t.own refl (going_may i (v, s.carries) s.may)).is in
      record {
        hand = outer_live v c.0 w owner u now (live_hand now t.own refl w (ap still live.1.to));
        serves = left_on x w owner false t.frame (t ∷ []) [] []
            (goes_then x c.0 w owner (t ∷ []) (u ∷ []) [] [] [] i.serves (λ o r ds b. piece_rest o w r owner u [] ds (piece_left now _ spelled refl live.1 o r owner [] ds b)));
      }

  pub left_validated : (e : Stop) → ValidatesBy owner x t w answers (Err e) → IsLeft v x w owner t e
  left_validated e c =
      let y = c.0 in
      let us = c.1 in
      let all = c.3 in
      let i = worked_goes c.2 (v, s.carries) s.fresh s.may in
      record {
        hand = hand_alike v w owner (keeps_it e) us (t ∷ []) i.outer (all.hand v (i.stands v s.carries));
        serves = left_behind x y w owner (keeps_it e) t.frame (t ∷ []) us (missed x.post.machine e) [] i.came i.serves (subst (λ f. ServesLeft y w owner (keeps_it e) f us []) (frame_alike us (t ∷ []) i.outer) all.serves);
        stops = stops_on x y owner (t ∷ []) e w all.came i.stops;
      }
