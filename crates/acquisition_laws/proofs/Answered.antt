-- An acquisition asks its gate until that says yes.
use Rattle.std.proofs.Common.{◌≡◌, ℕ, ◌+◌, Bool, true, false, List, [], ◌∷◌, Some, None, Result, if◌then◌else◌, refl, sym, ap, subst, ◌&&◌}
use Rattle.xp_words.specs.declared.reply.Pause.TheVariants.{Due}
use Rattle.xp_words.specs.declared.reply.Stop.{Stop}
use Rattle.xp_words.specs.declared.reply.Stop.TheVariants.{Paused}
use Rattle.xp_board.specs.Told.{PortValue}
use Rattle.xp_preempt.specs.Gates.{ends_yes, yeses}
use Rattle.step_maker.specs.Answers.{Stops}
use Rattle.step_maker.specs.Asked.{Request, of_frame}
use Rattle.partial_state.specs.Levels.{level_type}
use Rattle.partial_state.specs.declared.stack.TableWork.{TableWork}
use Rattle.table_entries.specs.Asking.{of_entries}
use Rattle.table_entries.specs.Acquiring.{Acquired, Advanced, Filled, TookOn, Worked, is_asked}
use Rattle.table_entries.specs.Ending.{is_due_answer, is_due_stop}

-- none is yes but the newest, and that one where `due` says so
abbrev pub AnswersTo : Bool → List Bool → Type 0
AnswersTo due answers = (yeses answers ≡ (if due then 1 else 0)) × (ends_yes answers ≡ due)

answers_as : {a b : Bool} (answers : List Bool) → b ≡ a → AnswersTo a answers → AnswersTo b answers
answers_as answers same is = subst (λ due. AnswersTo due answers) (sym same) is

answers_none : AnswersTo false []
unfolding yeses
answers_none = (refl, refl)

answers_no : (answers : List Bool) → AnswersTo false answers → AnswersTo false (false ∷ answers)
unfolding yeses
answers_no answers is = (is.0, refl)

answers_yes : (answers : List Bool) → AnswersTo false answers → AnswersTo true (true ∷ answers)
unfolding yeses
answers_yes answers is = (ap (λ n. n + 1) is.0, refl)

answers_first : (asked : Bool) → AnswersTo false (if asked then false ∷ [] else [])
answers_first true = answers_no [] answers_none
answers_first false = answers_none

-- ---- one call each asks no gate
undue : (v w : PortValue) (r : Request) (e : Stop) → r.rose ≡ false → Stops v w r e → is_due_stop e ≡ false
unfolding Stops
undue v w r (Paused Due) calm stops = absurd (let rose = stops.0 in cc)
undue v w r _ calm stops = refl

on_undue : {owner : ℕ} {v w : PortValue} {ts us : List TableWork} {r : Result Bool Stop} → TookOn owner v ts w us r → is_due_answer r ≡ false
on_undue (TookOn.fresh v t ts none) = refl
on_undue (TookOn.settled v w t ts some a) = refl
on_undue (TookOn.taken v u w t ts f some a b) = refl
on_undue (TookOn.opened v u w t ts us f progress answer some a b) = on_undue b
on_undue {owner} (TookOn.waiting v u w t ts f stamp stop some a b) = undue v u (of_entries owner 0) stop refl (a.shows 0).2
on_undue {owner} (TookOn.stopped v w t ts stop some a) = undue v w (of_entries owner 0) stop refl (a.stops 0)

step_undue : {owner : ℕ} {v w : PortValue} {ts us : List TableWork} {r : Result Bool Stop} → Advanced owner v ts w us r → is_due_answer r ≡ false
step_undue (Advanced.recorded v w t ts few a) = refl
step_undue (Advanced.opened v u w t ts us f progress own done few a b) = refl
step_undue (Advanced.cut_off v u w t ts us f progress own stop few a b) = on_undue b
step_undue {owner} (Advanced.unsettled v w t ts stop few a) = undue v w (of_entries owner 0) stop refl (a.shows 0).2
step_undue {owner} (Advanced.stopped v w t ts stop few a) = undue v w (of_entries owner 0) stop refl (a.stops 0)
step_undue (Advanced.completed v u w t outer ts full a b) = refl

-- ---- one behind the other
filled_answers : {owner : ℕ} {v : PortValue} {ts : List TableWork} {before : List Bool} → AnswersTo false before → {w : PortValue} {us : List TableWork} {answers : List Bool} {r : Result (Unit {0}) Stop} → Filled owner v ts before w us answers r → AnswersTo (is_due_answer r) answers
filled_answers first Filled.begun = first
filled_answers first (Filled.unasked u w us xs done answers filled step off) = filled_answers first filled
filled_answers first (Filled.asked u w us xs answers filled step on) = answers_no answers (filled_answers first filled)
filled_answers first (Filled.due u w us xs answers filled step on) = answers_yes answers (filled_answers first filled)
filled_answers first (Filled.stopped u w us xs answers stop filled step) = answers_as answers (step_undue step) (filled_answers first filled)

worked_answers : {owner : ℕ} {v w : PortValue} {t : TableWork} {us : List TableWork} {answers : List Bool} {r : Result (Unit {0}) Stop} → Worked owner v t w us answers r → AnswersTo (is_due_answer r) answers
worked_answers (Worked.cut_off w us stop took) = answers_as [] (on_undue took) answers_none
worked_answers (Worked.due w us took on) = answers_yes [] answers_none
worked_answers (Worked.filled u w us xs done answers answer took filled) = filled_answers (answers_first (done && is_asked us)) filled

pub acquired_answers : {v w : PortValue} {f owner level : ℕ} {answers : List Bool} {r : Result ℕ Stop} → Acquired v f owner level w answers r → AnswersTo (is_due_answer r) answers
acquired_answers {v} {f} {owner} (Acquired.unreferred w stop ref) = answers_as [] (undue v w (of_frame f owner None) stop refl ref.stops) answers_none
acquired_answers {f} {owner} {level} (Acquired.untyped u x w stop ref type back) = answers_as [] (undue u x (of_frame f owner (Some (level_type level))) stop refl type.stops) answers_none
acquired_answers (Acquired.counted u w ref type) = answers_none
acquired_answers {f} {owner} {level} (Acquired.waiting u x w own stamp stop ref type left) = answers_as [] (undue u x (of_frame f owner (Some (level_type level))) stop refl type.waits.1) answers_none
acquired_answers (Acquired.unfinished u x y w progress own us answers stop ref type work left) = worked_answers work
acquired_answers (Acquired.finished u x y w progress own t answers ref type work full made) = worked_answers work
