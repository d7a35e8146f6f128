-- Tables are emptied until none is left: one entry or one table is determined, and so is the loop over them.
use Rattle.std.proofs.Common.{◌≡◌, ℕ, ◌<◌, ◌&&◌, if◌then◌else◌, Bool, true, false, List, [], ◌∷◌, Option, Result, Ok, Err, length, refl, sym, ap, ◌∙◌, subst, arith}
use Rattle.xp_words.specs.declared.reply.Pause.TheVariants.{Due}
use Rattle.xp_words.specs.declared.reply.Stop.{Stop}
use Rattle.xp_words.specs.declared.reply.Stop.TheVariants.{Paused}
use Rattle.xp_preempt.specs.Gates.{GivesAnswers, answer_at, asks_on}
use Rattle.xp_board.specs.Told.{PortValue}
use Rattle.step_maker.specs.Moves.{Came}
use Rattle.step_maker.proofs.Coming.{came_self, came_trans}
use Rattle.partial_state.specs.Levels.{level_type}
use Rattle.partial_state.specs.declared.stack.TableWork.{TableWork}
use Rattle.table_releases.specs.declared.entries.Released.{Released}
use Rattle.table_releases.specs.declared.entries.Released.TheVariants.{Given, Opened}
use Rattle.level_release.specs.Course as course
use Rattle.level_release.specs.Course.{Emptied, GaveEntry, Lowered, MadeDead, RanDown, UnwoundDown, is_asked_within, left_by, left_emptied, one_more_done, table_under}
use Rattle.level_release.proofs.HandsLowered.{gave_came}
use Rattle.level_release.proofs.ServingRun.{unwound_came}
use Rattle.determined_laws.specs.Courses.{Alike}
use Rattle.determined_laws.proofs.Courses.{Goes, alike_apart, alike_map, alike_then, goes_same, more, none}
use Rattle.determined_releases.proofs.Calls.{alike_with, dead_alike, dead_came, gave_entry_alike, unwound_alike}

-- ---- one entry, or one table
-- what an entry leaves of the tables, and what is answered of it
abbrev tables_on : TableWork → List TableWork → Result Released Stop → List TableWork
tables_on t ts (Ok Given) = one_more_done t ∷ ts
tables_on t ts (Ok (Opened f recorded closing)) = table_under t f recorded closing ∷ one_more_done t ∷ ts
tables_on t ts (Err stop) = t ∷ ts

abbrev answer_on : Result Released Stop → Result Bool Stop
answer_on (Ok Given) = Ok true
answer_on (Ok (Opened f recorded closing)) = Ok false
answer_on (Err stop) = Err stop

data LoweredBy (v : PortValue) (t : TableWork) (ts : List TableWork) (w : PortValue) (us : List TableWork) (a : Result Bool Stop) : Type 0 where
  entry : (r : Result Released Stop) → t.done < 512 → GaveEntry v w t r → us ≡ tables_on t ts r → a ≡ answer_on r → LoweredBy v t ts w us a
  table : t.done ≡ 512 → MadeDead v w t → us ≡ ts → a ≡ Ok true → LoweredBy v t ts w us a

lowered_by : {v w : PortValue} {t : TableWork} {ts us : List TableWork} {a : Result Bool Stop} → Lowered v (t ∷ ts) w us a → LoweredBy v t ts w us a
lowered_by (course.given v w t ts few gave) = entry (Ok Given) few gave refl refl
lowered_by (course.opened v w t ts f recorded closing few gave) = entry (Ok (Opened f recorded closing)) few gave refl refl
lowered_by (course.stopped v w t ts stop few gave) = entry (Err stop) few gave refl refl
lowered_by (course.emptied v w t ts all dead) = table all dead refl refl

lowered_none : {A : Type 0} {v w : PortValue} {us : List TableWork} {a : Result Bool Stop} → Lowered v [] w us a → A
lowered_none p = absurd (of p refl)
  where
    of : {v w : PortValue} {ts us : List TableWork} {a : Result Bool Stop} → Lowered v ts w us a → ts ≡ [] → ⊥
    of (course.given v w t ts few gave) e = cc
    of (course.opened v w t ts f recorded closing few gave) e = cc
    of (course.stopped v w t ts stop few gave) e = cc
    of (course.emptied v w t ts all dead) e = cc

by_came : {v w : PortValue} {t : TableWork} {ts us : List TableWork} {a : Result Bool Stop} → LoweredBy v t ts w us a → Came v w
by_came (entry r few gave left is) = gave_came gave
by_came {v} {w} {t} (table all dead left is) = dead_came v w t.frame (level_type t.level) false dead.found

by_alike : {v w x : PortValue} {t : TableWork} {ts us rs : List TableWork} {a b : Result Bool Stop} → LoweredBy v t ts w us a → LoweredBy v t ts x rs b → Alike v w x ((us ≡ rs) × (a ≡ b))
by_alike {t = t} {ts} (entry r few gave left is) (entry s less given right are) =
    alike_map (gave_entry_alike gave given) (λ e. (left ∙ (ap (λ z. tables_on t ts z) e ∙ sym right), is ∙ (ap (λ z. answer_on z) e ∙ sym are)))
by_alike (entry r few gave left is) (table all dead right are) = absurd (omega (arith, few, all))
by_alike (table all dead left is) (entry s less given right are) = absurd (omega (arith, less, all))
by_alike {v} {w} {x} {t} (table all dead left is) (table full died right are) = alike_map (dead_alike v w t.frame (level_type t.level) false x dead.found died.found) (λ e. (left ∙ sym right, is ∙ sym are))

pub lowered_came : (v w : PortValue) (ts us : List TableWork) (a : Result Bool Stop) → Lowered v ts w us a → Came v w
lowered_came v w [] us a p = lowered_none p
lowered_came v w (t ∷ ts) us a p = by_came (lowered_by p)

pub lowered_alike : (v w x : PortValue) (ts us rs : List TableWork) (a b : Result Bool Stop) → Lowered v ts w us a → Lowered v ts x rs b → Alike v w x ((us ≡ rs) × (a ≡ b))
lowered_alike v w x [] us rs a b p q = lowered_none p
lowered_alike v w x (t ∷ ts) us rs a b p q = by_alike (lowered_by p) (lowered_by q)

-- ---- the loop, from its end: where it stands, with the answers of the gate
record Point : Type 0 where
  pub port : PortValue
  pub tables : List TableWork
  pub answers : List Bool
  pub result : Result (Unit {0}) Stop

abbrev point : PortValue → List TableWork → List Bool → Result (Unit {0}) Stop → Point
point v ts answers r = record { port = v; tables = ts; answers = answers; result = r }

point_same : (s t : Point) → s.port ≡ t.port → s.tables ≡ t.tables → s.answers ≡ t.answers → s.result ≡ t.result → s ≡ t
point_same s t a b c d = rw (a, b, c, d) refl

-- where none is left, or it stopped, it does not go on
data Ended : List TableWork → Result (Unit {0}) Stop → Type 0 where
  none_left : (r : Result (Unit {0}) Stop) → Ended [] r
  at_stop : (us : List TableWork) (stop : Stop) → Ended us (Err stop)

module _ (says : ℕ → Bool) (n : ℕ) (below : Option ℕ) where
  -- what the gate says to the next ask
  abbrev said : List Bool → Bool
  said answers = answer_at says (asks_on (length answers) n)

  abbrev asked_on : List Bool → Bool → List Bool
  asked_on answers asks = if asks then said answers ∷ answers else answers

  abbrev paused_on : List Bool → Bool → Result (Unit {0}) Stop
  paused_on answers asks = if asks && said answers then Err (Paused Due) else Ok tt

  abbrev answers_on : List Bool → List TableWork → Result Bool Stop → List Bool
  answers_on answers xs (Ok done) = asked_on answers (done && is_asked_within below xs)
  answers_on answers xs (Err stop) = answers

  abbrev result_on : List Bool → List TableWork → Result Bool Stop → Result (Unit {0}) Stop
  result_on answers xs (Ok done) = paused_on answers (done && is_asked_within below xs)
  result_on answers xs (Err stop) = Err stop

  record Next (s t : Point) : Type 0 where
    pub going : s.result ≡ Ok tt
    pub answer : Result Bool Stop
    pub lowers : Lowered s.port s.tables t.port t.tables answer
    pub answers : t.answers ≡ answers_on s.answers t.tables answer
    pub result : t.result ≡ result_on s.answers t.tables answer

  next_came : (s t : Point) → Next s t → Came s.port t.port
  next_came s t p = lowered_came s.port t.port s.tables t.tables p.answer p.lowers

  next_alike : (s t u : Point) → Next s t → Next s u → Alike s.port t.port u.port (t ≡ u)
  next_alike s t u p q =
      alike_with (lowered_alike s.port t.port u.port s.tables t.tables u.tables p.answer q.answer p.lowers q.lowers)
      (λ same e. point_same t u same e.0
      (p.answers ∙ (ap (λ z. answers_on s.answers z p.answer) e.0 ∙ (ap (λ z. answers_on s.answers u.tables z) e.1 ∙ sym q.answers)))
      (p.result ∙ (ap (λ z. result_on s.answers z p.answer) e.0 ∙ (ap (λ z. result_on s.answers u.tables z) e.1 ∙ sym q.result))))

  module _ (v : PortValue) (ts : List TableWork) where
    abbrev start : Point
    start = point v ts [] (Ok tt)

    ran_goes : (w : PortValue) (us : List TableWork) (answers : List Bool) (r : Result (Unit {0}) Stop) → RanDown below v ts w us answers r → GivesAnswers says n answers → Goes Next start (point w us answers r)
    unfolding GivesAnswers
    ran_goes _ _ _ _ course.begun g = none
    ran_goes _ _ _ _ (course.unasked u w us xs done answers before lowered off) g =
        more (point u us answers (Ok tt)) (point w xs answers (Ok tt)) (ran_goes u us answers (Ok tt) before g)
        (record { going = refl; answer = Ok done; lowers = lowered; answers = sym (ap (λ z. asked_on answers z) off); result = sym (ap (λ z. paused_on answers z) off) })
    ran_goes _ _ _ _ (course.asked u w us xs answers before lowered on) g =
        more (point u us answers (Ok tt)) (point w xs (false ∷ answers) (Ok tt)) (ran_goes u us answers (Ok tt) before g.1)
        (record { going = refl; answer = Ok true; lowers = lowered; answers = rw on (ap (λ z. z ∷ answers) g.0); result = rw on (ap (λ z. if z then Err (Paused Due) else Ok tt) g.0) })
    ran_goes _ _ _ _ (course.due u w us xs answers before lowered on) g =
        more (point u us answers (Ok tt)) (point w xs (true ∷ answers) (Err (Paused Due))) (ran_goes u us answers (Ok tt) before g.1)
        (record { going = refl; answer = Ok true; lowers = lowered; answers = rw on (ap (λ z. z ∷ answers) g.0); result = rw on (ap (λ z. if z then Err (Paused Due) else Ok tt) g.0) })
    ran_goes _ _ _ _ (course.stopped u w us xs answers stop before lowered) g =
        more (point u us answers (Ok tt)) (point w xs answers (Err stop)) (ran_goes u us answers (Ok tt) before g) (record { going = refl; answer = Err stop; lowers = lowered; answers = refl; result = refl })

    no_more : {A : Type 0} (w : PortValue) (us : List TableWork) (answers : List Bool) (r : Result (Unit {0}) Stop) (k : Point) → Ended us r → Next (point w us answers r) k → A
    no_more w _ answers _ k (none_left r) p = lowered_none p.lowers
    no_more w _ answers _ k (at_stop us stop) p = absurd (let e = p.going in cc)

    ran_alike : (w x : PortValue) (us rs : List TableWork) (answers others : List Bool) (a b : Result (Unit {0}) Stop) → Ended us a → Ended rs b → GivesAnswers says n answers → GivesAnswers says n others →
        RanDown below v ts w us answers a → RanDown below v ts x rs others b → Alike v w x (point w us answers a ≡ point x rs others b)
    ran_alike w x us rs answers others a b ended out g h p q =
        goes_same Next (λ s. s.port) next_came next_alike start (point w us answers a) (point x rs others b) (λ k s. no_more w us answers a k ended s) (λ k s. no_more x rs others b k out s)
        (ran_goes w us answers a p g) (ran_goes x rs others b q h)

pub ran_came : {below : Option ℕ} (v : PortValue) (ts : List TableWork) (w : PortValue) (us : List TableWork) (answers : List Bool) (r : Result (Unit {0}) Stop) → RanDown below v ts w us answers r → Came v w
ran_came v ts _ _ _ _ course.begun = came_self v
ran_came v ts _ _ _ _ (course.unasked u w us xs done answers before lowered off) = came_trans v u w (ran_came v ts u us answers (Ok tt) before) (lowered_came u w us xs (Ok done) lowered)
ran_came v ts _ _ _ _ (course.asked u w us xs answers before lowered on) = came_trans v u w (ran_came v ts u us answers (Ok tt) before) (lowered_came u w us xs (Ok true) lowered)
ran_came v ts _ _ _ _ (course.due u w us xs answers before lowered on) = came_trans v u w (ran_came v ts u us answers (Ok tt) before) (lowered_came u w us xs (Ok true) lowered)
ran_came v ts _ _ _ _ (course.stopped u w us xs answers stop before lowered) = came_trans v u w (ran_came v ts u us answers (Ok tt) before) (lowered_came u w us xs (Err stop) lowered)

-- ---- one table and all in it
pub emptied_came : {below : Option ℕ} {v w : PortValue} {t : TableWork} {answers : List Bool} {a : Result (Unit {0}) Stop} → Emptied below v t w answers a → Came v w
emptied_came {v = v} {t = t} (course.finished w answers ran) = ran_came v (t ∷ []) w [] answers (Ok tt) ran
emptied_came {v = v} {t = t} (course.paused u w us answers stop ran left) = came_trans v u w (ran_came v (t ∷ []) u us answers (Err stop) ran) (unwound_came u w us left)

done_apart : {A : Type 0} {v w : PortValue} {us rs : List TableWork} {answers others : List Bool} {stop : Stop} → point v us answers (Ok tt) ≡ point w rs others (Err stop) → A
done_apart e = absurd (let r = ap (λ (z : Point). z.result) e in cc)

stop_same : (e f : Stop) → ◌≡◌ {A = Result (Unit {0}) Stop} (Err e) (Err f) → e ≡ f
stop_same e f s = cc

module _ (says : ℕ → Bool) (n : ℕ) where
  pub emptied_alike : {below : Option ℕ} {v w x : PortValue} {t : TableWork} {answers others : List Bool} {a b : Result (Unit {0}) Stop} → GivesAnswers says n answers → GivesAnswers says n others →
      (p : Emptied below v t w answers a) → (q : Emptied below v t x others b) → Alike v w x ((answers ≡ others) × (a ≡ b) × (left_emptied p ≡ left_emptied q))
  emptied_alike {below} {v} {t = t} g h (course.finished w answers ran) (course.finished x others run) =
      alike_map (ran_alike says n below v (t ∷ []) w x [] [] answers others (Ok tt) (Ok tt) (none_left (Ok tt)) (none_left (Ok tt)) g h ran run) (λ e. (ap (λ (z : Point). z.answers) e, refl, refl))
  emptied_alike {below} {v} {t = t} g h (course.finished w answers ran) (course.paused b x rs others stop run left) =
      alike_apart (came_self w) (unwound_came b x rs left) (ran_alike says n below v (t ∷ []) w b [] rs answers others (Ok tt) (Err stop) (none_left (Ok tt)) (at_stop rs stop) g h ran run) (λ e. done_apart e)
  emptied_alike {below} {v} {t = t} g h (course.paused a w us answers stop ran left) (course.finished x others run) =
      alike_apart (unwound_came a w us left) (came_self x) (ran_alike says n below v (t ∷ []) a x us [] answers others (Err stop) (Ok tt) (at_stop us stop) (none_left (Ok tt)) g h ran run) (λ e. done_apart (sym e))
  emptied_alike {below} {v} {t = t} g h (course.paused a w us answers stop ran left) (course.paused b x rs others halt run right) =
      alike_then (ran_came v (t ∷ []) a us answers (Err stop) ran) (unwound_came a w us left) (unwound_came b x rs right)
      (ran_alike says n below v (t ∷ []) a b us rs answers others (Err stop) (Err halt) (at_stop us stop) (at_stop rs halt) g h ran run)
      (λ e s. let tables : us ≡ rs = ap (λ (z : Point). z.tables) s in
      let result : ◌≡◌ {A = Result (Unit {0}) Stop} (Err stop) (Err halt) = ap (λ (z : Point). z.result) s in
      alike_map (unwound_alike us a w x left (subst (λ z. UnwoundDown a z x) (sym tables) (subst (λ z. UnwoundDown z rs x) (sym e) right)))
      (λ k. (ap (λ (z : Point). z.answers) s, result, ap (λ z. left_by below stop z) tables ∙ ap (λ z. left_by below z rs) (stop_same stop halt result))))
