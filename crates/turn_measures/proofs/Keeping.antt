-- Steps that leave the words of all vCPUs: those of a release, but where a frame is taken out of an old word or named in one.
use Rattle.std.proofs.Common.{◌≡◌, ◌≢◌, ℕ, ◌-◌, Bool, true, false, List, [], ◌∷◌, Option, Result, Ok, Err, refl, ap, ◌∙◌}
use Rattle.xp_words.specs.declared.place.Place.{Place}
use Rattle.xp_words.specs.declared.place.Place.TheVariants.{Vcpu}
use Rattle.xp_words.specs.declared.reply.Pause.TheVariants.{Due}
use Rattle.xp_words.specs.declared.reply.Stop.{Stop}
use Rattle.xp_words.specs.declared.reply.Stop.TheVariants.{Paused}
use Rattle.xp_board.specs.Lists.{EachOf}
use Rattle.xp_board.specs.Told.{PortValue, told_word}
use Rattle.xp_board.specs.declared.step.Act.{Act}
use Rattle.xp_board.specs.declared.step.Mark.{Mark}
use Rattle.xp_board.specs.declared.step.StepKind.{StepKind}
use Rattle.step_maker.specs.Moves.{Came, Moment, Moves, Ran}
use Rattle.step_maker.proofs.Coming.{came_self, came_trans, moves_came}
use Rattle.step_maker.proofs.Telling.{told_elsewhere}
use Rattle.step_maker.specs.Visits.{Visit, visits, Does}
use Rattle.step_maker.proofs.Visiting.{does_came}
use Rattle.level_release.specs.Course as course
use Rattle.level_release.specs.Course.{GaveEntry, Lowered, MadeDead, RanDown}
use Rattle.partial_state.specs.Levels.{level_type}
use Rattle.partial_state.specs.declared.stack.TableWork.{TableWork}
use Rattle.table_releases.specs.declared.entries.Released.{Released}
use Rattle.vcpu_turn.proofs.Clearing.{Apart, Aparts, elsewhere, ends_dead, released}
use Rattle.turn_measures.proofs.Weighing.{lowered_due}

-- the own steps came there, and left the words of all vCPUs
pub record Away (v w : PortValue) : Type 0 where
  pub came : Came v w
  pub same : (s k : ℕ) → told_word w (Vcpu s k) ≡ told_word v (Vcpu s k)

pub away_self : (v : PortValue) → Away v v
away_self v = record { came = came_self v; same = λ s k. refl }

pub away_trans : (v u w : PortValue) → Away v u → Away u w → Away v w
away_trans v u w a b = record { came = came_trans v u w a.came b.came; same = λ s k. b.same s k ∙ a.same s k }

apart_word : (p : Place) (s k : ℕ) → elsewhere p ≡ true → Vcpu s k ≢ p
apart_word p s k off is = absurd (let e = ap elsewhere is in cc)

pub away_moves : (v w : PortValue) (p : Place) (a : Act) (kind : StepKind) (mark : Option Mark) (found : ℕ) → elsewhere p ≡ true → Moves v w p a kind mark found → Away v w
away_moves v w p a kind mark found off m = record { came = moves_came v w p a kind mark found m; same = λ s k. told_elsewhere v w p a kind mark found m (Vcpu s k) (apart_word p s k off) }

ran_same : (v w : PortValue) (ms : List Moment) → Ran v ms w → EachOf Apart (visits ms) → (s k : ℕ) → told_word w (Vcpu s k) ≡ told_word v (Vcpu s k)
unfolding EachOf
ran_same v w [] ran off s k = ap (λ (y : PortValue). told_word y (Vcpu s k)) ran
ran_same v w (m ∷ ms) ran off s k = told_elsewhere ran.0 w m.place m.act m.kind m.mark m.found ran.2.moves (Vcpu s k) (apart_word m.place s k off.0) ∙ ran_same v ran.0 ms ran.1 off.1 s k

does_same : (v w : PortValue) (P : List Visit → Type 0) → Aparts P → Does v w P → (s k : ℕ) → told_word w (Vcpu s k) ≡ told_word v (Vcpu s k)
unfolding Does
does_same v w P off does s k = ran_same v w does.0 does.1 (off (visits does.0) does.2) s k

pub away_does : (v w : PortValue) (P : List Visit → Type 0) → Aparts P → Does v w P → Away v w
away_does v w P off does = record { came = does_came v w P does; same = does_same v w P off does }

-- ---- a table that is emptied
gave_away : (v w : PortValue) (t : TableWork) (answer : Released) → GaveEntry v w t (Ok answer) → Away v w
gave_away v w t answer gave = away_does v w _ (released v.post.machine t.frame (511 - t.done) answer (level_type t.level)) gave.entry.found

dead_away : (v w : PortValue) (t : TableWork) → MadeDead v w t → Away v w
dead_away v w t dead = away_does v w _ (ends_dead t.frame (level_type t.level) false) dead.found

lowered_away : (v : PortValue) (ts : List TableWork) (w : PortValue) (us : List TableWork) (answer : Result Bool Stop) (done : Bool) → answer ≡ Ok done → Lowered v ts w us answer → Away v w
lowered_away _ _ _ _ _ done is (course.Lowered.given v w t ts some gave) = gave_away v w t _ gave
lowered_away _ _ _ _ _ done is (course.Lowered.opened v w t ts f recorded closing some gave) = gave_away v w t _ gave
lowered_away _ _ _ _ _ done is (course.Lowered.stopped v w t ts stop some gave) = absurd (cc)
lowered_away _ _ _ _ _ done is (course.Lowered.emptied v w t ts all dead) = dead_away v w t dead

-- done, or paused for the gate
abbrev pub EndsWell : Result (Unit {0}) Stop → Type 0
EndsWell answer = (e : Stop) → answer ≡ Err e → e ≡ Paused Due

pub ran_away : (below : Option ℕ) (v : PortValue) (ts : List TableWork) (w : PortValue) (us : List TableWork) (answers : List Bool) (answer : Result (Unit {0}) Stop) → EndsWell answer → RanDown below v ts w us answers answer → Away v w
ran_away below v ts _ _ _ _ well course.RanDown.begun = away_self v
ran_away below v ts _ _ _ _ well (course.RanDown.unasked u w us xs done answers ran one off) = away_trans v u w (ran_away below v ts u us answers (Ok tt) well ran) (lowered_away u us w xs (Ok done) done refl one)
ran_away below v ts _ _ _ _ well (course.RanDown.asked u w us xs answers ran one on) = away_trans v u w (ran_away below v ts u us answers (Ok tt) well ran) (lowered_away u us w xs (Ok true) true refl one)
ran_away below v ts _ _ _ _ well (course.RanDown.due u w us xs answers ran one on) = away_trans v u w (ran_away below v ts u us answers (Ok tt) (λ e is. absurd (cc)) ran) (lowered_away u us w xs (Ok true) true refl one)
ran_away below v ts _ _ _ _ well (course.RanDown.stopped u w us xs answers stop ran one) = absurd (lowered_due u us w xs (Err stop) (ap (λ (e : Stop). Err e) (well stop refl)) one)
