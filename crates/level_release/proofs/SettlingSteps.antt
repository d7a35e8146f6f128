-- What an old word names is settled: by which steps.
use Rattle.std.proofs.Common.{◌≤◌, ◌≡◌, ◌≢◌, ℕ, Option, Bool, true, false, List, [], None, Some, Result, Ok, Err, IsTrue, refl, sym, ap, ◌∙◌, subst}
use Rattle.xp_words.specs.KindWords.{kind_fields, kind_read, kind_write}
use Rattle.xp_words.specs.Places.{number, sizes_of}
use Rattle.xp_words.specs.declared.kind.KindWord.{KindWord}
use Rattle.xp_words.specs.declared.kind.PageType.{PageType}
use Rattle.xp_words.specs.declared.place.Place.TheVariants.{Clock, Kind, Refs}
use Rattle.xp_words.specs.declared.reply.Pause.TheVariants.{Lost}
use Rattle.xp_words.specs.declared.reply.Stop.{Stop}
use Rattle.xp_words.specs.declared.reply.Stop.TheVariants.{Paused}
use Rattle.xp_board.specs.KindSteps.{Partial, form_of, resumed_kind}
use Rattle.xp_board.specs.Readings.{is_partial}
use Rattle.xp_board.specs.Told.{Post, PortValue}
use Rattle.xp_board.specs.declared.step.Act.TheVariants.{Cas, Load, Store}
use Rattle.xp_board.specs.declared.step.StepKind.TheVariants as kinds
use Rattle.xp_board.proofs.KindForms.{fields_of}
use Rattle.step_maker.specs.Moves.{Moves}
use Rattle.step_maker.proofs.Coming.{came_post, moves_came}
use Rattle.step_maker.specs.Visits.{Does, Only, Then, visit}
use Rattle.step_maker.proofs.Visiting.{does_as, does_one, does_then}
use Rattle.frame_words.specs.Freeing.{PutBy, Puts}
use Rattle.kind_words.specs.Kinds.{dead_kind}
use Rattle.kind_words.proofs.KindFacts.{read_is}
use Rattle.frame_types.specs.Found.{Dies, StoresKind}
use Rattle.partial_state.specs.Levels.{level_type}
use Rattle.table_releases.specs.Found.{has_recorded}
use Rattle.table_words.specs.declared.old_words.OldWord.{OldWord}
use Rattle.kept_marks.proofs.MarkWords.{partial_form}
use Rattle.level_release.specs.Asking.{is_due_stop}
use Rattle.table_entries.specs.Acquiring.{Named}
use Rattle.level_release.specs.Course.{EmptiedTo, SettledOneTo, SettledPartial, left_partial, resumed_table}
use Rattle.level_release.specs.Course as courses
use Rattle.level_release.specs.Settling.{TookOld}
use Rattle.level_release.proofs.Taken.{took_post}

-- ---- a frame is left dead with a clock value that was found, and its reference given back
pub dies : {d a e : PortValue} {f x clock : ℕ} (want : PageType) (marked : Bool) → Moves d a Clock Load kinds.Look None clock → Moves a e (Kind f) (Store (kind_write (dead_kind want marked clock))) kinds.Kind None x → Does d e (Dies f want marked)
dies {d} {a} {e} {f} {x} {clock} want marked look store =
    let k = dead_kind want marked clock in
    does_as d e (Then (Only (visit Clock Load clock)) (StoresKind f k)) (Dies f want marked) (λ vs steps. (clock, steps))
    (does_then d a e (Only (visit Clock Load clock)) (StoresKind f k) (does_one d a Clock Load kinds.Look None clock look)
    (does_as a e (Only (visit (Kind f) (Store (kind_write k)) x)) (StoresKind f k) (λ vs one. (x, one)) (does_one a e (Kind f) (Store (kind_write k)) kinds.Kind None x store)))

pub dead_steps : {d a e : PortValue} (w : PortValue) {f x clock : ℕ} (want : PageType) (marked : Bool) → Moves d a Clock Load kinds.Look None clock → Moves a e (Kind f) (Store (kind_write (dead_kind want marked clock))) kinds.Kind None x → Puts e w f →
    Does d w (λ vs. Then (Dies f want marked) (PutBy f) vs)
dead_steps {d} {a} {e} w {f} {x} {clock} want marked look store put = does_then d e w (Dies f want marked) (PutBy f) (dies want marked look store) put

-- ---- a pause that is not for the gate
pub lost_undue : {e : Stop} (place expected found : ℕ) → e ≡ Paused (Lost place expected found) → is_due_stop e ≡ false
lost_undue place expected found is = ap is_due_stop is

-- ---- a partial frame

module _ {u v : PortValue} {which : OldWord} {f word : ℕ} (t : TookOld u v which f word) {k : KindWord} (read : kind_read word ≡ Some k) (partial : IsTrue (is_partial k)) {d : PortValue} {found : ℕ}
    (change : Moves v d (Kind f) (Cas (kind_write k) (kind_write (resumed_kind k))) kinds.Kind None found) where
  fields : kind_fields word ≡ k
  fields = fields_of word k read

  was : word ≡ kind_write k
  was = (read_is word k read).1

  form_is : form_of (kind_fields word) ≡ Partial
  form_is = ap form_of fields ∙ partial_form k partial

  change_as : Moves v d (Kind f) (Cas word (kind_write (resumed_kind (kind_fields word)))) kinds.Kind None found
  change_as =
      subst (λ y. Moves v d (Kind f) (Cas word (kind_write (resumed_kind y))) kinds.Kind None found) (sym fields)
      (subst (λ y. Moves v d (Kind f) (Cas y (kind_write (resumed_kind k))) kinds.Kind None found) (sym was) change)

  -- another word was found
  pub lost_course : (below : Option ℕ) (w : PortValue) {e : Stop} → found ≢ kind_write k → e ≡ Paused (Lost (number (sizes_of d.post.machine) (Kind f)) word found) → Named d w f → SettledOneTo below below u which w [] (Err e)
  lost_course below w off is again =
      subst (λ y. SettledOneTo below below u which w [] (Err y))
      (sym (is ∙ ap (λ (p : Post). Paused (Lost (number (sizes_of p.machine) (Kind f)) word found)) (came_post v d (moves_came v d (Kind f) (Cas (kind_write k) (kind_write (resumed_kind k))) kinds.Kind None found change) ∙ took_post t)))
      (courses.lost t.a t.b v d w f word found t.look t.take t.kind form_is change_as (λ same. off (same ∙ was)) again, refl)

  module _ (at : found ≡ kind_write k) where
    PartialTo : Option ℕ → Option ℕ → PortValue → KindWord → List Bool → Result (Unit {0}) Stop → Bool → Type 0
    PartialTo below left w y answers answer has = (steps : SettledPartial below d w f y answers answer has) × (left ≡ left_partial below d w f y answers answer has steps)

    settled_by : (below left : Option ℕ) (w : PortValue) (answers : List Bool) (answer : Result (Unit {0}) Stop) {has : Bool} → has_recorded k.kind k ≡ has → PartialTo below left w k answers answer has → SettledOneTo below left u which w answers answer
    unfolding PartialTo
    settled_by below left w answers answer is settled =
        let same : PartialTo below left w (kind_fields word) answers answer (has_recorded (kind_fields word).kind (kind_fields word)) =
        subst (λ (y : KindWord). PartialTo below left w y answers answer (has_recorded y.kind y)) (sym fields) (subst (λ b. PartialTo below left w k answers answer b) (sym is) settled) in
        (courses.partial t.a t.b v d w f word answers answer t.look t.take t.kind form_is (subst (λ y. Moves v d (Kind f) (Cas word (kind_write (resumed_kind (kind_fields word)))) kinds.Kind None y) (at ∙ sym was) change_as) same.0, same.1)

    pub emptied_course : (below left : Option ℕ) {x : PortValue} (w : PortValue) {refs_word : ℕ} (level : ℕ) (answers : List Bool) (answer : Result (Unit {0}) Stop) → has_recorded k.kind k ≡ true → level_type level ≡ k.kind → level ≤ 4 → Moves d x (Refs f) Load kinds.Look None refs_word →
        EmptiedTo below left x (resumed_table f level k) w answers answer → SettledOneTo below left u which w answers answer
    unfolding PartialTo
    emptied_course below left {x} w {refs_word} level answers answer has is high look emptied = settled_by below left w answers answer has ((x, refs_word, level, is, high, look, emptied.0), emptied.1)

    pub dead_course : (below : Option ℕ) (w : PortValue) → has_recorded k.kind k ≡ false → Does d w (λ vs. Then (Dies f k.kind k.unflushed) (PutBy f) vs) → SettledOneTo below below u which w [] (Ok tt)
    unfolding PartialTo
    dead_course below w none steps = settled_by below below w [] (Ok tt) none ((refl, refl, steps), refl)
