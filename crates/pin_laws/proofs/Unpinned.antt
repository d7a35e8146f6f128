-- A frame that is had as a table is not pinned, unless it was pinned with that type before.
use Rattle.std.proofs.Common.{◌≡◌, ◌⊎◌, ℕ, ◌+◌, ◌<◌, ◌≤◌, ◌^◌, ◌||◌, ◌==◌, Bool, true, false, List, [], ◌∷◌, None, Result, Ok, IfOk, IsTrue, refl, sym, ap, ◌∙◌, subst, inl, inr, arith}
use Rattle.std.proofs.lemmas.Bool.Decides.{nat_tests}
use Rattle.xp_words.specs.KindWords.{is_kind, kind_fields, kind_write}
use Rattle.xp_words.specs.Machine.{IsMachine}
use Rattle.xp_words.specs.PageTypes.{type_number}
use Rattle.xp_words.specs.declared.kind.KindWord.{KindWord}
use Rattle.xp_words.specs.declared.kind.PageType.{PageType}
use Rattle.xp_words.specs.declared.place.Place.TheVariants.{Kind, Refs}
use Rattle.xp_words.specs.declared.reply.Stop.{Stop}
use Rattle.xp_board.specs.Acts.{left_by}
use Rattle.xp_board.specs.KindSteps.{raised_kind}
use Rattle.xp_board.specs.Readings.{kind_at}
use Rattle.xp_board.specs.Told.{PortValue, is_telling, told_word}
use Rattle.xp_board.proofs.EntryWords.{type_same}
use Rattle.step_maker.specs.Plain.{Words}
use Rattle.step_maker.proofs.Coming.{came_trans}
use Rattle.step_maker.proofs.Telling.{came_telling, told_here}
use Rattle.step_maker.specs.Twins.{Alike, IsAlikeKind}
use Rattle.step_maker.proofs.Visiting.{does_came}
use Rattle.frame_words.specs.Plain.{refer}
use Rattle.kind_words.specs.Kinds.{live_kind}
use Rattle.kind_words.proofs.KindWriting.{fields_write, live_is, raised_is}
use Rattle.frame_types.specs.Plain.{IsTakenBy, is_read_first, set_kind, taken_by}
use Rattle.frame_types.specs.Standing.{standing_of}
use Rattle.frame_types.specs.declared.standing.Standing.{Standing}
use Rattle.frame_types.specs.declared.standing.Standing.TheVariants as stands
use Rattle.frame_types.specs.declared.taking.Taken.TheVariants as types
use Rattle.frame_types.proofs.Plainly.{stored_there as set_here}
use Rattle.partial_state.specs.Levels.{level_type}
use Rattle.partial_state.specs.declared.stack.TableWork.{TableWork}
use Rattle.partial_state.proofs.LevelFacts.{level_type-table, level_type-typed}
use Rattle.table_law.specs.Lawful.{IsAtRest}
use Rattle.table_law.specs.Plain.{plain_of}
use Rattle.table_entries.specs.Acquiring.{Acquired, GotRef, MadeLive, TookType, counted, finished, outermost_table, type_counts, unfinished, unreferred, untyped, waiting}
use Rattle.table_entries.proofs.Shared.{few_counts}
use Rattle.mmuext_ops.specs.Course.{IsPinnedAs, is_pinned}
use Rattle.course_laws.specs.Courses.{IsOrderly}
use Rattle.course_laws.proofs.Frames.{IsFrame, count_at}
use Rattle.course_laws.proofs.Lending.{lent_there, was_room}
use Rattle.course_laws.proofs.Starting.{described, rest_frames}
use Rattle.course_laws.proofs.Walking.{worked_came}
use Rattle.pin_laws.proofs.Lending.{got_there}
use Rattle.pin_laws.proofs.Looking.{kind_apart}
use Rattle.course_laws.proofs.Outermost.{worked_outermost}

-- ---- made live
live_unpinned : (l : ℕ) (own : Bool) → is_pinned (kind_write (live_kind (level_type l) (type_counts own))) ≡ false
live_unpinned l own =
    ap (λ (k : KindWord). k.pinned) (fields_write (live_kind (level_type l) (type_counts own)) (live_is (level_type l) (level_type-typed l) (type_counts own) (few_counts own)))

made_unpinned : (y w : PortValue) (t : TableWork) (f : ℕ) → is_telling y ≡ true → MadeLive y w t → t.frame ≡ f → is_pinned (told_word w (Kind f)) ≡ false
unfolding left_by
made_unpinned y w t f telling made same =
    subst (λ g. is_pinned (told_word w (Kind g)) ≡ false) same
    (ap is_pinned (told_here y w (Kind t.frame) _ _ _ made.0 made.1 telling) ∙ live_unpinned t.level t.own)

-- ---- one type count more

alike_pinned : (x y : ℕ) → (x ≡ y) ⊎ IsAlikeKind (kind_fields x) (kind_fields y) → is_pinned x ≡ is_pinned y
alike_pinned x y (inl same) = ap is_pinned same
alike_pinned x y (inr alike) = sym (ap (λ (k : KindWord). k.pinned) alike.1)

-- live with that type, and counted
record IsCounted (k : KindWord) (t : PageType) : Type 0 where
  live : k.validated ≡ true
  some : 0 < k.number
  kind : k.kind ≡ t

counted_says : (k : KindWord) (t : PageType) → standing_of k t ≡ stands.Counted → IsCounted k t
counted_says k t is = record { live = grind (arith, nat_tests); some = grind (arith, nat_tests); kind = type_same k.kind t (grind (arith, nat_tests)) }

unpinned_by : (b : Bool) (P : Type 0) → (b ≡ true → P) → (P → ⊥) → b ≡ false
unpinned_by false P is free = refl
unpinned_by true P is free = absurd (free (is refl))

module _ (m x : Words) (f level : ℕ) (low : 1 ≤ level) (free : IsPinnedAs level (m (Kind f)) → ⊥) (spelled : IsTrue (is_kind (kind_at m f))) (few : (kind_at m f).validated ≡ true → (kind_at m f).number + 1 < 2 ^ 26) where
  read_first : is_read_first (level_type level) ≡ true
  read_first = ap (λ b. b || (type_number (level_type level) == 5)) (level_type-table level low)

  raised_unpinned : standing_of (kind_at m f) (level_type level) ≡ stands.Counted → Alike x (set_kind f (raised_kind (kind_at m f)) m) → is_pinned (x (Kind f)) ≡ false
  raised_unpinned is alike =
      let k = kind_at m f in
      let c = counted_says k (level_type level) is in
      let fields = fields_write (raised_kind k) (raised_is k spelled c.live c.some (few c.live)) in
      alike_pinned (x (Kind f)) (set_kind f (raised_kind k) m (Kind f)) (alike (Kind f)) ∙ ap is_pinned (set_here f (raised_kind k) m)
      ∙ ap (λ (j : KindWord). j.pinned) fields ∙ unpinned_by k.pinned (IsPinnedAs level (m (Kind f))) (λ pinned. (pinned, c.kind)) free

  pub counted_unpinned : (s : Standing) → standing_of (kind_at m f) (level_type level) ≡ s → IsTakenBy (level_type level) (kind_at m f) s types.Counted →
      Alike x (taken_by f (level_type level) (kind_at m f) s types.Counted m) → is_pinned (x (Kind f)) ≡ false
  counted_unpinned stands.Counted is way alike = raised_unpinned is alike
  counted_unpinned stands.Dead is way alike = absurd (let e = sym way ∙ read_first in cc)
  counted_unpinned stands.Partial is way alike = absurd (let e = sym way ∙ read_first in cc)
  counted_unpinned stands.Busy is way alike = absurd (let e = sym way ∙ read_first in cc)
  counted_unpinned stands.Other is way alike = absurd (let e = sym way ∙ read_first in cc)

-- ---- a whole acquisition
module _ (c : PortValue) (d f level : ℕ) (machine : IsMachine c.post.machine) (telling : is_telling c ≡ true) (calm : IsAtRest c.post.machine (told_word c)) (orderly : IsOrderly c.post.machine (told_word c)) (low : 1 ≤ level) (free : IsPinnedAs level (told_word c (Kind f)) → ⊥) where
  -- what the kind word is that the type is taken of
  abbrev MayCount : ℕ → Type 0
  MayCount y = (IsPinnedAs level y → ⊥) × IsTrue (is_kind (kind_fields y)) × ((kind_fields y).validated ≡ true → (kind_fields y).number + 1 < 2 ^ 26)

  module _ (u : PortValue) (ref : GotRef c u f d (Ok f)) where
    none : refer c.post.machine d f (told_word c (Refs f)) ≡ None
    none = (ref.plain telling).0

    telling_under : is_telling u ≡ true
    telling_under = came_telling c u (does_came c u _ ref.found) ∙ telling

    same_kind : told_word u (Kind f) ≡ told_word c (Kind f)
    same_kind = (ref.plain telling).1 (Kind f) ∙ got_there c.post.machine (told_word c) d f machine none (Kind f) (kind_apart f)

    inside : f < c.post.machine.frames
    inside = (lent_there c.post.machine (told_word c) (plain_of (told_word c)) d f machine (described c.post.machine (told_word c)) none).inside

    room : count_at (told_word c) f < c.post.machine.limit
    room = was_room c.post.machine (told_word c) (plain_of (told_word c)) d f machine (described c.post.machine (told_word c)) none

    few_by : IsFrame (kind_at (told_word c) f) (count_at (told_word c) f) [] f → (kind_at (told_word c) f).validated ≡ true → (kind_at (told_word c) f).number + 1 < 2 ^ 26
    few_by (inl aside) is =
        elim aside.stands [
          | inl dead ↦ absurd (let e = is in cc)
          | inr live ↦ let most = live.within in let more = room in let few = machine.few_counts in omega arith
        ]
    few_by (inr work) is = absurd work

    may_count : MayCount (told_word u (Kind f))
    may_count =
        subst MayCount (sym same_kind) (free, orderly.spelled f inside, few_by (rest_frames c.post.machine (told_word c) calm orderly f inside))

    counted_had : (w : PortValue) → TookType u w f d level (Ok types.Counted) → is_pinned (told_word w (Kind f)) ≡ false
    counted_had w type =
        let a = type.plain telling_under in
        counted_unpinned (told_word u) (told_word w) f level low may_count.0 may_count.1 may_count.2 (standing_of (kind_at (told_word u) f) (level_type level)) refl a.1 a.2

  pub had_unpinned : (e : PortValue) (answers : List Bool) (answer : Result ℕ Stop) → Acquired c f d level e answers answer → IfOk answer (λ g. is_pinned (told_word e (Kind f)) ≡ false)
  had_unpinned _ _ _ (unreferred w stop ref) = tt
  had_unpinned _ _ _ (untyped u x w stop ref type back) = tt
  had_unpinned _ _ _ (counted u w ref type) = counted_had u ref w type
  had_unpinned _ _ _ (waiting u x w own stamp stop ref type left) = tt
  had_unpinned _ _ _ (unfinished u x y w progress own us answers stop ref type work left) = tt
  had_unpinned _ _ _ (finished u x y w progress own t answers ref type work full made) =
      let came = came_trans c x y (came_trans c u x (does_came c u _ ref.found) (does_came u x _ type.found)) (worked_came d x (outermost_table f level progress own) y (t ∷ []) answers _ work) in
      made_unpinned y w t f (came_telling c y came ∙ telling) made (worked_outermost d f level x (outermost_table f level progress own) y (t ∷ []) answers _ work (refl, refl)).0
