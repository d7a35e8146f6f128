-- Tables, and a frame that waits, are left at a pause: each frame is as far as it was said to be.
use Rattle.std.proofs.Common.{◌≡◌, ℕ, ◌-◌, ◌<◌, ◌≤◌, ◌^◌, ◌||◌, if◌then◌else◌, Bool, true, false, List, [], ◌∷◌, None, IsTrue, refl, sym, ap, ◌∙◌, subst, arith}
use Rattle.std.proofs.lemmas.Bool.Decides.{nat_tests}
use Rattle.xp_words.specs.KindWords.{kind_fields, kind_write}
use Rattle.xp_words.specs.Machine.{Machine}
use Rattle.xp_words.specs.Places.{is_place, sizes_of}
use Rattle.xp_words.specs.declared.kind.KindWord.{KindWord}
use Rattle.xp_words.specs.declared.place.Place.TheVariants.{Clock, Life}
use Rattle.xp_words.proofs.KindLaws.{fields_back as written}
use Rattle.xp_board.specs.declared.step.Act.TheVariants.{Load}
use Rattle.xp_board.specs.declared.step.StepKind.TheVariants as kinds
use Rattle.xp_board.specs.Told.{PortValue, is_telling, told_word}
use Rattle.step_maker.specs.Moves.{Moves}
use Rattle.step_maker.specs.Plain.{Words}
use Rattle.step_maker.proofs.Coming.{moves_came}
use Rattle.step_maker.proofs.Telling.{came_telling, told_there}
use Rattle.kind_words.specs.Kinds.{partial_kind}
use Rattle.kept_marks.specs.Marks as marks
use Rattle.kept_marks.specs.Marks.{KeptFor, LeftSo}
use Rattle.partial_state.specs.Levels.{level_type}
use Rattle.partial_state.specs.declared.stack.TableWork.{TableWork}
use Rattle.table_entries.specs.Acquiring.{InnerLeft, OutermostLeft, Unwound, WaitingLeft, around_left}
use Rattle.course_laws.proofs.Awaiting.{AloneStays}
use Rattle.course_laws.proofs.Under.{IsOff}
use Rattle.course_laws.proofs.Walking.{inner_came}
use Rattle.frame_ranks.specs.Ranks.{AreAllAlive}
use Rattle.frame_ranks.proofs.Facing.{Turned, load_calm, store_turned, turned_calm}
use Rattle.frame_ranks.proofs.Going.{At, at_later, at_telling, moved_self}
use Rattle.frame_ranks.proofs.Stepping.{gave_calm, partial_turned, shared_turned}
use Rattle.frame_ranks.proofs.Turning.{out}
use Rattle.frame_ranks.proofs.Valuing.{Goes, Moved, Works, moved_then, worth_alone, worth_past}

domain_inside : (n : Machine) (d : ℕ) → IsTrue (is_place (sizes_of n) (Life d)) → d < (sizes_of n).domains
unfolding is_place
domain_inside n d is = grind (arith, nat_tests)

pub goes_alive : (n : Machine) (m : Words) (ts : List TableWork) (x : Words) (us : List TableWork) → Goes m ts x us → AreAllAlive n m → AreAllAlive n x
goes_alive n m ts x us goes alive d inside = goes.lives d ∙ alive d inside

-- ---- a frame is left with its mark
module _ (n : Machine) (v w : PortValue) (f : ℕ) (k : KindWord) (owner : ℕ) (at : At n v) (alive : AreAllAlive n (told_word v)) (read : kind_fields (kind_write k) ≡ k) where
  so_turned : (u : PortValue) → LeftSo v u f k → Turned (told_word v) (told_word u) f k
  so_turned u a = store_turned v u f k _ None a.0 (at_telling n v at) read a.1

  -- its domain is not found dying
  found_alive : (u x : PortValue) (life : ℕ) → LeftSo v u f k → Moves u x (Life owner) Load kinds.Look None life → life ≡ 0
  found_alive u x life a look =
      let came = moves_came v u _ _ _ _ _ a.1 in
      let telling : is_telling u ≡ true = came_telling v u came ∙ at_telling n v at in
      let same : u.post.machine ≡ n = ap (λ (y : PortValue). y.post.machine) a.1.to ∙ at.machine in
      let inside = domain_inside n owner (subst (λ j. IsTrue (is_place (sizes_of j) (Life owner))) same look.may.place) in
      sym (told_there u x (Life owner) Load kinds.Look None life look telling) ∙ ((so_turned u a).lives owner ∙ alive owner inside)

  pub kept_turned : KeptFor v w f k owner → Turned (told_word v) (told_word w) f k
  kept_turned (marks.own home a) = so_turned w a
  kept_turned (marks.alive u foreign a look) =
      turned_calm (told_word v) (told_word u) (told_word w) f k (so_turned u a) (load_calm u w (Life owner) _ _ 0 (came_telling v u (moves_came v u _ _ _ _ _ a.1) ∙ at_telling n v at) look)
  kept_turned (marks.dying u x y life foreign a look off back names) = absurd (off (found_alive u x life a look))
  kept_turned (marks.taken u x life found foreign a look off back other) = absurd (off (found_alive u x life a look))

-- ---- one table
module _ (n : Machine) (owner : ℕ) (v w : PortValue) (t : TableWork) (at : At n v) (few : t.done ≤ 512) where
  abbrev left_word : Bool → KindWord
  left_word kept = partial_kind (level_type t.level) kept false t.done 0

  telling : is_telling v ≡ true
  telling = at_telling n v at

  outermost_by : (own : Bool) → AreAllAlive n (told_word v) → OutermostLeft v w owner t own true → (kept : Bool) × Turned (told_word v) (told_word w) t.frame (left_word kept)
  outermost_by true alive a = (true, kept_turned n v w t.frame (left_word true) owner at alive (written (left_word true) (omega arith) (omega arith)) a)
  outermost_by false alive a =
      let on = came_telling v a.0 (moves_came v a.0 _ _ _ _ _ a.1.1) ∙ telling in
      (false, turned_calm (told_word v) (told_word a.0) (told_word w) t.frame (left_word false) (partial_turned v a.0 t telling few a.1) (gave_calm a.0 w t.frame on a.2))

  inner_by : (own : Bool) (outer : TableWork) → InnerLeft v w t outer own → Turned (told_word v) (told_word w) t.frame (left_word false)
  inner_by true outer a =
      let l = a.1 in
      let on = came_telling v l.0 (moves_came v l.0 _ _ _ _ _ l.1.1) ∙ telling in
      turned_calm (told_word v) (told_word l.0) (told_word w) t.frame (left_word false) (partial_turned v l.0 t telling few l.1) (load_calm l.0 w Clock _ _ l.2.0 on l.2.1)
  inner_by false outer a =
      let on = came_telling v a.0 (moves_came v a.0 _ _ _ _ _ a.1.1) ∙ telling in
      turned_calm (told_word v) (told_word a.0) (told_word w) t.frame (left_word false) (partial_turned v a.0 t telling few a.1) (gave_calm a.0 w t.frame on a.2)

-- ---- the table around one that is left
around_all_by : (b : Bool) (n : Machine) (m : Words) (o : TableWork) (ts : List TableWork) → Works n m (o ∷ ts) → Works n m ((if b then o else record o { done = o.done - 1 }) ∷ ts)
around_all_by true n m o ts all = all
around_all_by false n m o ts all = (record { inside = all.0.inside; work = all.0.work; few = (let few = all.0.few in omega arith) }, all.1, all.2)

around_off_by : (b : Bool) (o : TableWork) (ts : List TableWork) (f : ℕ) → IsOff (o ∷ ts) f → IsOff ((if b then o else record o { done = o.done - 1 }) ∷ ts) f
around_off_by true o ts f off = off
around_off_by false o ts f off = off

-- ---- all of them
module _ (stays : AloneStays) (n : Machine) (owner : ℕ) where
  outermost_moved : (v w : PortValue) (t : TableWork) → At n v → Works n (told_word v) (t ∷ []) → AreAllAlive n (told_word v) → OutermostLeft v w owner t t.own true → Moved n (told_word v) (t ∷ []) (told_word w) []
  outermost_moved v w t at works alive a =
      let few = works.0.few in
      let b = outermost_by n owner v w t at few t.own alive a in
      out n (told_word v) (told_word w) t.frame (partial_kind (level_type t.level) b.0 false t.done 0) b.1 t [] [] refl works tt tt (omega arith) (λ f r off. let e = worth_alone t f r off in omega arith)

  inner_moved : (v u : PortValue) (t o : TableWork) (ts : List TableWork) → At n v → Works n (told_word v) (t ∷ o ∷ ts) → InnerLeft v u t o t.own → Moved n (told_word v) (t ∷ o ∷ ts) (told_word u) (around_left t o ∷ ts)
  inner_moved v u t o ts at works a =
      let few = works.0.few in
      let b = t.own || t.recorded in
      out n (told_word v) (told_word u) t.frame (partial_kind (level_type t.level) false false t.done 0) (inner_by n owner v u t at few t.own o a) t (o ∷ ts) (around_left t o ∷ ts) refl works
      (around_off_by b o ts t.frame works.1) (around_all_by b n (told_word v) o ts works.2) (omega arith) (λ f r off. let e = worth_past t o ts f r off in omega arith)

  pub unwound_moved : (v : PortValue) (ts : List TableWork) (w : PortValue) → At n v → Works n (told_word v) ts → AreAllAlive n (told_word v) → Unwound v owner ts true w → Moved n (told_word v) ts (told_word w) []
  unwound_moved v [] w at works alive a = subst (λ y. Moved n (told_word v) [] (told_word y) []) (sym a) (moved_self n (told_word v) [] works)
  unwound_moved v (t ∷ []) w at works alive a = outermost_moved v w t at works alive a
  unwound_moved v (t ∷ o ∷ ts) w at works alive a =
      let u = a.0 in
      let b = inner_moved v u t o ts at works a.1 in
      moved_then n (told_word v) (t ∷ o ∷ ts) (told_word u) (around_left t o ∷ ts) (told_word w) [] b
      (unwound_moved u (around_left t o ∷ ts) w (at_later stays n v u at (inner_came v u t o t.own a.1)) b.works (goes_alive n (told_word v) (t ∷ o ∷ ts) (told_word u) (around_left t o ∷ ts) b.goes alive) a.2)

-- ---- a frame that waits
pub waiting_turned : (n : Machine) (v w : PortValue) (f level owner stamp : ℕ) (own : Bool) → At n v → AreAllAlive n (told_word v) → stamp < 2 ^ 36 → WaitingLeft v w f level owner stamp own true →
    (kept : Bool) × Turned (told_word v) (told_word w) f (partial_kind (level_type level) kept true 0 stamp)
waiting_turned n v w f level owner stamp true at alive low a = (true, kept_turned n v w f (partial_kind (level_type level) true true 0 stamp) owner at alive (written (partial_kind (level_type level) true true 0 stamp) low (omega arith)) a)
waiting_turned n v w f level owner stamp false at alive low a = (false, shared_turned v w f (level_type level) stamp (at_telling n v at) low a)
