-- Single steps of a course, as changes of one frame: references given back, tables made live, and tables left.
use Rattle.std.proofs.Common.{◌≡◌, ℕ, ◌-◌, ◌<◌, ◌≤◌, ◌^◌, Bool, true, false, List, [], ◌∷◌, Option, Some, None, refl, sym, ap, ◌∙◌, subst, arith}
use Rattle.xp_words.specs.KindWords.{kind_fields, kind_write}
use Rattle.xp_words.specs.declared.kind.KindWord.{KindWord}
use Rattle.xp_words.specs.declared.kind.PageType.{PageType}
use Rattle.xp_words.specs.declared.place.Place.TheVariants.{Clock, Kind}
use Rattle.xp_words.proofs.KindLaws.{fields_back as written}
use Rattle.xp_board.specs.declared.step.Act.TheVariants.{Add, Store}
use Rattle.xp_board.specs.Acts.{left_by}
use Rattle.xp_board.specs.Lists.{EachOf}
use Rattle.xp_board.specs.RefSteps.{one_down}
use Rattle.xp_board.specs.Told.{PortValue, is_telling, told_word}
use Rattle.xp_board.proofs.KindForms.{fields_down}
use Rattle.step_maker.specs.Moves.{Moment, Ran}
use Rattle.step_maker.proofs.Coming.{moves_came}
use Rattle.step_maker.proofs.Telling.{came_telling}
use Rattle.step_maker.specs.Visits.{Does, Only, Visit, visit, visits}
use Rattle.step_maker.proofs.Piecing.{each_append}
use Rattle.step_maker.proofs.Parts.{parts as does_parts}
use Rattle.frame_words.specs.Freeing.{FreesBy, PutBy, lowers_refs}
use Rattle.kind_words.specs.Kinds.{live_kind, partial_kind}
use Rattle.frame_types.specs.Found.{SharedBy, StoresKind}
use Rattle.partial_state.specs.Levels.{level_type}
use Rattle.partial_state.specs.declared.stack.TableWork.{TableWork}
use Rattle.table_entries.specs.Acquiring.{GaveBack, GaveRef, Joined, LeftPartial, MadeLive, type_counts}
use Rattle.release_laws.proofs.Parts.{does_only, does_with}
use Rattle.frame_ranks.proofs.Facing.{Calm, Turned, at_kind, calm_then, is_quiet, load_calm, quiet_calm, same_calm, store_turned, turned_calm, turned_twice}
use Rattle.acquisition_laws.proofs.Walking.{counts_low as count_small}

-- ---- lists of steps that are at no kind word, old word or life word
abbrev pub IsQuiet : Visit → Type 0
IsQuiet x = is_quiet x.place ≡ true

pub ran_calm : (v w : PortValue) (ms : List Moment) → Ran v ms w → EachOf IsQuiet (visits ms) → Calm (told_word v) (told_word w)
unfolding EachOf
ran_calm v w [] ran off = same_calm (told_word v) (told_word w) (λ q. ap (λ (y : PortValue). told_word y q) ran)
ran_calm v w (m ∷ ms) ran off =
    calm_then (told_word v) (told_word ran.0) (told_word w) (ran_calm v ran.0 ms ran.1 off.1) (quiet_calm ran.0 w m.place m.act m.kind m.mark m.found ran.2.moves off.0)

frees_quiet : (f : ℕ) (o : Option ℕ) (vs : List Visit) → FreesBy f o vs → EachOf IsQuiet vs
unfolding EachOf
frees_quiet f (Some owner) vs h = subst (EachOf IsQuiet) (sym h.4) (refl, (refl, (refl, (refl, tt))))
frees_quiet f None vs h = subst (EachOf IsQuiet) (sym h) tt

one_quiet : (x : Visit) → IsQuiet x → EachOf IsQuiet (x ∷ [])
unfolding EachOf
one_quiet x quiet = (quiet, tt)

puts_quiet : (f : ℕ) (vs : List Visit) → PutBy f vs → EachOf IsQuiet vs
puts_quiet f vs p =
    let s = p.steps in
    subst (EachOf IsQuiet) (sym s.list) (each_append IsQuiet s.before s.after (subst (EachOf IsQuiet) (sym s.first) (one_quiet (lowers_refs f p.word) refl)) (frees_quiet f p.last s.after s.next))

pub puts_calm : (v w : PortValue) (f : ℕ) → Does v w (PutBy f) → Calm (told_word v) (told_word w)
unfolding Does
puts_calm v w f a = ran_calm v w a.0 a.1 (puts_quiet f (visits a.0) a.2)

-- ---- a frame that waits is left, marked
pub stores_turned : (v w : PortValue) (f : ℕ) (k : KindWord) → is_telling v ≡ true → kind_fields (kind_write k) ≡ k → Does v w (StoresKind f k) → Turned (told_word v) (told_word w) f k
stores_turned v w f k telling read a =
    let x = does_with v w (λ (y : ℕ) vs. Only (visit (Kind f) (Store (kind_write k)) y) vs) a in
    let m = does_only v w (visit (Kind f) (Store (kind_write k)) x.0) x.1 in
    store_turned v w f k m.0 None x.0 telling read m.1

pub shared_turned : (v w : PortValue) (f : ℕ) (want : PageType) (stamp : ℕ) → is_telling v ≡ true → stamp < 2 ^ 36 → Does v w (λ vs. SharedBy f want stamp vs) → Turned (told_word v) (told_word w) f (partial_kind want false true 0 stamp)
shared_turned v w f want stamp telling low a =
    let k = partial_kind want false true 0 stamp in
    let p = does_parts v w (λ us. StoresKind f k us) (PutBy f) a in
    turned_calm (told_word v) (told_word p.0) (told_word w) f k (stores_turned v p.0 f k telling (written k low (omega arith)) p.1) (puts_calm p.0 w f p.2)

-- ---- references and types given back
pub gave_calm : (v w : PortValue) (f : ℕ) → is_telling v ≡ true → GaveRef v w f → Calm (told_word v) (told_word w)
gave_calm v w f telling a = puts_calm v w f a.found

-- one type count less, of a live frame
pub record BackFrom (v w : PortValue) (f : ℕ) : Type 0 where
  pub word : KindWord
  pub live : word.validated ≡ true
  pub turned : Turned (told_word v) (told_word w) f word

pub back_from : (v w : PortValue) (f : ℕ) → is_telling v ≡ true → GaveBack v w f → BackFrom v w f
unfolding left_by
back_from v w f telling a =
    let l = a.lowers.lowers in
    let x = a.lowers.found in
    let finds = l.step.finds in
    let small : x < 2 ^ 64 = subst (λ y. y < 2 ^ 64) finds.word (finds.sound.spelled.small (Kind f)) in
    let k : KindWord = record (kind_fields x) { number = (kind_fields x).number - 1 } in
    let on : is_telling a.between ≡ true = came_telling v a.between (moves_came v a.between _ _ _ _ _ l.step) ∙ telling in
    record {
      word = k;
      live = l.live;
      turned = turned_calm (told_word v) (told_word a.between) (told_word w) f k (at_kind v a.between f (Add one_down) _ None x k telling l.step (fields_down x small l.counted)) (gave_calm a.between w f on a.puts);
    }

-- ---- a table is made live, or left partial

pub live_turned : (v w : PortValue) (t : TableWork) → is_telling v ≡ true → MadeLive v w t → Turned (told_word v) (told_word w) t.frame (live_kind (level_type t.level) (type_counts t.own))
live_turned v w t telling a =
    let k = live_kind (level_type t.level) (type_counts t.own) in
    store_turned v w t.frame k _ None a.0 telling (written k (count_small t.own) (omega arith)) a.1

pub partial_turned : (v w : PortValue) (t : TableWork) → is_telling v ≡ true → t.done ≤ 512 → LeftPartial v w t → Turned (told_word v) (told_word w) t.frame (partial_kind (level_type t.level) false false t.done 0)
partial_turned v w t telling few a =
    let k = partial_kind (level_type t.level) false false t.done 0 in
    store_turned v w t.frame k _ None a.0 telling (written k (omega arith) (omega arith)) a.1

-- live, and what was taken for it is given back or recorded: it is live still
pub record Completed (v w : PortValue) (f : ℕ) : Type 0 where
  pub word : KindWord
  pub live : word.validated ≡ true
  pub turned : Turned (told_word v) (told_word w) f word

joined_by : (b : Bool) (v u w : PortValue) (t outer : TableWork) → is_telling v ≡ true → MadeLive v u t → Joined u w t outer b → Completed v w t.frame
joined_by true v u w t outer telling made a =
    let on : is_telling u ≡ true = came_telling v u (moves_came v u _ _ _ _ _ made.1) ∙ telling in
    let b = back_from u w t.frame on a in
    record { word = b.word; live = b.live; turned = turned_twice (told_word v) (told_word u) (told_word w) t.frame _ b.word (live_turned v u t telling made) b.turned }
joined_by false v u w t outer telling made a =
    let on : is_telling u ≡ true = came_telling v u (moves_came v u _ _ _ _ _ made.1) ∙ telling in
    let k = live_kind (level_type t.level) (type_counts t.own) in
    record { word = k; live = refl; turned = turned_calm (told_word v) (told_word u) (told_word w) t.frame k (live_turned v u t telling made) (load_calm u w Clock _ _ a.0 on a.1) }

pub completed_turned : (v u w : PortValue) (t outer : TableWork) → is_telling v ≡ true → MadeLive v u t → Joined u w t outer t.recorded → Completed v w t.frame
completed_turned v u w t outer telling made a = joined_by t.recorded v u w t outer telling made a
