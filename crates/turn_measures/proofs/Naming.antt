-- What a release leaves in the old words: nothing, or the name of the frame whose release the gate paused.
use Rattle.std.proofs.Common.{◌≡◌, ◌≢◌, ℕ, ◌+◌, ◌<◌, ◌≤◌, Bool, true, false, List, [], ◌∷◌, Option, Some, Result, Ok, Err, refl, ap, ◌∙◌, subst, arith}
use Rattle.xp_words.specs.declared.kind.KindWord.{KindWord}
use Rattle.xp_words.specs.declared.kind.PageType.{PageType}
use Rattle.xp_words.specs.declared.place.Place.TheVariants.{Vcpu}
use Rattle.xp_words.specs.declared.reply.Pause.TheVariants.{Due}
use Rattle.xp_words.specs.declared.reply.Stop.{Stop}
use Rattle.xp_words.specs.declared.reply.Stop.TheVariants.{Paused}
use Rattle.xp_board.specs.Acts.{left_by}
use Rattle.xp_board.specs.Told.{Post, PortValue, is_telling, told_word}
use Rattle.step_maker.specs.Moves.{Came}
use Rattle.step_maker.proofs.Coming.{came_trans, came_post, moves_came}
use Rattle.step_maker.proofs.Telling.{came_telling, told_elsewhere, told_here}
use Rattle.level_release.specs.Course as course
use Rattle.level_release.specs.Course.{Emptied, LeftInside, ReleasedWithin, SettledPartial, StoredPartial, UnwoundDown, left_emptied, left_partial, left_released, one_less}
use Rattle.partial_state.specs.Weights.{weight}
use Rattle.partial_state.specs.declared.stack.TableWork.{TableWork}
use Rattle.table_entries.specs.Acquiring.{GaveRef, GaveType, Named}
use Rattle.frame_types.specs.Lowering.{DropsType}
use Rattle.vcpu_turn.proofs.Clearing.{drops, ends_dead, puts}
use Rattle.vcpu_turn.proofs.Silent.{number_apart as other_word}
use Rattle.turn_measures.specs.Measures.{left_rank, most_left}
use Rattle.turn_measures.proofs.Keeping.{Away, EndsWell, away_trans, away_moves, away_does, ran_away}
use Rattle.turn_measures.proofs.Weighing.{AreSome, one_most, ran_due}

pub post_vcpu : (v u : PortValue) → Came v u → u.post.vcpu ≡ v.post.vcpu
post_vcpu v u came = ap (λ (p : Post). p.vcpu) (came_post v u came)

-- ---- the first old word names a frame then, and the others of the own words are as they were
pub record Renames (v w : PortValue) : Type 0 where
  pub came : Came v w
  pub names : told_word w (Vcpu v.post.vcpu 2) ≢ 0
  pub others : (k : ℕ) → k ≢ 2 → told_word w (Vcpu v.post.vcpu k) ≡ told_word v (Vcpu v.post.vcpu k)

renames_behind : (v u w : PortValue) → Away v u → Renames u w → Renames v w
renames_behind v u w a r =
    let s = post_vcpu v u a.came in
    record {
      came = came_trans v u w a.came r.came;
      names = subst (λ s. told_word w (Vcpu s 2) ≢ 0) s r.names;
      others = λ k off. subst (λ s. told_word w (Vcpu s k) ≡ told_word u (Vcpu s k)) s (r.others k off) ∙ a.same v.post.vcpu k;
    }

named_names : (v w : PortValue) (f : ℕ) → is_telling v ≡ true → Named v w f → Renames v w
unfolding left_by
named_names v w f is m =
    record {
      came = moves_came v w _ _ _ _ _ m;
      names = λ none. (let some : told_word w (Vcpu v.post.vcpu 2) ≡ f + 1 = told_here v w _ _ _ _ _ m is in omega (arith, some, none));
      others = λ k off. told_elsewhere v w _ _ _ _ _ m (Vcpu v.post.vcpu k) (other_word v.post.vcpu k 2 off);
    }

stored_away : (v w : PortValue) (t : TableWork) → StoredPartial v w t → Away v w
stored_away v w t stored = away_moves v w _ _ _ _ _ refl stored.1

inside_away : (v : PortValue) (t outer : TableWork) (ts : List TableWork) (w : PortValue) (us : List TableWork) → LeftInside v t (outer ∷ ts) w us → Away v w
inside_away v t outer ts w us left = away_trans v left.1.0 w (stored_away v left.1.0 t left.1.1) (away_moves left.1.0 w _ _ _ _ _ refl left.1.2.1)

unwound_names : (v : PortValue) (us : List TableWork) (w : PortValue) → is_telling v ≡ true → AreSome us → UnwoundDown v us w → Renames v w
unwound_names v [] w is some unwound = absurd some
unwound_names v (t ∷ []) w is some unwound =
    let a = stored_away v unwound.0 t unwound.1 in
    renames_behind v unwound.0 w a (named_names unwound.0 w t.frame (came_telling v unwound.0 a.came ∙ is) unwound.2)
unwound_names v (t ∷ outer ∷ ts) w is some unwound =
    let u = unwound.0 in
    let a = inside_away v t outer ts u (one_less outer ∷ ts) unwound.1 in
    renames_behind v u w a (unwound_names u (one_less outer ∷ ts) w (came_telling v u a.came ∙ is) tt unwound.2)

-- ---- so much is left: less than the bound, and than of a table of level 4 with its table in work
pub record LeavesFew (below left : Option ℕ) : Type 0 where
  pub number : ℕ
  pub left_is : left ≡ Some number
  pub few : number < most_left
  pub less : number < left_rank below

-- paused for the gate
pub record Cut (below : Option ℕ) (v w : PortValue) (left : Option ℕ) : Type 0 where
  pub renames : Renames v w
  pub leaves : LeavesFew below left

cut_behind : (below : Option ℕ) (v u w : PortValue) (left : Option ℕ) → Away v u → Cut below u w left → Cut below v w left
cut_behind below v u w left a c = record { renames = renames_behind v u w a c.renames; leaves = c.leaves }

due_well : (answer : Result (Unit {0}) Stop) → answer ≡ Err (Paused Due) → EndsWell answer
due_well answer is e at = cc

ok_well : (answer : Result (Unit {0}) Stop) → answer ≡ Ok tt → EndsWell answer
ok_well answer ok e at = absurd (cc)

-- ---- one table and all in it
emptied_away : (below : Option ℕ) (v : PortValue) (t : TableWork) (w : PortValue) (answers : List Bool) (answer : Result (Unit {0}) Stop) → answer ≡ Ok tt → Emptied below v t w answers answer → Away v w
emptied_away below v t _ _ _ ok (course.Emptied.finished w answers ran) = ran_away below v (t ∷ []) w [] answers (Ok tt) (ok_well (Ok tt) refl) ran
emptied_away below v t _ _ _ ok (course.Emptied.paused u w us answers stop ran unwound) = absurd (cc)

emptied_cut : (below : Option ℕ) (v : PortValue) (t : TableWork) (w : PortValue) (answers : List Bool) (answer : Result (Unit {0}) Stop) → answer ≡ Err (Paused Due) → is_telling v ≡ true → t.level ≤ 4 →
    (run : Emptied below v t w answers answer) → Cut below v w (left_emptied run)
emptied_cut below v t _ _ _ is telling low (course.Emptied.finished w answers ran) = absurd (cc)
emptied_cut below v t _ _ _ is telling low (course.Emptied.paused u w us answers stop ran unwound) =
    let a = ran_away below v (t ∷ []) u us answers (Err stop) (due_well (Err stop) is) ran in
    let at = ran_due below v (t ∷ []) u us answers (Err stop) is ran (one_most t) (low, tt) in
    record {
      renames = renames_behind v u w a (unwound_names u us w (came_telling v u a.came ∙ telling) at.some unwound);
      leaves = record { number = weight us; left_is = ap (λ (e : Stop). course.left_by below e us) (let e : stop ≡ Paused Due = cc in e); few = at.few; less = at.less };
    }

-- ---- a frame whose type count is given back
drops_away : (v w : PortValue) (f : ℕ) (last : Bool) → DropsType v w f last → Away v w
drops_away v w f last d = away_moves v w _ _ _ _ _ refl d.lowers.step

type_away : (v w : PortValue) (f : ℕ) (kind : PageType) → GaveType v w f kind → Away v w
type_away v w f kind gave = away_does v w _ (drops f kind) gave.found

ref_away : (v w : PortValue) (f : ℕ) → GaveRef v w f → Away v w
ref_away v w f gave = away_does v w _ (puts f) gave.found

pub released_away : (below : Option ℕ) (v : PortValue) (f : ℕ) (kind : PageType) (w : PortValue) (answers : List Bool) (answer : Result (Unit {0}) Stop) → answer ≡ Ok tt → ReleasedWithin below v f kind w answers answer → Away v w
released_away below v f kind _ _ _ ok (course.ReleasedWithin.plain w ordinary gave) = type_away v w f kind gave
released_away below v f kind _ _ _ ok (course.ReleasedWithin.shared u w table drops gave) = away_trans v u w (drops_away v u f false drops) (ref_away u w f gave)
released_away below v f kind _ _ _ ok (course.ReleasedWithin.last u x w word level answers answer table is high drops look run) =
    away_trans v u w (drops_away v u f true drops) (away_trans u x w (away_moves u x _ _ _ _ _ refl look) (emptied_away below x _ w answers answer ok run))

pub released_cut : (below : Option ℕ) (v : PortValue) (f : ℕ) (kind : PageType) (w : PortValue) (answers : List Bool) (answer : Result (Unit {0}) Stop) → answer ≡ Err (Paused Due) → is_telling v ≡ true →
    (run : ReleasedWithin below v f kind w answers answer) → Cut below v w (left_released run)
released_cut below v f kind _ _ _ is telling (course.ReleasedWithin.plain w ordinary gave) = absurd (cc)
released_cut below v f kind _ _ _ is telling (course.ReleasedWithin.shared u w table drops gave) = absurd (cc)
released_cut below v f kind _ _ _ is telling (course.ReleasedWithin.last u x w word level answers answer table at high drops look run) =
    let a = away_trans v u x (drops_away v u f true drops) (away_moves u x _ _ _ _ _ refl look) in
    cut_behind below v x w (left_emptied run) a (emptied_cut below x _ w answers answer is (came_telling v x a.came ∙ telling) high run)

-- ---- a partial one that was taken on again
pub partial_away : (below : Option ℕ) (v w : PortValue) (f : ℕ) (k : KindWord) (answers : List Bool) (answer : Result (Unit {0}) Stop) → answer ≡ Ok tt → (has : Bool) → SettledPartial below v w f k answers answer has → Away v w
partial_away below v w f k answers answer ok true run = away_trans v run.0 w (away_moves v run.0 _ _ _ _ _ refl run.5) (emptied_away below run.0 _ w answers answer ok run.6)
partial_away below v w f k answers answer ok false run = away_does v w _ (ends_dead f k.kind k.unflushed) run.2

pub partial_cut : (below : Option ℕ) (v w : PortValue) (f : ℕ) (k : KindWord) (answers : List Bool) (answer : Result (Unit {0}) Stop) → answer ≡ Err (Paused Due) → is_telling v ≡ true →
    (has : Bool) → (run : SettledPartial below v w f k answers answer has) → Cut below v w (left_partial below v w f k answers answer has run)
partial_cut below v w f k answers answer is telling true run =
    let a = away_moves v run.0 _ _ _ _ _ refl run.5 in
    cut_behind below v run.0 w (left_emptied run.6) a (emptied_cut below run.0 _ w answers answer is (came_telling v run.0 a.came ∙ telling) run.4 run.6)
partial_cut below v w f k answers answer is telling false run = absurd (let no = run.0 in cc)
