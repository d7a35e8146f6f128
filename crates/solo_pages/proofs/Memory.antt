-- A frame that is taken as ordinary memory, by its calls on words as by the plain function.
use Rattle.std.proofs.Common.{◌≡◌, ℕ, ◌<◌, true, Some, None, Result, Ok, Err, sym, ap, ◌∙◌, subst}
use Rattle.xp_words.specs.Machine.{IsMachine, Machine}
use Rattle.xp_words.specs.declared.place.Place.TheVariants.{Kind}
use Rattle.xp_words.specs.declared.reply.Refusal.{Refusal}
use Rattle.xp_words.specs.declared.reply.Refusal.TheVariants as refusals
use Rattle.xp_words.specs.declared.reply.Stop.{Stop}
use Rattle.xp_words.specs.declared.reply.Stop.TheVariants.{Refused, Paused}
use Rattle.xp_board.specs.Told.{Post, PortValue, is_telling, told_word}
use Rattle.step_maker.specs.Moves.{Came}
use Rattle.step_maker.specs.Plain.{Leaves}
use Rattle.step_maker.proofs.Alikes.{same_alike}
use Rattle.step_maker.proofs.Coming.{came_post}
use Rattle.step_maker.proofs.Telling.{came_telling}
use Rattle.step_maker.proofs.Visiting.{does_came}
use Rattle.flush_waits.specs.Waiting.{IsWait}
use Rattle.frame_types.specs.Plain.{taken, type_stop}
use Rattle.frame_types.specs.declared.taking.Taken.TheVariants as types
use Rattle.partial_state.specs.Levels.{level_type}
use Rattle.table_law.specs.Alone.{PlainOutcome, alone, go_on, refused, take_at, take_reference}
use Rattle.table_law.specs.Plain.{Describes, Plain}
use Rattle.table_twins.proofs.Kinding.{described_alike}
use Rattle.table_twins.proofs.Typing.{refused_plain, taken_plain}
use Rattle.table_entries.specs.Acquiring.{GaveRef, GotRef, TookType}
use Rattle.table_entries.proofs.Shared.{ref_came}
use Rattle.writable_pages.specs.Pages as pages
use Rattle.writable_pages.specs.Pages.{GotPage, TookPage}
use Rattle.course_laws.specs.Courses.{IsFinal, IsOrderly}
use Rattle.solo_pages.specs.Shown.{AreWhole, SameBeside}
use Rattle.solo_pages.specs.Ends.{EndsAs, IsEnded}
use Rattle.solo_pages.proofs.Beside.{beside_alike, beside_same, beside_taken, beside_trans}
use Rattle.solo_pages.proofs.Referring.{RefTaken, gave_ref, ref_refused, ref_taken}
use Rattle.solo_pages.proofs.Whole.{IsReadyFor, ready_lent}

-- a wait ends no call
pub wait_unended : (e : Stop) → IsWait e → IsFinal e → ⊥
wait_unended (Refused (refusals.Clock found)) wait final = final
wait_unended (Refused _) wait final = wait
wait_unended (Paused x) wait final = final

-- ---- under a reference
pub record EndsBeside {A : Type 0} (n : Machine) (v w : PortValue) (o : PlainOutcome) (answer : Result A Stop) : Type 0 where
  pub ends : EndsAs n (told_word w) o answer
  pub beside : SameBeside (told_word v) (told_word w)

module _ (n : Machine) (machine : IsMachine n) (u : PortValue) (f owner : ℕ) (q : Plain) (same : u.post.machine ≡ n) (telling : is_telling u ≡ true) (d : Describes n (told_word u) q) (inside : f < n.frames) (ready : IsReadyFor n f (level_type 0) (told_word u (Kind f))) where
  counted_memory : (w : PortValue) → TookType u w f owner 0 (Ok types.Counted) → EndsBeside {A = Unit {0}} n u w (take_at 0 n owner f q) (Ok tt)
  counted_memory w type =
      let a = type.plain telling in
      let t = taken_plain n (told_word u) (told_word w) q 0 owner f types.Counted machine d inside (ready a.0) a.0 a.1 a.2 in
      record {
        ends = (ap (λ (o : PlainOutcome). o.refusal) t.takes, subst (λ (o : PlainOutcome). Describes n (told_word w) o.left) (sym t.takes) t.describes);
        beside = beside_trans (told_word u) (taken f (level_type 0) types.Counted (told_word u)) (told_word w) (beside_taken f (level_type 0) types.Counted (told_word u)) (beside_alike (taken f (level_type 0) types.Counted (told_word u)) (told_word w) a.2);
      }

  untyped_memory : (x w : PortValue) (y : Refusal) → type_stop f (level_type 0) (told_word u (Kind f)) ≡ Some (Refused y) → Leaves x (told_word u) → Came u x → GaveRef x w f → EndsBeside {A = Unit {0}} n u w (take_at 0 n owner f q) (Err (Refused y))
  untyped_memory x w y stop leaves came back =
      let t = refused_plain n (told_word u) q 0 owner f y d inside stop in
      let at_x = described_alike n (told_word x) (told_word u) q (same_alike (told_word x) (told_word u) leaves) d in
      let left = gave_ref n x w f q (ap (λ (o : Post). o.machine) (came_post u x came) ∙ same) (came_telling u x came ∙ telling) at_x back in
      record {
        ends = (t.cause, ap (λ (o : PlainOutcome). o.refusal) t.takes, t.same, subst (λ (o : PlainOutcome). Describes n (told_word w) o.left) (sym t.takes) left.0);
        beside = beside_trans (told_word u) (told_word x) (told_word w) (beside_same (told_word u) (told_word x) leaves) left.1;
      }

  untyped_by : (x w : PortValue) (e : Stop) → IsFinal e → TookType u x f owner 0 (Err e) → GaveRef x w f → EndsBeside {A = Unit {0}} n u w (take_at 0 n owner f q) (Err e)
  untyped_by x w (Refused y) final type back = untyped_memory x w y (type.plain telling).0 (type.plain telling).1 (does_came u x _ type.found) back
  untyped_by x w (Paused y) final type back = absurd final

  pub took_memory : (w : PortValue) (answer : Result (Unit {0}) Stop) → IsEnded answer → TookPage u f owner w answer → EndsBeside n u w (take_at 0 n owner f q) answer
  took_memory _ _ ended (pages.counted w type) = counted_memory w type
  took_memory _ _ ended (pages.untyped x w stop type back) = untyped_by x w stop ended type back
  took_memory _ _ ended (pages.waiting x w own stamp stop type left) = absurd (wait_unended stop type.waits.0 ended)

-- ---- with one of its own
-- behind a reference that is to be had
pub alone_behind : (n : Machine) (owner f : ℕ) (p : Plain) → (take_reference n owner f p).refusal ≡ None → alone n owner 0 f p ≡ take_at 0 n owner f (take_reference n owner f p).left
alone_behind n owner f p free = ap (λ r. go_on r (take_reference n owner f p).left (take_at 0 n owner f)) free

module _ (n : Machine) (machine : IsMachine n) (v : PortValue) (f owner : ℕ) (p : Plain) (same : v.post.machine ≡ n) (telling : is_telling v ≡ true) (d : Describes n (told_word v) p) (whole : AreWhole n p) (orderly : IsOrderly n (told_word v)) where
  unreferred_memory : (w : PortValue) (e : Stop) → IsFinal e → GotRef v w f owner (Err e) → EndsBeside {A = ℕ} n v w (alone n owner 0 f p) (Err e)
  unreferred_memory w (Refused y) final ref =
      let a = ref_refused n v w owner f p y same telling d ref in
      let e = a.ends in
      let is : alone n owner 0 f p ≡ refused e.0 (take_reference n owner f p).left = ap (λ r. go_on r (take_reference n owner f p).left (take_at 0 n owner f)) e.1 in
      record {
        ends = (e.0, ap (λ (o : PlainOutcome). o.refusal) is, e.2, subst (λ (o : PlainOutcome). Describes n (told_word w) o.left) (sym is) e.3);
        beside = beside_same (told_word v) (told_word w) a.same;
      }
  unreferred_memory w (Paused y) final ref = absurd final

  module _ (u : PortValue) (ref : GotRef v u f owner (Ok f)) where
    abbrev q : Plain
    q = (take_reference n owner f p).left

    lent : RefTaken n v u owner f p
    lent = ref_taken n v u owner f p same machine telling d ref

    behind : take_at 0 n owner f q ≡ alone n owner 0 f p
    behind = sym (alone_behind n owner f p lent.free)

    taken_behind : (w : PortValue) (answer : Result (Unit {0}) Stop) → IsEnded answer → TookPage u f owner w answer → EndsBeside n v w (alone n owner 0 f p) answer
    taken_behind w answer ended took =
        let came = ref_came v u f owner _ ref in
        let a = took_memory n machine u f owner q (ap (λ (o : Post). o.machine) (came_post v u came) ∙ same) (came_telling v u came ∙ telling) lent.frames lent.lent.inside
        (ready_lent n v u owner f 0 p d whole orderly lent) w answer ended took in
        record { ends = subst (λ o. EndsAs n (told_word w) o answer) behind a.ends; beside = beside_trans (told_word v) (told_word u) (told_word w) lent.beside a.beside }

  pub got_memory : (w : PortValue) (answer : Result ℕ Stop) → IsEnded answer → GotPage v f owner w answer → EndsBeside n v w (alone n owner 0 f p) answer
  got_memory _ _ ended (pages.unreferred w e ref) = unreferred_memory w e ended ref
  got_memory _ _ ended (pages.refused u w e ref took) = let a = taken_behind u ref w (Err e) ended took in record { ends = again e a.ends; beside = a.beside }
    where
      again : (e : Stop) → EndsAs {A = Unit {0}} n (told_word w) (alone n owner 0 f p) (Err e) → EndsAs {A = ℕ} n (told_word w) (alone n owner 0 f p) (Err e)
      again (Refused y) a = a
      again (Paused y) a = a
  got_memory _ _ ended (pages.had u w ref took) = let a = taken_behind u ref w (Ok tt) tt took in record { ends = a.ends; beside = a.beside }
