-- What is settled first: a port that owes a value comes to it, or, where the gate pauses that, owes it still.
use Rattle.std.proofs.Common.{◌≡◌, ℕ, ◌<◌, ◌+◌, Bool, true, List, [], length, Option, Result, Ok, Err, refl, sym, ◌∙◌, subst, arith}
use Rattle.std.proofs.lemmas.Bool.Decides.{nat_tests}
use Rattle.xp_words.specs.declared.reply.Pause.TheVariants as pauses
use Rattle.xp_words.specs.declared.reply.Stop.{Stop}
use Rattle.xp_words.specs.declared.reply.Stop.TheVariants.{Refused, Paused}
use Rattle.xp_board.specs.Lists.{Member}
use Rattle.xp_board.specs.Told.{Post, PortValue, is_telling, told_word}
use Rattle.step_maker.specs.Asked.{Request}
use Rattle.step_maker.specs.Holds.{Rests}
use Rattle.step_maker.proofs.Alikes.{same_alike}
use Rattle.step_maker.proofs.Coming.{came_post}
use Rattle.step_maker.proofs.Telling.{came_telling}
use Rattle.answer_laws.proofs.Shared.{alone_telling}
use Rattle.course_laws.proofs.Awaiting.{AloneStays, NeitherLostNorBusy}
use Rattle.table_words.specs.OldWords.{old_place}
use Rattle.table_words.specs.declared.old_words.OldWord.TheVariants.{First, Second}
use Rattle.table_law.specs.Plain.{Describes, Plain}
use Rattle.level_release.specs.Asking.{of_settle}
use Rattle.level_release.specs.Course as course
use Rattle.level_release.specs.Course.{Settled}
use Rattle.release_laws.specs.Pauses.{IsLeft, SecondIsNone}
use Rattle.release_laws.proofs.Settling.{second_none, settled}
use Rattle.refusal_laws.proofs.Deciding.{none_done}
use Rattle.script_law.specs.Values.{Solo}
use Rattle.solo_ports.specs.Standing.{Clean, IsQuiet, IsSettled, Owes, Stands, StaysAlike}
use Rattle.solo_ports.specs.Standing as standing
use Rattle.solo_ports.proofs.Along.{clean_on}
use Rattle.solo_ports.proofs.Resting.{first_known, second_known}
use Rattle.solo_ports.proofs.Staying.{others_stay, stands_at}
use Rattle.vcpu_turn.specs.Settling.{Settles}
use Rattle.vcpu_turn.proofs.Hindering.{settles_came}
use Rattle.turn_measures.specs.Measures.{bit_named}
use Rattle.turn_measures.proofs.Olds.{one_empties, one_leaves}
use Rattle.turn_measures.proofs.SettlingOlds.{settles_same}

-- ---- the second old word
none_second : {below : Option ℕ} → (v w : PortValue) (answers : List Bool) (answer : Result (Unit {0}) Stop) → is_telling v ≡ true → told_word v (old_place v.post.vcpu Second) ≡ 0 → (a : Settled below v w answers answer) → SecondIsNone a
none_second v _ _ _ telling none (course.first w answers stop one) = tt
none_second {below} v _ _ _ telling none (course.both u w answers more answer one two) =
    let e = one_empties below v First u answers (Ok tt) refl telling one in
    subst (λ (p : Post). told_word u (old_place p.vcpu Second) ≡ 0) (sym (came_post v u e.came)) (e.others 3 (λ k. absurd (omega arith)) ∙ none)

-- paused, the second word still names none
still_none : {below : Option ℕ} → (v w : PortValue) (answers : List Bool) (answer : Result (Unit {0}) Stop) → answer ≡ Err (Paused pauses.Due) → is_telling v ≡ true → told_word v (old_place v.post.vcpu Second) ≡ 0 → Settled below v w answers answer → told_word w (old_place v.post.vcpu Second) ≡ 0
still_none {below} v _ _ _ is telling none (course.first w answers stop one) =
    (one_leaves below v First w answers (Err stop) is telling one).others 3 (λ k. absurd (omega arith)) (λ k. absurd (omega arith)) ∙ none
still_none {below} v _ _ _ is telling none (course.both u w answers more answer one two) =
    let e = one_empties below v First u answers (Ok tt) refl telling one in
    let at = subst (λ (p : Post). told_word u (old_place p.vcpu Second) ≡ 0) (sym (came_post v u e.came)) (e.others 3 (λ k. absurd (omega arith)) ∙ none) in
    let done = second_none u (came_telling v u e.came ∙ telling) at w more answer two in
    absurd (let k = sym is ∙ done.0 in cc)

-- ---- nothing is left
none_named : (x y : ℕ) → x ≡ 0 → y ≡ 0 → bit_named x + bit_named y ≡ 0
none_named x y a b = grind (arith, nat_tests)

module _ (stays : AloneStays) (neither : NeitherLostNorBusy) where
  pub ended_ok : (v w : PortValue) (x : Solo) (below : Option ℕ) (answers : List Bool) (answer : Result (Unit {0}) Stop) → Stands v x → told_word v (old_place v.post.vcpu First) ≡ 0 → Settles below v w answers answer → (p : Plain) → Describes v.post.machine (told_word v) p → answer ≡ Ok tt
  ended_ok v w x below answers answer s first settles p d =
      let telling = alone_telling v s.alone in
      (none_done v.post.machine p v telling first d w answers answer settles.course (none_second v w answers answer telling s.second settles.course)).0

  -- where the first old word names none, settling changes nothing
  pub same_settled : (v w : PortValue) (x : Solo) (below : Option ℕ) (answers : List Bool) → Stands v x → told_word v (old_place v.post.vcpu First) ≡ 0 → Settles below v w answers (Ok tt) → StaysAlike v w
  same_settled v w x below answers s first settles =
      record {
        came = settles_came v w answers (Ok tt) settles;
        words = same_alike (told_word w) (told_word v) (settles_same below v w answers s.alone settles (none_named _ _ first s.second));
        empty = settles.rests.empty;
      }

  pub known_settled : (v w : PortValue) (below : Option ℕ) (answers : List Bool) → Settles below v w answers (Ok tt) → IsSettled w
  known_settled v w below answers settles = record { first = settles.clear; second = settles.clear_too }

  -- ---- a release is left
  pub due_by : (v w : PortValue) (x : Solo) (below : Option ℕ) (answers : List Bool) (e : Stop) → Stands v x → Settles below v w answers (Err e) → e ≡ Paused pauses.Due
  due_by v w x below answers (Paused pauses.Due) s settles = refl
  due_by v w x below answers (Paused (pauses.Lost place expected found)) s settles = absurd (neither v w (of_settle {A = Unit {0}} 0 0 (Err (Paused (pauses.Lost place expected found)))) (pauses.Lost place expected found) s.alone refl (settles.stops 0 0))
  due_by v w x below answers (Paused (pauses.Busy f found)) s settles = absurd (neither v w (of_settle {A = Unit {0}} 0 0 (Err (Paused (pauses.Busy f found)))) (pauses.Busy f found) s.alone refl (settles.stops 0 0))
  due_by v w x below answers (Paused (pauses.Flush u stamp found)) s settles = absurd settles.kinds
  due_by v w x below answers (Paused (pauses.Alive u found)) s settles = absurd settles.kinds
  due_by v w x below answers (Refused r) s settles = absurd settles.kinds

  module _ (v w : PortValue) (x : Solo) (below : Option ℕ) (answers : List Bool) (s : Stands v x) where
    abbrev asked : Result (Unit {0}) Stop → Request
    asked answer = of_settle 0 0 answer

    quiet_settle : (answer : Result (Unit {0}) Stop) → IsQuiet v.post.vcpu (asked answer) []
    unfolding Member
    quiet_settle answer = record { destroys = refl; grants = refl; pages = refl; maps = λ f y at. absurd at; own = λ k y at. absurd at }

    telling : is_telling v ≡ true
    telling = alone_telling v s.alone

    post_by : (answer : Result (Unit {0}) Stop) → Settles below v w answers answer → w.post ≡ v.post
    post_by answer settles = came_post v w (settles_came v w answers answer settles)

    done_stands : Settles below v w answers (Ok tt) → Stands w x
    done_stands settles =
        let came = settles_came v w answers (Ok tt) settles in
        let post = came_post v w came in
        let real = subst (λ (p : Post). p.vcpu < length p.machine.vcpu_domain) (sym post) s.real in
        stands_at stays v w x x s came settles.rests.empty
        (subst (λ (p : Post). told_word w (old_place p.vcpu Second) ≡ 0) post (second_known w (stays v w s.alone came) 0 real settles.rests settles.clear_too))
        (others_stay v w (asked (Ok tt)) [] telling (settles.serves 0 0) x s.empty (quiet_settle (Ok tt)) s.others) s.unkept

    paused_stands : Settles below v w answers (Err (Paused pauses.Due)) → Stands w x
    paused_stands settles =
        stands_at stays v w x x s (settles_came v w answers (Err (Paused pauses.Due)) settles) settles.rests.empty
        (still_none v w answers (Err (Paused pauses.Due)) refl telling s.second settles.course)
        (others_stay v w (asked (Err (Paused pauses.Due))) [] telling (settles.serves 0 0) x s.empty (quiet_settle (Err (Paused pauses.Due))) s.others) s.unkept

    left_done : (f level : ℕ) → IsLeft v.post.machine v f level x.frames → Settles below v w answers (Ok tt) → Clean w x
    left_done f level left settles =
        let post = post_by (Ok tt) settles in
        let real = subst (λ (p : Post). p.vcpu < length p.machine.vcpu_domain) (sym post) s.real in
        record {
          stands = done_stands settles;
          first = first_known w (done_stands settles).alone 0 real settles.rests settles.clear;
          frames = subst (λ (p : Post). Describes p.machine (told_word w) x.frames) (sym post)
              (settled v.post.machine v f level x.frames w answers (Ok tt) left settles.course (none_second v w answers (Ok tt) telling s.second settles.course)).1;
        }

    left_paused : (f level : ℕ) → IsLeft v.post.machine v f level x.frames → Settles below v w answers (Err (Paused pauses.Due)) → Owes w x
    left_paused f level left settles =
        standing.a_release f level (paused_stands settles)
        (subst (λ (p : Post). IsLeft p.machine w f level x.frames) (sym (post_by (Err (Paused pauses.Due)) settles))
        (settled v.post.machine v f level x.frames w answers (Err (Paused pauses.Due)) left settles.course (none_second v w answers (Err (Paused pauses.Due)) telling s.second settles.course)))

  -- ---- all of it
  pub stands_in : (v : PortValue) (x : Solo) → Owes v x → Stands v x
  stands_in v x (standing.nothing c) = c.stands
  stands_in v x (standing.a_release f level s left) = s

  pub settles_clean : (v w : PortValue) (x : Solo) (below : Option ℕ) (answers : List Bool) → Owes v x → Settles below v w answers (Ok tt) → Clean w x
  settles_clean v w x below answers (standing.nothing c) settles = clean_on stays v w x (same_settled v w x below answers c.stands c.first settles) c
  settles_clean v w x below answers (standing.a_release f level s left) settles = left_done v w x below answers s f level left settles

  pub settles_owes : (v w : PortValue) (x : Solo) (below : Option ℕ) (answers : List Bool) (e : Stop) → Owes v x → Settles below v w answers (Err e) → Owes w x
  settles_owes v w x below answers e (standing.nothing c) settles = absurd (let k = ended_ok v w x below answers (Err e) c.stands c.first settles x.frames c.frames in cc)
  settles_owes v w x below answers e (standing.a_release f level s left) settles =
      left_paused v w x below answers s f level left (subst (λ k. Settles below v w answers (Err k)) (due_by v w x below answers e s settles) settles)

-- where both old words are known to name none, nothing is left
pub owes_clean : (v : PortValue) (x : Solo) → Rests v → IsSettled v → Owes v x → Clean v x
owes_clean v x rests settled (standing.nothing c) = c
owes_clean v x rests settled (standing.a_release f level s left) =
    absurd (let none = first_known v s.alone 0 s.real rests settled.first in let named = left.named in omega arith)
