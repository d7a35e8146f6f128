-- From port to port: the lock goes on under a reference of its own, and off again, and no frame fell back between.
use Rattle.std.proofs.Common.{◌≡◌, ℕ, ◌+◌, ◌-◌, ◌<◌, ◌≤◌, ◌^◌, ◌%◌, ◌==◌, Bool, true, false, Ok, IsTrue, refl, sym, ap, ◌∙◌, subst, arith}
use Rattle.std.proofs.lemmas.Bool.Decides.{nat_tests}
use Rattle.xp_words.specs.KindWords.{kind_fields}
use Rattle.xp_words.specs.Machine.{Machine}
use Rattle.xp_words.specs.declared.kind.KindWord.{KindWord}
use Rattle.xp_words.specs.declared.place.Place.TheVariants.{Kind, Refs}
use Rattle.xp_words.specs.declared.reply.Pause.{Pause}
use Rattle.xp_words.specs.declared.reply.Stop.{Stop}
use Rattle.xp_words.specs.declared.reply.Stop.TheVariants.{Refused, Paused}
use Rattle.xp_board.specs.Acts.{left_by}
use Rattle.xp_board.specs.KindSteps.{unlocked_down}
use Rattle.xp_board.specs.Readings.{kind_at, ref_count}
use Rattle.xp_board.specs.Told.{PortValue, is_telling, told_word}
use Rattle.xp_board.proofs.KindForms.{fields_unlocked, frame_inside}
use Rattle.step_maker.specs.Moves.{Came}
use Rattle.step_maker.proofs.Coming.{moves_came, same_machine}
use Rattle.step_maker.proofs.Telling.{came_telling, told_elsewhere, told_here, told_there}
use Rattle.step_maker.proofs.Visiting.{does_came}
use Rattle.entry_exchange.specs.Course as course
use Rattle.entry_exchange.specs.Course.{LeftLock}
use Rattle.entry_locks.specs.Locks.{Unlocks, is_lockable}
use Rattle.entry_locks.specs.declared.locking.Locked.TheVariants.{Table}
use Rattle.kind_words.proofs.KindFacts.{kind_found}
use Rattle.mmu_update.specs.Course.{TriedLock}
use Rattle.table_entries.specs.Acquiring.{GotRef}
use Rattle.course_laws.specs.Courses.{IsOrderly}
use Rattle.course_laws.proofs.Awaiting.{AloneStays, alone_orderly}
use Rattle.frame_ranks.specs.Ranks.{AreAllAlive}
use Rattle.turn_measures.proofs.Forward.{Comes}
use Rattle.turn_measures.proofs.Asides.{Passes, gave_passes, ref_passes}
use Rattle.turn_measures.proofs.Calm.{ComesTo, IsCalm}
use Rattle.turn_measures.proofs.Locking.{HasRoom, IsLocked, IsUnlocked, comes_locked, locked_alive, locks_on, refers_room, several}
use Rattle.turn_measures.proofs.Pages.{ComesFor}
use Rattle.answer_laws.proofs.Shared.{alone_telling}

-- ---- the lock goes on
module _ (stays : AloneStays) (v u y : PortValue) (f owner level found : ℕ) (calm : IsCalm v) (ref : GotRef v u f owner (Ok f)) (lock : TriedLock u y f owner (Ok (Table level found))) where
  telling : is_telling v ≡ true
  telling = alone_telling v calm.alone

  referred : Passes v u
  referred = ref_passes v u f owner telling ref

  telling_there : is_telling u ≡ true
  telling_there = came_telling v u referred.came ∙ telling

  pub room : HasRoom v.post.machine f (told_word v (Refs f))
  room = refers_room v.post.machine owner f (told_word v (Refs f)) (ref.plain telling).0

  kind_same : kind_at (told_word u) f ≡ kind_at (told_word v) f
  kind_same = ap kind_fields (referred.still (Kind f) refl)

  counted : f < v.post.machine.frames → (kind_at (told_word u) f).validated ≡ true → (kind_at (told_word u) f).number ≤ ref_count (told_word v (Refs f))
  counted inside live =
      subst (λ (k : KindWord). k.number ≤ ref_count (told_word v (Refs f))) (sym kind_same)
      ((alone_orderly v calm.alone).counted f inside (ap (λ (k : KindWord). k.validated) (sym kind_same) ∙ live))

  orderly_there : IsOrderly v.post.machine (told_word u)
  orderly_there = subst (λ (n : Machine). IsOrderly n (told_word u)) (same_machine v u referred.came) (alone_orderly u (stays v u calm.alone referred.came))

  pub locked_words : IsLocked (told_word u) (told_word y) f
  locked_words =
      let a = lock.plain telling_there in
      let free : IsTrue (is_lockable (kind_at (told_word u) f)) = subst (λ w. IsTrue (is_lockable (kind_fields w))) a.0 a.1 in
      let l = locks_on v.post.machine (told_word u) f owner (told_word v (Refs f)) calm.alone.state.sound.machine free (λ inside. orderly_there) counted (ref.plain telling).0 in
      record { live = l.live; some = l.some; kind = ap kind_fields (a.3 (Kind f)) ∙ l.kind; there = λ q ranked off. a.3 q ∙ l.there q ranked off }

  locked_came : Came u y
  locked_came = does_came u y _ lock.found

  pub locked_machine : y.post.machine ≡ u.post.machine
  locked_machine = same_machine u y locked_came

  pub locked_calm : IsCalm u → IsCalm y
  locked_calm c =
      record {
        alone = stays u y c.alone locked_came;
        alive = subst (λ (n : Machine). AreAllAlive n (told_word y)) (sym locked_machine) (locked_alive u.post.machine (told_word u) (told_word y) f locked_words c.alive);
      }

-- ---- the lock goes off
module _ (v u : PortValue) (f : ℕ) (last : Bool) (telling : is_telling v ≡ true) (off : Unlocks v u f last) where
  inside : f < v.post.machine.frames
  inside = frame_inside v.post.machine f off.unlocks.step.may.place

  word : told_word v (Kind f) ≡ off.found
  word = told_there v u _ _ _ _ _ off.unlocks.step telling

  left : told_word u (Kind f) ≡ (off.found + unlocked_down) % 2 ^ 64
  unfolding left_by
  left = told_here v u _ _ _ _ _ off.unlocks.step telling

  pub off_words : IsUnlocked (told_word v) (told_word u) f
  off_words =
      record {
        kind =
            ap kind_fields left
            ∙ fields_unlocked off.found (kind_found v.post.machine v.post.vcpu v.holdings f off.found inside off.unlocks.step.finds).small off.unlocks.counted off.unlocks.locked
            ∙ ap (λ w. record (kind_fields w) { number = (kind_fields w).number - 1; locked = false }) (sym word);
        there = λ q ranked away. told_elsewhere v u _ _ _ _ _ off.unlocks.step q away;
      }

  pub off_came : Came v u
  off_came = moves_came v u _ _ _ _ _ off.unlocks.step

  -- it was not the last type count
  pub off_more : 2 ≤ (kind_at (told_word v) f).number → last ≡ true → ⊥
  off_more more is =
      let one : ((kind_fields off.found).number == 1) ≡ true = sym off.counts ∙ is in
      let same : (kind_at (told_word v) f).number ≡ (kind_fields off.found).number = ap (λ w. (kind_fields w).number) word in
      let e : (kind_fields off.found).number ≡ 1 = grind (arith, nat_tests) in
      omega (arith, e, same, more)

unlocked_then : (v u w : PortValue) (f : ℕ) → IsUnlocked (told_word v) (told_word u) f → Passes u w → IsUnlocked (told_word v) (told_word w) f
unlocked_then v u w f o p = record { kind = ap kind_fields (p.still (Kind f) refl) ∙ o.kind; there = λ q ranked off. p.still q ranked ∙ o.there q ranked off }

-- from u the lock went on, to y, and off again from z
module _ (u y z : PortValue) (f : ℕ) (p : Pause) (l : IsLocked (told_word u) (told_word y) f) (inside : f < u.post.machine.frames) (telling : is_telling z ≡ true) (c : Comes u.post.machine p (told_word y) (told_word z)) where
  pub comes_off : (w : PortValue) (level : ℕ) → LeftLock z f level w → ComesTo p u w
  comes_off _ level (course.shared a w off gave) =
      let o = off_words z a f false telling off in
      let back = gave_passes a w f (came_telling z a (off_came z a f false telling off) ∙ telling) gave in
      comes_locked u.post.machine (told_word u) (told_word y) f l p (told_word z) (told_word w) inside c (unlocked_then z a w f o back)
  comes_off _ level (course.last a b w found off store names) =
      absurd (off_more z a f true telling off (several u.post.machine (told_word u) (told_word y) f l (told_word z) (told_word z) inside c.forward) refl)

-- what stops it under the lock
pub under_lock : (n : Machine) (u y z : PortValue) (f : ℕ) (e : Stop) → IsLocked (told_word u) (told_word y) f → y.post.machine ≡ u.post.machine → f < u.post.machine.frames → is_telling z ≡ true → ComesFor n e y z →
    (w : PortValue) (level : ℕ) → LeftLock z f level w → ComesFor n e u w
under_lock n u y z f (Refused x) l same real tells c w level lock = tt
under_lock n u y z f (Paused x) l same real tells c w level lock =
    λ un. comes_off u y z f x l real tells (subst (λ (k : Machine). Comes k x (told_word y) (told_word z)) same (c un)) w level lock
