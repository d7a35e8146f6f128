-- The lock of a table goes off on words as on the plain value.
use Rattle.std.proofs.Common.{◌≡◌, ℕ, ◌+◌, ◌-◌, ◌<◌, ◌≤◌, ◌%◌, ◌^◌, ◌==◌, if◌then◌else◌, Bool, true, false, None, refl, sym, ap, ◌∙◌, subst, arith}
use Rattle.xp_words.specs.KindWords.{kind_fields, kind_write}
use Rattle.xp_words.specs.Machine.{Machine}
use Rattle.xp_words.specs.declared.kind.KindWord.{KindWord}
use Rattle.xp_words.specs.declared.place.Place.TheVariants.{Cell, Kind, Refs}
use Rattle.xp_board.specs.Acts.{left_by}
use Rattle.xp_board.specs.declared.step.Act.TheVariants.{Add, Store}
use Rattle.xp_board.specs.declared.step.StepKind.TheVariants as kinds
use Rattle.xp_board.specs.KindSteps.{unlocked_down}
use Rattle.xp_board.specs.Told.{Post, PortValue, is_telling, told_word}
use Rattle.xp_board.proofs.KindForms.{fields_unlocked, frame_inside}
use Rattle.step_maker.specs.Moves.{Came, Moves}
use Rattle.step_maker.specs.Plain.{Words, change}
use Rattle.step_maker.proofs.Coming.{came_post, came_trans, moves_came}
use Rattle.step_maker.proofs.Telling.{came_telling, leaves, told_elsewhere, told_there}
use Rattle.kind_words.specs.Kinds.{partial_kind}
use Rattle.kind_words.proofs.KindFacts.{kind_found}
use Rattle.kind_words.proofs.KindWriting.{fields_write, partial_is}
use Rattle.partial_state.specs.Levels.{level_type}
use Rattle.partial_state.proofs.LevelFacts.{level_type-table, level_type-typed}
use Rattle.frame_types.specs.Plain.{set_kind}
use Rattle.table_words.specs.OldWords.{old_place}
use Rattle.table_words.specs.declared.old_words.OldWord.TheVariants.{Second}
use Rattle.table_law.specs.Plain.{Describes, Plain, reference_back, sober, with_kind}
use Rattle.table_twins.proofs.Typing.{live_sober}
use Rattle.table_entries.specs.Acquiring.{GaveRef}
use Rattle.table_entries.proofs.Shared.{gave_came}
use Rattle.course_laws.proofs.Completing.{IsKinded, described_kind, same_kinded, stored_kinded}
use Rattle.entry_locks.specs.Locks.{Unlocks}
use Rattle.entry_locks.proofs.Unlocking.{unlock_words}
use Rattle.entry_exchange.specs.Course as course
use Rattle.entry_exchange.specs.Course.{LeftLock}
use Rattle.table_law.specs.Exchange.{unlocked_plain, unlocked_by}
use Rattle.exchange_laws.proofs.Given.{given_back}

-- ---- its steps are steps of the port
unlocks_came : (v u : PortValue) (f : ℕ) (last : Bool) → Unlocks v u f last → Came v u
unlocks_came v u f last a = moves_came v u _ _ _ _ _ a.unlocks.step

pub lock_came : (v w : PortValue) (f level : ℕ) → LeftLock v f level w → Came v w
lock_came v _ f level (course.shared u w off gave) = came_trans v u w (unlocks_came v u f false off) (gave_came u w f gave)
lock_came v _ f level (course.last u y w found off store names) = came_trans v u w (unlocks_came v u f true off) (came_trans u y w (moves_came u y _ _ _ _ _ store) (moves_came y w _ _ _ _ _ names))

-- ---- the kind word with a type count less, and not locked
lock_kinded : (m : Words) (f : ℕ) → IsKinded m (change (Add unlocked_down) (Kind f) m) f ((m (Kind f) + unlocked_down) % 2 ^ 64)
unfolding left_by
lock_kinded m f = record { refs = λ h. refl; cells = λ h i. refl; kinds = λ h. refl }

abbrev pub without_lock : KindWord → KindWord
without_lock k = record k { number = k.number - 1; locked = false }

module _ (n : Machine) (v u : PortValue) (f level : ℕ) (last : Bool) (p : Plain) (same : v.post.machine ≡ n) (telling : is_telling v ≡ true) (d : Describes n (told_word v) p) (off : Unlocks v u f last) where
  abbrev k : KindWord
  k = kind_fields off.found

  abbrev new : ℕ
  new = (off.found + unlocked_down) % 2 ^ 64

  inside : f < v.post.machine.frames
  inside = frame_inside v.post.machine f off.unlocks.step.may.place

  word : told_word v (Kind f) ≡ off.found
  word = told_there v u _ _ _ _ _ off.unlocks.step telling

  -- what the plain value has
  there : p.kinds f ≡ k
  there =
      d.kinds f (subst (λ (x : Machine). f < x.frames) same inside) ∙ ap (λ w. sober (kind_fields w)) word ∙ live_sober k off.unlocks.live

  fields : kind_fields new ≡ without_lock k
  fields = fields_unlocked off.found (kind_found v.post.machine v.post.vcpu v.holdings f off.found inside off.unlocks.step.finds).small off.unlocks.counted off.unlocks.locked

  kinded : IsKinded (told_word v) (told_word u) f new
  kinded =
      let all = unlock_words v u f off.found off.unlocks.step telling in
      subst (λ w. IsKinded (told_word v) (told_word u) f ((w + unlocked_down) % 2 ^ 64)) word
      (same_kinded (told_word v) (change (Add unlocked_down) (Kind f) (told_word v)) (told_word u) f _ (lock_kinded (told_word v) f) (λ h. all (Refs h)) (λ h i. all (Cell h i)) (λ h. all (Kind h)))

  sobered : without_lock k ≡ sober (kind_fields new)
  sobered = sym (live_sober (without_lock k) off.unlocks.live) ∙ sym (ap sober fields)

  off_described : Describes n (told_word u) (with_kind f (without_lock k) p)
  off_described = described_kind n (told_word v) (told_word u) p f new (without_lock k) kinded sobered d

  came : Came v u
  came = unlocks_came v u f last off

  machine_there : u.post.machine ≡ n
  machine_there = ap (λ (q : Post). q.machine) (came_post v u came) ∙ same

  telling_there : is_telling u ≡ true
  telling_there = came_telling v u came ∙ telling

  -- what the lock's going off comes to there
  comes : unlocked_plain level f p ≡ (if k.number == 1 then with_kind f (partial_kind (level_type level) false false 512 0) p else reference_back f (with_kind f (without_lock k) p))
  comes = ap (λ j. unlocked_by level f j p) there

  shared_off : (w : PortValue) → last ≡ false → GaveRef u w f → Describes n (told_word w) (unlocked_plain level f p)
  shared_off w more gave =
      let one = given_back n u w f (with_kind f (without_lock k) p) machine_there telling_there off_described gave in
      let is : (k.number == 1) ≡ false = sym off.counts ∙ more in
      subst (λ q. Describes n (told_word w) q)
      (sym (comes ∙ ap (λ b. if b then with_kind f (partial_kind (level_type level) false false 512 0) p else reference_back f (with_kind f (without_lock k) p)) is)) one

  -- it was the last type count: the table is stored as partial, and a word of the vCPU names it
  module _ (y w : PortValue) (found : ℕ) (low : 1 ≤ level) (store : Moves u y (Kind f) (Store (kind_write (partial_kind (level_type level) false false 512 0))) kinds.Kind None found) (names : Moves y w (old_place v.post.vcpu Second) (Store (f + 1)) kinds.Context None 0) where
    abbrev left : KindWord
    left = partial_kind (level_type level) false false 512 0

    stored : IsKinded (told_word u) (told_word y) f (kind_write left)
    stored =
        let all = leaves u y _ _ _ _ _ store telling_there in
        same_kinded (told_word u) (set_kind f left (told_word u)) (told_word y) f (kind_write left) (stored_kinded (told_word u) f left) (λ h. all (Refs h)) (λ h i. all (Cell h i)) (λ h. all (Kind h))

    over : (b : Bool) (a c e : ℕ) → (if b then a else (if b then c else e)) ≡ (if b then a else e)
    over true a c e = refl
    over false a c e = refl

    both : IsKinded (told_word v) (told_word w) f (kind_write left)
    both =
        record {
          refs = λ h. told_elsewhere y w _ _ _ _ _ names (Refs h) (λ e. cc) ∙ stored.refs h ∙ kinded.refs h;
          cells = λ h i. told_elsewhere y w _ _ _ _ _ names (Cell h i) (λ e. cc) ∙ stored.cells h i ∙ kinded.cells h i;
          kinds = λ h.
              told_elsewhere y w _ _ _ _ _ names (Kind h) (λ e. cc) ∙ stored.kinds h
              ∙ ap (λ x. if h == f then kind_write left else x) (kinded.kinds h) ∙ over (h == f) (kind_write left) new (told_word v (Kind h));
        }

    written : left ≡ sober (kind_fields (kind_write left))
    written = sym (ap sober (fields_write left (partial_is (level_type level) (level_type-typed level) false 512 (level_type-table level low) (omega arith))))

    last_off : last ≡ true → Describes n (told_word w) (unlocked_plain level f p)
    last_off none =
        let one = described_kind n (told_word v) (told_word w) p f (kind_write left) left both written d in
        let is : (k.number == 1) ≡ true = sym off.counts ∙ none in
        subst (λ q. Describes n (told_word w) q) (sym (comes ∙ ap (λ b. if b then with_kind f left p else reference_back f (with_kind f (without_lock k) p)) is)) one

-- the words are those of the plain value with the lock off
pub lock_off : (n : Machine) (v w : PortValue) (f level : ℕ) (p : Plain) → v.post.machine ≡ n → is_telling v ≡ true → 1 ≤ level → Describes n (told_word v) p → LeftLock v f level w → Describes n (told_word w) (unlocked_plain level f p)
lock_off n v _ f level p same telling low d (course.shared u w off gave) = shared_off n v u f level false p same telling d off w refl gave
lock_off n v _ f level p same telling low d (course.last u y w found off store names) = last_off n v u f level true p same telling d off y w found low store names refl
