-- A lock taken off: what its step shows, and what it leaves in hand.
use Rattle.std.proofs.Common.{◌≡◌, ℕ, ◌<◌, ◌==◌, if◌then◌else◌, Bool, true, false, [], ◌∷◌, Some, None, IsTrue, refl, sym, ap, ◌∙◌, subst}
use Rattle.std.proofs.lemmas.Bool.{and_parts}
use Rattle.xp_words.specs.KindWords.{kind_fields}
use Rattle.xp_words.specs.PageTypes.{is_table}
use Rattle.xp_words.specs.declared.kind.KindWord.{KindWord}
use Rattle.xp_words.specs.declared.place.Place.TheVariants.{Kind}
use Rattle.xp_words.specs.Machine.{Machine}
use Rattle.xp_board.specs.declared.holdings.Holdings.{Holdings}
use Rattle.xp_board.specs.declared.holdings.Lock.{Lock}
use Rattle.xp_board.specs.declared.step.Act.TheVariants.{Add}
use Rattle.xp_board.specs.declared.step.StepKind.TheVariants as kinds
use Rattle.xp_board.specs.Acts.{left_by}
use Rattle.xp_board.specs.Hands.{lock_on, locks_on, work_on}
use Rattle.xp_board.specs.KindSteps.{new_work, unlocked, unlocked_down}
use Rattle.xp_board.specs.Readings.{is_live, is_locked}
use Rattle.xp_board.specs.Told.{Finds, PortValue, is_telling, told_word}
use Rattle.xp_board.proofs.HandLists.{first-some}
use Rattle.xp_board.proofs.KindForms.{live_form}
use Rattle.xp_board.proofs.LockFacts.{lock_facts}
use Rattle.step_maker.specs.Holds.{Holds, still}
use Rattle.step_maker.specs.Moves.{Moves}
use Rattle.step_maker.specs.Plain.{Leaves, change}
use Rattle.step_maker.proofs.Telling.{leaves}
use Rattle.step_maker.specs.Answers.{Serves}
use Rattle.step_maker.specs.Asked.{of_back}
use Rattle.step_maker.proofs.Piecing.{moves_serves}
use Rattle.frame_words.proofs.Taking.{backs_itself}
use Rattle.kind_words.proofs.KindFacts.{kind_found}
use Rattle.entry_locks.specs.Locks.{Unlocks, closing_unlocked, unlocked_hand}

-- ---- the word of a table under the own lock
pub record IsFoundLocked (w : ℕ) (e : Lock) : Type 0 where
  pub live : IsTrue (is_live (kind_fields w))
  pub locked : (kind_fields w).locked ≡ true
  pub some : 0 < (kind_fields w).number
  pub unmarked : (kind_fields w).unflushed ≡ false
  pub kind : (kind_fields w).kind ≡ e.kind
  pub table : is_table (kind_fields w).kind ≡ true

found_locked : (n : Machine) (s : ℕ) (h : Holdings) (f w : ℕ) (e : Lock) → f < n.frames → Finds n s h (Kind f) w → lock_on f h.locks ≡ Some e → IsFoundLocked w e
found_locked n s h f w e frame finds here =
    let facts = lock_facts n finds.words finds.hands s f e finds.sound finds.real (subst (λ (u : Holdings). lock_on f u.locks ≡ Some e) (sym finds.mine) here) in
    let spelled = kind_found n s h f w frame finds in
    let k = kind_fields w in
    let marks : is_locked k ≡ true = ap (λ y. is_locked (kind_fields y)) (sym finds.word) ∙ facts.locked in
    let both = and_parts (kind_fields w).validated (kind_fields w).locked marks in
    let form = live_form w (kind_fields w) (spelled.read ∙ ap (λ (y : KindWord). Some y) (sym spelled.fields)) both.0 in
    record {
      live = both.0;
      locked = both.1;
      some = (form.locked both.1).1;
      unmarked = form.flushed;
      kind = ap (λ y. (kind_fields y).kind) (sym finds.word) ∙ facts.kind;
      table = (form.locked both.1).0;
    }

pub lock_held : (f : ℕ) (e : Lock) (h : Holdings) → lock_on f h.locks ≡ Some e → 0 < locks_on f h.locks
lock_held f e h here = first-some (λ (y : Lock). y.frame) f e h.locks here

-- ---- the hand
more_left : (f found left : ℕ) (h : Holdings) → ((kind_fields found).number == 1) ≡ false → unlocked f found left h ≡ unlocked_hand f h
more_left f found left h more = rw more refl

none_left : (f found left : ℕ) (h : Holdings) → ((kind_fields found).number == 1) ≡ true → is_table (kind_fields found).kind ≡ true →
    unlocked f found left h ≡ record (unlocked_hand f h) { works = new_work f left 512 None h ∷ h.works }
none_left f found left h last table = rw (last, table) refl

module _ (v a : PortValue) (f found : ℕ) (unlock : Moves v a (Kind f) (Add unlocked_down) kinds.Kind None found) where
  pub unlock_serves : Serves v a (of_back f) []
  unlock_serves = moves_serves v a (of_back f) _ _ _ _ _ unlock (backs_itself v.post.machine v.post.vcpu f _)

  pub unlock_words : is_telling v ≡ true → Leaves a (change (Add unlocked_down) (Kind f) (told_word v))
  unlock_words telling = leaves v a (Kind f) (Add unlocked_down) kinds.Kind None found unlock telling

  module _ (hand : Holds v a (unlocked f found (left_by (Add unlocked_down) found) v.holdings)) (e : Lock) (here : lock_on f v.holdings.locks ≡ Some e) (frame : f < v.post.machine.frames) (apart : work_on f v.holdings.works ≡ None) where
    is : IsFoundLocked found e
    is = found_locked v.post.machine v.post.vcpu v.holdings f found e frame unlock.finds here

    hand_by : (b : Bool) → ((kind_fields found).number == 1) ≡ b → Holds v a (if b then record (unlocked_hand f v.holdings) { works = closing_unlocked f found v.holdings ∷ v.holdings.works } else unlocked_hand f v.holdings)
    hand_by true last = hand ∙ ap (λ (h : Holdings). still (record v { holdings = h })) (none_left f found (left_by (Add unlocked_down) found) v.holdings last is.table)
    hand_by false more = hand ∙ ap (λ (h : Holdings). still (record v { holdings = h })) (more_left f found (left_by (Add unlocked_down) found) v.holdings more)

    pub unlocks : (last : Bool) → last ≡ ((kind_fields found).number == 1) → Unlocks v a f last
    unlocks last counts =
        record {
          lock = e;
          here = here;
          found = found;
          unlocks = record { step = unlock; live = is.live; locked = is.locked; counted = is.some; unmarked = is.unmarked; kind = is.kind; apart = apart };
          counts = counts;
          hand = hand_by last (sym counts);
        }
