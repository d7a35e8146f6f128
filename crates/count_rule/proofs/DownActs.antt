-- A type count, or an entry lock, is given back.
use Rattle.std.proofs.Common.{◌≡◌, ◌≢◌, ℕ, ◌+◌, ◌<◌, ◌==◌, if◌then◌else◌, Bool, true, false, List, ◌∷◌, Some, None, refl, sym, ◌∙◌, ap, arith, IsTrue, inl, inr}
use Rattle.std.proofs.lemmas.Bool.{cases_eq}
use Rattle.std.proofs.lemmas.Bool.Decides.{nat_tests}
use Rattle.xp_words.specs.declared.kind.KindWord.{KindWord}
use Rattle.xp_words.specs.KindWords.{has_form}
use Rattle.xp_words.specs.PageTypes.{is_table}
use Rattle.xp_words.specs.RefWords.{bit}
use Rattle.xp_words.specs.Machine.{Machine}
use Rattle.xp_words.specs.declared.place.Place.{Place}
use Rattle.xp_words.specs.declared.place.Place.TheVariants.{Kind}
use Rattle.xp_words.specs.Places.{sizes_of}
use Rattle.xp_words.proofs.Shared.{eq_false as when_ne}
use Rattle.xp_board.specs.declared.holdings.Holdings.{Holdings}
use Rattle.xp_board.specs.declared.holdings.Work.{Work}
use Rattle.xp_board.specs.declared.holdings.Lock.{Lock}
use Rattle.xp_board.specs.declared.holdings.Reference.{Reference}
use Rattle.xp_board.specs.declared.holdings.TypedReference.{TypedReference}
use Rattle.xp_board.specs.declared.step.Step.{Step}
use Rattle.xp_board.specs.declared.step.StepKind.TheVariants as steps
use Rattle.xp_board.specs.Lists.{EachOf}
use Rattle.xp_board.specs.Readings.{kind_at, is_live, is_closing}
use Rattle.xp_board.specs.Hands.{refs_to, typed_to, locks_on, work_on, without_typed, without_lock}
use Rattle.xp_board.specs.Recorded.{held, HasType}
use Rattle.xp_board.specs.KindSteps.{new_work, closing_works}
use Rattle.xp_board.specs.After.{noted}
use Rattle.xp_board.specs.Spelling.{IsSpelling}
use Rattle.xp_board.specs.Keeping.{MayAct}
use Rattle.xp_board.specs.Sound.{is_busy, HeldAlone, Sound}
use Rattle.step_effects.proofs.ActEffects.{Wrote, Dropped, Unlocked}
use Rattle.xp_board.proofs.Sums.{when_eq, no_bit}
use Rattle.xp_board.proofs.ListCounts.{first_by-cons_here}
use Rattle.xp_board.proofs.Works.{nobody_works, held_free, held_mine}
use Rattle.count_rule.proofs.ListMoves.{cons_other, out_other, cons_here, out_here, recorded_cons}
use Rattle.count_rule.proofs.KindForms.{Says, live_says, closing_says}
use Rattle.xp_board.proofs.HeldByForm.{held_live, held_work, held_same}
use Rattle.xp_board.proofs.KindForms.{spelled_form}
use Rattle.count_rule.proofs.KindSpelled.{form_was, kind_spelled}
use Rattle.count_rule.proofs.KindActs.{Elsewhere, beside, rest_by, turn_outcome, free_outcome}
use Rattle.count_rule.proofs.KindWorks.{works_in}
use Rattle.count_rule.proofs.Outcome.{Outcome}
use Rattle.xp_board.proofs.HandLists.{EachOf-without}
use Rattle.xp_board.proofs.KindReadings.{stamp_live}
use Rattle.xp_board.proofs.CountsDown.{drop_live, drop_some, drop_word, lock_live, lock_set, lock_some, unlock_word}

closing_off : (k : KindWord) → has_form k ≡ true → IsTrue (is_live k) → k.number ≡ 0 → (k.pinned ≡ false) × (k.locked ≡ false) × (k.unflushed ≡ false)
unfolding has_form
closing_off k form live none = (grind (arith, nat_tests), grind (arith, nat_tests), grind (arith, nat_tests))

live_flushed : (k : KindWord) → has_form k ≡ true → IsTrue (is_live k) → k.unflushed ≡ false
unfolding has_form
live_flushed k form live = grind (arith, nat_tests)

closes : (k : KindWord) → IsTrue (is_live k) → k.number ≡ 0 → IsTrue (is_closing k)
closes k live none = grind (arith, nat_tests)

twice_if : (t : Bool) (x : ℕ) → (if t then (if t then x else 0) else 0) ≡ (if t then x else 0)
twice_if true x = refl
twice_if false x = refl

module _ (n : Machine) (s : ℕ) (x : Step) (m m2 : Place → ℕ) (b c : ℕ → Holdings) (vcpu : s < (sizes_of n).vcpus) (others : (t : ℕ) → t ≢ s → c t ≡ b t) (may : MayAct n s x (b s)) (sound : Sound n m b) (f : ℕ) where
  module _ (wrote : Wrote n x (Kind f) steps.Kind m m2 (b s)) (r : Reference) (of_f : r.frame ≡ f) (typed : List TypedReference) (locks : List Lock)
      (hand : c s ≡ noted x (m (Kind f)) (record (b s) { refs = r ∷ (b s).refs; typed = typed; locks = locks; works = closing_works f (m (Kind f)) (m2 (Kind f)) (b s) }))
      (live : IsTrue (is_live (kind_at m f))) (some : 0 < (kind_at m f).number) (kind : (kind_at m2 f).kind ≡ (kind_at m f).kind) (valid : (kind_at m2 f).validated ≡ (kind_at m f).validated)
      (partial : (kind_at m2 f).partial ≡ (kind_at m f).partial) (progress : (kind_at m2 f).progress ≡ (kind_at m f).progress) (pinned : (kind_at m2 f).pinned ≡ (kind_at m f).pinned)
      (number : (kind_at m2 f).number + 1 ≡ (kind_at m f).number)
      (typed_other : (g : ℕ) → g ≢ f → typed_to g typed ≡ typed_to g (b s).typed) (locks_other : (g : ℕ) → g ≢ f → locks_on g locks ≡ locks_on g (b s).locks)
      (out : typed_to f typed + locks_on f locks + 1 ≡ typed_to f (b s).typed + locks_on f (b s).locks)
      (lock_out : locks_on f locks + bit (kind_at m f).locked ≡ locks_on f (b s).locks + bit (kind_at m2 f).locked)
      (typed_kept : EachOf (λ e. HasType m2 e.frame e.kind) (b s).typed → EachOf (λ e. HasType m2 e.frame e.kind) typed)
      (locks_kept : EachOf (λ e. HasType m2 e.frame (Some e.kind)) (b s).locks → EachOf (λ e. HasType m2 e.frame (Some e.kind)) locks) where
    form_is : has_form (kind_at m2 f) ≡ true
    unfolding IsSpelling
    form_is = spelled_form n (m2 (Kind f)) ((kind_spelled n s x m m2 b vcpu may sound f wrote).spelled (Kind f) wrote.real)

    live_is : IsTrue (is_live (kind_at m2 f))
    live_is = valid ∙ live

    was : Says (kind_at m f) (kind_at m f).number (bit (kind_at m f).pinned) 0 (bit (kind_at m f).locked)
    was = live_says (kind_at m f) (form_was n s m m2 b vcpu sound f wrote.real) live some

    abbrev after : Bool → Holdings
    after t =
        noted x (m (Kind f))
        (record (b s) {
          refs = r ∷ (b s).refs;
          typed = typed;
          locks = locks;
          works = if t then (new_work f (m2 (Kind f)) (if is_table (kind_at m f).kind then 512 else 0) None (b s) ∷ (b s).works) else (b s).works;
        })

    after_is : (t : Bool) → ((kind_at m f).number == 1) ≡ t → c s ≡ after t
    after_is t e = hand ∙ ap after e

    ref_in : refs_to f (r ∷ (b s).refs) ≡ 1 + refs_to f (b s).refs
    ref_in = cons_here (λ y. y.frame) f (b s).refs (r ∷ (b s).refs) r of_f refl

    elsewhere : (t : Bool) → Elsewhere n s x m m2 b c vcpu others may sound f (after t)
    elsewhere t = record { refs = cons_other (λ y. y.frame) f (b s).refs (r ∷ (b s).refs) r of_f refl; typed = typed_other; locks = locks_other }

    stays_live : (kind_at m f).number ≢ 1 → Outcome n m2 c
    stays_live off =
        let left : 0 < (kind_at m2 f).number = omega arith in
        let is = live_says (kind_at m2 f) form_is live_is left in
        let pin = ap bit pinned in
        free_outcome n s x m m2 b c vcpu others may sound f wrote (after false) (after_is false (when_ne (kind_at m f).number 1 off))
        (beside n s x m m2 b c vcpu others may sound f (after false) refl refl refl refl refl refl refl) refl (elsewhere false) (kind_at m f) (kind_at m2 f)
        (kind_at m f).number (bit (kind_at m f).pinned) (bit (kind_at m f).locked) (kind_at m2 f).number (bit (kind_at m2 f).pinned) (bit (kind_at m2 f).locked)
        (record { was = refl; is = refl; says = was; tells = is }) (held_same (kind_at m f) (kind_at m2 f) kind valid partial progress) kind
        (let z = stamp_live (m2 (Kind f)) (kind_at m2 f) refl live_is in omega arith) (let i = ref_in in omega arith) (omega arith) lock_out typed_kept locks_kept

    -- all entries of a closing table are recorded, as they were of the live one
    closing_held : HeldAlone n m2 c → (w : Work) → (c s).works ≡ w ∷ (b s).works → w.frame ≡ f → w.recorded ≡ (if is_table (kind_at m f).kind then 512 else 0) →
        held (sizes_of n) m2 c f ≡ held (sizes_of n) m b f
    closing_held alone w now of_w all =
        let free = no_bit (is_busy (kind_at m f)) was.busy_is in
        held_mine n m2 c alone f s w vcpu (ap (work_on f) now ∙ first_by-cons_here (λ y. y.frame) f w (b s).works of_w)
        ∙ held_work (kind_at m2 f) w.recorded ∙ ap (λ y. if is_table y then w.recorded else 0) kind ∙ ap (λ y. if is_table (kind_at m f).kind then y else 0) all
        ∙ twice_if (is_table (kind_at m f).kind) 512
        ∙ sym (held_free n m b sound.alone f free ∙ held_live (kind_at m f) live)

    closes_now : (kind_at m f).number ≡ 1 → Outcome n m2 c
    closes_now one =
        let none : (kind_at m2 f).number ≡ 0 = omega arith in
        let off = closing_off (kind_at m2 f) form_is live_is none in
        let is = closing_says (kind_at m2 f) form_is (closes (kind_at m2 f) live_is none) in
        let pin = ap bit (sym pinned ∙ off.0) in
        let lock = ap bit off.1 in
        let hand_is = after_is true (when_eq (kind_at m f).number 1 one) in
        let now = ap (λ y. y.works) hand_is in
        let free = no_bit (is_busy (kind_at m f)) was.busy_is in
        let nobody = nobody_works n m b sound.alone f free s vcpu in
        let more = cons_here (λ y. y.frame) f (b s).works (after true).works _ refl refl in
        let rest =
        rest_by n s x m m2 b c vcpu others may sound f (after true) hand_is (beside n s x m m2 b c vcpu others may sound f (after true) refl refl refl refl refl refl refl) (elsewhere true)
        (cons_other (λ y. y.frame) f (b s).works (after true).works _ refl refl) (recorded_cons f (b s).works (after true).works _ refl refl)
        in
        turn_outcome n s x m m2 b c vcpu others may sound f wrote (after true) hand_is rest (kind_at m f) (kind_at m2 f) (kind_at m f).number (bit (kind_at m f).pinned) 0 (bit (kind_at m f).locked) 0 0 1 0
        (record { was = refl; is = refl; says = was; tells = is })
        (let z = stamp_live (m2 (Kind f)) (kind_at m2 f) refl live_is in omega arith) (let i = ref_in in omega arith) (omega arith) (omega arith) (omega arith)
        (λ alone. closing_held alone (new_work f (m2 (Kind f)) (if is_table (kind_at m f).kind then 512 else 0) None (b s)) now refl refl)
        (inl kind) typed_kept locks_kept
        (works_in f (b s) (c s) rest.refs _ now nobody
        (record {
          marked = λ u. let flushed = live_flushed (kind_at m2 f) form_is live_is in absurd (cc);
          closing = λ t. let i = ref_in in let j = ap (λ y. refs_to f y.refs) hand_is in omega arith;
        })
        (sound.works s vcpu))

    pub down_outcome : Outcome n m2 c
    down_outcome =
        elim (cases_eq (kind_at m f).number 1) [
          | inl one ↦ closes_now one
          | inr off ↦ stays_live off
        ]

  pub dropped_outcome : Dropped n x f m m2 (b s) (c s) → Outcome n m2 c
  dropped_outcome d =
      let live = drop_live n m b sound s vcpu f d.may in
      let some = drop_some n m b sound s vcpu f d.may in
      let fields = drop_word n m b sound s vcpu f d.may (m2 (Kind f)) d.is in
      let number = ap (λ (y : KindWord). y.number) fields in
      let lock = ap bit (ap (λ (y : KindWord). y.locked) fields) in
      let out = out_here (λ y. y.frame) f (b s).typed (without_typed f (b s).typed) refl d.may.in_hand in
      down_outcome d.wrote _ refl (without_typed f (b s).typed) (b s).locks d.hand live some (ap (λ (y : KindWord). y.kind) fields) (ap (λ (y : KindWord). y.validated) fields)
      (ap (λ (y : KindWord). y.partial) fields) (ap (λ (y : KindWord). y.progress) fields) (ap (λ (y : KindWord). y.pinned) fields) (omega arith)
      (out_other (λ y. y.frame) f (b s).typed (without_typed f (b s).typed) refl) (λ g off. refl) (omega arith) (omega arith)
      (λ e. EachOf-without (λ y. HasType m2 y.frame y.kind) (λ y. y.frame) f (b s).typed e) (λ e. e)

  pub unlocked_outcome : Unlocked n x f m m2 (b s) (c s) → Outcome n m2 c
  unlocked_outcome d =
      let live = lock_live n m b sound s vcpu f d.may in
      let on = ap bit (lock_set n m b sound s vcpu f d.may) in
      let some = lock_some n m b sound s vcpu f d.may in
      let fields = unlock_word n m b sound s vcpu f d.may (m2 (Kind f)) d.is in
      let number = ap (λ (y : KindWord). y.number) fields in
      let lock = ap bit (ap (λ (y : KindWord). y.locked) fields) in
      let out = out_here (λ y. y.frame) f (b s).locks (without_lock f (b s).locks) refl d.may in
      down_outcome d.wrote _ refl (b s).typed (without_lock f (b s).locks) d.hand live some (ap (λ (y : KindWord). y.kind) fields) (ap (λ (y : KindWord). y.validated) fields)
      (ap (λ (y : KindWord). y.partial) fields) (ap (λ (y : KindWord). y.progress) fields) (ap (λ (y : KindWord). y.pinned) fields) (omega arith)
      (λ g off. refl) (out_other (λ y. y.frame) f (b s).locks (without_lock f (b s).locks) refl) (omega arith) (omega arith) (λ e. e)
      (λ e. EachOf-without (λ y. HasType m2 y.frame (Some y.kind)) (λ y. y.frame) f (b s).locks e)
