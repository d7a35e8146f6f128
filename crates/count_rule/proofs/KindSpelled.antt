-- What an act on a kind word stores is a spelling.
use Rattle.std.proofs.Common.{◌≡◌, ℕ, ◌+◌, ◌%◌, ◌^◌, ◌<◌, ◌≤◌, true, Option, Some, None, refl, sym, ◌∙◌, ap, subst, arith, IsTrue, inl, inr}
use Rattle.std.proofs.lemmas.Bool.Decides.{nat_tests}
use Rattle.xp_words.specs.declared.kind.KindWord.{KindWord}
use Rattle.xp_words.specs.KindWords.{kind_read, kind_fields, has_form, has_type}
use Rattle.xp_words.specs.Machine.{Machine}
use Rattle.xp_words.specs.declared.place.Place.{Place}
use Rattle.xp_words.specs.declared.place.Place.TheVariants.{Kind}
use Rattle.xp_words.specs.Places.{sizes_of, is_place}
use Rattle.xp_board.specs.declared.holdings.Holdings.{Holdings}
use Rattle.xp_board.specs.declared.step.Step.{Step}
use Rattle.xp_board.specs.declared.step.StepKind.TheVariants as steps
use Rattle.xp_board.specs.Readings.{kind_at, is_live}
use Rattle.xp_board.specs.Hands.{typed_to, locks_on, typed_hand}
use Rattle.xp_board.specs.Recorded.{marks, hands}
use Rattle.xp_board.specs.KindSteps.{MayDrop, unlocked_down}
use Rattle.xp_board.specs.RefSteps.{one_down}
use Rattle.xp_board.specs.Spelling.{IsSpelling, is_kind_in}
use Rattle.xp_board.specs.Keeping.{MayAct}
use Rattle.xp_board.specs.Sound.{Spelled, Sound}
use Rattle.step_effects.proofs.ActEffects.{Wrote}
use Rattle.xp_board.proofs.Sums.{hands-plus, hands-part}
use Rattle.xp_board.proofs.KindForms.{spelled_form, fields_of}
use Rattle.count_rule.proofs.KindDown.{read_made, read_type, dropped_form, unlocked_form, down_type, unlock_type}
use Rattle.count_rule.proofs.SpelledLaw.{wrote_spelled}
use Rattle.xp_board.proofs.Counted.{typed_hand_is}
use Rattle.xp_board.proofs.CountsDown.{drop_live, drop_some, drop_word, lock_live, lock_set, lock_some, unlock_word}
use Rattle.xp_board.proofs.KindReadings.{live_count}

limit_by : (n : Machine) (k : KindWord) → IsTrue (is_kind_in n (Some k)) → IsTrue (is_live k) → k.number ≤ n.limit
limit_by n k t live = grind (arith, nat_tests)

kind_limit : (n : Machine) (w : ℕ) (o : Option KindWord) → kind_read w ≡ o → IsTrue (is_kind_in n o) → IsTrue (is_live (kind_fields w)) → (kind_fields w).number ≤ n.limit
kind_limit n w (Some k) e t live = let f = fields_of w k e in let l : IsTrue (is_live k) = rw f at live in rw f (limit_by n k t l)
kind_limit n w None e t live = absurd (cc)

live_in : (n : Machine) (k : KindWord) → k.number ≤ n.limit → IsTrue (is_kind_in n (Some k))
live_in n k b = grind (arith, nat_tests)

typed_by : (n : Machine) (w : ℕ) (o : Option KindWord) → kind_read w ≡ o → IsTrue (is_kind_in n o) → has_type w ≡ true
typed_by n w (Some k) e t = read_type w k e
typed_by n w None e t = absurd (cc)

module _ (n : Machine) (s : ℕ) (m m2 : Place → ℕ) (b : ℕ → Holdings) (vcpu : s < (sizes_of n).vcpus) (sound : Sound n m b) (f : ℕ) (real : IsTrue (is_place (sizes_of n) (Kind f))) where
  was : IsTrue (is_kind_in n (kind_read (m (Kind f))))
  unfolding IsSpelling
  was = sound.spelled.spelled (Kind f) real

  pub form_was : has_form (kind_at m f) ≡ true
  form_was = spelled_form n (m (Kind f)) was

  type_was : has_type (m (Kind f)) ≡ true
  type_was = typed_by n (m (Kind f)) (kind_read (m (Kind f))) refl was

  limit_was : IsTrue (is_live (kind_at m f)) → (kind_at m f).number ≤ n.limit
  limit_was live = kind_limit n (m (Kind f)) (kind_read (m (Kind f))) refl was live

  -- ---- the counts of a live frame

  marks_pinned : (kind_at m f).pinned ≡ true → 1 ≤ marks (kind_at m f)
  unfolding marks
  marks_pinned on = rw on (omega arith)

  pub typed_counts : IsTrue (is_live (kind_at m f)) → marks (kind_at m f) + (hands (λ u. typed_to f u.typed) (sizes_of n) b + hands (λ u. locks_on f u.locks) (sizes_of n) b) ≤ (kind_at m f).number
  typed_counts live =
      let all = sound.counts.types f in
      let count = live_count (kind_at m f) live in
      let both = hands-plus (λ u. typed_to f u.typed) (λ u. locks_on f u.locks) (typed_hand f) (sizes_of n) b (λ u. typed_hand_is f u) in
      omega arith

  locked_hands : IsTrue (is_live (kind_at m f)) → (kind_at m f).locked ≡ true → hands (λ u. locks_on f u.locks) (sizes_of n) b ≡ 1
  locked_hands live on = sound.alone.locks f ∙ rw (live, on) refl

  -- ---- a type count is given back
  module _ (drop : MayDrop n f (b s)) where
    drop_pinned : (kind_at m f).pinned ≡ true → 2 ≤ (kind_at m f).number
    drop_pinned on =
        let all = typed_counts (drop_live n m b sound s vcpu f drop) in
        let mine = hands-part (λ u. typed_to f u.typed) (sizes_of n) b s vcpu in
        let has = drop.in_hand in
        let mark = marks_pinned on in
        omega arith

    drop_locked : (kind_at m f).locked ≡ true → 2 ≤ (kind_at m f).number
    drop_locked on =
        let all = typed_counts (drop_live n m b sound s vcpu f drop) in
        let mine = hands-part (λ u. typed_to f u.typed) (sizes_of n) b s vcpu in
        let has = drop.in_hand in
        let lock = locked_hands (drop_live n m b sound s vcpu f drop) on in
        omega arith

    drop_spelled : m2 (Kind f) ≡ (m (Kind f) + one_down) % 2 ^ 64 → IsSpelling n (Kind f) (m2 (Kind f))
    unfolding IsSpelling
    drop_spelled is =
        let e = drop_word n m b sound s vcpu f drop (m2 (Kind f)) is in
        let form : has_form (kind_at m2 f) ≡ true = ap has_form e ∙ dropped_form (kind_at m f) form_was (drop_live n m b sound s vcpu f drop) (drop_some n m b sound s vcpu f drop) drop_pinned drop_locked in
        let type : has_type (m2 (Kind f)) ≡ true = ap has_type is ∙ down_type (m (Kind f)) (sound.spelled.small (Kind f)) (drop_some n m b sound s vcpu f drop) ∙ type_was in
        let read = read_made (m2 (Kind f)) type form in
        subst (λ y. IsTrue (is_kind_in n y)) (sym read) (live_in n (kind_at m2 f) (let k = limit_was (drop_live n m b sound s vcpu f drop) in let j = ap (λ (y : KindWord). y.number) e in omega arith))

  -- ---- a lock is given back
  module _ (held : 0 < locks_on f (b s).locks) where
    lock_pinned : (kind_at m f).pinned ≡ true → 2 ≤ (kind_at m f).number
    lock_pinned on =
        let all = typed_counts (lock_live n m b sound s vcpu f held) in
        let mine = hands-part (λ u. locks_on f u.locks) (sizes_of n) b s vcpu in
        let mark = marks_pinned on in
        omega arith

    unlock_spelled : m2 (Kind f) ≡ (m (Kind f) + unlocked_down) % 2 ^ 64 → IsSpelling n (Kind f) (m2 (Kind f))
    unfolding IsSpelling
    unlock_spelled is =
        let e = unlock_word n m b sound s vcpu f held (m2 (Kind f)) is in
        let form : has_form (kind_at m2 f) ≡ true = ap has_form e ∙ unlocked_form (kind_at m f) form_was (lock_live n m b sound s vcpu f held) (lock_some n m b sound s vcpu f held) lock_pinned in
        let type : has_type (m2 (Kind f)) ≡ true = ap has_type is ∙ unlock_type (m (Kind f)) (sound.spelled.small (Kind f)) (lock_some n m b sound s vcpu f held) (lock_set n m b sound s vcpu f held) ∙ type_was in
        let read = read_made (m2 (Kind f)) type form in
        subst (λ y. IsTrue (is_kind_in n y)) (sym read) (live_in n (kind_at m2 f) (let k = limit_was (lock_live n m b sound s vcpu f held) in let j = ap (λ (y : KindWord). y.number) e in omega arith))

pub kind_spelled : (n : Machine) (s : ℕ) (x : Step) (m m2 : Place → ℕ) (b : ℕ → Holdings) → s < (sizes_of n).vcpus → MayAct n s x (b s) → Sound n m b → (f : ℕ) → Wrote n x (Kind f) steps.Kind m m2 (b s) → Spelled n m2
kind_spelled n s x m m2 b vcpu may sound f d =
    wrote_spelled n s x (Kind f) steps.Kind m m2 (b s) d may sound.machine sound.spelled
    (λ by l is. elim l [
      | inl drop ↦ drop_spelled n s m m2 b vcpu sound f d.real drop.1 (is ∙ ap (λ y. (m (Kind f) + y) % 2 ^ 64) drop.0)
      | inr unlock ↦ unlock_spelled n s m m2 b vcpu sound f d.real unlock.1 (is ∙ ap (λ y. (m (Kind f) + y) % 2 ^ 64) unlock.0)
    ])
    (λ v l. absurd l)
