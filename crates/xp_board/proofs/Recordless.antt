-- Frames of which no entry is recorded; the table of a recorded entry has a reference.
use Rattle.std.proofs.Common.{◌≡◌, ◌≢◌, ℕ, ◌<◌, ◌⊎◌, true, false, Some, None, IsTrue, refl, ◌∙◌, subst, inl, inr, arith}
use Rattle.std.proofs.lemmas.Bool.{cases_eq, cases_Bool}
use Rattle.std.proofs.lemmas.Bool.Decides.{nat_tests}
use Rattle.xp_words.specs.declared.kind.KindWord.{KindWord}
use Rattle.xp_words.specs.PageTypes.{is_table}
use Rattle.xp_words.specs.KindWords.{kind_fields, has_form}
use Rattle.xp_words.specs.Machine.{Machine}
use Rattle.xp_words.specs.declared.place.Place.{Place}
use Rattle.xp_words.specs.declared.place.Place.TheVariants.{Refs}
use Rattle.xp_words.specs.Places.{sizes_of}
use Rattle.xp_board.specs.declared.holdings.Holdings.{Holdings}
use Rattle.xp_board.specs.Readings.{kind_at, ref_count, type_count, is_closing}
use Rattle.xp_board.specs.Hands.{refs_to}
use Rattle.xp_board.specs.Recorded.{held, held_of, held_by_form}
use Rattle.xp_board.specs.Sound.{Sound, is_busy}
use Rattle.xp_board.proofs.Works.{in_works, held_free, held_mine}
use Rattle.xp_board.proofs.Counted.{type_below, in_hand_counted}
use Rattle.xp_board.proofs.WorkFacts.{works_facts}
use Rattle.xp_board.proofs.KindForms.{marked_form, form_unlive}

pub closing_counted : (n : Machine) (m : Place → ℕ) (h : ℕ → Holdings) (f : ℕ) → Sound n m h → is_closing (kind_at m f) ≡ true → is_busy (kind_at m f) ≡ true → 0 < ref_count (m (Refs f))
closing_counted n m h f sound closing busy =
    let t = in_works n m h sound.alone f busy in
    let w = works_facts n m h t.vcpu f t.work sound t.real t.here in
    let c : IsTrue (is_closing (kind_fields t.work.word)) = subst (λ y. IsTrue (is_closing (kind_fields y))) w.word closing in
    let r : 0 < refs_to f (h t.vcpu).refs = subst (λ y. 0 < refs_to y (h t.vcpu).refs) w.frame (w.agrees.closing c) in
    let counted = in_hand_counted (sizes_of n) m h t.vcpu f t.real sound.counts r in
    omega arith

some_form : (k : KindWord) → type_count k ≡ 0 → (is_closing k ≡ true) ⊎ (is_busy k ≡ false)
unfolding type_count
some_form k h = elim (cases_Bool (is_closing k)) [ inl c ↦ inl c | inr c ↦ inr (grind (arith, nat_tests)) ]

pub closing_busy : (k : KindWord) → is_closing k ≡ true → is_busy k ≡ true
closing_busy k h = grind (arith, nat_tests)

dead_by_form : (k : KindWord) → type_count k ≡ 0 → is_closing k ≡ false → held_by_form k None ≡ 0
unfolding type_count
dead_by_form k h c = grind (arith, nat_tests)

dead_none : (k : KindWord) → type_count k ≡ 0 → is_closing k ≡ false → held_of k None ≡ 0
unfolding held_of
dead_none k h c = elim (cases_Bool (is_table k.kind)) [ inl t ↦ rw t (dead_by_form k h c) | inr t ↦ rw t refl ]

pub idle_held : (n : Machine) (m : Place → ℕ) (h : ℕ → Holdings) (f : ℕ) → Sound n m h → type_count (kind_at m f) ≡ 0 → is_closing (kind_at m f) ≡ false → held (sizes_of n) m h f ≡ 0
idle_held n m h f sound zero_count running =
    let idle : is_busy (kind_at m f) ≡ false = elim (some_form (kind_at m f) zero_count) [ inl c ↦ absurd (cc) | inr i ↦ i ] in
    held_free n m h sound.alone f idle ∙ dead_none (kind_at m f) zero_count running

pub table_counted : (n : Machine) (m : Place → ℕ) (h : ℕ → Holdings) (f i : ℕ) → Sound n m h → i < held (sizes_of n) m h f → 0 < ref_count (m (Refs f))
table_counted n m h f i sound l =
    elim (cases_eq (type_count (kind_at m f)) 0) [
      | inr some ↦ (let k : type_count (kind_at m f) ≢ 0 = some in let b = type_below (sizes_of n) m h f sound.counts in omega arith)
      | inl none ↦
          elim (cases_Bool (is_closing (kind_at m f))) [
            | inl closing ↦ closing_counted n m h f sound closing (closing_busy (kind_at m f) closing)
            | inr running ↦ absurd (let z = idle_held n m h f sound none running in omega arith)
          ]
    ]

-- of a frame without a reference
pub unreferenced_none : (n : Machine) (m : Place → ℕ) (h : ℕ → Holdings) (f : ℕ) → Sound n m h → ref_count (m (Refs f)) ≡ 0 → held (sizes_of n) m h f ≡ 0
unreferenced_none n m h f sound none =
    elim (cases_eq (held (sizes_of n) m h f) 0) [
      | inl at ↦ at
      | inr some ↦ absurd (let k : held (sizes_of n) m h f ≢ 0 = some in let counted = table_counted n m h f 0 sound (omega arith) in omega arith)
    ]

-- ---- of a marked frame
none_held : (k : KindWord) (r : ℕ) → r ≡ 0 → held_of k (Some r) ≡ 0
unfolding held_of
none_held k r e = elim (cases_Bool (is_table k.kind)) [ inl t ↦ rw t e | inr t ↦ rw t refl ]

form_held : (k : KindWord) → (k.validated ≡ false) → (k.partial ≡ true → k.progress ≡ 0) → held_of k None ≡ 0
unfolding held_of
form_held k v p =
    elim (cases_Bool (is_table k.kind)) [
      | inr t ↦ rw t refl
      | inl t ↦ elim (cases_Bool k.partial) [ inl q ↦ rw (t, v, q) (p q) | inr q ↦ rw (t, v, q) refl ]
    ]

partial_marked : (k : KindWord) → has_form k ≡ true → k.validated ≡ false → k.partial ≡ true → k.unflushed ≡ true → k.progress ≡ 0
unfolding has_form
partial_marked k form dead partial marked = grind (arith, nat_tests)

pub marked_none : (n : Machine) (m : Place → ℕ) (h : ℕ → Holdings) (f : ℕ) → Sound n m h → (kind_at m f).unflushed ≡ true → held (sizes_of n) m h f ≡ 0
marked_none n m h f sound marked =
    elim (cases_Bool (is_busy (kind_at m f))) [
      | inl busy ↦
          let t = in_works n m h sound.alone f busy in
          let k = works_facts n m h t.vcpu f t.work sound t.real t.here in
          let u : (kind_fields t.work.word).unflushed ≡ true = subst (λ y. (kind_fields y).unflushed ≡ true) k.word marked in
          held_mine n m h sound.alone f t.vcpu t.work t.real t.here ∙ none_held (kind_at m f) t.work.recorded (k.agrees.marked u)
      | inr idle ↦
          let form = marked_form n m f sound.spelled marked in
          let dead = form_unlive (kind_at m f) form marked in
          held_free n m h sound.alone f idle ∙ form_held (kind_at m f) dead (λ p. partial_marked (kind_at m f) form dead p marked)
    ]
