-- A run word that its own vCPU has not looked at is as it opened.
use Rattle.std.proofs.Common.{◌≡◌, ◌≢◌, ℕ, ◌<◌, List, [], ◌∷◌, length, Some, None, Bool, true, false, if◌then◌else◌, arith, refl, sym, ap, ◌∙◌, subst, inl, inr, slice_set, get_or-set_same}
use Rattle.std.proofs.Math.ListN.{set}
use Rattle.std.proofs.lemmas.List.{get_or-set_other}
use Rattle.std.proofs.lemmas.Bool.{cases_eq}
use Rattle.std.proofs.lemmas.Bool.Decides.{nat_tests}
use Rattle.xp_words.specs.Machine.{Machine}
use Rattle.xp_words.specs.declared.place.Place.{Place}
use Rattle.xp_words.specs.Places.{Sizes, run_of, place_at, sizes_of, size, number, memory}
use Rattle.xp_words.proofs.PlaceLaws.{memory_same, memory_other}
use Rattle.xp_board.specs.declared.step.Step.{Step}
use Rattle.xp_board.specs.declared.holdings.Made.{Made}
use Rattle.xp_board.specs.declared.holdings.Holdings.{Holdings}
use Rattle.xp_board.specs.Acts.{left_by}
use Rattle.xp_board.specs.After.{after}
use Rattle.xp_board.specs.Hands.{empty}
use Rattle.xp_board.specs.Legal.{Legal, LegalAs}
use Rattle.xp_board.specs.Marks.{after_mark}
use Rattle.xp_board.specs.Runs as runs
use Rattle.xp_board.specs.Runs.{place_of, word_at}
use Rattle.xp_board.specs.Sound.{SoundState, hand_of}
use Rattle.xp_board.proofs.PlaceTests.{same_or_other}
use Rattle.xp_board.proofs.Numbers.{place_number}
use Rattle.std.specs.Prelude.{nat_le}
use Rattle.xp_board.specs.Steps.{last_since, is_at, is_same}
use Rattle.xp_board.proofs.Noted.{move_steps}
use Rattle.xp_board.proofs.PlaceTests.{is_same-refl}
use Rattle.step_effects.proofs.RunWords.{run_kept}

-- no vCPU changes the run word of another one
pub others_run : (n : Machine) (s t : ℕ) (h : Holdings) (words : List ℕ) (x : Made) → t ≢ s → Legal n s h x.step → length words ≡ size (sizes_of n) → memory (sizes_of n) words (place_of n x.step) ≡ x.found →
    memory (sizes_of n) (slice_set words x.step.place (left_by x.step.act x.found)) (run_of t) ≡ memory (sizes_of n) words (run_of t)
others_run n s t h words x off legal whole found =
    let left = left_by x.step.act x.found in
    let here = ap (λ i. memory (sizes_of n) (set words i left) (run_of t)) (sym (place_number (sizes_of n) x.step.place legal.place)) in
    elim (same_or_other (run_of t) (place_of n x.step)) [
      | inr away ↦ here ∙ memory_other (sizes_of n) words (place_of n x.step) (run_of t) left legal.place away
      | inl at ↦
          let kept : left ≡ x.found =
          run_kept n s t (after_mark n x.step.mark h) x.step.act x.step.mark x.step.kind x.found off
          (subst (λ q. LegalAs n s (after_mark n x.step.mark h) q x.step.act x.step.mark x.step.kind) (sym at) legal.act) in
          here
          ∙ subst (λ q. memory (sizes_of n) (set words (number (sizes_of n) (place_of n x.step)) left) q ≡ memory (sizes_of n) words q) (sym at)
          (memory_same (sizes_of n) words (place_of n x.step) left legal.place whole ∙ kept ∙ sym found)
    ]

-- ---- the own run word
abbrev pub RunsSound : Type 0
RunsSound = (n : Machine) (a b : runs.State) (log : List (ℕ × Step)) → runs.Run n a log b → SoundState n a.words a.hands → SoundState n b.words b.hands

pub steps_after : (n : Machine) (s : ℕ) (h : Holdings) (x : Step) (w : ℕ) → (after n s h x w).steps ≡ record { step = x; found = w } ∷ h.steps
steps_after n s h x w = ap (λ (xs : List Made). record { step = x; found = w } ∷ xs) (move_steps n s h (place_at (sizes_of n) x.place) x.act x.kind x.mark w)

unlooked : (z : Sizes) (p : Place) (x : Made) (xs : List Made) → last_since z 0 p (x ∷ xs) ≡ None → (is_at z p x ≡ false) × (last_since z 0 p xs ≡ None)
unfolding last_since
unlooked z p x xs e =
    let zero_le : nat_le 0 (length xs) ≡ true = grind (arith, nat_tests) in
    by (is_at z p x) refl (subst (λ (b : Bool). (if b then (if is_at z p x then Some (left_by x.step.act x.found) else last_since z 0 p xs) else None) ≡ None) zero_le e)
  where
    by : (b : Bool) → is_at z p x ≡ b → (if b then Some (left_by x.step.act x.found) else last_since z 0 p xs) ≡ None → (is_at z p x ≡ false) × (last_since z 0 p xs ≡ None)
    by true t f = absurd cc
    by false t f = (t, f)

apart : (z : Sizes) (p : Place) (x : Made) → is_at z p x ≡ false → place_at z x.step.place ≢ p
apart z p x off = λ at. (let here : is_at z p x ≡ true = ap (λ q. is_same q p) at ∙ is_same-refl p in let bad : true ≡ false = sym here ∙ off in cc)

-- a vCPU that has not looked at its run word, after a step of its own: it had not before, and the step was elsewhere
own_step : (n : Machine) (s : ℕ) (h k : Holdings) (x : Step) (w : ℕ) → k ≡ after n s h x w → k.run ≡ last_since (sizes_of n) 0 (run_of s) k.steps → h.run ≡ last_since (sizes_of n) 0 (run_of s) h.steps → k.run ≡ None →
    (h.run ≡ None) × (place_of n x ≢ run_of s)
own_step n s h k x w is now was none =
    let steps : k.steps ≡ record { step = x; found = w } ∷ h.steps = ap (λ (u : Holdings). u.steps) is ∙ steps_after n s h x w in
    let u = unlooked (sizes_of n) (run_of s) (record { step = x; found = w }) h.steps (ap (λ l. last_since (sizes_of n) 0 (run_of s) l) (sym steps) ∙ sym now ∙ none) in
    (was ∙ u.1, apart (sizes_of n) (run_of s) (record { step = x; found = w }) u.0)

one_more : (n : Machine) (s t : ℕ) (x : Step) (c b : runs.State) → SoundState n c.words c.hands → SoundState n b.words b.hands → s < (sizes_of n).vcpus → runs.StepsTo n c t x b → (hand_of b.hands s).run ≡ None →
    ((hand_of c.hands s).run ≡ None) × (memory (sizes_of n) b.words (run_of s) ≡ memory (sizes_of n) c.words (run_of s))
one_more n s t x c b sound_c sound_b real move none =
    elim (cases_eq s t) [
      | inr off ↦ (
        ap (λ (u : Holdings). u.run) (sym (ap (λ (a : runs.State). hand_of a.hands s) move.next_is ∙ get_or-set_other c.hands t s _ empty off)) ∙ none,
        ap (λ (a : runs.State). memory (sizes_of n) a.words (run_of s)) move.next_is
            ∙ others_run n t s (hand_of c.hands t) c.words (record { step = x; found = word_at n c (place_of n x) }) off move.legal sound_c.all_words refl,
      )
      | inl at ↦
          let w = word_at n c (place_of n x) in
          let there : t < length c.hands = subst (λ k. t < k) (sym sound_c.all_hands) move.vcpu in
          let hand : hand_of b.hands s ≡ after n s (hand_of c.hands s) x w = ap (λ (a : runs.State). hand_of a.hands s) move.next_is
          ∙ subst (λ i. hand_of (slice_set c.hands t (after n t (hand_of c.hands t) x w)) i ≡ after n i (hand_of c.hands i) x w) (sym at) (get_or-set_same c.hands t (after n t (hand_of c.hands t) x w) empty there) in
          let o = own_step n s (hand_of c.hands s) (hand_of b.hands s) x w hand (sound_b.sound.formed s real).own.run (sound_c.sound.formed s real).own.run none in (
            o.0,
            ap (λ (a : runs.State). memory (sizes_of n) a.words (run_of s)) move.next_is
                ∙ ap (λ i. memory (sizes_of n) (set c.words i (left_by x.act w)) (run_of s)) (sym (place_number (sizes_of n) x.place move.legal.place))
                ∙ memory_other (sizes_of n) c.words (place_of n x) (run_of s) (left_by x.act w) move.legal.place (λ e. o.1 (sym e)),
          )
    ]

-- as long as a vCPU has not looked at its run word, that word is as it opened
pub own_run : RunsSound → (n : Machine) (a b : runs.State) (log : List (ℕ × Step)) (s : ℕ) → SoundState n a.words a.hands → s < (sizes_of n).vcpus → runs.Run n a log b → (hand_of b.hands s).run ≡ None →
    ((hand_of a.hands s).run ≡ None) × (memory (sizes_of n) b.words (run_of s) ≡ memory (sizes_of n) a.words (run_of s))
own_run law n a b [] s begun real run none =
    (ap (λ (c : runs.State). (hand_of c.hands s).run) (sym run) ∙ none, ap (λ (c : runs.State). memory (sizes_of n) c.words (run_of s)) run)
own_run law n a b (e ∷ es) s begun real run none =
    let c = run.0 in
    let more = one_more n s e.0 e.1 c b (law n a c es run.1 begun) (law n a b (e ∷ es) run begun) real run.2 none in
    let before = own_run law n a c es s begun real run.1 more.0 in
    (before.0, more.1 ∙ before.1)
