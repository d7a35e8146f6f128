-- What a step on the free map leaves.
use Rattle.xp_board.specs.After.{noted}
use Rattle.std.proofs.lemmas.Nat.Bits.{bit_at-lt}
use Rattle.std.proofs.Common.{◌≡◌, ◌≢◌, ℕ, ◌+◌, ◌-◌, ◌%◌, ◌^◌, ◌/◌, ◌<◌, ◌≤◌, ◌==◌, Bool, true, false, List, refl, sym, ◌∙◌, ap, subst, arith, pow_mono, IsTrue, inl, inr}
use Rattle.std.proofs.lemmas.Bool.{cases_eq}
use Rattle.std.proofs.lemmas.Bool.Decides.{nat_tests}
use Rattle.std.specs.Int.{bit_at}
use Rattle.xp_words.specs.RefWords.{bit, ref_read}
use Rattle.xp_words.specs.Machine.{Machine}
use Rattle.xp_words.specs.declared.place.Place.{Place}
use Rattle.xp_words.specs.declared.place.Place.TheVariants.{Clock, Pages, Refs, Map}
use Rattle.xp_words.specs.Places.{sizes_of, is_place, run_of}
use Rattle.xp_board.specs.declared.holdings.Holdings.{Holdings}
use Rattle.xp_board.specs.declared.step.Step.{Step}
use Rattle.xp_board.specs.declared.step.StepKind.TheVariants as steps
use Rattle.xp_board.specs.Lists.{times}
use Rattle.xp_board.specs.Readings.{is_dying}
use Rattle.xp_board.specs.Hands.{endings_of, claims_of}
use Rattle.xp_board.specs.HintSteps.{lowered_frame, raised_frame, raised_by}
use Rattle.xp_board.specs.Spelling.{IsSpelling, map_bits}
use Rattle.xp_board.specs.Keeping.{MayAct}
use Rattle.xp_board.specs.Sound.{Spelled, Sound, is_hinted}
use Rattle.step_effects.proofs.ActEffects.{Wrote, Hinted}
use Rattle.xp_board.proofs.Sums.{hands-only, one_at-same, hands-part, hands-two, bit_most, some_bit}
use Rattle.xp_board.proofs.ListCounts.{times_by-cons_here, times_by-cons_other, times_by-without, times_by-without_other}
use Rattle.xp_board.proofs.RefWords.{is_dying-read, dying_says}
use Rattle.count_rule.proofs.Learning.{Stays, works_kept, locks_kept, claims_kept}
use Rattle.count_rule.proofs.PartLaws.{stamped_by, idle_running}
use Rattle.count_rule.proofs.SpelledLaw.{wrote_spelled}
use Rattle.count_rule.proofs.Outcome.{Outcome, calm_outcome, runs}
use Rattle.count_rule.proofs.PageActs.{calm}
use Rattle.xp_board.proofs.Bits.{added_small, added_here, added_other, has_bit, cleared_bit}
use Rattle.xp_board.proofs.Hints.{Hint, sets, clears, hint_is}

bit_at_bit : (w i : ℕ) → bit (w / 2 ^ i % 2 == 1) ≡ bit_at w i
bit_at_bit w i = grind (arith, nat_tests)

dying_zero : is_dying 0 ≡ true → ⊥
unfolding is_dying ref_read
dying_zero e = cc

some_place : (n : Machine) (m : Place → ℕ) (g : ℕ) → ((p : Place) → is_place (sizes_of n) p ≡ false → m p ≡ 0) → is_dying (m (Refs g)) ≡ true → (t : Bool) → is_place (sizes_of n) (Refs g) ≡ t → g < n.frames
unfolding is_place is_dying
some_place n m g outside d true at = grind (arith, nat_tests)
some_place n m g outside d false at =
    let none : is_dying 0 ≡ true = rw (sym (outside (Refs g) at)) d in
    absurd (dying_zero none)

module _ (n : Machine) (s : ℕ) (m : Place → ℕ) (b : ℕ → Holdings) (vcpu : s < (sizes_of n).vcpus) (sound : Sound n m b) (g : ℕ) (held : 0 < endings_of g (b s).ending + claims_of g (b s).claimed) where
  -- a frame that is ending or claimed in the own hand
  held_dying : is_dying (m (Refs g)) ≡ true
  held_dying =
      let all = sound.alone.dying g in
      let part = hands-part (λ u. endings_of g u.ending + claims_of g u.claimed) (sizes_of n) b s vcpu in
      some_bit (is_dying (m (Refs g))) (omega arith)

  pub held_inside_machine : g < n.frames
  held_inside_machine = some_place n m g sound.spelled.outside held_dying (is_place (sizes_of n) (Refs g)) refl

  others_low : (t : ℕ) → t < (sizes_of n).vcpus → t ≢ s → times g (b t).raised ≡ 0
  others_low t l off =
      let all = sound.alone.dying g in
      let two = hands-two (λ u. endings_of g u.ending + claims_of g u.claimed) (sizes_of n) b t s l vcpu off in
      let most = bit_most (is_dying (m (Refs g))) in
      let few = (sound.formed t l).raised.held g in
      omega arith

  -- its bit is set where it is raised
  pub held_bit : bit_at (m (Map (g / 64))) (g % 64) ≡ times g (b s).raised
  held_bit =
      let word = sound.map.bits g held_inside_machine in
      let mine = hands-only (λ u. times g u.raised) (sizes_of n) b s vcpu others_low in
      let r = is_dying-read (m (Refs g)) held_dying in
      let busy = ap bit (dying_says (m (Refs g)) r.0 r.1).free in
      let same = bit_at_bit (m (Map (g / 64))) (g % 64) in
      omega arith

inside_bits : (frames g k : ℕ) → g < frames → g / 64 ≡ k → g % 64 < map_bits frames k
inside_bits frames g k l e = grind (arith, nat_tests)

lower_word : (w by p v : ℕ) → p ≤ w → w < 2 ^ 64 → 2 ^ 64 - p ≡ by → v ≡ (w + by) % 2 ^ 64 → v + p ≡ w
lower_word w by p v a b c d = omega arith

module _ (n : Machine) (s : ℕ) (x : Step) (m m2 : Place → ℕ) (b c : ℕ → Holdings) (vcpu : s < (sizes_of n).vcpus) (others : (t : ℕ) → t ≢ s → c t ≡ b t) (may : MayAct n s x (b s)) (sound : Sound n m b) (k : ℕ) where
  -- how the word and the raised frames move
  record Moves (g : ℕ) (by : ℕ) : Type 0 where
    word : g / 64 ≡ k
    small : m2 (Map k) < 2 ^ map_bits n.frames k
    here : bit_at (m2 (Map k)) (g % 64) + times g (b s).raised ≡ bit_at (m (Map k)) (g % 64) + times g (raised_by (lowered_frame k by (b s)) (raised_frame k by (b s)) (b s).raised)
    bits : (j : ℕ) → j ≢ g % 64 → bit_at (m2 (Map k)) j ≡ bit_at (m (Map k)) j
    raised : (f : ℕ) → f ≢ g → times f (raised_by (lowered_frame k by (b s)) (raised_frame k by (b s)) (b s).raised) ≡ times f (b s).raised

  was_small : IsTrue (is_place (sizes_of n) (Map k)) → m (Map k) < 2 ^ map_bits n.frames k
  unfolding IsSpelling
  was_small real = sound.spelled.spelled (Map k) real

  room : map_bits n.frames k ≤ 64
  room = grind (arith, nat_tests)

  moves_by : (by : ℕ) → IsTrue (is_place (sizes_of n) (Map k)) → m2 (Map k) ≡ (m (Map k) + by) % 2 ^ 64 → Hint k by (b s) → (g : ℕ) × Moves g by
  moves_by by real is (sets g word one held none raised) =
      let i = g % 64 in
      let off : bit_at (m (Map k)) i ≡ 0 = subst (λ y. bit_at (m (Map y)) i ≡ 0) word (held_bit n s m b vcpu sound g held ∙ none) in
      let inside = inside_bits n.frames g k (held_inside_machine n s m b vcpu sound g held) word in
      let small = added_small (m (Map k)) i (map_bits n.frames k) off (was_small real) inside in
      let few : 2 ^ map_bits n.frames k ≤ 2 ^ 64 = pow_mono room in
      let now : m2 (Map k) ≡ m (Map k) + 2 ^ i = is ∙ (omega arith) in (
        g,
        record {
          word = word;
          small = rw now small;
          here = let h = ap (λ y. bit_at y i) now ∙ added_here (m (Map k)) i (map_bits n.frames k) off in
              let r = ap (times g) raised ∙ times_by-cons_here (λ y. y) g g (b s).raised refl in
              omega arith;
          bits = λ j o. ap (λ y. bit_at y j) now ∙ added_other (m (Map k)) i (map_bits n.frames k) off j o;
          raised = λ f o. ap (times f) raised ∙ times_by-cons_other (λ y. y) f g (b s).raised (λ e. o (sym e));
        },
      )
  moves_by by real is (clears g word one has raised) =
      let i = g % 64 in
      let formed = (sound.formed s vcpu).raised.held g in
      let bits = held_bit n s m b vcpu sound g (omega arith) in
      let most = bit_at-lt (m (Map (g / 64))) i in
      let on : bit_at (m (Map k)) i ≡ 1 = subst (λ y. bit_at (m (Map y)) i ≡ 1) word (omega arith) in
      let some = has_bit (m (Map k)) i on in
      let few : 2 ^ map_bits n.frames k ≤ 2 ^ 64 = pow_mono room in
      let old = was_small real in
      let now : m2 (Map k) + 2 ^ i ≡ m (Map k) = lower_word (m (Map k)) by (2 ^ i) (m2 (Map k)) some (omega arith) one is in
      let off = cleared_bit (m (Map k)) (m2 (Map k)) i on now in (
        g,
        record {
          word = word;
          small = omega arith;
          here =
              let z = one_at-same g in
              let r = times_by-without (λ y. y) g g (b s).raised has in
              let q = ap (times g) raised in
              let few = subst (λ y. bit_at (m (Map y)) i ≡ times g (b s).raised) word bits in
              omega arith;
          bits = λ j o. sym (added_other (m2 (Map k)) i (map_bits n.frames k) off j o) ∙ ap (λ y. bit_at y j) now;
          raised = λ f o. ap (times f) raised ∙ times_by-without_other (λ y. y) f g (b s).raised o;
        },
      )

  hint_spelled : Wrote n x (Map k) steps.Hint m m2 (b s) → Spelled n m2
  unfolding IsSpelling
  hint_spelled wrote =
      wrote_spelled n s x (Map k) steps.Hint m m2 (b s) wrote may sound.machine sound.spelled
      (λ by l is. let move = moves_by by wrote.real is (hint_is k by (b s) l) in move.1.small) (λ v l. absurd l)

  hint_stays : (w : ℕ) (raised : List ℕ) → c s ≡ noted x w (record (b s) { raised = raised }) → Stays (b s) (c s)
  hint_stays w raised hand =
      rw hand
      (record { refs = refl; typed = refl; works = works_kept (b s).works; locks = locks_kept (b s).locks; ending = refl; claimed = claims_kept (b s).claimed })

  hint_bits : (by w : ℕ) → Wrote n x (Map k) steps.Hint m m2 (b s) → (g : ℕ) → Moves g by →
      (c s).raised ≡ raised_by (lowered_frame k by (b s)) (raised_frame k by (b s)) (b s).raised → (f : ℕ) →
      bit (is_hinted m2 f) + times f (b s).raised ≡ bit (is_hinted m f) + times f (c s).raised
  hint_bits by w wrote g move now f =
      let was = bit_at_bit (m (Map (f / 64))) (f % 64) in
      let is = bit_at_bit (m2 (Map (f / 64))) (f % 64) in
      let r = ap (times f) now in
      elim (cases_eq f g) [
        | inl at ↦
            let here = move.here in
            let a : bit_at (m2 (Map (f / 64))) (f % 64) ≡ bit_at (m2 (Map k)) (g % 64) = ap (λ y. bit_at (m2 (Map (y / 64))) (y % 64)) at ∙ ap (λ y. bit_at (m2 (Map y)) (g % 64)) move.word in
            let d : bit_at (m (Map (f / 64))) (f % 64) ≡ bit_at (m (Map k)) (g % 64) = ap (λ y. bit_at (m (Map (y / 64))) (y % 64)) at ∙ ap (λ y. bit_at (m (Map y)) (g % 64)) move.word in
            let p = ap (λ y. times y (b s).raised) at in
            let q = ap (λ y. times y (raised_by (lowered_frame k by (b s)) (raised_frame k by (b s)) (b s).raised)) at in
            omega arith
        | inr off ↦
            let same = move.raised f off in
            elim (cases_eq (f / 64) k) [
              | inl word ↦
                  let g_word = move.word in
                  let o : f ≢ g = off in
                  let bits = move.bits (f % 64) (λ e. absurd (omega arith)) in
                  let a = ap (λ y. bit_at (m2 (Map y)) (f % 64)) word in
                  let d = ap (λ y. bit_at (m (Map y)) (f % 64)) word in
                  omega arith
              | inr away ↦ let a = ap (λ y. bit_at y (f % 64)) (wrote.others (Map (f / 64)) (λ e. away (cc))) in omega arith
            ]
      ]

  pub hinted_outcome : (by : ℕ) → Hinted n x k by m m2 (b s) (c s) → Outcome n m2 c
  hinted_outcome by d =
      let move = moves_by by d.wrote.real d.is (hint_is k by (b s) d.may) in
      let wrote = d.wrote in
      let clock = wrote.others Clock (λ e. cc) in
      calm_outcome n s m m2 b c vcpu others sound (calm n s x m m2 b c vcpu others may sound (Map k) wrote.others (λ f e. cc) (λ f e. cc) (λ v k e. cc) (λ f i e. cc)) (hint_stays (m (Map k)) _ d.hand)
      (λ e l. rw (wrote.others (Pages e) (λ k. cc), ap (λ y. y.credits) d.hand) refl)
      (λ g l. hint_bits by 0 wrote move.0 move.1 (ap (λ y. y.raised) d.hand) g) (hint_spelled wrote)
      (stamped_by n m m2 (Map k) wrote.others (omega arith) (λ v e. absurd (cc)) (λ f e. absurd (cc)) (λ f e. absurd (cc)) sound.stamped)
      (idle_running n s m m2 b c vcpu others (wrote.others (run_of s) (λ e. cc) ∙ runs n s m m2 b c vcpu others sound (wrote.running refl)) (λ v off. wrote.others (run_of v) (λ e. cc))
      (λ e. sym (ap (λ y. y.cold) d.hand) ∙ e) (λ k e. ap (λ y. y.cache) d.hand ∙ e) (λ k e. ap (λ y. y.walk) d.hand ∙ e) sound.idle)
