-- Fresh after a store over the kind word of a frame in work or closing.
use Rattle.std.proofs.Common.{◌≡◌, ◌≢◌, ℕ, ◌<◌, ◌≤◌, ◌==◌, inl, inr, true, false, refl, sym, ◌∙◌, ap, subst, arith, IsTrue, Some}
use Rattle.std.proofs.lemmas.Bool.Decides.{nat_tests}
use Rattle.xp_words.specs.declared.kind.KindWord.{KindWord}
use Rattle.xp_words.specs.KindWords.{kind_fields, kind_read}
use Rattle.xp_words.specs.Machine.{Machine}
use Rattle.xp_words.specs.declared.place.Place.{Place}
use Rattle.xp_words.specs.declared.place.Place.TheVariants.{Clock, Kind}
use Rattle.xp_words.specs.Places.{sizes_of, flushed_of}
use Rattle.xp_board.specs.declared.step.Step.{Step}
use Rattle.xp_board.specs.declared.holdings.Work.{Work}
use Rattle.xp_board.specs.declared.holdings.Holdings.{Holdings}
use Rattle.xp_board.specs.Readings.{kind_at, kind_stamp, clock_value, is_dead}
use Rattle.xp_board.specs.Steps.{some_since}
use Rattle.xp_board.specs.Hands.{work_on}
use Rattle.xp_board.specs.Flushes.{IsPastFlush}
use Rattle.xp_board.specs.KindSteps.{Form, Live, Partial, InWork, Dead, form_of, AllowsForm, MayMakeDead}
use Rattle.xp_board.specs.Reach.{Use, Reads, Reach}
use Rattle.xp_board.specs.Fresh.{Bears, Fresh}
use Rattle.xp_board.specs.Keeping.{Acted}
use Rattle.xp_board.specs.Sound.{Sound}
use Rattle.step_effects.proofs.ActEffects.{Stored}
use Rattle.stale_rule.proofs.Bearing.{bears_read, bears_same, bears_dead, matches_same}
use Rattle.xp_board.proofs.KindForms.{marked_unlive, live_form}
use Rattle.stale_rule.proofs.KindHands.{form_stays}
use Rattle.stale_rule.proofs.KindRows.{kind_law}
use Rattle.xp_board.proofs.HandLists.{EachOf-first}
use Rattle.stale_rule.proofs.Past.{past_gone, gone_unreached}
use Rattle.xp_board.proofs.FormsLeft.{is_live_left, is_partial_left}
use Rattle.xp_board.proofs.WorkFacts.{Works, works_facts}
use Rattle.xp_board.proofs.MoreSteps.{since_each}

-- the stamp that a marked word tells
marked_tells : (f w x : ℕ) → (w == x) ≡ true → (kind_fields x).validated ≡ false → clock_value (Kind f) w ≡ (kind_fields x).number
unfolding clock_value kind_stamp
marked_tells f w x t dead = let e : w ≡ x = grind (arith, nat_tests) in rw (e, dead) refl

module _ (n : Machine) (s : ℕ) (m : Place → ℕ) (b : ℕ → Holdings) (real : s < (sizes_of n).vcpus) (sound : Sound n m b) (f : ℕ) (e : Work)
    (here : work_on f (b s).works ≡ Some e) where
  facts : Works n m b s f e
  facts = works_facts n m b s f e sound real here

  -- the word that stands there
  pub its_word : kind_at m f ≡ kind_fields e.word
  its_word = ap kind_fields facts.word

  -- past the flush a marked frame is only read
  past_read : (v : ℕ) (u : Use) → v < (sizes_of n).vcpus → (kind_at m f).unflushed ≡ true → IsPastFlush n (b s) e → Reach (sizes_of n) m (b v) f u →
      Bears (m (flushed_of v)) (kind_at m f) u → u ≢ Reads → ⊥
  past_read v u live marked past r old other =
      let mark : (kind_fields e.word).unflushed ≡ true = subst (λ k. k.unflushed ≡ true) its_word marked in
      let dead : (kind_fields e.word).validated ≡ false =
      subst (λ k. k.validated ≡ false) its_word (marked_unlive n m f sound.spelled marked) in
      elim (past v live) [
        | inl flushed ↦
            let gone = past_gone n m b sound s v e.since (kind_fields e.word).number (Kind e.frame) (λ w. w == e.word) real live
            (λ w t. marked_tells e.frame w e.word t dead) (facts.formed.was_found mark) flushed in
            elim (old.typed other) [
              | inl plain ↦ absurd (let p = plain.0 in cc)
              | inr stamped ↦
                  gone_unreached n m b sound v (kind_fields e.word).number f u live gone
                  (subst (λ k. m (flushed_of v) ≤ k.number) its_word stamped.1) r
            ]
        | inr over ↦
            other (facts.found.passed v over.owner u mark live ((sound.found s real).owners e.frame over.owner over.known) over.other over.never
            (subst (λ g. Reach (sizes_of n) m (b v) g u) (sym facts.frame) r))
      ]

  -- ---- by the form that is left
  -- a word that is neither marked nor dead bears the use by its type
  plain_bears : (flushed : ℕ) (l : KindWord) (u : Use) → is_dead l ≡ false → l.unflushed ≡ false → l.kind ≡ (kind_at m f).kind →
      ((kind_at m f).unflushed ≡ true → u ≢ Reads → ⊥) → Bears flushed (kind_at m f) u → Bears flushed l u
  plain_bears flushed l u alive plain kind past old =
      record {
        typed = λ other. elim (old.typed other) [
          | inl was ↦ inl (plain, matches_same (kind_at m f).kind l.kind u kind was.1)
          | inr marked ↦ absurd (past marked.0 other)
        ];
        dead = λ other d. absurd (cc);
      }

  -- the stamp of a dead word is a clock value found since the frame came here
  stamp_bound : (v : ℕ) (u : Use) (stamp : ℕ) → v < (sizes_of n).vcpus → u ≢ Reads → Reach (sizes_of n) m (b v) f u →
      IsTrue (some_since (sizes_of n) e.since Clock (λ w. w == stamp) (b s).steps) → m (flushed_of v) ≤ stamp
  stamp_bound v u stamp live other r was_found =
      since_each (sizes_of n) e.since Clock (λ w. w == stamp) (λ w. m (flushed_of v) ≤ w) (m (flushed_of v) ≤ stamp) (b s).steps
      (EachOf-first _ (λ y. y.frame) f e (b s).works (((sound.fresh.each v live f u r).awaited s real).work other) here facts.frame) was_found
      (λ w t below. let k : w ≡ stamp = grind (arith, nat_tests) in omega arith)

  dead_bears : (v : ℕ) (l : KindWord) (u : Use) → v < (sizes_of n).vcpus → MayMakeDead n f e l (b s) → Reach (sizes_of n) m (b v) f u →
      Bears (m (flushed_of v)) (kind_at m f) u → Bears (m (flushed_of v)) l u
  dead_bears v l u live may r old =
      let kind = subst (λ k. l.kind ≡ k.kind) (sym its_word) may.kind in
      record {
        typed = λ other. elim may.mark [
          | inl same ↦
              (bears_dead (m (flushed_of v)) (kind_at m f) l u kind (subst (λ k. l.unflushed ≡ k.unflushed) (sym its_word) same)
              (stamp_bound v u l.number live other r may.stamp) old).typed other
          | inr off ↦
              elim (old.typed other) [
                | inl was ↦ inl (off.0, matches_same (kind_at m f).kind l.kind u kind was.1)
                | inr marked ↦ absurd (past_read v u live marked.0 off.1 r old other)
              ]
        ];
        dead = λ other d. stamp_bound v u l.number live other r may.stamp;
      }

  form_bears : (form : Form) (v : ℕ) (w : ℕ) (l : KindWord) (u : Use) → v < (sizes_of n).vcpus → kind_read w ≡ Some l → form_of l ≡ form → AllowsForm form n f e l (b s) →
      Reach (sizes_of n) m (b v) f u → Bears (m (flushed_of v)) (kind_at m f) u → Bears (m (flushed_of v)) l u
  form_bears Live v w l u live reads is may r old =
      let alive = is_live_left l is in
      plain_bears (m (flushed_of v)) l u (rw alive refl) (live_form w l reads alive).flushed (subst (λ k. l.kind ≡ k.kind) (sym its_word) may.kind)
      (λ marked other. past_read v u live marked (may.past (subst (λ k. k.unflushed ≡ true) its_word marked)) r old other) old
  form_bears Partial v w l u live reads is may r old =
      let partial = (is_partial_left l is).1 in
      let alive : is_dead l ≡ false = grind arith in
      let kind = subst (λ k. l.kind ≡ k.kind) (sym its_word) may.kind in
      elim may.mark [
        | inl same ↦
            bears_same (m (flushed_of v)) (kind_at m f) l u kind (subst (λ k. l.unflushed ≡ k.unflushed) (sym its_word) same.0)
            (λ marked. subst (λ k. l.number ≡ k.number) (sym its_word) (same.1 (same.0 ∙ subst (λ k. k.unflushed ≡ true) its_word marked))) alive old
        | inr off ↦ plain_bears (m (flushed_of v)) l u alive off.1 kind (λ marked other. past_read v u live marked off.2 r old other) old
      ]
  form_bears InWork v w l u live reads is may r old =
      bears_read (m (flushed_of v)) l u (λ other. past_read v u live (subst (λ k. k.unflushed ≡ true) (sym its_word) may.marked) may.past r old other)
  form_bears Dead v w l u live reads is may r old = dead_bears v l u live may r old

module _ (n : Machine) (s : ℕ) (x : Step) (m m2 : Place → ℕ) (b c : ℕ → Holdings) (real : s < (sizes_of n).vcpus) (acted : Acted n s x m m2 b c) (sound : Sound n m b) where
  pub store_row : (f : ℕ) (form : Form) → Stored n s x f form m m2 (b s) (c s) → Fresh n m2 c
  store_row f form d =
      kind_law n s x m m2 b c acted sound f _ d.wrote d.hand (form_stays form n s f d.e d.l (m2 (Kind f)) (b s))
      (λ v u live r old.
      subst (λ k. Bears (m (flushed_of v)) k u) (sym d.fields_is)
      (form_bears n s m b real sound f d.e d.here form v (m2 (Kind f)) d.l u live d.is d.form_is d.may r old))
