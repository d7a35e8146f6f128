-- What a store of a partial kind word leaves.
use Rattle.std.proofs.Common.{◌≡◌, ◌≢◌, ℕ, ◌<◌, ◌≤◌, if◌then◌else◌, true, false, ◌∷◌, length, Some, None, refl, ◌∙◌, ap, arith, IsTrue, inl, inr}
use Rattle.std.proofs.lemmas.Bool.{cases_Bool}
use Rattle.xp_words.specs.declared.kind.KindWord.{KindWord}
use Rattle.xp_words.specs.KindWords.{kind_fields, has_form}
use Rattle.xp_words.specs.PageTypes.{is_table}
use Rattle.xp_words.specs.RefWords.{bit}
use Rattle.xp_words.specs.Machine.{Machine}
use Rattle.xp_words.specs.declared.place.Place.{Place}
use Rattle.xp_words.specs.declared.place.Place.TheVariants.{Clock, Kind}
use Rattle.xp_words.specs.Places.{sizes_of}
use Rattle.xp_board.specs.declared.holdings.Holdings.{Holdings}
use Rattle.xp_board.specs.declared.holdings.Work.{Work}
use Rattle.xp_board.specs.declared.holdings.Liveness.TheVariants as lives
use Rattle.xp_board.specs.declared.step.Step.{Step}
use Rattle.xp_board.specs.declared.step.StepKind.TheVariants as steps
use Rattle.xp_board.specs.Lists.{EachOf}
use Rattle.xp_board.specs.Readings.{kind_at, kind_stamp, is_partial, is_closing}
use Rattle.xp_board.specs.Hands.{work_on, without_ref, ref_owner}
use Rattle.xp_board.specs.Recorded.{held_of}
use Rattle.xp_board.specs.KindSteps.{put_partial, Partial, kept_owner, as_typed, KeepsKept}
use Rattle.xp_board.specs.After.{noted}
use Rattle.xp_board.specs.Keeping.{MayAct}
use Rattle.xp_board.specs.Sound.{Sound}
use Rattle.step_effects.proofs.ActEffects.{Wrote, Stored}
use Rattle.count_rule.proofs.ListMoves.{cons_other, out_other, cons_here, out_here, maybe_out_other, maybe_out_here}
use Rattle.count_rule.proofs.KindForms.{closing_says, partial_says, work_says, closing_flushed, partial_number}
use Rattle.xp_board.proofs.HeldByForm.{held_partial}
use Rattle.count_rule.proofs.KindActs.{beside}
use Rattle.xp_board.proofs.FormsLeft.{form_partial}
use Rattle.count_rule.proofs.Outcome.{Outcome}
use Rattle.count_rule.proofs.StoreActs.{form_before, forms, stamp_was, out_outcome, type_is}
use Rattle.xp_board.proofs.KindForms.{form_read}
use Rattle.xp_board.proofs.KindReadings.{work_alone, partial_unlive, stamp_of}
use Rattle.xp_board.proofs.HandLists.{EachOf-maybe_without}
use Rattle.xp_board.specs.Recorded.{HasType}

module _ (n : Machine) (s : ℕ) (x : Step) (m m2 : Place → ℕ) (b c : ℕ → Holdings) (vcpu : s < (sizes_of n).vcpus) (others : (t : ℕ) → t ≢ s → c t ≡ b t) (may : MayAct n s x (b s)) (sound : Sound n m b) (f : ℕ) where
  -- ---- partial
  as_before : (e : Work) → is_closing (kind_fields e.word) ≡ false → as_typed f e (b s) ≡ b s
  as_before e off = rw off refl

  abbrev as_closing : Work → Holdings
  as_closing e =
      record (b s) {
        refs = without_ref f (b s).refs;
        typed = record { frame = f; kind = Some (kind_fields e.word).kind; owner = ref_owner f (b s); live = lives.Since (length (b s).steps) } ∷ (b s).typed;
      }

  as_after : (e : Work) → IsTrue (is_closing (kind_fields e.word)) → as_typed f e (b s) ≡ as_closing e
  as_after e on = rw on refl

  -- a mark that stays has the stamp that stood there; a word without a mark has none
  partial_stamp : (wrote : Wrote n x (Kind f) steps.Kind m m2 (b s)) (e : Work) (here : work_on f (b s).works ≡ Some e) (l : KindWord) → kind_at m2 f ≡ l → l.kind ≡ (kind_fields e.word).kind →
      has_form l ≡ true → IsTrue (is_partial l) → KeepsKept n e l (b s) → kind_stamp (m2 (Kind f)) ≤ m Clock
  partial_stamp wrote e here l is kind form partial keeps =
      let same = stamp_of (m2 (Kind f)) l is (partial_unlive l partial) in
      elim (cases_Bool l.unflushed) [
        | inl on ↦
            elim keeps [
              | inl stays ↦
                  elim (forms n s x m m2 b c vcpu others may sound f wrote e here l is kind) [
                    | inl work ↦ let old = stamp_was n s x m m2 b c vcpu others may sound f wrote e here l is kind work in let number = stays.1 on in omega arith
                    | inr closing ↦ let off = closing_flushed (kind_fields e.word) (form_before n s x m m2 b c vcpu others may sound f wrote e here l is kind) closing in let mark = stays.0 in absurd (cc)
                  ]
              | inr goes ↦ let off = goes.1 in absurd (cc)
            ]
        | inr off ↦ let none = partial_number l form partial off in omega arith
      ]

  pub partial_stored : Stored n s x f Partial m m2 (b s) (c s) → Outcome n m2 c
  unfolding EachOf
  partial_stored d =
      let e = d.e in
      let l = d.l in
      let owner = kept_owner f e (b s) in
      let partial = form_partial l d.form_is in
      let form = form_read _ l d.is in
      let before = form_before n s x m m2 b c vcpu others may sound f d.wrote e d.here l d.fields_is d.may.kind in
      let tells = partial_says l form partial in
      let table : held_of l None ≡ (if is_table (kind_fields e.word).kind then e.recorded else 0) =
      held_partial l partial ∙ ap (λ y. if is_table y then l.progress else 0) d.may.kind ∙ ap (λ y. if is_table (kind_fields e.word).kind then y else 0) d.may.progress
      in
      let stamp = partial_stamp d.wrote e d.here l d.fields_is d.may.kind form partial d.may.mark in
      elim (forms n s x m m2 b c vcpu others may sound f d.wrote e d.here l d.fields_is d.may.kind) [
        | inl work ↦
            let says = work_says (kind_fields e.word) before work in
            let u = noted x (m (Kind f)) (put_partial n s f l (m2 (Kind f)) owner (b s)) in
            let typed = maybe_out_here (λ y. y.frame) f (b s).typed u.typed l.kept refl (λ k. (d.may.kept k).in_hand work) in
            out_outcome n s x m m2 b c vcpu others may sound f d.wrote e d.here l d.fields_is d.may.kind u
            (d.hand ∙ ap (λ y. noted x (m (Kind f)) (put_partial n s f l (m2 (Kind f)) owner y)) (as_before e (work_alone (kind_fields e.word) work)))
            (beside n s x m m2 b c vcpu others may sound f u refl refl refl refl refl refl refl) refl refl (λ g off. refl) (maybe_out_other (λ y. y.frame) f (b s).typed u.typed l.kept refl)
            1 0 1 (bit l.kept) says tells stamp table (omega arith) (omega arith) (λ k. EachOf-maybe_without (λ y. HasType m2 y.frame y.kind) (λ y. y.frame) l.kept f (b s).typed k)
        | inr closing ↦
            let says = closing_says (kind_fields e.word) before closing in
            let h = as_closing e in
            let u = noted x (m (Kind f)) (put_partial n s f l (m2 (Kind f)) owner h) in
            let more = cons_here (λ y. y.frame) f (b s).typed h.typed _ refl refl in
            let typed = maybe_out_here (λ y. y.frame) f h.typed u.typed l.kept refl (λ k. omega arith) in
            let out = out_here (λ y. y.frame) f (b s).refs u.refs refl (d.may.closing closing) in
            out_outcome n s x m m2 b c vcpu others may sound f d.wrote e d.here l d.fields_is d.may.kind u
            (d.hand ∙ ap (λ y. noted x (m (Kind f)) (put_partial n s f l (m2 (Kind f)) owner y)) (as_after e closing))
            (beside n s x m m2 b c vcpu others may sound f u refl refl refl refl refl refl refl) refl refl (out_other (λ y. y.frame) f (b s).refs u.refs refl)
            (λ g off. maybe_out_other (λ y. y.frame) f h.typed u.typed l.kept refl g off ∙ cons_other (λ y. y.frame) f (b s).typed h.typed _ refl refl g off)
            0 0 1 (bit l.kept) says tells stamp table (omega arith) (omega arith)
            (λ k. EachOf-maybe_without (λ y. HasType m2 y.frame y.kind) (λ y. y.frame) l.kept f h.typed (type_is n s x m m2 b c vcpu others may sound f d.wrote e d.here l d.fields_is d.may.kind ∙ d.may.kind, k))
      ]
