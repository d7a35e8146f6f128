-- The exchanges of a kind word that bring the frame into work.
use Rattle.std.proofs.Common.{◌≡◌, ◌≢◌, ℕ, ◌<◌, ◌≤◌, if◌then◌else◌, true, false, ◌∷◌, Some, None, refl, sym, ◌∙◌, ap, subst, arith, IsTrue, inl, inr}
use Rattle.std.proofs.lemmas.Bool.Decides.{nat_tests}
use Rattle.xp_words.specs.declared.kind.KindWord.{KindWord}
use Rattle.xp_words.specs.KindWords.{kind_fields, has_form}
use Rattle.xp_words.specs.PageTypes.{is_table}
use Rattle.xp_words.specs.RefWords.{bit}
use Rattle.xp_words.specs.Machine.{Machine}
use Rattle.xp_words.specs.declared.place.Place.{Place}
use Rattle.xp_words.specs.declared.place.Place.TheVariants.{Clock, Kind}
use Rattle.xp_words.specs.Places.{sizes_of}
use Rattle.xp_words.proofs.Shared.{if_or_zero as if_fewer}
use Rattle.xp_board.specs.declared.holdings.Holdings.{Holdings}
use Rattle.xp_board.specs.declared.holdings.Work.{Work}
use Rattle.xp_board.specs.declared.step.Step.{Step}
use Rattle.xp_board.specs.Lists.{EachOf}
use Rattle.xp_board.specs.Readings.{type_count, kind_at, kind_stamp, is_partial, is_work, is_closing}
use Rattle.xp_board.specs.Hands.{refs_to, works_on, work_on}
use Rattle.xp_board.specs.Recorded.{held, held_of, HasType}
use Rattle.xp_board.specs.KindSteps.{Resume, Begin, begun_kind, resumed_kind, is_stale}
use Rattle.xp_board.specs.Keeping.{MayAct}
use Rattle.xp_board.specs.Sound.{is_busy, HeldAlone, WorkAgrees, Sound}
use Rattle.step_effects.proofs.ActEffects.{Turned}
use Rattle.xp_board.proofs.ListCounts.{first_by-cons_here}
use Rattle.xp_board.proofs.Works.{nobody_works, held_free, held_mine}
use Rattle.count_rule.proofs.ListMoves.{cons_other, out_other, cons_here, out_here, maybe_other, maybe_here, recorded_cons}
use Rattle.count_rule.proofs.KindForms.{partial_says, work_says, dead_says}
use Rattle.xp_board.proofs.HeldByForm.{held_partial, held_dead, held_work, same_zero}
use Rattle.count_rule.proofs.KindActs.{beside, rest_by, turn_outcome, keeps_kind}
use Rattle.count_rule.proofs.KindWorks.{works_in}
use Rattle.count_rule.proofs.TurnActs.{turned_hand, left_says, stamp_kept}
use Rattle.count_rule.proofs.Outcome.{Outcome}
use Rattle.xp_board.proofs.KindForms.{form_read}
use Rattle.xp_board.proofs.Sums.{no_bit}
use Rattle.xp_board.proofs.KindReadings.{dead_unlive, stamp_number, stamp_of, resumed_in_work}
use Rattle.xp_board.proofs.HandLists.{EachOf-maybe}

marked_none : (k : KindWord) → has_form k ≡ true → IsTrue (is_partial k) → k.unflushed ≡ true → k.progress ≡ 0
unfolding has_form
marked_none k form partial marked = grind (arith, nat_tests)

pub not_closing : (k : KindWord) → IsTrue (is_work k) → IsTrue (is_closing k) → ⊥
not_closing k work closing = grind (arith, nat_tests)

module _ (n : Machine) (s : ℕ) (x : Step) (m m2 : Place → ℕ) (b c : ℕ → Holdings) (vcpu : s < (sizes_of n).vcpus) (others : (t : ℕ) → t ≢ s → c t ≡ b t) (may : MayAct n s x (b s)) (sound : Sound n m b) (f : ℕ) where
  -- a frame that comes into work
  module _ (k l : KindWord) (was : kind_at m f ≡ k) (is : kind_at m2 f ≡ l) (work : IsTrue (is_work l)) (free : is_busy k ≡ false) (w : Work) (of_f : w.frame ≡ f) (word : w.word ≡ m2 (Kind f)) (now : (c s).works ≡ w ∷ (b s).works) where
    none_before : works_on f (b s).works ≡ 0
    none_before = nobody_works n m b sound.alone f (ap is_busy was ∙ free) s vcpu

    comes_held : held_of l (Some w.recorded) ≡ held_of k None → HeldAlone n m2 c → held (sizes_of n) m2 c f ≡ held (sizes_of n) m b f
    comes_held same alone =
        held_mine n m2 c alone f s w vcpu (ap (work_on f) now ∙ first_by-cons_here (λ y. y.frame) f w (b s).works of_f) ∙ ap (λ y. held_of y (Some w.recorded)) is ∙ same
        ∙ sym (held_free n m b sound.alone f (ap is_busy was ∙ free) ∙ ap (λ y. held_of y None) was)

    comes_agrees : (refs : (g : ℕ) → g ≢ f → refs_to g (c s).refs ≡ refs_to g (b s).refs) → (l.unflushed ≡ true → w.recorded ≡ 0) → EachOf (WorkAgrees (c s)) (c s).works
    comes_agrees refs marked =
        let fields : kind_fields w.word ≡ l = ap kind_fields word ∙ is in
        works_in f (b s) (c s) refs w now none_before
        (record { marked = λ u. marked (ap (λ (y : KindWord). y.unflushed) (sym fields) ∙ u); closing = λ t. absurd (not_closing l work (subst (λ y. IsTrue (is_closing y)) fields t)) })
        (sound.works s vcpu)

  begun_stamp : (k l : KindWord) → kind_at m f ≡ k → kind_at m2 f ≡ l → k.validated ≡ false → l.number ≡ (if is_stale k l.kind then k.number else 0) → kind_stamp (m2 (Kind f)) ≤ m Clock
  begun_stamp k l was is dead number =
      let old = sound.stamped.kinds f in
      let a = stamp_of (m (Kind f)) k was dead in
      let d = stamp_number (m2 (Kind f)) l is in
      let few = if_fewer (is_stale k l.kind) k.number in
      omega arith

  pub resume_outcome : Turned n s x f Resume m m2 (b s) (c s) → Outcome n m2 c
  resume_outcome d =
      let k = d.k in
      let l = d.l in
      let u = turned_hand n s x m m2 b c vcpu others may sound f Resume k l in
      let left = d.may.left in
      let form = form_read _ k d.was in
      let was = partial_says k form d.may.partial in
      let is = work_says (resumed_kind k) (ap has_form (sym left) ∙ form_read _ l d.is) (resumed_in_work k d.may.partial) in
      let work : IsTrue (is_work l) = subst (λ y. IsTrue (is_work y)) (sym left) (resumed_in_work k d.may.partial) in
      let free = no_bit (is_busy k) was.busy_is in
      let kind : l.kind ≡ k.kind = ap (λ (y : KindWord). y.kind) left in
      let now : (c s).works ≡ u.works = ap (λ y. y.works) d.hand in
      let typed_in = maybe_here (λ y. y.frame) f (b s).typed u.typed k.kept _ refl refl in
      let works_more = cons_here (λ y. y.frame) f (b s).works u.works _ refl refl in
      let rest =
      rest_by n s x m m2 b c vcpu others may sound f u d.hand (beside n s x m m2 b c vcpu others may sound f u refl refl refl refl refl refl refl)
      (record {
        refs = λ g off. refl;
        typed = maybe_other (λ y. y.frame) f (b s).typed u.typed k.kept _ refl refl;
        locks = λ g off. refl;
      })
      (cons_other (λ y. y.frame) f (b s).works u.works _ refl refl) (recorded_cons f (b s).works u.works _ refl refl)
      in
      turn_outcome n s x m m2 b c vcpu others may sound f d.wrote u d.hand rest k l 1 (bit k.kept) 0 0 1 0 1 0
      (record { was = d.fields_was; is = d.fields_is; says = was; tells = left_says l (resumed_kind k) _ _ _ _ left is })
      (stamp_kept n s x m m2 b c vcpu others may sound f k l d.fields_was d.fields_is (ap (λ (y : KindWord). y.number) left) (ap (λ (y : KindWord). y.validated) left))
      (omega arith) (omega arith) (omega arith) refl
      (comes_held k l d.fields_was d.fields_is work free _ refl refl now (held_work l k.progress ∙ ap (λ y. if is_table y then k.progress else 0) kind ∙ sym (held_partial k d.may.partial)))
      (inl (keeps_kind n s x m m2 b c vcpu others may sound f k l d.fields_was d.fields_is kind))
      (λ e. EachOf-maybe (λ y. HasType m2 y.frame y.kind) k.kept _ (b s).typed (λ on. keeps_kind n s x m m2 b c vcpu others may sound f k l d.fields_was d.fields_is kind ∙ ap (λ (y : KindWord). y.kind) d.fields_was) e) (λ e. e)
      (comes_agrees k l d.fields_was d.fields_is work free _ refl refl now rest.refs (λ e. marked_none k form d.may.partial (ap (λ (y : KindWord). y.unflushed) (sym left) ∙ e)))

  pub begin_outcome : Turned n s x f Begin m m2 (b s) (c s) → Outcome n m2 c
  unfolding EachOf
  begin_outcome d =
      let k = d.k in
      let l = d.l in
      let u = turned_hand n s x m m2 b c vcpu others may sound f Begin k l in
      let left = d.may.left in
      let was = dead_says k (form_read _ k d.was) d.may.dead in
      let is = work_says (begun_kind k l.kind) (ap has_form (sym left) ∙ form_read _ l d.is) refl in
      let work : IsTrue (is_work l) = subst (λ y. IsTrue (is_work y)) (sym left) refl in
      let free = no_bit (is_busy k) was.busy_is in
      let now : (c s).works ≡ u.works = ap (λ y. y.works) d.hand in
      let out = out_here (λ y. y.frame) f (b s).refs u.refs refl d.may.in_hand in
      let typed_in = cons_here (λ y. y.frame) f (b s).typed u.typed _ refl refl in
      let works_more = cons_here (λ y. y.frame) f (b s).works u.works _ refl refl in
      let nothing : held (sizes_of n) m b f ≡ 0 = held_free n m b sound.alone f (ap is_busy d.fields_was ∙ free) ∙ ap (λ y. held_of y None) d.fields_was ∙ held_dead k d.may.dead in
      let rest =
      rest_by n s x m m2 b c vcpu others may sound f u d.hand (beside n s x m m2 b c vcpu others may sound f u refl refl refl refl refl refl refl)
      (record {
        refs = out_other (λ y. y.frame) f (b s).refs u.refs refl;
        typed = cons_other (λ y. y.frame) f (b s).typed u.typed _ refl refl;
        locks = λ g off. refl;
      })
      (cons_other (λ y. y.frame) f (b s).works u.works _ refl refl) (recorded_cons f (b s).works u.works _ refl refl)
      in
      turn_outcome n s x m m2 b c vcpu others may sound f d.wrote u d.hand rest k l 0 0 0 0 1 0 1 0
      (record { was = d.fields_was; is = d.fields_is; says = was; tells = left_says l (begun_kind k l.kind) _ _ _ _ left is })
      (begun_stamp k l d.fields_was d.fields_is (dead_unlive k d.may.dead) (ap (λ (y : KindWord). y.number) left))
      (omega arith) (omega arith) (omega arith) refl
      (comes_held k l d.fields_was d.fields_is work free _ refl refl now (held_work l 0 ∙ same_zero (is_table l.kind) ∙ sym (held_dead k d.may.dead)))
      (inr (ap type_count d.fields_was ∙ was.counts, nothing))
      (λ e. (ap (λ (y : KindWord). y.kind) d.fields_is, e)) (λ e. e)
      (comes_agrees k l d.fields_was d.fields_is work free _ refl refl now rest.refs (λ e. refl))
