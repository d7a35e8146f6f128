-- What each store of a kind word leaves, by the form in which the frame is left.
use Rattle.std.proofs.Common.{◌≡◌, ◌≢◌, ℕ, ◌+◌, ◌<◌, ◌≤◌, ◌==◌, ◌⊎◌, if◌then◌else◌, true, false, ◌∷◌, length, Some, None, refl, sym, ◌∙◌, ap, subst, arith, IsTrue, inl, inr}
use Rattle.xp_words.specs.declared.kind.KindWord.{KindWord}
use Rattle.xp_words.specs.KindWords.{kind_fields, has_form}
use Rattle.xp_words.specs.PageTypes.{is_table}
use Rattle.xp_words.specs.RefWords.{bit}
use Rattle.xp_words.specs.Machine.{Machine}
use Rattle.xp_words.specs.declared.place.Place.{Place}
use Rattle.xp_words.specs.declared.place.Place.TheVariants.{Clock, Kind}
use Rattle.xp_words.specs.Places.{sizes_of}
use Rattle.xp_words.proofs.Shared.{eq_false as when_ne}
use Rattle.xp_board.specs.declared.holdings.Holdings.{Holdings}
use Rattle.xp_board.specs.declared.holdings.Work.{Work}
use Rattle.xp_board.specs.declared.step.Step.{Step}
use Rattle.xp_board.specs.declared.step.StepKind.TheVariants as steps
use Rattle.xp_board.specs.Lists.{EachOf}
use Rattle.xp_board.specs.Readings.{kind_at, kind_stamp, is_work, is_closing}
use Rattle.xp_board.specs.Hands.{changed_work, refs_to, typed_to, locks_on, works_on, work_on, without_ref, without_typed, without_work, ref_owner, typed_owner}
use Rattle.xp_board.specs.Recorded.{held, held_of, HasType}
use Rattle.xp_board.specs.KindSteps.{Live, InWork, Dead, live_typed, made_live, made_dead, unmarked}
use Rattle.xp_board.specs.After.{noted}
use Rattle.xp_board.specs.Keeping.{MayAct}
use Rattle.xp_board.specs.Sound.{is_busy, WorkAgrees, Sound}
use Rattle.step_effects.proofs.ActEffects.{Wrote, Stored}
use Rattle.xp_board.proofs.Sums.{when_eq, no_bit}
use Rattle.xp_board.proofs.HandLists.{first-some, times-changed, EachOf-without}
use Rattle.xp_board.proofs.ListChanges.{first_by-changed_here, EachOf-changed_into}
use Rattle.xp_board.proofs.Works.{one_works, is_busy-mine, held_free, held_mine}
use Rattle.count_rule.proofs.ListMoves.{cons_other, out_other, swap_other, cons_here, out_here, swap_here, recorded_out, recorded_changed}
use Rattle.count_rule.proofs.KindForms.{Says, live_says, closing_says, work_says, dead_says, same_if}
use Rattle.xp_board.proofs.HeldByForm.{held_live, held_dead, held_work, same_zero}
use Rattle.count_rule.proofs.KindSpelled.{form_was}
use Rattle.count_rule.proofs.KindActs.{Beside, beside, rest_by, turn_outcome, keeps_kind}
use Rattle.count_rule.proofs.KindWorks.{works_out}
use Rattle.count_rule.proofs.WorkActs.{not_closing}
use Rattle.xp_board.proofs.FormsLeft.{form_live, form_work, form_dead}
use Rattle.count_rule.proofs.Told.{clock_found}
use Rattle.count_rule.proofs.Outcome.{Outcome}
use Rattle.xp_board.proofs.KindForms.{form_read}
use Rattle.xp_board.proofs.KindReadings.{busy_forms, closing_alone, work_unlive, dead_unlive, stamp_live, stamp_of}
use Rattle.xp_board.proofs.WorkFacts.{work_word, works_facts}

flat_says : (k : KindWord) (count mark lock : ℕ) → mark ≡ 0 → lock ≡ 0 → Says k count mark 0 lock → Says k count 0 0 0
flat_says k count mark lock p q says = record { counts = says.counts; mark_is = says.mark_is ∙ p; busy_is = says.busy_is; lock_is = says.lock_is ∙ q }

module _ (n : Machine) (s : ℕ) (x : Step) (m m2 : Place → ℕ) (b c : ℕ → Holdings) (vcpu : s < (sizes_of n).vcpus) (others : (t : ℕ) → t ≢ s → c t ≡ b t) (may : MayAct n s x (b s)) (sound : Sound n m b) (f : ℕ) where
  -- the frame goes out of the works
  module _ (wrote : Wrote n x (Kind f) steps.Kind m m2 (b s)) (e : Work) (here : work_on f (b s).works ≡ Some e) (l : KindWord) (is : kind_at m2 f ≡ l) (kind : l.kind ≡ (kind_fields e.word).kind) where
    pub was : kind_at m f ≡ kind_fields e.word
    was = work_word n m b s f e (works_facts n m b s f e sound vcpu here)

    in_works : 0 < works_on f (b s).works
    in_works = first-some (λ y. y.frame) f e (b s).works here

    pub form_before : has_form (kind_fields e.word) ≡ true
    form_before = ap has_form (sym was) ∙ form_was n s m m2 b vcpu sound f wrote.real

    busy : is_busy (kind_fields e.word) ≡ true
    busy = ap is_busy (sym was) ∙ is_busy-mine n m b sound.alone f s vcpu in_works

    pub forms : IsTrue (is_work (kind_fields e.word)) ⊎ IsTrue (is_closing (kind_fields e.word))
    forms = busy_forms (kind_fields e.word) busy

    pub held_was : held (sizes_of n) m b f ≡ (if is_table (kind_fields e.word).kind then e.recorded else 0)
    held_was = held_mine n m b sound.alone f s e vcpu here ∙ ap (λ y. held_of y (Some e.recorded)) was ∙ held_work (kind_fields e.word) e.recorded

    -- the stamp of a word that is not live
    pub stamp_was : IsTrue (is_work (kind_fields e.word)) → (kind_fields e.word).number ≤ m Clock
    stamp_was work =
        let old = sound.stamped.kinds f in
        let same = stamp_of (m (Kind f)) (kind_fields e.word) was (work_unlive (kind_fields e.word) work) in
        omega arith

    pub out_outcome : (u : Holdings) → c s ≡ u → Beside n s x m m2 b c vcpu others may sound f u → u.works ≡ without_work f (b s).works → u.locks ≡ (b s).locks →
        ((g : ℕ) → g ≢ f → refs_to g u.refs ≡ refs_to g (b s).refs) → ((g : ℕ) → g ≢ f → typed_to g u.typed ≡ typed_to g (b s).typed) → (ck mk cl ml : ℕ) →
        Says (kind_fields e.word) ck mk 1 0 → Says l cl ml 0 0 → kind_stamp (m2 (Kind f)) ≤ m Clock → held_of l None ≡ (if is_table (kind_fields e.word).kind then e.recorded else 0) →
        mk + (refs_to f (b s).refs + typed_to f (b s).typed) ≡ ml + (refs_to f u.refs + typed_to f u.typed) → cl + (mk + typed_to f (b s).typed) ≡ ck + (ml + typed_to f u.typed) →
        (EachOf (λ e. HasType m2 e.frame e.kind) (b s).typed → EachOf (λ e. HasType m2 e.frame e.kind) u.typed) → Outcome n m2 c
    out_outcome u hand side works locks refs_other typed_other ck mk cl ml says tells stamp table refs types typed_kept =
        let rest =
        rest_by n s x m m2 b c vcpu others may sound f u hand side (record { refs = refs_other; typed = typed_other; locks = λ g off. rw locks refl })
        (out_other (λ y. y.frame) f (b s).works u.works works) (recorded_out f (b s).works u.works works)
        in
        let out = out_here (λ y. y.frame) f (b s).works u.works works in_works in
        let lock = ap (locks_on f) locks in
        let free = ap is_busy is ∙ no_bit (is_busy l) tells.busy_is in
        turn_outcome n s x m m2 b c vcpu others may sound f wrote u hand rest (kind_fields e.word) l ck mk 1 0 cl ml 0 0
        (record { was = was; is = is; says = says; tells = tells }) stamp (omega arith) (omega arith) (omega arith) (omega arith)
        (λ alone. held_free n m2 c alone f free ∙ ap (λ y. held_of y None) is ∙ table ∙ sym held_was)
        (inl (keeps_kind n s x m m2 b c vcpu others may sound f (kind_fields e.word) l was is kind)) typed_kept (λ e. subst (λ y. EachOf (λ e. HasType m2 e.frame (Some e.kind)) y) (sym locks) e)
        (works_out f (b s) (c s) rest.refs (ap (λ y. y.works) hand ∙ works) (one_works n m b sound.alone f s vcpu) (sound.works s vcpu))

    -- the new type
    pub type_is : (kind_at m2 f).kind ≡ l.kind
    type_is = ap (λ (y : KindWord). y.kind) is

  -- ---- live
  made_one : (l : KindWord) → (l.number == 1) ≡ true →
      made_live f l (b s) ≡ record (b s) { typed = live_typed f l.kind (typed_owner f (b s)) ∷ without_typed f (b s).typed; works = without_work f (b s).works }
  made_one l e = rw e refl

  made_two : (l : KindWord) → (l.number == 1) ≡ false →
      made_live f l (b s) ≡ record (b s) { refs = without_ref f (b s).refs; typed = live_typed f l.kind (ref_owner f (b s)) ∷ (b s).typed; works = without_work f (b s).works }
  made_two l e = rw e refl

  pub live_stored : Stored n s x f Live m m2 (b s) (c s) → Outcome n m2 c
  unfolding EachOf
  live_stored d =
      let e = d.e in
      let l = d.l in
      let live = form_live l d.form_is in
      let form = form_read _ l d.is in
      let says = work_says (kind_fields e.word) (form_before d.wrote e d.here l d.fields_is d.may.kind) d.may.work in
      let pin = ap bit d.may.unpinned in
      let lock = ap bit d.may.unlocked in
      let table : held_of l None ≡ (if is_table (kind_fields e.word).kind then e.recorded else 0) =
      held_live l live ∙ ap (λ y. if is_table y then 512 else 0) d.may.kind
      ∙ same_if (is_table (kind_fields e.word).kind) 512 e.recorded (λ t. sym (d.may.table (ap is_table d.may.kind ∙ t)).0)
      in
      let stamp = stamp_live (m2 (Kind f)) l d.fields_is live in
      elim d.may.counts [
        | inl one ↦
            let u = noted x (m (Kind f)) (record (b s) { typed = live_typed f l.kind (typed_owner f (b s)) ∷ without_typed f (b s).typed; works = without_work f (b s).works }) in
            let number = one.0 in
            let tells = live_says l form live (omega arith) in
            let typed = swap_here (λ y. y.frame) f (b s).typed u.typed _ refl refl one.1 in
            out_outcome d.wrote e d.here l d.fields_is d.may.kind u (d.hand ∙ ap (λ y. noted x (m (Kind f)) y) (made_one l (when_eq l.number 1 one.0)))
            (beside n s x m m2 b c vcpu others may sound f u refl refl refl refl refl refl refl) refl refl (λ g off. refl) (swap_other (λ y. y.frame) f (b s).typed u.typed _ refl refl)
            1 0 l.number 0 says (flat_says l l.number (bit l.pinned) (bit l.locked) pin lock tells) (omega arith) table (omega arith) (omega arith)
            (λ k. (type_is d.wrote e d.here l d.fields_is d.may.kind, EachOf-without (λ y. HasType m2 y.frame y.kind) (λ y. y.frame) f (b s).typed k))
        | inr two ↦
            let u = noted x (m (Kind f)) (record (b s) { refs = without_ref f (b s).refs; typed = live_typed f l.kind (ref_owner f (b s)) ∷ (b s).typed; works = without_work f (b s).works }) in
            let number = two.0 in
            let tells = live_says l form live (omega arith) in
            let typed = cons_here (λ y. y.frame) f (b s).typed u.typed _ refl refl in
            let out = out_here (λ y. y.frame) f (b s).refs u.refs refl two.2 in
            out_outcome d.wrote e d.here l d.fields_is d.may.kind u (d.hand ∙ ap (λ y. noted x (m (Kind f)) y) (made_two l (when_ne l.number 1 (λ k. absurd (omega arith)))))
            (beside n s x m m2 b c vcpu others may sound f u refl refl refl refl refl refl refl) refl refl (out_other (λ y. y.frame) f (b s).refs u.refs refl)
            (cons_other (λ y. y.frame) f (b s).typed u.typed _ refl refl)
            1 0 l.number 0 says (flat_says l l.number (bit l.pinned) (bit l.locked) pin lock tells) (omega arith) table (omega arith) (omega arith)
            (λ k. (type_is d.wrote e d.here l d.fields_is d.may.kind, k))
      ]

  -- ---- dead
  dead_before : (e : Work) → IsTrue (is_work (kind_fields e.word)) →
      made_dead f e (b s) ≡ record (b s) { refs = record { frame = f; owner = typed_owner f (b s) } ∷ (b s).refs; typed = without_typed f (b s).typed; works = without_work f (b s).works }
  dead_before e on = rw on refl

  dead_closing : (e : Work) → is_work (kind_fields e.word) ≡ false → made_dead f e (b s) ≡ record (b s) { works = without_work f (b s).works }
  dead_closing e off = rw off refl

  pub dead_stored : Stored n s x f Dead m m2 (b s) (c s) → Outcome n m2 c
  dead_stored d =
      let e = d.e in
      let l = d.l in
      let dead = form_dead l d.form_is in
      let form = form_read _ l d.is in
      let before = form_before d.wrote e d.here l d.fields_is d.may.kind in
      let tells = dead_says l form dead in
      let was_found = clock_found (sizes_of n) (m Clock) e.since l.number (b s).steps (sound.found s vcpu).clock d.may.stamp in
      let same = stamp_of (m2 (Kind f)) l d.fields_is (dead_unlive l dead) in
      let table : held_of l None ≡ (if is_table (kind_fields e.word).kind then e.recorded else 0) =
      held_dead l dead ∙ sym (ap (λ y. if is_table (kind_fields e.word).kind then y else 0) d.may.none ∙ same_zero (is_table (kind_fields e.word).kind))
      in
      elim (forms d.wrote e d.here l d.fields_is d.may.kind) [
        | inl work ↦
            let says = work_says (kind_fields e.word) before work in
            let u = noted x (m (Kind f)) (record (b s) { refs = record { frame = f; owner = typed_owner f (b s) } ∷ (b s).refs; typed = without_typed f (b s).typed; works = without_work f (b s).works }) in
            let typed = out_here (λ y. y.frame) f (b s).typed u.typed refl (d.may.counts work) in
            let more = cons_here (λ y. y.frame) f (b s).refs u.refs _ refl refl in
            out_outcome d.wrote e d.here l d.fields_is d.may.kind u (d.hand ∙ ap (λ y. noted x (m (Kind f)) y) (dead_before e work))
            (beside n s x m m2 b c vcpu others may sound f u refl refl refl refl refl refl refl) refl refl (cons_other (λ y. y.frame) f (b s).refs u.refs _ refl refl)
            (out_other (λ y. y.frame) f (b s).typed u.typed refl)
            1 0 0 0 says tells (omega arith) table (omega arith) (omega arith) (λ k. EachOf-without (λ y. HasType m2 y.frame y.kind) (λ y. y.frame) f (b s).typed k)
        | inr closing ↦
            let says = closing_says (kind_fields e.word) before closing in
            let u = noted x (m (Kind f)) (record (b s) { works = without_work f (b s).works }) in
            out_outcome d.wrote e d.here l d.fields_is d.may.kind u (d.hand ∙ ap (λ y. noted x (m (Kind f)) y) (dead_closing e (closing_alone (kind_fields e.word) closing)))
            (beside n s x m m2 b c vcpu others may sound f u refl refl refl refl refl refl refl) refl refl (λ g off. refl) (λ g off. refl)
            0 0 0 0 says tells (omega arith) table (omega arith) (omega arith) (λ k. k)
      ]

  -- ---- in work, without the mark
  pub work_stored : Stored n s x f InWork m m2 (b s) (c s) → Outcome n m2 c
  work_stored d =
      let e = d.e in
      let l = d.l in
      let left = d.may.left in
      let kind : l.kind ≡ (kind_fields e.word).kind = ap (λ (y : KindWord). y.kind) left in
      let work = form_work l d.form_is in
      let form = form_read _ l d.is in
      let before = form_before d.wrote e d.here l d.fields_is kind in
      let was_is = was d.wrote e d.here l d.fields_is kind in
      let says = work_says (kind_fields e.word) before d.may.work in
      let tells = work_says l form work in
      let change : Work → Work = λ y. record y { word = m2 (Kind f); unmarked = length (b s).steps + 1 } in
      let u = noted x (m (Kind f)) (unmarked f (m2 (Kind f)) (b s)) in
      let now : (c s).works ≡ changed_work f change (b s).works = ap (λ y. y.works) d.hand in
      let refs : (c s).refs ≡ (b s).refs = ap (λ y. y.refs) d.hand in
      let same = times-changed (λ y. y.frame) f f change (b s).works (λ y. refl) in
      let rest =
      rest_by n s x m m2 b c vcpu others may sound f u d.hand (beside n s x m m2 b c vcpu others may sound f u refl refl refl refl refl refl refl)
      (record { refs = λ g off. refl; typed = λ g off. refl; locks = λ g off. refl })
      (λ g off. times-changed (λ y. y.frame) g f change (b s).works (λ y. refl)) (recorded_changed f (b s).works u.works change (λ y. refl) refl)
      in
      let number : l.number ≡ 0 = ap (λ (y : KindWord). y.number) left in
      let stamp = stamp_of (m2 (Kind f)) l d.fields_is (work_unlive l work) in
      turn_outcome n s x m m2 b c vcpu others may sound f d.wrote u d.hand rest (kind_fields e.word) l 1 0 1 0 1 0 1 0
      (record { was = was_is; is = d.fields_is; says = says; tells = tells }) (omega arith) refl refl (omega arith) refl
      (λ alone.
      held_mine n m2 c alone f s (change e) vcpu (ap (work_on f) now ∙ first_by-changed_here (λ y. y.frame) f change (b s).works e (λ y. refl) d.here)
      ∙ ap (λ y. held_of y (Some e.recorded)) d.fields_is ∙ held_work l e.recorded ∙ ap (λ y. if is_table y then e.recorded else 0) kind
      ∙ sym (held_was d.wrote e d.here l d.fields_is kind))
      (inl (keeps_kind n s x m m2 b c vcpu others may sound f (kind_fields e.word) l was_is d.fields_is kind)) (λ k. k) (λ k. k)
      (subst (λ y. EachOf (WorkAgrees (c s)) y) (sym now)
      (EachOf-changed_into (WorkAgrees (b s)) (WorkAgrees (c s)) (λ y. y.frame) f change (b s).works
      (λ y k. record { marked = k.marked; closing = λ t. subst (λ z. 0 < refs_to y.frame z) (sym refs) (k.closing t) })
      (λ y i k.
      record {
        marked = λ t.
            let z : (kind_fields (m2 (Kind f))).unflushed ≡ false = ap (λ (y : KindWord). y.unflushed) d.fields_is ∙ ap (λ (y : KindWord). y.unflushed) left in
            absurd (cc);
        closing = λ t. absurd (not_closing l work (subst (λ z. IsTrue (is_closing z)) d.fields_is t));
      })
      (sound.works s vcpu)))
