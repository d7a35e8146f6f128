-- The effects of legal acts on the reference word and on the kind word of a frame.
use Rattle.std.proofs.Common.{◌≡◌, ℕ, ◌+◌, ◌%◌, ◌^◌, ◌⊎◌, Bool, true, false, Option, Some, None, refl, ap, subst, ◌∙◌, inl, inr}
use Rattle.std.proofs.lemmas.Bool.{cases_eq}
use Rattle.xp_words.specs.declared.refs.RefWord.{RefWord}
use Rattle.xp_words.specs.declared.refs.RefWord.TheVariants.{Free, Owned, Dying}
use Rattle.xp_words.specs.declared.kind.KindWord.{KindWord}
use Rattle.xp_words.specs.RefWords.{ref_read}
use Rattle.xp_words.specs.KindWords.{kind_read, kind_fields}
use Rattle.xp_words.specs.Machine.{Machine}
use Rattle.xp_words.specs.declared.place.Place.{Place}
use Rattle.xp_words.specs.declared.place.Place.TheVariants.{Refs, Kind}
use Rattle.xp_board.specs.declared.step.Act.{Act}
use Rattle.xp_board.specs.declared.step.Act.TheVariants.{Cas, Store, Add}
use Rattle.xp_board.specs.declared.step.Mark.{Mark}
use Rattle.xp_board.specs.declared.step.Step.{Step}
use Rattle.xp_board.specs.declared.step.StepKind.TheVariants as steps
use Rattle.xp_board.specs.declared.holdings.Work.{Work}
use Rattle.xp_board.specs.declared.holdings.Holdings.{Holdings}
use Rattle.xp_board.specs.Acts.{left_by}
use Rattle.xp_board.specs.Hands.{work_on}
use Rattle.xp_board.specs.RefSteps.{MayRaise, MayClear, MayLower, AllowsRef, AllowsRefStore, Raise, Clear, ref_row, after_ref_row, after_ref_store, one_down}
use Rattle.xp_board.specs.KindSteps.{AllowsKind, kind_row, after_kind_row, still_looking, unlocked_down, form_of, AllowsKindStore, after_kind_store}
use Rattle.xp_board.specs.After.{noted}
use Rattle.step_effects.proofs.Doing.{Doing, wrote_by, lost_words, lost_left, now_by, store_now}
use Rattle.step_effects.proofs.ActEffects.{Wrote, ActEffect, looked, raised, cleared, took, lowered, freed_frame, gave, turned, missed, dropped_type, unlocked_table, stored}
use Rattle.xp_board.proofs.Sums.{when_found, when_lost}
use Rattle.xp_board.proofs.KindForms.{fields_of}

raise_row : (o k : ℕ) (a : Bool) (r : RefWord) → r ≡ Owned o a (k + 1) → ref_row (Some (Owned o a k)) (Some r) ≡ Raise
raise_row o k true r e = rw e refl
raise_row o k false r e = refl

clear_row : (o k : ℕ) (a : Bool) (r : RefWord) → MayClear o a k r → ref_row (Some (Owned o a k)) (Some r) ≡ Clear
clear_row o k true r e = rw e.left refl
clear_row o k false r e = absurd (let t = e.marked in cc)

module _ (n : Machine) (s : ℕ) (x : Step) (m m2 : Place → ℕ) (b c : Holdings) (mark : Option Mark) where
  abbrev Effect : Type 0
  Effect = ActEffect n s x m m2 b c

  -- ---- the reference word
  owned_by : (f o k : ℕ) (a : Bool) (r : RefWord) → Wrote n x (Refs f) steps.Ref m m2 b → ref_read (m (Refs f)) ≡ Some (Owned o a k) →
      ref_read (m2 (Refs f)) ≡ Some r → MayRaise n o a k r ⊎ MayClear o a k r →
      c ≡ noted x (m (Refs f)) (after_ref_row (ref_row (Some (Owned o a k)) (Some r)) n s f (m (Refs f)) b) → Effect
  owned_by f o k a r wrote was is (inl up) hand =
      raised f
      (record {
        wrote = wrote;
        owner = o;
        allocated = a;
        count = k;
        below = up.below;
        was = was;
        is = is ∙ ap Some up.left;
        hand = hand ∙ ap (λ y. noted x (m (Refs f)) (after_ref_row y n s f (m (Refs f)) b)) (raise_row o k a r up.left);
      })
  owned_by f o k a r wrote was is (inr off) hand =
      cleared f
      (record {
        wrote = wrote;
        owner = o;
        count = k;
        was = was ∙ ap (λ y. Some (Owned o y k)) off.marked;
        is = is ∙ ap Some off.left;
        hand = hand ∙ ap (λ y. noted x (m (Refs f)) (after_ref_row y n s f (m (Refs f)) b)) (clear_row o k a r off);
      })

  ref_by : (f : ℕ) (o r : Option RefWord) → Wrote n x (Refs f) steps.Ref m m2 b → ref_read (m (Refs f)) ≡ o → ref_read (m2 (Refs f)) ≡ r →
      AllowsRef n s f b o r → c ≡ noted x (m (Refs f)) (after_ref_row (ref_row o r) n s f (m (Refs f)) b) → Effect
  ref_by f (Some (Free stamp)) (Some r) wrote was is may hand =
      took f (record { wrote = wrote; stamp = stamp; left = r; was = was; is = is; may = may; hand = hand })
  ref_by f (Some (Owned o a k)) (Some r) wrote was is may hand = owned_by f o k a r wrote was is may hand
  ref_by f (Some (Free stamp)) None wrote was is may hand = absurd may
  ref_by f (Some (Owned o a k)) None wrote was is may hand = absurd may
  ref_by f (Some (Dying o)) r wrote was is may hand = absurd may
  ref_by f None r wrote was is may hand = absurd may

  ref_store_by : (f : ℕ) (r : Option RefWord) → Wrote n x (Refs f) steps.Ref m m2 b → ref_read (m2 (Refs f)) ≡ r → AllowsRefStore n s f b r →
      c ≡ noted x (m (Refs f)) (after_ref_store r n s f b) → Effect
  ref_store_by f (Some (Free stamp)) wrote is may hand = freed_frame f (record { wrote = wrote; stamp = stamp; is = is; may = may; hand = hand })
  ref_store_by f (Some (Owned o a k)) wrote is may hand =
      gave f (record { wrote = wrote; owner = o; allocated = a; count = k; is = is; may = may; hand = hand })
  ref_store_by f (Some (Dying o)) wrote is may hand = absurd may
  ref_store_by f None wrote is may hand = absurd may

  pub ref_effect : (p : Place) (a : Act) → Doing n s x m m2 b c mark p a steps.Ref → Effect
  unfolding left_by
  ref_effect (Refs f) (Cas e w) d =
      elim (cases_eq (m (Refs f)) e) [
        | inl at ↦
            let now : m2 (Refs f) ≡ w = now_by _ _ _ _ _ _ _ _ (Refs f) e w steps.Ref d at in
            ref_by f (ref_read e) (ref_read w) (wrote_by _ _ _ _ _ _ _ _ (Refs f) (Cas e w) steps.Ref d) (ap ref_read at) (ap ref_read now) d.legal
            (d.hand ∙ ap (λ y. noted x (m (Refs f)) y) (when_found (m (Refs f)) e _ b at))
        | inr off ↦
            looked (Refs f)
            (record {
              place = d.place;
              real = d.real;
              words = lost_words _ _ _ _ _ _ _ _ (Refs f) e w steps.Ref d off;
              left = lost_left _ _ _ _ _ _ _ _ (Refs f) e w steps.Ref d off;
              hand = d.hand ∙ ap (λ y. noted x (m (Refs f)) y) (when_lost (m (Refs f)) e _ b off);
            })
      ]
  ref_effect (Refs f) (Store w) d =
      let now : m2 (Refs f) ≡ w = store_now _ _ _ _ _ _ _ _ (Refs f) w steps.Ref d in
      ref_store_by f (ref_read w) (wrote_by _ _ _ _ _ _ _ _ (Refs f) (Store w) steps.Ref d) (ap ref_read now) d.legal d.hand
  ref_effect (Refs f) (Add by) d =
      let one : by ≡ one_down = d.legal.one in
      lowered f
      (record {
        wrote = wrote_by _ _ _ _ _ _ _ _ (Refs f) (Add by) steps.Ref d;
        may = subst (λ y. MayLower f y b) one d.legal;
        is = d.here ∙ rw one refl;
        hand = d.hand;
      })
  ref_effect _ _ d = absurd d.legal

  -- ---- the kind word
  kind_by : (f e w : ℕ) (o r : Option KindWord) → Wrote n x (Kind f) steps.Kind m m2 b → m (Kind f) ≡ e → m2 (Kind f) ≡ w → kind_read e ≡ o → kind_read w ≡ r →
      AllowsKind n s f b o r →
      c ≡ noted x (m (Kind f))
      (after_kind_row (kind_row (kind_fields e) (kind_fields w)) f (kind_fields e) (kind_fields w) w (record b { looking = still_looking f w b.looking })) →
      Effect
  kind_by f e w (Some k) (Some l) wrote at now was is may hand =
      let was_k : kind_fields e ≡ k = fields_of e k was in
      let is_l : kind_fields w ≡ l = fields_of w l is in
      turned f (kind_row k l)
      (record {
        wrote = wrote;
        k = k;
        l = l;
        was = ap kind_read at ∙ was;
        is = ap kind_read now ∙ is;
        fields_was = ap kind_fields at ∙ was_k;
        fields_is = ap kind_fields now ∙ is_l;
        row_is = refl;
        may = may;
        hand = hand ∙ rw (was_k, is_l, now) refl;
      })
  kind_by f e w (Some k) None wrote at now was is may hand = absurd may
  kind_by f e w None r wrote at now was is may hand = absurd may

  add_by : (f by : ℕ) → Doing n s x m m2 b c mark (Kind f) (Add by) steps.Kind → Effect
  unfolding left_by
  add_by f by d =
      elim d.legal [
        | inl drop ↦
            let one : by ≡ one_down = drop.0 in
            let is : m2 (Kind f) ≡ (m (Kind f) + one_down) % 2 ^ 64 = d.here ∙ rw one refl in
            dropped_type f
            (record { wrote = wrote_by _ _ _ _ _ _ _ _ (Kind f) (Add by) steps.Kind d; may = drop.1; is = is; hand = d.hand ∙ rw (one, is) refl })
        | inr lock ↦
            let one : by ≡ unlocked_down = lock.0 in
            let is : m2 (Kind f) ≡ (m (Kind f) + unlocked_down) % 2 ^ 64 = d.here ∙ rw one refl in
            unlocked_table f
            (record { wrote = wrote_by _ _ _ _ _ _ _ _ (Kind f) (Add by) steps.Kind d; may = lock.1; is = is; hand = d.hand ∙ rw (one, is) refl })
      ]

  kind_store_by : (f : ℕ) (o : Option Work) (r : Option KindWord) → Wrote n x (Kind f) steps.Kind m m2 b → work_on f b.works ≡ o →
      kind_read (m2 (Kind f)) ≡ r → AllowsKindStore n f b o r → c ≡ noted x (m (Kind f)) (after_kind_store n s f (m2 (Kind f)) o b) → Effect
  kind_store_by f (Some e) (Some l) wrote here is may hand =
      let is_l : kind_fields (m2 (Kind f)) ≡ l = fields_of _ l is in
      stored f (form_of l)
      (record { wrote = wrote; e = e; here = here; l = l; is = is; fields_is = is_l; form_is = refl; may = may; hand = hand ∙ rw is_l refl })
  kind_store_by f (Some e) None wrote here is may hand = absurd may
  kind_store_by f None r wrote here is may hand = absurd may

  pub kind_effect : (p : Place) (a : Act) → Doing n s x m m2 b c mark p a steps.Kind → Effect
  unfolding left_by
  kind_effect (Kind f) (Cas e w) d =
      elim (cases_eq (m (Kind f)) e) [
        | inl at ↦
            let now : m2 (Kind f) ≡ w = now_by _ _ _ _ _ _ _ _ (Kind f) e w steps.Kind d at in
            kind_by f e w (kind_read e) (kind_read w) (wrote_by _ _ _ _ _ _ _ _ (Kind f) (Cas e w) steps.Kind d) at now refl refl d.legal
            (d.hand ∙ ap (λ y. noted x (m (Kind f)) y) (when_found (m (Kind f)) e _ _ at))
        | inr off ↦
            missed f
            (record {
              place = d.place;
              real = d.real;
              kind_is = d.kind_is;
              running = d.running refl;
              words = lost_words _ _ _ _ _ _ _ _ (Kind f) e w steps.Kind d off;
              left = lost_left _ _ _ _ _ _ _ _ (Kind f) e w steps.Kind d off;
              hand = d.hand ∙ ap (λ y. noted x (m (Kind f)) y) (when_lost (m (Kind f)) e _ _ off);
            })
      ]
  kind_effect (Kind f) (Add by) d = add_by f by d
  kind_effect (Kind f) (Store w) d =
      let now : m2 (Kind f) ≡ w = store_now _ _ _ _ _ _ _ _ (Kind f) w steps.Kind d in
      kind_store_by f (work_on f b.works) (kind_read w) (wrote_by _ _ _ _ _ _ _ _ (Kind f) (Store w) steps.Kind d) refl (ap kind_read now) d.legal (d.hand ∙ rw now refl)
  kind_effect _ _ d = absurd d.legal
