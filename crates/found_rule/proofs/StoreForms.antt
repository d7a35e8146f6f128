-- Stores that leave a frame live, partial, in work or dead.
use Rattle.std.proofs.Common.{◌≡◌, ◌≢◌, ℕ, ◌<◌, ◌==◌, if◌then◌else◌, Bool, true, false, ◌∷◌, refl, ap, ◌∙◌, inl, inr, arith}
use Rattle.std.proofs.lemmas.Bool.Decides.{nat_tests}
use Rattle.xp_words.specs.KindWords.{kind_fields}
use Rattle.xp_words.specs.Machine.{Machine}
use Rattle.xp_words.specs.declared.place.Place.{Place}
use Rattle.xp_words.specs.declared.place.Place.TheVariants.{Clock, Kind}
use Rattle.xp_words.specs.Places.{sizes_of}
use Rattle.xp_board.specs.declared.step.Step.{Step}
use Rattle.xp_board.specs.declared.holdings.Reference.{Reference}
use Rattle.xp_board.specs.declared.holdings.OwnerFound.{OwnerFound}
use Rattle.xp_board.specs.declared.holdings.Holdings.{Holdings}
use Rattle.xp_board.specs.Readings.{is_live, is_work}
use Rattle.xp_board.specs.Hands.{without_work, without_ref, without_typed, ref_owner, typed_owner}
use Rattle.xp_board.specs.After.{noted}
use Rattle.xp_board.specs.KindSteps.{Form, Live, Partial, InWork, Dead, CountsLive, after_form, live_typed}
use Rattle.xp_board.specs.Sound.{Sound}
use Rattle.step_effects.proofs.ActEffects.{Stored}
use Rattle.found_rule.proofs.Learning.{Act, act}
use Rattle.found_rule.proofs.Words.{Words}
use Rattle.found_rule.proofs.WordFacts.{clock_some}
use Rattle.found_rule.proofs.KnownFacts.{OwnerRight, IsLiveAs, RefRight, TypedRight}
use Rattle.found_rule.proofs.KnownStays.{live_found, partial_found}
use Rattle.found_rule.proofs.KindLaw.{kind_grown}
use Rattle.found_rule.proofs.KindStores.{store_words, refs_are, typed_are, ref_owner_is, typed_owner_is, store_done}
use Rattle.found_rule.proofs.StorePartial.{partial_done, unmarked_done}
use Rattle.found_rule.proofs.Quiet.{Done}
use Rattle.xp_board.proofs.KindReadings.{stamp_live, stamp_of}
use Rattle.xp_board.proofs.FormsLeft.{is_live_left, is_dead_left}
use Rattle.xp_board.proofs.HandLists.{EachOf-more, EachOf-without}

module _ (n : Machine) (s : ℕ) (x : Step) (m m2 : Place → ℕ) (b c : ℕ → Holdings) (l : s < (sizes_of n).vcpus) (sound : Sound n m b) (others : (t : ℕ) → t ≢ s → c t ≡ b t) (f : ℕ) where
  stored_act : (form : Form) (d : Stored n s x f form m m2 (b s) (c s)) (u : Holdings) → after_form form n s f d.e d.l (m2 (Kind f)) (b s) ≡ u → u.steps ≡ (b s).steps → u.run ≡ (b s).run →
      u.old0 ≡ (b s).old0 → u.old1 ≡ (b s).old1 → Act n s (Kind f) m m2 (b s) u (c s)
  stored_act form d u is steps run old0 old1 =
      let w = d.wrote in
      act n s x (Kind f) m m2 (b s) u (c s) w.place w.real w.left w.others steps run old0 old1 (d.hand ∙ ap (λ y. noted x (m (Kind f)) y) is)

  -- ---- live
  module _ (d : Stored n s x f Live m m2 (b s) (c s)) where
    now : d.l.validated ≡ true
    now = is_live_left d.l d.form_is

    live_words : Words n s m m2 b
    unfolding now
    live_words =
        store_words n s x m m2 b c l sound others f d.e d.here d.wrote.others (ap (λ y. y.kind) d.fields_is ∙ d.may.kind) (let q = stamp_live (m2 (Kind f)) d.l d.fields_is now in omega arith)

    live_is : IsLiveAs m2 f d.l.kind
    unfolding now
    live_is = (ap is_live d.fields_is ∙ now, ap (λ y. y.kind) d.fields_is)

    live_reference : (u : Holdings) (acted : Act n s (Kind f) m m2 (b s) u (c s)) (w : OwnerFound) → OwnerRight (sizes_of n) m2 (c s).steps f w → TypedRight (sizes_of n) m2 (c s).steps (live_typed f d.l.kind w)
    unfolding live_words live_is
    live_reference u acted w owner =
        let g = kind_grown n s m m2 b c l sound others f u acted live_words in
        record {
          owner = owner;
          live = live_found (sizes_of n) m m2 (b s).steps (c s).steps g f d.l.kind live_is;
          partial = partial_found (sizes_of n) m m2 (b s).steps (c s).steps g f;
        }

    if_one : (t : Bool) (u w : Holdings) → t ≡ true → (if t then u else w) ≡ u
    if_one true u w q = refl
    if_one false u w q = absurd cc

    if_more : (t : Bool) (u w : Holdings) → t ≡ false → (if t then u else w) ≡ w
    if_more false u w q = refl
    if_more true u w q = absurd cc

    live_by_count : CountsLive f d.l (b s) → Done n s m m2 b c
    unfolding live_words
    live_by_count (inl mine) =
        let h = b s in
        let u = record h { typed = live_typed f d.l.kind (typed_owner f h) ∷ without_typed f h.typed; works = without_work f h.works } in
        let more = record h { refs = without_ref f h.refs; typed = live_typed f d.l.kind (ref_owner f h) ∷ h.typed; works = without_work f h.works } in
        let one : (d.l.number == 1) ≡ true = (let q = mine.0 in grind (arith, nat_tests)) in
        let acted = stored_act Live d u (if_one (d.l.number == 1) u more one) refl refl refl refl in
        let words = live_words in
        store_done n s x m m2 b c l sound others f d.e d.here u acted words
        (record { ending = refl; claimed = refl; raised = refl; cache = refl; walk = refl; cold = refl; turn = refl; acked = refl; ran = refl }) refl refl (sound.formed s l).looking
        (refs_are n s x m m2 b c l sound others f d.e d.here u acted words)
        (λ reach.
        EachOf-more (TypedRight (sizes_of n) m2 (c s).steps) (live_typed f d.l.kind (typed_owner f h)) (without_typed f h.typed)
        (live_reference u acted (typed_owner f h) (typed_owner_is n s x m m2 b c l sound others f d.e d.here u acted words reach))
        (EachOf-without (TypedRight (sizes_of n) m2 (c s).steps) (λ y. y.frame) f h.typed (typed_are n s x m m2 b c l sound others f d.e d.here u acted words reach)))
    live_by_count (inr other) =
        let h = b s in
        let u = record h { refs = without_ref f h.refs; typed = live_typed f d.l.kind (ref_owner f h) ∷ h.typed; works = without_work f h.works } in
        let one = record h { typed = live_typed f d.l.kind (typed_owner f h) ∷ without_typed f h.typed; works = without_work f h.works } in
        let two : (d.l.number == 1) ≡ false = (let q = other.0 in grind (arith, nat_tests)) in
        let acted = stored_act Live d u (if_more (d.l.number == 1) one u two) refl refl refl refl in
        let words = live_words in
        store_done n s x m m2 b c l sound others f d.e d.here u acted words
        (record { ending = refl; claimed = refl; raised = refl; cache = refl; walk = refl; cold = refl; turn = refl; acked = refl; ran = refl }) refl refl (sound.formed s l).looking
        (λ reach. EachOf-without (RefRight (sizes_of n) m2 (c s).steps) (λ y. y.frame) f h.refs (refs_are n s x m m2 b c l sound others f d.e d.here u acted words reach))
        (λ reach.
        EachOf-more (TypedRight (sizes_of n) m2 (c s).steps) (live_typed f d.l.kind (ref_owner f h)) h.typed
        (live_reference u acted (ref_owner f h) (ref_owner_is n s x m m2 b c l sound others f d.e d.here u acted words reach))
        (typed_are n s x m m2 b c l sound others f d.e d.here u acted words reach))

  -- ---- dead
  dead_by : (d : Stored n s x f Dead m m2 (b s) (c s)) (t : Bool) → is_work (kind_fields d.e.word) ≡ t → Words n s m m2 b → Done n s m m2 b c
  dead_by d true is words =
      let h = b s in
      let u = record h { refs = record { frame = f; owner = typed_owner f h } ∷ h.refs; typed = without_typed f h.typed; works = without_work f h.works } in
      let new : Reference = record { frame = f; owner = typed_owner f h } in
      let acted = stored_act Dead d u (rw is refl) refl refl refl refl in
      store_done n s x m m2 b c l sound others f d.e d.here u acted words
      (record { ending = refl; claimed = refl; raised = refl; cache = refl; walk = refl; cold = refl; turn = refl; acked = refl; ran = refl }) refl refl (sound.formed s l).looking
      (λ reach.
      EachOf-more (RefRight (sizes_of n) m2 (c s).steps) new h.refs (typed_owner_is n s x m m2 b c l sound others f d.e d.here u acted words reach)
      (refs_are n s x m m2 b c l sound others f d.e d.here u acted words reach))
      (λ reach. EachOf-without (TypedRight (sizes_of n) m2 (c s).steps) (λ y. y.frame) f h.typed (typed_are n s x m m2 b c l sound others f d.e d.here u acted words reach))
  dead_by d false is words =
      let h = b s in
      let u = record h { works = without_work f h.works } in
      let acted = stored_act Dead d u (rw is refl) refl refl refl refl in
      store_done n s x m m2 b c l sound others f d.e d.here u acted words
      (record { ending = refl; claimed = refl; raised = refl; cache = refl; walk = refl; cold = refl; turn = refl; acked = refl; ran = refl }) refl refl (sound.formed s l).looking
      (refs_are n s x m m2 b c l sound others f d.e d.here u acted words) (typed_are n s x m m2 b c l sound others f d.e d.here u acted words)

  dead_done : Stored n s x f Dead m m2 (b s) (c s) → Done n s m m2 b c
  dead_done d =
      let v = (is_dead_left d.l d.form_is).0 in
      let was_found = clock_some (sizes_of n) d.e.since d.l.number (m Clock) (b s).steps (sound.found s l).clock d.may.stamp in
      dead_by d (is_work (kind_fields d.e.word)) refl
      (store_words n s x m m2 b c l sound others f d.e d.here d.wrote.others (ap (λ y. y.kind) d.fields_is ∙ d.may.kind)
      (let q = stamp_of (m2 (Kind f)) d.l d.fields_is v in omega arith))

  pub stored_done : (form : Form) → Stored n s x f form m m2 (b s) (c s) → Done n s m m2 b c
  unfolding live_words
  stored_done Live d = live_by_count d d.may.counts
  stored_done Partial d = partial_done n s x m m2 b c l sound others f d
  stored_done InWork d = unmarked_done n s x m m2 b c l sound others f d
  stored_done Dead d = dead_done d
