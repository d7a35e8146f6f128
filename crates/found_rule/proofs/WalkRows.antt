-- The loads of the own walk, and the end of one that stumbles.
use Rattle.std.proofs.Common.{◌≡◌, ◌≢◌, ℕ, ◌+◌, ◌-◌, ◌<◌, ◌==◌, not, if◌then◌else◌, Bool, true, false, List, [], ◌∷◌, Some, None, IsTrue, refl, sym, ap, subst, ◌∙◌, inl, inr, arith}
use Rattle.std.proofs.lemmas.Bool.{and_parts}
use Rattle.std.proofs.lemmas.Bool.Decides.{nat_tests}
use Rattle.xp_words.specs.Entries.{is_bit}
use Rattle.xp_words.specs.PageTypes.{type_number}
use Rattle.xp_words.specs.Machine.{Machine}
use Rattle.xp_words.specs.declared.place.Place.{Place}
use Rattle.xp_words.specs.declared.place.Place.TheVariants.{Vcpu, Refs, Kind, Cell}
use Rattle.xp_words.specs.Places.{sizes_of, flushed_of, run_of}
use Rattle.xp_board.specs.declared.step.Step.{Step}
use Rattle.xp_board.specs.declared.holdings.Reached.{Reached}
use Rattle.xp_board.specs.declared.holdings.Touching.{Touching}
use Rattle.xp_board.specs.declared.holdings.Walk.{Walk}
use Rattle.xp_board.specs.declared.holdings.Holdings.{Holdings}
use Rattle.xp_board.specs.Lists.{EachOf, Member}
use Rattle.xp_board.specs.After.{noted, learned_own, learned_cell, is_fixed}
use Rattle.xp_board.specs.FillSteps.{MayWalkOn, is_walked, started, loaded, walked_by, touched, is_for_write}
use Rattle.xp_board.specs.Reach.{Table, reached_by, cached, walked}
use Rattle.xp_board.specs.WellFormed.{IsDescent, IsWalkFormed, TouchesIn}
use Rattle.xp_board.specs.Sound.{Sound}
use Rattle.step_effects.proofs.ActEffects.{Started, WentOn, Stumbled}
use Rattle.found_rule.proofs.Learning.{Act, act}
use Rattle.found_rule.proofs.Words.{Words}
use Rattle.found_rule.proofs.WordsAt.{words_quiet}
use Rattle.found_rule.proofs.KnownFacts.{RefRight, TypedRight}
use Rattle.found_rule.proofs.Serving.{Came, PassesOn}
use Rattle.found_rule.proofs.CellReach.{came_reach, same_passes}
use Rattle.found_rule.proofs.MyHand.{refs_old, typed_old}
use Rattle.found_rule.proofs.RestLaw.{rest_done}
use Rattle.found_rule.proofs.WalkSteps.{WalkHand, if_walk, walk_hand, no_walk, same_walk, descends}
use Rattle.found_rule.proofs.Quiet.{Done, fix_kept, zero_kept}
use Rattle.xp_board.proofs.CellAlike.{alike_same}
use Rattle.xp_board.proofs.Sums.{if_itself}
use Rattle.xp_board.proofs.LiveTables.{base_table}

module _ (n : Machine) (s : ℕ) (x : Step) (m m2 : Place → ℕ) (b c : ℕ → Holdings) (l : s < (sizes_of n).vcpus) (sound : Sound n m b) (others : (t : ℕ) → t ≢ s → c t ≡ b t) where
  -- ---- an act that moves the walk and the cache alone
  module _ (p : Place) (u : Holdings) (acted : Act n s p m m2 (b s) u (c s)) (hand : WalkHand n m b s u) where
    pub walk_done : Words n s m m2 b → ((f : ℕ) → m2 (Kind f) ≡ m (Kind f)) → ((f : ℕ) → m2 (Refs f) ≡ m (Refs f)) → ((v : ℕ) → m2 (flushed_of v) ≡ m (flushed_of v)) →
        ((v : ℕ) → m2 (run_of v) ≡ m (run_of v)) → ((v f i : ℕ) → v < (sizes_of n).vcpus → PassesOn n m m2 b v f i) →
        EachOf (λ e. (i : ℕ) → p ≡ Cell e.frame i → i < e.fixed → IsTrue (is_fixed (m2 p))) (b s).works →
        EachOf (λ e. (i : ℕ) → p ≡ Cell e.frame i → i < e.scrubbed → m2 p ≡ 0) (b s).claimed → Done n s m m2 b c
    walk_done words kinds refs flushed run passes fix zeros =
        let z = sizes_of n in
        let reach = came_reach n s m m2 b c u sound others acted.learned.cache acted.learned.walk passes hand.items hand.tables in
        rest_done n s p m m2 b c u acted l sound others hand.rest kinds refs words reach fix zeros flushed run
        (subst (λ xs. EachOf (RefRight z m2 (c s).steps) xs) (sym hand.refs) (refs_old n s p m m2 b c u acted l sound words reach))
        (subst (λ xs. EachOf (TypedRight z m2 (c s).steps) xs) (sym hand.typed) (typed_old n s p m m2 b c u acted l sound words reach)) hand.formed

    load_done : ((q : Place) → m2 q ≡ m q) → Done n s m m2 b c
    load_done w =
        walk_done (words_quiet n s m m2 b sound (λ q r. w q)) (λ f. w (Kind f)) (λ f. w (Refs f)) (λ v. w (flushed_of v)) (λ v. w (run_of v))
        (same_passes n m m2 b sound (λ f i. w (Cell f i))) (fix_kept n s p m m2 b c u acted l sound (λ f i. w (Cell f i))) (zero_kept n s p m m2 b c u acted l sound (λ f i. w (Cell f i)))

  -- ---- a walk begins at the base
  base_came : (k g : ℕ) → k < 2 → m (Vcpu s k) ≡ g + 1 → Came n m b s g (Table 4)
  base_came k g few names =
      let base = base_table n m b sound s k g l few names in
      inr (inl (record { level = (omega arith, omega arith); live = λ o. base.live; number = λ o. base.counted; matches = λ o. ap type_number base.kind }))

  first_formed : (walk y : Walk) (w : ℕ) → walk.reached ≡ record { table = w; level = 4 } ∷ [] → walk.touching ≡ None → Some walk ≡ Some y → IsWalkFormed y
  first_formed walk y w reached none e =
      let is : walk ≡ y = cc in
      subst IsWalkFormed is
      (record {
        level = 4;
        low = omega arith;
        high = omega arith;
        descent = rw reached (refl, refl);
        touching = rw (reached, none) tt;
      })

  start_by : (k w : ℕ) (write t : Bool) → k < 2 → m (Vcpu s k) ≡ w → (w == 0) ≡ t →
      WalkHand n m b s (if t then b s else record (b s) { walk = Some (record { user = k == 1; write = write; writable = true; page = 0; reached = record { table = w - 1; level = 4 } ∷ []; touching = None }) })
  unfolding Member
  start_by k w write true few at e = same_walk n m b s l sound
  start_by k w write false few at e =
      let some : w ≢ 0 = (λ z. absurd (let t : (w == 0) ≡ true = grind (arith, nat_tests) in cc)) in
      let walk : Walk = record { user = k == 1; write = write; writable = true; page = 0; reached = record { table = w - 1; level = 4 } ∷ []; touching = None } in
      walk_hand n m b s l sound (Some walk) (b s).cache (λ x k. inl (cached x k))
      (λ x h. elim h [
        | inl is ↦ subst (λ j. Came n m b s j.table (Table j.level)) is (base_came k (w - 1) few (omega arith))
        | inr rest ↦ absurd rest
      ])
      (sound.formed s l).cache.few (λ y q. first_formed walk y (w - 1) refl refl q)

  pub started_done : (k : ℕ) → Started n s x k m m2 (b s) (c s) → Done n s m m2 b c
  started_done k d =
      let p = Vcpu s k in
      let u = started k (m p) (is_for_write x.mark) (b s) in
      let hand : WalkHand n m b s u = start_by k (m p) (is_for_write x.mark) (m p == 0) (let e = d.may.word in grind (arith, nat_tests)) refl refl in
      let left = sym (d.words p) in
      load_done p u
      (act n s x p m m2 (b s) u (c s) d.place d.real (d.left ∙ left) (λ q o. d.words q) hand.steps hand.run hand.old0 hand.old1
      (d.hand ∙ ap (λ w. noted x (m p) (learned_own k w u)) left ∙ ap (noted x (m p)) (sym (if_itself s (learned_own k (m2 p) u) u))))
      hand d.words

  -- ---- it goes on through an entry
  touching_formed : (walk old y : Walk) (f level i w : ℕ) (above : List Reached) → walk.reached ≡ record { table = f; level = level } ∷ above → walk.reached ≡ old.reached → IsWalkFormed old →
      IsTrue (is_walked level i) → is_bit 0 w ≡ true → (walk.writable ≡ true → is_bit 1 w ≡ true) → Some (record walk { touching = Some (record { frame = f; index = i; word = w }) }) ≡ Some y → IsWalkFormed y
  touching_formed walk old y f level i w above reached same formed walks present writable e =
      let is : record walk { touching = Some (record { frame = f; index = i; word = w }) } ≡ y = cc in
      let next = record walk { touching = Some (record { frame = f; index = i; word = w }) } in
      let t : Touching = record { frame = f; index = i; word = w } in
      subst IsWalkFormed is
      (record {
        level = formed.level;
        low = formed.low;
        high = formed.high;
        descent = subst (λ xs. IsDescent formed.level xs) (sym same) formed.descent;
        touching = subst (λ xs. TouchesIn next xs (Some t)) (sym reached) (record { frame = refl; walked = walks; present = present; writable = writable });
      })

  loaded_hand : (f i : ℕ) (walk : Walk) → MayWalkOn f i walk (b s) → WalkHand n m b s (loaded n f i (m (Cell f i)) (walked_by i (m (Cell f i)) walk) (b s))
  loaded_hand f i walk may =
      let w = m (Cell f i) in
      let on = walked_by i w walk in
      let t : Touching = record { frame = f; index = i; word = w } in
      let next : Walk = record on { touching = Some t } in
      let writable : on.writable ≡ true → is_bit 1 w ≡ true = λ e. (and_parts walk.writable (is_bit 1 w) e).1 in
      if_walk n m b s l sound (not (is_bit 0 w)) _ _ (λ out. no_walk n m b s l sound)
      (λ present.
      let there : is_bit 0 w ≡ true = grind arith in
      if_walk n m b s l sound (touched on w == w) _ _
      (λ done. descends n m b s l sound on walk f may.level i w may.above may.flying refl may.reached may.walked (alike_same w w refl) there writable)
      (λ more.
      walk_hand n m b s l sound (Some next) (b s).cache (λ x k. inl (cached x k)) (λ x k. inl (walked x (subst (λ o. Member x (reached_by o)) (sym may.flying) k)))
      (sound.formed s l).cache.few
      (λ y q. touching_formed on walk y f may.level i w may.above may.reached refl ((sound.formed s l).cache.walk walk may.flying) may.walked there writable q)))

  pub went_on_done : (f i : ℕ) → WentOn n x f i m m2 (b s) (c s) → Done n s m m2 b c
  went_on_done f i d =
      let p = Cell f i in
      let u = loaded n f i (m p) (walked_by i (m p) d.walk) (b s) in
      let hand = loaded_hand f i d.walk d.may in
      let left = sym (d.words p) in
      load_done p u
      (act n s x p m m2 (b s) u (c s) d.place d.real (d.left ∙ left) (λ q o. d.words q) hand.steps hand.run hand.old0 hand.old1
      (d.hand ∙ ap (λ w. noted x (m p) (learned_cell f i w u)) left)) hand d.words

  pub stumbled_done : (f i : ℕ) → Stumbled n x f i m m2 (b s) (c s) → Done n s m m2 b c
  stumbled_done f i d =
      let p = Cell f i in
      let u = record (b s) { walk = None } in
      let left = sym (d.words p) in
      load_done p u
      (act n s x p m m2 (b s) u (c s) d.place d.real (d.left ∙ left) (λ q o. d.words q) refl refl refl refl (d.hand ∙ ap (λ w. noted x (m p) (learned_cell f i w u)) left))
      (no_walk n m b s l sound) d.words
