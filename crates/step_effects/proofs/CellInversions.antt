-- The effects of legal acts on cells: of the hypervisor, of the guest, and of the own walk.
use Rattle.std.proofs.Common.{◌≡◌, ◌≢◌, ℕ, ◌==◌, if◌then◌else◌, true, false, Option, Some, None, refl, ap, subst, ◌∙◌, inl, inr, arith}
use Rattle.std.proofs.lemmas.Bool.{cases_eq, cases_Bool}
use Rattle.std.proofs.lemmas.Bool.Decides.{nat_tests}
use Rattle.xp_words.specs.Machine.{Machine}
use Rattle.xp_words.specs.declared.place.Place.{Place}
use Rattle.xp_words.specs.declared.place.Place.TheVariants.{Vcpu, Cell}
use Rattle.xp_board.specs.declared.step.Act.{Act}
use Rattle.xp_board.specs.declared.step.Act.TheVariants.{Load, Cas, Store}
use Rattle.xp_board.specs.declared.step.Mark.{Mark}
use Rattle.xp_board.specs.declared.step.Step.{Step}
use Rattle.xp_board.specs.declared.step.StepKind.TheVariants as steps
use Rattle.xp_board.specs.declared.holdings.Lock.{Lock}
use Rattle.xp_board.specs.declared.holdings.Walk.{Walk}
use Rattle.xp_board.specs.declared.holdings.Holdings.{Holdings}
use Rattle.xp_board.specs.Acts.{left_by}
use Rattle.xp_board.specs.Hands.{lock_on}
use Rattle.xp_board.specs.CellSteps.{keeps_demand, MayExchange, AllowsCell, AllowsCellFrom, exchanged as exchange}
use Rattle.xp_board.specs.FillSteps.{MayStartWalk, walked_on, descended}
use Rattle.xp_board.specs.TouchSteps.{touched_by}
use Rattle.xp_board.specs.After.{noted, learned_cell}
use Rattle.step_effects.proofs.Doing.{Doing, wrote_by, load_words, load_left, lost_words, lost_left, now_by, store_now}
use Rattle.step_effects.proofs.ActEffects.{Wrote, ActEffect, looked, exchanged, rewrote, filled, guest_stored, started_walk, went_on, touched_entry, stumbled}
use Rattle.xp_board.proofs.Sums.{when_found, when_lost}

module _ (n : Machine) (s : ℕ) (x : Step) (m m2 : Place → ℕ) (b c : Holdings) (mark : Option Mark) where
  abbrev Effect : Type 0
  Effect = ActEffect n s x m m2 b c

  -- ---- a cell under the own lock
  locked_by : (f i : ℕ) (e : Lock) → Wrote n x (Cell f i) steps.Cell m m2 b → lock_on f b.locks ≡ Some e → MayExchange n f i (m2 (Cell f i)) b e →
      c ≡ noted x (m (Cell f i)) (learned_cell f i (m2 (Cell f i)) (exchange i (m2 (Cell f i)) (m (Cell f i)) (Some e) b)) → Effect
  locked_by f i e wrote here may hand =
      elim (cases_Bool (keeps_demand e i (m2 (Cell f i)))) [
        | inl same ↦
            rewrote f i
            (record { wrote = wrote; e = e; here = here; same = same; hand = hand ∙ ap (λ y. noted x (m (Cell f i)) (learned_cell f i (m2 (Cell f i)) y)) (rw same refl) })
        | inr other ↦
            exchanged f i
            (record {
              wrote = wrote;
              e = e;
              here = here;
              other = other;
              may = elim may [ inl same ↦ absurd (cc) | inr has ↦ has ];
              hand = hand ∙ ap (λ y. noted x (m (Cell f i)) (learned_cell f i (m2 (Cell f i)) y)) (rw other refl);
            })
      ]

  cell_by : (f i : ℕ) (o : Option Lock) → Wrote n x (Cell f i) steps.Cell m m2 b → lock_on f b.locks ≡ o → AllowsCell n f i (m2 (Cell f i)) b o →
      c ≡ noted x (m (Cell f i)) (learned_cell f i (m2 (Cell f i)) (exchange i (m2 (Cell f i)) (m (Cell f i)) o b)) → Effect
  cell_by f i (Some e) wrote here may hand = locked_by f i e wrote here may hand
  cell_by f i None wrote here may hand = filled f i (record { wrote = wrote; unlocked = here; may = may; hand = hand })

  from_by : (f i e w : ℕ) (o : Option Lock) → AllowsCellFrom n f i e w b o → AllowsCell n f i w b o
  from_by f i e w (Some l) may = may.may
  from_by f i e w None may = absurd may

  pub cell_effect : (p : Place) (a : Act) → Doing n s x m m2 b c mark p a steps.Cell → Effect
  unfolding left_by
  cell_effect (Cell f i) (Store w) d =
      let now : m2 (Cell f i) ≡ w = store_now _ _ _ _ _ _ _ _ (Cell f i) w steps.Cell d in
      cell_by f i (lock_on f b.locks) (wrote_by _ _ _ _ _ _ _ _ (Cell f i) (Store w) steps.Cell d) refl (rw now d.legal) (d.hand ∙ rw now refl)
  cell_effect (Cell f i) (Cas e w) d =
      elim (cases_eq (m (Cell f i)) e) [
        | inl at ↦
            let now : m2 (Cell f i) ≡ w = now_by _ _ _ _ _ _ _ _ (Cell f i) e w steps.Cell d at in
            cell_by f i (lock_on f b.locks) (wrote_by _ _ _ _ _ _ _ _ (Cell f i) (Cas e w) steps.Cell d) refl
            (rw now (from_by f i e w (lock_on f b.locks) d.legal))
            (d.hand ∙ rw now (ap (λ y. noted x (m (Cell f i)) (learned_cell f i (if m (Cell f i) == e then w else m (Cell f i)) y)) (when_found (m (Cell f i)) e _ b at)
            ∙ ap (λ y. noted x (m (Cell f i)) (learned_cell f i y (exchange i w (m (Cell f i)) (lock_on f b.locks) b))) (when_found (m (Cell f i)) e w (m (Cell f i)) at)))
        | inr off ↦
            looked (Cell f i)
            (record {
              place = d.place;
              real = d.real;
              words = lost_words _ _ _ _ _ _ _ _ (Cell f i) e w steps.Cell d off;
              left = lost_left _ _ _ _ _ _ _ _ (Cell f i) e w steps.Cell d off;
              hand = d.hand
                  ∙ (ap (λ y. noted x (m (Cell f i)) (learned_cell f i (if m (Cell f i) == e then w else m (Cell f i)) y)) (when_lost (m (Cell f i)) e _ b off)
                  ∙ ap (λ y. noted x (m (Cell f i)) (learned_cell f i y b)) (when_lost (m (Cell f i)) e w (m (Cell f i)) off));
            })
      ]
  cell_effect _ _ d = absurd d.legal

  -- ---- the guest
  pub guest_effect : (p : Place) (a : Act) → Doing n s x m m2 b c mark p a steps.Guest → Effect
  unfolding left_by
  guest_effect (Cell f i) Load d =
      looked (Cell f i)
      (record { place = d.place; real = d.real; words = load_words _ _ _ _ _ _ _ _ (Cell f i) steps.Guest d; left = load_left _ _ _ _ _ _ _ _ (Cell f i) steps.Guest d; hand = d.hand })
  guest_effect (Cell f i) (Store w) d =
      let now : m2 (Cell f i) ≡ w = store_now _ _ _ _ _ _ _ _ (Cell f i) w steps.Guest d in
      guest_stored f i (record { wrote = wrote_by _ _ _ _ _ _ _ _ (Cell f i) (Store w) steps.Guest d; may = d.legal; hand = d.hand ∙ rw now refl })
  guest_effect _ _ d = absurd d.legal

  -- ---- the own walk
  start_at : (k : ℕ) → Doing n s x m m2 b c mark (Vcpu s k) Load steps.Fill → MayStartWalk s s k b → Effect
  unfolding left_by
  start_at k d may =
      started_walk k
      (record {
        place = d.place;
        real = d.real;
        kind_is = d.kind_is;
        running = d.running refl;
        words = load_words _ _ _ _ _ _ _ _ (Vcpu s k) steps.Fill d;
        left = load_left _ _ _ _ _ _ _ _ (Vcpu s k) steps.Fill d;
        may = may;
        hand = d.hand ∙ ap (λ y. noted x (m (Vcpu s k)) y) (when_found s s _ _ refl) ∙ rw d.mark_is refl;
      })

  pub fill_effect : (p : Place) (a : Act) → Doing n s x m m2 b c mark p a steps.Fill → Effect
  unfolding left_by
  fill_effect (Vcpu v k) Load d =
      let own = d.legal.0.own in
      start_at k (subst (λ u. Doing n s x m m2 b c mark (Vcpu u k) Load steps.Fill) own d) (subst (λ u. MayStartWalk s u k b) own d.legal.0)
  fill_effect (Cell f i) Load d =
      let walk = d.legal.0.0 in
      let may = d.legal.0.1 in
      went_on f i
      (record {
        place = d.place;
        real = d.real;
        kind_is = d.kind_is;
        running = d.running refl;
        words = load_words _ _ _ _ _ _ _ _ (Cell f i) steps.Fill d;
        left = load_left _ _ _ _ _ _ _ _ (Cell f i) steps.Fill d;
        walk = walk;
        may = may;
        hand = d.hand ∙ ap (λ o. noted x (m (Cell f i)) (learned_cell f i (m (Cell f i)) (walked_on n f i (m (Cell f i)) o b))) may.flying;
      })
  fill_effect _ _ d = absurd d.legal

  is_met : (w e : ℕ) → w ≡ e → (w == e) ≡ true
  is_met w e at = grind (arith, nat_tests)

  is_off : (w e : ℕ) → w ≢ e → (w == e) ≡ false
  is_off w e off = grind (arith, nat_tests)

  when_touched : (f i e w : ℕ) → m (Cell f i) ≡ e → (walk : Walk) → b.walk ≡ Some walk →
      noted x (m (Cell f i)) (learned_cell f i (if m (Cell f i) == e then w else m (Cell f i)) (touched_by n (m (Cell f i) == e) w b.walk b))
      ≡ noted x (m (Cell f i)) (learned_cell f i w (descended n walk w b))
  when_touched f i e w at walk flying = let t = is_met (m (Cell f i)) e at in rw (t, flying) refl

  when_stumbled : (f i e w : ℕ) → m (Cell f i) ≢ e → (walk : Walk) → b.walk ≡ Some walk →
      noted x (m (Cell f i)) (learned_cell f i (if m (Cell f i) == e then w else m (Cell f i)) (touched_by n (m (Cell f i) == e) w b.walk b))
      ≡ noted x (m (Cell f i)) (learned_cell f i (m (Cell f i)) (record b { walk = None }))
  when_stumbled f i e w off walk flying = let t = is_off (m (Cell f i)) e off in rw (t, flying) refl

  pub touch_effect : (p : Place) (a : Act) → Doing n s x m m2 b c mark p a steps.Touch → Effect
  unfolding left_by
  touch_effect (Cell f i) (Cas e w) d =
      let walk = d.legal.0 in
      let may = d.legal.1 in
      elim (cases_eq (m (Cell f i)) e) [
        | inl at ↦
            let now : m2 (Cell f i) ≡ w = now_by _ _ _ _ _ _ _ _ (Cell f i) e w steps.Touch d at in
            touched_entry f i
            (record {
              wrote = wrote_by _ _ _ _ _ _ _ _ (Cell f i) (Cas e w) steps.Touch d;
              walk = walk;
              may = rw (at, now) may;
              hand = d.hand ∙ rw now (when_touched f i e w at walk may.flying);
            })
        | inr off ↦
            stumbled f i
            (record {
              place = d.place;
              real = d.real;
              kind_is = d.kind_is;
              running = d.running refl;
              words = lost_words _ _ _ _ _ _ _ _ (Cell f i) e w steps.Touch d off;
              left = lost_left _ _ _ _ _ _ _ _ (Cell f i) e w steps.Touch d off;
              hand = d.hand ∙ when_stumbled f i e w off walk may.flying;
            })
      ]
  touch_effect _ _ d = absurd d.legal
