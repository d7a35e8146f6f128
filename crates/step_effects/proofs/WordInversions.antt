-- The effects of legal acts on the words of vCPUs and domains, on the clock and on the free map.
use Rattle.std.proofs.Common.{◌≡◌, ℕ, ◌+◌, Option, refl, sym, ap, ◌∙◌, inl, inr}
use Rattle.std.proofs.lemmas.Bool.{cases_eq}
use Rattle.xp_words.specs.Machine.{Machine}
use Rattle.xp_words.specs.declared.place.Place.{Place}
use Rattle.xp_words.specs.declared.place.Place.TheVariants.{Clock, Pages, Life, M2p, Map, Priv}
use Rattle.xp_board.specs.declared.step.Act.{Act}
use Rattle.xp_board.specs.declared.step.Act.TheVariants.{Load, Cas, Store, Add}
use Rattle.xp_board.specs.declared.step.Mark.{Mark}
use Rattle.xp_board.specs.declared.step.Step.{Step}
use Rattle.xp_board.specs.declared.step.StepKind.TheVariants as steps
use Rattle.xp_board.specs.declared.holdings.Holdings.{Holdings}
use Rattle.xp_board.specs.Acts.{left_by}
use Rattle.xp_board.specs.After.{noted}
use Rattle.step_effects.proofs.Doing.{Doing, wrote_by, load_words, load_left, lost_words, lost_left, now_by, store_now}
use Rattle.step_effects.proofs.ActEffects.{ActEffect, looked, mapped, ticked, charged, refunded, privileged, doomed, buried, hinted}
use Rattle.xp_board.proofs.Sums.{when_found, when_lost}

module _ (n : Machine) (s : ℕ) (x : Step) (m m2 : Place → ℕ) (b c : Holdings) (mark : Option Mark) where
  abbrev Effect : Type 0
  Effect = ActEffect n s x m m2 b c

  -- ---- any word
  pub look_effect : (p : Place) (a : Act) → Doing n s x m m2 b c mark p a steps.Look → Effect
  unfolding left_by
  look_effect p Load d = looked p (record { place = d.place; real = d.real; words = load_words _ _ _ _ _ _ _ _ p steps.Look d; left = load_left _ _ _ _ _ _ _ _ p steps.Look d; hand = d.hand })
  look_effect p _ d = absurd d.legal

  pub map_effect : (p : Place) (a : Act) → Doing n s x m m2 b c mark p a steps.M2p → Effect
  map_effect (M2p f) (Store new) d = mapped f (record { wrote = wrote_by _ _ _ _ _ _ _ _ (M2p f) (Store new) steps.M2p d; may = d.legal; hand = d.hand })
  map_effect _ _ d = absurd d.legal

  -- ---- the clock
  pub tick_effect : (p : Place) (a : Act) → Doing n s x m m2 b c mark p a steps.Tick → Effect
  tick_effect Clock (Cas e w) d =
      elim (cases_eq (m Clock) e) [
        | inl at ↦
            ticked
            (record {
              wrote = wrote_by _ _ _ _ _ _ _ _ Clock (Cas e w) steps.Tick d;
              below = rw at d.legal.below;
              is = now_by _ _ _ _ _ _ _ _ Clock e w steps.Tick d at ∙ d.legal.left ∙ ap (λ y. y + 1) (sym at);
              hand = d.hand;
            })
        | inr off ↦
            looked Clock
            (record {
              place = d.place;
              real = d.real;
              words = lost_words _ _ _ _ _ _ _ _ Clock e w steps.Tick d off;
              left = lost_left _ _ _ _ _ _ _ _ Clock e w steps.Tick d off;
              hand = d.hand;
            })
      ]
  tick_effect _ _ d = absurd d.legal

  -- ---- domains
  pub pages_effect : (p : Place) (a : Act) → Doing n s x m m2 b c mark p a steps.Pages → Effect
  unfolding left_by
  pages_effect (Pages q) (Cas e w) d =
      elim (cases_eq (m (Pages q)) e) [
        | inl at ↦
            let now : m2 (Pages q) ≡ w = now_by _ _ _ _ _ _ _ _ (Pages q) e w steps.Pages d at in
            charged q
            (record {
              wrote = wrote_by _ _ _ _ _ _ _ _ (Pages q) (Cas e w) steps.Pages d;
              more = rw (at, now) d.legal.more;
              hand = d.hand ∙ ap (λ y. noted x (m (Pages q)) y) (when_found (m (Pages q)) e _ b at ∙ rw (at, now) refl);
            })
        | inr off ↦
            looked (Pages q)
            (record {
              place = d.place;
              real = d.real;
              words = lost_words _ _ _ _ _ _ _ _ (Pages q) e w steps.Pages d off;
              left = lost_left _ _ _ _ _ _ _ _ (Pages q) e w steps.Pages d off;
              hand = d.hand ∙ ap (λ y. noted x (m (Pages q)) y) (when_lost (m (Pages q)) e _ b off);
            })
      ]
  pages_effect (Pages q) (Add by) d =
      refunded q by (record { wrote = wrote_by _ _ _ _ _ _ _ _ (Pages q) (Add by) steps.Pages d; may = d.legal; is = d.here; hand = d.hand })
  pages_effect _ _ d = absurd d.legal

  pub priv_effect : (p : Place) (a : Act) → Doing n s x m m2 b c mark p a steps.Priv → Effect
  priv_effect (Priv q) (Cas e w) d =
      elim (cases_eq (m (Priv q)) e) [
        | inl at ↦
            let now : m2 (Priv q) ≡ w = now_by _ _ _ _ _ _ _ _ (Priv q) e w steps.Priv d at in
            privileged q
            (record { wrote = wrote_by _ _ _ _ _ _ _ _ (Priv q) (Cas e w) steps.Priv d; may = rw (at, now) d.legal; hand = d.hand })
        | inr off ↦
            looked (Priv q)
            (record {
              place = d.place;
              real = d.real;
              words = lost_words _ _ _ _ _ _ _ _ (Priv q) e w steps.Priv d off;
              left = lost_left _ _ _ _ _ _ _ _ (Priv q) e w steps.Priv d off;
              hand = d.hand;
            })
      ]
  priv_effect _ _ d = absurd d.legal

  pub life_effect : (p : Place) (a : Act) → Doing n s x m m2 b c mark p a steps.Life → Effect
  life_effect (Life q) (Cas e w) d =
      elim (cases_eq (m (Life q)) e) [
        | inl at ↦
            doomed q
            (record {
              wrote = wrote_by _ _ _ _ _ _ _ _ (Life q) (Cas e w) steps.Life d;
              was = at ∙ d.legal.lives;
              is = now_by _ _ _ _ _ _ _ _ (Life q) e w steps.Life d at ∙ d.legal.left;
              hand = d.hand;
            })
        | inr off ↦
            looked (Life q)
            (record {
              place = d.place;
              real = d.real;
              words = lost_words _ _ _ _ _ _ _ _ (Life q) e w steps.Life d off;
              left = lost_left _ _ _ _ _ _ _ _ (Life q) e w steps.Life d off;
              hand = d.hand;
            })
      ]
  life_effect (Life q) (Store w) d =
      let now : m2 (Life q) ≡ w = store_now _ _ _ _ _ _ _ _ (Life q) w steps.Life d in
      buried q (record { wrote = wrote_by _ _ _ _ _ _ _ _ (Life q) (Store w) steps.Life d; may = rw now d.legal; hand = d.hand })
  life_effect _ _ d = absurd d.legal

  pub hint_effect : (p : Place) (a : Act) → Doing n s x m m2 b c mark p a steps.Hint → Effect
  unfolding left_by
  hint_effect (Map k) (Add by) d =
      hinted k by (record { wrote = wrote_by _ _ _ _ _ _ _ _ (Map k) (Add by) steps.Hint d; may = d.legal; is = d.here; hand = d.hand })
  hint_effect _ _ d = absurd d.legal
