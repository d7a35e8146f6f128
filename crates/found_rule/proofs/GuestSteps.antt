-- Stores of the guest, and the bits that the own walk sets.
use Rattle.std.proofs.Common.{◌≡◌, ◌≢◌, ℕ, ◌<◌, ◌&&◌, not, Bool, true, false, IsTrue, refl, sym, ap, ◌∙◌, inl, inr, arith}
use Rattle.std.proofs.lemmas.Bool.{not-true}
use Rattle.std.proofs.lemmas.Bool.Decides.{nat_tests}
use Rattle.xp_words.specs.declared.kind.PageType.{PageType}
use Rattle.xp_words.specs.declared.kind.PageType.TheVariants as kinds
use Rattle.xp_words.specs.PageTypes.{type_number}
use Rattle.xp_words.specs.KindWords.{kind_fields}
use Rattle.xp_words.specs.Machine.{Machine}
use Rattle.xp_words.specs.declared.place.Place.{Place}
use Rattle.xp_words.specs.declared.place.Place.TheVariants.{Cell}
use Rattle.xp_words.specs.Places.{sizes_of}
use Rattle.xp_board.specs.declared.step.Step.{Step}
use Rattle.xp_board.specs.declared.holdings.Holdings.{Holdings}
use Rattle.xp_board.specs.Lists.{EachOf}
use Rattle.xp_board.specs.Readings.{kind_at, is_type}
use Rattle.xp_board.specs.Hands.{claims_of}
use Rattle.xp_board.specs.After.{is_fixed}
use Rattle.xp_board.specs.Reach.{Table, Writes, Reach}
use Rattle.xp_board.specs.Found.{WorkFound}
use Rattle.xp_board.specs.Sound.{Sound}
use Rattle.step_effects.proofs.ActEffects.{GuestStored}
use Rattle.found_rule.proofs.Learning.{Act, act}
use Rattle.found_rule.proofs.WordsOf.{CellSpared}
use Rattle.found_rule.proofs.Demands.{same_rest}
use Rattle.found_rule.proofs.CellReach.{unreached_passes}
use Rattle.found_rule.proofs.CellFacts.{FixedWorks, lock_table, zero_none}
use Rattle.found_rule.proofs.CellSteps.{cell_done}
use Rattle.found_rule.proofs.Quiet.{Done}
use Rattle.xp_board.proofs.CellAlike.{not_reads}
use Rattle.xp_board.proofs.HandLists.{EachOf-map}
use Rattle.xp_board.proofs.ListCounts.{EachOf-both}
use Rattle.xp_board.proofs.KindForms.{live_unmarked, table_levels}
use Rattle.xp_board.proofs.ReachAll.{unmarked_matches, written_reach}
use Rattle.xp_board.proofs.CountsDown.{lock_live, lock_some}

module _ (n : Machine) (s : ℕ) (x : Step) (m m2 : Place → ℕ) (b c : ℕ → Holdings) (l : s < (sizes_of n).vcpus) (sound : Sound n m b) (others : (t : ℕ) → t ≢ s → c t ≡ b t) (f i : ℕ)
    (fixed : FixedWorks n b) where
  -- ---- what is reached for a use of its type has no words that are known to be fixed
  pub no_fixed : (t : ℕ) → t < (sizes_of n).vcpus → ((kind_at m f).unflushed ≡ false → type_number (kind_at m f).kind ≢ 5) → EachOf (λ e. e.frame ≡ f → 0 < e.fixed → ⊥) (b t).works
  no_fixed t r off =
      EachOf-map (λ e. WorkFound n m b (b t) e × (0 < e.fixed → ((kind_fields e.word).unflushed ≡ false) × ((kind_fields e.word).kind ≡ kinds.Desc))) (λ e. e.frame ≡ f → 0 < e.fixed → ⊥) (b t).works
      (λ e h at some.
      let word : kind_at m f ≡ kind_fields e.word = ap (λ g. kind_at m g) (sym at) ∙ ap kind_fields h.0.word in
      let k = h.1 some in
      off (ap (λ y. y.unflushed) word ∙ k.0) (ap (λ y. type_number y.kind) word ∙ ap type_number k.1))
      (EachOf-both (WorkFound n m b (b t)) (λ e. 0 < e.fixed → ((kind_fields e.word).unflushed ≡ false) × ((kind_fields e.word).kind ≡ kinds.Desc)) (b t).works (sound.found t r).works (fixed t r))

  pub spared_fixed : (t : ℕ) → EachOf (λ e. e.frame ≡ f → 0 < e.fixed → ⊥) (b t).works → EachOf (λ e. e.frame ≡ f → i < e.fixed → m2 (Cell f i) ≡ m (Cell f i)) (b t).works
  spared_fixed t h =
      EachOf-map (λ e. e.frame ≡ f → 0 < e.fixed → ⊥) (λ e. e.frame ≡ f → i < e.fixed → m2 (Cell f i) ≡ m (Cell f i)) (b t).works (λ e k at below. absurd (k at (omega arith))) h

  pub my_fixed : EachOf (λ e. e.frame ≡ f → 0 < e.fixed → ⊥) (b s).works → EachOf (λ e. (j : ℕ) → Cell f i ≡ Cell e.frame j → j < e.fixed → IsTrue (is_fixed (m2 (Cell f i)))) (b s).works
  my_fixed h =
      EachOf-map (λ e. e.frame ≡ f → 0 < e.fixed → ⊥) (λ e. (j : ℕ) → Cell f i ≡ Cell e.frame j → j < e.fixed → IsTrue (is_fixed (m2 (Cell f i)))) (b s).works
      (λ e k j at below. absurd (k (cc) (omega arith))) h

  -- ---- a store of the guest
  module _ (writes : Reach (sizes_of n) m (b s) f Writes) where
    -- an unmarked frame is of ordinary memory
    seven : (kind_at m f).unflushed ≡ false → type_number (kind_at m f).kind ≡ 7
    seven unmarked = unmarked_matches n m b sound s f Writes l unmarked (λ e. cc) writes

    unclaimed : (t : ℕ) → t < (sizes_of n).vcpus → claims_of f (b t).claimed ≡ 0
    unclaimed t r = (sound.fresh.each s l f Writes writes).unclaimed t r

    inside_by : (t : PageType) (u : Bool) → (u ≡ false → type_number t ≡ 7) → IsTrue (not u && not (is_type t kinds.Writable)) → ⊥
    inside_by t true h e = absurd cc
    inside_by t false h e = let k = h refl in let q : is_type t kinds.Writable ≡ true = grind (arith, nat_tests) in let o = not-true (is_type t kinds.Writable) e in cc

    guest_spares : (t : ℕ) → t < (sizes_of n).vcpus → CellSpared m m2 f i (b t)
    unfolding seven unclaimed
    guest_spares t r =
        record {
          claims = unclaimed t r;
          locks = λ have.
              absurd (
              let live : ((kind_at m f).validated ≡ true) × (0 < (kind_at m f).number) = (lock_live n m b sound t r f have, lock_some n m b sound t r f have) in
              let q = table_levels (kind_at m f).kind (lock_table n m b sound f t r have) in
              let o = q.1 in
              let e = seven (live_unmarked n m f sound.spelled live.0) in
              omega arith);
          works = λ have inside. absurd (inside_by (kind_at m f).kind (kind_at m f).unflushed seven inside);
          fixed = spared_fixed t (no_fixed t r (λ u e. let k = seven u in omega arith));
        }

    guest_done : Act n s (Cell f i) m m2 (b s) (b s) (c s) → Done n s m m2 b c
    unfolding seven unclaimed guest_spares
    guest_done acted =
        cell_done n s x m m2 b c l sound others f i (b s) acted (same_rest (b s) (b s) refl) (λ t r d. guest_spares t r)
        (λ v r. unreached_passes n m m2 b f i v
        (λ level came. elim came [
          | inl reach ↦ (let e = sound.fresh.one_use s v f Writes (Table level) l r writes reach (λ q. cc) (not_reads level) in cc)
          | inr (inl serves) ↦
              (let live = serves.live (not_reads level) in
              let e = seven (live_unmarked n m f sound.spelled live) in
              let k : type_number (kind_at m f).kind ≡ level = serves.matches (not_reads level) in
              let o = serves.level.1 in
              omega arith)
          | inr (inr read) ↦ not_reads level read
        ]))
        (my_fixed (no_fixed s l (λ u e. let k = seven u in omega arith))) (zero_none n m b sound f m2 i s (unclaimed s l)) (λ h. h) (λ h. h)

  pub guest_stored_done : GuestStored n x f i m m2 (b s) (c s) → Done n s m m2 b c
  guest_stored_done d =
      let w = d.wrote in
      guest_done (written_reach (sizes_of n) m (b s) f d.may.item)
      (act n s x (Cell f i) m m2 (b s) (b s) (c s) w.place w.real w.left w.others refl refl refl refl d.hand)
