-- The bits that the own walk sets in the entry that it loaded last.
use Rattle.std.proofs.Common.{◌≡◌, ◌≢◌, ℕ, ◌<◌, ◌≤◌, ◌&&◌, not, Bool, true, false, List, [], ◌∷◌, Option, Some, None, IsTrue, refl, sym, ap, subst, ◌∙◌, inl, arith}
use Rattle.std.proofs.lemmas.Bool.Decides.{nat_tests}
use Rattle.xp_words.specs.declared.kind.PageType.{PageType}
use Rattle.xp_words.specs.PageTypes.{type_number, is_table}
use Rattle.xp_words.specs.Entries.{is_bit}
use Rattle.xp_words.specs.Machine.{Machine}
use Rattle.xp_words.specs.declared.place.Place.{Place}
use Rattle.xp_words.specs.declared.place.Place.TheVariants.{Refs, Kind, Cell}
use Rattle.xp_words.specs.Places.{sizes_of, flushed_of, run_of}
use Rattle.xp_board.specs.declared.step.Step.{Step}
use Rattle.xp_board.specs.declared.holdings.Reached.{Reached}
use Rattle.xp_board.specs.declared.holdings.Touching.{Touching}
use Rattle.xp_board.specs.declared.holdings.Walk.{Walk}
use Rattle.xp_board.specs.declared.holdings.Holdings.{Holdings}
use Rattle.xp_board.specs.Lists.{Member}
use Rattle.xp_board.specs.FillSteps.{is_walked, descended}
use Rattle.xp_board.specs.Readings.{kind_at}
use Rattle.xp_board.specs.Reach.{Table, reached_by, Reach, walked}
use Rattle.xp_board.specs.Found.{is_same_entry, is_same_cell}
use Rattle.xp_board.specs.WellFormed.{TouchesIn}
use Rattle.xp_board.specs.Sound.{Sound}
use Rattle.step_effects.proofs.ActEffects.{Touched}
use Rattle.found_rule.proofs.Learning.{act}
use Rattle.found_rule.proofs.WordsOf.{CellSpared, words_cell}
use Rattle.found_rule.proofs.Serving.{alike_passes}
use Rattle.found_rule.proofs.CellReach.{cell_passes}
use Rattle.found_rule.proofs.CellFacts.{FixedWorks, zero_none}
use Rattle.found_rule.proofs.GuestSteps.{no_fixed, spared_fixed, my_fixed}
use Rattle.found_rule.proofs.WalkSteps.{WalkHand, descends}
use Rattle.found_rule.proofs.WalkRows.{walk_done}
use Rattle.found_rule.proofs.Quiet.{Done}
use Rattle.xp_board.proofs.CellAlike.{CellAlike, not_reads, touched_alike}
use Rattle.xp_board.proofs.ReachAll.{unmarked_matches, reach_level}
use Rattle.xp_board.proofs.EntryWords.{touched_back}

-- ---- the entry is the same but for these bits

same_in_table : (t : PageType) (w y : ℕ) → is_table t ≡ true → IsTrue (is_same_entry w y) → IsTrue (is_same_cell t w y)
same_in_table t w y e h = rw e h

inside_unmarked : (u q : Bool) → IsTrue (not u && q) → u ≡ false
inside_unmarked false q e = refl
inside_unmarked true q e = absurd cc

-- ---- the entry that the walk loaded last
record TouchHere (walk : Walk) (f i w : ℕ) : Type 0 where
  pub level : ℕ
  pub above : List Reached
  pub reached : walk.reached ≡ record { table = f; level = level } ∷ above
  pub walks : IsTrue (is_walked level i)
  pub present : is_bit 0 w ≡ true
  pub writable : walk.writable ≡ true → is_bit 1 w ≡ true

touch_here : (walk : Walk) (f i w : ℕ) (xs : List Reached) (o : Option Touching) → walk.reached ≡ xs → o ≡ Some (record { frame = f; index = i; word = w }) → TouchesIn walk xs o → TouchHere walk f i w
touch_here walk f i w [] (Some t) at at2 formed = absurd formed
touch_here walk f i w [] None at at2 formed = absurd cc
touch_here walk f i w (k ∷ ks) None at at2 formed = absurd cc
touch_here walk f i w (k ∷ ks) (Some t) at at2 formed =
    let is : t ≡ record { frame = f; index = i; word = w } = cc in
    let frame : f ≡ k.table = sym (ap (λ y. y.frame) is) ∙ formed.frame in
    record {
      level = k.level;
      above = ks;
      reached = at ∙ ap (λ g. record { table = g; level = k.level } ∷ ks) (sym frame);
      walks = subst (λ j. IsTrue (is_walked k.level j)) (ap (λ y. y.index) is) formed.walked;
      present = subst (λ v. is_bit 0 v ≡ true) (ap (λ y. y.word) is) formed.present;
      writable = λ e. subst (λ v. is_bit 1 v ≡ true) (ap (λ y. y.word) is) (formed.writable e);
    }

module _ (n : Machine) (s : ℕ) (x : Step) (m m2 : Place → ℕ) (b c : ℕ → Holdings) (l : s < (sizes_of n).vcpus) (sound : Sound n m b) (others : (t : ℕ) → t ≢ s → c t ≡ b t) (f i : ℕ)
    (fixed : FixedWorks n b) where
  -- a table that the walk reached
  module _ (level : ℕ) (reach : Reach (sizes_of n) m (b s) f (Table level)) (same : IsTrue (is_same_entry (m2 (Cell f i)) (m (Cell f i)))) where
    levels : (1 ≤ level) × (level ≤ 4)
    levels = reach_level n m b sound s f (Table level) l reach

    table : (kind_at m f).unflushed ≡ false → type_number (kind_at m f).kind ≡ level
    table unmarked = unmarked_matches n m b sound s f (Table level) l unmarked (not_reads level) reach

    touch_spares : (t : ℕ) → t < (sizes_of n).vcpus → CellSpared m m2 f i (b t)
    unfolding levels table
    touch_spares t r =
        record {
          claims = (sound.fresh.each s l f (Table level) reach).unclaimed t r;
          locks = λ have. same;
          works = λ have inside.
              let k = table (inside_unmarked (kind_at m f).unflushed _ inside) in
              let o = levels in
              let p = o.0 in
              let q = o.1 in
              let is : is_table (kind_at m f).kind ≡ true = grind (arith, nat_tests) in
              same_in_table (kind_at m f).kind (m2 (Cell f i)) (m (Cell f i)) is same;
          fixed = spared_fixed n s x m m2 b c l sound others f i fixed t (no_fixed n s x m m2 b c l sound others f i fixed t r (λ u e. let k = table u in let o = levels in let q = o.1 in omega arith));
        }

  pub touched_done : Touched n x f i m m2 (b s) (c s) → Done n s m m2 b c
  unfolding Member touch_spares levels table
  touched_done d =
      let w = d.wrote in
      let p = Cell f i in
      let walk = d.walk in
      let formed = (sound.formed s l).cache.walk walk d.may.flying in
      let here = touch_here walk f i (m p) walk.reached walk.touching refl d.may.needed formed.touching in
      let alike = subst (λ y. CellAlike (m p) y) (sym d.may.left) (touched_alike walk (m p)) in
      let same : IsTrue (is_same_entry (m2 p) (m p)) = subst (λ y. IsTrue (is_same_entry y (m p))) (sym d.may.left) (touched_back walk (m p)) in
      let one : Reached = record { table = f; level = here.level } in
      let reach : Reach (sizes_of n) m (b s) f (Table here.level) = walked one (subst (λ o. Member one (reached_by o)) (sym d.may.flying) (subst (λ xs. Member one xs) (sym here.reached) (inl refl))) in
      let u = descended n walk (m2 p) (b s) in
      let hand : WalkHand n m b s u =
      descends n m b s l sound walk walk f here.level i (m2 p) here.above d.may.flying refl here.reached here.walks alike (alike.present ∙ here.present) (λ e. alike.writable ∙ here.writable e) in
      let acted = act n s x p m m2 (b s) u (c s) w.place w.real w.left w.others hand.steps hand.run hand.old0 hand.old1 d.hand in
      let o = w.others in
      walk_done n s x m m2 b c l sound others p u acted hand (words_cell n s m m2 b sound f i o (λ t r off. touch_spares here.level reach same t r))
      (λ g. o (Kind g) (λ e. cc)) (λ g. o (Refs g) (λ e. cc)) (λ v. o (flushed_of v) (λ e. cc)) (λ v. o (run_of v) (λ e. cc))
      (cell_passes n m m2 b sound f i o (λ v r. alike_passes n m m2 b sound v f i alike))
      (my_fixed n s x m m2 b c l sound others f i fixed (no_fixed n s x m m2 b c l sound others f i fixed s l (λ q e. let k = table here.level reach same q in let y = levels here.level reach same in let v = y.1 in omega arith)))
      (zero_none n m b sound f m2 i s ((sound.fresh.each s l f (Table here.level) reach).unclaimed s l))
