-- Stores into a table under the own lock, and into a frame that is claimed, in the own work, or ordinary memory.
use Rattle.std.proofs.Common.{◌≡◌, ◌≢◌, ℕ, ◌<◌, ◌≤◌, true, length, Some, IsTrue, refl, sym, ap, subst, ◌∙◌, inl, inr, arith}
use Rattle.std.proofs.lemmas.Bool.Decides.{nat_tests}
use Rattle.xp_words.specs.declared.kind.PageType.{PageType}
use Rattle.xp_words.specs.PageTypes.{type_number, is_table}
use Rattle.xp_words.specs.KindWords.{kind_fields}
use Rattle.xp_words.specs.declared.entry.Demand.TheVariants.{Typed}
use Rattle.std.proofs.lemmas.Bool.Decides.{nat_tests}
use Rattle.xp_words.specs.Entries.{demand_at}
use Rattle.xp_words.specs.Machine.{Machine}
use Rattle.xp_words.specs.declared.place.Place.{Place}
use Rattle.xp_words.specs.declared.place.Place.TheVariants.{Refs, Kind, Cell}
use Rattle.xp_words.specs.Places.{sizes_of, is_place, flushed_of, run_of}
use Rattle.xp_board.specs.declared.step.Step.{Step}
use Rattle.xp_board.specs.declared.holdings.Lock.{Lock}
use Rattle.xp_board.specs.declared.holdings.Holdings.{Holdings}
use Rattle.xp_board.specs.Lists.{EachOf, Member}
use Rattle.xp_board.specs.Readings.{kind_at}
use Rattle.xp_board.specs.Hands.{works_on, locks_on, lock_on, claims_of}
use Rattle.xp_board.specs.After.{is_fixed}
use Rattle.xp_board.specs.Settling.{demand_in, demand_out}
use Rattle.xp_board.specs.CellSteps.{keeps_demand}
use Rattle.xp_board.specs.Reach.{reached_by, cached, walked}
use Rattle.xp_board.specs.Sound.{Sound}
use Rattle.step_effects.proofs.ActEffects.{Exchanged, Rewrote}
use Rattle.found_rule.proofs.Growth.{Grown, added}
use Rattle.found_rule.proofs.Learning.{Act, act}
use Rattle.found_rule.proofs.WordsOf.{CellSpared, words_cell}
use Rattle.found_rule.proofs.KnownFacts.{RefRight, TypedRight, IsLiveAs}
use Rattle.found_rule.proofs.KnownStays.{owner_new, live_found, partial_found}
use Rattle.found_rule.proofs.Demands.{RefsMoved, same_rest, then_moved, moved_out, moved_in}
use Rattle.found_rule.proofs.Serving.{PassesOn}
use Rattle.found_rule.proofs.CellReach.{came_reach, cell_passes, came_table}
use Rattle.found_rule.proofs.CellFacts.{lock_type, lock_table, live_alone, spared_alone, fix_none, zero_none}
use Rattle.found_rule.proofs.MyHand.{refs_old, typed_old}
use Rattle.found_rule.proofs.RestLaw.{rest_done, rest_of}
use Rattle.found_rule.proofs.Quiet.{Done}
use Rattle.xp_board.proofs.EntryAsks.{walked_inside}
use Rattle.xp_board.proofs.HandLists.{first-some}
use Rattle.xp_board.proofs.Works.{only_my_lock}
use Rattle.xp_board.proofs.KindForms.{live_unmarked, table_levels}
use Rattle.xp_board.proofs.LockFacts.{lock_facts, rewritten_same}
use Rattle.xp_board.proofs.HandTypes.{refs_out, typed_out, refs_in, typed_in}
use Rattle.xp_board.proofs.CountsDown.{lock_live, lock_some}
use Rattle.xp_board.proofs.Serving.{AsksLive, target_serves, recorded_asks, asks_hand}

module _ (n : Machine) (s : ℕ) (x : Step) (m m2 : Place → ℕ) (b c : ℕ → Holdings) (l : s < (sizes_of n).vcpus) (sound : Sound n m b) (others : (t : ℕ) → t ≢ s → c t ≡ b t) (f i : ℕ) where
  -- ---- an act on a cell that moves references alone
  pub cell_done : (u : Holdings) → Act n s (Cell f i) m m2 (b s) u (c s) → RefsMoved (b s) u → ((t : ℕ) → t < (sizes_of n).vcpus → t ≢ s → CellSpared m m2 f i (b t)) →
      ((v : ℕ) → v < (sizes_of n).vcpus → PassesOn n m m2 b v f i) →
      EachOf (λ e. (j : ℕ) → Cell f i ≡ Cell e.frame j → j < e.fixed → IsTrue (is_fixed (m2 (Cell f i)))) (b s).works →
      EachOf (λ e. (j : ℕ) → Cell f i ≡ Cell e.frame j → j < e.scrubbed → m2 (Cell f i) ≡ 0) (b s).claimed →
      (EachOf (RefRight (sizes_of n) m2 (c s).steps) (b s).refs → EachOf (RefRight (sizes_of n) m2 (c s).steps) u.refs) →
      (EachOf (TypedRight (sizes_of n) m2 (c s).steps) (b s).typed → EachOf (TypedRight (sizes_of n) m2 (c s).steps) u.typed) → Done n s m m2 b c
  cell_done u acted moved spared passes fix zeros refs typed =
      let p = Cell f i in
      let o = acted.others in
      let words = words_cell n s m m2 b sound f i o spared in
      let reach = came_reach n s m m2 b c u sound others acted.learned.cache acted.learned.walk (cell_passes n m m2 b sound f i o passes)
      (λ y k. inl (cached y (subst (λ xs. Member y xs) moved.cache k))) (λ y k. inl (walked y (subst (λ w. Member y (reached_by w)) moved.walk k))) in
      rest_done n s p m m2 b c u acted l sound others
      (rest_of (b s) u moved)
      (λ g. o (Kind g) (λ e. cc)) (λ g. o (Refs g) (λ e. cc)) words reach fix zeros (λ v. o (flushed_of v) (λ e. cc)) (λ v. o (run_of v) (λ e. cc))
      (refs (refs_old n s p m m2 b c u acted l sound words reach)) (typed (typed_old n s p m m2 b c u acted l sound words reach))
      (let g = (sound.formed s l).cache in record { few = rw (moved.cache) g.few; walk = λ y t. g.walk y (sym moved.walk ∙ t) })

  -- ---- a table under the own lock
  module _ (e : Lock) (here : lock_on f (b s).locks ≡ Some e) where
    some : 0 < locks_on f (b s).locks
    some = first-some (λ y. y.frame) f e (b s).locks here

    live : ((kind_at m f).validated ≡ true) × (0 < (kind_at m f).number)
    unfolding some
    live = (lock_live n m b sound s l f some, lock_some n m b sound s l f some)

    alone : (t : ℕ) → t < (sizes_of n).vcpus → (works_on f (b t).works ≡ 0) × (claims_of f (b t).claimed ≡ 0)
    unfolding live
    alone t k = live_alone n m b sound f live.0 live.1 t k

    lock_spares : (t : ℕ) → t < (sizes_of n).vcpus → t ≢ s → CellSpared m m2 f i (b t)
    unfolding some alone
    lock_spares t k d =
        let q = alone t k in
        spared_alone n m b sound f m2 i t q.0 q.1 (λ have. absurd (let y = only_my_lock n m b sound.alone f s t l k d some in omega arith))

    -- the new entry asks what is there
    lock_passes : AsksLive m (demand_at e.kind i (m2 (Cell f i))) → (v : ℕ) → v < (sizes_of n).vcpus → PassesOn n m m2 b v f i
    unfolding live
    lock_passes asks v k level came walks present inside =
        let table = came_table n m b sound v f level k (live_unmarked n m f sound.spelled live.0) came in
        inr (inl (target_serves m e.kind level i (m2 (Cell f i)) table.1 (sym (ap type_number (lock_type n m b sound f s l e here)) ∙ table.0) walks present asks))

    lock_done : (u : Holdings) → Act n s (Cell f i) m m2 (b s) u (c s) → RefsMoved (b s) u → ((v : ℕ) → v < (sizes_of n).vcpus → PassesOn n m m2 b v f i) →
        (EachOf (RefRight (sizes_of n) m2 (c s).steps) (b s).refs → EachOf (RefRight (sizes_of n) m2 (c s).steps) u.refs) →
        (EachOf (TypedRight (sizes_of n) m2 (c s).steps) (b s).typed → EachOf (TypedRight (sizes_of n) m2 (c s).steps) u.typed) → Done n s m m2 b c
    unfolding alone
    lock_done u acted moved passes refs typed =
        let q = alone s l in
        cell_done u acted moved lock_spares passes (fix_none n m b sound f m2 i s q.0) (zero_none n m b sound f m2 i s q.1) refs typed

    -- the recorded entry
    stood_asks : i < 512 → AsksLive m (demand_at e.kind i (m (Cell f i)))
    unfolding some live
    stood_asks inside =
        let kind = lock_type n m b sound f s l e here in
        let levels = table_levels (kind_at m f).kind (lock_table n m b sound f s l some) in
        let old : AsksLive m (demand_at (kind_at m f).kind i (m (Cell f i))) = recorded_asks n m b sound f i inside live.0 live.1 levels.0 levels.1 in
        subst (λ t. AsksLive m (demand_at t i (m (Cell f i)))) kind old

    -- the same demand as that of the recorded entry
    same_asks : IsTrue (keeps_demand e i (m2 (Cell f i))) → i < 512 → AsksLive m (demand_at e.kind i (m2 (Cell f i)))
    unfolding live
    same_asks same inside =
        let k = lock_facts n m b s f e sound l here in
        let asks = rewritten_same n m b s f i (m2 (Cell f i)) e k same in
        let levels = table_levels (kind_at m f).kind k.table in
        let old = recorded_asks n m b sound f i inside live.0 live.1 levels.0 levels.1 in
        subst (λ d. AsksLive m d) (sym asks ∙ ap (λ t. demand_at t i (m2 (Cell f i))) k.kind) old

  inside_of : Exchanged n x f i m m2 (b s) (c s) → i < 512
  unfolding is_place
  inside_of d = let real = d.wrote.real in grind (arith, nat_tests)

  -- the frame that the old entry types is live
  old_live : (d : Exchanged n x f i m m2 (b s) (c s)) (g : ℕ) (t : PageType) → demand_at d.e.kind i (m (Cell f i)) ≡ Typed g t → IsLiveAs m2 g t
  old_live d g t asks =
      let same : m2 (Kind g) ≡ m (Kind g) = d.wrote.others (Kind g) (λ e. cc) in
      let old = subst (λ q. AsksLive m q) asks (stood_asks d.e d.here (inside_of d)) in
      (subst (λ w. IsTrue (kind_fields w).validated) (sym same) (rw old.0 refl), ap (λ w. (kind_fields w).kind) same ∙ old.2)

  pub exchanged_done : Exchanged n x f i m m2 (b s) (c s) → Done n s m m2 b c
  exchanged_done d =
      let w = d.wrote in
      let z = sizes_of n in
      let p = Cell f i in
      let out = demand_at d.e.kind i (m2 p) in
      let come = demand_at d.e.kind i (m p) in
      let gone = demand_out out (b s) in
      let u = demand_in true come gone in
      let moved = then_moved (b s) gone u (moved_out out (b s)) (moved_in true come gone) in
      let acted = act n s x p m m2 (b s) u (c s) w.place w.real w.left w.others moved.steps moved.run moved.old0 moved.old1 d.hand in
      let grown : Grown z m m2 (b s).steps (c s).steps = added acted.made p acted.added acted.steps in
      let same : length gone.steps ≡ length (b s).steps = ap length (moved_out out (b s)).steps in
      lock_done d.e d.here u acted moved (lock_passes d.e d.here (asks_hand n m b sound f s l d.e.kind out d.may))
      (λ h.
      refs_in true (RefRight z m2 (c s).steps) come gone (λ g. owner_new z m m2 (b s).steps (c s).steps grown g (length gone.steps) (omega arith))
      (refs_out (RefRight z m2 (c s).steps) out (b s) h))
      (λ h.
      typed_in true (TypedRight z m2 (c s).steps) come gone
      (λ g t asks. record {
        owner = owner_new z m m2 (b s).steps (c s).steps grown g (length gone.steps) (omega arith);
        live = live_found z m m2 (b s).steps (c s).steps grown g t (old_live d g t asks);
        partial = partial_found z m m2 (b s).steps (c s).steps grown g;
      })
      (typed_out (TypedRight z m2 (c s).steps) out (b s) h))

  pub rewrote_done : Rewrote n x f i m m2 (b s) (c s) → Done n s m m2 b c
  rewrote_done d =
      let w = d.wrote in
      let p = Cell f i in
      let acted = act n s x p m m2 (b s) (b s) (c s) w.place w.real w.left w.others refl refl refl refl d.hand in
      lock_done d.e d.here (b s) acted (same_rest (b s) (b s) refl)
      (λ v k level came walks present inside. lock_passes d.e d.here (same_asks d.e d.here d.same (walked_inside level i walks)) v k level came walks present inside) (λ h. h) (λ h. h)
