-- Stores into a frame that is claimed, a descriptor page in the own work, and ordinary memory by a typed reference.
use Rattle.std.proofs.Common.{◌≡◌, ◌≢◌, ℕ, ◌<◌, ◌≤◌, ◌==◌, ◌&&◌, false, Option, Some, None, IsTrue, refl, sym, ap, ◌∙◌, ◌⊎◌, inl, inr, arith}
use Rattle.std.proofs.lemmas.Bool.{and_left}
use Rattle.xp_words.specs.declared.kind.PageType.{PageType}
use Rattle.xp_words.specs.declared.kind.PageType.TheVariants as kinds
use Rattle.xp_words.specs.PageTypes.{type_number}
use Rattle.xp_words.specs.Entries.{fixed}
use Rattle.xp_words.specs.KindWords.{kind_fields}
use Rattle.xp_words.specs.Machine.{Machine}
use Rattle.xp_words.specs.declared.place.Place.{Place}
use Rattle.xp_words.specs.declared.place.Place.TheVariants.{Refs, Cell}
use Rattle.xp_words.specs.Places.{sizes_of}
use Rattle.xp_board.specs.declared.step.Step.{Step}
use Rattle.xp_board.specs.declared.holdings.Claimed.{Claimed}
use Rattle.xp_board.specs.declared.holdings.Work.{Work}
use Rattle.xp_board.specs.declared.holdings.Holdings.{Holdings}
use Rattle.xp_board.specs.Readings.{kind_at, is_locked, ref_count, type_count}
use Rattle.xp_board.specs.Hands.{works_on, work_on, claims_of, claim_of}
use Rattle.xp_board.specs.After.{is_fixed}
use Rattle.xp_board.specs.CellSteps.{AllowsPlain, MayFix, MayWrite}
use Rattle.xp_board.specs.Found.{WorkFound}
use Rattle.xp_board.specs.Reach.{Table}
use Rattle.xp_board.specs.Sound.{Sound}
use Rattle.step_effects.proofs.ActEffects.{Filled}
use Rattle.found_rule.proofs.Learning.{Act, act}
use Rattle.found_rule.proofs.Demands.{same_rest}
use Rattle.found_rule.proofs.CellReach.{unreached_passes, came_table}
use Rattle.found_rule.proofs.CellFacts.{uncounted_works, uncounted_locks, lock_table, live_alone, spared_alone, fix_none, zero_none}
use Rattle.found_rule.proofs.CellSteps.{cell_done}
use Rattle.found_rule.proofs.Quiet.{Done}
use Rattle.xp_board.proofs.CellAlike.{not_reads}
use Rattle.xp_board.proofs.KindReadings.{live_count, work_unlive, busy_cases}
use Rattle.xp_board.proofs.HandLists.{EachOf-all, EachOf-first, first-key, first-some}
use Rattle.xp_board.proofs.Counted.{type_below}
use Rattle.xp_board.proofs.Works.{is_busy-mine, is_dying-mine, nobody_locks, counted_alive, only_mine, only_my_ending}
use Rattle.xp_board.proofs.KindForms.{live_unmarked, table_levels}
use Rattle.xp_board.proofs.RefForms.{dying_uncounted}
use Rattle.xp_board.proofs.EntryWords.{fixed_by}
use Rattle.found_rule.proofs.SoundWords.{typed_ref_counted}

module _ (n : Machine) (s : ℕ) (x : Step) (m m2 : Place → ℕ) (b c : ℕ → Holdings) (l : s < (sizes_of n).vcpus) (sound : Sound n m b) (others : (t : ℕ) → t ≢ s → c t ≡ b t) (f i : ℕ)
    (acted : Act n s (Cell f i) m m2 (b s) (b s) (c s)) where
  -- ---- a claimed frame
  claim_filled : (k : Claimed) → claim_of f (b s).claimed ≡ Some k → m2 (Cell f i) ≡ 0 → Done n s m m2 b c
  claim_filled k here zero =
      let some : 0 < claims_of f (b s).claimed = first-some (λ y. y.frame) f k (b s).claimed here in
      let none : ref_count (m (Refs f)) ≡ 0 = dying_uncounted (m (Refs f)) (is_dying-mine n m b sound.alone f s l (omega arith)) in
      cell_done n s x m m2 b c l sound others f i (b s) acted (same_rest (b s) (b s) refl)
      (λ t r d.
      spared_alone n m b sound f m2 i t (uncounted_works n m b sound f none t r) (let q = only_my_ending n m b sound.alone f s t l r d (omega arith) in omega arith)
      (λ have. absurd (let q = uncounted_locks n m b sound f none t r in omega arith)))
      (λ v r. unreached_passes n m m2 b f i v
      (λ level came. elim came [
        | inl reach ↦ (let q = (sound.fresh.each v r f (Table level) reach).unclaimed s l in omega arith)
        | inr (inl serves) ↦
            (let live = serves.live (not_reads level) in
            let number = serves.number (not_reads level) in
            let e = live_count (kind_at m f) live in
            let w = type_below (sizes_of n) m b f sound.counts in
            omega arith)
        | inr (inr read) ↦ not_reads level read
      ]))
      (fix_none n m b sound f m2 i s (uncounted_works n m b sound f none s l)) (EachOf-all (λ e. (j : ℕ) → Cell f i ≡ Cell e.frame j → j < e.scrubbed → m2 (Cell f i) ≡ 0) (b s).claimed (λ e j at below. zero))
      (λ h. h) (λ h. h)

  -- ---- a descriptor page in the own work
  work_filled : (e : Work) → work_on f (b s).works ≡ Some e → MayFix i (m2 (Cell f i)) e → Done n s m m2 b c
  work_filled e here may =
      let some : 0 < works_on f (b s).works = first-some (λ y. y.frame) f e (b s).works here in
      let frame = first-key (λ y. y.frame) f e (b s).works here in
      let found = EachOf-first (WorkFound n m b (b s)) (λ y. y.frame) f e (b s).works (sound.found s l).works here in
      let word : kind_at m f ≡ kind_fields e.word = ap (λ g. kind_at m g) (sym frame) ∙ ap kind_fields found.word in
      let unlive : (kind_at m f).validated ≡ false = ap (λ y. y.validated) word ∙ work_unlive (kind_fields e.word) may.work in
      let count : type_count (kind_at m f) ≡ 1 = (elim (busy_cases (kind_at m f) (is_busy-mine n m b sound.alone f s l some)) [ inl work ↦ work.1 | inr closing ↦ absurd (let q = closing.0 in let r : ((kind_at m f).validated && ((kind_at m f).number == 0)) ≡ false = and_left (kind_at m f).validated ((kind_at m f).number == 0) unlive in cc) ]) in
      let counted : 0 < ref_count (m (Refs f)) = (let w = type_below (sizes_of n) m b f sound.counts in omega arith) in
      let unlocked : is_locked (kind_at m f) ≡ false = and_left (kind_at m f).validated (kind_at m f).locked unlive in
      let unmarked : (kind_at m f).unflushed ≡ false = ap (λ y. y.unflushed) word ∙ may.unmarked in
      let desc : type_number (kind_at m f).kind ≡ 5 = ap (λ y. type_number y.kind) word ∙ ap type_number may.kind in
      cell_done n s x m m2 b c l sound others f i (b s) acted (same_rest (b s) (b s) refl)
      (λ t r d.
      spared_alone n m b sound f m2 i t (only_mine n m b sound.alone f s t l r d some) (let q = counted_alive n m b sound.alone f t r counted in omega arith)
      (λ have. absurd (let q = nobody_locks n m b sound.alone f unlocked t r in omega arith)))
      (λ v r. unreached_passes n m m2 b f i v (λ level came. let q = came_table n m b sound v f level r unmarked came in let a = q.0 in let o = q.1.1 in omega arith))
      (EachOf-all (λ y. (j : ℕ) → Cell f i ≡ Cell y.frame j → j < y.fixed → IsTrue (is_fixed (m2 (Cell f i)))) (b s).works (λ y j at below. fixed_by may.word (m2 (Cell f i)) may.fix))
      (zero_none n m b sound f m2 i s (let q = counted_alive n m b sound.alone f s l counted in omega arith)) (λ h. h) (λ h. h)

  -- ---- ordinary memory
  ordinary_type : (t : PageType) (new : ℕ) → (t ≡ kinds.Writable) ⊎ ((t ≡ kinds.Desc) × (fixed new ≡ Some new)) → 5 ≤ type_number t
  ordinary_type t new (inl writable) = let e = ap type_number writable in omega arith
  ordinary_type t new (inr desc) = let e = ap type_number desc.0 in omega arith

  memory_filled : MayWrite n f (m2 (Cell f i)) (b s) → Done n s m m2 b c
  memory_filled may =
      let is = (sound.found s l).lives f may.kind may.live in
      let number : 0 < (kind_at m f).number = (let a = typed_ref_counted n m b sound s f l may.in_hand in let e = live_count (kind_at m f) is.0 in omega arith) in
      let five : 5 ≤ type_number (kind_at m f).kind = (let a = ordinary_type may.kind (m2 (Cell f i)) may.ordinary in let e = ap type_number is.1 in omega arith) in
      cell_done n s x m m2 b c l sound others f i (b s) acted (same_rest (b s) (b s) refl)
      (λ t r d.
      spared_alone n m b sound f m2 i t (live_alone n m b sound f is.0 number t r).0 (live_alone n m b sound f is.0 number t r).1
      (λ have. absurd (let q = table_levels (kind_at m f).kind (lock_table n m b sound f t r have) in let o = q.1 in omega arith)))
      (λ v r.
      unreached_passes n m m2 b f i v
      (λ level came. let q = came_table n m b sound v f level r (live_unmarked n m f sound.spelled is.0) came in let a = q.0 in let o = q.1.1 in omega arith))
      (fix_none n m b sound f m2 i s (live_alone n m b sound f is.0 number s l).0) (zero_none n m b sound f m2 i s (live_alone n m b sound f is.0 number s l).1) (λ h. h) (λ h. h)

  filled_by : (k : Option Claimed) (e : Option Work) → claim_of f (b s).claimed ≡ k → work_on f (b s).works ≡ e → AllowsPlain n f i (m2 (Cell f i)) (b s) k e → Done n s m m2 b c
  filled_by (Some k) e here at may = claim_filled k here may
  filled_by None (Some e) here at may = work_filled e at may
  filled_by None None here at may = memory_filled may

pub filled_done : (n : Machine) (s : ℕ) (x : Step) (m m2 : Place → ℕ) (b c : ℕ → Holdings) (l : s < (sizes_of n).vcpus) (sound : Sound n m b) (others : (t : ℕ) → t ≢ s → c t ≡ b t) (f i : ℕ) →
    Filled n x f i m m2 (b s) (c s) → Done n s m m2 b c
filled_done n s x m m2 b c l sound others f i d =
    let w = d.wrote in
    filled_by n s x m m2 b c l sound others f i (act n s x (Cell f i) m m2 (b s) (b s) (c s) w.place w.real w.left w.others refl refl refl refl d.hand)
    (claim_of f (b s).claimed) (work_on f (b s).works) refl refl d.may
