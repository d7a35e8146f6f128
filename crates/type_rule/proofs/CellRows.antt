-- Stores into cells that ask the same as before, or that no recorded entry reads: what entries lead to stays.
use Rattle.std.proofs.Common.{◌≡◌, ◌≢◌, ℕ, ◌<◌, ◌≤◌, true, false, Option, Some, None, IsTrue, refl, sym, ◌∙◌, ap, inl, inr, arith}
use Rattle.std.proofs.lemmas.Bool.{cases_Bool}
use Rattle.xp_words.specs.declared.kind.KindWord.{KindWord}
use Rattle.xp_words.specs.declared.kind.PageType.{PageType}
use Rattle.xp_words.specs.declared.kind.PageType.TheVariants as kinds
use Rattle.xp_words.specs.PageTypes.{is_table, type_number}
use Rattle.xp_words.specs.KindWords.{kind_fields}
use Rattle.xp_words.specs.Machine.{Machine}
use Rattle.xp_words.specs.declared.place.Place.{Place}
use Rattle.xp_words.specs.declared.place.Place.TheVariants.{Refs, Cell}
use Rattle.xp_words.specs.Places.{sizes_of}
use Rattle.xp_board.specs.declared.step.Step.{Step}
use Rattle.xp_board.specs.declared.holdings.Work.{Work}
use Rattle.xp_board.specs.declared.holdings.Lock.{Lock}
use Rattle.xp_board.specs.declared.holdings.Claimed.{Claimed}
use Rattle.xp_board.specs.declared.holdings.Holdings.{Holdings}
use Rattle.xp_board.specs.Hands.{lock_on, claim_of, work_on}
use Rattle.xp_board.specs.Readings.{kind_at, ref_count, type_count, is_live, is_work, is_closing}
use Rattle.xp_board.specs.CellSteps.{AllowsPlain}
use Rattle.xp_board.specs.After.{is_fixed}
use Rattle.xp_board.specs.Recorded.{held}
use Rattle.xp_board.specs.Valid.{Valid, Permitted}
use Rattle.xp_board.specs.Sound.{Sound}
use Rattle.xp_board.proofs.KindForms.{live_unmarked}
use Rattle.step_effects.proofs.ActEffects.{Rewrote, Filled}
use Rattle.xp_board.proofs.HandLists.{first-some}
use Rattle.xp_board.proofs.Counted.{type_below}
use Rattle.xp_board.proofs.WorkFacts.{works_facts}
use Rattle.xp_board.proofs.Recordless.{idle_held, closing_counted, closing_busy}
use Rattle.xp_board.proofs.HeldByForm.{held_table}
use Rattle.type_rule.proofs.CellAct.{CellAct, cell_valid, cell_permitted}
use Rattle.xp_board.proofs.LockFacts.{lock_facts, rewritten_same}
use Rattle.xp_board.proofs.Works.{dying_in_hand}
use Rattle.xp_board.proofs.EntryWords.{fixed_by}

-- ---- types
pub desc_no_table : (t : PageType) → t ≡ kinds.Desc → is_table t ≡ true → ⊥
desc_no_table t e h = let k : is_table t ≡ false = rw e refl in cc

writable_no_table : (t : PageType) → t ≡ kinds.Writable → is_table t ≡ true → ⊥
writable_no_table t e h = let k : is_table t ≡ false = rw e refl in cc

pub seven_no_table : (t : PageType) → type_number t ≡ 7 → is_table t ≡ true → ⊥
seven_no_table t e h = let k : is_table t ≡ false = rw e refl in cc

pub level_no_desc : (t : PageType) (l : ℕ) → type_number t ≡ l → l ≤ 4 → t ≡ kinds.Desc → ⊥
level_no_desc t l e few d = let k : type_number t ≡ 5 = rw d refl in absurd (omega arith)

pub seven_no_desc : (t : PageType) → type_number t ≡ 7 → t ≡ kinds.Desc → ⊥
seven_no_desc t e d = let k : type_number t ≡ 5 = rw d refl in absurd (omega arith)

live_closing : (k : KindWord) → IsTrue (is_live k) → type_count k ≡ 0 → is_closing k ≡ false → ⊥
unfolding type_count
live_closing k live none closed = let v : k.number ≡ 0 = (let q = rw live at none in q) in let t : is_closing k ≡ true = rw (live, v) refl in cc

work_not_live : (k : KindWord) → IsTrue (is_work k) → IsTrue (is_live k) → ⊥
work_not_live k work live = let t : is_work k ≡ false = rw live refl in cc

module _ (n : Machine) (s : ℕ) (x : Step) (m m2 : Place → ℕ) (b c : ℕ → Holdings) (real : s < (sizes_of n).vcpus) (sound : Sound n m b)
    (others : (t : ℕ) → t ≢ s → c t ≡ b t) where
  -- a marked frame that is spelled is not live
  pub live_flushed : (f : ℕ) → IsTrue (is_live (kind_at m f)) → (kind_at m f).unflushed ≡ false
  live_flushed f live = live_unmarked n m f sound.spelled live

  -- ---- a table under the own lock
  pub lock_type : (f : ℕ) (e : Lock) → lock_on f (b s).locks ≡ Some e → (kind_at m f).kind ≡ e.kind
  lock_type f e here = (lock_facts n m b s f e sound real here).kind

  pub lock_table : (f : ℕ) (e : Lock) → lock_on f (b s).locks ≡ Some e → is_table (kind_at m f).kind ≡ true
  lock_table f e here = (lock_facts n m b s f e sound real here).table

  rewrote_act : (f i : ℕ) (d : Rewrote n x f i m m2 (b s) (c s)) →
      CellAct n s x m m2 b c real sound others f i d.wrote.others (m2 (Cell f i)) (b s) d.wrote.place d.wrote.left d.hand (record { works = refl; looking = refl; steps = refl })
  rewrote_act f i d =
      record {
        entry = λ l. inl (rewritten_same n m b s f i (m2 (Cell f i)) d.e (lock_facts n m b s f d.e sound real d.here) d.same);
        fixed = λ live desc l. absurd (desc_no_table (kind_at m f).kind desc (lock_table f d.e d.here));
      }

  pub rewrote_valid : (f i : ℕ) → Rewrote n x f i m m2 (b s) (c s) → Valid (sizes_of n) m2 c
  rewrote_valid f i d =
      cell_valid n s x m m2 b c real sound others f i d.wrote.others (m2 (Cell f i)) (b s) d.wrote.place d.wrote.left d.hand (record { works = refl; looking = refl; steps = refl }) (rewrote_act f i d)

  pub rewrote_permitted : (f i : ℕ) → Rewrote n x f i m m2 (b s) (c s) → Permitted n m2 c
  rewrote_permitted f i d =
      cell_permitted n s x m m2 b c real sound others f i d.wrote.others (m2 (Cell f i)) (b s) d.wrote.place d.wrote.left d.hand (record { works = refl; looking = refl; steps = refl }) (rewrote_act f i d)

  -- ---- a frame without a reference has no entries, and is not live
  free_closed : (f : ℕ) → ref_count (m (Refs f)) ≡ 0 → is_closing (kind_at m f) ≡ false
  free_closed f none =
      elim (cases_Bool (is_closing (kind_at m f))) [
        | inr off ↦ off
        | inl on ↦ absurd (let k = closing_counted n m b f sound on (closing_busy (kind_at m f) on) in omega arith)
      ]

  free_held : (f : ℕ) → ref_count (m (Refs f)) ≡ 0 → held (sizes_of n) m b f ≡ 0
  free_held f none =
      let below = type_below (sizes_of n) m b f sound.counts in
      idle_held n m b f sound (omega arith) (free_closed f none)

  free_not_live : (f : ℕ) → ref_count (m (Refs f)) ≡ 0 → IsTrue (is_live (kind_at m f)) → ⊥
  free_not_live f none live =
      let below = type_below (sizes_of n) m b f sound.counts in
      let closed = free_closed f none in
      live_closing (kind_at m f) live (omega arith) closed

  -- ---- a claimed frame, a descriptor page in work, or ordinary memory
  filled_by : (f i : ℕ) (k : Option Claimed) (e : Option Work) → claim_of f (b s).claimed ≡ k → work_on f (b s).works ≡ e → AllowsPlain n f i (m2 (Cell f i)) (b s) k e →
      (i < held (sizes_of n) m b f → ⊥) × (IsTrue (is_live (kind_at m f)) → (kind_at m f).kind ≡ kinds.Desc → IsTrue (is_fixed (m2 (Cell f i))))
  filled_by f i (Some k) e claim work may =
      let some = first-some (λ y. y.frame) f k (b s).claimed claim in
      let none = dying_in_hand n m b sound.alone f s real (omega arith) in
      (λ l. let z = free_held f none in absurd (omega arith), λ live desc. absurd (free_not_live f none live))
  filled_by f i None (Some e) claim work may =
      let k = works_facts n m b s f e sound real work in
      let w : kind_at m f ≡ kind_fields e.word = ap kind_fields k.word in (
        λ l. desc_no_table (kind_at m f).kind (rw w may.kind) (held_table (kind_at m f) _ i l),
        λ live desc. absurd (work_not_live (kind_at m f) (rw w may.work) live),
      )
  filled_by f i None None claim work may =
      let live = (sound.found s real).lives f may.kind may.live in (
        λ l. elim may.ordinary [
          | inl writable ↦ writable_no_table (kind_at m f).kind (live.1 ∙ writable) (held_table (kind_at m f) _ i l)
          | inr desc ↦ desc_no_table (kind_at m f).kind (live.1 ∙ desc.0) (held_table (kind_at m f) _ i l)
        ],
        λ is desc. elim may.ordinary [
          | inl writable ↦ absurd (let e : kinds.Desc ≡ kinds.Writable = sym desc ∙ live.1 ∙ writable in cc)
          | inr fix ↦ fixed_by (m2 (Cell f i)) (m2 (Cell f i)) fix.1
        ],
      )

  pub filled_valid : (f i : ℕ) → Filled n x f i m m2 (b s) (c s) → Valid (sizes_of n) m2 c
  filled_valid f i d =
      let k = filled_by f i (claim_of f (b s).claimed) (work_on f (b s).works) refl refl d.may in
      cell_valid n s x m m2 b c real sound others f i d.wrote.others (m2 (Cell f i)) (b s) d.wrote.place d.wrote.left d.hand (record { works = refl; looking = refl; steps = refl })
      (record { entry = λ l. absurd (k.0 l); fixed = λ live desc l. k.1 live desc })

  pub filled_permitted : (f i : ℕ) → Filled n x f i m m2 (b s) (c s) → Permitted n m2 c
  filled_permitted f i d =
      let k = filled_by f i (claim_of f (b s).claimed) (work_on f (b s).works) refl refl d.may in
      cell_permitted n s x m m2 b c real sound others f i d.wrote.others (m2 (Cell f i)) (b s) d.wrote.place d.wrote.left d.hand (record { works = refl; looking = refl; steps = refl })
      (record { entry = λ l. absurd (k.0 l); fixed = λ live desc l. k.1 live desc })
