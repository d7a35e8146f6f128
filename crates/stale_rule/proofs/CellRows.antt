-- Fresh after a store into a cell that no vCPU reads as an entry.
use Rattle.std.proofs.Common.{◌≡◌, ℕ, ◌<◌, ◌≤◌, inl, inr, false, refl, sym, ◌∙◌, ap, subst, arith, Option, Some, None}
use Rattle.xp_words.specs.PageTypes.{type_number}
use Rattle.xp_words.specs.Machine.{Machine}
use Rattle.xp_words.specs.declared.place.Place.{Place}
use Rattle.xp_words.specs.declared.place.Place.TheVariants.{Cell}
use Rattle.xp_words.specs.Places.{sizes_of}
use Rattle.xp_board.specs.declared.step.Step.{Step}
use Rattle.xp_board.specs.declared.step.StepKind.{StepKind}
use Rattle.xp_board.specs.declared.holdings.Work.{Work}
use Rattle.xp_board.specs.declared.holdings.Claimed.{Claimed}
use Rattle.xp_board.specs.declared.holdings.Holdings.{Holdings}
use Rattle.xp_board.specs.Readings.{kind_at}
use Rattle.xp_board.specs.Hands.{work_on, claim_of}
use Rattle.xp_board.specs.CellSteps.{AllowsPlain}
use Rattle.xp_board.specs.After.{noted, learned_cell}
use Rattle.xp_board.specs.Reach.{Use, Table, Writes, cached, walked}
use Rattle.xp_board.specs.Fresh.{Fresh}
use Rattle.xp_board.specs.Keeping.{Acted}
use Rattle.xp_board.specs.Sound.{Sound}
use Rattle.step_effects.proofs.ActEffects.{Wrote, Filled, GuestStored}
use Rattle.stale_rule.proofs.CameFresh.{Came, came_fresh, came_one}
use Rattle.xp_board.proofs.KindForms.{live_unmarked}
use Rattle.stale_rule.proofs.CellLaw.{written_law}
use Rattle.stale_rule.proofs.FreeRows.{not_claimed}
use Rattle.stale_rule.proofs.Like.{cell_stays}
use Rattle.stale_rule.proofs.StoreRows.{its_word}
use Rattle.xp_board.proofs.ReachAll.{IsLevel, reach_level, written_reach}
use Rattle.xp_board.proofs.CellAlike.{not_reads}

-- ---- elements that pass

module _ (n : Machine) (m : Place → ℕ) (b : ℕ → Holdings) (sound : Sound n m b) where
  came_level : (v g : ℕ) (u : Use) → v < (sizes_of n).vcpus → Came n m b v g u → IsLevel u
  came_level v g u real (inl r) = reach_level n m b sound v g u real r
  came_level v g u real (inr (inl served)) = served.serves.level
  came_level v g u real (inr (inr read)) = subst IsLevel (sym read.0) tt

  -- a frame of another type, unmarked, is no table
  no_table : (v f level : ℕ) → v < (sizes_of n).vcpus → 5 ≤ type_number (kind_at m f).kind → (kind_at m f).unflushed ≡ false → Came n m b v f (Table level) → ⊥
  no_table v f level real high plain came =
      let bounds = came_level v f (Table level) real came in
      let hi = bounds.1 in
      elim ((came_fresh n m b sound v f (Table level) real came).bears.typed (not_reads level)) [
        | inl is ↦ absurd (let e = is.1 in omega arith)
        | inr marked ↦ absurd (let k = marked.0 in cc)
      ]

module _ (n : Machine) (s : ℕ) (x : Step) (m m2 : Place → ℕ) (b c : ℕ → Holdings) (real : s < (sizes_of n).vcpus) (acted : Acted n s x m m2 b c) (sound : Sound n m b) where
  -- a store into a frame that is no table
  pub page_law : (f i : ℕ) (what : StepKind) → Wrote n x (Cell f i) what m m2 (b s) → c s ≡ noted x (m (Cell f i)) (learned_cell f i (m2 (Cell f i)) (b s)) →
      ((v level : ℕ) → v < (sizes_of n).vcpus → Came n m b v f (Table level) → ⊥) → Fresh n m2 c
  page_law f i what wrote hand none =
      let stays = cell_stays f i (m2 (Cell f i)) (b s) in
      written_law n s x f i what m m2 b c (learned_cell f i (m2 (Cell f i)) (b s)) real sound acted.others wrote hand stays.like stays.claims
      (λ k e. inl (cached k (stays.cache k e))) (λ k e. inl (walked k (stays.walk k e)))
      (λ v live level came walked present inside. absurd (none v level live came))

  -- ---- a claimed frame, a descriptor page in work, or ordinary memory
  plain_unread : (f i new : ℕ) (q : Option Claimed) (w : Option Work) → claim_of f (b s).claimed ≡ q → work_on f (b s).works ≡ w → AllowsPlain n f i new (b s) q w →
      (v level : ℕ) → v < (sizes_of n).vcpus → Came n m b v f (Table level) → ⊥
  plain_unread f i new (Some e) w at at2 may v level live came =
      not_claimed f e (b s) ((came_fresh n m b sound v f (Table level) live came).unclaimed s real) at
  plain_unread f i new None (Some e) at at2 may v level live came =
      let word = its_word n s m b real sound f e at2 in
      no_table n m b sound v f level live (subst (λ k. 5 ≤ type_number k.kind) (sym word) (rw may.kind (omega arith)))
      (subst (λ k. k.unflushed ≡ false) (sym word) may.unmarked) came
  plain_unread f i new None None at at2 may v level live came =
      let alive = (sound.found s real).lives f may.kind may.live in
      no_table n m b sound v f level live
      (elim may.ordinary [
        | inl page ↦ (let e = ap type_number (alive.1 ∙ page) in omega arith)
        | inr desc ↦ (let e = ap type_number (alive.1 ∙ desc.0) in omega arith)
      ])
      (live_unmarked n m f sound.spelled alive.0) came

  pub fill_row : (f i : ℕ) → Filled n x f i m m2 (b s) (c s) → Fresh n m2 c
  fill_row f i d = page_law f i _ d.wrote d.hand (plain_unread f i (m2 (Cell f i)) _ _ refl refl d.may)

  -- ---- a store of the guest: it may write the frame, and so no vCPU has it as a table
  pub guest_row : (f i : ℕ) → GuestStored n x f i m m2 (b s) (c s) → Fresh n m2 c
  guest_row f i d =
      let writes = written_reach (sizes_of n) m (b s) f d.may.item in
      page_law f i _ d.wrote d.hand
      (λ v level live came.
      absurd (let e = came_one n m b sound s v f Writes (Table level) real live (inl writes) came (λ e. cc) (not_reads level) in cc))
