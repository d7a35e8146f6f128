-- What an entry asks, where it is had on the plain value, changes no cell.
use Rattle.std.proofs.Common.{◌≡◌, ℕ, zero, suc, ◌-◌, ◌&&◌, if◌then◌else◌, Bool, true, false, Option, Some, None, refl, ap, ◌∙◌}
use Rattle.xp_words.specs.Machine.{Machine}
use Rattle.xp_words.specs.declared.entry.Demand.{Demand}
use Rattle.xp_words.specs.declared.entry.Demand.TheVariants as demands
use Rattle.xp_words.specs.declared.kind.KindWord.{KindWord}
use Rattle.xp_words.specs.declared.kind.PageType.{PageType}
use Rattle.xp_words.specs.declared.kind.PageType.TheVariants as kinds
use Rattle.xp_board.specs.KindSteps.{raised_kind}
use Rattle.xp_board.specs.Readings.{is_dead, is_type}
use Rattle.kind_words.specs.Kinds.{live_kind, work_kind}
use Rattle.partial_state.specs.Levels.{level_type}
use Rattle.table_law.specs.Alone.{Cause, OtherType, PlainOutcome, back_or, fine, go_on, is_counted, meet, meet_last, refused, take_at, take_kind, take_reference, then_or}
use Rattle.table_law.specs.Levels.{closed, entry_of}
use Rattle.table_law.specs.Plain.{Plain, reference_back, with_kind}
use Rattle.table_law.specs.Release.{drop_first, let_go}
use Rattle.course_laws.proofs.Extras.{referred}

abbrev pub SameCells : Plain → Plain → Type 0
SameCells p q = (g i : ℕ) → q.cells g i ≡ p.cells g i

-- where it is fine
abbrev pub KeepsCells : Plain → PlainOutcome → Type 0
KeepsCells p o = o.refusal ≡ None → SameCells p o.left

-- ---- one behind the other
then_keeps : (p q : Plain) (r : Option Cause) (next : Plain → PlainOutcome) → (r ≡ None → SameCells p q) → ((x : Plain) → KeepsCells x (next x)) → KeepsCells p (go_on r q next)
then_keeps p q None next first later = λ none g i. later q none g i ∙ first refl g i
then_keeps p q (Some c) next first later = λ none. absurd cc

or_keeps : (p q : Plain) (r : Option Cause) (back : Plain → Plain) (next : Plain → PlainOutcome) → (r ≡ None → SameCells p q) → ((x : Plain) → KeepsCells x (next x)) → KeepsCells p (back_or r q back next)
or_keeps p q None back next first later = λ none g i. later q none g i ∙ first refl g i
or_keeps p q (Some c) back next first later = λ none. absurd cc

-- ---- one reference, and one type
reference_keeps : (n : Machine) (owner g : ℕ) (p : Plain) → KeepsCells p (take_reference n owner g p)
reference_keeps n owner g p none h i = ap (λ (o : PlainOutcome). o.left.cells h i) (referred n owner g p none).is

module _ (fill : Plain → PlainOutcome) (fills : (x : Plain) → KeepsCells x (fill x)) (g : ℕ) (t : PageType) (p : Plain) (k : KindWord) where
  kind_by : (d c : Bool) →
      KeepsCells p (if d then then_or (fill (with_kind g (work_kind t false 0) p)) (closed g t) (λ q. fine (with_kind g (live_kind t 1) q)) else if c then fine (with_kind g (raised_kind k) p) else refused (OtherType g t k) (reference_back g p))
  kind_by true c =
      let o = fill (with_kind g (work_kind t false 0) p) in
      or_keeps p o.left o.refusal (closed g t) (λ q. fine (with_kind g (live_kind t 1) q)) (λ none h i. fills (with_kind g (work_kind t false 0) p) none h i) (λ x none h i. refl)
  kind_by false true = λ none h i. refl
  kind_by false false = λ none. absurd cc

  kind_keeps : KeepsCells p (take_kind fill g t p k)
  kind_keeps = kind_by (is_dead k) (is_counted k && is_type k.kind t)

-- ---- entries, and frames by level
module _ (n : Machine) (owner : ℕ) where
  demand_keeps : (below : ℕ → Plain → PlainOutcome) → ((g : ℕ) (x : Plain) → KeepsCells x (below g x)) → (f i : ℕ) (p : Plain) (d : Demand) → KeepsCells p (meet n owner below f i p d)
  demand_keeps below each f i p demands.Nothing = λ none h j. refl
  demand_keeps below each f i p demands.Bad = λ none. absurd cc
  demand_keeps below each f i p (demands.Read g) = reference_keeps n owner g p
  demand_keeps below each f i p (demands.Typed g t) =
      let o = take_reference n owner g p in then_keeps p o.left o.refusal (below g) (reference_keeps n owner g p) (each g)

  last_keeps : (below : ℕ → Plain → PlainOutcome) (drop : ℕ → Plain → Plain) → ((g : ℕ) (x : Plain) → KeepsCells x (below g x)) → (t : PageType) (f k : ℕ) (p : Plain) → KeepsCells p (meet_last n owner below drop t f k p)
  unfolding meet_last
  last_keeps below drop each t f zero p = λ none h i. refl
  last_keeps below drop each t f (suc k) p =
      let o = meet n owner below f (512 - suc k) p (entry_of p t f (512 - suc k)) in
      or_keeps p o.left o.refusal (drop_first drop t f (512 - suc k)) (meet_last n owner below drop t f k) (demand_keeps below each f (512 - suc k) p (entry_of p t f (512 - suc k))) (λ x. last_keeps below drop each t f k x)

  level_keeps : (l g : ℕ) (p : Plain) → KeepsCells p (take_at l n owner g p)
  unfolding take_at
  level_keeps zero g p = kind_keeps fine (λ x none h i. refl) g kinds.Writable p (p.kinds g)
  level_keeps (suc l) g p =
      kind_keeps (meet_last n owner (take_at l n owner) (let_go l) (level_type (suc l)) g 512) (λ x. last_keeps (take_at l n owner) (let_go l) (λ h y. level_keeps l h y) (level_type (suc l)) g 512 x) g (level_type (suc l)) p (p.kinds g)

  pub meet_keeps : (l f i : ℕ) (p : Plain) (d : Demand) → KeepsCells p (meet n owner (take_at l n owner) f i p d)
  meet_keeps l f i p d = demand_keeps (take_at l n owner) (level_keeps l) f i p d
