-- A descriptor page in the own works, and what the steps on its words leave.
use Rattle.std.specs.Prelude.{◌≡◌, ◌≢◌, ℕ, ◌+◌, ◌<◌, true, false, List, [], ◌∷◌, Some, None, Result, Ok, Err, IsTrue}
use Rattle.xp_words.specs.declared.kind.PageType.TheVariants.{Desc}
use Rattle.xp_words.specs.declared.place.Place.TheVariants.{Cell}
use Rattle.xp_words.specs.Entries.{fixed}
use Rattle.xp_words.specs.KindWords.{kind_fields}
use Rattle.xp_board.specs.declared.holdings.Holdings.{Holdings}
use Rattle.xp_board.specs.declared.holdings.Work.{Work}
use Rattle.xp_board.specs.declared.step.Act.TheVariants.{Load, Store}
use Rattle.xp_board.specs.declared.step.StepKind.TheVariants as kinds
use Rattle.xp_board.specs.CellSteps.{MayFix}
use Rattle.xp_board.specs.Hands.{claim_of, lock_on, work_on}
use Rattle.xp_board.specs.Readings.{is_work}
use Rattle.xp_board.specs.Told.{PortValue}
use Rattle.step_maker.specs.Holds.{Holds}
use Rattle.step_maker.specs.Moves.{Moves}
use Rattle.step_maker.specs.Answers.{Deed, Serves}
use Rattle.step_maker.specs.Asked.{Request}
use Rattle.step_maker.specs.Visits.{Visit, visit, Does}
use Rattle.desc_pages.specs.declared.fixing.Unfixed.{Unfixed}

-- ---- the page
-- the work is on a descriptor page, past its flush, of which the first words, so many, are known to be fixed
pub record IsPage (f i : ℕ) (e : Work) : Type 0 where
  pub frame : e.frame ≡ f
  pub work : IsTrue (is_work (kind_fields e.word))
  pub kind : (kind_fields e.word).kind ≡ Desc
  pub unmarked : (kind_fields e.word).unflushed ≡ false
  pub upto : e.fixed ≡ i

-- and it is the newest of the own works; no table is locked, and no frame claimed
pub record IsPageWork (v : PortValue) (f i : ℕ) (e : Work) (rest : List Work) : Type 0 where
  pub page : IsPage f i e
  pub works : v.holdings.works ≡ e ∷ rest
  pub locks : v.holdings.locks ≡ []
  pub claimed : v.holdings.claimed ≡ []

-- the last word that was found there has that fixed form
pub record MayStoreFixed (f i new : ℕ) (h : Holdings) : Type 0 where
  pub work : Work
  pub here : work_on f h.works ≡ Some work
  pub unlocked : lock_on f h.locks ≡ None
  pub unclaimed : claim_of f h.claimed ≡ None
  pub may : MayFix i new work

-- ---- its words
-- Each of the first words, so many, was loaded, and replaced by its fixed form where it was another one; the newest first.
pub data FixesBy (f : ℕ) : ℕ → List Visit → Type 0 where
  none : FixesBy f 0 []
  stands : (i x : ℕ) (vs : List Visit) → fixed x ≡ Some x → FixesBy f i vs → FixesBy f (i + 1) (visit (Cell f i) Load x ∷ vs)
  changes : (i x y old : ℕ) (vs : List Visit) → fixed x ≡ Some y → y ≢ x → FixesBy f i vs → FixesBy f (i + 1) (visit (Cell f i) (Store y) old ∷ visit (Cell f i) Load x ∷ vs)

-- The first words, so many, are fixed now; the frame is in the own works as before, and nothing else in hand changed. A guest sees nothing of it.
pub record Fixes (v w : PortValue) (f i : ℕ) (e : Work) (rest : List Work) : Type 0 where
  pub work : Work
  pub same : work.word ≡ e.word
  pub recorded : work.recorded ≡ e.recorded
  pub since : work.since ≡ e.since
  pub page : IsPage f i work
  pub hand : Holds v w (record v.holdings { works = work ∷ rest })
  pub serves : (u : PortValue) (r : Request) (ds : List Deed) → Serves u v r ds → IsTrue (r.names f) → r.entries ≡ true → Serves u w r ds
  pub visits : Does v w (λ vs. FixesBy f i vs)

-- the next word has no fixed form
pub record Unfixes (v w : PortValue) (f i word : ℕ) (e : Work) (rest : List Work) : Type 0 where
  pub at : PortValue
  pub fixes : Fixes v at f i e rest
  pub looks : Moves at w (Cell f i) Load kinds.Look None word
  pub none : fixed word ≡ None
  pub work : Work
  pub same : work.word ≡ e.word
  pub recorded : work.recorded ≡ e.recorded
  pub since : work.since ≡ e.since
  pub page : IsPage f i work
  pub hand : Holds v w (record v.holdings { works = work ∷ rest })
  pub serves : (u : PortValue) (r : Request) (ds : List Deed) → Serves u v r ds → IsTrue (r.names f) → r.entries ≡ true → Serves u w r ds

abbrev pub FixesAll : PortValue → PortValue → ℕ → Work → List Work → Result (Unit {0}) Unfixed → Type 0
FixesAll v w f e rest (Ok done) = Fixes v w f 512 e rest
FixesAll v w f e rest (Err x) = (x.index < 512) × Unfixes v w f x.index x.word e rest

-- ---- one word
pub data WordBy (f i : ℕ) (vs : List Visit) : Type 0 where
  stood : (x : ℕ) → fixed x ≡ Some x → vs ≡ visit (Cell f i) Load x ∷ [] → WordBy f i vs
  changed : (x y old : ℕ) → fixed x ≡ Some y → y ≢ x → vs ≡ visit (Cell f i) (Store y) old ∷ visit (Cell f i) Load x ∷ [] → WordBy f i vs

pub record FixesWord (v w : PortValue) (f i : ℕ) (e : Work) (rest : List Work) : Type 0 where
  pub work : Work
  pub same : work.word ≡ e.word
  pub recorded : work.recorded ≡ e.recorded
  pub since : work.since ≡ e.since
  pub page : IsPage f (i + 1) work
  pub hand : Holds v w (record v.holdings { works = work ∷ rest })
  pub serves : (u : PortValue) (r : Request) (ds : List Deed) → Serves u v r ds → IsTrue (r.names f) → r.entries ≡ true → Serves u w r ds
  pub visits : Does v w (λ vs. WordBy f i vs)

pub record UnfixesWord (v w : PortValue) (f i word : ℕ) (e : Work) (rest : List Work) : Type 0 where
  pub looks : Moves v w (Cell f i) Load kinds.Look None word
  pub none : fixed word ≡ None
  pub work : Work
  pub same : work.word ≡ e.word
  pub recorded : work.recorded ≡ e.recorded
  pub since : work.since ≡ e.since
  pub page : IsPage f i work
  pub hand : Holds v w (record v.holdings { works = work ∷ rest })
  pub serves : (u : PortValue) (r : Request) (ds : List Deed) → Serves u v r ds → IsTrue (r.names f) → r.entries ≡ true → Serves u w r ds

abbrev pub FixesOne : PortValue → PortValue → ℕ → ℕ → Work → List Work → Result (Unit {0}) Unfixed → Type 0
FixesOne v w f i e rest (Ok done) = FixesWord v w f i e rest
FixesOne v w f i e rest (Err x) = (x.index ≡ i) × UnfixesWord v w f i x.word e rest
