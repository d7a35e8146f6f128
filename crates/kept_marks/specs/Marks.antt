-- `kept` marks: how one is set on a frame, and taken back where the frame's domain is dying.
use Rattle.std.specs.Prelude.{◌≡◌, ◌≢◌, ◌⊎◌, ℕ, ◌+◌, ◌<◌, false, true, List, [], ◌∷◌, ◌++◌, length, None, Some, IsTrue}
use Rattle.xp_words.specs.KindWords.{kind_write}
use Rattle.xp_words.specs.declared.kind.KindWord.{KindWord}
use Rattle.xp_words.specs.declared.kind.PageType.TheVariants.{Desc}
use Rattle.xp_words.specs.declared.place.Place.TheVariants.{Kind, Life}
use Rattle.xp_board.specs.declared.holdings.Holdings.{Holdings}
use Rattle.xp_board.specs.declared.holdings.OwnerFound.TheVariants as owners
use Rattle.xp_board.specs.declared.holdings.Work.{Work}
use Rattle.xp_board.specs.declared.step.Act.TheVariants.{Cas, Load, Store}
use Rattle.xp_board.specs.declared.step.StepKind.TheVariants as kinds
use Rattle.xp_board.specs.Hands.{work_on}
use Rattle.xp_board.specs.KindSteps.{kept_owner, taken_back}
use Rattle.xp_board.specs.Readings.{domain_of, is_partial}
use Rattle.xp_board.specs.Told.{PortValue}
use Rattle.step_maker.specs.Holds.{Holds, MayWork}
use Rattle.step_maker.specs.Moves.{Met, Moves}
use Rattle.step_maker.specs.Answers.{Deed, Misses, Serves}
use Rattle.step_maker.specs.Asked.{IsAsked, Request}
use Rattle.kind_words.specs.Kinds.{MayLeave, left, looked_at}
use Rattle.table_words.specs.OldWords.{known_old, old_place}
use Rattle.table_words.specs.declared.old_words.OldWord.TheVariants.{First}

-- ---- one mark
abbrev pub unkept_kind : KindWord → KindWord
unkept_kind k = record k { kept = false }

-- a partial descriptor page is never without its mark
abbrev pub IsUnpaged : KindWord → Type 0
IsUnpaged k = k.kind ≢ Desc

-- its reference came into the hand
abbrev pub took_back : ℕ → KindWord → Holdings → Holdings
took_back f k h = taken_back f k (looked_at f (kind_write (unkept_kind k)) h)

-- what is known of the owner by the reference that goes into the mark
abbrev pub IsKeptOf : PortValue → ℕ → ℕ → Type 0
IsKeptOf v f owner = (e : Work) → work_on f v.holdings.works ≡ Some e → kept_owner f e v.holdings ≡ owners.Of owner

-- the frame is another domain's
abbrev pub IsForeign : PortValue → ℕ → Type 0
IsForeign v owner = owner ≢ domain_of v.post.machine v.post.vcpu

-- ---- left with its mark
-- What `leave_kept` asks. Of another domain's frame the first old word is known to name none.
pub record MayLeaveKept (v : PortValue) (f : ℕ) (k : KindWord) (owner : ℕ) : Type 0 where
  pub frame : f < v.post.machine.frames
  pub may : MayWork v
  pub leaves : MayLeave v f k
  pub partial : IsTrue (is_partial k)
  pub kept : k.kept ≡ true
  pub page : IsUnpaged k
  pub known : IsKeptOf v f owner
  pub real : owner < length v.post.machine.page_limit
  pub looked : v.holdings.looking ≡ []
  pub room : IsForeign v owner → known_old First v.holdings ≡ Some 0

-- nothing of it is in hand, nor is a look unfinished; of another domain's frame the first old word may name it
abbrev pub left_kept : PortValue → ℕ → KindWord → Holdings
left_kept v f k = record (left v f k) { looking = [] }

abbrev pub LeavesKept : PortValue → PortValue → ℕ → KindWord → ℕ → Type 0
LeavesKept v w f k owner = Holds v w (left_kept v f k) ⊎ (IsForeign v owner × Holds v w (record (left_kept v f k) { old0 = Some (f + 1) }))

-- Behind any piece in which the frame is asked, and which may take marks off where it is another domain's, the steps serve that piece; an
-- exchange that is to take the mark back may be lost.
pub record ServesMark (u w : PortValue) (r : Request) (f owner : ℕ) (ds : List Deed) : Type 0 where
  pub more : List Deed
  pub hidden : (more ≡ []) ⊎ (IsForeign u owner × (more ≡ Misses (Kind f) ∷ []))
  pub serves : Serves u w r (more ++ ds)

abbrev pub ServesKept : PortValue → PortValue → ℕ → ℕ → Type 0
ServesKept v w f owner =
    (u : PortValue) (r : Request) (ds : List Deed) → Serves u v r ds → IsAsked u.post.machine u.post.vcpu r (Met u v) f → (IsForeign v owner → r.locks ≡ true) → ServesMark u w r f owner ds

-- ---- by its steps
abbrev pub LeftSo : PortValue → PortValue → ℕ → KindWord → Type 0
LeftSo v w f k = (found : ℕ) × Moves v w (Kind f) (Store (kind_write k)) kinds.Kind None found

abbrev pub TakesBack : PortValue → PortValue → ℕ → KindWord → ℕ → Type 0
TakesBack v w f k found = Moves v w (Kind f) (Cas (kind_write k) (kind_write (unkept_kind k))) kinds.Kind None found

-- The own domain's; or its domain was found alive, or was found dying and the mark taken back, or another vCPU had taken that over.
pub data KeptFor (v w : PortValue) (f : ℕ) (k : KindWord) (owner : ℕ) : Type 0 where
  own : owner ≡ domain_of v.post.machine v.post.vcpu → LeftSo v w f k → KeptFor v w f k owner
  alive : (u : PortValue) → IsForeign v owner → LeftSo v u f k → Moves u w (Life owner) Load kinds.Look None 0 → KeptFor v w f k owner
  dying : (u x y : PortValue) (life : ℕ) → IsForeign v owner → LeftSo v u f k → Moves u x (Life owner) Load kinds.Look None life → life ≢ 0 → TakesBack x y f k (kind_write k) →
      Moves y w (old_place v.post.vcpu First) (Store (f + 1)) kinds.Context None 0 → KeptFor v w f k owner
  taken : (u x : PortValue) (life found : ℕ) → IsForeign v owner → LeftSo v u f k → Moves u x (Life owner) Load kinds.Look None life → life ≢ 0 → TakesBack x w f k found →
      found ≢ kind_write k → KeptFor v w f k owner
