-- What holdings are by themselves, beside what they say of the words: they come of a list of steps that were
-- legal on sound words, and so their parts fit one another.
use Rattle.std.specs.Prelude.{◌≡◌, ◌≢◌, ℕ, ◌+◌, ◌-◌, ◌<◌, ◌≤◌, ◌==◌, true, false, List, [], ◌∷◌, length, Option, Some, None, IsTrue}
use Rattle.xp_words.specs.declared.kind.PageType.TheVariants as kinds
use Rattle.xp_words.specs.PageTypes.{is_table}
use Rattle.xp_words.specs.Entries.{is_bit}
use Rattle.xp_words.specs.KindWords.{kind_fields}
use Rattle.xp_words.specs.Machine.{Machine}
use Rattle.xp_words.specs.declared.place.Place.TheVariants.{Kind, Cell}
use Rattle.xp_words.specs.Places.{Sizes, sizes_of, place_at, is_place, run_of, old0_of, old1_of}
use Rattle.xp_board.specs.declared.holdings.Made.{Made}
use Rattle.xp_board.specs.declared.holdings.Seen.{Seen}
use Rattle.xp_board.specs.declared.holdings.Unsettled.{Unsettled}
use Rattle.xp_board.specs.declared.holdings.Work.{Work}
use Rattle.xp_board.specs.declared.holdings.Lock.{Lock}
use Rattle.xp_board.specs.declared.holdings.Looking.{Looking}
use Rattle.xp_board.specs.declared.holdings.Reached.{Reached}
use Rattle.xp_board.specs.declared.holdings.Touching.{Touching}
use Rattle.xp_board.specs.declared.holdings.Walk.{Walk}
use Rattle.xp_board.specs.declared.holdings.Holdings.{Holdings}
use Rattle.xp_board.specs.FillSteps.{is_walked}
use Rattle.xp_board.specs.Lists.{times, EachOf}
use Rattle.xp_board.specs.Steps.{last_since, some_before}
use Rattle.xp_board.specs.Readings.{is_partial, domain_of}
use Rattle.xp_board.specs.Hands.{endings_of, claims_of}

-- ---- frames in work and under a lock
-- what is noted of a cell is the word last found or left there
abbrev pub SeenIs : Sizes → ℕ → ℕ → List Made → Option Seen → Type 0
SeenIs z n f steps (Some s) = last_since z n (Cell f s.index) steps ≡ Some s.word
SeenIs z n f steps None = Unit {0}

abbrev pub LastIs : Sizes → Work → List Made → Option Unsettled → Type 0
LastIs z e steps (Some u) = (w : ℕ) → u.word ≡ Some w → last_since z e.unmarked (Cell e.frame (e.recorded - 1)) steps ≡ Some w
LastIs z e steps None = Unit {0}

pub record IsWorkFormed (n : Machine) (u : Holdings) (e : Work) : Type 0 where
  pub recorded : e.recorded ≤ 512
  pub none : is_table (kind_fields e.word).kind ≡ false → e.recorded ≡ 0
  pub marked : (kind_fields e.word).unflushed ≡ true → e.seen ≡ None
  pub seen : SeenIs (sizes_of n) e.unmarked e.frame u.steps e.seen
  pub last : LastIs (sizes_of n) e u.steps e.unsettled
  pub unsettled : (x : Unsettled) → e.unsettled ≡ Some x → (0 < e.recorded) × (x.since ≤ length u.steps)
  pub was_found : (kind_fields e.word).unflushed ≡ true → IsTrue (some_before (sizes_of n) e.since (Kind e.frame) (λ w. w == e.word) u.steps)
  pub fixed : 0 < e.fixed → ((kind_fields e.word).unflushed ≡ false) × ((kind_fields e.word).kind ≡ kinds.Desc)
  pub order : e.since ≤ e.unmarked
  pub past : e.unmarked ≤ length u.steps

pub record IsLockFormed (n : Machine) (u : Holdings) (e : Lock) : Type 0 where
  pub table : IsTrue (is_table e.kind)
  pub seen : SeenIs (sizes_of n) e.since e.frame u.steps e.seen
  pub past : e.since ≤ length u.steps

-- ---- frames ending and claimed
-- a raised frame is one of them, once
pub record IsRaisedFormed (u : Holdings) : Type 0 where
  pub held : (f : ℕ) → times f u.raised ≤ endings_of f u.ending + claims_of f u.claimed

-- ---- looking
-- a frame of another domain, partial and kept
pub record IsLookingFormed (n : Machine) (s : ℕ) (e : Looking) : Type 0 where
  pub other : e.owner ≢ domain_of n s
  pub partial : IsTrue (is_partial (kind_fields e.word))
  pub kept : (kind_fields e.word).kept ≡ true

-- ---- walks and the cache
-- the tables of a walk, the last one first, from that level up to the top
abbrev pub IsDescent : ℕ → List Reached → Type 0
IsDescent level [] = level ≡ 5
IsDescent level (x ∷ xs) = (x.level ≡ level) × IsDescent (level + 1) xs

-- the entry whose bits the walk has still to set: a present one of the table reached last
pub record IsTouchFormed (walk : Walk) (x : Reached) (t : Touching) : Type 0 where
  pub frame : t.frame ≡ x.table
  pub walked : IsTrue (is_walked x.level t.index)
  pub present : IsTrue (is_bit 0 t.word)
  pub writable : walk.writable ≡ true → IsTrue (is_bit 1 t.word)

abbrev pub TouchesIn : Walk → List Reached → Option Touching → Type 0
TouchesIn walk (x ∷ xs) (Some t) = IsTouchFormed walk x t
TouchesIn walk _ None = Unit {0}
TouchesIn walk [] (Some t) = ⊥

pub record IsWalkFormed (walk : Walk) : Type 0 where
  pub level : ℕ
  pub low : 1 ≤ level
  pub high : level ≤ 4
  pub descent : IsDescent level walk.reached
  pub touching : TouchesIn walk walk.reached walk.touching

pub record IsCacheFormed (u : Holdings) : Type 0 where
  pub few : length u.cache ≤ 64
  pub walk : (walk : Walk) → u.walk ≡ Some walk → IsWalkFormed walk

-- ---- the own words
-- what is noted is the word last found or left there
pub record IsOwnFormed (n : Machine) (s : ℕ) (u : Holdings) : Type 0 where
  pub run : u.run ≡ last_since (sizes_of n) 0 (run_of s) u.steps
  pub old0 : u.old0 ≡ last_since (sizes_of n) 0 (old0_of s) u.steps
  pub old1 : u.old1 ≡ last_since (sizes_of n) 0 (old1_of s) u.steps

-- ---- all of it
pub record WellFormed (n : Machine) (s : ℕ) (u : Holdings) : Type 0 where
  pub works : EachOf (IsWorkFormed n u) u.works
  pub locks : EachOf (IsLockFormed n u) u.locks
  pub ending : EachOf (λ e. e.since ≤ length u.steps) u.ending
  pub claimed : EachOf (λ e. e.since ≤ length u.steps) u.claimed
  pub raised : IsRaisedFormed u
  pub looking : EachOf (IsLookingFormed n s) u.looking
  pub cache : IsCacheFormed u
  pub own : IsOwnFormed n s u
  pub places : EachOf (λ x. IsTrue (is_place (sizes_of n) (place_at (sizes_of n) x.step.place))) u.steps
  pub turn : u.turn ≤ length u.steps
  pub acked : u.acked ≤ length u.steps
  pub ran : u.ran ≤ length u.steps
