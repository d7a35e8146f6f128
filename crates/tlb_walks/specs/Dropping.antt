-- Translations that are dropped: all of them by a flush, or those of one page.
use Rattle.std.specs.Prelude.{◌≡◌, ℕ, ◌==◌, nat_lt, not, if◌then◌else◌, Bool, true, false, List, [], Some, None, Result}
use Rattle.xp_words.specs.Places.{asked_of, flushed_of}
use Rattle.xp_words.specs.declared.place.Place.TheVariants.{Clock}
use Rattle.xp_words.specs.declared.reply.Refusal.{Refusal}
use Rattle.xp_board.specs.declared.step.Act.TheVariants.{Load}
use Rattle.xp_board.specs.declared.step.Item.{Item}
use Rattle.xp_board.specs.declared.step.Mark.TheVariants.{Forget, Turn}
use Rattle.xp_board.specs.declared.step.StepKind.TheVariants as kinds
use Rattle.xp_board.specs.Lists.{kept_of}
use Rattle.xp_board.specs.Told.{PortValue}
use Rattle.step_maker.specs.Holds.{FlushedSame}
use Rattle.step_maker.specs.Moves.{Moves}
use Rattle.step_maker.specs.Asked.{Request, of_frame}
use Rattle.step_maker.specs.Visits.{Visit, Only, Where}
use Rattle.flush_words.specs.Flushing.{FlushesOwn}
use Rattle.tlb_walks.specs.Addresses.{is_canonical, page_of}

-- a call that ends with a flush of its own
abbrev pub of_flush : Request
of_flush = record (of_frame 0 0 None) { names = λ f. false; flushes = true }

-- none is left, and the vCPU may use translations again; all else in hand is as before
pub record Uncached (v w : PortValue) : Type 0 where
  pub hand : FlushedSame v w
  pub cache : w.holdings.cache ≡ []
  pub warm : w.holdings.cold ≡ false

-- ---- an ask is answered
-- the own translations are flushed where the vCPU was asked to, past the clock value to which they are flushed; where the
-- clock is at its end the ask stays unanswered
abbrev pub Heeds : Bool → PortValue → PortValue → Type 0
Heeds true v w = w ≡ v
Heeds false v w = (answer : Result (Unit {0}) Refusal) × FlushesOwn v w answer

-- By exactly these steps: the word that says what the vCPU is asked is loaded, with the mark of a turn, and the one to which it is
-- flushed; and the ask is heeded.
pub record Acks (v w : PortValue) : Type 0 where
  pub a : PortValue
  pub b : PortValue
  pub asked : ℕ
  pub flushed : ℕ
  pub marked : Moves v a (asked_of v.post.vcpu) Load kinds.Look (Some Turn) asked
  pub looked : Moves a b (flushed_of v.post.vcpu) Load kinds.Look None flushed
  pub heeds : Heeds (nat_lt asked flushed) b w

-- ---- one page
-- the translations without those of the page of a canonical address
abbrev pub left_cached : ℕ → List Item → List Item
left_cached va xs = if is_canonical va then kept_of (λ x. not (x.page == page_of va)) xs else xs

-- by one load, of the clock, that is marked so
abbrev pub ForgetsBy : ℕ → List Visit → Type 0
ForgetsBy page vs = (found : ℕ) × Only (record { place = Clock; act = Load; kind = kinds.Look; mark = Some (Forget page); found = found }) vs

abbrev pub Invalidates : ℕ → List Visit → Type 0
Invalidates va vs = Where (is_canonical va) (ForgetsBy (page_of va)) vs
