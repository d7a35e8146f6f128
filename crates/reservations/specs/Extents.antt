-- One extent of `memory_op`: what it is asked, what it comes to, and in which steps.
use Rattle.std.specs.Prelude.{◌≡◌, ℕ, ◌+◌, ◌*◌, ◌^◌, ◌≤◌, nat_le, Bool, true, false, List, [], Option, Some, None, Result, Ok, Err, IfErr}
use Rattle.xp_words.specs.Machine.{Machine}
use Rattle.xp_words.specs.declared.reply.Refusal.{Refusal}
use Rattle.xp_words.specs.declared.reply.Refusal.TheVariants.{BadRange}
use Rattle.xp_words.specs.declared.reply.Stop.{Stop}
use Rattle.xp_words.specs.declared.reply.Stop.TheVariants.{Refused}
use Rattle.xp_board.specs.Told.{Post, PortValue, is_telling, told_word}
use Rattle.step_maker.specs.Holds.{FlushedSame, Rests}
use Rattle.step_maker.specs.Plain.{Words}
use Rattle.step_maker.specs.Answers.{Deed, Serves, Stops, missed}
use Rattle.step_maker.specs.Asked.{Request, of_block}
use Rattle.step_maker.specs.Visits.{Does, Nothing, Visit}
use Rattle.answer_laws.specs.Alone.{IsAlone}
use Rattle.frame_claims.specs.Blocks.{given_deeds}
use Rattle.frame_claims.specs.Claiming.{IsClaimStop}
use Rattle.frame_claims.specs.Found.{ClaimsBy}
use Rattle.frame_claims.specs.Plain.{ClaimsPlainly}
use Rattle.reservations.specs.declared.extents.Extent.{Extent}
use Rattle.reservations.specs.declared.extents.Extent.TheVariants.{Increase, Decrease, Populate}
use Rattle.reservations.specs.Returning.{DecreasesBy, DecreasesPlainly, EndsAt, IsReturnStop, of_returns, returns_deeds}

-- ---- what is asked
-- a page number of a guest is below 2^52
abbrev pub too_high : ℕ → Bool
too_high gpfn = nat_le (2 ^ 52) gpfn

abbrev pub high_refusal : Bool → Option Refusal
high_refusal true = Some BadRange
high_refusal false = None

-- An extent of so many frames for that owner. One that takes frames takes one aligned block, number `block` of the machine's.
abbrev pub of_extent : ℕ → ℕ → Extent → ℕ → Request
of_extent owner size Increase block = of_block owner size block
of_extent owner size (Decrease first) block = of_returns owner size first
of_extent owner size (Populate gpfn) block = record (of_block owner size block) { by_numbers = high_refusal (too_high gpfn) }

-- ---- what it comes to
-- a block that is given is the one that was taken: aligned, and of the machine
pub record GivesBlock (n : Machine) (size block f : ℕ) : Type 0 where
  pub number : f ≡ block * size
  pub inside : f + size ≤ n.frames

abbrev pub IsBlock : Machine → ℕ → Extent → ℕ → Result (Option ℕ) Stop → Type 0
IsBlock n size (Decrease first) block (Ok None) = Unit {0}
IsBlock n size (Decrease first) block (Ok (Some f)) = ⊥
IsBlock n size _ block (Ok (Some f)) = GivesBlock n size block f
IsBlock n size _ block (Ok None) = ⊥
IsBlock n size _ block (Err e) = Unit {0}

-- the answer without the block
abbrev pub done_by : {A : Type 0} → Result A Stop → Result (Unit {0}) Stop
done_by (Ok a) = Ok tt
done_by (Err e) = Err e

abbrev pub claim_deeds : Machine → ℕ → Result (Option ℕ) Stop → List Deed
claim_deeds n size (Ok (Some f)) = given_deeds f size
claim_deeds n size (Ok None) = []
claim_deeds n size (Err e) = missed n e

abbrev pub extent_deeds : Machine → ℕ → Extent → ℕ → ℕ → Result (Option ℕ) Stop → List Deed
extent_deeds n size (Decrease first) from to answer = returns_deeds n first from to (done_by answer)
extent_deeds n size _ from to answer = claim_deeds n size answer

-- The steps from v to w serve it, for some block, and a guest sees these deeds: its frames given, or those given back.
pub record ServesExtent (owner size : ℕ) (extent : Extent) (from : ℕ) (v : PortValue) (to : ℕ) (w : PortValue) (answer : Result (Option ℕ) Stop) : Type 0 where
  pub block : ℕ
  pub is : IsBlock v.post.machine size extent block answer
  pub serves : Serves v w (of_extent owner size extent block) (extent_deeds v.post.machine size extent from to answer)

-- they show why it stops, for some block
abbrev pub StopsExtent : ℕ → ℕ → Extent → PortValue → PortValue → Stop → Type 0
StopsExtent owner size extent v w e = (block : ℕ) × Stops v w (of_extent owner size extent block) e

abbrev pub IsPopulateStop : Stop → Type 0
IsPopulateStop (Refused BadRange) = Unit {0}
IsPopulateStop e = IsClaimStop e

abbrev pub IsExtentStop : Extent → Stop → Type 0
IsExtentStop Increase e = IsClaimStop e
IsExtentStop (Decrease first) e = IsReturnStop e
IsExtentStop (Populate gpfn) e = IsPopulateStop e

-- how many of its frames are given back; a block has no place within
abbrev pub PlacedBy : ℕ → Extent → ℕ → ℕ → Result (Option ℕ) Stop → Type 0
PlacedBy size (Decrease first) from to answer = EndsAt size from to (done_by answer)
PlacedBy size _ from to answer = to ≡ from

-- ---- in which steps
abbrev pub TakesBy : Post → ℕ → ℕ → Option ℕ → Result (Option ℕ) Stop → List Visit → Type 0
TakesBy q owner size gpfn (Ok (Some f)) vs = ClaimsBy q owner size gpfn (Ok f) vs
TakesBy q owner size gpfn (Ok None) vs = ⊥
TakesBy q owner size gpfn (Err e) vs = ClaimsBy q owner size gpfn (Err e) vs

-- without a step where its number is too high
abbrev pub PopulatesBy : Bool → Post → ℕ → ℕ → ℕ → Result (Option ℕ) Stop → List Visit → Type 0
PopulatesBy true q owner size gpfn answer vs = (answer ≡ Err (Refused BadRange)) × Nothing vs
PopulatesBy false q owner size gpfn answer vs = TakesBy q owner size (Some gpfn) answer vs

abbrev pub ReservesBy : Post → ℕ → ℕ → Extent → ℕ → ℕ → Result (Option ℕ) Stop → List Visit → Type 0
ReservesBy q owner size Increase from to answer vs = TakesBy q owner size None answer vs
ReservesBy q owner size (Decrease first) from to answer vs = DecreasesBy q.machine owner first from to (done_by answer) vs
ReservesBy q owner size (Populate gpfn) from to answer vs = PopulatesBy (too_high gpfn) q owner size gpfn answer vs

-- ---- on a board that tells all words
abbrev pub TakesPlainly : Machine → Words → ℕ → ℕ → Result (Option ℕ) Stop → Type 0
TakesPlainly n m owner size (Ok (Some f)) = ClaimsPlainly n m owner size (Ok f)
TakesPlainly n m owner size (Ok None) = ⊥
TakesPlainly n m owner size (Err e) = ClaimsPlainly n m owner size (Err e)

abbrev pub PopulatesPlainly : Bool → Machine → Words → ℕ → ℕ → Result (Option ℕ) Stop → Type 0
PopulatesPlainly true n m owner size answer = answer ≡ Err (Refused BadRange)
PopulatesPlainly false n m owner size answer = TakesPlainly n m owner size answer

-- a block is the first free one, where nobody else holds anything; frames are given back as the words say
abbrev pub ReservesPlainly : ℕ → ℕ → Extent → ℕ → PortValue → ℕ → PortValue → Result (Option ℕ) Stop → Type 0
ReservesPlainly owner size Increase from v to w answer = IsAlone v → TakesPlainly v.post.machine (told_word v) owner size answer
ReservesPlainly owner size (Decrease first) from v to w answer =
    is_telling v ≡ true → DecreasesPlainly v.post.machine owner first from to (told_word v) w (done_by answer)
ReservesPlainly owner size (Populate gpfn) from v to w answer = IsAlone v → PopulatesPlainly (too_high gpfn) v.post.machine (told_word v) owner size answer

-- ---- all of it
-- From v to w an extent of so many frames was done for that owner, or why not. Of one that gives back, `from` frames were given back before, and `to` are then. Nothing
-- is left in hand.
pub record Reserves (owner size : ℕ) (extent : Extent) (from : ℕ) (v : PortValue) (to : ℕ) (w : PortValue) (answer : Result (Option ℕ) Stop) : Type 0 where
  pub serves : ServesExtent owner size extent from v to w answer
  pub stops : IfErr answer (λ e. StopsExtent owner size extent v w e)
  pub kinds : IfErr answer (IsExtentStop extent)
  pub place : PlacedBy size extent from to answer
  pub hand : FlushedSame v w
  pub rests : Rests w
  pub found : Does v w (λ vs. ReservesBy v.post owner size extent from to answer vs)
  pub plain : ReservesPlainly owner size extent from v to w answer
