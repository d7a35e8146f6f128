-- The steps that a call made, and what they show of its answer.
use Rattle.std.specs.Prelude.{◌≡◌, ◌&&◌, ◌||◌, ◌==◌, nat_lt, not, is_some, if◌then◌else◌, ℕ, Bool, List, [], ◌∷◌, ◌++◌, Option, Some, Result, Ok, Err}
use Rattle.xp_board.specs.declared.step.StepKind.{StepKind}
use Rattle.xp_board.specs.declared.step.StepKind.TheVariants as steps
use Rattle.xp_board.specs.declared.step.Mark.{Mark}
use Rattle.xp_board.specs.declared.step.Mark.TheVariants as marks
use Rattle.xp_words.specs.Machine.{Machine}
use Rattle.xp_words.specs.declared.place.Place.{Place}
use Rattle.xp_words.specs.declared.place.Place.TheVariants.{Clock, Life, Vcpu, Refs, Kind, M2p, Cell, Priv}
use Rattle.xp_words.specs.Places.{place_at, sizes_of}
use Rattle.xp_words.specs.KindWords.{kind_fields}
use Rattle.xp_words.specs.declared.reply.Pause.TheVariants.{Lost}
use Rattle.xp_words.specs.declared.reply.Stop.{Stop}
use Rattle.xp_words.specs.declared.reply.Stop.TheVariants.{Refused, Paused}
use Rattle.xp_board.specs.declared.step.Act.{Act}
use Rattle.xp_board.specs.declared.step.Act.TheVariants.{Cas, Store}
use Rattle.xp_board.specs.declared.holdings.Holdings.{Holdings}
use Rattle.xp_board.specs.Hands.{hand, work_on, lock_on, claim_of, claims_of}
use Rattle.xp_board.specs.Lists.{EachOf}
use Rattle.xp_board.specs.Readings.{allocated_mark, is_context}
use Rattle.xp_board.specs.Told.{PortValue}
use Rattle.step_maker.specs.Moves.{Moment, Ran, Met}
use Rattle.step_maker.specs.Asked.{Request}
use Rattle.step_maker.specs.Finding.{Finding}
use Rattle.step_maker.specs.Licences.{Licensed}
use Rattle.step_maker.specs.Pauses.{PausesFor}
use Rattle.step_maker.specs.Reasons.{HasReason}

-- ---- deeds: the steps that a guest can see; and the exchanges that were lost, of which no answer but that pause has one
pub data Deed : Type 0 where
  -- an entry of a live table is exchanged: the word that was there, and the new one
  SetsEntry : (f i old new : ℕ) → Deed
  -- a cell of ordinary memory, or of a live descriptor page, is stored
  Writes : (f i w : ℕ) → Deed
  SetsM2p : (f w : ℕ) → Deed
  Pins : (f : ℕ) → Deed
  Unpins : (f : ℕ) → Deed
  -- a context word but the two old ones
  SetsWord : (v k w : ℕ) → Deed
  Gives : (f : ℕ) → Deed
  Returns : (f : ℕ) → Deed
  SetsLife : (d w : ℕ) → Deed
  -- which domains that one has privilege over
  SetsPrivilege : (d w : ℕ) → Deed
  -- the translations of a page are dropped
  Forgets : (page : ℕ) → Deed
  -- an answer ends, or a turn begins
  Cuts : (call : ℕ) → Deed
  BeginsTurn : Deed
  -- an exchange there found another word than it expected
  Misses : (p : Place) → Deed

-- the frame is not one that the vCPU works on or claimed
abbrev pub is_apart : ℕ → Holdings → Bool
is_apart f h = not (is_some (work_on f h.works)) && not (is_some (claim_of f h.claimed))

abbrev pub only_if : Bool → Deed → List Deed
only_if b d = if b then d ∷ [] else []

abbrev pub pin_deed : ℕ → Bool → Bool → List Deed
pin_deed f old new = only_if (new && not old) (Pins f) ++ only_if (old && not new) (Unpins f)

abbrev pub is_told_word : ℕ → Bool
is_told_word k = (is_context k || (k == 7)) && not ((k == 2) || (k == 3))

-- by an exchange that found what it expected
abbrev pub exchanged : Place → ℕ → ℕ → List Deed
exchanged (Cell f i) e w = SetsEntry f i e w ∷ []
exchanged (Kind f) e w = pin_deed f (kind_fields e).pinned (kind_fields w).pinned
exchanged (Vcpu v k) e w = only_if (is_told_word k) (SetsWord v k w)
exchanged (Refs f) e w = only_if ((allocated_mark e == 1) && (allocated_mark w == 0)) (Returns f)
exchanged (Life d) e w = SetsLife d w ∷ []
exchanged (Priv d) e w = SetsPrivilege d w ∷ []
exchanged _ e w = []

abbrev pub stored : Place → ℕ → Holdings → List Deed
stored (Cell f i) w h = only_if (is_apart f h) (Writes f i w)
stored (M2p f) w h = only_if (nat_lt 0 (hand f h) || not (nat_lt 0 (claims_of f h.claimed))) (SetsM2p f w)
stored (Vcpu v k) w h = only_if (is_told_word k) (SetsWord v k w)
stored (Refs f) w h = only_if (allocated_mark w == 1) (Gives f)
stored (Life d) w h = SetsLife d w ∷ []
stored _ w h = []

-- a lost exchange; where the clock went on meanwhile, that is as good as the own tick, and a domain that another vCPU destroys is refused
abbrev pub missed_at : Place → List Deed
missed_at Clock = []
missed_at (Life d) = []
missed_at p = Misses p ∷ []

-- a bit that a walk sets is none
abbrev pub exchanged_as : StepKind → Place → ℕ → ℕ → List Deed
exchanged_as steps.Touch p e w = []
exchanged_as _ p e w = exchanged p e w

-- an entry is stored, too; and a store of the guest is one wherever it goes
abbrev pub stored_cell : ℕ → ℕ → ℕ → ℕ → Holdings → List Deed
stored_cell f i found w h = if is_some (lock_on f h.locks) then (SetsEntry f i found w ∷ []) else only_if (is_apart f h) (Writes f i w)

abbrev pub stored_as : StepKind → Place → ℕ → ℕ → Holdings → List Deed
stored_as steps.Guest (Cell f i) found w h = Writes f i w ∷ []
stored_as _ (Cell f i) found w h = stored_cell f i found w h
stored_as _ p found w h = stored p w h

abbrev pub deeds_by : Place → Act → StepKind → ℕ → Holdings → List Deed
deeds_by p (Cas e w) how found h = if found == e then exchanged_as how p e w else missed_at p
deeds_by p (Store w) how found h = stored_as how p found w h
deeds_by p _ how found h = []

-- a mark that is seen: it drops translations, ends an answer or begins a turn
abbrev pub marked_by : Option Mark → List Deed
marked_by (Some (marks.Forget page)) = Forgets page ∷ []
marked_by (Some (marks.Cut call)) = Cuts call ∷ []
marked_by (Some marks.Turn) = BeginsTurn ∷ []
marked_by _ = []

-- the newest first
abbrev pub deeds : List Moment → List Deed
deeds [] = []
deeds (m ∷ ms) = marked_by m.mark ++ (deeds_by m.place m.act m.kind m.found m.hand ++ deeds ms)

-- a call that stops for a lost exchange shows that one, and any other answer of a call shows none: nothing is tried again
abbrev pub missed : Machine → Stop → List Deed
missed n (Paused (Lost place expected found)) = missed_at (place_at (sizes_of n) place)
missed n _ = []

abbrev pub misses : {A : Type 0} → Machine → Result A Stop → List Deed
misses n (Ok a) = []
misses n (Err e) = missed n e

-- ---- pieces
-- From v to w the port made legal steps. A guest sees these deeds of them, and each has its reason in what was asked and
-- in what they found.
pub record Piece (v w : PortValue) (r : Request) (ds : List Deed) (ms : List Moment) : Type 0 where
  pub ran : Ran v ms w
  pub deeds_are : deeds ms ≡ ds
  pub reasons : EachOf (λ m. HasReason v.post.machine v.post.vcpu r (Met v w) m.place m.act m.found m.hand) ms

unfoldable pub Serves : PortValue → PortValue → Request → List Deed → Type 0
Serves v w r ds = (ms : List Moment) × Piece v w r ds ms

-- ---- answers
-- why a call ends otherwise than asked
abbrev pub Causes : Machine → ℕ → Holdings → Request → Finding → Stop → Type 0
Causes n s b r F (Refused x) = Licensed n s b r F x
Causes n s b r F (Paused x) = PausesFor n s r F x

-- what the steps from v to w show of a call that stops
unfoldable pub Stops : PortValue → PortValue → Request → Stop → Type 0
Stops v w r e = Causes v.post.machine v.post.vcpu v.holdings r (Met v w) e
