-- What the act of a legal step does to the words and to the hand of its vCPU: one record for each row of the
-- table of steps. `b` is the hand that the mark left, `c` the hand after the step.
use Rattle.std.proofs.Common.{◌≡◌, ◌≢◌, ℕ, ◌+◌, ◌-◌, ◌%◌, ◌^◌, ◌<◌, ◌⊎◌, Bool, true, false, Some, None, IsTrue}
use Rattle.xp_words.specs.declared.refs.RefWord.{RefWord}
use Rattle.xp_words.specs.declared.refs.RefWord.TheVariants.{Free, Owned}
use Rattle.xp_words.specs.declared.kind.KindWord.{KindWord}
use Rattle.xp_words.specs.RefWords.{ref_read}
use Rattle.xp_words.specs.KindWords.{kind_read}
use Rattle.xp_words.specs.Entries.{demand_at}
use Rattle.xp_words.specs.Machine.{Machine}
use Rattle.xp_words.specs.declared.place.Place.{Place}
use Rattle.xp_words.specs.declared.place.Place.TheVariants.{Clock, Pages, Life, Vcpu, Refs, Kind, M2p, Cell, Map, Priv}
use Rattle.xp_words.specs.Places.{is_place, sizes_of, ldt_base_of, asked_of, flushed_of, run_of}
use Rattle.xp_board.specs.declared.step.Step.{Step}
use Rattle.xp_board.specs.declared.step.StepKind.{StepKind}
use Rattle.xp_board.specs.declared.step.StepKind.TheVariants as steps
use Rattle.xp_board.specs.declared.holdings.Work.{Work}
use Rattle.xp_board.specs.declared.holdings.Lock.{Lock}
use Rattle.xp_board.specs.declared.holdings.Walk.{Walk}
use Rattle.xp_board.specs.declared.holdings.Holdings.{Holdings}
use Rattle.xp_board.specs.Acts.{left_by}
use Rattle.xp_board.specs.Lists.{with_more, with_fewer}
use Rattle.xp_board.specs.Readings.{kind_at, is_context, last_clock}
use Rattle.xp_board.specs.Hands.{lock_on, locks_on, work_on, claim_of}
use Rattle.xp_board.specs.RefSteps.{MayClaim, MayLower, MayFree, MayGive, took_ref, gave_ref, claimed_frame, freed, given, one_down}
use Rattle.xp_board.specs.KindSteps.{KindRow, kind_row, AllowsKindRow, after_kind_row, still_looking, MayDrop, dropped, unlocked, unlocked_down, Form, form_of, AllowsForm, after_form}
use Rattle.xp_board.specs.Settling.{HasDemand, demand_in, demand_out}
use Rattle.xp_board.specs.CellSteps.{keeps_demand, AllowsPlain}
use Rattle.xp_board.specs.M2pSteps.{MayMap}
use Rattle.xp_board.specs.PagesSteps.{MayRefund}
use Rattle.xp_board.specs.ContextSteps.{MayName, MayEmpty, named_in, named_out}
use Rattle.xp_board.specs.FillSteps.{MayStartWalk, MayWalkOn, started, loaded, walked_by, descended, is_for_write}
use Rattle.xp_board.specs.GuestSteps.{MayStore}
use Rattle.xp_board.specs.TouchSteps.{MayTouch}
use Rattle.xp_board.specs.AskSteps.{MayAsk}
use Rattle.xp_board.specs.AckSteps.{MayAck, after_ack}
use Rattle.xp_board.specs.LifeSteps.{MayBury}
use Rattle.xp_board.specs.RunSteps.{AllowsRun, ran_now}
use Rattle.xp_board.specs.HintSteps.{MayHint, MayUnhint, lowered_frame, raised_frame, raised_by}
use Rattle.xp_board.specs.PrivSteps.{MaySetPrivilege}
use Rattle.xp_board.specs.After.{noted, learned, learned_cell, learned_own, learned_life}
use Rattle.xp_board.specs.Legal.{WritesSpelling, needs_running}
use Rattle.xp_board.specs.Runs.{place_of}

-- ---- loads, and exchanges that found another word
-- A load of the word at p, or an exchange there that found another word: no word changes.
pub record Looked (n : Machine) (s : ℕ) (x : Step) (p : Place) (m m2 : Place → ℕ) (b c : Holdings) : Type 0 where
  pub place : place_of n x ≡ p
  pub real : IsTrue (is_place (sizes_of n) p)
  pub words : (q : Place) → m2 q ≡ m q
  pub left : left_by x.act (m p) ≡ m p
  pub hand : c ≡ noted x (m p) (learned s p (m p) (m p) b)

-- what the records of steps that change the word at p have in common
pub record Wrote (n : Machine) (x : Step) (p : Place) (kind : StepKind) (m m2 : Place → ℕ) (b : Holdings) : Type 0 where
  pub place : place_of n x ≡ p
  pub real : IsTrue (is_place (sizes_of n) p)
  pub kind_is : x.kind ≡ kind
  pub running : IsTrue (needs_running kind) → b.run ≡ Some 0
  pub spelling : WritesSpelling n p x.act
  pub left : left_by x.act (m p) ≡ m2 p
  pub others : (q : Place) → q ≢ p → m2 q ≡ m q

-- ---- a frame's reference word
-- an exchange one up
pub record Raised (n : Machine) (x : Step) (f : ℕ) (m m2 : Place → ℕ) (b c : Holdings) : Type 0 where
  pub wrote : Wrote n x (Refs f) steps.Ref m m2 b
  pub owner : ℕ
  pub allocated : Bool
  pub count : ℕ
  pub below : count < n.limit
  pub was : ref_read (m (Refs f)) ≡ Some (Owned owner allocated count)
  pub is : ref_read (m2 (Refs f)) ≡ Some (Owned owner allocated (count + 1))
  pub hand : c ≡ noted x (m (Refs f)) (took_ref f (m (Refs f)) b)

-- an exchange that clears the allocated mark
pub record Cleared (n : Machine) (x : Step) (f : ℕ) (m m2 : Place → ℕ) (b c : Holdings) : Type 0 where
  pub wrote : Wrote n x (Refs f) steps.Ref m m2 b
  pub owner : ℕ
  pub count : ℕ
  pub was : ref_read (m (Refs f)) ≡ Some (Owned owner true count)
  pub is : ref_read (m2 (Refs f)) ≡ Some (Owned owner false count)
  pub hand : c ≡ noted x (m (Refs f)) (took_ref f (m (Refs f)) b)

-- an exchange from free to dying
pub record Took (n : Machine) (s : ℕ) (x : Step) (f : ℕ) (m m2 : Place → ℕ) (b c : Holdings) : Type 0 where
  pub wrote : Wrote n x (Refs f) steps.Ref m m2 b
  pub stamp : ℕ
  pub left : RefWord
  pub was : ref_read (m (Refs f)) ≡ Some (Free stamp)
  pub is : ref_read (m2 (Refs f)) ≡ Some left
  pub may : MayClaim n s f stamp left b
  pub hand : c ≡ noted x (m (Refs f)) (claimed_frame n s f (m (Refs f)) b)

-- an addition of minus one
pub record Lowered (n : Machine) (x : Step) (f : ℕ) (m m2 : Place → ℕ) (b c : Holdings) : Type 0 where
  pub wrote : Wrote n x (Refs f) steps.Ref m m2 b
  pub may : MayLower f one_down b
  pub is : m2 (Refs f) ≡ (m (Refs f) + one_down) % 2 ^ 64
  pub hand : c ≡ noted x (m (Refs f)) (gave_ref f (m (Refs f)) b)

-- a store of a free word
pub record Freed (n : Machine) (s : ℕ) (x : Step) (f : ℕ) (m m2 : Place → ℕ) (b c : Holdings) : Type 0 where
  pub wrote : Wrote n x (Refs f) steps.Ref m m2 b
  pub stamp : ℕ
  pub is : ref_read (m2 (Refs f)) ≡ Some (Free stamp)
  pub may : MayFree n f stamp b
  pub hand : c ≡ noted x (m (Refs f)) (freed n s f b)

-- a store of an owned word
pub record Gave (n : Machine) (s : ℕ) (x : Step) (f : ℕ) (m m2 : Place → ℕ) (b c : Holdings) : Type 0 where
  pub wrote : Wrote n x (Refs f) steps.Ref m m2 b
  pub owner : ℕ
  pub allocated : Bool
  pub count : ℕ
  pub is : ref_read (m2 (Refs f)) ≡ Some (Owned owner allocated count)
  pub may : MayGive n s f owner allocated count b
  pub hand : c ≡ noted x (m (Refs f)) (given f b)

-- ---- a frame's kind word
-- an exchange, by its row
pub record Turned (n : Machine) (s : ℕ) (x : Step) (f : ℕ) (row : KindRow) (m m2 : Place → ℕ) (b c : Holdings) : Type 0 where
  pub wrote : Wrote n x (Kind f) steps.Kind m m2 b
  pub k : KindWord
  pub l : KindWord
  pub was : kind_read (m (Kind f)) ≡ Some k
  pub is : kind_read (m2 (Kind f)) ≡ Some l
  pub fields_was : kind_at m f ≡ k
  pub fields_is : kind_at m2 f ≡ l
  pub row_is : kind_row k l ≡ row
  pub may : AllowsKindRow row n s f k l b
  pub hand : c ≡ noted x (m (Kind f)) (after_kind_row row f k l (m2 (Kind f)) (record b { looking = still_looking f (m2 (Kind f)) b.looking }))

-- an exchange that found another word: the vCPU does not look at the frame any more, unless the word is that which it left
pub record Missed (n : Machine) (x : Step) (f : ℕ) (m m2 : Place → ℕ) (b c : Holdings) : Type 0 where
  pub place : place_of n x ≡ Kind f
  pub real : IsTrue (is_place (sizes_of n) (Kind f))
  pub kind_is : x.kind ≡ steps.Kind
  pub running : b.run ≡ Some 0
  pub words : (q : Place) → m2 q ≡ m q
  pub left : left_by x.act (m (Kind f)) ≡ m (Kind f)
  pub hand : c ≡ noted x (m (Kind f)) (record b { looking = still_looking f (m (Kind f)) b.looking })

-- a type count is given back
pub record Dropped (n : Machine) (x : Step) (f : ℕ) (m m2 : Place → ℕ) (b c : Holdings) : Type 0 where
  pub wrote : Wrote n x (Kind f) steps.Kind m m2 b
  pub may : MayDrop n f b
  pub is : m2 (Kind f) ≡ (m (Kind f) + one_down) % 2 ^ 64
  pub hand : c ≡ noted x (m (Kind f)) (dropped f (m (Kind f)) (m2 (Kind f)) b)

-- an entry lock is given back, with its type count
pub record Unlocked (n : Machine) (x : Step) (f : ℕ) (m m2 : Place → ℕ) (b c : Holdings) : Type 0 where
  pub wrote : Wrote n x (Kind f) steps.Kind m m2 b
  pub may : 0 < locks_on f b.locks
  pub is : m2 (Kind f) ≡ (m (Kind f) + unlocked_down) % 2 ^ 64
  pub hand : c ≡ noted x (m (Kind f)) (unlocked f (m (Kind f)) (m2 (Kind f)) b)

-- a store by the vCPU that has the frame in work or closing, by the form that it leaves
pub record Stored (n : Machine) (s : ℕ) (x : Step) (f : ℕ) (form : Form) (m m2 : Place → ℕ) (b c : Holdings) : Type 0 where
  pub wrote : Wrote n x (Kind f) steps.Kind m m2 b
  pub e : Work
  pub here : work_on f b.works ≡ Some e
  pub l : KindWord
  pub is : kind_read (m2 (Kind f)) ≡ Some l
  pub fields_is : kind_at m2 f ≡ l
  pub form_is : form_of l ≡ form
  pub may : AllowsForm form n f e l b
  pub hand : c ≡ noted x (m (Kind f)) (after_form form n s f e l (m2 (Kind f)) b)

-- ---- a cell
-- an entry of a table under the own lock: the new demand goes out of the hand, and the old one comes in
pub record Exchanged (n : Machine) (x : Step) (f i : ℕ) (m m2 : Place → ℕ) (b c : Holdings) : Type 0 where
  pub wrote : Wrote n x (Cell f i) steps.Cell m m2 b
  pub e : Lock
  pub here : lock_on f b.locks ≡ Some e
  pub other : keeps_demand e i (m2 (Cell f i)) ≡ false
  pub may : HasDemand n f e.kind b (demand_at e.kind i (m2 (Cell f i)))
  pub hand : c ≡ noted x (m (Cell f i))
      (learned_cell f i (m2 (Cell f i)) (demand_in true (demand_at e.kind i (m (Cell f i))) (demand_out (demand_at e.kind i (m2 (Cell f i))) b)))

-- the same demand as that of the entry that the vCPU last found or left there
pub record Rewrote (n : Machine) (x : Step) (f i : ℕ) (m m2 : Place → ℕ) (b c : Holdings) : Type 0 where
  pub wrote : Wrote n x (Cell f i) steps.Cell m m2 b
  pub e : Lock
  pub here : lock_on f b.locks ≡ Some e
  pub same : IsTrue (keeps_demand e i (m2 (Cell f i)))
  pub hand : c ≡ noted x (m (Cell f i)) (learned_cell f i (m2 (Cell f i)) b)

-- a claimed frame, a descriptor page in the own work, or ordinary memory by a typed reference
pub record Filled (n : Machine) (x : Step) (f i : ℕ) (m m2 : Place → ℕ) (b c : Holdings) : Type 0 where
  pub wrote : Wrote n x (Cell f i) steps.Cell m m2 b
  pub unlocked : lock_on f b.locks ≡ None
  pub may : AllowsPlain n f i (m2 (Cell f i)) b (claim_of f b.claimed) (work_on f b.works)
  pub hand : c ≡ noted x (m (Cell f i)) (learned_cell f i (m2 (Cell f i)) b)

-- a store of the guest through an item of its cache
pub record GuestStored (n : Machine) (x : Step) (f i : ℕ) (m m2 : Place → ℕ) (b c : Holdings) : Type 0 where
  pub wrote : Wrote n x (Cell f i) steps.Guest m m2 b
  pub may : MayStore f b
  pub hand : c ≡ noted x (m (Cell f i)) (learned_cell f i (m2 (Cell f i)) b)

-- ---- the own walk
-- the load of the base that begins a walk
pub record Started (n : Machine) (s : ℕ) (x : Step) (k : ℕ) (m m2 : Place → ℕ) (b c : Holdings) : Type 0 where
  pub place : place_of n x ≡ Vcpu s k
  pub real : IsTrue (is_place (sizes_of n) (Vcpu s k))
  pub kind_is : x.kind ≡ steps.Fill
  pub running : b.run ≡ Some 0
  pub words : (q : Place) → m2 q ≡ m q
  pub left : left_by x.act (m (Vcpu s k)) ≡ m (Vcpu s k)
  pub may : MayStartWalk s s k b
  pub hand : c ≡ noted x (m (Vcpu s k)) (learned_own k (m (Vcpu s k)) (started k (m (Vcpu s k)) (is_for_write x.mark) b))

-- the load of an entry
pub record WentOn (n : Machine) (x : Step) (f i : ℕ) (m m2 : Place → ℕ) (b c : Holdings) : Type 0 where
  pub place : place_of n x ≡ Cell f i
  pub real : IsTrue (is_place (sizes_of n) (Cell f i))
  pub kind_is : x.kind ≡ steps.Fill
  pub running : b.run ≡ Some 0
  pub words : (q : Place) → m2 q ≡ m q
  pub left : left_by x.act (m (Cell f i)) ≡ m (Cell f i)
  pub walk : Walk
  pub may : MayWalkOn f i walk b
  pub hand : c ≡ noted x (m (Cell f i)) (learned_cell f i (m (Cell f i)) (loaded n f i (m (Cell f i)) (walked_by i (m (Cell f i)) walk) b))

-- an exchange that sets the bits of the entry that was loaded last
pub record Touched (n : Machine) (x : Step) (f i : ℕ) (m m2 : Place → ℕ) (b c : Holdings) : Type 0 where
  pub wrote : Wrote n x (Cell f i) steps.Touch m m2 b
  pub walk : Walk
  pub may : MayTouch f i (m (Cell f i)) (m2 (Cell f i)) walk b
  pub hand : c ≡ noted x (m (Cell f i)) (learned_cell f i (m2 (Cell f i)) (descended n walk (m2 (Cell f i)) b))

-- such an exchange that found another word ends the walk
pub record Stumbled (n : Machine) (x : Step) (f i : ℕ) (m m2 : Place → ℕ) (b c : Holdings) : Type 0 where
  pub place : place_of n x ≡ Cell f i
  pub real : IsTrue (is_place (sizes_of n) (Cell f i))
  pub kind_is : x.kind ≡ steps.Touch
  pub running : b.run ≡ Some 0
  pub words : (q : Place) → m2 q ≡ m q
  pub left : left_by x.act (m (Cell f i)) ≡ m (Cell f i)
  pub hand : c ≡ noted x (m (Cell f i)) (learned_cell f i (m (Cell f i)) (record b { walk = None }))

-- ---- other words of a frame, of a domain and of a vCPU
-- the machine-to-physical word
pub record Mapped (n : Machine) (x : Step) (f : ℕ) (m m2 : Place → ℕ) (b c : Holdings) : Type 0 where
  pub wrote : Wrote n x (M2p f) steps.M2p m m2 b
  pub may : MayMap f b
  pub hand : c ≡ noted x (m (M2p f)) b

-- pages are counted for a domain
pub record Charged (n : Machine) (x : Step) (d : ℕ) (m m2 : Place → ℕ) (b c : Holdings) : Type 0 where
  pub wrote : Wrote n x (Pages d) steps.Pages m m2 b
  pub more : m (Pages d) < m2 (Pages d)
  pub hand : c ≡ noted x (m (Pages d)) (record b { credits = with_more (m2 (Pages d) - m (Pages d)) d b.credits })

-- and given back
pub record Refunded (n : Machine) (x : Step) (d by : ℕ) (m m2 : Place → ℕ) (b c : Holdings) : Type 0 where
  pub wrote : Wrote n x (Pages d) steps.Pages m m2 b
  pub may : MayRefund d by b
  pub is : m2 (Pages d) ≡ (m (Pages d) + by) % 2 ^ 64
  pub hand : c ≡ noted x (m (Pages d)) (record b { credits = with_fewer (2 ^ 64 - by) d b.credits })

-- a word of a vCPU that may name a frame
pub record Named (n : Machine) (s : ℕ) (x : Step) (v k : ℕ) (m m2 : Place → ℕ) (b c : Holdings) : Type 0 where
  pub wrote : Wrote n x (Vcpu v k) steps.Context m m2 b
  pub word : IsTrue (is_context k)
  pub may : MayName n s v k (m2 (Vcpu v k)) b ⊎ MayEmpty n s v k (m2 (Vcpu v k)) b
  pub hand : c ≡ noted x (m (Vcpu v k)) (learned s (Vcpu v k) (m (Vcpu v k)) (m2 (Vcpu v k)) (named_in k (m (Vcpu v k)) (named_out (m2 (Vcpu v k)) b)))

-- the base of an LDT
pub record Based (n : Machine) (s : ℕ) (x : Step) (v : ℕ) (m m2 : Place → ℕ) (b c : Holdings) : Type 0 where
  pub wrote : Wrote n x (ldt_base_of v) steps.Context m m2 b
  pub may : (v ≡ s) ⊎ MayEmpty n s v 7 (m2 (ldt_base_of v)) b
  pub hand : c ≡ noted x (m (ldt_base_of v)) b

-- a vCPU is asked to flush
pub record Asked (n : Machine) (x : Step) (v : ℕ) (m m2 : Place → ℕ) (b c : Holdings) : Type 0 where
  pub wrote : Wrote n x (asked_of v) steps.Ask m m2 b
  pub value : ℕ
  pub may : MayAsk n v value b
  pub hand : c ≡ noted x (m (asked_of v)) b

-- the own translations are flushed
pub record Flushed (n : Machine) (s : ℕ) (x : Step) (m m2 : Place → ℕ) (b c : Holdings) : Type 0 where
  pub wrote : Wrote n x (flushed_of s) steps.Ack m m2 b
  pub may : MayAck n s s 5 (m2 (flushed_of s)) b
  pub hand : c ≡ noted x (m (flushed_of s)) (after_ack b)

-- the own vCPU stops, leaves its processor or comes to it
pub record Ran (n : Machine) (s : ℕ) (x : Step) (m m2 : Place → ℕ) (b c : Holdings) : Type 0 where
  pub wrote : Wrote n x (run_of s) steps.Run m m2 b
  pub may : AllowsRun (m2 (run_of s)) b
  pub hand : c ≡ noted x (m (run_of s)) (learned_own 6 (m2 (run_of s)) (ran_now (m2 (run_of s)) b))

-- the clock goes one up
pub record Ticked (n : Machine) (x : Step) (m m2 : Place → ℕ) (b c : Holdings) : Type 0 where
  pub wrote : Wrote n x Clock steps.Tick m m2 b
  pub below : m Clock < last_clock
  pub is : m2 Clock ≡ m Clock + 1
  pub hand : c ≡ noted x (m Clock) b

-- the vCPU destroys a domain from now on
pub record Doomed (n : Machine) (s : ℕ) (x : Step) (d : ℕ) (m m2 : Place → ℕ) (b c : Holdings) : Type 0 where
  pub wrote : Wrote n x (Life d) steps.Life m m2 b
  pub was : m (Life d) ≡ 0
  pub is : m2 (Life d) ≡ s + 1
  pub hand : c ≡ noted x (m (Life d)) (learned_life d (m (Life d)) b)

-- the domain is dead
pub record Buried (n : Machine) (s : ℕ) (x : Step) (d : ℕ) (m m2 : Place → ℕ) (b c : Holdings) : Type 0 where
  pub wrote : Wrote n x (Life d) steps.Life m m2 b
  pub may : MayBury n s d (m2 (Life d)) b
  pub hand : c ≡ noted x (m (Life d)) (learned_life d (m (Life d)) b)

-- a bit of the free map is set or cleared
pub record Hinted (n : Machine) (x : Step) (k by : ℕ) (m m2 : Place → ℕ) (b c : Holdings) : Type 0 where
  pub wrote : Wrote n x (Map k) steps.Hint m m2 b
  pub may : MayHint k by b ⊎ MayUnhint k by b
  pub is : m2 (Map k) ≡ (m (Map k) + by) % 2 ^ 64
  pub hand : c ≡ noted x (m (Map k)) (record b { raised = raised_by (lowered_frame k by b) (raised_frame k by b) b.raised })

-- a privilege is given or taken away
pub record Privileged (n : Machine) (s : ℕ) (x : Step) (d : ℕ) (m m2 : Place → ℕ) (b c : Holdings) : Type 0 where
  pub wrote : Wrote n x (Priv d) steps.Priv m m2 b
  pub may : MaySetPrivilege n s (m (Priv d)) (m2 (Priv d)) b
  pub hand : c ≡ noted x (m (Priv d)) b

-- ---- all of them
pub data ActEffect (n : Machine) (s : ℕ) (x : Step) (m m2 : Place → ℕ) (b c : Holdings) : Type 0 where
  looked : (p : Place) → Looked n s x p m m2 b c → ActEffect n s x m m2 b c
  raised : (f : ℕ) → Raised n x f m m2 b c → ActEffect n s x m m2 b c
  cleared : (f : ℕ) → Cleared n x f m m2 b c → ActEffect n s x m m2 b c
  took : (f : ℕ) → Took n s x f m m2 b c → ActEffect n s x m m2 b c
  lowered : (f : ℕ) → Lowered n x f m m2 b c → ActEffect n s x m m2 b c
  freed_frame : (f : ℕ) → Freed n s x f m m2 b c → ActEffect n s x m m2 b c
  gave : (f : ℕ) → Gave n s x f m m2 b c → ActEffect n s x m m2 b c
  turned : (f : ℕ) (row : KindRow) → Turned n s x f row m m2 b c → ActEffect n s x m m2 b c
  missed : (f : ℕ) → Missed n x f m m2 b c → ActEffect n s x m m2 b c
  dropped_type : (f : ℕ) → Dropped n x f m m2 b c → ActEffect n s x m m2 b c
  unlocked_table : (f : ℕ) → Unlocked n x f m m2 b c → ActEffect n s x m m2 b c
  stored : (f : ℕ) (form : Form) → Stored n s x f form m m2 b c → ActEffect n s x m m2 b c
  exchanged : (f i : ℕ) → Exchanged n x f i m m2 b c → ActEffect n s x m m2 b c
  rewrote : (f i : ℕ) → Rewrote n x f i m m2 b c → ActEffect n s x m m2 b c
  filled : (f i : ℕ) → Filled n x f i m m2 b c → ActEffect n s x m m2 b c
  guest_stored : (f i : ℕ) → GuestStored n x f i m m2 b c → ActEffect n s x m m2 b c
  started_walk : (k : ℕ) → Started n s x k m m2 b c → ActEffect n s x m m2 b c
  went_on : (f i : ℕ) → WentOn n x f i m m2 b c → ActEffect n s x m m2 b c
  touched_entry : (f i : ℕ) → Touched n x f i m m2 b c → ActEffect n s x m m2 b c
  stumbled : (f i : ℕ) → Stumbled n x f i m m2 b c → ActEffect n s x m m2 b c
  mapped : (f : ℕ) → Mapped n x f m m2 b c → ActEffect n s x m m2 b c
  charged : (d : ℕ) → Charged n x d m m2 b c → ActEffect n s x m m2 b c
  refunded : (d by : ℕ) → Refunded n x d by m m2 b c → ActEffect n s x m m2 b c
  named_frame : (v k : ℕ) → Named n s x v k m m2 b c → ActEffect n s x m m2 b c
  based : (v : ℕ) → Based n s x v m m2 b c → ActEffect n s x m m2 b c
  asked : (v : ℕ) → Asked n x v m m2 b c → ActEffect n s x m m2 b c
  flushed : Flushed n s x m m2 b c → ActEffect n s x m m2 b c
  ran : Ran n s x m m2 b c → ActEffect n s x m m2 b c
  ticked : Ticked n x m m2 b c → ActEffect n s x m m2 b c
  doomed : (d : ℕ) → Doomed n s x d m m2 b c → ActEffect n s x m m2 b c
  buried : (d : ℕ) → Buried n s x d m m2 b c → ActEffect n s x m m2 b c
  hinted : (k by : ℕ) → Hinted n x k by m m2 b c → ActEffect n s x m m2 b c
  privileged : (d : ℕ) → Privileged n s x d m m2 b c → ActEffect n s x m m2 b c
