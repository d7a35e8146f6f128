-- A frame taken as a page table: what is in hand then, and why it is not to be had.
use Rattle.std.specs.Prelude.{◌≡◌, ◌⊎◌, ◌+◌, ◌++◌, ◌==◌, ◌&&◌, not, if◌then◌else◌, ℕ, Bool, true, false, List, [], ◌∷◌, Option, Some, None, Result, Ok, Err}
use Rattle.xp_words.specs.declared.place.Place.TheVariants.{Kind}
use Rattle.xp_words.specs.declared.reply.Pause.TheVariants.{Busy, Due, Flush, Lost}
use Rattle.xp_words.specs.declared.reply.Refusal.TheVariants as refusals
use Rattle.xp_words.specs.declared.reply.Stop.{Stop}
use Rattle.xp_words.specs.declared.reply.Stop.TheVariants.{Refused, Paused}
use Rattle.xp_board.specs.declared.holdings.Holdings.{Holdings}
use Rattle.xp_board.specs.declared.holdings.OwnerFound.TheVariants as owners
use Rattle.xp_board.specs.KindSteps.{live_typed}
use Rattle.xp_board.specs.Told.{PortValue}
use Rattle.step_maker.specs.Holds.{FlushedHolds, FlushedSame, Holds}
use Rattle.step_maker.specs.Answers.{Deed, Misses, Serves, misses}
use Rattle.step_maker.specs.Asked.{Request, of_table}
use Rattle.frame_types.specs.Taking.{WaitsWith}
use Rattle.frame_words.specs.Refs.{took}
use Rattle.kept_marks.specs.Marks.{IsForeign}
use Rattle.partial_state.specs.Levels.{level_type}
use Rattle.partial_state.specs.declared.stack.TableWork.{TableWork}
use Rattle.table_entries.specs.Acquiring.{Acquired}
pub use Rattle.table_entries.specs.Ending.{is_due_answer, is_due_stop, is_paused_answer}
use Rattle.xp_preempt.specs.Gates.{Gate, Gated}
use Rattle.level_validate.specs.Tables.{IsIdle}
use Rattle.level_validate.specs.Unwinding.{own_domain}

-- ---- answers

-- why a table is not to be had
abbrev pub IsAcquireStop : Stop → Type 0
IsAcquireStop (Refused (refusals.NoFrame f)) = Unit {0}
IsAcquireStop (Refused (refusals.WrongOwner f found)) = Unit {0}
IsAcquireStop (Refused (refusals.CountFull f found)) = Unit {0}
IsAcquireStop (Refused (refusals.OtherType f want found)) = Unit {0}
IsAcquireStop (Refused (refusals.Reserved f i entry)) = Unit {0}
IsAcquireStop (Refused (refusals.Clock found)) = Unit {0}
IsAcquireStop (Paused Due) = Unit {0}
IsAcquireStop (Paused (Lost place expected found)) = Unit {0}
IsAcquireStop (Paused (Busy f found)) = Unit {0}
IsAcquireStop (Paused (Flush vcpu stamp found)) = Unit {0}
IsAcquireStop _ = ⊥

-- what it asks: the frame for the type of that level, and what the entries of tables ask; of another domain's frame its own mark may be
-- taken back
abbrev pub of_acquire : {A : Type 0} → PortValue → ℕ → ℕ → ℕ → ℕ → Result A Stop → Request
of_acquire v f owner level pages answer =
    record (of_table f owner (Some (level_type level)) pages (is_due_answer answer)) { locks = not (owner == own_domain v) }

-- its steps serve that; a guest sees no deed of them, but for an exchange that was lost: that for which it is paused, or the one that is to
-- take the mark back
pub record ServesAcquired (v w : PortValue) (f owner level pages : ℕ) (answer : Result ℕ Stop) : Type 0 where
  pub hidden : List Deed
  pub may : (hidden ≡ []) ⊎ (IsForeign v owner × (is_paused_answer answer ≡ true) × (hidden ≡ Misses (Kind f) ∷ []))
  pub serves : Serves v w (of_acquire v f owner level pages answer) (hidden ++ misses v.post.machine answer)

-- ---- the tables in work
-- the outermost one, however many of its entries are done with
abbrev pub outermost_work : List TableWork → Option TableWork
outermost_work [] = None
outermost_work (t ∷ []) = Some (record t { done = 0 })
outermost_work (t ∷ u ∷ us) = outermost_work (u ∷ us)

-- it is the only one, and all its entries are done with
abbrev pub is_filled : List TableWork → Bool
is_filled [] = true
is_filled (t ∷ []) = t.done == 512
is_filled (t ∷ u ∷ us) = false

-- ---- hands
-- Ok: a typed reference to the live frame came into the hand. Refused: nothing is in hand, and the first old word may name the frame.
-- Paused: nothing is in hand, and the first old word may name a frame of another domain, which is dying.
abbrev pub LeavesAcquired : PortValue → PortValue → ℕ → ℕ → ℕ → Result ℕ Stop → Type 0
LeavesAcquired v w f owner level (Ok g) = FlushedHolds v w (record v.holdings { typed = live_typed g (level_type level) (owners.Of owner) ∷ v.holdings.typed })
LeavesAcquired v w f owner level (Err (Refused x)) = FlushedSame v w ⊎ FlushedHolds v w (record v.holdings { old0 = Some (f + 1) })
LeavesAcquired v w f owner level (Err (Paused x)) = FlushedSame v w ⊎ (IsForeign v owner × FlushedHolds v w (record v.holdings { old0 = Some (f + 1) }))

-- ---- a table that waits for a flush
-- it came there from some port that was idle, under a reference that was taken first
pub record TableWaits (v w : PortValue) (f level owner : ℕ) (own : Bool) (stamp : ℕ) : Type 0 where
  pub lent : PortValue
  pub idle : IsIdle v
  pub referred : Holds v lent (took f owner v.holdings)
  pub waits : WaitsWith lent w f owner (level_type level) own stamp

abbrev pub IsTableWaiting : PortValue → ℕ → ℕ → ℕ → Bool → ℕ → Type 0
IsTableWaiting w f level owner own stamp = (v : PortValue) × TableWaits v w f level owner own stamp

-- the first old word names the frame, where its type count is in hand and its `kept` mark is not to have that
abbrev pub named_if : ℕ → Bool → Bool → Holdings → Holdings
named_if f own kept h = if own && not kept then record h { old0 = Some (f + 1) } else h

-- Nothing of it is in hand. Where the mark of another domain's frame was to have its type count, the first old word may name it.
abbrev pub WaitedHand : PortValue → PortValue → ℕ → ℕ → Bool → Bool → Type 0
WaitedHand v w f owner own kept = FlushedHolds v w (named_if f own kept v.holdings) ⊎ (IsForeign v owner × (kept ≡ true) × FlushedHolds v w (named_if f own false v.holdings))

-- from wherever it came there
abbrev pub LeavesWaiting : PortValue → PortValue → ℕ → ℕ → ℕ → Bool → ℕ → Bool → Type 0
LeavesWaiting u w f level owner own stamp kept = (v : PortValue) → TableWaits v u f level owner own stamp → WaitedHand v w f owner own kept

-- ---- the course
-- the frame was taken by these calls, and with the gate's answers
abbrev pub AcquiresBy : PortValue → PortValue → ℕ → ℕ → ℕ → Gate → Gate → Result ℕ Stop → Type 0
AcquiresBy v w f owner level g h answer = Gated g h (is_due_answer answer) (λ answers. Acquired v f owner level w answers answer)
