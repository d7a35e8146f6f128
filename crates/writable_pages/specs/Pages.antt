-- Frames taken as ordinary memory: by which calls, what is in hand then, and what a guest sees of it.
use Rattle.std.specs.Prelude.{◌≡◌, ◌⊎◌, ℕ, ◌+◌, ◌==◌, ◌++◌, ◌||◌, not, Bool, true, false, List, [], ◌∷◌, Some, Result, Ok, Err, IsTrue}
use Rattle.xp_words.specs.declared.kind.PageType.TheVariants.{Writable}
use Rattle.xp_words.specs.declared.place.Place.TheVariants.{Kind, Refs}
use Rattle.xp_words.specs.declared.reply.Stop.{Stop}
use Rattle.xp_words.specs.declared.reply.Stop.TheVariants.{Paused}
use Rattle.xp_board.specs.declared.holdings.OwnerFound.TheVariants as owners
use Rattle.xp_board.specs.KindSteps.{live_typed}
use Rattle.xp_board.specs.Readings.{domain_of, is_free}
use Rattle.xp_board.specs.Told.{PortValue, is_telling, told_word}
use Rattle.step_maker.specs.Holds.{FlushedHolds, FlushedSame}
use Rattle.step_maker.specs.Answers.{Deed, Misses, Serves, misses}
use Rattle.step_maker.specs.Asked.{Request, of_frame}
use Rattle.step_maker.specs.Visits.{Does}
use Rattle.frame_words.specs.Freeing.{gave}
use Rattle.kind_words.specs.Kinds.{partial_kind}
use Rattle.frame_types.specs.Found.{DeadBy, SharedBy}
use Rattle.frame_types.specs.Plain.{TwinGiveUp, is_refused}
use Rattle.frame_types.specs.Leaving.{WaitsFrom}
use Rattle.frame_types.specs.Taking.{IsTypeStop, typed_as}
use Rattle.frame_types.specs.declared.taking.Taken.TheVariants.{Counted, Waiting}
use Rattle.kept_marks.specs.Marks.{IsForeign, KeptFor}
use Rattle.table_entries.specs.Acquiring.{GaveRef, GotRef, TookType}

-- what it asks: the frame as ordinary memory; of another domain's frame its own mark may be taken back
abbrev pub of_page : PortValue → ℕ → ℕ → Request
of_page v f owner = record (of_frame f owner (Some Writable)) { locks = not (owner == domain_of v.post.machine v.post.vcpu) }

abbrev pub IsPageStop : Stop → Type 0
IsPageStop e = IsTypeStop e

-- a pause, of a frame of another domain
abbrev pub HidesMark : {A : Type 0} → PortValue → ℕ → Result A Stop → Type 0
HidesMark v owner (Err (Paused x)) = IsForeign v owner
HidesMark v owner _ = ⊥

-- A guest sees no deed of the steps, but for an exchange that was lost: that for which it is paused, or the one that is to take the mark back.
pub record ServesPage {A : Type 0} (v w : PortValue) (f owner : ℕ) (answer : Result A Stop) : Type 0 where
  pub hidden : List Deed
  pub may : (hidden ≡ []) ⊎ (HidesMark v owner answer × (hidden ≡ Misses (Kind f) ∷ []))
  pub serves : Serves v w (of_page v f owner) (hidden ++ misses v.post.machine answer)

-- ---- hands
-- the untyped reference became a typed one to a live frame; or it is gone, and of another domain's frame the first old word may have it
abbrev pub LeavesPage : PortValue → PortValue → ℕ → ℕ → Result (Unit {0}) Stop → Type 0
LeavesPage v w f owner (Ok done) = FlushedHolds v w (typed_as f owner Writable v.holdings)
LeavesPage v w f owner (Err (Paused x)) = FlushedHolds v w (gave f v.holdings) ⊎ (IsForeign v owner × FlushedHolds v w (record (gave f v.holdings) { old0 = Some (f + 1) }))
LeavesPage v w f owner (Err e) = FlushedHolds v w (gave f v.holdings)

abbrev pub LeavesGot : PortValue → PortValue → ℕ → ℕ → Result ℕ Stop → Type 0
LeavesGot v w f owner (Ok g) = FlushedHolds v w (record v.holdings { typed = live_typed g Writable (owners.Of owner) ∷ v.holdings.typed })
LeavesGot v w f owner (Err (Paused x)) = FlushedSame v w ⊎ (IsForeign v owner × FlushedHolds v w (record v.holdings { old0 = Some (f + 1) }))
LeavesGot v w f owner (Err e) = FlushedSame v w

-- ---- by its calls
-- The frame waits for a flush that is not to be had. With its type count in hand it is dead (a refusal), or its mark keeps that (a pause);
-- else it is left as another holder left it.
abbrev pub PageLeft : PortValue → PortValue → ℕ → ℕ → ℕ → Bool → Bool → Type 0
PageLeft v w f owner stamp true true = Does v w (λ vs. DeadBy f Writable vs)
PageLeft v w f owner stamp true false = KeptFor v w f (partial_kind Writable true true 0 stamp) owner
PageLeft v w f owner stamp false refused = Does v w (λ vs. SharedBy f Writable stamp vs)

-- and for that reason; an own frame so on a board that tells all words, too
pub record LeftPage (v w : PortValue) (f owner stamp : ℕ) (own : Bool) (stop : Stop) : Type 0 where
  pub steps : PageLeft v w f owner stamp own (is_refused stop)
  pub plain : owner ≡ domain_of v.post.machine v.post.vcpu → TwinGiveUp v w f own stamp stop
  pub owned : IsTrue (not own || is_refused stop) → is_telling v ≡ true → is_free (told_word v (Refs f)) ≡ false

-- under a reference that is in hand
pub data TookPage (v : PortValue) (f owner : ℕ) : PortValue → Result (Unit {0}) Stop → Type 0 where
  counted : (w : PortValue) → TookType v w f owner 0 (Ok Counted) → TookPage v f owner w (Ok tt)
  untyped : (u w : PortValue) (stop : Stop) → TookType v u f owner 0 (Err stop) → GaveRef u w f → TookPage v f owner w (Err stop)
  waiting : (u w : PortValue) (own : Bool) (stamp : ℕ) (stop : Stop) → TookType v u f owner 0 (Ok (Waiting own stamp stop)) → LeftPage u w f owner stamp own stop → TookPage v f owner w (Err stop)

-- with one of its own
pub data GotPage (v : PortValue) (f owner : ℕ) : PortValue → Result ℕ Stop → Type 0 where
  unreferred : (w : PortValue) (stop : Stop) → GotRef v w f owner (Err stop) → GotPage v f owner w (Err stop)
  refused : (u w : PortValue) (stop : Stop) → GotRef v u f owner (Ok f) → TookPage u f owner w (Err stop) → GotPage v f owner w (Err stop)
  had : (u w : PortValue) → GotRef v u f owner (Ok f) → TookPage u f owner w (Ok tt) → GotPage v f owner w (Ok f)

-- ---- a frame that waits
-- in the own works, marked, from wherever it came there
abbrev pub IsPageWaiting : PortValue → ℕ → ℕ → Bool → ℕ → Type 0
IsPageWaiting v f owner own stamp = (b : PortValue) × WaitsFrom b v f owner Writable own stamp

-- left: from there on, what is in hand, and what a guest sees behind steps that serve its type
abbrev pub LeavesWaitingPage : PortValue → PortValue → ℕ → ℕ → Bool → ℕ → Stop → Type 0
LeavesWaitingPage v w f owner own stamp stop = (b : PortValue) → WaitsFrom b v f owner Writable own stamp → LeavesPage b w f owner (Err stop)

abbrev pub ServesLeftPage : PortValue → PortValue → ℕ → ℕ → Stop → Type 0
ServesLeftPage v w f owner stop = (u : PortValue) → Serves u v (of_frame f owner (Some Writable)) [] → ServesPage {A = Unit {0}} u w f owner (Err stop)
