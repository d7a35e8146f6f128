-- Steps on a frame's reference word.
use Rattle.std.specs.Prelude.{◌≡◌, ℕ, ◌+◌, ◌<◌, ◌≤◌, ◌==◌, ◌⊎◌, if◌then◌else◌, Bool, true, false, ◌∷◌, length, Option, Some, None, IsTrue}
use Rattle.xp_words.specs.declared.refs.RefWord.{RefWord}
use Rattle.xp_words.specs.declared.refs.RefWord.TheVariants.{Free, Owned, Dying}
use Rattle.xp_words.specs.RefWords.{ref_read}
use Rattle.xp_words.specs.KindWords.{kind_fields}
use Rattle.xp_words.specs.Machine.{Machine}
use Rattle.xp_words.specs.declared.place.Place.{Place}
use Rattle.xp_words.specs.declared.place.Place.TheVariants.{Clock, Refs}
use Rattle.xp_words.specs.Places.{sizes_of}
use Rattle.xp_board.specs.declared.step.Act.{Act}
use Rattle.xp_board.specs.declared.step.Act.TheVariants.{Cas, Store, Add}
use Rattle.xp_board.specs.declared.holdings.Work.{Work}
use Rattle.xp_board.specs.declared.holdings.Holdings.{Holdings}
use Rattle.xp_board.specs.declared.holdings.OwnerFound.TheVariants as owners
use Rattle.xp_board.specs.declared.holdings.Ending.{Ending}
use Rattle.xp_board.specs.declared.holdings.Claimed.{Claimed}
use Rattle.xp_board.specs.Lists.{times, without_by}
use Rattle.xp_board.specs.Steps.{some_since, some_before}
use Rattle.xp_board.specs.Readings.{ref_count, owner_of, domain_of, is_closing}
use Rattle.xp_board.specs.Hands.{refs_to, without_ref, work_on, ending_of, without_ending, claim_of, without_claim}
use Rattle.xp_board.specs.Flushes.{is_past}

-- 2^64 - 1: one down
abbrev pub one_down : ℕ
one_down = 18446744073709551615

-- ---- legal
-- the count goes one up
pub record MayRaise (m : Machine) (owner : ℕ) (allocated : Bool) (count : ℕ) (new : RefWord) : Type 0 where
  pub below : count < m.limit
  pub left : new ≡ Owned owner allocated (count + 1)

-- the allocated mark goes off, and its reference comes into the hand
pub record MayClear (owner : ℕ) (allocated : Bool) (count : ℕ) (new : RefWord) : Type 0 where
  pub marked : allocated ≡ true
  pub left : new ≡ Owned owner false count

-- From some step on, after the stamp was found in that word, each vCPU was found past it.
pub record IsUnreachable (m : Machine) (f stamp : ℕ) (h : Holdings) : Type 0 where
  pub since : ℕ
  pub found : IsTrue (some_before (sizes_of m) since (Refs f) (λ w. w == stamp) h.steps)
  pub past : (v : ℕ) → v < length m.vcpu_domain → IsTrue (is_past (sizes_of m) since stamp v h.steps)

-- a free frame is taken for the own domain
pub record MayClaim (m : Machine) (s f stamp : ℕ) (new : RefWord) (h : Holdings) : Type 0 where
  pub credit : 0 < times (domain_of m s) h.credits
  pub past : IsUnreachable m f stamp h
  pub left : new ≡ Dying (domain_of m s)

-- which exchange of reference words
pub data RefRow : Type 0 where
  Raise : RefRow
  Clear : RefRow
  Claim : RefRow
  NoRefRow : RefRow

abbrev pub ref_row : Option RefWord → Option RefWord → RefRow
ref_row (Some (Free stamp)) _ = Claim
ref_row (Some (Owned owner true count)) (Some (Owned other false number)) = Clear
ref_row (Some (Owned owner allocated count)) _ = Raise
ref_row _ _ = NoRefRow

abbrev pub AllowsRef : Machine → ℕ → ℕ → Holdings → Option RefWord → Option RefWord → Type 0
AllowsRef m s f h (Some (Free stamp)) (Some new) = MayClaim m s f stamp new h
AllowsRef m s f h (Some (Owned owner allocated count)) (Some new) =
    MayRaise m owner allocated count new ⊎ MayClear owner allocated count new
AllowsRef m s f h _ _ = ⊥

abbrev pub is_closing_on : Option Work → Bool
is_closing_on (Some e) = is_closing (kind_fields e.word)
is_closing_on None = false

-- a frame that is closing in the own work keeps an untyped reference
abbrev pub SparesClosing : ℕ → Holdings → Type 0
SparesClosing f h = IsTrue (is_closing_on (work_on f h.works)) → 2 ≤ refs_to f h.refs

-- an untyped reference is given back
pub record MayLower (f by : ℕ) (h : Holdings) : Type 0 where
  pub one : by ≡ one_down
  pub in_hand : 0 < refs_to f h.refs
  pub spares : SparesClosing f h

-- a clock value found since the last reference was given back, or the stamp with which the frame was taken
abbrev pub IsFreeStamp : Machine → ℕ → Holdings → Option Ending → Option Claimed → Type 0
IsFreeStamp m stamp h (Some e) _ = IsTrue (some_since (sizes_of m) e.since Clock (λ w. w == stamp) h.steps)
IsFreeStamp m stamp h None (Some e) = stamp ≡ e.stamp
IsFreeStamp m stamp h None None = ⊥

pub record MayFree (m : Machine) (f stamp : ℕ) (h : Holdings) : Type 0 where
  pub raised : 0 < times f h.raised
  pub was_found : IsFreeStamp m stamp h (ending_of f h.ending) (claim_of f h.claimed)

-- a scrubbed frame is given to the own domain
pub record MayGive (m : Machine) (s f owner : ℕ) (allocated : Bool) (count : ℕ) (h : Holdings) : Type 0 where
  pub own : owner ≡ domain_of m s
  pub marked : allocated ≡ true
  pub one : count ≡ 1
  pub claimed : Claimed
  pub here : claim_of f h.claimed ≡ Some claimed
  pub scrubbed : claimed.scrubbed ≡ 512
  pub lowered : times f h.raised ≡ 0

abbrev pub AllowsRefStore : Machine → ℕ → ℕ → Holdings → Option RefWord → Type 0
AllowsRefStore m s f h (Some (Free stamp)) = MayFree m f stamp h
AllowsRefStore m s f h (Some (Owned owner allocated count)) = MayGive m s f owner allocated count h
AllowsRefStore m s f h _ = ⊥

abbrev pub LegalRef : Machine → ℕ → Holdings → Place → Act → Type 0
LegalRef m s h (Refs f) (Cas expected new) = AllowsRef m s f h (ref_read expected) (ref_read new)
LegalRef m s h (Refs f) (Add by) = MayLower f by h
LegalRef m s h (Refs f) (Store new) = AllowsRefStore m s f h (ref_read new)
LegalRef m s h _ _ = ⊥

-- ---- after
abbrev pub owner_number : Option ℕ → ℕ
owner_number (Some d) = d
owner_number None = 0

-- a reference whose owner this step found
abbrev pub took_ref : ℕ → ℕ → Holdings → Holdings
took_ref f w h = record h { refs = record { frame = f; owner = owners.Of (owner_number (owner_of w)) } ∷ h.refs }

abbrev pub claimed_frame : Machine → ℕ → ℕ → ℕ → Holdings → Holdings
claimed_frame m s f w h =
    record h {
      claimed = record { frame = f; stamp = w; scrubbed = 0; since = length h.steps + 1 } ∷ h.claimed;
      raised = f ∷ h.raised;
      credits = without_by (λ d. d) (domain_of m s) h.credits;
    }

abbrev pub after_ref_row : RefRow → Machine → ℕ → ℕ → ℕ → Holdings → Holdings
after_ref_row Raise m s f w h = took_ref f w h
after_ref_row Clear m s f w h = took_ref f w h
after_ref_row Claim m s f w h = claimed_frame m s f w h
after_ref_row NoRefRow m s f w h = h

-- the last reference leaves the frame ending in the hand
abbrev pub gave_ref : ℕ → ℕ → Holdings → Holdings
gave_ref f w h =
    record h {
      refs = without_ref f h.refs;
      ending = if ref_count w == 1
          then (record { frame = f; owner = owner_number (owner_of w); since = length h.steps + 1 } ∷ h.ending)
          else h.ending;
    }

abbrev pub credited : Machine → ℕ → Option Ending → ℕ
credited m s (Some e) = e.owner
credited m s None = domain_of m s

-- the frame is free, and the page that it was counts without a frame
abbrev pub freed : Machine → ℕ → ℕ → Holdings → Holdings
freed m s f h =
    record h {
      ending = without_ending f h.ending;
      claimed = without_claim f h.claimed;
      raised = without_by (λ g. g) f h.raised;
      credits = credited m s (ending_of f h.ending) ∷ h.credits;
    }

abbrev pub given : ℕ → Holdings → Holdings
given f h = record h { claimed = without_claim f h.claimed }

abbrev pub after_ref_store : Option RefWord → Machine → ℕ → ℕ → Holdings → Holdings
after_ref_store (Some (Free stamp)) m s f h = freed m s f h
after_ref_store _ m s f h = given f h

abbrev pub after_ref : Machine → ℕ → Place → Act → ℕ → Holdings → Holdings
after_ref m s (Refs f) (Cas expected new) w h =
    if w == expected then after_ref_row (ref_row (ref_read expected) (ref_read new)) m s f w h else h
after_ref m s (Refs f) (Add by) w h = gave_ref f w h
after_ref m s (Refs f) (Store new) w h = after_ref_store (ref_read new) m s f h
after_ref m s _ _ w h = h
