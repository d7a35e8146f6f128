-- Why a step may change a word: it serves a frame that is asked, or a flush that is asked or awaited.
use Rattle.std.specs.Prelude.{◌≡◌, ◌≢◌, ◌⊎◌, ℕ, ◌+◌, ◌/◌, ◌==◌, ◌&&◌, ◌||◌, ◌<◌, ◌≤◌, not, Bool, true, length, Some, None, IsTrue}
use Rattle.xp_words.specs.Machine.{Machine}
use Rattle.xp_words.specs.declared.place.Place.{Place}
use Rattle.xp_words.specs.declared.place.Place.TheVariants.{Clock, Pages, Life, Vcpu, Refs, Kind, M2p, Cell, Map, Priv}
use Rattle.xp_words.specs.Places.{sizes_of}
use Rattle.xp_words.specs.KindWords.{kind_fields}
use Rattle.xp_words.specs.declared.kind.PageType.{PageType}
use Rattle.xp_board.specs.declared.step.Act.{Act}
use Rattle.xp_board.specs.declared.step.Act.TheVariants.{Load, Cas, Store, Add, Max}
use Rattle.xp_board.specs.declared.holdings.Holdings.{Holdings}
use Rattle.xp_board.specs.Acts.{left_by}
use Rattle.xp_board.specs.KindSteps.{is_stale}
use Rattle.xp_board.specs.Readings.{is_dead, is_type, is_free, owner_of, domain_of, free_stamp, has_ever}
use Rattle.xp_board.specs.Steps.{last_since, some_since}
use Rattle.step_maker.specs.Moves.{Moment}
use Rattle.step_maker.specs.Asked.{Request, Asked, IsAsked, Passed, Wait}
use Rattle.step_maker.specs.Finding.{Finding, FoundAt, FoundWith}

-- ---- flushes
-- whose flushes a wait is for: those that may have a translation of a frame of that owner, or these vCPUs
pub data Whose : Type 0 where
  OfOwner : (owner : ℕ) → Whose
  Those : (means : ℕ → Bool) → Whose

-- the vCPU had found the clock at that value
abbrev pub HadClock : Machine → ℕ → Holdings → Type 0
HadClock n stamp h = IsTrue (some_since (sizes_of n) 0 Clock (λ w. w == stamp) h.steps)

-- the frame was found free, with a stamp no greater
abbrev pub FoundFreeBy : Finding → ℕ → ℕ → Type 0
FoundFreeBy F g stamp = (x : ℕ) × FoundAt F (Refs g) x × (is_free x ≡ true) × (free_stamp x ≤ stamp)

-- the stamps that flushes are awaited for, and whose
pub data AwaitsStamp (n : Machine) (s : ℕ) (r : Request) (F : Finding) (whose : Whose) (stamp : ℕ) : Type 0 where
  -- found in a marked kind word of an asked frame
  marked : (f w owner : ℕ) (want : PageType) (h : Holdings) → Asked n s r F f owner (Some want) → FoundWith F (Kind f) w h → Passed n r F f owner h → (kind_fields w).unflushed ≡ true →
      IsTrue (is_dead (kind_fields w) || is_type (kind_fields w).kind want) →
      whose ≡ OfOwner owner → stamp ≡ (kind_fields w).number → AwaitsStamp n s r F whose stamp
  -- found in a dead word of an asked frame whose type is neither None nor the one asked
  other : (f w owner : ℕ) (want : PageType) (h : Holdings) → Asked n s r F f owner (Some want) → FoundWith F (Kind f) w h → Passed n r F f owner h → IsTrue (is_dead (kind_fields w)) →
      is_stale (kind_fields w) want ≡ true → whose ≡ OfOwner owner → stamp ≡ (kind_fields w).number → AwaitsStamp n s r F whose stamp
  -- found in a free word by a call that takes pages: the greatest of the block that it takes, all of which it found free
  free : (f w k size : ℕ) → r.pages ≡ Some k → r.block ≡ Some size → IsAsked n s r F f → FoundAt F (Refs f) w → is_free w ≡ true → ((g : ℕ) → g / size ≡ f / size → g < n.frames → FoundFreeBy F g (free_stamp w)) →
      whose ≡ Those (λ v. true) → stamp ≡ free_stamp w → AwaitsStamp n s r F whose stamp
  -- the clock that was found when the call's own wait began, in it or in an earlier turn
  begun : (x : Wait) → r.waits ≡ Some x → x.stamp ≡ None → FoundAt F Clock stamp → whose ≡ Those x.means → AwaitsStamp n s r F whose stamp
  goes_on : (x : Wait) (m : Moment) → r.waits ≡ Some x → x.stamp ≡ Some stamp → F m → HadClock n stamp m.hand → whose ≡ Those x.means → AwaitsStamp n s r F whose stamp

-- the word that the vCPU last found or left there is at most the stamp
pub record LastAtMost (n : Machine) (p : Place) (stamp : ℕ) (h : Holdings) : Type 0 where
  pub last : ℕ
  pub was : last_since (sizes_of n) 0 p h.steps ≡ Some last
  pub most : last ≤ stamp

-- a wait for the vCPUs that may have a translation is one for the own vCPU, too
abbrev pub IsMeant : Whose → ℕ → Type 0
IsMeant (OfOwner owner) v = Unit {0}
IsMeant (Those means) v = IsTrue (means v)

-- the own flush: the call ends with it; or the own flushed word, as the vCPU last knew it, is at most what it was asked for, or at most an awaited stamp
pub data NeedsFlush (n : Machine) (s : ℕ) (r : Request) (F : Finding) (h : Holdings) : Type 0 where
  own : r.flushes ≡ true → NeedsFlush n s r F h
  awaited : (whose : Whose) (stamp : ℕ) → AwaitsStamp n s r F whose stamp → IsMeant whose s → LastAtMost n (Vcpu s 5) stamp h → NeedsFlush n s r F h

pub data MayFlush (n : Machine) (s : ℕ) (r : Request) (F : Finding) (h : Holdings) : Type 0 where
  needed : NeedsFlush n s r F h → MayFlush n s r F h
  asked : (stamp : ℕ) → last_since (sizes_of n) 0 (Vcpu s 4) h.steps ≡ Some stamp → LastAtMost n (Vcpu s 5) stamp h → MayFlush n s r F h

-- the next step of the piece is the flush of the own translations to that clock value
pub record IsFlushedNext (s : ℕ) (F : Finding) (clock : ℕ) (h : Holdings) : Type 0 where
  pub moment : Moment
  pub was : F moment
  pub place : moment.place ≡ Vcpu s 5
  pub act : moment.act ≡ Store clock
  pub next : length moment.hand.steps ≡ length h.steps + 1

-- the vCPU is of the domain whose frame it is, or was found with the privilege for that domain: it may have a translation of it; or it is one of those that are meant
abbrev pub MayReach : Machine → Whose → Finding → ℕ → Type 0
MayReach n (Those means) F v = IsTrue (means v)
MayReach n (OfOwner owner) F v = (domain_of n v ≡ owner) ⊎ ((w : ℕ) × FoundAt F (Priv (domain_of n v)) w × IsTrue (has_ever owner w))

-- a vCPU may be asked to flush past an awaited stamp, where it was found flushed no later
abbrev pub MayAskFor : Machine → ℕ → Request → Finding → ℕ → ℕ → ℕ → Holdings → Type 0
MayAskFor n s r F v k stamp h = (k ≡ 4) × ((whose : Whose) × AwaitsStamp n s r F whose stamp × MayReach n whose F v) × LastAtMost n (Vcpu v 5) stamp h

-- ---- words of frames
-- the page count is that of the owner that was found of an asked frame, or of the domain that takes pages
pub data MayCountPages (n : Machine) (s : ℕ) (r : Request) (F : Finding) (d : ℕ) : Type 0 where
  found : (f w : ℕ) → IsAsked n s r F f → FoundAt F (Refs f) w → owner_of w ≡ Some d → MayCountPages n s r F d
  taken : (k : ℕ) → r.pages ≡ Some k → d ≡ domain_of n s → MayCountPages n s r F d

-- a free frame is claimed only where the call takes pages. (That a count goes one up or down, and which stores there are, are laws of steps; all else is a deed.)
abbrev pub IsRefChange : Request → Act → Type 0
IsRefChange r (Cas e w) = is_free e ≡ true → ((k : ℕ) × (r.pages ≡ Some k))
IsRefChange r _ = Unit {0}

-- a page is counted before there is a frame only where the call takes pages
abbrev pub IsPagesChange : Request → Act → Type 0
IsPagesChange r (Cas e w) = (k : ℕ) × (r.pages ≡ Some k)
IsPagesChange r _ = Unit {0}

-- the type is asked of the frame for an owner who was found to have it, before its type is touched
abbrev pub IsTypeAsked : Machine → ℕ → Request → Finding → ℕ → PageType → Holdings → Type 0
IsTypeAsked n s r F f t h = (owner : ℕ) × Asked n s r F f owner (Some t) × Passed n r F f owner h

abbrev pub keeps_type : ℕ → ℕ → Bool
keeps_type old new = is_type (kind_fields old).kind (kind_fields new).kind && not (is_dead (kind_fields old))

-- the call may mark frames, and this one keeps its type
abbrev pub IsMarkAsked : Machine → ℕ → Request → Finding → ℕ → ℕ → ℕ → Type 0
IsMarkAsked n s r F f old new = (r.locks ≡ true) × IsAsked n s r F f × IsTrue (keeps_type old new)

-- A kind word gets a type only that is asked of that frame, by an exchange; a store keeps the type, and a sum gives back what is in hand.
abbrev pub MayType : Machine → ℕ → Request → Finding → ℕ → Act → ℕ → Holdings → Type 0
MayType n s r F f (Cas e w) x h = IsTypeAsked n s r F f (kind_fields w).kind h ⊎ IsMarkAsked n s r F f e w
MayType n s r F f (Store w) x h = IsAsked n s r F f × IsTrue (keeps_type x w)
MayType n s r F f (Add by) x h = IsAsked n s r F f
MayType n s r F f _ x h = ⊥

-- ---- words of vCPUs
abbrev pub MayWriteOwn : Machine → ℕ → Request → Finding → ℕ → ℕ → Holdings → Type 0
MayWriteOwn n s r F v k h = ((v ≡ s) × ((k ≢ 5) ⊎ MayFlush n s r F h)) ⊎ (r.destroys ≡ Some (domain_of n v))

abbrev pub MayChangeVcpu : Machine → ℕ → Request → Finding → ℕ → ℕ → Act → Holdings → Type 0
MayChangeVcpu n s r F v k (Max stamp) h = MayAskFor n s r F v k stamp h
MayChangeVcpu n s r F v k (Cas e w) h = MayWriteOwn n s r F v k h
MayChangeVcpu n s r F v k (Store w) h = MayWriteOwn n s r F v k h
MayChangeVcpu n s r F v k (Add by) h = MayWriteOwn n s r F v k h
MayChangeVcpu n s r F v k _ h = ⊥

-- ---- by place: the act there, the word that it found, and what the vCPU held
abbrev pub Reason : Machine → ℕ → Request → Finding → Place → Act → ℕ → Holdings → Type 0
Reason n s r F Clock a x h = MayFlush n s r F h × IsFlushedNext s F (left_by a x) h
Reason n s r F (Pages d) a x h = MayCountPages n s r F d × IsPagesChange r a
Reason n s r F (Life d) a x h = r.destroys ≡ Some d
Reason n s r F (Vcpu v k) a x h = MayChangeVcpu n s r F v k a h
Reason n s r F (Refs f) a x h = IsAsked n s r F f × IsRefChange r a
Reason n s r F (Kind f) a x h = MayType n s r F f a x h
Reason n s r F (M2p f) a x h = IsAsked n s r F f
Reason n s r F (Cell f i) a x h = IsAsked n s r F f
Reason n s r F (Map k) a x h = (f : ℕ) × (k ≡ f / 64) × IsAsked n s r F f
Reason n s r F (Priv d) a x h = r.grants ≡ Some d

-- ---- looks
-- Cells are read by a call that reads those of frames that it works on or copies, that walks tables, or that writes a cell. All other words may be
-- looked at.
abbrev pub MayLook : Request → Place → Type 0
MayLook r (Cell f i) = (r.entries ≡ true) ⊎ ((r.walks ≡ true) ⊎ ((k : ℕ) × (r.index ≡ Some k)))
MayLook r _ = Unit {0}

abbrev pub HasReason : Machine → ℕ → Request → Finding → Place → Act → ℕ → Holdings → Type 0
HasReason n s r F p Load x h = MayLook r p
HasReason n s r F p (Cas e w) x h = Reason n s r F p (Cas e w) x h
HasReason n s r F p (Store w) x h = Reason n s r F p (Store w) x h
HasReason n s r F p (Add w) x h = Reason n s r F p (Add w) x h
HasReason n s r F p (Max w) x h = Reason n s r F p (Max w) x h
