-- Steps on a frame's kind word.
use Rattle.std.specs.Prelude.{◌≡◌, ℕ, ◌+◌, ◌<◌, ◌==◌, ◌&&◌, ◌||◌, ◌⊎◌, not, if◌then◌else◌, Bool, true, false, List, ◌∷◌, length, Option, Some, None, IsTrue}
use Rattle.xp_words.specs.declared.kind.KindWord.{KindWord}
use Rattle.xp_words.specs.declared.kind.PageType.{PageType}
use Rattle.xp_words.specs.declared.kind.PageType.TheVariants as kinds
use Rattle.xp_words.specs.KindWords.{kind_read, kind_fields}
use Rattle.xp_words.specs.PageTypes.{is_none, is_table}
use Rattle.xp_words.specs.Machine.{Machine}
use Rattle.xp_words.specs.declared.place.Place.{Place}
use Rattle.xp_words.specs.declared.place.Place.TheVariants.{Clock, Kind}
use Rattle.xp_words.specs.Places.{sizes_of}
use Rattle.xp_board.specs.declared.step.Act.{Act}
use Rattle.xp_board.specs.declared.step.Act.TheVariants.{Cas, Store, Add}
use Rattle.xp_board.specs.declared.holdings.Work.{Work}
use Rattle.xp_board.specs.declared.holdings.Unsettled.{Unsettled}
use Rattle.xp_board.specs.declared.holdings.Looking.{Looking}
use Rattle.xp_board.specs.declared.holdings.TypedReference.{TypedReference}
use Rattle.xp_board.specs.declared.holdings.OwnerFound.{OwnerFound}
use Rattle.xp_board.specs.declared.holdings.OwnerFound.TheVariants as owners
use Rattle.xp_board.specs.declared.holdings.Liveness.TheVariants as lives
use Rattle.xp_board.specs.declared.holdings.Holdings.{Holdings}
use Rattle.xp_board.specs.Acts.{left_by}
use Rattle.xp_board.specs.Lists.{kept_of}
use Rattle.xp_board.specs.Steps.{some_since}
use Rattle.xp_board.specs.Readings.{is_live, is_partial, is_work, is_dead, is_closing, is_type, domain_of}
use Rattle.xp_board.specs.Hands.{refs_to, without_ref, typed_to, without_typed, locks_on, without_lock, work_on, without_work, changed_work, brought_typed, ref_owner, typed_owner, lock_owner, owner_from}
use Rattle.xp_board.specs.Knowledge.{knows_owner, knows_live}
use Rattle.xp_board.specs.Flushes.{IsPastFlush}
use Rattle.xp_board.specs.Settling.{is_settled}
use Rattle.xp_board.specs.RefSteps.{one_down}

-- 2^64 - 2^48 - 1: the lock and one count go off
abbrev pub unlocked_down : ℕ
unlocked_down = 18446462598732840959

-- ---- what an exchange leaves
abbrev pub raised_kind : KindWord → KindWord
raised_kind k = record k { number = k.number + 1 }

abbrev pub locked_kind : KindWord → KindWord
locked_kind k = record k { locked = true; number = k.number + 1 }

-- whether the change to that type has to wait for flushes
abbrev pub is_stale : KindWord → PageType → Bool
is_stale k want = k.unflushed || (not (is_none k.kind) && not (is_type k.kind want))

-- from dead to work: marked, with the old stamp, where the change has to wait
abbrev pub begun_kind : KindWord → PageType → KindWord
begun_kind k want =
    record {
      kind = want;
      pinned = false;
      validated = false;
      partial = false;
      locked = true;
      kept = false;
      unflushed = is_stale k want;
      progress = 0;
      number = if is_stale k want then k.number else 0;
    }

-- from partial to work: type, mark and stamp stay
abbrev pub resumed_kind : KindWord → KindWord
resumed_kind k = record k { partial = false; locked = true; kept = false; progress = 0 }

-- ---- legal exchanges
-- the type count goes one up, for an untyped reference in hand
pub record MayCount (m : Machine) (f : ℕ) (k l : KindWord) (h : Holdings) : Type 0 where
  pub live : IsTrue (is_live k)
  pub counted : 0 < k.number
  pub below : k.number < m.limit
  pub left : l ≡ raised_kind k
  pub in_hand : 0 < refs_to f h.refs

-- a live table is locked, with one more type count for the lock
pub record MayLock (m : Machine) (f : ℕ) (k l : KindWord) (h : Holdings) : Type 0 where
  pub live : IsTrue (is_live k)
  pub table : IsTrue (is_table k.kind)
  pub unlocked : k.locked ≡ false
  pub counted : 0 < k.number
  pub below : k.number < m.limit
  pub left : l ≡ locked_kind k
  pub in_hand : 0 < refs_to f h.refs

-- a dead frame comes into work for a type
pub record MayBegin (f : ℕ) (k l : KindWord) (h : Holdings) : Type 0 where
  pub dead : IsTrue (is_dead k)
  pub wanted : IsTrue (not (is_none l.kind))
  pub left : l ≡ begun_kind k l.kind
  pub in_hand : 0 < refs_to f h.refs

-- a partial frame comes into work again
pub record MayResume (k l : KindWord) : Type 0 where
  pub partial : IsTrue (is_partial k)
  pub left : l ≡ resumed_kind k

-- a live table of the own domain is pinned by a typed reference in hand
pub record MayPin (m : Machine) (s f : ℕ) (k l : KindWord) (h : Holdings) : Type 0 where
  pub live : IsTrue (is_live k)
  pub table : IsTrue (is_table k.kind)
  pub unpinned : k.pinned ≡ false
  pub counted : 0 < k.number
  pub left : l ≡ record k { pinned = true }
  pub in_hand : 0 < typed_to f h.typed
  pub own : IsTrue (knows_owner (sizes_of m) f (domain_of m s) h)

pub record MayUnpin (k l : KindWord) : Type 0 where
  pub live : IsTrue (is_live k)
  pub pinned : k.pinned ≡ true
  pub left : l ≡ record k { pinned = false }

-- the `kept` mark goes off a partial frame that may be without it
pub record MayTakeBack (k l : KindWord) : Type 0 where
  pub partial : IsTrue (is_partial k)
  pub kept : k.kept ≡ true
  pub left : l ≡ record k { kept = false }

-- which exchange of kind words
pub data KindRow : Type 0 where
  Count : KindRow
  Locks : KindRow
  Pin : KindRow
  Unpin : KindRow
  Resume : KindRow
  TakeBack : KindRow
  Begin : KindRow

abbrev pub kind_row : KindWord → KindWord → KindRow
kind_row k l =
    if k.validated
    then (if l.locked && not k.locked then Locks
    else if l.pinned && not k.pinned then Pin
    else if k.pinned && not l.pinned then Unpin
    else Count)
    else if k.partial then (if l.partial then TakeBack else Resume)
    else Begin

abbrev pub AllowsKindRow : KindRow → Machine → ℕ → ℕ → KindWord → KindWord → Holdings → Type 0
AllowsKindRow Count m s f k l h = MayCount m f k l h
AllowsKindRow Locks m s f k l h = MayLock m f k l h
AllowsKindRow Pin m s f k l h = MayPin m s f k l h
AllowsKindRow Unpin m s f k l h = MayUnpin k l
AllowsKindRow Resume m s f k l h = MayResume k l
AllowsKindRow TakeBack m s f k l h = MayTakeBack k l
AllowsKindRow Begin m s f k l h = MayBegin f k l h

abbrev pub AllowsKind : Machine → ℕ → ℕ → Holdings → Option KindWord → Option KindWord → Type 0
AllowsKind m s f h (Some k) (Some l) = AllowsKindRow (kind_row k l) m s f k l h
AllowsKind m s f h _ _ = ⊥

-- ---- legal sums
-- a type count is given back: the vCPU knows the frame live by a reference in hand
pub record MayDrop (m : Machine) (f : ℕ) (h : Holdings) : Type 0 where
  pub in_hand : 0 < typed_to f h.typed
  pub kind : PageType
  pub live : IsTrue (knows_live (sizes_of m) f kind h)

abbrev pub AllowsKindAdd : Machine → ℕ → Holdings → ℕ → Type 0
AllowsKindAdd m f h by = ((by ≡ one_down) × MayDrop m f h) ⊎ ((by ≡ unlocked_down) × (0 < locks_on f h.locks))

-- ---- legal stores: by the vCPU that has the frame in work or closing
-- the type count is in hand; or it is another holder's, and an untyped reference becomes a second one
abbrev pub CountsLive : ℕ → KindWord → Holdings → Type 0
CountsLive f l h =
    ((l.number ≡ 1) × (0 < typed_to f h.typed)) ⊎ ((l.number ≡ 2) × (typed_to f h.typed ≡ 0) × (0 < refs_to f h.refs))

-- all of it is validated, and flushed where it was marked
pub record MayMakeLive (m : Machine) (f : ℕ) (e : Work) (l : KindWord) (h : Holdings) : Type 0 where
  pub work : IsTrue (is_work (kind_fields e.word))
  pub kind : l.kind ≡ (kind_fields e.word).kind
  pub unpinned : l.pinned ≡ false
  pub unlocked : l.locked ≡ false
  pub past : (kind_fields e.word).unflushed ≡ true → IsPastFlush m h e
  pub table : IsTrue (is_table l.kind) → (e.recorded ≡ 512) × IsTrue (is_settled (sizes_of m) h e)
  pub descriptors : l.kind ≡ kinds.Desc → e.fixed ≡ 512
  pub counts : CountsLive f l h

-- the mark stays with its stamp, or goes off past the flush
abbrev pub KeepsKept : Machine → Work → KindWord → Holdings → Type 0
KeepsKept m e l h =
    ((l.unflushed ≡ (kind_fields e.word).unflushed) × (l.unflushed ≡ true → l.number ≡ (kind_fields e.word).number))
    ⊎ (((kind_fields e.word).unflushed ≡ true) × (l.unflushed ≡ false) × IsPastFlush m h e)

-- what is known of the owner by the reference that goes into a `kept` mark
abbrev pub kept_owner : ℕ → Work → Holdings → OwnerFound
kept_owner f e h = if is_closing (kind_fields e.word) then ref_owner f h else typed_owner f h

-- the type count goes out of the hand into the mark, of a frame whose owner the vCPU knows by that reference
pub record MayKeep (f : ℕ) (e : Work) (h : Holdings) : Type 0 where
  pub in_hand : IsTrue (is_work (kind_fields e.word)) → 0 < typed_to f h.typed
  pub owner : ℕ
  pub known : kept_owner f e h ≡ owners.Of owner

-- what is recorded stays recorded; from closing an untyped reference becomes the type count first
pub record MayMakePartial (m : Machine) (f : ℕ) (e : Work) (l : KindWord) (h : Holdings) : Type 0 where
  pub kind : l.kind ≡ (kind_fields e.word).kind
  pub progress : l.progress ≡ e.recorded
  pub mark : KeepsKept m e l h
  pub kept : l.kept ≡ true → MayKeep f e h
  pub closing : IsTrue (is_closing (kind_fields e.word)) → 0 < refs_to f h.refs

-- nothing is recorded; the stamp is a clock value found since the frame came into work or was closing
pub record MayMakeDead (m : Machine) (f : ℕ) (e : Work) (l : KindWord) (h : Holdings) : Type 0 where
  pub kind : l.kind ≡ (kind_fields e.word).kind
  pub none : e.recorded ≡ 0
  pub mark : (l.unflushed ≡ (kind_fields e.word).unflushed) ⊎ ((l.unflushed ≡ false) × IsPastFlush m h e)
  pub stamp : IsTrue (some_since (sizes_of m) e.since Clock (λ w. w == l.number) h.steps)
  pub counts : IsTrue (is_work (kind_fields e.word)) → 0 < typed_to f h.typed

-- the mark goes off the word of a frame in work, which else stays as it is
pub record MayUnmark (m : Machine) (e : Work) (l : KindWord) (h : Holdings) : Type 0 where
  pub work : IsTrue (is_work (kind_fields e.word))
  pub marked : (kind_fields e.word).unflushed ≡ true
  pub past : IsPastFlush m h e
  pub left : l ≡ record (kind_fields e.word) { unflushed = false; number = 0 }

-- the form in which the frame is left
pub data Form : Type 0 where
  Live : Form
  Partial : Form
  InWork : Form
  Dead : Form

abbrev pub form_of : KindWord → Form
form_of l = if l.validated then Live else if l.partial then Partial else if l.locked then InWork else Dead

abbrev pub AllowsForm : Form → Machine → ℕ → Work → KindWord → Holdings → Type 0
AllowsForm Live m f e l h = MayMakeLive m f e l h
AllowsForm Partial m f e l h = MayMakePartial m f e l h
AllowsForm InWork m f e l h = MayUnmark m e l h
AllowsForm Dead m f e l h = MayMakeDead m f e l h

abbrev pub AllowsKindStore : Machine → ℕ → Holdings → Option Work → Option KindWord → Type 0
AllowsKindStore m f h (Some e) (Some l) = AllowsForm (form_of l) m f e l h
AllowsKindStore m f h _ _ = ⊥

abbrev pub LegalKind : Machine → ℕ → Holdings → Place → Act → Type 0
LegalKind m s h (Kind f) (Cas expected new) = AllowsKind m s f h (kind_read expected) (kind_read new)
LegalKind m s h (Kind f) (Add by) = AllowsKindAdd m f h by
LegalKind m s h (Kind f) (Store new) = AllowsKindStore m f h (work_on f h.works) (kind_read new)
LegalKind m s h _ _ = ⊥

-- ---- after an exchange
-- a typed reference to a frame that this step found or made live
abbrev pub live_typed : ℕ → PageType → OwnerFound → TypedReference
live_typed f kind owner = record { frame = f; kind = Some kind; owner = owner; live = lives.Found }

-- a frame that comes into work or is closing with this step
abbrev pub new_work : ℕ → ℕ → ℕ → Option Unsettled → Holdings → Work
new_work f word recorded unsettled h =
    record {
      frame = f;
      word = word;
      recorded = recorded;
      fixed = 0;
      seen = None;
      unsettled = unsettled;
      since = length h.steps + 1;
      unmarked = length h.steps + 1;
    }

abbrev pub counted : ℕ → KindWord → Holdings → Holdings
counted f k h = record h { refs = without_ref f h.refs; typed = live_typed f k.kind (ref_owner f h) ∷ h.typed }

abbrev pub locked : ℕ → KindWord → Holdings → Holdings
locked f k h =
    record h {
      refs = without_ref f h.refs;
      locks = record { frame = f; kind = k.kind; owner = ref_owner f h; seen = None; since = length h.steps + 1 } ∷ h.locks;
    }

abbrev pub pinned : ℕ → Holdings → Holdings
pinned f h = record h { typed = without_typed f h.typed }

abbrev pub unpinned : ℕ → KindWord → Holdings → Holdings
unpinned f k h = record h { typed = live_typed f k.kind (owner_from h) ∷ h.typed }

-- the last entry of a table that came partial may lead to a frame that is not live
abbrev pub unsettled_from : ℕ → Holdings → Option Unsettled
unsettled_from progress h = if progress == 0 then None else Some (record { since = length h.steps + 1; word = None })

-- the reference of a `kept` mark comes in, and is known as the untyped one in hand is
abbrev pub resumed : ℕ → KindWord → ℕ → Holdings → Holdings
resumed f k new h =
    record h {
      typed = if k.kept
          then (record { frame = f; kind = Some k.kind; owner = ref_owner f h; live = lives.Since (length h.steps) } ∷ h.typed)
          else h.typed;
      works = new_work f new k.progress (unsettled_from k.progress h) h ∷ h.works;
    }

abbrev pub taken_back : ℕ → KindWord → Holdings → Holdings
taken_back f k h = record h { typed = brought_typed f (Some k.kind) h ∷ h.typed }

abbrev pub begun : ℕ → KindWord → ℕ → Holdings → Holdings
begun f l new h =
    record h {
      refs = without_ref f h.refs;
      typed = record { frame = f; kind = Some l.kind; owner = ref_owner f h; live = lives.Since (length h.steps) } ∷ h.typed;
      works = new_work f new 0 None h ∷ h.works;
    }

abbrev pub after_kind_row : KindRow → ℕ → KindWord → KindWord → ℕ → Holdings → Holdings
after_kind_row Count f k l new h = counted f k h
after_kind_row Locks f k l new h = locked f k h
after_kind_row Pin f k l new h = pinned f h
after_kind_row Unpin f k l new h = unpinned f k h
after_kind_row Resume f k l new h = resumed f k new h
after_kind_row TakeBack f k l new h = taken_back f k h
after_kind_row Begin f k l new h = begun f l new h

-- an exchange that takes the vCPU's own `kept` mark back, or finds another word than it left, ends its looking
abbrev pub still_looking : ℕ → ℕ → List Looking → List Looking
still_looking f left xs = kept_of (λ e. not (e.frame == f) || (e.word == left)) xs

abbrev pub after_kind_cas : ℕ → ℕ → ℕ → ℕ → Holdings → Holdings
after_kind_cas f expected new w h =
    if w == expected
    then after_kind_row (kind_row (kind_fields expected) (kind_fields new)) f (kind_fields expected) (kind_fields new) new
    (record h { looking = still_looking f new h.looking })
    else record h { looking = still_looking f w h.looking }

-- ---- after a sum
-- a last type count that is given back leaves the frame closing in the hand, with all its entries recorded
abbrev pub closing_works : ℕ → ℕ → ℕ → Holdings → List Work
closing_works f w left h =
    if (kind_fields w).number == 1
    then (new_work f left (if is_table (kind_fields w).kind then 512 else 0) None h ∷ h.works)
    else h.works

abbrev pub dropped : ℕ → ℕ → ℕ → Holdings → Holdings
dropped f w left h =
    record h {
      refs = record { frame = f; owner = typed_owner f h } ∷ h.refs;
      typed = without_typed f h.typed;
      works = closing_works f w left h;
    }

abbrev pub unlocked : ℕ → ℕ → ℕ → Holdings → Holdings
unlocked f w left h =
    record h {
      refs = record { frame = f; owner = lock_owner f h } ∷ h.refs;
      locks = without_lock f h.locks;
      works = closing_works f w left h;
    }

abbrev pub after_kind_add : ℕ → ℕ → ℕ → ℕ → Holdings → Holdings
after_kind_add f by w left h = if by == one_down then dropped f w left h else unlocked f w left h

-- ---- after a store
abbrev pub made_live : ℕ → KindWord → Holdings → Holdings
made_live f l h =
    if l.number == 1
    then record h { typed = live_typed f l.kind (typed_owner f h) ∷ without_typed f h.typed; works = without_work f h.works }
    else record h {
      refs = without_ref f h.refs;
      typed = live_typed f l.kind (ref_owner f h) ∷ h.typed;
      works = without_work f h.works;
    }

-- the vCPU looks at the life of another domain on whose frame it has set `kept`
abbrev pub looking_at : Machine → ℕ → ℕ → ℕ → OwnerFound → Holdings → List Looking
looking_at m s f new (owners.Of o) h =
    if o == domain_of m s then h.looking else (record { frame = f; owner = o; word = new } ∷ h.looking)
looking_at m s f new (owners.Since n) h = h.looking

-- from closing an untyped reference becomes the type count
abbrev pub as_typed : ℕ → Work → Holdings → Holdings
as_typed f e h =
    if is_closing (kind_fields e.word)
    then record h {
      refs = without_ref f h.refs;
      typed = record { frame = f; kind = Some (kind_fields e.word).kind; owner = ref_owner f h; live = lives.Since (length h.steps) } ∷ h.typed;
    }
    else h

-- the type count stays in hand, or goes into the `kept` mark
abbrev pub put_partial : Machine → ℕ → ℕ → KindWord → ℕ → OwnerFound → Holdings → Holdings
put_partial m s f l new owner h =
    record h {
      typed = if l.kept then without_typed f h.typed else h.typed;
      works = without_work f h.works;
      looking = if l.kept then looking_at m s f new owner h else h.looking;
    }

abbrev pub made_dead : ℕ → Work → Holdings → Holdings
made_dead f e h =
    if is_work (kind_fields e.word)
    then record h {
      refs = record { frame = f; owner = typed_owner f h } ∷ h.refs;
      typed = without_typed f h.typed;
      works = without_work f h.works;
    }
    else record h { works = without_work f h.works }

abbrev pub made_partial : Machine → ℕ → ℕ → Work → KindWord → ℕ → Holdings → Holdings
made_partial m s f e l new h = put_partial m s f l new (kept_owner f e h) (as_typed f e h)

-- the cells that are loaded from now on are known
abbrev pub unmarked : ℕ → ℕ → Holdings → Holdings
unmarked f new h =
    record h { works = changed_work f (λ e. record e { word = new; unmarked = length h.steps + 1 }) h.works }

abbrev pub after_form : Form → Machine → ℕ → ℕ → Work → KindWord → ℕ → Holdings → Holdings
after_form Live m s f e l new h = made_live f l h
after_form Partial m s f e l new h = made_partial m s f e l new h
after_form InWork m s f e l new h = unmarked f new h
after_form Dead m s f e l new h = made_dead f e h

abbrev pub after_kind_store : Machine → ℕ → ℕ → ℕ → Option Work → Holdings → Holdings
after_kind_store m s f new (Some e) h = after_form (form_of (kind_fields new)) m s f e (kind_fields new) new h
after_kind_store m s f new None h = h

abbrev pub after_kind : Machine → ℕ → Place → Act → ℕ → Holdings → Holdings
after_kind m s (Kind f) (Cas expected new) w h = after_kind_cas f expected new w h
after_kind m s (Kind f) (Add by) w h = after_kind_add f by w (left_by (Add by) w) h
after_kind m s (Kind f) (Store new) w h = after_kind_store m s f new (work_on f h.works) h
after_kind m s _ _ w h = h
