-- What a call is asked, and which frames that asks of it: for which owner, and for which type.
use Rattle.std.specs.Prelude.{◌≡◌, ◌⊎◌, ℕ, ◌<◌, ◌≤◌, ◌/◌, ◌==◌, nat_lt, nat_le, if◌then◌else◌, ◌&&◌, ◌||◌, not, Bool, true, false, Option, Some, None, IsTrue}
use Rattle.xp_words.specs.PageTypes.{is_table}
use Rattle.xp_words.specs.Places.{sizes_of}
use Rattle.xp_words.specs.declared.kind.KindWord.{KindWord}
use Rattle.xp_board.specs.Knowledge.{knows_owner}
use Rattle.xp_words.specs.Machine.{Machine}
use Rattle.xp_words.specs.declared.place.Place.TheVariants.{Cell, Vcpu, Refs, Kind}
use Rattle.xp_words.specs.Entries.{demand_at, frame_of}
use Rattle.xp_words.specs.KindWords.{kind_fields}
use Rattle.xp_words.specs.declared.entry.Demand.{Demand}
use Rattle.xp_words.specs.declared.entry.Demand.TheVariants as demands
use Rattle.xp_words.specs.declared.kind.PageType.{PageType}
use Rattle.xp_words.specs.declared.kind.PageType.TheVariants as kinds
use Rattle.xp_words.specs.declared.reply.Refusal.{Refusal}
use Rattle.xp_board.specs.declared.holdings.Holdings.{Holdings}
use Rattle.xp_board.specs.declared.holdings.Lock.{Lock}
use Rattle.xp_board.specs.declared.holdings.Work.{Work}
use Rattle.xp_board.specs.declared.holdings.OwnerFound.TheVariants as owners
use Rattle.xp_board.specs.Hands.{work_on, lock_on, refs_to, typed_to, typed_hand, typed_owner}
use Rattle.xp_board.specs.Readings.{is_context, is_dead, is_frame_word, owner_of, domain_of}
use Rattle.step_maker.specs.Moves.{Moment}
use Rattle.step_maker.specs.Finding.{Finding, FoundAt, FoundWith}

-- A wait for flushes of the call's own: of which vCPUs, and past which clock value. It is one that the call finds itself, or one that the vCPU found
-- when the wait began in an earlier turn.
pub record Wait : Type 0 where
  pub means : ℕ → Bool
  pub stamp : Option ℕ

-- what a call is asked: by its own numbers, and beside what its steps find
pub record Request : Type 0 where
  -- the frames that it names, whose they must be, and the type that it wants of them
  pub names : ℕ → Bool
  -- the frames of which it gives back what the vCPU has, whoever owns them
  pub backs : ℕ → Bool
  pub owner : ℕ
  pub want : Option PageType
  -- whose the frames are to be that entries of level 1 name
  pub pages_of : ℕ
  -- whether the frames must be allocated (they are given back)
  pub returns : Bool
  -- the refusal that its numbers alone call for
  pub by_numbers : Option Refusal
  -- the cell that it writes, and the new word of it
  pub index : Option ℕ
  pub new_word : Option ℕ
  -- whether it reads cells of the frames that it works on or copies, so that entries of tables among them ask frames; whether context words do
  pub entries : Bool
  pub contexts : Bool
  -- whether it may mark live frames that it names, or take marks off, and leave them their type (an entry lock, a pin)
  pub locks : Bool
  -- whether it walks the own tables; whether it is a store of the guest's, which a read-only translation alone refuses; whether it ends with a
  -- flush of its own
  pub walks : Bool
  pub stores : Bool
  pub flushes : Bool
  -- the flushes that it waits for, whatever frames it asks
  pub waits : Option Wait
  -- the domain that it destroys; the one whose privileges it changes
  pub destroys : Option ℕ
  pub grants : Option ℕ
  -- how many pages it takes, in blocks of so many frames
  pub pages : Option ℕ
  pub block : Option ℕ
  -- whether the gate of this turn said yes
  pub rose : Bool
  -- whether it sets or clears a pin; whether nobody else may refer to the frames that it names
  pub pins : Bool
  pub alone : Bool
  -- the domains that it names
  pub over : ℕ → Bool
  -- the page of the own LDT that it touches; the descriptor that it writes
  pub ldt_page : Option ℕ
  pub descriptor : Option ℕ

-- a call on one frame of that owner
abbrev pub of_frame : ℕ → ℕ → Option PageType → Request
of_frame f owner want =
    record {
      names = λ g. g == f;
      backs = λ g. false;
      owner = owner;
      want = want;
      pages_of = owner;
      returns = false;
      by_numbers = None;
      index = None;
      new_word = None;
      entries = false;
      contexts = false;
      locks = false;
      walks = false;
      stores = false;
      flushes = false;
      waits = None;
      destroys = None;
      grants = None;
      pages = None;
      block = None;
      rose = false;
      pins = false;
      alone = false;
      over = λ d. false;
      ldt_page = None;
      descriptor = None;
    }

-- a call on a table of that owner, whose entries ask frames: those of level 1 of `pages_of`, the others of the owner. `rose`: the gate said yes
abbrev pub of_table : ℕ → ℕ → Option PageType → ℕ → Bool → Request
of_table f owner want pages_of rose = record (of_frame f owner want) { entries = true; pages_of = pages_of; rose = rose }

-- a call that gives back what the vCPU has of one frame
abbrev pub of_back : ℕ → Request
of_back f = record (of_frame 0 0 None) { names = λ g. false; backs = λ g. g == f }

-- a call that its numbers alone refuse
abbrev pub of_numbers : Refusal → Request
of_numbers x = record (of_frame 0 0 None) { names = λ g. false; by_numbers = Some x }

-- a call that takes `size` pages for that owner, in one block of so many frames: number `number` of the machine's. It names the frames of that block
-- alone, so that what it looks at in others is no reason to touch them, or to wait for them.
abbrev pub of_block : ℕ → ℕ → ℕ → Request
of_block owner size number = record (of_frame 0 owner None) { names = λ g. g / size == number; pages = Some size; block = Some size }

-- a call that gives an allocated frame of that owner back to the machine
abbrev pub of_return : ℕ → ℕ → Request
of_return f owner = record (of_frame f owner None) { returns = true }

-- a call that gives domain `to` privilege over another, or takes it away
abbrev pub of_grant : ℕ → ℕ → Request
of_grant to over = record (of_frame 0 0 None) { names = λ g. false; grants = Some to; over = λ d. (d == to) || (d == over) }

-- a call that destroys a domain, whose tables and words ask the frames that are to be given back. `rose`: the gate said yes
abbrev pub of_destroy : ℕ → Bool → Request
of_destroy d rose =
    record (of_frame 0 d None) {
      names = λ g. false;
      entries = true;
      contexts = true;
      locks = true;
      destroys = Some d;
      over = λ x. x == d;
      rose = rose;
    }

-- ---- entries
-- a table whose entries may be read: past its flush
abbrev pub is_read : KindWord → Bool
is_read k = is_table k.kind && not k.unflushed

abbrev pub demand_by : ℕ → ℕ → Option Work → Option Lock → Option Demand
demand_by i w (Some e) o = if is_read (kind_fields e.word) then Some (demand_at (kind_fields e.word).kind i w) else None
demand_by i w None (Some e) = Some (demand_at e.kind i w)
demand_by i w None None = None

-- what the entry asks, in a table of the own work or under the own entry lock
abbrev pub demand_held : ℕ → ℕ → ℕ → Holdings → Option Demand
demand_held f i w h = demand_by i w (work_on f h.works) (lock_on f h.locks)

-- the owner that a frame must have which an entry asks: in L1 that of the pages, above it that of the table
abbrev pub level_by : Option Work → Option Lock → Option PageType
level_by (Some e) o = Some (kind_fields e.word).kind
level_by None (Some e) = Some e.kind
level_by None None = None

abbrev pub owner_below : Request → Option PageType → ℕ
owner_below r (Some kinds.L1) = r.pages_of
owner_below r _ = r.owner

-- the entries of a table in the own work ask frames of the owner that the call was told; the one under the own entry lock by its level
abbrev pub entry_owner : Request → Option Work → Option Lock → ℕ
entry_owner r (Some e) o = r.owner
entry_owner r None (Some o) = owner_below r (Some o.kind)
entry_owner r None None = r.owner

-- what is asked for a type is asked without one, too
abbrev pub IsFor : Option PageType → Option PageType → Type 0
IsFor None asked = Unit {0}
IsFor (Some t) asked = asked ≡ Some t

-- the demand is of that frame, for that type
abbrev pub IsDemandOf : ℕ → Option PageType → Option Demand → Type 0
IsDemandOf f want (Some (demands.Read g)) = (g ≡ f) × IsFor want None
IsDemandOf f want (Some (demands.Typed g t)) = (g ≡ f) × IsFor want (Some t)
IsDemandOf f want _ = ⊥

-- the type of the frame that a context word names, where the word says it
abbrev pub named_type : ℕ → Option PageType
named_type k = if nat_lt k 2 then Some kinds.L4 else if nat_le 8 k then Some kinds.Desc else None

-- ---- frames
-- a frame is asked, of that owner and for that type
pub data Asked (n : Machine) (s : ℕ) (r : Request) (F : Finding) (f owner : ℕ) (want : Option PageType) : Type 0 where
  -- the call names it
  named : IsTrue (r.names f) → owner ≡ r.owner → IsFor want r.want → Asked n s r F f owner want
  -- an entry asks it that was found in a table of the own work, or under the own entry lock
  demanded : (t i w : ℕ) (h : Holdings) → r.entries ≡ true → FoundWith F (Cell t i) w h → IsDemandOf f want (demand_held t i w h) →
      owner ≡ entry_owner r (work_on t h.works) (lock_on t h.locks) → Asked n s r F f owner want
  -- the word that the call puts into a table asks it, as that table was under the own entry lock
  entered : (t i w : ℕ) (o : Lock) (m : Moment) → r.entries ≡ true → IsTrue (r.names t) → r.index ≡ Some i → r.new_word ≡ Some w → F m → lock_on t m.hand.locks ≡ Some o →
      IsDemandOf f want (Some (demand_at o.kind i w)) → owner ≡ owner_below r (Some o.kind) → Asked n s r F f owner want
  -- it was found in the walk
  walked : (t i w : ℕ) → r.walks ≡ true → FoundAt F (Cell t i) w → f ≡ frame_of w → owner ≡ r.owner → IsFor want r.want → Asked n s r F f owner want
  -- a context word names it, of the own vCPU or of one of the domain under destruction
  context : (v k w : ℕ) → r.contexts ≡ true → FoundAt F (Vcpu v k) w → IsTrue (is_context k) → IsTrue (is_frame_word f w) → (v ≡ s) ⊎ (r.destroys ≡ Some (domain_of n v)) →
      owner ≡ domain_of n v → IsFor want (named_type k) → Asked n s r F f owner want
  -- an old word names it, which has the frame's own type
  of_old : (v k w x : ℕ) → r.contexts ≡ true → FoundAt F (Vcpu v k) w → (k ≡ 2) ⊎ (k ≡ 3) → IsTrue (is_frame_word f w) → (v ≡ s) ⊎ (r.destroys ≡ Some (domain_of n v)) →
      FoundAt F (Kind f) x → IsTrue (not (is_dead (kind_fields x))) → owner ≡ domain_of n v → IsFor want (Some (kind_fields x).kind) → Asked n s r F f owner want
  -- it was found to be a frame of the domain under destruction, whatever its type
  doomed : (d x : ℕ) → r.destroys ≡ Some d → FoundAt F (Refs f) x → owner_of x ≡ Some d → owner ≡ d → IsFor want None → Asked n s r F f owner want

-- of some owner and for some type; or the call gives it back
pub data IsAsked (n : Machine) (s : ℕ) (r : Request) (F : Finding) (f : ℕ) : Type 0 where
  of : (owner : ℕ) (want : Option PageType) → Asked n s r F f owner want → IsAsked n s r F f
  back : IsTrue (r.backs f) → IsAsked n s r F f

-- ---- what the vCPU itself has of a frame
-- Holding h it has no more of the frame than it had when it held b, as the piece began. Where entries ask frames, the typed
-- references that earlier entries took do not matter, for each entry counts; nor does the untyped one by which a table is held in
-- the own works beside its other holder's type count.
pub record HasNoMore (r : Request) (f : ℕ) (h b : Holdings) : Type 0 where
  pub refs : (r.entries ≡ true → work_on f h.works ≡ None) → refs_to f h.refs ≤ refs_to f b.refs
  pub works : work_on f h.works ≡ None → work_on f b.works ≡ None
  pub typed : r.entries ≡ false → typed_hand f h ≤ typed_hand f b

-- the same of all frames
abbrev pub NoMore : Request → Holdings → Holdings → Type 0
NoMore r h b = (f : ℕ) → HasNoMore r f h b

-- The checks of the reference word are past: it holds a reference which a step found to be that owner's. What an old word
-- of a context names was checked in an earlier turn, and what a recorded entry asks when it was recorded.
pub data Passed (n : Machine) (r : Request) (F : Finding) (f owner : ℕ) (h : Holdings) : Type 0 where
  checked : IsTrue (knows_owner (sizes_of n) f owner h) → Passed n r F f owner h
  -- a typed reference that came out of an entry, a mark or a context word
  given : (k : ℕ) → 0 < typed_to f h.typed → typed_owner f h ≡ owners.Since k → Passed n r F f owner h
  old : (v k w : ℕ) → r.contexts ≡ true → FoundAt F (Vcpu v k) w → IsTrue (is_context k) → IsTrue (is_frame_word f w) → Passed n r F f owner h
  stands : (t i w : ℕ) (e : Work) → r.entries ≡ true → FoundAt F (Cell t i) w → work_on t h.works ≡ Some e → i < e.recorded → IsDemandOf f None (demand_held t i w h) → Passed n r F f owner h

-- ---- requests within others
abbrev pub Implies : Bool → Bool → Type 0
Implies a b = a ≡ true → b ≡ true

abbrev pub Keeps : {A : Type 0} → Option A → Option A → Type 0
Keeps {A} a b = (x : A) → a ≡ Some x → b ≡ Some x

-- the request has a part which looks at the frames themselves that it names
abbrev pub IsNaming : Request → Type 0
IsNaming r = (r.pins ≡ true) ⊎ ((r.alone ≡ true) ⊎ ((i : ℕ) × (r.index ≡ Some i)))

-- what r asks and F found is asked by q and found by G
pub record Within (n : Machine) (s : ℕ) (r : Request) (F : Finding) (q : Request) (G : Finding) : Type 0 where
  pub asked : (f owner : ℕ) (want : Option PageType) → Asked n s r F f owner want → Asked n s q G f owner want
  pub backs : (f : ℕ) → IsTrue (r.backs f) → IsAsked n s q G f
  pub moments : (m : Moment) → F m → G m
  pub returns : Implies r.returns q.returns
  pub by_numbers : Keeps r.by_numbers q.by_numbers
  pub index : Keeps r.index q.index
  pub new_word : Keeps r.new_word q.new_word
  pub walks : Implies r.walks q.walks
  pub stores : Implies r.stores q.stores
  pub flushes : Implies r.flushes q.flushes
  pub waits : Keeps r.waits q.waits
  pub destroys : Keeps r.destroys q.destroys
  pub grants : Keeps r.grants q.grants
  pub pages : Keeps r.pages q.pages
  pub block : Keeps r.block q.block
  pub rose : Implies r.rose q.rose
  pub entries : Implies r.entries q.entries
  pub contexts : Implies r.contexts q.contexts
  pub locks : Implies r.locks q.locks
  pub pins : Implies r.pins q.pins
  pub alone : Implies r.alone q.alone
  pub names : IsNaming r → (f : ℕ) → IsTrue (r.names f) → IsTrue (q.names f)
  pub owner : r.alone ≡ true → r.owner ≡ q.owner
  pub over : (d : ℕ) → IsTrue (r.over d) → IsTrue (q.over d) × (r.owner ≡ q.owner)
  pub ldt_page : Keeps r.ldt_page q.ldt_page
  pub descriptor : Keeps r.descriptor q.descriptor
