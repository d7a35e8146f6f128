-- A walk in flight, for the functions of this crate: what a port holds of it, and its steps from port to port.
use Rattle.std.specs.Prelude.{◌≡◌, ◌≢◌, ℕ, ◌+◌, ◌*◌, ◌-◌, ◌/◌, ◌%◌, ◌^◌, ◌<◌, ◌≤◌, ◌==◌, ◌&&◌, not, is_some, Bool, true, false, Option, Some, None, Result, Ok, Err}
use Rattle.xp_words.specs.Entries.{is_bit, frame_of}
use Rattle.xp_words.specs.Machine.{IsMachine}
use Rattle.xp_words.specs.declared.place.Place.TheVariants.{Vcpu, Cell}
use Rattle.xp_words.specs.declared.reply.Refusal.{Refusal}
use Rattle.xp_words.specs.declared.reply.Refusal.TheVariants.{NotMapped}
use Rattle.xp_words.specs.declared.reply.Stop.{Stop}
use Rattle.xp_words.specs.declared.reply.Stop.TheVariants.{Refused}
use Rattle.xp_board.specs.declared.holdings.Walk.{Walk}
use Rattle.xp_board.specs.declared.step.Act.TheVariants.{Load, Cas}
use Rattle.xp_board.specs.declared.step.Mark.TheVariants as marks
use Rattle.xp_board.specs.declared.step.StepKind.TheVariants as kinds
use Rattle.xp_board.specs.Hands.{IsEmptyHand}
use Rattle.xp_board.specs.FillSteps.{cached_with}
use Rattle.xp_board.specs.TouchSteps.{MayTouch}
use Rattle.xp_board.specs.Told.{PortValue}
use Rattle.step_maker.specs.Holds.{Holds}
use Rattle.step_maker.specs.Moves.{Moves}
use Rattle.step_maker.specs.Licences.{is_unmapped}
use Rattle.own_cache.specs.declared.flight.Flight.{Flight}
use Rattle.own_cache.specs.Translating.{Translating, flown, landed, walk_below, seen, with_entry, touched_in, translating}
use Rattle.tlb_walks.specs.Addresses.{index_of, walk_refusal}
use Rattle.tlb_walks.specs.Translating.{item_by}
use Rattle.tlb_walks.specs.Walks.{top_word, barrier_with, with_needed, EndsAt}
use Rattle.tlb_walks.specs.declared.walks.Walked.{Walked}

-- ---- in hand
-- nothing is in hand but a walk perhaps; the vCPU runs, and its translations are its own
pub record WalkReady (v : PortValue) : Type 0 where
  pub running : v.holdings.run ≡ Some 0
  pub machine : IsMachine v.post.machine
  pub empty : IsEmptyHand v.holdings
  pub warm : v.holdings.cold ≡ false

-- the same port, with these translations and that walk in flight; all else in hand is as before
pub record Turned (v w : PortValue) (t : Translating) : Type 0 where
  pub walk : Option Walk
  pub hand : Holds v w (record v.holdings { walk = walk; cache = t.items })
  pub flight : flown walk ≡ t.flight

-- the entry was just loaded as w, and is present; where it lacks bits, it may be exchanged
pub record Sees (v : PortValue) (f : Flight) (i w : ℕ) : Type 0 where
  pub before : Translating
  pub present : is_bit 0 w ≡ true
  pub is : translating v.holdings ≡ seen v.post.machine.frames (with_entry i w f) w before
  pub may : touched_in (with_entry i w f) w ≢ w → (walk : Walk) × MayTouch f.table i w (touched_in (with_entry i w f) w) walk v.holdings

abbrev pub BitsSet : PortValue → PortValue → Flight → ℕ → ℕ → Type 0
BitsSet v w f i x =
    (t : Translating) → translating v.holdings ≡ seen v.post.machine.frames (with_entry i x f) x t → Turned v w (walk_below v.post.machine.frames (with_entry i x f) (touched_in (with_entry i x f) x) t)

abbrev pub BitsLost : PortValue → PortValue → Flight → ℕ → ℕ → Type 0
BitsLost v w f i x = (t : Translating) → translating v.holdings ≡ seen v.post.machine.frames (with_entry i x f) x t → Turned v w (landed t)

-- ---- where it is
-- the indices above that level, 9 bits each
abbrev pub page_above : ℕ → ℕ → ℕ
page_above va level = va / 2 ^ (12 + 9 * level) % 2 ^ (36 - 9 * level)

-- a walk for that address is at a table of the machine, and is to load its entry there
pub record IsAt (v : PortValue) (user : Bool) (va : ℕ) (write : Bool) (barrier : Option ℕ) (f : Flight) : Type 0 where
  pub flying : flown v.holdings.walk ≡ Some f
  pub user_is : f.user ≡ user
  pub write_is : f.write ≡ write
  pub free : f.touching ≡ false
  pub writable : f.writable ≡ not (is_some barrier)
  pub page : f.page ≡ page_above va f.level
  pub table : f.table < v.post.machine.frames
  pub low : 1 ≤ f.level
  pub high : f.level ≤ 4
  pub address : va < 2 ^ 64
  pub unrefused : walk_refusal va ≡ None

-- past an entry with its bits
abbrev pub next_flight : Flight → ℕ → ℕ → Flight
next_flight f i w = record (with_entry i w f) { touching = false; table = frame_of w; level = f.level - 1 }

-- ---- steps
-- one entry: loaded, and exchanged where it is to be
pub data EntryMoves (v w : PortValue) (table i x new found : ℕ) : Type 0 where
  alone : (is_bit 0 x && not (new == x)) ≡ false → found ≡ x → Moves v w (Cell table i) Load kinds.Fill None x → EntryMoves v w table i x new found
  both : (u : PortValue) → (is_bit 0 x && not (new == x)) ≡ true → Moves v u (Cell table i) Load kinds.Fill None x → Moves u w (Cell table i) (Cas x new) kinds.Touch None found →
      EntryMoves v w table i x new found

-- from a table down, to w
pub data PathMoves (w : PortValue) (va : ℕ) (write : Bool) (answer : Result Walked Stop) : PortValue → ℕ → ℕ → Option ℕ → Type 0 where
  ends : (v : PortValue) (level table : ℕ) (barrier : Option ℕ) (x found : ℕ) →
      EntryMoves v w table (index_of va level) x (with_needed write level (barrier_with barrier x) x) found →
      EndsAt v.post.machine table (index_of va level) level (barrier_with barrier x) x (with_needed write level (barrier_with barrier x) x) found answer →
      PathMoves w va write answer v level table barrier
  goes : (v u : PortValue) (level table : ℕ) (barrier : Option ℕ) (x : ℕ) → 1 < level → is_unmapped v.post.machine x ≡ false →
      EntryMoves v u table (index_of va level) x (with_needed write level (barrier_with barrier x) x) x →
      PathMoves w va write answer u (level - 1) (frame_of x) (barrier_with barrier x) → PathMoves w va write answer v level table barrier

pub data WalkMoves (v w : PortValue) (user : Bool) (va : ℕ) (write : Bool) (answer : Result Walked Stop) : Type 0 where
  barred : (x : Refusal) → walk_refusal va ≡ Some x → answer ≡ Err (Refused x) → w ≡ v → WalkMoves v w user va write answer
  baseless : walk_refusal va ≡ None → answer ≡ Err (Refused (NotMapped 5 0)) → Moves v w (Vcpu v.post.vcpu (top_word user)) Load kinds.Fill (Some (marks.Walk write)) 0 →
      WalkMoves v w user va write answer
  walks : (u : PortValue) (base : ℕ) → walk_refusal va ≡ None → base ≢ 0 → Moves v u (Vcpu v.post.vcpu (top_word user)) Load kinds.Fill (Some (marks.Walk write)) base →
      PathMoves w va write answer u 4 (base - 1) None → WalkMoves v w user va write answer

-- the exchange of an entry that was loaded as x: there is none where the bits stand, or it met that word, or another
pub data TouchMoves (v w : PortValue) (table i x new : ℕ) : Result (Unit {0}) ℕ → Type 0 where
  stands : new ≡ x → w ≡ v → TouchMoves v w table i x new (Ok tt)
  set : new ≢ x → Moves v w (Cell table i) (Cas x new) kinds.Touch None x → TouchMoves v w table i x new (Ok tt)
  lost : (found : ℕ) → new ≢ x → found ≢ x → Moves v w (Cell table i) (Cas x new) kinds.Touch None found → TouchMoves v w table i x new (Err found)

-- one entry of a walk at f, by the answer of its call: the word with which it goes on, or a stop
abbrev pub PassedBy : PortValue → PortValue → Flight → ℕ → Result ℕ Stop → Type 0
PassedBy v w f i (Ok x) = (is_unmapped v.post.machine x ≡ false) × EntryMoves v w f.table i x (touched_in (with_entry i x f) x) x
PassedBy v w f i (Err e) =
    (x : ℕ) × (found : ℕ) × EntryMoves v w f.table i x (touched_in (with_entry i x f) x) found
    × ((barrier : Option ℕ) → EndsAt v.post.machine f.table i f.level barrier x (touched_in (with_entry i x f) x) found (Err e))

-- what it leaves of the walk in hand
abbrev pub PassedTo : PortValue → PortValue → Flight → ℕ → Result ℕ Stop → Type 0
PassedTo v w f i (Ok x) = Turned v w (walk_below v.post.machine.frames (with_entry i x f) (touched_in (with_entry i x f) x) (translating v.holdings))
PassedTo v w f i (Err e) = Turned v w (landed (translating v.holdings))

-- and what the walk leaves at its end
abbrev pub EndedIn : PortValue → PortValue → Bool → ℕ → Bool → Result Walked Stop → Type 0
EndedIn v w user va write (Ok r) = (frame_of r.entry < v.post.machine.frames) × Turned v w (record { items = cached_with (item_by user va write r) v.holdings.cache; flight = None })
EndedIn v w user va write (Err e) = Turned v w (landed (translating v.holdings))
