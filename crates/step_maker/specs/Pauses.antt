-- Why an operation goes on in a later turn: one equation for each pause.
use Rattle.std.specs.Prelude.{◌≡◌, ◌≢◌, ◌⊎◌, ℕ, ◌<◌, ◌≤◌, ◌==◌, ◌||◌, ◌&&◌, not, Bool, true, false, length, Option, Some, None, IsTrue}
use Rattle.xp_words.specs.declared.place.Place.TheVariants as places
use Rattle.xp_words.specs.Machine.{Machine}
use Rattle.xp_words.specs.declared.place.Place.{Place}
use Rattle.xp_words.specs.declared.place.Place.TheVariants.{Vcpu, Refs, Kind, Priv}
use Rattle.xp_words.specs.Places.{number, sizes_of}
use Rattle.xp_words.specs.KindWords.{kind_fields}
use Rattle.xp_words.specs.PageTypes.{is_table}
use Rattle.xp_words.specs.declared.kind.PageType.TheVariants as kinds
use Rattle.xp_words.specs.declared.reply.Pause.{Pause}
use Rattle.xp_words.specs.declared.reply.Pause.TheVariants.{Due, Lost, Busy, Flush, Alive}
use Rattle.xp_board.specs.declared.step.Act.TheVariants.{Cas, Max, Store}
use Rattle.xp_board.specs.declared.step.Mark.{Mark}
use Rattle.xp_board.specs.declared.step.Mark.TheVariants as marks
use Rattle.xp_board.specs.declared.holdings.Holdings.{Holdings}
use Rattle.xp_board.specs.declared.holdings.Seen.{Seen}
use Rattle.xp_board.specs.declared.holdings.Work.{Work}
use Rattle.xp_board.specs.Steps.{last_since}
use Rattle.xp_board.specs.Flushes.{is_idle}
use Rattle.xp_board.specs.Hands.{work_on, lock_on, ending_of}
use Rattle.xp_board.specs.Acts.{left_by}
use Rattle.xp_board.specs.LifeSteps.{is_unallocated, is_unpinned, is_unkept}
use Rattle.xp_board.specs.Readings.{is_context, is_work, is_locked, is_closing, is_live, is_type, is_dying, owner_of, domain_of, has_ever}
use Rattle.xp_words.specs.declared.kind.PageType.{PageType}
use Rattle.step_maker.specs.Asked.{Request, Asked, IsDemandOf, Passed, demand_held}
use Rattle.step_maker.specs.Moves.{Moment}
use Rattle.step_maker.specs.Finding.{Finding, FoundAt, FoundWith, Did}
use Rattle.step_maker.specs.Reasons.{AwaitsStamp, Reason, MayReach, OfOwner, Those, Whose}

-- ---- progress
abbrev pub is_entry_mark : Option Mark → Bool
is_entry_mark (Some (marks.Record f upto)) = true
is_entry_mark (Some (marks.Shed f upto)) = true
is_entry_mark _ = false

-- One of the steps recorded or shed an entry; or it made a frame live that the last recorded entry of a table in the own works asks,
-- as the vCPU found that entry; or it counted a type of such a frame, which had not been found live before.
pub data Progress (F : Finding) : Type 0 where
  entry : (m : Moment) → F m → IsTrue (is_entry_mark m.mark) → Progress F
  settles : (m : Moment) (f t new : ℕ) (e : Work) (s : Seen) → F m → m.place ≡ Kind f → m.act ≡ Store new → IsTrue (is_live (kind_fields new)) → work_on t m.hand.works ≡ Some e →
      e.seen ≡ Some s → s.index < e.recorded → IsDemandOf f None (demand_held t s.index s.word m.hand) → Progress F
  counts : (before m : Moment) (f t x new : ℕ) (e : Work) (s : Seen) → F before → before.place ≡ Kind f → is_live (kind_fields before.found) ≡ false → F m → m.place ≡ Kind f → m.act ≡ Cas x new → m.found ≡ x →
      IsTrue (is_live (kind_fields new)) → work_on t m.hand.works ≡ Some e → e.seen ≡ Some s → s.index < e.recorded → IsDemandOf f None (demand_held t s.index s.word m.hand) → Progress F

-- a step found a word there, or left one, of which that holds
pub record LeftAs (F : Finding) (p : Place) (test : ℕ → Bool) : Type 0 where
  pub moment : Moment
  pub was : F moment
  pub place : moment.place ≡ p
  pub passes : IsTrue (test (left_by moment.act moment.found))

-- A destruction went on past a vCPU of the domain, none of whose words names a frame any more; or past a frame of it, which has lost its marks.
pub data HasPassed (n : Machine) (r : Request) (F : Finding) : Type 0 where
  vcpu : (d v : ℕ) → r.destroys ≡ Some d → v < length n.vcpu_domain → domain_of n v ≡ d → ((k : ℕ) → k < 38 → IsTrue (is_context k) → LeftAs F (Vcpu v k) (λ w. w == 0)) → HasPassed n r F
  frame : (d f x : ℕ) → r.destroys ≡ Some d → FoundAt F (Refs f) x → owner_of x ≡ Some d → LeftAs F (Refs f) is_unallocated → LeftAs F (Kind f) is_unpinned → LeftAs F (Kind f) is_unkept → HasPassed n r F

-- ---- exchanges
-- an exchange found another word than the last step of this piece at that place had found or left there
pub record Loses (n : Machine) (F : Finding) (p : Place) (expected found : ℕ) : Type 0 where
  pub before : Moment
  pub exchange : Moment
  pub new : ℕ
  pub was_before : F before
  pub was_exchange : F exchange
  pub place_before : before.place ≡ p
  pub place : exchange.place ≡ p
  pub act : exchange.act ≡ Cas expected new
  pub word : exchange.found ≡ found
  pub last : last_since (sizes_of n) (length before.hand.steps) p exchange.hand.steps ≡ Some expected
  pub other : found ≢ expected

-- ---- frames of others
abbrev pub IsElsewhere : ℕ → Holdings → Type 0
IsElsewhere f h = (work_on f h.works ≡ None) × (lock_on f h.locks ≡ None) × (ending_of f h.ending ≡ None)

abbrev pub found_busy : ℕ → Bool
found_busy w = is_work (kind_fields w) || (is_locked (kind_fields w) || is_closing (kind_fields w))

abbrev pub found_in_use : ℕ → Bool
found_in_use w = is_live (kind_fields w) && (is_table (kind_fields w).kind || is_type (kind_fields w).kind kinds.Desc)

-- of the type that is asked; where none is asked the call locks tables, or releases old ones
abbrev pub IsWanted : Request → Option PageType → ℕ → Type 0
IsWanted r (Some t) w = IsTrue (is_type (kind_fields w).kind t)
IsWanted r None w = (r.locks ≡ true) ⊎ (r.contexts ≡ true)

-- ---- frames of a domain under destruction
-- one that is in the way: as its kind word was found in use, the vCPU last knew it as the domain's; or its reference word was found dying
pub data IsInTheWay (n : Machine) (r : Request) (F : Finding) (f w : ℕ) : Type 0 where
  in_use : (d x : ℕ) (h : Holdings) → r.destroys ≡ Some d → FoundWith F (Kind f) w h → IsTrue (found_in_use w) → last_since (sizes_of n) 0 (Refs f) h.steps ≡ Some x → owner_of x ≡ Some d → IsInTheWay n r F f w
  dying : (d : ℕ) → r.destroys ≡ Some d → FoundAt F (Refs f) w → owner_of w ≡ Some d → IsTrue (is_dying w) → IsInTheWay n r F f w

-- ---- flushes
-- a vCPU was found clear of that stamp, or is not meant
pub data Clear (n : Machine) (s : ℕ) (whose : Whose) (stamp : ℕ) (F : Finding) (v : ℕ) : Type 0 where
  idle : (w : ℕ) → FoundAt F (Vcpu v 6) w → IsTrue (is_idle w) → Clear n s whose stamp F v
  flushed : (w : ℕ) → FoundAt F (Vcpu v 5) w → stamp < w → Clear n s whose stamp F v
  own : (w before : ℕ) → v ≡ s → Did F (Vcpu v 5) (Store w) before → stamp < w → Clear n s whose stamp F v
  unmeant : (means : ℕ → Bool) → whose ≡ Those means → IsTrue (not (means v)) → Clear n s whose stamp F v
  barred : (owner w : ℕ) → whose ≡ OfOwner owner → domain_of n v ≢ owner → FoundAt F (Priv (domain_of n v)) w → IsTrue (not (has_ever owner w)) → Clear n s whose stamp F v

pub record AskedTo (stamp : ℕ) (F : Finding) (v : ℕ) : Type 0 where
  pub before : ℕ
  pub did : Did F (Vcpu v 4) (Max stamp) before

-- the least vCPU that is behind, and all that are were asked, it too; the own one is clear, and not only asked
pub record Behind (n : Machine) (s : ℕ) (whose : Whose) (stamp : ℕ) (F : Finding) (v found : ℕ) : Type 0 where
  pub other : v ≢ s
  pub real : v < length n.vcpu_domain
  pub running : FoundAt F (Vcpu v 6) 0
  pub flushed : FoundAt F (Vcpu v 5) found
  pub behind : found ≤ stamp
  pub asked : AskedTo stamp F v
  pub reach : MayReach n whose F v
  pub own : Clear n s whose stamp F s
  pub least : (u : ℕ) → u < v → Clear n s whose stamp F u
  pub others : (u : ℕ) → u < length n.vcpu_domain → Clear n s whose stamp F u ⊎ AskedTo stamp F u

-- ---- by pause
abbrev pub PausesFor : Machine → ℕ → Request → Finding → Pause → Type 0
PausesFor n s r F Due = (r.rose ≡ true) × (Progress F ⊎ HasPassed n r F)
PausesFor n s r F (Lost place expected found) =
    (p : Place) × (place ≡ number (sizes_of n) p) × (p ≢ places.Clock) × ((l : Loses n F p expected found) × Reason n s r F p (Cas expected l.new) found l.exchange.hand)
PausesFor n s r F (Busy f w) =
    ((owner : ℕ) × (want : Option PageType) × (h : Holdings) × Asked n s r F f owner want × FoundWith F (Kind f) w h × Passed n r F f owner h × IsTrue (found_busy w) × IsWanted r want w × IsElsewhere f h)
    ⊎ IsInTheWay n r F f w
PausesFor n s r F (Flush v stamp found) = (whose : Whose) × Behind n s whose stamp F v found × AwaitsStamp n s r F whose stamp
PausesFor n s r F (Alive v w) = (r.destroys ≡ Some (domain_of n v)) × FoundAt F (Vcpu v 6) w × (w ≢ 1)
