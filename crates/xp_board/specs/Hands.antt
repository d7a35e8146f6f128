-- The parts of a hand, by frame.
use Rattle.std.specs.Prelude.{◌≡◌, ℕ, ◌+◌, Bool, true, false, List, [], length, Option, Some, None}
use Rattle.xp_words.specs.declared.kind.PageType.{PageType}
use Rattle.xp_board.specs.declared.holdings.Holdings.{Holdings}
use Rattle.xp_board.specs.declared.holdings.Reference.{Reference}
use Rattle.xp_board.specs.declared.holdings.TypedReference.{TypedReference}
use Rattle.xp_board.specs.declared.holdings.Work.{Work}
use Rattle.xp_board.specs.declared.holdings.Lock.{Lock}
use Rattle.xp_board.specs.declared.holdings.Ending.{Ending}
use Rattle.xp_board.specs.declared.holdings.Claimed.{Claimed}
use Rattle.xp_board.specs.declared.holdings.OwnerFound.{OwnerFound}
use Rattle.xp_board.specs.declared.holdings.OwnerFound.TheVariants as owners
use Rattle.xp_board.specs.declared.holdings.Liveness.{Liveness}
use Rattle.xp_board.specs.declared.holdings.Liveness.TheVariants as lives
use Rattle.xp_board.specs.Lists.{times_by, first_by, without_by, changed_by}

-- ---- untyped references
abbrev pub refs_to : ℕ → List Reference → ℕ
refs_to f xs = times_by (λ e. e.frame) f xs

abbrev pub ref_to : ℕ → List Reference → Option Reference
ref_to f xs = first_by (λ e. e.frame) f xs

abbrev pub without_ref : ℕ → List Reference → List Reference
without_ref f xs = without_by (λ e. e.frame) f xs

-- ---- typed references
abbrev pub typed_to : ℕ → List TypedReference → ℕ
typed_to f xs = times_by (λ e. e.frame) f xs

abbrev pub typed_on : ℕ → List TypedReference → Option TypedReference
typed_on f xs = first_by (λ e. e.frame) f xs

abbrev pub without_typed : ℕ → List TypedReference → List TypedReference
without_typed f xs = without_by (λ e. e.frame) f xs

-- ---- frames in work or closing
abbrev pub works_on : ℕ → List Work → ℕ
works_on f xs = times_by (λ e. e.frame) f xs

abbrev pub work_on : ℕ → List Work → Option Work
work_on f xs = first_by (λ e. e.frame) f xs

abbrev pub without_work : ℕ → List Work → List Work
without_work f xs = without_by (λ e. e.frame) f xs

abbrev pub changed_work : ℕ → (Work → Work) → List Work → List Work
changed_work f change xs = changed_by (λ e. e.frame) f change xs

-- ---- tables under an entry lock
abbrev pub locks_on : ℕ → List Lock → ℕ
locks_on f xs = times_by (λ e. e.frame) f xs

abbrev pub lock_on : ℕ → List Lock → Option Lock
lock_on f xs = first_by (λ e. e.frame) f xs

abbrev pub without_lock : ℕ → List Lock → List Lock
without_lock f xs = without_by (λ e. e.frame) f xs

abbrev pub changed_lock : ℕ → (Lock → Lock) → List Lock → List Lock
changed_lock f change xs = changed_by (λ e. e.frame) f change xs

-- ---- frames that end, and frames that were taken from the free ones
abbrev pub endings_of : ℕ → List Ending → ℕ
endings_of f xs = times_by (λ e. e.frame) f xs

abbrev pub ending_of : ℕ → List Ending → Option Ending
ending_of f xs = first_by (λ e. e.frame) f xs

abbrev pub without_ending : ℕ → List Ending → List Ending
without_ending f xs = without_by (λ e. e.frame) f xs

abbrev pub claims_of : ℕ → List Claimed → ℕ
claims_of f xs = times_by (λ e. e.frame) f xs

abbrev pub claim_of : ℕ → List Claimed → Option Claimed
claim_of f xs = first_by (λ e. e.frame) f xs

abbrev pub without_claim : ℕ → List Claimed → List Claimed
without_claim f xs = without_by (λ e. e.frame) f xs

abbrev pub changed_claim : ℕ → (Claimed → Claimed) → List Claimed → List Claimed
changed_claim f change xs = changed_by (λ e. e.frame) f change xs

-- ---- all references
-- the typed references in hand to a frame, entry locks among them
unfoldable pub typed_hand : ℕ → Holdings → ℕ
typed_hand f h = typed_to f h.typed + locks_on f h.locks

-- the references in hand to a frame
unfoldable pub hand : ℕ → Holdings → ℕ
hand f h = refs_to f h.refs + typed_hand f h

-- nothing found yet
abbrev pub owner_from : Holdings → OwnerFound
owner_from h = owners.Since (length h.steps)

-- a reference that comes into the hand, of whose frame this step finds no owner
abbrev pub brought : ℕ → Holdings → Reference
brought f h = record { frame = f; owner = owner_from h }

-- a typed one, of whose frame this step finds neither owner nor that it is live
abbrev pub brought_typed : ℕ → Option PageType → Holdings → TypedReference
brought_typed f kind h = record { frame = f; kind = kind; owner = owner_from h; live = lives.Since (length h.steps) }

-- whether the frame is live, as what the reference came from says
abbrev pub surely : Bool → Holdings → Liveness
surely true h = lives.Found
surely false h = lives.Since (length h.steps)

abbrev pub brought_as : Bool → ℕ → PageType → Holdings → TypedReference
brought_as sure f kind h = record { frame = f; kind = Some kind; owner = owner_from h; live = surely sure h }

-- one that a word named whose frame is live, if the word says its type
abbrev pub named_live : Option PageType → Holdings → Liveness
named_live (Some t) h = lives.Found
named_live None h = lives.Since (length h.steps)

abbrev pub brought_name : ℕ → Option PageType → Holdings → TypedReference
brought_name f kind h = record { frame = f; kind = kind; owner = owner_from h; live = named_live kind h }

abbrev pub owner_by : Option Reference → OwnerFound → OwnerFound
owner_by (Some e) other = e.owner
owner_by None other = other

abbrev pub owner_by_typed : Option TypedReference → OwnerFound → OwnerFound
owner_by_typed (Some e) other = e.owner
owner_by_typed None other = other

abbrev pub owner_by_lock : Option Lock → OwnerFound → OwnerFound
owner_by_lock (Some e) other = e.owner
owner_by_lock None other = other

-- what is known of the owner by the newest untyped or typed reference, or lock, to the frame
abbrev pub ref_owner : ℕ → Holdings → OwnerFound
ref_owner f h = owner_by (ref_to f h.refs) (owner_from h)

abbrev pub typed_owner : ℕ → Holdings → OwnerFound
typed_owner f h = owner_by_typed (typed_on f h.typed) (owner_from h)

abbrev pub lock_owner : ℕ → Holdings → OwnerFound
lock_owner f h = owner_by_lock (lock_on f h.locks) (owner_from h)

-- ---- empty hands
abbrev pub empty : Holdings
empty =
    record {
      refs = [];
      typed = [];
      works = [];
      locks = [];
      ending = [];
      claimed = [];
      raised = [];
      credits = [];
      cache = [];
      walk = None;
      looking = [];
      cold = false;
      run = None;
      old0 = None;
      old1 = None;
      turn = 0;
      acked = 0;
      ran = 0;
      steps = [];
    }

-- nothing in hand: what a vCPU has where it stops, or leaves its processor
pub record IsEmptyHand (h : Holdings) : Type 0 where
  pub refs : h.refs ≡ []
  pub typed : h.typed ≡ []
  pub works : h.works ≡ []
  pub locks : h.locks ≡ []
  pub ending : h.ending ≡ []
  pub claimed : h.claimed ≡ []
  pub raised : h.raised ≡ []
  pub credits : h.credits ≡ []
  pub looking : h.looking ≡ []
