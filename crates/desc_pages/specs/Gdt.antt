-- The GDT of a vCPU: the pages in hand as it is set, what a guest sees of it, and by which calls.
use Rattle.std.specs.Prelude.{◌≡◌, ℕ, zero, suc, ◌+◌, ◌-◌, ◌/◌, ◌<◌, ◌==◌, ◌||◌, not, nat_lt, if◌then◌else◌, Bool, true, false, List, [], ◌∷◌, ◌++◌, length, get_or, Option, Some, None, Result, Ok, Err, IfErr, IsTrue, ◌*◌, ◌≤◌}
use Rattle.xp_words.specs.declared.kind.PageType.TheVariants.{Desc}
use Rattle.xp_words.specs.declared.reply.Refusal.{Refusal}
use Rattle.xp_words.specs.declared.reply.Refusal.TheVariants as refusals
use Rattle.xp_words.specs.declared.reply.Stop.{Stop}
use Rattle.xp_words.specs.declared.reply.Stop.TheVariants.{Refused}
use Rattle.xp_board.specs.declared.holdings.OwnerFound.TheVariants as owners
use Rattle.xp_board.specs.declared.holdings.TypedReference.{TypedReference}
use Rattle.xp_board.specs.Hands.{IsEmptyHand}
use Rattle.xp_board.specs.KindSteps.{live_typed}
use Rattle.xp_board.specs.Lists.{some_of}
use Rattle.xp_board.specs.Told.{PortValue}
use Rattle.step_maker.specs.Holds.{FlushedHolds, FlushedSame, Holds, Rests}
use Rattle.step_maker.specs.Moves.{Came}
use Rattle.step_maker.specs.Answers.{Deed, Serves, SetsWord, Stops, missed}
use Rattle.step_maker.specs.Asked.{Request, of_table}
use Rattle.frame_types.specs.Found.{DropsPlain}
use Rattle.desc_pages.specs.Names.{NamesPage}
use Rattle.context_words.specs.Names.{naming}
pub use Rattle.desc_pages.specs.Names.{own_domain}
use Rattle.desc_pages.specs.Pages.{GotDesc, IsDescStop}

-- ---- what it asks
abbrev pub is_bad_gdt : ℕ → ℕ → Bool
is_bad_gdt entries frames = nat_lt 7168 entries || not (frames == (entries + 511) / 512)

abbrev pub gdt_refusal : ℕ → List ℕ → Option Refusal
gdt_refusal entries fs = if is_bad_gdt entries (length fs) then Some refusals.BadRange else None

-- the frames of the list, each as a descriptor page; and what the own words named before
abbrev pub is_listed : List ℕ → ℕ → Bool
is_listed fs g = some_of (λ f. g == f) fs

abbrev pub of_gdt : ℕ → ℕ → List ℕ → Request
of_gdt d entries fs = record (of_table 0 d (Some Desc) d false) { names = is_listed fs; contexts = true; by_numbers = gdt_refusal entries fs }

-- ---- what a guest sees: where it is done each of the 14 words, from the first one on
abbrev pub page_at : List ℕ → ℕ → Option ℕ
page_at fs k = if nat_lt k (length fs) then Some (get_or fs k 0) else None

abbrev pub words_from : ℕ → List ℕ → ℕ → ℕ → List Deed
words_from s fs k zero = []
words_from s fs k (suc m) = SetsWord s (8 + k) (naming (page_at fs k)) ∷ words_from s fs (k + 1) m

abbrev pub gdt_deeds : PortValue → List ℕ → Result (Unit {0}) Stop → List Deed
gdt_deeds v fs (Ok done) = words_from v.post.vcpu fs 0 14
gdt_deeds v fs (Err e) = missed v.post.machine e

abbrev pub IsGdtStop : Stop → Type 0
IsGdtStop (Refused refusals.BadRange) = Unit {0}
IsGdtStop e = IsDescStop e

-- ---- the pages in hand: the first of the list, so many, the newest first
abbrev pub held : ℕ → List ℕ → ℕ → List TypedReference
held d fs zero = []
held d fs (suc k) = live_typed (get_or fs k 0) Desc (owners.Of d) ∷ held d fs k

-- and they are frames of the machine
abbrev pub AreInside : PortValue → List ℕ → ℕ → Type 0
AreInside v fs k = (i : ℕ) → i < k → get_or fs i 0 < v.post.machine.frames

-- beside them nothing is in hand
pub record HoldsPages (v : PortValue) (fs : List ℕ) (k : ℕ) : Type 0 where
  pub typed : v.holdings.typed ≡ held (own_domain v) fs k
  pub inside : AreInside v fs k
  pub others : IsEmptyHand (record v.holdings { typed = [] })

-- ---- by its calls
-- so many were taken
pub data TookPages (v : PortValue) (d : ℕ) (fs : List ℕ) : ℕ → PortValue → Type 0 where
  none : TookPages v d fs 0 v
  more : (k : ℕ) (u w : PortValue) → TookPages v d fs k u → GotDesc u (get_or fs k 0) d w (Ok (get_or fs k 0)) → TookPages v d fs (k + 1) w

-- those below a number were given back, the newest first
pub data GivesPages (fs : List ℕ) : ℕ → PortValue → PortValue → Type 0 where
  none : (v : PortValue) → GivesPages fs 0 v v
  more : (k : ℕ) (v u w : PortValue) → DropsPlain v u (get_or fs k 0) Desc → GivesPages fs k u w → GivesPages fs (k + 1) v w

-- the words from that number on name their pages, the last of them first
pub data NamedFrom (v : PortValue) (fs : List ℕ) : ℕ → PortValue → Type 0 where
  none : NamedFrom v fs 14 v
  more : (k : ℕ) (u w : PortValue) → NamedFrom v fs (k + 1) u → NamesPage u w (8 + k) (page_at fs k) → NamedFrom v fs k w

pub data SetsGdt (v : PortValue) (entries : ℕ) (fs : List ℕ) : PortValue → Result (Unit {0}) Stop → Type 0 where
  barred : (x : Refusal) → gdt_refusal entries fs ≡ Some x → SetsGdt v entries fs v (Err (Refused x))
  untaken : (k : ℕ) (a b w : PortValue) (stop : Stop) → gdt_refusal entries fs ≡ None → TookPages v (own_domain v) fs k a → k < length fs → GotDesc a (get_or fs k 0) (own_domain v) b (Err stop) → GivesPages fs k b w → SetsGdt v entries fs w (Err stop)
  set : (a w : PortValue) → gdt_refusal entries fs ≡ None → TookPages v (own_domain v) fs (length fs) a → NamedFrom a fs 0 w → SetsGdt v entries fs w (Ok tt)

-- ---- the whole call
-- the steps of 14 pages, and of 14 words whose old pages are given back
abbrev pub IsShortGdt : PortValue → PortValue → Type 0
IsShortGdt v w = length w.holdings.steps ≤ length v.holdings.steps + (14 * (1050 + 4 * length v.post.machine.vcpu_domain) + 126)

-- Its steps serve what it asks, show why it is refused or paused, leave nothing in hand, and are these calls.
pub record GdtSet (v w : PortValue) (entries : ℕ) (fs : List ℕ) (answer : Result (Unit {0}) Stop) : Type 0 where
  pub came : Came v w
  pub serves : Serves v w (of_gdt (own_domain v) entries fs) (gdt_deeds v fs answer)
  pub stops : IfErr answer (λ e. Stops v w (of_gdt (own_domain v) entries fs) e)
  pub kinds : IfErr answer IsGdtStop
  pub numbers : (x : Refusal) → gdt_refusal entries fs ≡ Some x → answer ≡ Err (Refused x)
  pub hand : FlushedSame v w
  pub rests : Rests w
  pub course : SetsGdt v entries fs w answer
  pub short : IsShortGdt v w

-- ---- between the calls
pub record Takes (v w : PortValue) (fs : List ℕ) (k : ℕ) : Type 0 where
  pub came : Came v w
  pub hand : FlushedHolds v w (record v.holdings { typed = held (own_domain v) fs k })
  pub inside : AreInside v fs k
  pub serves : (entries : ℕ) → Serves v w (of_gdt (own_domain v) entries fs) []
  pub course : TookPages v (own_domain v) fs k w

pub record Untakes (v w : PortValue) (fs : List ℕ) (stop : Stop) : Type 0 where
  pub came : Came v w
  pub hand : FlushedSame v w
  pub serves : (entries : ℕ) → Serves v w (of_gdt (own_domain v) entries fs) (missed v.post.machine stop)
  pub stops : (entries : ℕ) → Stops v w (of_gdt (own_domain v) entries fs) stop
  pub kinds : IsDescStop stop
  pub course : (entries : ℕ) → gdt_refusal entries fs ≡ None → SetsGdt v entries fs w (Err stop)

abbrev pub TakesAll : PortValue → PortValue → List ℕ → Result (Unit {0}) Stop → Type 0
TakesAll v w fs (Ok done) = Takes v w fs (length fs)
TakesAll v w fs (Err stop) = Untakes v w fs stop

pub record GaveAll (v w : PortValue) (fs : List ℕ) (k : ℕ) : Type 0 where
  pub came : Came v w
  pub hand : Holds v w (record v.holdings { typed = [] })
  pub serves : (u : PortValue) (r : Request) (ds : List Deed) → Serves u v r ds → ((i : ℕ) → i < k → IsTrue (r.names (get_or fs i 0))) → Serves u w r ds
  pub course : GivesPages fs k v w

-- how many of them are still in hand where the words from that number on are named
abbrev pub least : ℕ → ℕ → ℕ
least k n = if nat_lt k n then k else n

pub record NamesAll (v w : PortValue) (fs : List ℕ) (k : ℕ) : Type 0 where
  pub came : Came v w
  pub hand : Holds v w (record v.holdings { typed = held (own_domain v) fs (least k (length fs)) })
  pub serves : (u : PortValue) (r : Request) (ds : List Deed) → Serves u v r ds → r.contexts ≡ true → Serves u w r (words_from v.post.vcpu fs k (14 - k) ++ ds)
  pub course : NamedFrom v fs k w
