-- The LDT of a vCPU: what a guest sees as it is set, why it is not, and by which calls.
use Rattle.std.specs.Prelude.{◌≡◌, ℕ, zero, suc, ◌+◌, ◌-◌, ◌/◌, ◌%◌, ◌^◌, ◌==◌, ◌||◌, not, nat_lt, if◌then◌else◌, Bool, true, false, List, [], ◌∷◌, ◌++◌, Option, Some, None, Result, Ok, Err, IfErr, ◌≤◌, length}
use Rattle.xp_words.specs.ContextWords.{ldt_write}
use Rattle.xp_words.specs.declared.context.LdtBase.{LdtBase}
use Rattle.xp_words.specs.declared.place.Place.TheVariants.{Vcpu}
use Rattle.xp_words.specs.declared.reply.Refusal.{Refusal}
use Rattle.xp_words.specs.declared.reply.Refusal.TheVariants as refusals
use Rattle.xp_words.specs.declared.reply.Stop.{Stop}
use Rattle.xp_words.specs.declared.reply.Stop.TheVariants.{Refused}
use Rattle.xp_board.specs.declared.step.Act.TheVariants.{Store}
use Rattle.xp_board.specs.declared.step.StepKind.TheVariants as kinds
use Rattle.xp_board.specs.Told.{PortValue}
use Rattle.step_maker.specs.Holds.{FlushedSame, Rests, Same}
use Rattle.step_maker.specs.Moves.{Came, Moves}
use Rattle.step_maker.specs.Answers.{Deed, Serves, SetsWord, Stops, missed}
use Rattle.step_maker.specs.Asked.{Request, of_frame}
use Rattle.desc_pages.specs.Names.{NamesPage, own_domain}

-- ---- by its numbers
-- bits 48 to 63 of the address all equal bit 47
abbrev pub is_canonical : ℕ → Bool
is_canonical va = (va / 2 ^ 47 == 0) || (va / 2 ^ 47 == 131071)

-- too many entries, or not from the first byte of a page on
abbrev pub is_bad_ldt : ℕ → ℕ → Bool
is_bad_ldt address entries = nat_lt 8192 entries || not (address % 4096 == 0)

abbrev pub ldt_refusal : ℕ → ℕ → Option Refusal
ldt_refusal address entries = if is_bad_ldt address entries then Some refusals.BadRange else if is_canonical address then None else Some refusals.NonCanonical

-- bits 12 to 47 of the address, and the number of entries
abbrev pub ldt_base : ℕ → ℕ → LdtBase
ldt_base address entries = record { page = address / 2 ^ 12 % 2 ^ 36; entries = entries }

-- ---- what it asks: what the own words named before
abbrev pub of_ldt : ℕ → ℕ → ℕ → Request
of_ldt d address entries = record (of_frame 0 d None) { names = λ f. false; contexts = true; by_numbers = ldt_refusal address entries }

-- ---- what a guest sees: where it is done each of the 16 words, from the first one on, and the new base
abbrev pub unnamed_from : ℕ → ℕ → ℕ → List Deed
unnamed_from s k zero = []
unnamed_from s k (suc m) = SetsWord s (22 + k) 0 ∷ unnamed_from s (k + 1) m

abbrev pub ldt_deeds : PortValue → ℕ → ℕ → Result (Unit {0}) Stop → List Deed
ldt_deeds v address entries (Ok done) = SetsWord v.post.vcpu 7 (ldt_write (ldt_base address entries)) ∷ unnamed_from v.post.vcpu 0 16
ldt_deeds v address entries (Err e) = missed v.post.machine e

abbrev pub IsLdtStop : Stop → Type 0
IsLdtStop (Refused refusals.BadRange) = Unit {0}
IsLdtStop (Refused refusals.NonCanonical) = Unit {0}
IsLdtStop _ = ⊥

-- ---- by its calls
-- the words from that number on name none, the last of them first
pub data UnnamedFrom (v : PortValue) : ℕ → PortValue → Type 0 where
  none : UnnamedFrom v 16 v
  more : (k : ℕ) (u w : PortValue) → UnnamedFrom v (k + 1) u → NamesPage u w (22 + k) None → UnnamedFrom v k w

pub data SetsLdt (v : PortValue) (address entries : ℕ) : PortValue → Result (Unit {0}) Stop → Type 0 where
  barred : (x : Refusal) → ldt_refusal address entries ≡ Some x → SetsLdt v address entries v (Err (Refused x))
  set : (u w : PortValue) (old : ℕ) → ldt_refusal address entries ≡ None → UnnamedFrom v 0 u → Moves u w (Vcpu v.post.vcpu 7) (Store (ldt_write (ldt_base address entries))) kinds.Context None old → SetsLdt v address entries w (Ok tt)

-- ---- the whole call
-- the steps of 16 words whose pages are given back, and one more
abbrev pub IsShortLdt : PortValue → PortValue → Type 0
IsShortLdt v w = length w.holdings.steps ≤ length v.holdings.steps + 145

-- Its steps serve what it asks, show why it is refused, leave nothing in hand, and are these calls.
pub record LdtSet (v w : PortValue) (address entries : ℕ) (answer : Result (Unit {0}) Stop) : Type 0 where
  pub came : Came v w
  pub serves : Serves v w (of_ldt (own_domain v) address entries) (ldt_deeds v address entries answer)
  pub stops : IfErr answer (λ e. Stops v w (of_ldt (own_domain v) address entries) e)
  pub kinds : IfErr answer IsLdtStop
  pub numbers : (x : Refusal) → ldt_refusal address entries ≡ Some x → answer ≡ Err (Refused x)
  pub hand : FlushedSame v w
  pub rests : Rests w
  pub course : SetsLdt v address entries w answer
  pub short : IsShortLdt v w

-- ---- between the calls
pub record UnnamesAll (v w : PortValue) (k : ℕ) : Type 0 where
  pub came : Came v w
  pub hand : Same v w
  pub serves : (u : PortValue) (r : Request) (ds : List Deed) → Serves u v r ds → r.contexts ≡ true → Serves u w r (unnamed_from v.post.vcpu k (16 - k) ++ ds)
  pub course : UnnamedFrom v k w
