-- A page of the own LDT is touched: what that asks, what a guest sees of it, and by which calls.
use Rattle.std.specs.Prelude.{◌≡◌, ◌≢◌, ℕ, ◌+◌, ◌-◌, ◌*◌, ◌%◌, ◌^◌, nat_lt, nat_le, if◌then◌else◌, Bool, true, false, List, [], ◌∷◌, Option, Some, None, Result, Ok, Err, IfErr}
use Rattle.xp_words.specs.ContextWords.{IsLdtBase, ldt_read}
use Rattle.xp_words.specs.Entries.{frame_of}
use Rattle.xp_words.specs.declared.context.LdtBase.{LdtBase}
use Rattle.xp_words.specs.declared.kind.PageType.TheVariants.{Desc}
use Rattle.xp_words.specs.declared.place.Place.TheVariants.{Vcpu}
use Rattle.xp_words.specs.declared.reply.Refusal.{Refusal}
use Rattle.xp_words.specs.declared.reply.Refusal.TheVariants as refusals
use Rattle.xp_words.specs.declared.reply.Stop.{Stop}
use Rattle.xp_words.specs.declared.reply.Stop.TheVariants.{Refused}
use Rattle.xp_board.specs.declared.step.Act.TheVariants.{Load}
use Rattle.xp_board.specs.declared.step.StepKind.TheVariants as kinds
use Rattle.xp_board.specs.Told.{PortValue}
use Rattle.step_maker.specs.Holds.{FlushedSame, Rests, Same}
use Rattle.step_maker.specs.Moves.{Met, Moves}
use Rattle.step_maker.specs.Answers.{Deed, Serves, SetsWord, Stops, missed}
use Rattle.step_maker.specs.Asked.{Request, of_table}
use Rattle.step_maker.specs.Finding.{FoundAt}
use Rattle.desc_pages.specs.Names.{NamesPage, own_domain}
use Rattle.desc_pages.specs.Pages.{GotDesc, IsDescStop}
use Rattle.tlb_walks.specs.Addresses.{walk_refusal}
use Rattle.tlb_walks.specs.Translating.{Walks}

-- ---- by the page's number, and where the LDT was found to be
-- it ends before that page
abbrev pub is_beyond : ℕ → LdtBase → Bool
is_beyond page b = nat_le b.entries (512 * page)

-- the address of the LDT: bits 48 to 63 of it all equal bit 47
abbrev pub ldt_address : LdtBase → ℕ
ldt_address b = 2 ^ 12 * b.page + (if nat_lt b.page (2 ^ 35) then 0 else 2 ^ 64 - 2 ^ 48)

-- where the page begins
abbrev pub touch_address : ℕ → LdtBase → ℕ
touch_address page b = (ldt_address b + 2 ^ 12 * page) % 2 ^ 64

abbrev pub refusal_at : ℕ → Option LdtBase → Option Refusal
refusal_at page (Some b) = if is_beyond page b then Some refusals.BadRange else walk_refusal (touch_address page b)
refusal_at page None = None

abbrev pub touch_refusal : ℕ → ℕ → Option Refusal
touch_refusal page base = refusal_at page (ldt_read base)

-- ---- what it asks: the frame to which the walk leads, as a descriptor page, and what the own word named before
abbrev pub of_touch : ℕ → ℕ → ℕ → Request
of_touch d page base =
    record (of_table 0 d (Some Desc) d false) {
      names = λ f. false;
      contexts = true;
      walks = true;
      by_numbers = touch_refusal page base;
      ldt_page = Some page;
    }

abbrev pub IsTouchStop : Stop → Type 0
IsTouchStop (Refused refusals.BadRange) = Unit {0}
IsTouchStop (Refused refusals.NonCanonical) = Unit {0}
IsTouchStop (Refused (refusals.Slot i)) = Unit {0}
IsTouchStop (Refused (refusals.NotMapped level entry)) = Unit {0}
IsTouchStop e = IsDescStop e

-- ---- what a guest sees: the word of that page, where it named none before
abbrev pub touch_deeds : PortValue → ℕ → Option ℕ → Result (Unit {0}) Stop → List Deed
touch_deeds v page (Some f) (Ok done) = SetsWord v.post.vcpu (22 + page) (f + 1) ∷ []
touch_deeds v page None (Ok done) = []
touch_deeds v page frame (Err e) = missed v.post.machine e

-- ---- by its steps and calls
-- one look, which found where the own LDT is
pub record FoundBase (v w : PortValue) (word : ℕ) (b : LdtBase) : Type 0 where
  pub looks : Moves v w (Vcpu v.post.vcpu 7) Load kinds.Look None word
  pub reads : ldt_read word ≡ Some b
  pub valid : IsLdtBase b
  pub hand : Same v w

-- a second one: the page is one of the LDT, and its word was found so
pub record FoundPage (v w : PortValue) (page base : ℕ) (b : LdtBase) (word : ℕ) : Type 0 where
  pub seen : PortValue
  pub based : FoundBase v seen base b
  pub within : is_beyond page b ≡ false
  pub looks : Moves seen w (Vcpu v.post.vcpu (22 + page)) Load kinds.Look None word

-- where the LDT was found to be, and the frame that the word names now, where it named none
pub data TouchesLdt (v : PortValue) (page base : ℕ) : Option ℕ → PortValue → Result (Unit {0}) Stop → Type 0 where
  beyond : (w : PortValue) (b : LdtBase) → FoundBase v w base b → is_beyond page b ≡ true → TouchesLdt v page base None w (Err (Refused refusals.BadRange))
  held : (w : PortValue) (b : LdtBase) (word : ℕ) → FoundPage v w page base b word → word ≢ 0 → TouchesLdt v page base None w (Ok tt)
  unwalked : (u w : PortValue) (b : LdtBase) (e : Stop) → FoundPage v u page base b 0 → Walks u w false (touch_address page b) false (Err e) → TouchesLdt v page base None w (Err e)
  untaken : (u x w : PortValue) (b : LdtBase) (entry : ℕ) (e : Stop) → FoundPage v u page base b 0 → Walks u x false (touch_address page b) false (Ok entry) → GotDesc x (frame_of entry) (own_domain v) w (Err e) →
      TouchesLdt v page base None w (Err e)
  touched : (u x y w : PortValue) (b : LdtBase) (entry : ℕ) → FoundPage v u page base b 0 → Walks u x false (touch_address page b) false (Ok entry) →
      GotDesc x (frame_of entry) (own_domain v) y (Ok (frame_of entry)) → NamesPage y w (22 + page) (Some (frame_of entry)) → TouchesLdt v page base (Some (frame_of entry)) w (Ok tt)

-- ---- all that an answer says
-- From v to w the page was touched, or why not: its steps serve what it asks, show why it stops, leave nothing in hand, and are these calls.
pub record LdtTouched (v w : PortValue) (page : ℕ) (answer : Result (Unit {0}) Stop) : Type 0 where
  pub base : ℕ
  pub frame : Option ℕ
  pub found : FoundAt (Met v w) (Vcpu v.post.vcpu 7) base
  pub serves : Serves v w (of_touch (own_domain v) page base) (touch_deeds v page frame answer)
  pub stops : IfErr answer (λ e. Stops v w (of_touch (own_domain v) page base) e)
  pub kinds : IfErr answer IsTouchStop
  pub hand : FlushedSame v w
  pub rests : Rests w
  pub warm : w.holdings.cold ≡ false
  pub course : TouchesLdt v page base frame w answer
