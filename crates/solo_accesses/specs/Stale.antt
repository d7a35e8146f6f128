-- Translations by which a guest comes to a word, and what a walk would find at that moment.
use Rattle.std.specs.Prelude.{◌≡◌, ℕ, ◌*◌, ◌^◌, ◌<◌, Bool, true, false, Option, Some, None}
use Rattle.xp_words.specs.Machine.{Machine}
use Rattle.xp_words.specs.declared.place.Place.TheVariants.{Cell, Vcpu}
use Rattle.xp_board.specs.declared.holdings.Holdings.{Holdings}
use Rattle.xp_board.specs.declared.step.Act.{Act}
use Rattle.xp_board.specs.declared.step.Act.TheVariants.{Store}
use Rattle.xp_board.specs.declared.step.Item.{Item}
use Rattle.xp_board.specs.declared.step.StepKind.TheVariants as kinds
use Rattle.xp_board.specs.Told.{PortValue, cached_item, told_word}
use Rattle.step_maker.specs.Moves.{Met, Moment}
use Rattle.step_maker.specs.Plain.{Words}
use Rattle.tlb_walks.specs.Accesses.{may_serve, server}
use Rattle.tlb_walks.specs.Addresses.{access_refusal}
use Rattle.tlb_walks.specs.Walks.{top_word}
use Rattle.table_law.specs.Plain.{Plain, plain_of}
use Rattle.script_law.specs.Walks.{Leads, from_base}

abbrev pub is_store : Act → Bool
is_store (Store new) = true
is_store _ = false

-- In the words m a walk of vCPU s, for a write or not, to the page of that translation and from the same top table, leads to the same frame: no entry bars it, if it is for a write, and it sets no bit.
pub record IsBacked (n : Machine) (s : ℕ) (m : Words) (write : Bool) (x : Item) : Type 0 where
  pub barrier : Option ℕ
  pub left : Plain
  pub leads : from_base n (2 ^ 12 * x.page) write (m (Vcpu s (top_word x.user))) (plain_of m) ≡ Leads x.frame barrier left
  pub free : write ≡ true → barrier ≡ None
  pub sets_none : (f i : ℕ) → f < n.frames → i < 512 → left.cells f i ≡ m (Cell f i)

-- the translation may serve an access to that frame, for a write or not: it leads there, is the newest of its page, and writable and dirty if it is to serve a write
pub record MayServe (h : Holdings) (f : ℕ) (write : Bool) (x : Item) : Type 0 where
  pub newest : cached_item x.user x.page h.cache ≡ Some x
  pub frame : x.frame ≡ f
  pub serves : may_serve write x ≡ true

-- Whenever the guest came to a word between v and w, each translation that may have served that was what a walk would have found.
abbrev pub IsNeverStale : PortValue → PortValue → Type 0
IsNeverStale v w =
    (m : Moment) (f i : ℕ) (x : Item) (met : Met v w m) → m.kind ≡ kinds.Guest → m.place ≡ Cell f i → MayServe m.hand f (is_store m.act) x →
    IsBacked met.from.post.machine met.from.post.vcpu (told_word met.from) (is_store m.act) x

-- The translation that serves an access to that address at v, if one does, is what a walk would find then.
abbrev pub IsServedFresh : PortValue → Bool → ℕ → Bool → Type 0
IsServedFresh v user va write = (x : Item) → access_refusal va ≡ None → server v user va write ≡ Some x → IsBacked v.post.machine v.post.vcpu (told_word v) write x
