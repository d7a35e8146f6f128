-- What walks and accesses are asked, and which stops there are.
use Rattle.std.specs.Prelude.{ℕ, ◌==◌, Bool, true, false, Option, Some, None}
use Rattle.xp_words.specs.declared.reply.Pause.TheVariants.{Lost}
use Rattle.xp_words.specs.declared.reply.Refusal.{Refusal}
use Rattle.xp_words.specs.declared.reply.Refusal.TheVariants.{NonCanonical, Slot, NotMapped, BadRange, ReadOnly}
use Rattle.xp_words.specs.declared.reply.Stop.{Stop}
use Rattle.xp_words.specs.declared.reply.Stop.TheVariants.{Refused, Paused}
use Rattle.xp_board.specs.declared.step.Item.{Item}
use Rattle.xp_board.specs.Told.{PortValue, cached_item}
use Rattle.step_maker.specs.Asked.{Request, of_frame}
use Rattle.tlb_walks.specs.Addresses.{access_refusal, page_of, walk_refusal}

-- a call that walks the own tables, from the context word that names the top one; the address alone may call for that refusal
abbrev pub of_access : (ℕ → Bool) → Option Refusal → Request
of_access names refusal = record (of_frame 0 0 None) { names = names; by_numbers = refusal; contexts = true; walks = true }

abbrev pub of_walk : ℕ → Request
of_walk va = of_access (λ f. false) (walk_refusal va)

abbrev pub of_read : ℕ → Request
of_read va = of_access (λ f. false) (access_refusal va)

-- the frame that a translation leads to
abbrev pub leads_to : Option Item → ℕ → Bool
leads_to (Some x) f = x.frame == f
leads_to None f = false

-- The store names the frame to which the newest translation of its page leads, as the call begins: no step of the call finds it.
abbrev pub of_write : PortValue → Bool → ℕ → Request
of_write v user va = record (of_access (leads_to (cached_item user (page_of va) v.holdings.cache)) (access_refusal va)) { stores = true }

-- ---- which stops there are
abbrev pub IsWalkStop : Stop → Type 0
IsWalkStop (Refused NonCanonical) = Unit {0}
IsWalkStop (Refused (Slot i)) = Unit {0}
IsWalkStop (Refused (NotMapped level entry)) = Unit {0}
IsWalkStop (Paused (Lost place expected found)) = Unit {0}
IsWalkStop _ = ⊥

abbrev pub IsGuestReadStop : Stop → Type 0
IsGuestReadStop (Refused BadRange) = Unit {0}
IsGuestReadStop e = IsWalkStop e

abbrev pub IsGuestWriteStop : Stop → Type 0
IsGuestWriteStop (Refused (ReadOnly entry)) = Unit {0}
IsGuestWriteStop e = IsGuestReadStop e
