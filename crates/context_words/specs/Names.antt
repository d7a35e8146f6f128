-- Words of a vCPU that name frames of one type, and what is in hand as they are stored.
use Rattle.std.specs.Prelude.{◌≡◌, ℕ, ◌+◌, ◌<◌, Option, Some, None, IsTrue}
use Rattle.xp_words.specs.declared.kind.PageType.{PageType}
use Rattle.xp_board.specs.declared.holdings.Holdings.{Holdings}
use Rattle.xp_board.specs.ContextSteps.{FitsWord, context_type, named_in, named_out}
use Rattle.xp_board.specs.Hands.{typed_to}
use Rattle.xp_board.specs.Readings.{is_context}
use Rattle.xp_board.specs.Told.{PortValue}

-- the word that names that frame, or none
abbrev pub naming : Option ℕ → ℕ
naming None = 0
naming (Some f) = f + 1

-- what the new word names went out of the hand, and what the old one named came in
abbrev pub renamed : ℕ → ℕ → ℕ → Holdings → Holdings
renamed k old new h = named_in k old (named_out new h)

-- none; or a frame to which a typed reference is in hand, and which is known to be live with that type and the own domain's
abbrev pub IsNameHeld : PortValue → PageType → Option ℕ → Type 0
IsNameHeld v t None = Unit {0}
IsNameHeld v t (Some f) = (f < v.post.machine.frames) × (0 < typed_to f v.holdings.typed) × FitsWord v.post.machine v.post.vcpu f v.holdings (Some t)

-- the word takes frames of one type
pub record MayPutName (v : PortValue) (k : ℕ) (new : Option ℕ) : Type 0 where
  pub word : IsTrue (is_context k)
  pub kind : PageType
  pub typed : context_type k ≡ Some kind
  pub held : IsNameHeld v kind new
