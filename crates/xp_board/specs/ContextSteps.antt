-- Steps on a vCPU's words that name frames, and on the base of its LDT.
use Rattle.std.specs.Prelude.{◌≡◌, ℕ, zero, suc, ◌+◌, ◌<◌, ◌==◌, ◌||◌, ◌⊎◌, nat_lt, if◌then◌else◌, ◌∷◌, Option, Some, None, IsTrue}
use Rattle.xp_words.specs.declared.kind.PageType.{PageType}
use Rattle.xp_words.specs.declared.kind.PageType.TheVariants as kinds
use Rattle.xp_words.specs.Machine.{Machine}
use Rattle.xp_words.specs.declared.place.Place.{Place}
use Rattle.xp_words.specs.declared.place.Place.TheVariants.{Vcpu, Life}
use Rattle.xp_words.specs.Places.{sizes_of, run_of}
use Rattle.xp_board.specs.declared.step.Act.{Act}
use Rattle.xp_board.specs.declared.step.Act.TheVariants.{Store}
use Rattle.xp_board.specs.declared.holdings.Holdings.{Holdings}
use Rattle.xp_board.specs.Steps.{some_since}
use Rattle.xp_board.specs.Readings.{is_context, domain_of}
use Rattle.xp_board.specs.Hands.{typed_to, without_typed, brought_name}
use Rattle.xp_board.specs.Knowledge.{knows_owner, knows_live}

-- the type of the frame that word k names; None for the two old words, which take any
abbrev pub context_type : ℕ → Option PageType
context_type k = if nat_lt k 2 then Some kinds.L4 else if nat_lt k 4 then None else Some kinds.Desc

-- live with that type, and the own domain's
abbrev pub FitsWord : Machine → ℕ → ℕ → Holdings → Option PageType → Type 0
FitsWord m s f h (Some t) = IsTrue (knows_live (sizes_of m) f t h) × IsTrue (knows_owner (sizes_of m) f (domain_of m s) h)
FitsWord m s f h None = Unit {0}

-- none, or a frame to which a typed reference is in hand
pub record NamesFrame (m : Machine) (s k new : ℕ) (h : Holdings) : Type 0 where
  pub frame : ℕ
  pub names : new ≡ frame + 1
  pub in_hand : 0 < typed_to frame h.typed
  pub fits : FitsWord m s frame h (context_type k)

-- of the own vCPU
pub record MayName (m : Machine) (s v k new : ℕ) (h : Holdings) : Type 0 where
  pub own : v ≡ s
  pub word : IsTrue (is_context k)
  pub names : (new ≡ 0) ⊎ NamesFrame m s k new h

-- the base of the own LDT
pub record MaySetBase (s v k : ℕ) : Type 0 where
  pub own : v ≡ s
  pub word : k ≡ 7

-- a word of vCPU v, which was found stopped, of a domain that the vCPU of this hand (s) destroys
pub record MayEmpty (m : Machine) (s v k new : ℕ) (h : Holdings) : Type 0 where
  pub word : IsTrue (is_context k || (k == 7))
  pub none : new ≡ 0
  pub destroys : IsTrue (some_since (sizes_of m) 0 (Life (domain_of m v)) (λ w. w == s + 1) h.steps)
  pub stopped : IsTrue (some_since (sizes_of m) 0 (run_of v) (λ w. w == 1) h.steps)

abbrev pub LegalContext : Machine → ℕ → Holdings → Place → Act → Type 0
LegalContext m s h (Vcpu v k) (Store new) = MayName m s v k new h ⊎ (MaySetBase s v k ⊎ MayEmpty m s v k new h)
LegalContext m s h _ _ = ⊥

-- ---- after
abbrev pub named_out : ℕ → Holdings → Holdings
named_out zero h = h
named_out (suc f) h = record h { typed = without_typed f h.typed }

abbrev pub named_in : ℕ → ℕ → Holdings → Holdings
named_in k zero h = h
named_in k (suc f) h = record h { typed = brought_name f (context_type k) h ∷ h.typed }

-- what the new word names goes out of the hand, and what the old one named comes in
abbrev pub after_context : Place → Act → ℕ → Holdings → Holdings
after_context (Vcpu v k) (Store new) w h = if is_context k then named_in k w (named_out new h) else h
after_context _ _ w h = h
