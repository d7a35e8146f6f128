-- Accesses of the guest through a cached translation.
use Rattle.std.specs.Prelude.{◌≡◌, ℕ, ◌==◌, ◌&&◌, false, IsTrue}
use Rattle.xp_words.specs.declared.place.Place.{Place}
use Rattle.xp_words.specs.declared.place.Place.TheVariants.{Cell}
use Rattle.xp_board.specs.declared.step.Act.{Act}
use Rattle.xp_board.specs.declared.step.Act.TheVariants.{Load, Store}
use Rattle.xp_board.specs.declared.holdings.Holdings.{Holdings}
use Rattle.xp_board.specs.Lists.{some_of}

-- an item of the own cache leads to the frame
pub record MayRead (f : ℕ) (h : Holdings) : Type 0 where
  pub item : IsTrue (some_of (λ x. x.frame == f) h.cache)
  pub warm : h.cold ≡ false

-- a writable one does
pub record MayStore (f : ℕ) (h : Holdings) : Type 0 where
  pub item : IsTrue (some_of (λ x. (x.frame == f) && x.writable) h.cache)
  pub warm : h.cold ≡ false

abbrev pub LegalGuest : Holdings → Place → Act → Type 0
LegalGuest h (Cell f i) Load = MayRead f h
LegalGuest h (Cell f i) (Store new) = MayStore f h
LegalGuest h _ _ = ⊥
