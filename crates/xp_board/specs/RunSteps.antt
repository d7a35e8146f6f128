-- Whether the own vCPU runs.
use Rattle.std.specs.Prelude.{◌≡◌, ℕ, ◌+◌, ◌==◌, ◌⊎◌, if◌then◌else◌, true, [], length, Some, None}
use Rattle.xp_words.specs.declared.place.Place.{Place}
use Rattle.xp_words.specs.declared.place.Place.TheVariants.{Vcpu}
use Rattle.xp_board.specs.declared.step.Act.{Act}
use Rattle.xp_board.specs.declared.step.Act.TheVariants.{Store}
use Rattle.xp_board.specs.declared.holdings.Holdings.{Holdings}
use Rattle.xp_board.specs.Hands.{IsEmptyHand}

-- it stops for good
pub record MayStop (h : Holdings) : Type 0 where
  pub hand : IsEmptyHand h
  pub landed : h.walk ≡ None

-- it leaves its processor
pub record MayUnload (h : Holdings) : Type 0 where
  pub running : h.run ≡ Some 0
  pub hand : IsEmptyHand h
  pub landed : h.walk ≡ None

-- it comes to its processor, and has to flush before it uses translations
pub record MayLoad (h : Holdings) : Type 0 where
  pub off : h.run ≡ Some 2
  pub landed : h.walk ≡ None

abbrev pub AllowsRun : ℕ → Holdings → Type 0
AllowsRun new h = ((new ≡ 1) × MayStop h) ⊎ (((new ≡ 2) × MayUnload h) ⊎ ((new ≡ 0) × MayLoad h))

abbrev pub LegalRun : ℕ → Holdings → Place → Act → Type 0
LegalRun s h (Vcpu v k) (Store new) = (v ≡ s) × (k ≡ 6) × AllowsRun new h
LegalRun s h _ _ = ⊥

abbrev pub ran_now : ℕ → Holdings → Holdings
ran_now new h = if new == 0 then record h { cold = true; ran = length h.steps + 1 } else record h { cache = []; ran = length h.steps + 1 }

abbrev pub after_run : Act → Holdings → Holdings
after_run (Store new) h = ran_now new h
after_run _ h = h
