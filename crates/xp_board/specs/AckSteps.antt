-- The own translations are flushed.
use Rattle.std.specs.Prelude.{◌≡◌, ℕ, ◌+◌, ◌==◌, nat_lt, true, false, [], length, None, IsTrue}
use Rattle.xp_words.specs.Machine.{Machine}
use Rattle.xp_words.specs.declared.place.Place.{Place}
use Rattle.xp_words.specs.declared.place.Place.TheVariants.{Clock, Vcpu}
use Rattle.xp_words.specs.Places.{sizes_of}
use Rattle.xp_board.specs.declared.step.Act.{Act}
use Rattle.xp_board.specs.declared.step.Act.TheVariants.{Store}
use Rattle.xp_board.specs.declared.holdings.Holdings.{Holdings}
use Rattle.xp_board.specs.Steps.{some_since}

-- A clock value that the vCPU found or left since its last flush. Where it is cold, the value is above one
-- that it found since its last Run step.
pub record MayAck (m : Machine) (s v k new : ℕ) (h : Holdings) : Type 0 where
  pub own : v ≡ s
  pub word : k ≡ 5
  pub was_found : IsTrue (some_since (sizes_of m) h.acked Clock (λ w. w == new) h.steps)
  pub warmed : h.cold ≡ true → IsTrue (some_since (sizes_of m) h.ran Clock (λ w. nat_lt w new) h.steps)
  pub landed : h.walk ≡ None

abbrev pub LegalAck : Machine → ℕ → Holdings → Place → Act → Type 0
LegalAck m s h (Vcpu v k) (Store new) = MayAck m s v k new h
LegalAck m s h _ _ = ⊥

abbrev pub after_ack : Holdings → Holdings
after_ack h = record h { cache = []; cold = false; acked = length h.steps + 1 }
