-- When each row may be made, and what it leaves in hand.
use Rattle.std.proofs.Common.{◌≡◌, ℕ, ◌+◌, ◌<◌, ◌^◌, length, Some, None, IsTrue, refl, ap, ◌∙◌, arith, lit<, inl}
use Rattle.std.proofs.lemmas.Bool.Decides.{nat_tests}
use Rattle.xp_words.specs.declared.place.Place.TheVariants.{Clock, Life, Vcpu, Priv}
use Rattle.xp_words.specs.Places.{Sizes, is_place, sizes_of}
use Rattle.xp_board.specs.AskSteps.{MayAsk}
use Rattle.xp_board.specs.Hands.{IsEmptyHand}
use Rattle.xp_board.specs.Readings.{last_clock}
use Rattle.xp_board.specs.Spelling.{IsSpelling}
use Rattle.xp_board.specs.Told.{PortValue}
use Rattle.xp_board.specs.Acts.{left_by}
use Rattle.xp_board.specs.RunSteps.{after_run}
use Rattle.xp_board.specs.declared.step.Act.TheVariants.{Load, Cas, Store, Max}
use Rattle.xp_board.specs.declared.step.Mark.TheVariants.{Cut, Turn}
use Rattle.xp_board.specs.declared.step.StepKind.TheVariants as kinds
use Rattle.xp_board.proofs.Numbers.{vcpu_there}
use Rattle.xp_board.proofs.Sums.{when_found}
use Rattle.step_maker.specs.Holds.{Holds, MayWork, still}
use Rattle.step_maker.specs.Moves.{May, Moves}
use Rattle.flush_words.specs.Flushing.{MayFlushTo}

-- ---- places
pub clock_there : (z : Sizes) → IsTrue (is_place z Clock)
unfolding is_place
clock_there z = refl

pub life_there : (z : Sizes) (d : ℕ) → d < z.domains → IsTrue (is_place z (Life d))
unfolding is_place
life_there z d h = grind (arith, nat_tests)

pub priv_there : (z : Sizes) (d : ℕ) → d < z.domains → IsTrue (is_place z (Priv d))
unfolding is_place
priv_there z d h = grind (arith, nat_tests)

pub flushed_there : (z : Sizes) (s : ℕ) → s < z.vcpus → IsTrue (is_place z (Vcpu s 5))
flushed_there z s h = vcpu_there z s 5 h (lit< tt)

pub run_there : (z : Sizes) (s : ℕ) → s < z.vcpus → IsTrue (is_place z (Vcpu s 6))
run_there z s h = vcpu_there z s 6 h (lit< tt)

-- ---- what may be made
pub may_tick : (v : PortValue) (e : ℕ) → e < last_clock → May v Clock (Cas e (e + 1)) kinds.Tick None
unfolding IsSpelling
may_tick v e low =
    record {
      place = clock_there (sizes_of v.post.machine);
      marked = tt;
      running = λ needs. absurd cc;
      spelling = (omega arith, omega arith);
      act = record { below = low; left = refl };
    }

pub may_ack : (v : PortValue) (s c : ℕ) → s ≡ v.post.vcpu → s < length v.post.machine.vcpu_domain → c < 2 ^ 64 → MayFlushTo v.post.machine c v.holdings → May v (Vcpu s 5) (Store c) kinds.Ack None
unfolding IsSpelling
may_ack v s c own real small may =
    record {
      place = flushed_there (sizes_of v.post.machine) s real;
      marked = tt;
      running = λ needs. absurd cc;
      spelling = (small, refl);
      act = record { own = own; word = refl; was_found = may.was_found; warmed = may.warmed; landed = may.landed };
    }

pub may_ask : (v : PortValue) (s t : ℕ) → s < length v.post.machine.vcpu_domain → MayWork v → t < 2 ^ 64 → MayAsk v.post.machine s t v.holdings → May v (Vcpu s 4) (Max t) kinds.Ask None
may_ask v s t real may small asks =
    record {
      place = vcpu_there (sizes_of v.post.machine) s 4 real (lit< tt);
      marked = tt;
      running = λ needs. may.running;
      spelling = small;
      act = (refl, asks);
    }

pub may_cut : (v : PortValue) (call : ℕ) → May v Clock Load kinds.Look (Some (Cut call))
may_cut v call = record { place = clock_there (sizes_of v.post.machine); marked = tt; running = λ needs. absurd cc; spelling = tt; act = tt }

pub may_turn : (v : PortValue) (s : ℕ) → s < length v.post.machine.vcpu_domain → May v (Vcpu s 4) Load kinds.Look (Some Turn)
may_turn v s real = record { place = vcpu_there (sizes_of v.post.machine) s 4 real (lit< tt); marked = tt; running = λ needs. absurd cc; spelling = tt; act = tt }

pub may_stop : (v : PortValue) (s : ℕ) → s ≡ v.post.vcpu → s < length v.post.machine.vcpu_domain → IsEmptyHand v.holdings → v.holdings.walk ≡ None → May v (Vcpu s 6) (Store 1) kinds.Run None
unfolding IsSpelling
may_stop v s own real empty landed =
    record {
      place = run_there (sizes_of v.post.machine) s real;
      marked = tt;
      running = λ needs. absurd cc;
      spelling = (lit< tt, refl);
      act = (own, refl, inl (refl, record { hand = empty; landed = landed }));
    }

-- ---- what the own run word leaves in hand
pub look_run_hand : (v w : PortValue) (s x : ℕ) → s ≡ v.post.vcpu → Moves v w (Vcpu s 6) Load kinds.Look None x → Holds v w (record v.holdings { run = Some x })
unfolding left_by
look_run_hand v w s x own m = ap still m.to ∙ ap (λ h. still (record v { holdings = h })) (when_found s v.post.vcpu (record v.holdings { run = Some x }) v.holdings own)

pub stop_hand : (v w : PortValue) (s x : ℕ) → s ≡ v.post.vcpu → Moves v w (Vcpu s 6) (Store 1) kinds.Run None x → Holds v w (record (after_run (Store 1) v.holdings) { run = Some 1 })
unfolding left_by
stop_hand v w s x own m =
    ap still m.to ∙ ap (λ h. still (record v { holdings = h })) (when_found s v.post.vcpu (record (after_run (Store 1) v.holdings) { run = Some 1 }) (after_run (Store 1) v.holdings) own)

pub ruleset rows = (clock_there, life_there, priv_there, flushed_there, run_there, may_tick, may_ack, may_ask, may_cut, may_turn, may_stop, look_run_hand, stop_hand)
