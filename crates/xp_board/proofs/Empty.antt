-- A vCPU that has made no step.
use Rattle.std.proofs.Common.{ℕ, refl, arith}
use Rattle.xp_words.specs.Machine.{Machine}
use Rattle.xp_board.specs.Hands.{empty}
use Rattle.xp_board.specs.Lists.{times_by, EachOf}
use Rattle.xp_board.specs.Steps.{last_since}
use Rattle.xp_board.specs.WellFormed.{WellFormed, IsRaisedFormed, IsCacheFormed, IsOwnFormed}
use Rattle.xp_board.specs.Found.{OwnFound}
use Rattle.xp_words.specs.declared.place.Place.{Place}
use Rattle.xp_words.specs.Places.{Sizes}

empty_raised : IsRaisedFormed empty
unfolding times_by
empty_raised = record { held = λ f. omega arith }

empty_cache : IsCacheFormed empty
empty_cache = record { few = omega arith; walk = λ walk e. absurd (cc) }

empty_own : (n : Machine) (s : ℕ) → IsOwnFormed n s empty
unfolding last_since
empty_own n s = record { run = refl; old0 = refl; old1 = refl }

pub empty_formed : (n : Machine) (s : ℕ) → WellFormed n s empty
unfolding EachOf
empty_formed n s =
    record {
      works = tt;
      locks = tt;
      ending = tt;
      claimed = tt;
      raised = empty_raised;
      looking = tt;
      cache = empty_cache;
      own = empty_own n s;
      places = tt;
      turn = omega arith;
      acked = omega arith;
      ran = omega arith;
    }

pub empty_own_found : (z : Sizes) (m : Place → ℕ) (s : ℕ) → OwnFound z m s empty
unfolding last_since
empty_own_found z m s = record { run = λ w e. absurd (cc); words = λ k w a b o e. absurd (cc) }
