-- Which translations are gone: what a vCPU has found of each vCPU after it had found a stamp.
use Rattle.std.specs.Prelude.{◌≢◌, ℕ, ◌<◌, ◌==◌, ◌||◌, ◌⊎◌, not, nat_lt, Bool, List, length, IsTrue}
use Rattle.xp_words.specs.Machine.{Machine}
use Rattle.xp_words.specs.declared.place.Place.TheVariants.{Priv}
use Rattle.xp_words.specs.Places.{Sizes, sizes_of, run_of, flushed_of}
use Rattle.xp_words.specs.KindWords.{kind_fields}
use Rattle.xp_board.specs.declared.holdings.Made.{Made}
use Rattle.xp_board.specs.declared.holdings.Holdings.{Holdings}
use Rattle.xp_board.specs.declared.holdings.Work.{Work}
use Rattle.xp_board.specs.Steps.{some_since}
use Rattle.xp_board.specs.Readings.{domain_of, has_ever}
use Rattle.xp_board.specs.Knowledge.{knows_owner}

-- a run word: stopped, or off
abbrev pub is_idle : ℕ → Bool
is_idle w = (w == 1) || (w == 2)

-- from step n on vCPU v was found stopped or off, or flushed later than the stamp
abbrev pub is_past : Sizes → ℕ → ℕ → ℕ → List Made → Bool
is_past z n stamp v steps =
    some_since z n (run_of v) is_idle steps || some_since z n (flushed_of v) (λ w. nat_lt stamp w) steps

-- from step n on the domain of vCPU v was found never to have had privilege over the frame's owner
pub record PassedOver (m : Machine) (n f v : ℕ) (h : Holdings) : Type 0 where
  pub owner : ℕ
  pub known : IsTrue (knows_owner (sizes_of m) f owner h)
  pub other : domain_of m v ≢ owner
  pub never : IsTrue (some_since (sizes_of m) n (Priv (domain_of m v)) (λ w. not (has_ever owner w)) h.steps)

-- no vCPU can have an older translation to the marked frame of that work, but to read it
abbrev pub IsPastFlush : Machine → Holdings → Work → Type 0
IsPastFlush m h e =
    (v : ℕ) → v < length m.vcpu_domain →
    IsTrue (is_past (sizes_of m) e.since (kind_fields e.word).number v h.steps) ⊎ PassedOver m e.since e.frame v h
