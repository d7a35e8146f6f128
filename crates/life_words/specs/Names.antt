-- When a word of another vCPU may be emptied.
use Rattle.std.specs.Prelude.{◌≢◌, ◌+◌, ◌==◌, ℕ, IsTrue}
use Rattle.xp_words.specs.Places.{run_of, sizes_of}
use Rattle.xp_words.specs.declared.place.Place.TheVariants.{Life}
use Rattle.xp_board.specs.Readings.{domain_of}
use Rattle.xp_board.specs.Steps.{some_since}
use Rattle.xp_board.specs.Told.{PortValue}

-- it is another vCPU, was found stopped, and of a domain that the own vCPU destroys
pub record MayEmptyWord (v : PortValue) (vcpu : ℕ) : Type 0 where
  pub other : vcpu ≢ v.post.vcpu
  pub destroys : IsTrue (some_since (sizes_of v.post.machine) 0 (Life (domain_of v.post.machine vcpu)) (λ w. w == v.post.vcpu + 1) v.holdings.steps)
  pub stopped : IsTrue (some_since (sizes_of v.post.machine) 0 (run_of vcpu) (λ w. w == 1) v.holdings.steps)
