-- A vCPU is asked to flush its translations.
use Rattle.std.specs.Prelude.{◌≡◌, ℕ, ◌≤◌, ◌==◌, ◌&&◌, ◌⊎◌, nat_le, true, Some, IsTrue}
use Rattle.xp_words.specs.Machine.{Machine}
use Rattle.xp_words.specs.KindWords.{kind_fields}
use Rattle.xp_words.specs.declared.place.Place.{Place}
use Rattle.xp_words.specs.declared.place.Place.TheVariants.{Clock, Vcpu, Refs, Priv}
use Rattle.xp_words.specs.Places.{sizes_of, run_of, flushed_of}
use Rattle.xp_board.specs.declared.step.Act.{Act}
use Rattle.xp_board.specs.declared.step.Act.TheVariants.{Max}
use Rattle.xp_board.specs.declared.holdings.Work.{Work}
use Rattle.xp_board.specs.declared.holdings.Holdings.{Holdings}
use Rattle.xp_board.specs.Steps.{some_since, some_before}
use Rattle.xp_board.specs.Readings.{domain_of, has_ever, is_free}
use Rattle.xp_board.specs.Hands.{work_on}
use Rattle.xp_board.specs.Knowledge.{knows_owner}

-- the stamp of a marked frame in the own work, which that vCPU's domain owns or has had privilege over
pub record AwaitsFrame (m : Machine) (since v stamp : ℕ) (h : Holdings) : Type 0 where
  pub work : Work
  pub here : work_on work.frame h.works ≡ Some work
  pub marked : (kind_fields work.word).unflushed ≡ true
  pub stamped : (kind_fields work.word).number ≡ stamp
  pub locked : work.since ≤ since
  pub owner : ℕ
  pub known : IsTrue (knows_owner (sizes_of m) work.frame owner h)
  pub concerned : (domain_of m v ≡ owner) ⊎ IsTrue (some_since (sizes_of m) 0 (Priv (domain_of m v)) (has_ever owner) h.steps)

-- the stamp of a free frame
pub record AwaitsFree (m : Machine) (since stamp : ℕ) (h : Holdings) : Type 0 where
  pub frame : ℕ
  pub found : IsTrue (some_before (sizes_of m) since (Refs frame) (λ w. is_free w && (w == stamp)) h.steps)

-- what the flush is awaited for: a change of type, a free frame, or a clock value that was found
abbrev pub Awaits : Machine → ℕ → ℕ → ℕ → Holdings → Type 0
Awaits m since v stamp h =
    AwaitsFrame m since v stamp h
    ⊎ (AwaitsFree m since stamp h ⊎ IsTrue (some_before (sizes_of m) since Clock (λ w. w == stamp) h.steps))

-- the vCPU was found running, and flushed no later than the stamp, after the stamp was found
pub record MayAsk (m : Machine) (v stamp : ℕ) (h : Holdings) : Type 0 where
  pub since : ℕ
  pub awaits : Awaits m since v stamp h
  pub running : IsTrue (some_since (sizes_of m) since (run_of v) (λ w. w == 0) h.steps)
  pub flushed : IsTrue (some_since (sizes_of m) since (flushed_of v) (λ w. nat_le w stamp) h.steps)

abbrev pub LegalAsk : Machine → Holdings → Place → Act → Type 0
LegalAsk m h (Vcpu v k) (Max value) = (k ≡ 4) × MayAsk m v value h
LegalAsk m h _ _ = ⊥
