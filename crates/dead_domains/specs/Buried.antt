-- A vCPU that stored that a domain is dead, by its own steps, and what that domain leaves then.
use Rattle.std.specs.Prelude.{◌≡◌, ℕ, ◌+◌, ◌<◌, ◌≤◌, ◌==◌, IsTrue, List, ◌∷◌, ◌++◌, length, Contains, Some}
use Rattle.xp_words.specs.Machine.{Machine}
use Rattle.xp_words.specs.Places.{sizes_of}
use Rattle.xp_words.specs.declared.place.Place.{Place}
use Rattle.xp_words.specs.declared.place.Place.TheVariants.{Life, Refs}
use Rattle.xp_words.specs.declared.reply.LogLine.{LogLine}
use Rattle.xp_words.specs.declared.reply.LogLine.TheVariants.{Left}
use Rattle.xp_board.specs.declared.holdings.Holdings.{Holdings}
use Rattle.xp_board.specs.declared.holdings.Made.{Made}
use Rattle.xp_board.specs.declared.step.Act.TheVariants.{Store}
use Rattle.xp_board.specs.Readings.{owner_of, ref_count}
use Rattle.xp_board.specs.Runs.{place_of}
use Rattle.xp_board.specs.Steps.{some_since}
use Rattle.dead_domains.specs.Holders.{LeftToOthers}
use Rattle.dead_domains.specs.Listing.{HasListed}

-- Of the steps of vCPU s, which holds h, one with a number from k on stored that domain d is dead. Before it one of those had found or left there that this vCPU destroys the domain; and by all
-- that were made before it the vCPU had found each frame not owned by d, or listed it in that log, under that operation.
pub record HasBuried (n : Machine) (s d op k : ℕ) (h : Holdings) (log : List LogLine) : Type 0 where
  pub before : List Made
  pub step : Made
  pub after : List Made
  pub steps : h.steps ≡ after ++ (step ∷ before)
  pub made : k ≤ length before
  pub place : place_of n step.step ≡ Life d
  pub act : step.step.act ≡ Store 255
  pub doomed : IsTrue (some_since (sizes_of n) k (Life d) (λ w. w == s + 1) before)
  -- what the vCPU held then
  pub then : Holdings
  pub then_is : then.steps ≡ before
  pub listed : HasListed n s d then op log

-- The frame stands in the log of that operation, with a reference word that says that domain d owns it, and that it is referred to.
pub record IsInList (d op g : ℕ) (log : List LogLine) : Type 0 where
  pub word : ℕ
  pub line : Contains log (Left op g word)
  pub owned : owner_of word ≡ Some d
  pub counted : 0 < ref_count word

-- Where the words are m, and each vCPU holds what h says: domain d is dead, each frame that is still its own is in the list, and others alone hold it.
pub record LeavesOnlyListed (n : Machine) (d op : ℕ) (log : List LogLine) (m : Place → ℕ) (h : ℕ → Holdings) : Type 0 where
  pub dead : m (Life d) ≡ 255
  pub listed : (g : ℕ) → owner_of (m (Refs g)) ≡ Some d → IsInList d op g log
  pub held : (g : ℕ) → owner_of (m (Refs g)) ≡ Some d → LeftToOthers n m h d g
