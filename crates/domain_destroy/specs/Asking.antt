-- What a destruction asks, why it stops, and what a guest sees of it.
use Rattle.std.specs.Prelude.{◌≡◌, ℕ, nat_lt, if◌then◌else◌, Bool, true, List, ◌++◌, length, All, Option, Some, None, Result}
use Rattle.xp_words.specs.Machine.{Machine}
use Rattle.xp_words.specs.declared.reply.Pause.TheVariants.{Alive, Busy, Due, Lost}
use Rattle.xp_words.specs.declared.reply.Refusal.{Refusal}
use Rattle.xp_words.specs.declared.reply.Refusal.TheVariants.{Dying, NoDomain, NoPrivilege}
use Rattle.xp_words.specs.declared.reply.Stop.{Stop}
use Rattle.xp_words.specs.declared.reply.Stop.TheVariants.{Paused, Refused}
use Rattle.xp_board.specs.Readings.{domain_of}
use Rattle.xp_board.specs.Told.{PortValue}
use Rattle.step_maker.specs.Answers.{Deed, Returns, Serves, SetsLife, SetsWord, Stops, Unpins, misses}
use Rattle.step_maker.specs.Asked.{Request, of_destroy}
use Rattle.level_release.specs.Asking.{is_due_answer, is_due_stop}

-- ---- what is asked
-- a number that names no domain is refused by itself
abbrev pub domain_refusal : Machine → ℕ → Option Refusal
domain_refusal n d = if nat_lt d (length n.page_limit) then None else Some NoDomain

-- to destroy the domain of that number. `rose`: the gate said yes
abbrev pub of_domain : Machine → ℕ → Bool → Request
of_domain n d rose = record (of_destroy d rose) { by_numbers = domain_refusal n d }

-- ---- why it stops
abbrev pub IsDestroyStop : Stop → Type 0
IsDestroyStop (Refused NoDomain) = Unit {0}
IsDestroyStop (Refused (NoPrivilege caller domain)) = Unit {0}
IsDestroyStop (Refused (Dying domain found)) = Unit {0}
IsDestroyStop (Paused Due) = Unit {0}
IsDestroyStop (Paused (Lost place expected found)) = Unit {0}
IsDestroyStop (Paused (Busy frame found)) = Unit {0}
IsDestroyStop (Paused (Alive vcpu found)) = Unit {0}
IsDestroyStop _ = ⊥

-- the steps show why; where that is the gate, it said yes
abbrev pub StopsDestroyer : PortValue → PortValue → ℕ → Stop → Type 0
StopsDestroyer v w d e = (rose : Bool) → (is_due_stop e ≡ true → rose ≡ true) → Stops v w (of_domain v.post.machine d rose) e

-- ---- what a guest sees
-- the life word of the domain, the words of its vCPUs, which are emptied, pins that come off, and frames that are given back
abbrev pub IsDestroyDeed : Machine → ℕ → Deed → Type 0
IsDestroyDeed n d (SetsLife x w) = x ≡ d
IsDestroyDeed n d (SetsWord v k w) = (domain_of n v ≡ d) × (w ≡ 0)
IsDestroyDeed n d (Unpins f) = Unit {0}
IsDestroyDeed n d (Returns f) = Unit {0}
IsDestroyDeed n d _ = ⊥

-- The steps from v to w serve it; a guest sees such deeds of them, and the exchange that was lost, where it is paused for one.
pub record ServesDestroy {A : Type 0} (v w : PortValue) (d : ℕ) (answer : Result A Stop) : Type 0 where
  pub deeds : List Deed
  pub are : All (IsDestroyDeed v.post.machine d) deeds
  pub serves : (rose : Bool) → (is_due_answer answer ≡ true → rose ≡ true) → Serves v w (of_domain v.post.machine d rose) (misses v.post.machine answer ++ deeds)
