-- What the destructions of a whole run left.
use Rattle.std.specs.Prelude.{◌≡◌, ℕ, ◌+◌, Contains, List, slice_get, None, Some}
use Rattle.xp_words.specs.Machine.{Machine}
use Rattle.xp_words.specs.declared.ops.Op.TheVariants.{Destroy}
use Rattle.xp_words.specs.declared.place.Place.{Place}
use Rattle.xp_words.specs.declared.reply.LogLine.TheVariants.{Answer}
use Rattle.xp_words.specs.declared.reply.Reply.{Reply}
use Rattle.xp_board.specs.declared.holdings.Holdings.{Holdings}
use Rattle.dead_domains.specs.Buried.{LeavesOnlyListed}
use Rattle.vcpu_turn.specs.Cpus.{Processing}

-- Where the words are m, and each vCPU holds what h says: for each operation of these vCPUs that destroys a domain, and was answered without a refusal, the domain is dead, each frame that
-- is still its own is listed under that operation, and others alone hold it.
abbrev pub AreDestroyed : Machine → (Place → ℕ) → (ℕ → Holdings) → List Processing → Type 0
AreDestroyed n m h cpus = (s i x : ℕ) (c : Processing) (reply : Reply) → slice_get cpus s ≡ Some c → slice_get c.script i ≡ Some (Destroy x) → Contains c.log (Answer (i + 1) 0 reply) → reply.refusal ≡ None →
    LeavesOnlyListed n x (i + 1) c.log m h
