-- Destructions between turns, and in one.
use Rattle.std.specs.Prelude.{◌≡◌, ℕ, ◌+◌, ◌<◌, ◌==◌, not, Bool, List, Contains, slice_get, Some, None, Result, Ok, Err, IsTrue}
use Rattle.xp_words.specs.Places.{sizes_of}
use Rattle.xp_words.specs.declared.ops.Op.TheVariants as ops
use Rattle.xp_words.specs.declared.place.Place.TheVariants.{Life}
use Rattle.xp_words.specs.declared.reply.LogLine.{LogLine}
use Rattle.xp_words.specs.declared.reply.LogLine.TheVariants as lines
use Rattle.xp_words.specs.declared.reply.Reply.{Reply}
use Rattle.xp_words.specs.declared.reply.Stop.{Stop}
use Rattle.xp_board.specs.Steps.{some_since}
use Rattle.xp_board.specs.Told.{PortValue}
use Rattle.dead_domains.specs.Buried.{HasBuried}
use Rattle.domain_destroy.specs.Coming.{HasComeTo, lefts_in}
use Rattle.domain_destroy.specs.Destroying.{DomainDestroyed}
use Rattle.vcpu_turn.specs.Cpus.{Job, OfCalls, OfDestroy, OfOne, Processing}
use Rattle.vcpu_turn.specs.declared.cpu.Progress.{Progress}

-- ---- in a turn
-- a destruction is one element, which is done once the domain is dead
abbrev pub done_behind : ℕ → Result ℕ Stop → ℕ
done_behind done (Ok left) = 1
done_behind done (Err e) = done

-- The destruction of domain x, the operation of that number, went on from the place where it stood.
pub record WentOnDestroying (x op : ℕ) (v : PortValue) (from to : Progress) (w : PortValue) (log log' : List LogLine) (answers : List Bool) (answer : Result ℕ Stop) : Type 0 where
  pub destroyed : DomainDestroyed v w x op from.place to.place log log' answers answer
  pub to_is : to ≡ record from { done = done_behind from.done answer; place = to.place }

-- ---- between turns
-- How far the destruction has come that is the operation of that number, where it is one. An operation that is none has listed no frame.
abbrev pub KnowsPlace : PortValue → Job → ℕ → Progress → List LogLine → Type 0
KnowsPlace v (OfDestroy x) op at log = HasComeTo v x at.place op log
KnowsPlace v (OfOne task) op at log = lefts_in op log ≡ 0
KnowsPlace v (OfCalls calls) op at log = lefts_in op log ≡ 0

-- no operation behind the next one has listed a frame
abbrev pub ListsNoneAhead : Processing → Type 0
ListsNoneAhead c = (op : ℕ) → c.answered + 1 < op → lefts_in op c.log ≡ 0

-- each destruction in the script that is answered without a refusal has buried its domain, by the steps of this vCPU, and listed what was left then
abbrev pub KeepsBuried : PortValue → Processing → Type 0
KeepsBuried v c = (i x : ℕ) (reply : Reply) → slice_get c.script i ≡ Some (ops.Destroy x) → Contains c.log (lines.Answer (i + 1) 0 reply) → reply.refusal ≡ None →
    HasBuried v.post.machine v.post.vcpu x (i + 1) 0 v.holdings c.log

-- the vCPU has found that domain d, its own, does not live
abbrev pub KnowsDying : PortValue → ℕ → Type 0
KnowsDying v d = IsTrue (some_since (sizes_of v.post.machine) 0 (Life d) (λ w. not (w == 0)) v.holdings.steps)
