-- The next operation, and how far it is, as the code sees it.
use Rattle.std.proofs.Common.{◌≡◌, ℕ, ◌+◌, ◌≤◌, Bool, List, Option, Some, Result, IfErr, sym, ap, ◌∙◌, subst}
use Rattle.xp_words.specs.declared.ops.Op.{Op}
use Rattle.xp_words.specs.declared.reply.LogLine.{LogLine}
use Rattle.xp_words.specs.declared.reply.Stop.{Stop}
use Rattle.xp_board.specs.Told.{PortValue}
use Rattle.vcpu_turn.specs.Calls.{WentBy}
use Rattle.vcpu_turn.specs.Cpus.{IsMade, Job, Processing, job_next, job_of, next_of, room_from}
use Rattle.vcpu_turn.specs.Destroying.{KnowsPlace}
use Rattle.vcpu_turn.specs.declared.cpu.Progress.{Progress}
use Rattle.vcpu_turn.proofs.Destroyed.{seen_on}
use Rattle.vcpu_turn.proofs.NextOps.{made_less}

module _ (seen c : Processing) (is : seen ≡ c) (v : PortValue) where
  pub frames_seen : c.frames ≡ v.post.machine.frames → seen.frames ≡ v.post.machine.frames
  frames_seen same = ap (λ (x : Processing). x.frames) is ∙ same

  module _ (op : Op) (next : next_of seen ≡ Some op) where
    pub place_seen : KnowsPlace v (job_next (next_of c)) (c.answered + 1) c.at c.log → KnowsPlace v (job_of op) (seen.answered + 1) seen.at seen.log
    place_seen knows =
        subst (λ (o : Option Op). KnowsPlace v (job_next o) (seen.answered + 1) seen.at seen.log) next
        (subst (λ (x : Processing). KnowsPlace v (job_next (next_of x)) (x.answered + 1) x.at x.log) (sym is) knows)

    pub place_behind : (answer : Result ℕ Stop) (to : Progress) (log : List LogLine) → IfErr answer (λ e. KnowsPlace v (job_of op) (seen.answered + 1) to log) → IfErr answer (λ e. KnowsPlace v (job_next (next_of c)) (c.answered + 1) to log)
    place_behind answer to log knows =
        subst (λ (x : Processing). IfErr answer (λ e. KnowsPlace v (job_next (next_of x)) (x.answered + 1) to log)) is
        (subst (λ (o : Option Op). IfErr answer (λ e. KnowsPlace v (job_next o) (seen.answered + 1) to log)) (sym next) knows)

    pub made_kept : c.frames ≡ v.post.machine.frames → KnowsPlace v (job_next (next_of c)) (c.answered + 1) c.at c.log → (to : Progress) (w : PortValue) (log : List LogLine) (answers : List Bool) (answer : Result ℕ Stop) →
        WentBy seen.domain (job_of op) (seen.answered + 1) v seen.at to w seen.log log answers answer → IsMade seen.frames (next_of seen) to
    made_kept same knows to w log answers answer went =
        subst (λ (o : Option Op). IsMade seen.frames o to) (sym next)
        (made_less seen.frames (job_of op) to
        (seen_on seen.domain (seen.answered + 1) v seen.at to w seen.log log answers answer (job_of op) seen.frames (frames_seen same) (place_seen knows) went))

-- as many frames as the machine has
pub room_of_port : (job : Job) (n m : ℕ) → n ≡ m → (k len capacity made : ℕ) → len + room_from n job k ≤ capacity + made → len + room_from m job k ≤ capacity + made
room_of_port job n m same k len capacity made room = subst (λ x. len + room_from x job k ≤ capacity + made) same room

pub room_of_cpu : (job : Job) (n m : ℕ) → n ≡ m → (k l len len' made made' : ℕ) → len' + room_from m job l + made ≤ len + room_from m job k + made' → len' + room_from n job l + made ≤ len + room_from n job k + made'
room_of_cpu job n m same k l len len' made made' room = subst (λ x. len' + room_from x job l + made ≤ len + room_from x job k + made') (sym same) room
