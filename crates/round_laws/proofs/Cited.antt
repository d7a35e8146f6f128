-- The laws of lower crates on which this one rests, as their clauses say them.
use Rattle.std.specs.Prelude.{◌≡◌, ◌≢◌, ◌⊎◌, ◌<◌, ◌≤◌, ℕ, Bool, false, List, length, Option, Some, Ok, Err}
use Rattle.xp_words.specs.declared.ops.Op.{Op}
use Rattle.xp_words.specs.declared.place.Place.{Place}
use Rattle.xp_words.specs.declared.place.Place.TheVariants.{Clock}
use Rattle.xp_words.specs.declared.reply.Pause.{Pause}
use Rattle.xp_words.specs.declared.reply.Pause.TheVariants.{Due, Flush}
use Rattle.xp_words.specs.declared.reply.Stop.TheVariants.{Paused}
use Rattle.xp_words.specs.Places.{asked_of, flushed_of, run_of}
use Rattle.xp_board.specs.Readings.{last_clock}
use Rattle.xp_board.specs.Told.{PortValue, told_word}
use Rattle.step_maker.specs.Moves.{Came}
use Rattle.answer_laws.specs.Alone.{IsAlone}
use Rattle.level_release.specs.Course.{left_settled}
use Rattle.frame_ranks.specs.Ranks.{AreAllAlive, GetsFurther, GoesForward}
use Rattle.vcpu_turn.specs.Unhindered.{IsSparedIn, IsUnhindered}
use Rattle.course_laws.specs.Courses.{IsOrderly}
use Rattle.turn_measures.specs.Measures.{DestroysNothing, IsWithin, KeepsLeft, LeavesOthers, StaysAt, ahead, left_rank, olds_named}
use Rattle.vcpu_turn.specs.Cpus.{Processing, next_of}
use Rattle.vcpu_turn.specs.Settling.{Settles}
use Rattle.vcpu_turn.specs.Turning.{GoesOnWith, IsTurn}
use Rattle.vcpu_turn.specs.declared.cpu.TurnEnd.{TurnEnd}
use Rattle.vcpu_turn.specs.declared.cpu.TurnEnd.TheVariants as ends

-- of turns
pub record TurnLaws : Type 0 where
  pub stays : (v w : PortValue) → IsAlone v → Came v w → IsAlone w
  pub orderly : (v : PortValue) → IsAlone v → IsOrderly v.post.machine (told_word v)
  pub within : (c d : Processing) (end : TurnEnd) (v w : PortValue) (answers : List Bool) → IsWithin c → c.retired ≡ false → IsSparedIn v.post.machine (next_of c) end → IsTurn c d end v w answers → IsWithin d
  pub gets : (c d : Processing) (end : TurnEnd) (v w : PortValue) (answers : List Bool) → IsWithin c → c.retired ≡ false → IsSparedIn v.post.machine (next_of c) end → IsTurn c d end v w answers →
      (ahead d < ahead c) ⊎ StaysAt c d end
  pub others : (c d : Processing) (end : TurnEnd) (v w : PortValue) (answers : List Bool) → IsAlone v → DestroysNothing (next_of c) → IsTurn c d end v w answers → LeavesOthers v.post.machine v.post.vcpu (told_word v) (told_word w)
  pub keeps : (below : Option ℕ) (v w : PortValue) (answers : List Bool) (p : Pause) → IsAlone v → IsUnhindered v.post.machine (ends.Paused p) → KeepsLeft (told_word v) v.post.vcpu below →
      (settles : Settles below v w answers (Err (Paused p))) → KeepsLeft (told_word w) v.post.vcpu (left_settled settles.course)
  pub less : (below : Option ℕ) (v w : PortValue) (answers : List Bool) (p : Pause) → IsAlone v → IsUnhindered v.post.machine (ends.Paused p) → KeepsLeft (told_word v) v.post.vcpu below →
      (settles : Settles below v w answers (Err (Paused p))) →
      (olds_named (told_word w) v.post.vcpu < olds_named (told_word v) v.post.vcpu)
      ⊎ ((olds_named (told_word w) v.post.vcpu ≡ olds_named (told_word v) v.post.vcpu) × (left_rank (left_settled settles.course) < left_rank below))
  pub none : (below : Option ℕ) (v w : PortValue) (answers : List Bool) → IsAlone v → Settles below v w answers (Ok tt) → olds_named (told_word w) v.post.vcpu ≡ 0
  pub same : (below : Option ℕ) (v w : PortValue) (answers : List Bool) → IsAlone v → Settles below v w answers (Ok tt) → olds_named (told_word v) v.post.vcpu ≡ 0 → (q : Place) → told_word w q ≡ told_word v q
  pub forward : (c d : Processing) (op : Op) (v w : PortValue) (answers : List Bool) (p : Pause) → IsAlone v → DestroysNothing (Some op) → AreAllAlive v.post.machine (told_word v) → olds_named (told_word v) v.post.vcpu ≡ 0 →
      IsUnhindered v.post.machine (ends.Paused p) → GoesOnWith c op d v w answers (ends.Paused p) → d.at.call ≡ c.at.call → d.at.done ≡ c.at.done → GoesForward v.post.machine (told_word v) (told_word w)
  pub further : (c d : Processing) (op : Op) (v w : PortValue) (answers : List Bool) → IsAlone v → DestroysNothing (Some op) → AreAllAlive v.post.machine (told_word v) → olds_named (told_word v) v.post.vcpu ≡ 0 →
      GoesOnWith c op d v w answers (ends.Paused Due) → d.at.call ≡ c.at.call → d.at.done ≡ c.at.done → GetsFurther v.post.machine (told_word v) (told_word w)

-- of waits for flushes
pub record ClockLaws : Type 0 where
  pub other : (c d : Processing) (v w : PortValue) (answers : List Bool) (u stamp found : ℕ) → IsTurn c d (ends.Paused (Flush u stamp found)) v w answers → (u ≢ v.post.vcpu) × (u < length v.post.machine.vcpu_domain)
  pub runs : (c d : Processing) (v w : PortValue) (answers : List Bool) (u stamp found : ℕ) → IsAlone v → IsTurn c d (ends.Paused (Flush u stamp found)) v w answers → told_word w (run_of u) ≡ 0
  pub asked : (c d : Processing) (v w : PortValue) (answers : List Bool) (u stamp found : ℕ) → IsAlone v → IsTurn c d (ends.Paused (Flush u stamp found)) v w answers →
      told_word w (flushed_of u) ≤ told_word w (asked_of u)
  pub clock : (c d : Processing) (end : TurnEnd) (v w : PortValue) (answers : List Bool) → IsAlone v → told_word v (flushed_of v.post.vcpu) ≤ told_word v (asked_of v.post.vcpu) → told_word v Clock ≢ last_clock →
      IsTurn c d end v w answers → told_word v Clock < told_word w Clock
