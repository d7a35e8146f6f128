-- What a vCPU and its turns are, passed on to those who run them.
pub use Rattle.vcpu_turn.specs.declared.cpu.TurnEnd.{TurnEnd}
pub use Rattle.vcpu_turn.specs.Cpus.{Processing, Task, begins_at, fresh, next_of, pending_of, task_next, task_of}
pub use Rattle.vcpu_turn.specs.Lists.{Tried}
pub use Rattle.vcpu_turn.specs.Turning.{GoesNoFurther, Idles, IsOf, IsStop, IsTurn, KnowsAwaited, Runs, StopsWhere, is_due}
pub use Rattle.vcpu_turn.specs.Working.{PassesYes, ReleasesNothing}
