-- The work on a call, and the end of its answer, are steps of the port.
use Rattle.std.proofs.Common.{ℕ, Bool, List, Option, Result}
use Rattle.xp_words.specs.declared.reply.LogLine.{LogLine}
use Rattle.xp_words.specs.declared.reply.Stop.{Stop}
use Rattle.xp_board.specs.Told.{PortValue}
use Rattle.step_maker.specs.Moves.{Came}
use Rattle.step_maker.proofs.Coming.{moves_came}
use Rattle.vcpu_turn.specs.Calls.{EndsCall}
use Rattle.vcpu_turn.specs.Cpus.{Task}
use Rattle.vcpu_turn.specs.Working.{WentOn}
use Rattle.vcpu_turn.specs.declared.cpu.CallNumber.{CallNumber}
use Rattle.vcpu_turn.specs.declared.cpu.Progress.{Progress}
use Rattle.vcpu_turn.proofs.CallsBringing.{went_brings}

pub went_came : (d : ℕ) (task : Option Task) (number : CallNumber) (v : PortValue) (from to : Progress) (w : PortValue) (log log' : List LogLine) (answers : List Bool) (answer : Result ℕ Stop) → WentOn d task number v from to w log log' answers answer → Came v w
went_came d task number v from to w log log' answers answer went = (went_brings went).came

pub cut_came : (number : ℕ) (v w : PortValue) → EndsCall number v w → Came v w
cut_came number v w ends = moves_came v w _ _ _ _ _ ends.1
