-- What is shown of a run that one thread makes.
use Rattle.std.specs.Prelude.{ℕ}
use Rattle.command_words.specs.declared.asked.Manner.TheVariants as manners
use Rattle.xp_machine.specs.Outcome.{Shown}
use Rattle.xp_machine.specs.Outcome as shows

-- In threads the order of steps is open, and so is the text.
abbrev pub IsOfOneThread : Shown → Type 0
IsOfOneThread (shows.reported manners.Turns) = Unit {0}
IsOfOneThread (shows.reported manners.Replay) = ⊥
IsOfOneThread shows.told = Unit {0}
IsOfOneThread shows.imaged = Unit {0}
