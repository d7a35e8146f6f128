-- Elements that their numbers alone refuse.
use Rattle.std.proofs.Common.{[], refl, inl}
use Rattle.xp_words.specs.declared.reply.Refusal.TheVariants.{BadRange, BadCommand}
use Rattle.xp_words.specs.declared.reply.Stop.TheVariants.{Refused}
use Rattle.xp_words.specs.declared.reply.Refusal.{Refusal}
use Rattle.xp_board.specs.Told.{PortValue}
use Rattle.step_maker.specs.Answers.{Serves, Stops}
use Rattle.step_maker.specs.Asked.{of_numbers}
use Rattle.step_maker.proofs.Piecing.{serves_nothing}

pub no_step : (v : PortValue) (x : Refusal) → Serves v v (of_numbers x) []
no_step v x = serves_nothing v (of_numbers x)

pub misaligned : (v : PortValue) → Stops v v (of_numbers BadRange) (Refused BadRange)
unfolding Stops
misaligned v = inl refl

pub unknown : (v : PortValue) → Stops v v (of_numbers BadCommand) (Refused BadCommand)
unfolding Stops
unknown v = refl
