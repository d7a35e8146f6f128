-- Whether a call ended since its gate said yes.
use Rattle.std.proofs.Common.{◌≡◌, false, refl}
use Rattle.xp_words.specs.declared.reply.Pause.TheVariants as pauses
use Rattle.xp_words.specs.declared.reply.Stop.{Stop}
use Rattle.xp_words.specs.declared.reply.Stop.TheVariants.{Paused, Refused}
use Rattle.frame_words.specs.Refs.{IsRefStop}
use Rattle.table_entries.specs.Ending.{is_due_stop}

-- a reference that is not to be had is no pause for the gate
pub reference_undue : (e : Stop) → IsRefStop e → is_due_stop e ≡ false
reference_undue (Refused x) is = refl
reference_undue (Paused (pauses.Lost place expected found)) is = refl
reference_undue (Paused _) is = absurd is
