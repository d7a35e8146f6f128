-- Whether a call ended since its gate said yes.
use Rattle.std.specs.Prelude.{not, Bool, true, false, Result, Ok, Err}
use Rattle.xp_words.specs.declared.reply.Pause.TheVariants.{Due}
use Rattle.xp_words.specs.declared.reply.Stop.{Stop}
use Rattle.xp_words.specs.declared.reply.Stop.TheVariants.{Paused}
use Rattle.frame_types.specs.Plain.{is_refused}

abbrev pub is_due_stop : Stop → Bool
is_due_stop (Paused Due) = true
is_due_stop _ = false

-- the gate said yes
abbrev pub is_due_answer : {A : Type 0} → Result A Stop → Bool
is_due_answer (Err e) = is_due_stop e
is_due_answer (Ok a) = false

-- it may have: of a call that is done, its release may be paused
abbrev pub may_rise : {A : Type 0} → Result A Stop → Bool
may_rise (Ok a) = true
may_rise (Err e) = is_due_stop e

-- it is a pause
abbrev pub is_paused_answer : {A : Type 0} → Result A Stop → Bool
is_paused_answer (Err e) = not (is_refused e)
is_paused_answer (Ok a) = false
