use Rattle.std.specs.Prelude.{Err}
use Rattle.xp_words.specs.declared.reply.Stop.TheVariants.{Refused}
use Rattle.table_law.specs.Alone.{alone}
use Rattle.table_law.specs.Plain.{plain_of}
use Rattle.xp_board.specs.Told.{told_word}
use Rattle.course_laws.proofs.Deciding.{one_call}
use Rattle.refusal_laws.proofs.Deciding.{refused_as}
use Rattle.refusal_laws.proofs.refusals.a_refused_acquisition_is_refused_as_the_plain_one.Goals as goal

pub returns : goal.returns
returns c v w f owner level answers x machine telling calm orderly none low high acquired final =
    refused_as v.post.machine owner v w f level x (alone v.post.machine owner level f (plain_of (told_word v))) none (one_call v f owner level machine telling calm orderly low high w answers (Err (Refused x)) acquired final)
