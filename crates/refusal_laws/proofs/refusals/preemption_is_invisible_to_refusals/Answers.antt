use Rattle.std.specs.Prelude.{Err}
use Rattle.xp_words.specs.declared.reply.Stop.TheVariants.{Refused}
use Rattle.table_law.specs.Alone.{alone}
use Rattle.table_law.specs.Plain.{plain_of}
use Rattle.xp_board.specs.Told.{told_word}
use Rattle.pause_laws.proofs.Repeating.{all_last}
use Rattle.refusal_laws.proofs.Deciding.{comes_to, owed_on, owed_settled, refused_as}
use Rattle.refusal_laws.proofs.refusals.preemption_is_invisible_to_refusals.Goals as goal

pub returns-clause-decided : goal.returns-clause-decided
returns-clause-decided c v w f owner level answer machine telling calm orderly none low high calls decided =
    comes_to v.post.machine owner v w f level (alone v.post.machine owner level f (plain_of (told_word v))) answer none (all_last v f owner level w answer machine telling calm orderly low high calls) decided

pub returns-clause-settled : goal.returns-clause-settled
returns-clause-settled c v w f owner level x machine telling calm orderly none low high a final =
    let n = v.post.machine in
    let o = alone n owner level f (plain_of (told_word v)) in
    let r = refused_as n owner v a.refused f level x o none (all_last v f owner level a.refused (Err (Refused x)) machine telling calm orderly low high a.calls final) in
    owed_settled n a.next w f level o.left (owed_on n a.refused a.next f level o.left a.on r.owes) a.settled
