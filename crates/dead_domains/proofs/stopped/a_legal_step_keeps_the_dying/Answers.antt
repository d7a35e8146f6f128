use Rattle.dead_domains.proofs.Halves.{by_act}
use Rattle.dead_domains.proofs.stopped.a_legal_step_keeps_the_dying.Goals as goal

pub returns : goal.returns
returns c n s x m m2 h h2 real legal step sound =
    by_act n s x m m2 h h2 real legal step sound c.a_legal_mark_keeps_the_machine_sound.ensures (λ b behind may acted. c.the_destroyer_alone_buries.ensures n s x m m2 b h2 real may acted behind)
