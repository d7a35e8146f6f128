use Rattle.std.proofs.Common.{refl}
use Rattle.xp_words.specs.declared.reply.Pause.TheVariants.{Due}
use Rattle.turn_measures.proofs.Staying.{turn_comes}
use Rattle.turn_measures.proofs.pausing.a_turn_paused_within_an_element_goes_forward.Goals as goal

pub returns-clause-forward : goal.returns-clause-forward
returns-clause-forward g c d op v w answers p alone sparing alive none un goes call stays =
    (turn_comes v.post.machine g.alone_stays.ensures g.a_paused_acquisition_goes_forward.ensures.forward g.a_paused_acquisition_goes_forward.ensures.further
    (record { page = g.a_paused_taking_of_pages_goes_forward.ensures.page; referred = g.a_paused_taking_of_pages_goes_forward.ensures.referred; gdt = g.a_paused_taking_of_pages_goes_forward.ensures.gdt })
    g.a_settling_that_ends_names_none.ensures.same c d op v w answers p
    (record { alone = alone; alive = alive; none = none }) sparing un goes call stays).forward

pub returns-clause-further : goal.returns-clause-further
returns-clause-further g c d op v w answers alone sparing alive none goes call stays =
    (turn_comes v.post.machine g.alone_stays.ensures g.a_paused_acquisition_goes_forward.ensures.forward g.a_paused_acquisition_goes_forward.ensures.further
    (record { page = g.a_paused_taking_of_pages_goes_forward.ensures.page; referred = g.a_paused_taking_of_pages_goes_forward.ensures.referred; gdt = g.a_paused_taking_of_pages_goes_forward.ensures.gdt })
    g.a_settling_that_ends_names_none.ensures.same c d op v w answers Due
    (record { alone = alone; alive = alive; none = none }) sparing tt goes call stays).further refl
