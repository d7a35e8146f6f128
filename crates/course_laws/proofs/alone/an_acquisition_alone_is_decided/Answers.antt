use Rattle.course_laws.proofs.Awaiting.{answered, decided}
use Rattle.course_laws.proofs.Stopping.{acquired_stops}
use Rattle.course_laws.proofs.alone.an_acquisition_alone_is_decided.Goals as goal

pub returns-clause-several : goal.returns-clause-several
returns-clause-several c v w f owner level answers answer alone acquired none goes =
    answered c.alone_stays.ensures c.a_call_alone_is_neither_lost_nor_busy.ensures v w alone goes answer (acquired_stops v f owner level w answers answer acquired (λ e. none))

pub returns-clause-one : goal.returns-clause-one
returns-clause-one c v w f owner level answers answer alone one acquired none goes =
    decided c.alone_stays.ensures c.a_call_alone_is_neither_lost_nor_busy.ensures v w alone goes c.nobody_is_waited_for.ensures one answer (acquired_stops v f owner level w answers answer acquired (λ e. none))
