use Rattle.tlb_walks.proofs.Reading.{read_came, read_course, read_kinds, read_landed, read_ready, read_served, read_serves, read_stops}
use Rattle.tlb_walks.proofs.Turning.{ready_of, rests_of}
use Rattle.tlb_walks.proofs.accesses.guest_read.Goals as goal

pub returns-clause-came : goal.returns-clause-came
returns-clause-came g c = read_came _ _ c.args.user c.args.va _ c.read_word.ensures

pub returns-clause-serves : goal.returns-clause-serves
returns-clause-serves g c = read_serves _ _ c.args.user c.args.va _ c.read_word.ensures

pub returns-clause-stops : goal.returns-clause-stops
returns-clause-stops g c = read_stops _ _ c.args.user c.args.va _ c.read_word.ensures

pub returns-clause-kinds : goal.returns-clause-kinds
returns-clause-kinds g c = read_kinds _ _ c.args.user c.args.va _ c.read_word.ensures

pub returns-clause-course : goal.returns-clause-course
returns-clause-course g c = read_course _ _ c.args.user c.args.va _ c.requires.rests.may.no_walk c.read_word.ensures

pub returns-clause-served : goal.returns-clause-served
returns-clause-served g c = λ x may is. read_served _ _ c.args.user c.args.va _ x may is c.read_word.ensures

pub returns-clause-rests : goal.returns-clause-rests
returns-clause-rests g c =
    rests_of _ (read_ready _ _ c.args.user c.args.va _ (ready_of _ c.requires.rests c.requires.warm) c.read_word.ensures) (read_landed _ _ c.args.user c.args.va _ c.requires.rests.may.no_walk c.read_word.ensures)

pub returns-clause-warm : goal.returns-clause-warm
returns-clause-warm g c = (read_ready _ _ c.args.user c.args.va _ (ready_of _ c.requires.rests c.requires.warm) c.read_word.ensures).warm
