use Rattle.tlb_walks.proofs.Storing.{store_came, store_course, store_kinds, store_landed, store_ready, store_served, store_serves, store_stops}
use Rattle.tlb_walks.proofs.Turning.{ready_of, rests_of}
use Rattle.tlb_walks.proofs.accesses.guest_write.Goals as goal

pub returns-clause-came : goal.returns-clause-came
returns-clause-came g c = store_came _ _ c.args.user c.args.va c.args.val _ c.write_word.ensures

pub returns-clause-serves : goal.returns-clause-serves
returns-clause-serves g c = store_serves _ _ c.args.user c.args.va c.args.val _ c.write_word.ensures

pub returns-clause-stops : goal.returns-clause-stops
returns-clause-stops g c = store_stops _ _ c.args.user c.args.va c.args.val _ c.write_word.ensures

pub returns-clause-kinds : goal.returns-clause-kinds
returns-clause-kinds g c = store_kinds _ _ c.args.user c.args.va c.args.val _ c.write_word.ensures

pub returns-clause-course : goal.returns-clause-course
returns-clause-course g c = store_course _ _ c.args.user c.args.va c.args.val _ c.requires.rests.may.no_walk c.write_word.ensures

pub returns-clause-served : goal.returns-clause-served
returns-clause-served g c = λ x may is. store_served _ _ c.args.user c.args.va c.args.val _ x may is c.write_word.ensures

pub returns-clause-rests : goal.returns-clause-rests
returns-clause-rests g c =
    rests_of _ (store_ready _ _ c.args.user c.args.va c.args.val _ (ready_of _ c.requires.rests c.requires.warm) c.write_word.ensures) (store_landed _ _ c.args.user c.args.va c.args.val _ c.requires.rests.may.no_walk c.write_word.ensures)

pub returns-clause-warm : goal.returns-clause-warm
returns-clause-warm g c = (store_ready _ _ c.args.user c.args.va c.args.val _ (ready_of _ c.requires.rests c.requires.warm) c.write_word.ensures).warm
