use Rattle.std.proofs.Common.{◌&&◌, Bool, sym, ap, ◌∙◌}
use Rattle.table_entries.specs.Acquiring.{is_asked}
use Rattle.level_validate.proofs.Filling.{not_asked, was_asked}
use Rattle.level_validate.proofs.acquiring.ask_behind.Goals as goal

pub returns-then-due-clause-course : goal.returns-then-due-clause-course
returns-then-due-clause-course g c =
    was_asked (ap (λ (done : Bool). done && is_asked c.args.stack.now) c.if-done.true ∙ sym c.is_asked.ensures ∙ c.if-is_asked.true) c.if-due.true c.due.ensures

pub returns-else-due-clause-course : goal.returns-else-due-clause-course
returns-else-due-clause-course g c =
    was_asked (ap (λ (done : Bool). done && is_asked c.args.stack.now) c.if-done.true ∙ sym c.is_asked.ensures ∙ c.if-is_asked.true) c.if-due.false c.due.ensures

pub returns-else-is_asked-clause-course : goal.returns-else-is_asked-clause-course
returns-else-is_asked-clause-course g c = not_asked (ap (λ (done : Bool). done && is_asked c.args.stack.now) c.if-done.true ∙ sym c.is_asked.ensures ∙ c.if-is_asked.false)

pub returns-else-done-clause-course : goal.returns-else-done-clause-course
returns-else-done-clause-course g c = not_asked (ap (λ (done : Bool). done && is_asked c.args.stack.now) c.if-done.false)
