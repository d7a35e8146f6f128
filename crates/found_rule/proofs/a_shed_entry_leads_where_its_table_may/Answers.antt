use Rattle.found_rule.proofs.ShedFacts.{shed_permitted, shed_live}
use Rattle.found_rule.proofs.a_shed_entry_leads_where_its_table_may.Goals as goal

pub returns-clause-permitted : goal.returns-clause-permitted
returns-clause-permitted c n m h s f upto g e t real sound may seen = shed_permitted n s m h real sound f upto e may g t seen

pub returns-clause-live : goal.returns-clause-live
returns-clause-live c n m h s f upto g e t real sound may seen settled = shed_live n s m h real sound f upto e may g t settled seen
