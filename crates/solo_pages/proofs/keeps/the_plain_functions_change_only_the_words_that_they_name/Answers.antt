use Rattle.solo_pages.proofs.Keeping.{clears_beside, copies_beside, descriptors_beside, gdt_beside, ldt_beside, touches_beside}
use Rattle.solo_pages.proofs.keeps.the_plain_functions_change_only_the_words_that_they_name.Goals as goal

pub returns-clause-cleared : goal.returns-clause-cleared
returns-clause-cleared c = clears_beside

pub returns-clause-copied : goal.returns-clause-copied
returns-clause-copied c = copies_beside

pub returns-clause-described : goal.returns-clause-described
returns-clause-described c = descriptors_beside

pub returns-clause-gdt : goal.returns-clause-gdt
returns-clause-gdt c = gdt_beside

pub returns-clause-ldt : goal.returns-clause-ldt
returns-clause-ldt c = ldt_beside

pub returns-clause-touched : goal.returns-clause-touched
returns-clause-touched c = touches_beside
