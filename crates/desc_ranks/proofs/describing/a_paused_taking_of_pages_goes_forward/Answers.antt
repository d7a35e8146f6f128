use Rattle.desc_ranks.proofs.Tabled.{gdt_forward, page_forward, referred_forward}
use Rattle.desc_ranks.proofs.describing.a_paused_taking_of_pages_goes_forward.Goals as goal

pub returns-clause-page : goal.returns-clause-page
returns-clause-page c v w f owner x alone alive real took = page_forward c.alone_stays.ensures v w alone alive f owner x real took

pub returns-clause-referred : goal.returns-clause-referred
returns-clause-referred c v w f owner x alone alive got = referred_forward c.alone_stays.ensures v w alone alive f owner x got

pub returns-clause-gdt : goal.returns-clause-gdt
returns-clause-gdt c v w entries frames x alone alive sets = gdt_forward c.alone_stays.ensures v w alone alive entries frames x sets
