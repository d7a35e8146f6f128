use Rattle.vcpu_turn.specs.Lists.{Tried}
use Rattle.vcpu_turn.proofs.Trying as trying
use Rattle.vcpu_turn.proofs.laws.asked_between_and_within.Goals as goal

pub returns-clause-counts : goal.returns-clause-counts
returns-clause-counts g c items v w from to answers answer works = trying.works_asks works

pub returns-clause-fits : goal.returns-clause-fits
returns-clause-fits g c items v w from to answers answer works =
    trying.tried_each (λ (t : Tried). g.L.Items.fits items t.number t.before t.behind t.asked t.answer) (λ k x y asked a fit. fit) works
