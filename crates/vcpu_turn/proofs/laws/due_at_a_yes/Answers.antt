use Rattle.vcpu_turn.proofs.Yeses as yeses
use Rattle.vcpu_turn.proofs.laws.due_at_a_yes.Goals as goal

pub returns : goal.returns
returns g c items v w from to before answers answer says quiet works gives said due most =
    yeses.due_at_a_yes (g.L.Items.fits items) (g.L.Items.count items) from v quiet before says to w answers answer works gives said due most
