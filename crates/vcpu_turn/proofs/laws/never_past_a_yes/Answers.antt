use Rattle.vcpu_turn.proofs.Yeses as yeses
use Rattle.vcpu_turn.proofs.laws.never_past_a_yes.Goals as goal

pub returns : goal.returns
returns g c items v w from to before answers answer says quiet works gives j some most is_yes =
    yeses.never_past_a_yes (g.L.Items.fits items) (g.L.Items.count items) from v quiet before says to w answers answer works gives j some most is_yes
