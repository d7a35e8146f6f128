use Rattle.vcpu_turn.proofs.Listing as listing
use Rattle.vcpu_turn.proofs.laws.asked_exactly.Goals as goal

pub returns : goal.returns
returns g c items v w from to answers answer quiet works =
    listing.asked_exactly (g.L.Items.fits items) (g.L.Items.count items) from v quiet to w answers answer works
