use Rattle.xp_board.proofs.HandLists.{EachOf-map}
use Rattle.acquisition_laws.specs.Forward.{Forward}
use Rattle.acquisition_laws.specs.Leaving.{LeftWell}
use Rattle.acquisition_laws.proofs.Walking.{acquired_goes}
use Rattle.acquisition_laws.proofs.laws.an_acquisition_goes_forward.Goals as goal

pub returns : goal.returns
unfolding Forward LeftWell
returns c =
    record {
      forward = λ v w f owner level answers answer a. let g = acquired_goes v f owner level w answers answer a in (g.moments, g.ran, EachOf-map _ _ g.moments (λ m fits. fits.forward) g.fits);
      leaves = λ v w f owner level answers answer a. let g = acquired_goes v f owner level w answers answer a in (g.moments, g.ran, EachOf-map _ _ g.moments (λ m fits. fits.leaves) g.fits);
    }
