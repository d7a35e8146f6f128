use Rattle.acquisition_laws.proofs.Answered.{acquired_answers}
use Rattle.acquisition_laws.proofs.laws.an_acquisition_stops_at_its_first_yes.Goals as goal

pub returns : goal.returns
returns c =
    record {
      once = λ v w f owner level answers answer a. (acquired_answers a).0;
      last = λ v w f owner level answers answer a. (acquired_answers a).1;
    }
