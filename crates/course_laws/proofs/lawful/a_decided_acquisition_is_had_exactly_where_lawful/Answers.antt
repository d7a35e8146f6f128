use Rattle.course_laws.proofs.Deciding.{had_where_lawful}
use Rattle.course_laws.proofs.lawful.a_decided_acquisition_is_had_exactly_where_lawful.Goals as goal

pub returns : goal.returns
returns c v w f owner level answers answer machine telling calm orderly low high acquired decided = had_where_lawful v f owner level machine telling calm orderly low high w answers answer acquired decided
