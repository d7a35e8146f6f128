use Rattle.table_law.specs.Alone.{alone}
use Rattle.refusal_laws.proofs.Deciding.{comes_to}
use Rattle.refusal_laws.proofs.Repeating.{all_last}
use Rattle.refusal_laws.proofs.repeated.an_acquisition_from_described_words_comes_to_its_plain_meaning.Goals as goal

pub returns : goal.returns
returns c v w f owner level p answer machine telling calm orderly none low high d calls decided =
    comes_to v.post.machine owner v w f level (alone v.post.machine owner level f p) answer none (all_last v f owner level w p answer machine telling calm orderly low high d calls) decided
