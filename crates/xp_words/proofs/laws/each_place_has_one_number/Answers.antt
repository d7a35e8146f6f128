use Rattle.xp_words.proofs.PlaceLaws.{number-lt, number_apart, place_there, place_back}
use Rattle.xp_words.proofs.laws.each_place_has_one_number.Goals as goal

pub returns : goal.returns
returns c = record { within = number-lt; apart = number_apart; onto = place_there; back = place_back }
