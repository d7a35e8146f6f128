use Rattle.round_laws.proofs.Cited.{ClockLaws, TurnLaws}
use Rattle.round_laws.proofs.Waiting.{retire_in_rounds}
use Rattle.round_laws.proofs.rounds.all_retire_in_rounds.Goals as goal

pub returns : goal.returns
returns c =
    let laws : TurnLaws = record {
      stays = c.alone_stays.ensures;
      orderly = c.who_is_alone_has_orderly_words.ensures;
      within = c.a_turn_gets_ahead_or_stays.ensures.within;
      gets = c.a_turn_gets_ahead_or_stays.ensures.gets;
      others = c.a_turn_leaves_the_others.ensures;
      keeps = c.a_paused_settling_names_less.ensures.keeps;
      less = c.a_paused_settling_names_less.ensures.less;
      none = c.a_settling_that_ends_names_none.ensures.none;
      same = c.a_settling_that_ends_names_none.ensures.same;
      forward = c.a_turn_paused_within_an_element_goes_forward.ensures.forward;
      further = c.a_turn_paused_within_an_element_goes_forward.ensures.further;
    } in
    let clocks : ClockLaws = record {
      other = c.who_is_waited_for_is_asked.ensures.other;
      runs = c.who_is_waited_for_is_asked.ensures.runs;
      asked = c.who_is_waited_for_is_asked.ensures.asked;
      clock = c.a_turn_answers_its_ask.ensures.clock;
    } in
    retire_in_rounds laws clocks
