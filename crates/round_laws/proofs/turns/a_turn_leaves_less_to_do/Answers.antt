use Rattle.round_laws.proofs.Cited.{TurnLaws}
use Rattle.round_laws.proofs.Steadying.{clock_on, less_to_go, no_more_to_go, steady_behind}
use Rattle.round_laws.proofs.turns.a_turn_leaves_less_to_do.Goals as goal

pub returns : goal.returns
returns c =
    let laws : TurnLaws = record {
      stays = c.alone_stays.ensures;
      orderly = c.who_is_alone_has_orderly_words.ensures;
      within = c.a_turn_gets_ahead_or_stays.ensures.within;
      gets = c.a_turn_gets_ahead_or_stays.ensures.gets;
      others = c.a_turn_leaves_the_others.ensures;
      keeps = c.a_paused_settling_names_less.ensures.keeps;
      less = c.a_paused_settling_names_less.ensures.less;
      none = c.a_settling_that_ends_names_none.ensures.none;
      same = c.a_settling_that_ends_names_none.ensures.same;
      forward = c.a_turn_paused_within_an_element_goes_forward.ensures.forward;
      further = c.a_turn_paused_within_an_element_goes_forward.ensures.further;
    } in
    record { steady = steady_behind laws; no_more = no_more_to_go laws; clock = clock_on laws; less = less_to_go laws }
