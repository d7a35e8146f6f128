use Rattle.xp_board.specs.Sound.{Sound}
use Rattle.sound_rule.proofs.Halves.{between, marked, may_mark, may_act, acted}
use Rattle.sound_rule.proofs.a_legal_step_keeps_the_machine_sound.Goals as goal

pub returns : goal.returns
returns c n s x m m2 h h2 real legal step sound =
    let b = between n s x h in
    let may = may_mark n s x h legal in
    let mark = marked n s x h in
    let after : Sound n m b =
    record {
      machine = sound.machine;
      spelled = c.words_stay_spelled.ensures.marks n s x m h b real may mark sound;
      counts = c.counts_stay_right.ensures.marks n s x m h b real may mark sound;
      valid = c.entries_still_lead_well.ensures.marks n s x m h b real may mark sound;
      permitted = c.entries_stay_permitted.ensures.marks n s x m h b real may mark sound;
      alone = c.frames_stay_held_alone.ensures.marks n s x m h b real may mark sound;
      works = c.works_stay_right.ensures.marks n s x m h b real may mark sound;
      found = c.what_was_found_stays_true.ensures.marks n s x m h b real may mark sound;
      formed = c.holdings_stay_well_formed.ensures.marks n s x m h b real may mark sound;
      stamped = c.stamps_stay_below_the_clock.ensures.marks n s x m h b real may mark sound;
      idle = c.idle_hands_stay_empty.ensures.marks n s x m h b real may mark sound;
      fresh = c.a_legal_step_keeps_translations_fresh.ensures.marks n s x m h b real may mark sound;
      domains = c.the_dead_stay_dead.ensures.marks n s x m h b real may mark sound;
      map = c.the_map_stays_right.ensures.marks n s x m h b real may mark sound;
    } in
    let can = may_act n s x h legal in
    let act = acted n s x h m m2 h2 step in
    record {
      machine = sound.machine;
      spelled = c.words_stay_spelled.ensures.acts n s x m m2 b h2 real can act after;
      counts = c.counts_stay_right.ensures.acts n s x m m2 b h2 real can act after;
      valid = c.entries_still_lead_well.ensures.acts n s x m m2 b h2 real can act after;
      permitted = c.entries_stay_permitted.ensures.acts n s x m m2 b h2 real can act after;
      alone = c.frames_stay_held_alone.ensures.acts n s x m m2 b h2 real can act after;
      works = c.works_stay_right.ensures.acts n s x m m2 b h2 real can act after;
      found = c.what_was_found_stays_true.ensures.acts n s x m m2 b h2 real can act after;
      formed = c.holdings_stay_well_formed.ensures.acts n s x m m2 b h2 real can act after;
      stamped = c.stamps_stay_below_the_clock.ensures.acts n s x m m2 b h2 real can act after;
      idle = c.idle_hands_stay_empty.ensures.acts n s x m m2 b h2 real can act after;
      fresh = c.a_legal_step_keeps_translations_fresh.ensures.acts n s x m m2 b h2 real can act after;
      domains = c.the_dead_stay_dead.ensures.acts n s x m m2 b h2 real can act after;
      map = c.the_map_stays_right.ensures.acts n s x m m2 b h2 real can act after;
    }
