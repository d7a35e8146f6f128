use Rattle.dead_domains.proofs.stopped.a_legal_mark_keeps_the_machine_sound.Goals as goal

pub returns : goal.returns
returns c n s x m h b real may mark sound =
    record {
      machine = sound.machine;
      spelled = c.words_stay_spelled.ensures.marks n s x m h b real may mark sound;
      counts = c.counts_stay_right.ensures.marks n s x m h b real may mark sound;
      valid = c.entries_still_lead_well.ensures.marks n s x m h b real may mark sound;
      permitted = c.entries_stay_permitted.ensures.marks n s x m h b real may mark sound;
      alone = c.frames_stay_held_alone.ensures.marks n s x m h b real may mark sound;
      works = c.works_stay_right.ensures.marks n s x m h b real may mark sound;
      found = c.what_was_found_stays_true.ensures.marks n s x m h b real may mark sound;
      formed = c.holdings_stay_well_formed.ensures.marks n s x m h b real may mark sound;
      stamped = c.stamps_stay_below_the_clock.ensures.marks n s x m h b real may mark sound;
      idle = c.idle_hands_stay_empty.ensures.marks n s x m h b real may mark sound;
      fresh = c.a_legal_step_keeps_translations_fresh.ensures.marks n s x m h b real may mark sound;
      domains = c.the_dead_stay_dead.ensures.marks n s x m h b real may mark sound;
      map = c.the_map_stays_right.ensures.marks n s x m h b real may mark sound;
    }
