use Rattle.opening_rule.proofs.Words.{opens}
use Rattle.opening_rule.proofs.Counts.{counts_open}
use Rattle.opening_rule.proofs.Entries.{valid_open, permitted_open}
use Rattle.opening_rule.proofs.Hands.{alone_open, found_open, stamped_open, idle_open, fresh_open, domains_open}
use Rattle.opening_rule.proofs.Spelled.{spelled_open}
use Rattle.opening_rule.proofs.Map.{map_open}
use Rattle.xp_board.specs.Lists.{EachOf}
use Rattle.opening_rule.proofs.opening_words_are_sound.Goals as goal
use Rattle.xp_board.proofs.Empty.{empty_formed}

pub returns : goal.returns
unfolding EachOf
returns c t words w o =
    let h = opens t words w o in
    record {
      all_words = o.count;
      sound =
          record {
            machine = w.machine;
            spelled = spelled_open t _ h;
            counts = counts_open t _ h;
            valid = valid_open t _ h;
            permitted = permitted_open t _ h;
            alone = alone_open t _ h;
            works = λ s b. tt;
            found = λ s b. found_open t.layout _ s;
            formed = λ s b. empty_formed t.layout s;
            stamped = stamped_open t _ h;
            idle = λ v b. idle_open t.layout _ v;
            fresh = fresh_open t.layout _;
            domains = domains_open t _ h;
            map = map_open t _ h;
          };
    }
