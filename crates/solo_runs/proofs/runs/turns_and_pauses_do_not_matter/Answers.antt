use Rattle.std.proofs.Common.{subst}
use Rattle.script_law.specs.Scripts.{script_alone}
use Rattle.solo_runs.specs.Finishing.{RunComesTo, opening_solo, owner_in, with_turns}
use Rattle.solo_runs.proofs.Ending.{solo_alike}
use Rattle.solo_runs.proofs.runs.turns_and_pauses_do_not_matter.Goals as goal

pub returns : goal.returns
returns c t us gates others script closed other last ends run again fair same =
    record {
      answers = (script_alone (owner_in t) script (opening_solo t)).log;
      left = (script_alone (owner_in t) script (opening_solo t)).left;
      first = c.preemption_is_invisible_in_a_run.ensures t gates script closed last run fair;
      second = subst (λ x. RunComesTo (with_turns us t) other ends (script_alone (owner_in t) script x).log (script_alone (owner_in t) script x).left) (solo_alike t us) (c.preemption_is_invisible_in_a_run.ensures (with_turns us t) others script other ends again same);
    }
