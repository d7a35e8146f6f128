use Rattle.solo_runs.proofs.Opening.{opens_script}
use Rattle.solo_runs.proofs.runs.a_vcpu_opens_its_script.Goals as goal

pub returns : goal.returns
returns c t words script formed opens only = opens_script t words script formed opens only (c.opening_words_are_sound.ensures t words formed opens)
