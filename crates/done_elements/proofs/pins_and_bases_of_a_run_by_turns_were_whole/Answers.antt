use Rattle.std.proofs.Common.{[], refl}
use Rattle.shared_board.specs.Board.{opened_story}
use Rattle.vcpu_runners.specs.Cpus.{first_cpus}
use Rattle.xp_machine.specs.Cpus.{order}
use Rattle.xp_machine.specs.Ran.{first_gates}
use Rattle.xp_machine.specs.Turns.{stage}
use Rattle.done_elements.specs.Replied.{WasSet}
use Rattle.done_elements.proofs.ByTurns.{works_whole}
use Rattle.done_elements.proofs.Fresh.{keeps_first}
use Rattle.done_elements.proofs.pins_and_bases_of_a_run_by_turns_were_whole.Goals as goal

pub returns : goal.returns
returns c t gates closed ran s cpu e formed at p =
    let n = t.layout in
    let sound = c.opening_words_are_sound.ensures t ran.opened formed ran.opening in
    let keeps =
    works_whole c.every_run_stays_sound.ensures n ran.opened sound (order t.turns) (stage (opened_story n ran.opened) (first_cpus n t.scripts) (first_gates n gates)) closed ran.works refl
    (λ u d here. keeps_first (WasSet n ran.opened [] u) n t.scripts u d here) s cpu at in
    keeps.old p.op p.call p.list p.reply p.stands p.answered p.k e p.counted p.element
