use Rattle.std.proofs.Common.{length, ap, sym, ◌∙◌}
use Rattle.std.proofs.lemmas.List.{length-replicate}
use Rattle.xp_words.specs.Machine.{Machine}
use Rattle.xp_words.specs.Places.{sizes_of}
use Rattle.xp_board.specs.Hands.{empty}
use Rattle.xp_board.specs.Told.{Story}
use Rattle.xp_machine.proofs.Reaching.{takes_fresh}
use Rattle.machine_tests.proofs.boards.board_of.Goals as goal

pub returns-clause-fresh : goal.returns-clause-fresh
returns-clause-fresh c = takes_fresh c.args.trace c.in_ok-board.board c.in_ok-words.words (c.opening_words_are_sound.ensures c.args.trace c.in_ok-words.words c.requires c.in_ok-words.ensures).sound.machine c.in_ok-words.ensures c.in_ok-board.ensures.0 c.in_ok-board.ensures.1

pub returns-clause-hands : goal.returns-clause-hands
returns-clause-hands c =
    ap (λ (a : Story). length a.hands) c.in_ok-board.ensures.1 ∙ length-replicate (length c.args.trace.layout.vcpu_domain) empty
    ∙ sym (ap (λ (n : Machine). (sizes_of n).vcpus) c.in_ok-board.ensures.0)
