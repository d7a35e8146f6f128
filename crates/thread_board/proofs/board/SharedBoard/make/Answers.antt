use Rattle.std.proofs.Common.{◌<◌, length, subst, sym, ap, ◌∙◌}
use Rattle.std.proofs.lemmas.List.{length-replicate}
use Rattle.xp_words.specs.Places.{sizes_of}
use Rattle.xp_board.specs.Hands.{empty}
use Rattle.thread_board.proofs.Dealing.{begins}
use Rattle.thread_board.proofs.Sharing.{some_words}
use Rattle.thread_board.proofs.board.SharedBoard.make.Goals as goal

pub of_words-requires : goal.of_words-requires
of_words-requires c = rw (c.as_slice.ensures.value, c.in_ok-row.ensures) (begins (record { layout = c.args.layout; words = c.args.words }) (length-replicate (sizes_of c.args.layout).vcpus empty))

pub deal-requires-clause-words : goal.deal-requires-clause-words
deal-requires-clause-words c = subst (λ m. 0 < m) (sym (c.in_ok-table.ensures.0 ∙ ap length (c.as_slice.ensures.value ∙ c.in_ok-row.ensures) ∙ c.requires.all_words)) (some_words (sizes_of c.args.layout))
