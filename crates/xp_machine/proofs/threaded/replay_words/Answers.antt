use Rattle.std.proofs.Common.{sym, ◌∙◌}
use Rattle.std.proofs.lemmas.List.{length-map}
use Rattle.xp_machine.proofs.Reaching.{if_ok}
use Rattle.xp_machine.proofs.Replaying.{all_last, all_words, are_first, replayed_to, short_last}
use Rattle.xp_machine.proofs.threaded.replay_words.Goals as goal

pub run_in_threads-requires-clause-first : goal.run_in_threads-requires-clause-first
run_in_threads-requires-clause-first g c κs within =
    are_first c.args.trace c.in_ok-board.board c.in_ok-words.words _ (c.opening_words_are_sound.ensures c.args.trace c.in_ok-words.words c.requires.well c.in_ok-words.ensures) c.in_ok-words.ensures c.in_ok-board.ensures.board.0
    c.in_ok-board.ensures.board.1 c.requires.well.scripts c.requires.well.few_ops c.in_ok-runners.ensures.0

pub returns-clause-ran : goal.returns-clause-ran
returns-clause-ran g c =
    let first = are_first c.args.trace c.in_ok-board.board c.in_ok-words.words _ (c.opening_words_are_sound.ensures c.args.trace c.in_ok-words.words c.requires.well c.in_ok-words.ensures) c.in_ok-words.ensures
    c.in_ok-board.ensures.board.0 c.in_ok-board.ensures.board.1 c.requires.well.scripts c.requires.well.few_ops c.in_ok-runners.ensures.0 in
    if_ok c.run_in_threads.result _ _
    (λ r ran. replayed_to _ _ _ _ _ _ first ran c.args.trace _ c.in_ok-words.words c.in_ok-words.ensures c.in_ok-board.ensures.board.0 c.in_ok-board.ensures.board.1 c.in_ok-runners.ensures.0 c.in_ok-runners.ensures.1)
    c.run_in_threads.ensures

pub returns-clause-words : goal.returns-clause-words
returns-clause-words g c =
    let first = are_first c.args.trace c.in_ok-board.board c.in_ok-words.words _ (c.opening_words_are_sound.ensures c.args.trace c.in_ok-words.words c.requires.well c.in_ok-words.ensures) c.in_ok-words.ensures
    c.in_ok-board.ensures.board.0 c.in_ok-board.ensures.board.1 c.requires.well.scripts c.requires.well.few_ops c.in_ok-runners.ensures.0 in
    if_ok c.run_in_threads.result _ _ (λ r ran. all_words _ _ _ _ _ _ first ran c.args.trace.layout c.in_ok-board.ensures.board.0) c.run_in_threads.ensures

pub returns-clause-cpus : goal.returns-clause-cpus
returns-clause-cpus g c =
    let first = are_first c.args.trace c.in_ok-board.board c.in_ok-words.words _ (c.opening_words_are_sound.ensures c.args.trace c.in_ok-words.words c.requires.well c.in_ok-words.ensures) c.in_ok-words.ensures
    c.in_ok-board.ensures.board.0 c.in_ok-board.ensures.board.1 c.requires.well.scripts c.requires.well.few_ops c.in_ok-runners.ensures.0 in
    if_ok c.run_in_threads.result _ _
    (λ r ran. (sym (length-map r.1.items (λ s. s.cpu)) ∙ all_last _ _ _ _ _ _ first ran c.args.trace.layout c.in_ok-board.ensures.board.0, short_last _ _ _ _ _ _ first ran))
    c.run_in_threads.ensures
