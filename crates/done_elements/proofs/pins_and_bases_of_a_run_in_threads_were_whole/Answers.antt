use Rattle.done_elements.proofs.Threads.{threads_whole}
use Rattle.done_elements.proofs.pins_and_bases_of_a_run_in_threads_were_whole.Goals as goal

pub returns : goal.returns
returns c = threads_whole c.every_run_stays_sound.ensures c.rested_words_are_sound.ensures
