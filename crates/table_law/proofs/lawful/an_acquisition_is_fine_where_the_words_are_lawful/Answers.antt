use Rattle.partial_state.specs.Levels.{level_type}
use Rattle.table_law.proofs.Lawfully.{fine_by_rest}
use Rattle.table_law.proofs.OnWords.{lawful_plain, lawful_words, rested_plain}
use Rattle.table_law.proofs.lawful.an_acquisition_is_fine_where_the_words_are_lawful.Goals as goal

pub returns : goal.returns
returns c n owner l f m p low rest d =
    let law = fine_by_rest n owner l f p low (rested_plain n m p d rest) in
    (λ is. law.0 (lawful_plain n owner f (level_type l) m p d is), λ is. lawful_words n owner f (level_type l) m p d (law.1 is))
