use Rattle.table_law.proofs.Undoing.{undo_entry, undo_counted, undo_opened, undo_empty, undo_last, release_opened}
use Rattle.table_law.proofs.release.what_is_held_is_given_back_by_entries.Goals as goal

pub returns-clause-entry : goal.returns-clause-entry
returns-clause-entry c f l a k xs p = undo_entry f l a k xs p

pub returns-clause-counted : goal.returns-clause-counted
returns-clause-counted c f l a k g t xs p asks more = undo_counted f l a k g t xs p asks more

pub returns-clause-opened : goal.returns-clause-opened
returns-clause-opened c f l a k g t xs p inside asks last bare = undo_opened f l a k g t xs p inside asks last bare

pub returns-clause-empty : goal.returns-clause-empty
returns-clause-empty c f l a g m b xs p = undo_empty f l a g m b xs p

pub returns-clause-last : goal.returns-clause-last
returns-clause-last c f l a p = undo_last f l a p

pub returns-clause-released : goal.returns-clause-released
returns-clause-released c l f p last bare = release_opened l f p last bare
