use Rattle.std.proofs.Common.{◌+◌, ◌*◌, arith}
use Rattle.xp_words.specs.Places.{sizes_of, memory, number, first_frame}
use Rattle.walk_audit.proofs.First.{first_extended, none_narrowed}
use Rattle.walk_audit.proofs.Words.{cells_spelled, memory_small}
use Rattle.walk_audit.proofs.spelled.odd_of_frame.Goals as goal

pub returns : goal.returns
unfolding number
returns c =
    let n = c.args.layout.now in
    let m = memory (sizes_of n) c.args.words.now in
    let row = first_frame (sizes_of n) + 515 * c.args.frame in
    first_extended n m 0 row (row + 1) (row + 1 + 1) _ c.odd_word-2.result (omega arith) (omega arith)
    c.in_default.ensures c.odd_word-2.ensures
    (none_narrowed n m 0 (row + 2) (row + 1 + 1) _ _ (omega arith) (omega arith)
    (cells_spelled n m c.args.frame c.requires.frame (memory_small (sizes_of n) c.args.words.now (λ k. omega (arith, c.type_inv.words k)))))
