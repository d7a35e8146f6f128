use Rattle.std.proofs.Common.{◌≡◌, ◌<◌, ◌%◌, length, refl, ◌∙◌, arith}
use Rattle.std.proofs.lemmas.Grind.{common_steps}
use Rattle.trace_lines.proofs.Chunks.{triples_even, triples_odd}
use Rattle.trace_lines.proofs.call.triples.Goals as goal

pub returns-then-not-is_empty : goal.returns-then-not-is_empty
returns-then-not-is_empty c =
    let some : 0 < length c.args.numbers.now % 3 = grind (arith, common_steps) in
    triples_odd c.args.numbers.now some

pub returns : goal.returns
returns c =
    let whole : length c.args.numbers.now % 3 ≡ 0 = grind (arith, common_steps) in
    triples_even c.args.numbers.now whole ∙ rw (c.new.ensures, c.in_ok-items.ensures, c.as_chunks.ensures.front) refl
