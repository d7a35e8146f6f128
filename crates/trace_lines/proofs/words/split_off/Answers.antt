use Rattle.std.proofs.Common.{◌<◌, length, arith}
use Rattle.trace_lines.proofs.Splits.{len_before, split_here, split_nowhere}
use Rattle.trace_lines.proofs.words.split_off.Goals as goal

pub returns-then-at-bytes-clause-parts : goal.returns-then-at-bytes-clause-parts
returns-then-at-bytes-clause-parts c = split_nowhere c.args.byte c.args.bytes.now (omega (arith, c.if-at-bytes.true, c.far_len_before-at.ensures.place))

pub returns-clause-parts : goal.returns-clause-parts
returns-clause-parts c =
    let here : len_before c.args.byte c.args.bytes.now < length c.args.bytes.now = omega (arith, c.if-at-bytes.false, c.far_len_before-at.ensures.place, c.far_len_before-at.ensures.within) in
    rw (c.split_at.ensures.back, c.far_len_before-at.ensures.place) (split_here c.args.byte c.args.bytes.now here)
