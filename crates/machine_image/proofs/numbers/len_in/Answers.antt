use Rattle.std.proofs.Common.{arith}
use Rattle.machine_image.proofs.Bytes.{count_kept, kept_are_bytes}
use Rattle.machine_image.proofs.numbers.len_in.Goals as goal

pub returns-clause-len : goal.returns-clause-len
returns-clause-len c = count_kept c.args.whole.now c.args.rest.now

pub returns-clause-bytes : goal.returns-clause-bytes
returns-clause-bytes c = (kept_are_bytes c.args.whole.now c.args.rest.now (record { small = λ i. omega (arith, c.type_inv.rest i) })).small
