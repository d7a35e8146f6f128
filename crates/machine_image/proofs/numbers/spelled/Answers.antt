use Rattle.std.proofs.Common.{ap, sym, ◌∙◌, arith}
use Rattle.machine_image.specs.Image.{number_bytes}
use Rattle.machine_image.proofs.Bytes.{eight_bytes}
use Rattle.machine_image.proofs.numbers.spelled.Goals as goal

pub returns : goal.returns
returns c = ap number_bytes c.number.ensures ∙ sym (eight_bytes c.args.bytes.now c.args.index (record { small = λ i. omega (arith, c.type_inv.bytes i) }) c.requires)
