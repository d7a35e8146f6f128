use Rattle.std.proofs.Common.{false, append_assoc}
use Rattle.std.proofs.lemmas.Fmt.{hex_one_digit}
use Rattle.report_text.proofs.HexDigits.{hex_more}
use Rattle.report_text.proofs.numbers.+put_hex_digits.Goals as goal

pub returns-then-number-lt16 : goal.returns-then-number-lt16
returns-then-number-lt16 t c = rw (hex_one_digit false c.args.number c.if-number-lt16.true) c.put_hex_digit.ensures

pub returns : goal.returns
returns t c = rw (hex_more c.args.number c.if-number-lt16.false c.ranges.number.fits, ← append_assoc, ← c.in_ok-put_hex_digits.ensures) c.put_hex_digit-2.ensures
