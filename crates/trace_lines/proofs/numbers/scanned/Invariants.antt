use Rattle.std.proofs.Common.{◌≡◌, ◌+◌, ◌-◌, drop, length, ◌<◌, ◌≤◌, ◌^◌}
use Rattle.trace_lines.specs.Numbers.{numeral_after, word_of, word_len}
use Rattle.trace_lines.proofs.numbers.scanned.Given as goal

abbrev pub invariant-digits : goal.invariant-digits
invariant-digits g l = record {
  small : l.value < 2 ^ 64;
  within : l.len ≤ length l.text;
  same : numeral_after g.row.BASE l.value (word_of (drop l.len l.text)) ≡ numeral_after g.row.BASE 0 (word_of l.text);
  place : l.len + word_len (drop l.len l.text) ≡ word_len l.text;
}

abbrev pub decreases-digits : goal.decreases-digits
decreases-digits g l = length l.text - l.len
