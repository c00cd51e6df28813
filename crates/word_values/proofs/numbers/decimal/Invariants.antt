use Rattle.std.proofs.Common.{◌≡◌, ◌<◌, ◌+◌, ◌-◌, ◌*◌, ◌^◌, drop, fold}
use Rattle.ascii_bytes.specs.Digits.{decimal}
use Rattle.word_values.proofs.numbers.decimal.Given as goal

abbrev pub invariant-loop-byte : goal.invariant-loop-byte
invariant-loop-byte l = record {
  small : l.number < 10 ^ l.byte-index;
  value : fold (λ n b. n * 10 + (b - 48)) l.number (drop l.byte-index l.text) ≡ decimal l.text;
}
