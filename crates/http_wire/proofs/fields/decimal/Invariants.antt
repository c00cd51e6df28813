use Rattle.std.specs.Prelude.{◌≡◌, drop}
use Rattle.http_wire.specs.ContentLengths.{decimal_from}
use Rattle.http_wire.proofs.fields.decimal.Given as goal

abbrev pub invariant-loop-byte : goal.invariant-loop-byte
invariant-loop-byte l = decimal_from (drop l.byte-index l.text) l.n ≡ decimal_from l.text 0
