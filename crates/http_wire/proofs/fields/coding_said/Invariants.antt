use Rattle.std.specs.Prelude.{◌≡◌, drop, map, codes}
use Rattle.httparse.specs.Spans.{header_bytes}
use Rattle.http_wire.specs.declared.fields.TransferCoding.TheVariants.{NoCoding}
use Rattle.http_wire.specs.Fields.{field_values}
use Rattle.http_wire.specs.Codings.{codings_from}
use Rattle.http_wire.proofs.fields.coding_said.Given as goal

abbrev pub invariant-loop-field : goal.invariant-loop-field
invariant-loop-field l =
    codings_from l.coding (field_values (codes "transfer-encoding") (map (header_bytes l.front)
    (drop l.field-index l.fields)))
    ≡ codings_from NoCoding (field_values (codes "transfer-encoding") (map (header_bytes l.front) l.fields))
