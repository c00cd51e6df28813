use Rattle.std.specs.Prelude.{◌≡◌, drop, map, codes}
use Rattle.httparse.specs.Spans.{header_bytes}
use Rattle.http_wire.specs.declared.fields.LengthSaid.TheVariants.{NoLength}
use Rattle.http_wire.specs.Fields.{field_values}
use Rattle.http_wire.specs.ContentLengths.{lengths_from}
use Rattle.http_wire.proofs.fields.length_said.Given as goal

abbrev pub invariant-loop-field : goal.invariant-loop-field
invariant-loop-field l =
    lengths_from l.said (field_values (codes "content-length") (map (header_bytes l.front)
    (drop l.field-index l.fields)))
    ≡ lengths_from NoLength (field_values (codes "content-length") (map (header_bytes l.front) l.fields))
