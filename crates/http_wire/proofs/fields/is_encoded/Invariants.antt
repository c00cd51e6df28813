use Rattle.std.specs.Prelude.{◌≡◌, drop, map, codes}
use Rattle.httparse.specs.Spans.{header_bytes}
use Rattle.http_wire.specs.Fields.{field_values}
use Rattle.http_wire.specs.Codings.{is_encoded}
use Rattle.http_wire.proofs.fields.is_encoded.Given as goal

abbrev pub invariant-loop-field : goal.invariant-loop-field
invariant-loop-field l =
    is_encoded (field_values (codes "content-encoding") (map (header_bytes l.front) (drop l.field-index l.fields)))
    ≡ is_encoded (field_values (codes "content-encoding") (map (header_bytes l.front) l.fields))
