use Rattle.std.specs.Prelude.{◌≡◌, drop, map, codes}
use Rattle.httparse.specs.Spans.{header_bytes}
use Rattle.http_wire.specs.Fields.{field_values}
use Rattle.http_wire.proofs.heads.location.Given as goal

abbrev pub invariant-loop-field : goal.invariant-loop-field
invariant-loop-field l =
    field_values (codes "location") (map (header_bytes l.front) (drop l.field-index l.fields))
    ≡ field_values (codes "location") (map (header_bytes l.front) l.fields)
