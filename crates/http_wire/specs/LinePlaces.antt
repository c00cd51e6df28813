-- Lines up to an empty one (RFC 9112 section 2.2). A line ends with a line feed; it is empty where nothing or a carriage
-- return stands before that. Empty lines at the start don't count as the end.
use Rattle.std.specs.Prelude.{ℕ, Option, Some, None, if◌then◌else◌, ◌==◌}
use Rattle.http_wire.specs.declared.line_places.LinePlace.{LinePlace}
use Rattle.http_wire.specs.declared.line_places.LinePlace.TheVariants.{Leading, LeadingReturn, InLine, LineStart, StartReturn}

-- the place behind a byte; none where the byte ends the empty line. 10 is a line feed, 13 a carriage return
abbrev pub next_line_place : LinePlace → ℕ → Option LinePlace
next_line_place Leading b = Some (if b == 10 then Leading else (if b == 13 then LeadingReturn else InLine))
next_line_place LeadingReturn b = Some (if b == 10 then Leading else InLine)
next_line_place InLine b = Some (if b == 10 then LineStart else InLine)
next_line_place LineStart b = if b == 10 then None else Some (if b == 13 then StartReturn else InLine)
next_line_place StartReturn b = if b == 10 then None else Some InLine

-- the least number of bytes that must still come up to the end of the empty line
abbrev pub least_left : LinePlace → ℕ
least_left Leading = 2
least_left LeadingReturn = 2
least_left InLine = 2
least_left LineStart = 1
least_left StartReturn = 1
