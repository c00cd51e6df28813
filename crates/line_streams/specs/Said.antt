-- What a command says, and on which of its two streams.
use Rattle.std.specs.Prelude.{ℕ, List, [], codes}
use Rattle.line_streams.specs.declared.said.Said.{Said}
use Rattle.line_streams.specs.declared.said.Said.TheVariants.{Prints, Tells}

abbrev pub status_of : Said → ℕ
status_of (Prints rendered) = rendered.status
status_of (Tells status line) = status

-- the text for `out`
abbrev pub out_of : Said → List ℕ
out_of (Prints rendered) = rendered.bytes
out_of (Tells status line) = []

-- the text for `err`
abbrev pub err_of : Said → List ℕ
err_of (Prints rendered) = []
err_of (Tells status line) = line

-- the line on want of memory
abbrev pub memory_line : List ℕ
memory_line = codes "coursier: memory\n"
