-- What a link in memory holds.
use Rattle.std.specs.Prelude.{ℕ, List, Option, Some}
use Rattle.link_base.specs.Links.{Rows}
use Rattle.link_base.specs.MemoryCalls.{HoldsAs}
use Rattle.link_base.specs.declared.links.OpenFile.{OpenFile}
use Rattle.link_base.specs.declared.memory_calls.Calls.{Calls}
use Rattle.link_base.specs.declared.memory_link.MemLink.{MemLink}

-- the rows of the world that it gives
abbrev pub world_of : MemLink → Rows
world_of link = link.files.world.rows

-- which of its calls are to fail, how many it had, and how many failed
abbrev pub calls_of : MemLink → Calls
calls_of link = link.calls

abbrev pub AgreesWith : MemLink → Rows → Type 0
AgreesWith link w = HoldsAs (world_of link) w

abbrev pub faults_of : MemLink → ℕ
faults_of link = link.calls.faults

abbrev pub asked_of : MemLink → ℕ
asked_of link = link.asked

abbrev pub file_of : MemLink → Option OpenFile
file_of link = link.reading

abbrev pub failed_of : MemLink → Option (List (List ℕ))
failed_of link = Some link.failed
