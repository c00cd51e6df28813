-- Which of its two links a real link asks, and of which it tells.
use Rattle.std.specs.Prelude.{ℕ, ◌≡◌, ◌++◌, ◌<◌, List, Option, codes, length}
use Rattle.link_base.specs.declared.links.OpenFile.{OpenFile}
use Rattle.real_edge.specs.declared.real_link.Way.{Way}
use Rattle.real_edge.specs.declared.real_link.Way.TheVariants.{Folders, Pages}

-- an address begins with `http://` and goes on
abbrev pub IsOfServer : List ℕ → Type 0
IsOfServer address = (rest : List ℕ) × (0 < length rest) × (address ≡ codes "http://" ++ rest)

-- the way to an address: over pages where it is that of a server, else through folders
abbrev pub IsWayTo : List ℕ → Way → Type 0
IsWayTo address Folders = ¬ IsOfServer address
IsWayTo address Pages = IsOfServer address

-- of the two open files that of the link that was asked last
abbrev pub file_by : Way → Option OpenFile → Option OpenFile → Option OpenFile
file_by Folders of_folder of_page = of_folder
file_by Pages of_folder of_page = of_page
