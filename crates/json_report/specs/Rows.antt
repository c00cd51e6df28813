-- Worked rows.
use Rattle.std.specs.Prelude.{◌≡◌, ℕ, false, Option, None, Some, List, [], ◌∷◌, ◌++◌, codes, refl}
use Rattle.class_path.specs.declared.rows.FileRow.{FileRow}
use Rattle.json.specs.Print.{escape_byte}
use Rattle.res_base.specs.Builders.{coord_of, key_of}
use Rattle.res_base.specs.declared.key.Role.TheVariants.{Artifact}
use Rattle.res_base.specs.declared.reading.Reading.TheVariants.{Absent}
use Rattle.json_report.specs.Report.{file_value, report_value, targets_of}
use Rattle.json_report.specs.declared.printed.ReportJob.{ReportJob}
use Rattle.resolution.specs.declared.settled.Edge.{Edge}
use Rattle.resolution.specs.declared.settled.Node.{Node}
use Rattle.resolution.specs.declared.settled.Settled.{Settled}
use Rattle.scope_rules.specs.declared.scopes.Configuration.TheVariants.{Default}
use Rattle.serde_json.specs.Data.{array, item, member, no_items, no_members, object, string}
use Rattle.serde_json.specs.Written.{compact_text}

abbrev node : List ℕ → List ℕ → Node
node name version =
    record { coord = coord_of (codes "org.a") name version; repo = 0; packaging = codes "jar"; moved = false }

abbrev edge : Option ℕ → ℕ → Edge
edge source target =
    record { source = source; target = target; asked = codes "1"; kind = codes "jar"; classifier = [] }

abbrev job : ReportJob
job = record { configuration = Default; addresses = codes "http://r1" ∷ []; prefix = [] }

-- each target at its first place
pub each_once : targets_of (edge (Some 0) 2 ∷ edge (Some 0) 1 ∷ edge (Some 0) 2 ∷ []) ≡ 2 ∷ 1 ∷ []
each_once = refl

abbrev one_module : Settled
one_module = record { round = 2; nodes = node (codes "a") (codes "1.0") ∷ []; edges = edge None 0 ∷ [] }

-- the module of the root alone
pub one : report_value one_module job None
    ≡ object (member (codes "configuration") (string (codes "default"))
    (member (codes "modules") (array (item (object (member (codes "coord") (string (codes "org.a:a:1.0"))
    (member (codes "dependencies") (array no_items)
    (member (codes "repository") (string (codes "http://r1")) no_members)))) no_items)) no_members))
one = refl

-- ---- texts

abbrev file : List ℕ → FileRow
file name = record { key = key_of 0 Artifact (codes "org/a/a/1.0/a-1.0.jar"); name = name; reading = Absent }

-- signs that JSON escapes, and others that stand as they are: the slash, the byte 127, and two bytes of one character
abbrev signs : List ℕ
signs = codes "\"\\/" ++ 8 ∷ 9 ∷ 10 ∷ 12 ∷ 13 ∷ 0 ∷ 31 ∷ 127 ∷ 195 ∷ 169 ∷ []

pub escapes : compact_text (file_value signs (file (codes "a")))
    ≡ codes "\"\\\"\\\\/\\b\\t\\n\\f\\r\\u0000\\u001f" ++ 127 ∷ 195 ∷ 169 ∷ codes "a\""
unfolding escape_byte
escapes = refl

-- the keys of an object stand in the order of their bytes
pub whole_text : compact_text (report_value one_module job (Some (file (codes "http/r1/a") ∷ [])))
    ≡ codes "{\"configuration\":\"default\",\"files\":[\"http/r1/a\"],\"modules\":[{\"coord\":\"org.a:a:1.0\",\"dependencies\":[],\"repository\":\"http://r1\"}]}"
unfolding escape_byte
whole_text = refl
