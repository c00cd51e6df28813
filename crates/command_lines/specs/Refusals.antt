-- Why a command gives no answer: its status, and its line for `err`.
use Rattle.std.specs.Prelude.{ℕ, List, ◌++◌, codes}
use Rattle.std.specs.Fmt.{decimal}
use Rattle.command_lines.specs.declared.refusals.Refusal.{Refusal}
use Rattle.command_lines.specs.declared.refusals.Refusal.TheVariants as refusals
use Rattle.disk_base.specs.declared.disk_errors.DiskCall.{DiskCall}
use Rattle.disk_base.specs.declared.disk_errors.DiskCall.TheVariants as calls
use Rattle.line_streams.specs.declared.said.Said.{Said}
use Rattle.line_streams.specs.declared.said.Said.TheVariants.{Tells}
use Rattle.word_values.specs.Refusals.{kind_text}
use Rattle.word_values.specs.declared.refusals.WordKind.{WordKind}

-- the printed name of a kind of disk calls
abbrev pub call_text : DiskCall → List ℕ
call_text calls.Read = codes "read"
call_text calls.Start = codes "start"
call_text calls.Append = codes "append"
call_text calls.Sync = codes "sync"
call_text calls.Rename = codes "rename"
call_text calls.Remove = codes "remove"
call_text calls.SyncNames = codes "sync-names"
call_text calls.List = codes "list"

-- of what kind a refusal is, and what is refused
abbrev pub err_line : List ℕ → List ℕ → List ℕ
err_line kind what = codes "coursier: " ++ (kind ++ (codes ": " ++ (what ++ codes "\n")))

abbrev pub simple_line : List ℕ → List ℕ
simple_line kind = codes "coursier: " ++ (kind ++ codes "\n")

-- what is wrong with words, and where
abbrev pub words_text : WordKind → ℕ → List ℕ
words_text kind place = kind_text kind ++ (codes " " ++ decimal place)

abbrev pub status_of : Refusal → ℕ
status_of (refusals.Words kind place) = 2
status_of (refusals.Repository url) = 3
status_of (refusals.Disk call) = 4
status_of (refusals.NotCached url) = 7
status_of refusals.TooManyFiles = 8

abbrev pub line_of : Refusal → List ℕ
line_of (refusals.Words kind place) = err_line (codes "words") (words_text kind place)
line_of (refusals.Repository url) = err_line (codes "repository") url
line_of (refusals.Disk call) = err_line (codes "disk") (call_text call)
line_of (refusals.NotCached url) = err_line (codes "not cached") url
line_of refusals.TooManyFiles = simple_line (codes "too many files")

-- what is said of a refusal
abbrev pub said_of : Refusal → Said
said_of refusal = Tells (status_of refusal) (line_of refusal)
