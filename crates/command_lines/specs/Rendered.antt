-- What is printed of a verdict, and the status that goes with it.
use Rattle.std.specs.Prelude.{ℕ, Bool, true, false, Option, None, Some, List, ◌++◌, codes, is_none, length}
use Rattle.std.specs.Fmt.{decimal}
use Rattle.std.specs.List.{flat_map, list_all}
use Rattle.class_path.specs.Files.{class_path_of, entry_of}
use Rattle.class_path.specs.declared.rows.FileRow.{FileRow}
use Rattle.json_report.specs.Report.{configuration_text, report_value}
use Rattle.json_report.specs.declared.printed.ReportJob.{ReportJob}
use Rattle.line_streams.specs.declared.said.Rendered.{Rendered}
use Rattle.resolution.specs.declared.settled.Node.{Node}
use Rattle.resolution.specs.declared.settled.Settled.{Settled}
use Rattle.resolution.specs.declared.verdict.Verdict.{Verdict}
use Rattle.resolution.specs.declared.verdict.Verdict.TheVariants as verdicts
use Rattle.serde_json.specs.Written.{compact_text}
use Rattle.tree_print.specs.Texts.{tree_text}
use Rattle.verdict_print.specs.Lines.{artifact_text, clash_lines, coord_text, failed_lines, missing_of, unsettled_line}
use Rattle.word_values.specs.declared.job.Command.{Command}
use Rattle.word_values.specs.declared.job.Command.TheVariants as commands
use Rattle.word_values.specs.declared.job.Job.{Job}
use Rattle.word_values.specs.declared.job.Output.{Output}
use Rattle.word_values.specs.declared.job.Output.TheVariants as outputs

abbrev pub made : ℕ → List ℕ → Rendered
made status text = record { status = status; bytes = text }

-- ---- resolve

-- `org:name:version:CONFIGURATION`
abbrev pub module_line : List ℕ → Node → List ℕ
module_line configuration node = coord_text node.coord ++ (codes ":" ++ (configuration ++ codes "\n"))

abbrev pub module_lines : Job → Settled → List ℕ
module_lines job settled = flat_map (module_line (configuration_text job.ask.configuration)) settled.nodes

abbrev pub report_job : Job → ReportJob
report_job job =
    record { configuration = job.ask.configuration; addresses = job.addresses; prefix = job.prefix }

-- the report, on a line
abbrev pub report_line : Job → Settled → Option (List FileRow) → List ℕ
report_line job settled files = compact_text (report_value settled (report_job job) files) ++ codes "\n"

-- a line for each module, the tree, or the report
abbrev pub resolved_text : Job → Settled → Output → List ℕ
resolved_text job settled outputs.Plain = module_lines job settled
resolved_text job settled outputs.Tree = tree_text settled
resolved_text job settled outputs.Json = report_line job settled None
resolved_text job settled outputs.Classpath = module_lines job settled

-- ---- fetch

-- the prefix and the name in the cache
abbrev pub file_line : List ℕ → FileRow → List ℕ
file_line prefix row = entry_of prefix row ++ codes "\n"

abbrev pub file_lines : Job → List FileRow → List ℕ
file_lines job files = flat_map (file_line job.prefix) files

-- a line for each file, the class path, or the report
abbrev pub came_text : Job → Settled → List FileRow → Output → List ℕ
came_text job settled files outputs.Plain = file_lines job files
came_text job settled files outputs.Tree = file_lines job files
came_text job settled files outputs.Json = report_line job settled (Some files)
came_text job settled files outputs.Classpath = class_path_of files job.prefix ++ codes "\n"

-- whether all files came whole
abbrev pub all_came : List FileRow → Bool
all_came files = list_all (λ row. is_none (missing_of row.reading)) files

-- status 1 where a file did not come whole, with a line for each such file
abbrev pub fetched_as : Job → Settled → List FileRow → Bool → Rendered
fetched_as job settled files true = made 0 (came_text job settled files job.output)
fetched_as job settled files false = made 1 (flat_map (artifact_text job.addresses) files)

abbrev pub fetched : Job → Settled → List FileRow → Rendered
fetched job settled files = fetched_as job settled files (all_came files)

-- ---- sample

-- how many modules there are, in which round nothing changed any more, and how many answers were known
abbrev pub sample_line : Settled → ℕ → List ℕ
sample_line settled reads =
    codes "modules " ++ (decimal (length settled.nodes)
    ++ (codes " rounds " ++ (decimal settled.round ++ (codes " reads " ++ (decimal reads ++ codes "\n")))))

-- ---- all verdicts

abbrev pub settled_as : Job → Settled → List FileRow → ℕ → Command → Rendered
settled_as job settled files reads commands.Resolve = made 0 (resolved_text job settled job.output)
settled_as job settled files reads commands.Fetch = fetched job settled files
settled_as job settled files reads commands.Sample = made 0 (sample_line settled reads)

-- status 0 where all is settled and came, and 1 where a verdict is another one
abbrev pub rendered_of : Job → Verdict → List FileRow → ℕ → Rendered
rendered_of job (verdicts.Settled settled) files reads = settled_as job settled files reads job.command
rendered_of job (verdicts.Clashes rows) files reads = made 1 (flat_map clash_lines rows)
rendered_of job (verdicts.Failed rows) files reads = made 1 (flat_map (failed_lines job.addresses) rows)
rendered_of job (verdicts.Unsettled rounds) files reads = made 1 (unsettled_line rounds)
