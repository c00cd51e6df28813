use Rattle.std.proofs.Common.{◌≡◌, ◌≤◌, false, Some, sym, ◌∙◌, ap, subst}
use Rattle.std.specs.Option.{option_copied}
use Rattle.json_report.specs.Report.{report_of, report_value}
use Rattle.json_report.proofs.Whole.{few_deep, no_float}
use Rattle.serde_json.specs.Data.{Data, depth}
use Rattle.serde_json.specs.Read.{max_depth, read}
use Rattle.serde_json.specs.View.{view}
use Rattle.serde_json.specs.Written.{compact_text, has_float}
use Rattle.json_report.proofs.printed.report.Goals as goal

pub returns-clause-text : goal.returns-clause-text
returns-clause-text c =
    let is : view c.in_ok-value.value ≡ report_value c.args.settled.now c.args.job.now (option_copied c.args.files) = c.in_ok-value.ensures ∙ ap (report_of c.args.job.now (option_copied c.args.files)) c.in_ok-modules.ensures in
    c.from_string.ensures
    ∙ c.in_ok-to_string.ensures.text (subst (λ (d : Data). has_float d ≡ false) (sym is) (no_float c.args.settled.now c.args.job.now (option_copied c.args.files)))
    ∙ ap compact_text is

pub returns-clause-reads_back : goal.returns-clause-reads_back
returns-clause-reads_back c =
    let is : view c.in_ok-value.value ≡ report_value c.args.settled.now c.args.job.now (option_copied c.args.files) = c.in_ok-value.ensures ∙ ap (report_of c.args.job.now (option_copied c.args.files)) c.in_ok-modules.ensures in
    ap read c.from_string.ensures
    ∙ c.in_ok-to_string.ensures.reads_back (subst (λ (d : Data). depth d ≤ max_depth) (sym is) (few_deep c.args.settled.now c.args.job.now (option_copied c.args.files)))
    ∙ ap (λ (d : Data). Some d) is
