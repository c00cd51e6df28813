use Rattle.std.proofs.Common.{◌≡◌, List, map, sym, ◌∙◌, ap}
use Rattle.std.proofs.lemmas.Bool.{false≢true}
use Rattle.res_base.specs.declared.coord.Coord.{Coord}
use Rattle.resolution.specs.declared.verdict.ClashRow.{ClashRow}
use Rattle.resolution.specs.declared.verdict.Verdict.{Verdict}
use Rattle.round_core.specs.Requests.{Asked, asked_by}
use Rattle.round_core.specs.Steering.{Versions, steer}
use Rattle.round_core.specs.Verdicts.{clashes_in, fault_row, faults_in, settled_in, unless_clashes, unless_failed}
use Rattle.round_core.specs.declared.edges.RowEdge.{RowEdge}
use Rattle.round_core.proofs.Made.{clashes_kept}
use Rattle.round_core.proofs.verdict.verdict_in.Goals as goal

pub returns : goal.returns
returns c =
    let roots : List Coord = c.args.ask.now.roots in
    let reached = c.args.reached.now in
    let otherwise : Verdict =
    unless_failed (map fault_row (faults_in reached)) (settled_in roots c.args.round reached) in
    let of_steer : c.in_ok-steer.steer ≡ steer roots reached =
    c.in_ok-steer.ensures ∙ ap (λ (rs : List Coord). steer rs reached) c.as_slice-roots.ensures in
    let of_asked : c.in_ok-asked.asked ≡ asked_by roots (steer roots reached) reached.last =
    c.in_ok-asked.ensures
    ∙ ap (λ (rs : List Coord). asked_by rs c.in_ok-steer.steer c.as_slice.result.now) c.as_slice-roots.ensures
    ∙ ap (λ (v : Versions). asked_by roots v c.as_slice.result.now) of_steer
    ∙ ap (λ (last : List RowEdge). asked_by roots (steer roots reached) last) c.as_slice.ensures
    in
    let is : c.in_ok-clashes.clashes ≡ clashes_in (asked_by roots (steer roots reached) reached.last) c.args.rows.now =
    c.in_ok-clashes.ensures ∙ ap (λ (asked : Asked). clashes_in asked c.args.rows.now) of_asked in
    clashes_kept c.in_ok-clashes.clashes otherwise (λ none. false≢true (sym c.if-is_empty.false
    ∙ c.is_empty.ensures.1 none))
    ∙ ap (λ (rows : List ClashRow). unless_clashes rows otherwise) is
