use Rattle.std.proofs.Common.{rules, ◌≡◌, ℕ, ◌<◌, List, length, get_or, subst, arith}
use Rattle.std.proofs.lemmas.Str.{IsCharBoundary-after_ascii}
use Rattle.res_base.specs.CoordText.{IsCoordText}
use Rattle.res_base.specs.declared.coord.Coord.{Coord}
use Rattle.res_base.proofs.CoordSteps.{in_spelled, none_at_place}
use Rattle.res_base.proofs.coord_text.parse_coord.Goals as goal

pub range-name-requires-clause-start_boundary : goal.range-name-requires-clause-start_boundary
range-name-requires-clause-start_boundary c =
    let same : c.as_bytes-bytes.result.now ≡ c.args.text.now = c.as_bytes-bytes.ensures.value in
    let Colon : List ℕ → Type 0 = λ text. get_or text c.in-Ok.at 0 ≡ 58 in
    let Within : List ℕ → Type 0 = λ text. c.in-Ok.at < length text in
    let colon = subst Colon same c.in-Ok.ensures.colon in
    λ _. IsCharBoundary-after_ascii c.args.text.now c.in-Ok.at c.utf8.text (subst Within same c.in-Ok.ensures.within)
    (omega (arith, colon))

pub returns-in-Err-clause-none : goal.returns-in-Err-clause-none
returns-in-Err-clause-none c = λ n _. none_at_place c.as_bytes-bytes.result.now c.args.text.now c.in-Err.place
    c.as_bytes-bytes.ensures.value c.in-Err.ensures.refused

pub returns-in-Err-name_end-clause-none : goal.returns-in-Err-name_end-clause-none
returns-in-Err-name_end-clause-none c =
    λ n _. none_at_place c.as_bytes-bytes.result.now c.args.text.now c.in-Err-name_end.place
    c.as_bytes-bytes.ensures.value c.in-Err-name_end.ensures.refused

pub returns-in-Err-constraint_end-clause-none : goal.returns-in-Err-constraint_end-clause-none
returns-in-Err-constraint_end-clause-none c =
    λ n _. none_at_place c.as_bytes-bytes.result.now c.args.text.now c.in-Err-constraint_end.place
    c.as_bytes-bytes.ensures.value c.in-Err-constraint_end.ensures.refused

pub returns-clause-value : goal.returns-clause-value
returns-clause-value c =
    let coord : Coord = record {
      «module» = record { org = c.in_ok-of.field-0; name = c.in_ok-of-2.field-0 };
      version = c.in_ok-of-3.field-0;
    } in
    let spelled : IsCoordText c.args.text.now coord = search rules in
    in_spelled c.args.text.now coord spelled
