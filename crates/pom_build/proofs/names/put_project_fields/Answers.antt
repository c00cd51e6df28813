use Rattle.std.proofs.Common.{◌≡◌, ◌∙◌, codes, ap, subst, IfOk}
use Rattle.pom_build.specs.Puts.{coordinates_under, parent_under, put_field, put_fields}
use Rattle.pom_build.proofs.Fields.{project_fields}
use Rattle.pom_build.proofs.names.put_project_fields.Goals as goal

pub returns : goal.returns
returns c =
    let pom = c.args.pom.now in
    let coordinates = c.in_ok-coordinates.coordinates in
    let first : coordinates ≡ put_fields c.args.values (coordinates_under (codes "project.groupId") (codes "project.artifactId") (codes "project.version") pom) = c.in_ok-coordinates.ensures in
    let second : c.in_ok-packaged.packaged ≡ put_field coordinates (codes "project.packaging", pom.packaging) =
    c.in_ok-packaged.ensures ∙ ap (λ text. put_field coordinates (codes "project.packaging", text)) c.as_str.ensures in
    let parent = parent_under (codes "project.parent.groupId") (codes "project.parent.artifactId") (codes "project.parent.version") pom.parent in
    let whole = ap (λ values. put_fields values parent) (second ∙ ap (λ values. put_field values (codes "project.packaging", pom.packaging)) first)
    ∙ project_fields c.args.values pom in
    subst (λ values. IfOk c.put_parent.result (λ made. made ≡ values)) whole c.put_parent.ensures
