use Rattle.std.proofs.Common.{◌≡◌, ◌∙◌, codes, ap, subst, IfOk}
use Rattle.pom_build.specs.Puts.{coordinates_under, parent_under, put_field, put_fields}
use Rattle.pom_build.proofs.Fields.{pom_fields}
use Rattle.pom_build.proofs.names.put_pom_fields.Goals as goal

pub returns : goal.returns
returns c =
    let pom = c.args.pom.now in
    let coordinates = c.in_ok-coordinates.coordinates in
    let first : coordinates ≡ put_fields c.args.values (coordinates_under (codes "pom.groupId") (codes "pom.artifactId") (codes "pom.version") pom) = c.in_ok-coordinates.ensures in
    let second : c.in_ok-packaged.packaged ≡ put_field coordinates (codes "pom.packaging", pom.packaging) =
    c.in_ok-packaged.ensures ∙ ap (λ text. put_field coordinates (codes "pom.packaging", text)) c.as_str.ensures in
    let parent = parent_under (codes "pom.parent.groupId") (codes "pom.parent.artifactId") (codes "pom.parent.version") pom.parent in
    let whole = ap (λ values. put_fields values parent) (second ∙ ap (λ values. put_field values (codes "pom.packaging", pom.packaging)) first)
    ∙ pom_fields c.args.values pom in
    subst (λ values. IfOk c.put_parent.result (λ made. made ≡ values)) whole c.put_parent.ensures
