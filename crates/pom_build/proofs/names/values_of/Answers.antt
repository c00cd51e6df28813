use Rattle.std.proofs.Common.{◌≡◌, ◌∙◌, [], codes, ap, subst, rules, IfOk}
use Rattle.res_base.specs.declared.pom.PomRecord.{PomRecord}
use Rattle.pom_build.specs.Puts.{coordinates_under, put_coordinates, put_fields, put_project, put_projects, put_record}
use Rattle.pom_build.proofs.Fields.{short_fields_again}
use Rattle.pom_build.proofs.names.values_of.Goals as goal

pub returns : goal.returns
returns c =
    let line = c.args.line.now in
    let pom = line.own.pom in
    let there : PomRecord = c.own_record-pom.result.now in
    let is : there ≡ pom = c.own_record-pom.ensures in
    let fields : c.in_ok-fields.fields ≡ put_record [] (codes "project.") pom =
    c.in_ok-fields.ensures ∙ ap (λ values. put_record values (codes "project.") there) c.new.ensures ∙ ap (put_record [] (codes "project.")) is in
    let both : c.in_ok-all_fields.all_fields ≡ put_record (put_record [] (codes "project.") pom) (codes "pom.") pom =
    c.in_ok-all_fields.ensures ∙ ap (λ values. put_record values (codes "pom.") there) fields
    ∙ ap (put_record (put_record [] (codes "project.") pom) (codes "pom.")) is in
    let own_is : c.in_ok-own.own ≡ put_project c.in_ok-all_fields.all_fields line.own = search rules in
    let all_is : c.in_ok-all.all ≡ put_projects c.in_ok-own.own line.parents = search rules in
    let own = own_is ∙ ap (λ values. put_project values line.own) both in
    let all = all_is ∙ ap (λ values. put_projects values line.parents) own in
    let whole = ap (λ values. put_fields values (coordinates_under (codes "groupId") (codes "artifactId") (codes "version") there)) all
    ∙ short_fields_again _ there ∙ ap (put_coordinates _ []) is in
    subst (λ values. IfOk c.put_short.result (λ made. made ≡ values)) whole c.put_short.ensures
