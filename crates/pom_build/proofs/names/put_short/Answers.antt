use Rattle.std.proofs.Common.{◌≡◌, ◌∙◌, ap, subst, IfOk}
use Rattle.row_lists.specs.RowLists.{or_text}
use Rattle.pom_build.specs.Names.{org_part, part_of, version_part}
use Rattle.pom_build.specs.Puts.{put_field}
use Rattle.pom_build.proofs.names.put_short.Goals as goal

pub returns : goal.returns
returns c =
    let pom = c.args.pom.now in
    let org = or_text pom.org (part_of org_part pom.parent) in
    let version = or_text pom.version (part_of version_part pom.parent) in
    let first : c.in_ok-with_org.with_org ≡ put_field c.args.values (c.args.org.now, org) =
    c.in_ok-with_org.ensures ∙ ap (λ text. put_field c.args.values (c.args.org.now, text)) c.org_of.ensures in
    let second : c.in_ok-with_name.with_name ≡ put_field c.in_ok-with_org.with_org (c.args.name.now, pom.name) =
    c.in_ok-with_name.ensures ∙ ap (λ text. put_field c.in_ok-with_org.with_org (c.args.name.now, text)) c.as_str.ensures in
    let whole = ap (λ text. put_field c.in_ok-with_name.with_name (c.args.version.now, text)) c.version_of.ensures
    ∙ ap (λ values. put_field values (c.args.version.now, version)) (second ∙ ap (λ values. put_field values (c.args.name.now, pom.name)) first) in
    subst (λ values. IfOk c.put_present-3.result (λ made. made ≡ values)) whole c.put_present-3.ensures
