use Rattle.std.proofs.Common.{◌≡◌, ◌∙◌, ap, subst, IfOk}
use Rattle.res_base.specs.declared.coord.Coord.{Coord}
use Rattle.pom_build.specs.Puts.{put_field}
use Rattle.pom_build.proofs.names.put_coord.Goals as goal

pub returns : goal.returns
returns c =
    let parent : Coord = c.args.parent.now in
    let first : c.in_ok-with_org.with_org ≡ put_field c.args.values (c.args.org.now, parent.«module».org) =
    c.in_ok-with_org.ensures ∙ ap (λ text. put_field c.args.values (c.args.org.now, text)) c.as_str.ensures in
    let second : c.in_ok-with_name.with_name ≡ put_field c.in_ok-with_org.with_org (c.args.name.now, parent.«module».name) =
    c.in_ok-with_name.ensures ∙ ap (λ text. put_field c.in_ok-with_org.with_org (c.args.name.now, text)) c.as_str-2.ensures in
    let whole = ap (λ text. put_field c.in_ok-with_name.with_name (c.args.version.now, text)) c.as_str-3.ensures
    ∙ ap (λ values. put_field values (c.args.version.now, parent.version)) (second ∙ ap (λ values. put_field values (c.args.name.now, parent.«module».name)) first) in
    subst (λ values. IfOk c.put_present-3.result (λ made. made ≡ values)) whole c.put_present-3.ensures
