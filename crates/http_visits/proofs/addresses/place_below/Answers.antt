use Rattle.std.proofs.Common.{◌≡◌, ◌∷◌, ◌++◌, lit<, Some, string_bytes, ap, ◌∙◌, arith}
use Rattle.std.proofs.lemmas.Grind.{common_steps}
use Rattle.std.proofs.lemmas.Str.Pattern.{split_once_first}
use Rattle.http_visits.proofs.Texts.{around_slash, target_spelled}
use Rattle.http_visits.proofs.addresses.place_below.Goals as goal

pub returns-in_ok-place_at-in-Some-clause-spelled : goal.returns-in_ok-place_at-in-Some-clause-spelled
returns-in_ok-place_at-in-Some-clause-spelled c =
    let cut = split_once_first 47 c.args.rest.now (Some (c.in-Some.authority, c.in-Some.folder)) c.in-Some.ensures.cases
    (lit< tt) in
    let rest_is = around_slash c.args.rest.now c.in-Some.authority.now c.in-Some.folder.now cut.0 cut.1 cut.2 in
    let target_is : string_bytes c.in_ok-target-in-Some.target ≡ 47 ∷ (c.in-Some.folder.now ++ (47 ∷ c.args.path.now)) =
    grind (arith, common_steps, c.in_ok-target-in-Some.ensures.ok) in
    ap (λ place. place.authority ++ place.target) c.in_ok-place_at-in-Some.ensures
    ∙ target_spelled c.args.rest.now c.in-Some.authority.now c.in-Some.folder.now c.args.path.now
    (string_bytes c.in_ok-target-in-Some.target) rest_is target_is
