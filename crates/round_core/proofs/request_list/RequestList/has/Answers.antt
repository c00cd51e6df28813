use Rattle.std.proofs.Common.{◌≡◌, sym, ◌∙◌, ap, subst}
use Rattle.std.specs.Prelude.{IfSome, Some}
use Rattle.std.specs.BTreeSet.{contains}
use Rattle.std.specs.List.{list_any}
use Rattle.reconcile_rules.specs.declared.request.Request.{Request}
use Rattle.round_core.specs.RequestKeys.{HasKeys, request_key_cmp}
use Rattle.round_core.specs.Requests.{request_eq}
use Rattle.round_core.proofs.request_list.RequestList.has.Goals as goal

pub returns-in_ok-key-in-Some : goal.returns-in_ok-key-in-Some
returns-in_ok-key-in-Some c =
    let r : Request = c.args.request.now in
    let have : HasKeys c.in-Some.keys c.self.inside.requests =
    subst (λ seen. IfSome seen (λ keys. HasKeys keys c.self.inside.requests)) c.in-Some.is c.self.invariant in
    c.contains.ensures
    ∙ ap (contains request_key_cmp c.in-Some.keys) c.in_ok-key-in-Some.ensures
    ∙ have r
    ∙ ap (λ rs. list_any (request_eq r) rs) c.self.view_is
