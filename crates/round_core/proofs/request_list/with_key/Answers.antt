use Rattle.std.proofs.Common.{true, subst}
use Rattle.std.specs.BTreeSet.{Updates}
use Rattle.reconcile_rules.specs.declared.request.Request.{Request}
use Rattle.round_core.specs.RequestKeys.{key_of_request, request_key_cmp}
use Rattle.round_core.proofs.RequestKeys.{keys_more}
use Rattle.round_core.proofs.request_list.with_key.Goals as goal

pub returns : goal.returns
returns c =
    let r : Request = c.args.request.now in
    let noted : Updates request_key_cmp c.args.keys c.insert.new.self (key_of_request r) true =
    subst (λ k. Updates request_key_cmp c.args.keys c.insert.new.self k true) c.in_ok-key_of.ensures
    c.in_ok-insert.ensures.updates in
    keys_more c.args.requests.now r c.args.keys c.insert.new.self c.requires noted
