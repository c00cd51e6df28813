use Rattle.std.proofs.Common.{◌≡◌, ◌+◌, ◌∷◌, [], ◌++◌, true, List, take, sym, ◌∙◌, ap, subst, arith}
use Rattle.std.proofs.lemmas.List.{take_all}
use Rattle.std.proofs.Math.Numerals.{add-one}
use Rattle.std.proofs.Math.Seq.{take-suc}
use Rattle.std.specs.BTreeSet.{Updates}
use Rattle.reconcile_rules.specs.declared.request.Request.{Request}
use Rattle.round_core.specs.RequestKeys.{HasKeys, key_of_request, request_key_cmp}
use Rattle.round_core.proofs.RequestKeys.{keys_more}
use Rattle.round_core.proofs.request_list.keys_of.Goals as goal

pub loop-request-preserved : goal.loop-request-preserved
loop-request-preserved c =
    let given : List Request = c.args.requests.now in
    let place = c.loop-request.request-index in
    let r : Request = c.request-item.result in
    let next : take (place + 1) given ≡ take place given ++ r ∷ [] =
    rw add-one (take-suc given place r c.loop-request-test.true
    ∙ ap (λ (one : Request). take place given ++ one ∷ []) (sym c.request-item.is)) in
    let noted : Updates request_key_cmp c.loop-request.keys c.insert.new.self (key_of_request r) true =
    subst (λ k. Updates request_key_cmp c.loop-request.keys c.insert.new.self k true) c.in_ok-key_of.ensures
    c.in_ok-insert.ensures.updates in
    subst (HasKeys c.insert.new.self) (sym next)
    (keys_more (take place given) r c.loop-request.keys c.insert.new.self c.loop-request.invariant noted)

pub returns : goal.returns
returns c =
    subst (HasKeys c.loop-request.keys)
    (take_all c.loop-request.request-index c.args.requests.now (omega arith)) c.loop-request.invariant
