use Rattle.std.proofs.Common.{◌≡◌, true, false, cond, List, [], ◌∷◌, ◌++◌, sym, ◌∙◌, ap, subst}
use Rattle.std.specs.Prelude.{IfSome}
use Rattle.std.specs.List.{list_any}
use Rattle.reconcile_rules.specs.declared.request.Request.{Request}
use Rattle.round_core.specs.RequestKeys.{HasKeys}
use Rattle.round_core.specs.Requests.{request_eq}
use Rattle.round_core.proofs.request_list.RequestList.with.Goals as goal

pub returns-then-branch : goal.returns-then-branch
returns-then-branch c =
    let r : Request = c.args.request in
    let has : list_any (request_eq r) c.args.self ≡ true = sym c.in_ok-has.ensures ∙ c.if-branch.true in
    sym (ap (λ t. cond t c.args.self (c.args.self ++ r ∷ [])) has)

pub keys_with-requires : goal.keys_with-requires
keys_with-requires c =
    subst (λ rs. IfSome c.self.inside.seen (λ keys. HasKeys keys rs)) (sym c.as_slice.ensures) c.self.invariant

pub returns : goal.returns
returns c =
    let r : Request = c.args.request in
    let none : list_any (request_eq r) c.args.self ≡ false = sym c.in_ok-has.ensures ∙ c.if-branch.false in
    c.in_ok-push.ensures.ok
    ∙ ap (λ rs. rs ++ r ∷ []) c.self.view_is
    ∙ sym (ap (λ t. cond t c.args.self (c.args.self ++ r ∷ [])) none)
