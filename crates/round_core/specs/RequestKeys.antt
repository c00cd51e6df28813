-- Requests in an order, so that one which is there is found without a walk over all.
use Rattle.std.specs.Prelude.{◌≡◌, ℕ, Bool, List, [], nat_eq}
use Rattle.std.specs.declared.cmp.Ordering.{Ordering}
use Rattle.std.specs.BTreeSet.{BTreeSet, contains}
use Rattle.std.specs.List.{list_any}
use Rattle.std.specs.Ordering.{eq_of_both, nat_cmp, on, then_cmp}
use Rattle.res_base.specs.Builders.{module_of}
use Rattle.res_base.specs.Names.{module_cmp, module_eq, text_cmp, text_eq}
use Rattle.reconcile_rules.specs.declared.request.Asker.{Asker}
use Rattle.reconcile_rules.specs.declared.request.Asker.TheVariants.{Root, Project}
use Rattle.reconcile_rules.specs.declared.request.Request.{Request}
use Rattle.round_core.specs.Requests.{request_eq}
use Rattle.round_core.specs.declared.request_key.RequestKey.{RequestKey}

abbrev pub request_key_eq : RequestKey → RequestKey → Bool
request_key_eq =
    eq_of_both (eq_of_both (eq_of_both (eq_of_both (on (λ key. key.kind) nat_eq) (on (λ key. key.place) nat_eq))
    (on (λ key. key.«module») module_eq)) (on (λ key. key.version) text_eq)) (on (λ key. key.text) text_eq)

-- roots before projects; then by who asks, and by the text
abbrev pub request_key_cmp : RequestKey → RequestKey → Ordering
request_key_cmp = then_cmp (then_cmp (then_cmp (then_cmp (on (λ key. key.kind) nat_cmp) (on (λ key. key.place) nat_cmp))
    (on (λ key. key.«module») module_cmp)) (on (λ key. key.version) text_cmp)) (on (λ key. key.text) text_cmp)

abbrev pub key_for : List ℕ → Asker → RequestKey
key_for text (Root place) =
    record { kind = 0; place = place; «module» = module_of [] []; version = []; text = text }
key_for text (Project c) =
    record { kind = 1; place = 0; «module» = c.«module»; version = c.version; text = text }

abbrev pub key_of_request : Request → RequestKey
key_of_request r = key_for r.text r.«from»

-- a set has the keys of these requests, and of no other
abbrev pub HasKeys : BTreeSet RequestKey → List Request → Type 0
HasKeys seen requests = (r : Request) →
    contains request_key_cmp seen (key_of_request r) ≡ list_any (request_eq r) requests
