use Rattle.std.proofs.Common.{◌≡◌, ◌<◌, ℕ, List, length, get_or, subst}
use Rattle.cache_layout.specs.Addresses.{IsAddress}
use Rattle.print_cases.proofs.Walked.{one_more}
use Rattle.print_cases.proofs.conditions.are_addresses.Goals as goal

pub loop-address-preserved : goal.loop-address-preserved
loop-address-preserved c =
    let items : c.as_slice-address-items.result.now ≡ c.args.addresses.now = c.as_slice-address-items.ensures in
    let within : c.loop-address.address-index < length c.args.addresses.now = subst (λ (all : List (List ℕ)). c.loop-address.address-index < length all) items c.loop-address-test.true in
    let is : c.address-item.result ≡ get_or c.args.addresses.now c.loop-address.address-index c.address-item.result = cc (c.address-item.is, items) in
    one_more (λ (address : List ℕ). IsAddress address) c.args.addresses.now c.loop-address.address-index c.address-item.result within is
    (subst (λ (address : List ℕ). IsAddress address) c.as_str.ensures (c.in_ok-is_address.ensures c.if-not-branch.false)) c.loop-address.invariant
