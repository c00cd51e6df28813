-- Room for one more decimal digit in 128 bits.
use Rattle.std.proofs.Common.{◌≡◌, ℕ, ◌+◌, ◌*◌, ◌<◌, ◌≤◌, ◌^◌, lit<, refl, arith}
use Rattle.std.proofs.Math.Nat.{pow-le-pow_right}

pub room : (number i : ℕ) → i < 20 → number < 10 ^ i → number * 10 + 9 < 2 ^ 128
room number i few small =
    let below : i ≤ 19 = omega (arith, few) in
    let most : 10 ^ i ≤ 10 ^ 19 = pow-le-pow_right (lit< tt) below in
    let is : 10 ^ 19 ≡ 10000000000000000000 = refl in
    omega (arith, small, most, is)
