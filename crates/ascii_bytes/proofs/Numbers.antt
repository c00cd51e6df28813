-- Room for one more decimal digit in 64 bits.
use Rattle.std.proofs.Common.{◌≡◌, ℕ, ◌+◌, ◌*◌, ◌<◌, ◌≤◌, ◌^◌, lit<, refl, arith}
use Rattle.std.proofs.Math.Nat.{pow-le-pow_right}

pub room : (number i : ℕ) → i < 19 → number < 10 ^ i → number * 10 + 9 < 2 ^ 64
room number i few small =
    let below : i ≤ 18 = omega (arith, few) in
    let most : 10 ^ i ≤ 10 ^ 18 = pow-le-pow_right (lit< tt) below in
    let is : 10 ^ 18 ≡ 1000000000000000000 = refl in
    omega (arith, small, most, is)
