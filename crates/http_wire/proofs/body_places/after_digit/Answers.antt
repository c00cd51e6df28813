use Rattle.std.proofs.Common.{ℕ, ◌+◌, ◌*◌, ◌^◌, ◌<◌, ◌≤◌, arith, pow-add}
use Rattle.std.proofs.Math.Nat.{pow-le-pow_right}
use Rattle.http_wire.proofs.body_places.after_digit.Goals as goal

below_top : (at : ℕ) → at < 16 → 16 ^ (at + 1) ≤ 2 ^ 64
below_top at h = pow-le-pow_right {n = 16} (omega arith) {j = 16} (omega arith)

digit_more : (size digit at : ℕ) → size < 16 ^ at → digit < 16 → size * 16 + digit < 16 ^ (at + 1)
digit_more size digit at below small = omega (arith, pow-add 16 at 1)

pub overflow_mul-result : goal.overflow_mul-result
overflow_mul-result c = omega (
  arith,
  digit_more _ 0 _ c.requires.1 (omega arith),
  below_top c.args.digits
      (omega arith),
)

pub overflow_add-result-in-Some : goal.overflow_add-result-in-Some
overflow_add-result-in-Some c = omega (
  arith,
  digit_more _ _ _ c.requires.1 c.in-Some.ensures.value.1,
  below_top
      c.args.digits (omega arith),
)
