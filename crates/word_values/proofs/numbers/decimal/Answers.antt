use Rattle.std.proofs.Common.{arith}
use Rattle.std.proofs.lemmas.Bool.Decides.{nat_tests}
use Rattle.std.proofs.lemmas.List.Sums.{AllPass-from_list_all}
use Rattle.ascii_bytes.specs.Classes.{is_digit}
use Rattle.word_values.proofs.Room.{room}
use Rattle.word_values.proofs.numbers.decimal.Goals as goal

pub overflow_mul-number : goal.overflow_mul-number
overflow_mul-number c = omega (
  arith,
  room c.loop-byte.number c.loop-byte.byte-index
      (omega arith) c.loop-byte.invariant.small,
)

pub overflow_add-number : goal.overflow_add-number
overflow_add-number c =
    let digit = AllPass-from_list_all is_digit c.args.text.now c.requires.digits c.loop-byte.byte-index 0
    c.loop-byte-test.true in
    grind (
      arith,
      nat_tests,
      digit,
      room c.loop-byte.number c.loop-byte.byte-index
          (omega arith) c.loop-byte.invariant.small,
    )
