-- Worked rows of constraints: what reads, and how far the others are read.
use Rattle.std.specs.Prelude.{◌≡◌, true, false, Some, None, [], codes, refl}
use Rattle.fault_place.specs.Reader.{reads, reads_far}
use Rattle.version_order.specs.declared.constraint.Constraint.TheVariants.{Any, Plain, Within}
use Rattle.version_order.specs.Constraints.{trimmed, interval_of, only}
use Rattle.version_order.specs.ConstraintReader.{constraint_reader, begin}

pub two_intervals : reads_far constraint_reader (codes "[1,2),[3,4)") begin ≡ 5
two_intervals = refl

pub variable : reads_far constraint_reader (codes "${v}") begin ≡ 0
variable = refl

pub plus : reads_far constraint_reader (codes "1.2.+") begin ≡ 5
plus = refl

pub plus_is_refused : reads constraint_reader (codes "1.2.+") begin ≡ None
plus_is_refused = refl

pub round_single : reads_far constraint_reader (codes "(1.0)") begin ≡ 4
round_single = refl

pub blank_alone : reads_far constraint_reader (codes "[ ,1]") begin ≡ 2
blank_alone = refl

pub reserved : reads constraint_reader (codes "latest.release") begin ≡ None
reserved = refl

pub no_text : reads constraint_reader [] begin ≡ Some Any
no_text = refl

pub plain : reads constraint_reader (codes "1.0-RC+1") begin ≡ Some (Plain (codes "1.0-RC+1"))
plain = refl

pub backwards : reads constraint_reader (codes "[2,1]") begin
    ≡ Some (Within (interval_of true (Some (codes "2")) (Some (codes "1")) true))
backwards = refl

pub half_open : reads constraint_reader (codes "(,1.0]") begin
    ≡ Some (Within (interval_of false None (Some (codes "1.0")) true))
half_open = refl

pub single : reads constraint_reader (codes "[ 1.0\t]") begin ≡ Some (Within (only (codes "1.0")))
single = refl

pub white_ends : trimmed (codes " \t1 0\r\n ") ≡ codes "1 0"
white_ends = refl

pub white_alone : trimmed (codes " \n ") ≡ []
white_alone = refl
