-- Worked rows.
use Rattle.std.specs.Prelude.{◌≡◌, codes, refl}
use Rattle.line_streams.specs.Said.{err_of, out_of, status_of}
use Rattle.line_streams.specs.declared.said.Said.TheVariants.{Prints, Tells}

pub printed : out_of (Prints (record { status = 1; bytes = codes "unsettled 4\n" })) ≡ codes "unsettled 4\n"
printed = refl

pub told : err_of (Tells 8 (codes "coursier: too many files\n")) ≡ codes "coursier: too many files\n"
told = refl

pub status : status_of (Tells 8 (codes "coursier: too many files\n")) ≡ 8
status = refl
