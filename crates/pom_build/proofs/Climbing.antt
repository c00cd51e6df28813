-- One project more, of a line and of a chain of imports.
use Rattle.std.proofs.Common.{◌≡◌, ℕ, suc, false, Some, List, [], ◌∷◌, ◌++◌, refl}
use Rattle.res_base.specs.Known.{Known}
use Rattle.res_base.specs.declared.coord.Coord.{Coord}
use Rattle.pom_build.specs.Imports.{imported, managed_from, managed_with}
use Rattle.pom_build.specs.Lines.{climbed, is_among, line_from, line_of}
use Rattle.pom_build.specs.Outcomes.{and_then}
use Rattle.pom_build.specs.declared.line.Line.{Line}

pub line_from-more : (known : Known) (repos n left : ℕ) (line : Line) (parent : Coord) → n ≡ suc left → line_from known repos n line (Some parent) ≡ climbed known repos line (line_from known repos left) parent
line_from-more known repos n left line parent e = rw e refl

pub managed_from-more : (known : Known) (repos n left : ℕ) (chain : List Coord) (c : Coord) → n ≡ suc left → is_among c chain ≡ false
    → managed_from known repos n chain c ≡ and_then (imported c (line_of known repos c)) (managed_with (managed_from known repos left (chain ++ c ∷ [])))
managed_from-more known repos n left chain c e met = rw (e, met) refl
