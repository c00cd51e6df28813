use Rattle.std.proofs.Common.{◌≡◌, ℕ, List, ◌<◌, length, subst}
use Rattle.std.specs.List.{IsDistinct}
use Rattle.pom_build.proofs.Found.{found_built}
use Rattle.pom_build.proofs.Told.{told_distinct, told_line_absent, told_needed, told_not_found, told_poms, told_some}
use Rattle.pom_build.proofs.laws.answer_laws.Goals as goal

pub returns : goal.returns
returns c =
    record {
      built = λ known repos coord project e. found_built known repos (λ one plain. c.look_laws.ensures.plain known repos one plain) coord project e;
      some = told_some;
      distinct = told_distinct;
      needed = told_needed;
      poms = told_poms;
      not_found = told_not_found;
      line_absent = told_line_absent;
    }
