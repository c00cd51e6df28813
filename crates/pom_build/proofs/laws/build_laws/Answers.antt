use Rattle.pom_build.proofs.BuildGrows.{effective_same, managed_from-stays}
use Rattle.pom_build.proofs.KeysGrow.{within_effective}
use Rattle.pom_build.proofs.laws.build_laws.Goals as goal

pub returns : goal.returns
returns c =
    record {
      answer = λ before after repos coord grows. effective_same before after repos (λ one. c.look_laws.ensures.grows before after repos one grows) coord;
      managed = λ before after repos left chain coord grows.
          (managed_from-stays before after repos (λ one. c.look_laws.ensures.grows before after repos one grows) left chain coord).same;
      keys = λ before after repos coord key grows.
          (within_effective before after repos grows (λ one. c.look_laws.ensures.grows before after repos one grows) coord).each key;
    }
