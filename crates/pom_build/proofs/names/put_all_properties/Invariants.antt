use Rattle.std.proofs.Common.{◌≡◌, map, take}
use Rattle.pom_build.specs.Puts.{put_properties}
use Rattle.pom_build.proofs.names.put_all_properties.Given as goal

abbrev pub invariant-loop-property : goal.invariant-loop-property
invariant-loop-property l =
    l.made
    ≡ put_properties l.fn.values (map (λ property. (property.name, property.value)) (take l.property-index l.property-items))
