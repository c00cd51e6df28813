use Rattle.file_fetch.proofs.artifacts.seal_any.Goals as goal

pub unreachable-requires : goal.unreachable-requires
unreachable-requires g c =
    let same = c.in-Ok-Some.ensures.digest c.requires.open.holds.0 c.requires.open.holds.1 in
    let no : ⊥ = cc in no
