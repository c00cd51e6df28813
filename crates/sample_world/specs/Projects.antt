-- The project files of the generated world. Module number I is `s.m:mI`; it has the versions 1.0, 1.1 and 1.2.
use Rattle.std.specs.Prelude.{ℕ, ◌+◌, ◌*◌, List, [], ◌∷◌, ◌++◌, codes, decimal, nat_lt, if◌then◌else◌}
use Rattle.std.specs.List.{flat_map}
use Rattle.sample_world.specs.Draws.{state_after, drawn}
use Rattle.sample_world.specs.declared.projects.Release.{Release}

-- the release of a module, by the module's number and K of its version 1.K
abbrev pub release : ℕ → ℕ → Release
release number version = record { number = number; version = version }

-- a dependency on a release, where there is such a module among so many
abbrev pub where_made : ℕ → Release → List Release
where_made count wanted = if nat_lt wanted.number count then wanted ∷ [] else []

-- the two that stand below a module in a binary tree
abbrev pub tree_releases : ℕ → ℕ → List Release
tree_releases count number =
    where_made count (release (2 * number + 1) 0) ++ where_made count (release (2 * number + 2) 0)

-- one that is drawn: a module a little further on, and one of its versions. It takes two draws, of which this is
-- told the states.
abbrev pub drawn_release : ℕ → ℕ → ℕ → ℕ → List Release
drawn_release count number far state = where_made count (release (4 * number + 3 + drawn 8 far) (drawn 3 state))

-- the dependencies of a module's release, where four draws go on from a state
abbrev pub releases_from : ℕ → ℕ → ℕ → List Release
releases_from count number state =
    let one = state_after state in
    let two = state_after one in
    let three = state_after two in
    tree_releases count number ++ (drawn_release count number one two ++ drawn_release count number three (state_after three))

-- the state behind these four draws
abbrev pub state_behind : ℕ → ℕ
state_behind state = state_after (state_after (state_after (state_after state)))

-- the element of a dependency on a release
abbrev pub dependency_text : Release → List ℕ
dependency_text r =
    codes "<dependency><groupId>s.m</groupId><artifactId>m" ++
    (decimal r.number ++ (codes "</artifactId><version>1." ++ (decimal r.version ++ codes "</version></dependency>")))

-- what stands before the dependencies
abbrev pub head_text : Release → List ℕ
head_text r =
    codes "<project><modelVersion>4.0.0</modelVersion><groupId>s.m</groupId><artifactId>m" ++
    (decimal r.number ++ (codes "</artifactId><version>1." ++ (decimal r.version ++ codes "</version><dependencies>")))

-- the project file of a release with these dependencies, after the Maven POM reference
abbrev pub project_text : Release → List Release → List ℕ
project_text r wanted = head_text r ++ flat_map dependency_text wanted ++ codes "</dependencies></project>"
