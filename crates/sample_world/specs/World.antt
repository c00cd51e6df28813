-- The generated world: each release's project file in its place of the Maven 2 repository layout below
-- `http://sample`.
use Rattle.std.specs.Prelude.{ℕ, zero, suc, ◌+◌, List, [], ◌∷◌, ◌++◌, codes, decimal}
use Rattle.res_base.specs.declared.world.WorldRow.{WorldRow}
use Rattle.sample_world.specs.Projects.{release, releases_from, state_behind, project_text}
use Rattle.sample_world.specs.declared.projects.Release.{Release}

abbrev pub url_text : Release → List ℕ
url_text r =
    codes "http://sample/s/m/m" ++ (decimal r.number ++ (codes "/1." ++ (decimal r.version ++
    (codes "/m" ++ (decimal r.number ++ (codes "-1." ++ (decimal r.version ++ codes ".pom")))))))

-- the file of a release, where its draws go on from a state
abbrev pub row_from : ℕ → Release → ℕ → WorldRow
row_from count r state = record { url = url_text r; bytes = project_text r (releases_from count r.number state) }

-- the files of a module's three releases
abbrev pub module_rows : ℕ → ℕ → ℕ → List WorldRow
module_rows count number state =
    let one = state_behind state in
    row_from count (release number 0) state ∷ row_from count (release number 1) one ∷ row_from count (release number 2) (state_behind one) ∷ []

abbrev pub state_behind_module : ℕ → ℕ
state_behind_module state = state_behind (state_behind (state_behind state))

-- the files of so many modules, the first of which has this number; draws go on from file to file
abbrev pub rows_from : ℕ → ℕ → ℕ → ℕ → List WorldRow
rows_from count zero number state = []
rows_from count (suc left) number state =
    module_rows count number state ++ rows_from count left (number + 1) (state_behind_module state)

-- the files of a world of so many modules, whose draws begin with a seed
abbrev pub sample_rows : ℕ → ℕ → List WorldRow
sample_rows seed count = rows_from count count 0 seed
