-- Worked rows.
use Rattle.std.specs.Prelude.{◌≡◌, ℕ, List, [], ◌∷◌, codes, refl}
use Rattle.res_base.specs.Builders.{module_of}
use Rattle.res_base.specs.declared.pom.DepRecord.{DepRecord}
use Rattle.res_base.specs.declared.pom.Exclusion.{Exclusion}
use Rattle.row_lists.specs.RowLists.{last_of_key, overridden, joined, with_imported, all_managed}

abbrev row : List ℕ → List ℕ → DepRecord
row name version = record { «module» = module_of (codes "x") name; version = version; kind = []; classifier = []; scope = []; optional = []; exclusions = [] }

abbrev no_s : List Exclusion
no_s = record { org = codes "x"; name = codes "s" } ∷ []

abbrev m : List ℕ → DepRecord
m version = row (codes "m") version

abbrev n : List ℕ → DepRecord
n version = row (codes "n") version

abbrev jar : DepRecord → DepRecord
jar given = record given { kind = codes "jar" }

abbrev test_jar : DepRecord → DepRecord
test_jar given = record given { kind = codes "test-jar" }

-- an absent type is `jar`
pub last_counts : last_of_key (m (codes "1") ∷ n (codes "1") ∷ jar (m (codes "2")) ∷ test_jar (m (codes "3")) ∷ []) ≡ n (codes "1") ∷ jar (m (codes "2")) ∷ test_jar (m (codes "3")) ∷ []
last_counts = refl

pub child_counts : overridden (m (codes "1") ∷ n (codes "1") ∷ []) (m (codes "2") ∷ []) ≡ n (codes "1") ∷ m (codes "2") ∷ []
child_counts = refl

pub nearest_counts : joined ((m (codes "3") ∷ []) ∷ (n (codes "2") ∷ m (codes "2") ∷ []) ∷ (n (codes "1") ∷ test_jar (n (codes "1")) ∷ []) ∷ []) ≡ test_jar (n (codes "1")) ∷ n (codes "2") ∷ m (codes "3") ∷ []
nearest_counts = refl

pub first_counts : with_imported (m (codes "1") ∷ []) (n (codes "1") ∷ jar (m (codes "2")) ∷ n (codes "2") ∷ []) ≡ m (codes "1") ∷ n (codes "1") ∷ []
first_counts = refl

abbrev managed_m : DepRecord
managed_m = record (m (codes "2")) { scope = codes "test"; exclusions = no_s }

pub version_is_taken : all_managed (managed_m ∷ []) (m [] ∷ []) ≡ record (jar managed_m) { version = codes "2" } ∷ []
version_is_taken = refl

-- a version in the row stays, and the scope and the exclusions are taken all the same
pub version_stays : all_managed (managed_m ∷ []) (m (codes "1") ∷ []) ≡ record (jar managed_m) { version = codes "1" } ∷ []
version_stays = refl

-- the row of a test-jar does not manage the jar
pub other_type : all_managed (test_jar managed_m ∷ []) (m [] ∷ []) ≡ record (jar (m [])) { scope = codes "compile" } ∷ []
other_type = refl

pub own_counts : all_managed (managed_m ∷ []) (record (m []) { scope = codes "runtime"; exclusions = record { org = codes "*"; name = codes "*" } ∷ [] } ∷ [])
    ≡ record (jar (m (codes "2"))) { scope = codes "runtime"; exclusions = record { org = codes "*"; name = codes "*" } ∷ [] } ∷ []
own_counts = refl
