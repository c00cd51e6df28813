-- Where a repository keeps its files: the Maven 2 repository layout.
use Rattle.std.specs.Prelude.{ℕ, List, [], ◌∷◌, ◌++◌, codes, map, ◌==◌, if◌then◌else◌}
use Rattle.ascii_bytes.specs.Signs.{dash, dot, slash}
use Rattle.res_base.specs.declared.coord.Coord.{Coord}
use Rattle.res_base.specs.declared.coord.Module.{Module}

-- a slash for a dot
abbrev pub slashed_byte : ℕ → ℕ
slashed_byte byte = if byte == dot then slash else byte

-- the folder of an org: each dot becomes a slash
abbrev pub slashed : List ℕ → List ℕ
slashed org = map slashed_byte org

-- org/name
abbrev pub module_folder : Module → List ℕ
module_folder m = slashed m.org ++ slash ∷ m.name

-- org/name/version/name-version
abbrev pub file_stem : Coord → List ℕ
file_stem c = module_folder c.«module» ++ slash ∷ (c.version ++ slash ∷ (c.«module».name ++ dash ∷ c.version))

abbrev pub pom_path_of : Coord → List ℕ
pom_path_of c = file_stem c ++ codes ".pom"

-- a dash before a classifier, and nothing before none
abbrev pub dash_of : List ℕ → List ℕ
dash_of [] = []
dash_of (_ ∷ _) = dash ∷ []

abbrev pub file_path_of : Coord → List ℕ → List ℕ → List ℕ
file_path_of c ext classifier = file_stem c ++ (dash_of classifier ++ (classifier ++ dot ∷ ext))

abbrev pub listing_path_of : Module → List ℕ
listing_path_of m = module_folder m ++ codes "/maven-metadata.xml"

-- the URL of a path below a repository's address
abbrev pub url_at : List ℕ → List ℕ → List ℕ
url_at address path = address ++ slash ∷ path
