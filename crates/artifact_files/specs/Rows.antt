-- Worked rows.
use Rattle.std.specs.Prelude.{◌≡◌, ℕ, true, false, None, List, [], ◌∷◌, codes, refl}
use Rattle.res_base.specs.Builders.{coord_of, key_of}
use Rattle.res_base.specs.declared.key.FileKey.{FileKey}
use Rattle.res_base.specs.declared.key.Role.TheVariants.{Artifact}
use Rattle.resolution.specs.declared.settled.Edge.{Edge}
use Rattle.resolution.specs.declared.settled.Node.{Node}
use Rattle.resolution.specs.declared.settled.Settled.{Settled}
use Rattle.artifact_files.specs.Files.{artifact_keys}

-- `x:NAME:1`, found in repository 2
abbrev node : List ℕ → List ℕ → Node
node name packaging = record {
  coord = coord_of (codes "x") name (codes "1");
  repo = 2;
  packaging = packaging;
  moved =
      false;
}

abbrev edge : ℕ → List ℕ → List ℕ → Edge
edge target kind classifier =
    record { source = None; target = target; asked = codes "1"; kind = kind; classifier = classifier }

abbrev settled : List Node → List Edge → Settled
settled nodes edges = record { round = 2; nodes = nodes; edges = edges }

abbrev of_one : List ℕ → List Edge → List FileKey
of_one packaging edges = artifact_keys (settled (node (codes "a") packaging ∷ []) edges)

abbrev key : List ℕ → FileKey
key path = key_of 2 Artifact path

pub jar : of_one (codes "jar") (edge 0 (codes "jar") [] ∷ edge 0 (codes "jar") [] ∷ [])
    ≡ key (codes "x/a/1/a-1.jar") ∷ []
jar = refl

pub by_packaging : of_one (codes "war") (edge 0 (codes "jar") [] ∷ []) ≡ key (codes "x/a/1/a-1.war") ∷ []
by_packaging = refl

pub pom_has_none : of_one (codes "pom") (edge 0 (codes "jar") [] ∷ edge 0 (codes "pom") (codes "c") ∷ []) ≡ []
pom_has_none = refl

-- a classifier, or the type's own; and another type is an extension
pub by_type : of_one (codes "jar")
    (edge 0 (codes "test-jar") [] ∷ edge 0 (codes "javadoc") (codes "d") ∷ edge 0 (codes "tar.gz") [] ∷ [])
    ≡ key (codes "x/a/1/a-1-d.jar") ∷ key (codes "x/a/1/a-1-tests.jar") ∷ key (codes "x/a/1/a-1.tar.gz") ∷ []
by_type = refl

-- by node, then by extension, then by classifier, whatever the order of the edges
pub in_order : artifact_keys
    (settled (node (codes "a") (codes "jar") ∷ node (codes "b") (codes "jar") ∷ [])
    (edge 1 (codes "zip") [] ∷ edge 1 (codes "jar") (codes "c") ∷ edge 0 (codes "jar") [] ∷ edge 1
    (codes "jar") [] ∷ []))
    ≡ key (codes "x/a/1/a-1.jar") ∷ key (codes "x/b/1/b-1.jar") ∷ key (codes "x/b/1/b-1-c.jar") ∷ key
    (codes "x/b/1/b-1.zip") ∷ []
in_order = refl

-- of two files with one path the first counts
pub one_path : of_one (codes "jar") (edge 0 (codes "jar") (codes "c.d") ∷ edge 0 (codes "d.jar") (codes "c") ∷ [])
    ≡ key (codes "x/a/1/a-1-c.d.jar") ∷ []
one_path = refl

-- an extension or a classifier that is not plain has no file
pub not_plain : of_one (codes "jar")
    (edge 0 (codes "a/b") [] ∷ edge 0 (codes "jar") (codes "a b") ∷ edge 0 (codes "..") [] ∷ []) ≡ []
not_plain = refl

pub moved : artifact_keys
    (settled (record (node (codes "a") (codes "jar")) { moved = true } ∷ []) (edge 0 (codes "jar") [] ∷ [])) ≡ []
moved = refl
