-- The artifacts of a settled resolution.
use Rattle.std.specs.Prelude.{ℕ, Bool, true, false, Option, None, Some, List, [], ◌∷◌, ◌++◌, fold, slice_get, if◌then◌else◌, nat_eq}
use Rattle.std.specs.declared.cmp.Ordering.{Ordering}
use Rattle.std.specs.BTreeMap.{is_at}
use Rattle.std.specs.BTreeSet.{insert_key}
use Rattle.std.specs.List.{list_any}
use Rattle.std.specs.Ordering.{eq_of_both, nat_cmp, on, then_cmp}
use Rattle.res_base.specs.Builders.{key_of}
use Rattle.res_base.specs.Names.{text_cmp, text_eq}
use Rattle.res_base.specs.Paths.{file_path_of}
use Rattle.res_base.specs.declared.key.FileKey.{FileKey}
use Rattle.res_base.specs.declared.key.Role.TheVariants.{Artifact}
use Rattle.resolution.specs.declared.settled.Edge.{Edge}
use Rattle.resolution.specs.declared.settled.Node.{Node}
use Rattle.resolution.specs.declared.settled.Settled.{Settled}
use Rattle.artifact_files.specs.Names.{is_fit, named}
use Rattle.artifact_files.specs.declared.names.FileName.{FileName}
use Rattle.artifact_files.specs.declared.names.NodeFile.{NodeFile}

-- ---- files in order: by node, then by extension, then by classifier

abbrev pub node_file_eq : NodeFile → NodeFile → Bool
node_file_eq =
    eq_of_both (eq_of_both (on (λ file. file.place) nat_eq) (on (λ file. file.name.ext) text_eq))
    (on (λ file. file.name.classifier) text_eq)

abbrev pub node_file_cmp : NodeFile → NodeFile → Ordering
node_file_cmp =
    then_cmp (then_cmp (on (λ file. file.place) nat_cmp) (on (λ file. file.name.ext) text_cmp))
    (on (λ file. file.name.classifier) text_cmp)

-- ---- the files that edges name

abbrev pub with_name : List NodeFile → ℕ → Option FileName → List NodeFile
with_name files place None = files
with_name files place (Some name) =
    if is_fit name then insert_key node_file_cmp files (record { place = place; name = name }) else files

-- a module that has moved has no artifact
abbrev pub unless_moved : Bool → List NodeFile → ℕ → Option FileName → List NodeFile
unless_moved true files place name = files
unless_moved false files place name = with_name files place name

abbrev pub with_target : List NodeFile → Edge → Option Node → List NodeFile
with_target files e None = files
with_target files e (Some node) = unless_moved node.moved files e.target (named node.packaging e.kind e.classifier)

abbrev pub with_edge : List Node → List NodeFile → Edge → List NodeFile
with_edge nodes files e = with_target files e (slice_get nodes e.target)

-- each once
abbrev pub files_of : Settled → List NodeFile
files_of settled = fold (with_edge settled.nodes) [] settled.edges

-- ---- their keys, of which the first with a path counts

pub record Keys : Type 0 where
  pub paths : List (List ℕ)
  pub keys : List FileKey

abbrev pub with_path : Keys → ℕ → List ℕ → Keys
with_path so_far repo path =
    if list_any (is_at (text_cmp path)) so_far.paths then so_far else record {
      paths =
          insert_key text_cmp so_far.paths path;
      keys = so_far.keys ++ key_of repo Artifact path ∷ [];
    }

abbrev pub with_key : Keys → FileName → Option Node → Keys
with_key so_far name None = so_far
with_key so_far name (Some node) = with_path so_far node.repo (file_path_of node.coord name.ext name.classifier)

abbrev pub with_file : List Node → Keys → NodeFile → Keys
with_file nodes so_far file = with_key so_far file.name (slice_get nodes file.place)

-- an artifact is in the repository in which its project was found
abbrev pub artifact_keys : Settled → List FileKey
artifact_keys settled = (fold (with_file settled.nodes) (record { paths = []; keys = [] }) (files_of settled)).keys
