-- Where the keys of artifacts are.
use Rattle.std.proofs.Common.{◌≡◌, ◌<◌, ℕ, zero, suc, Bool, true, false, Option, None, Some, List, [], ◌∷◌, ◌++◌, get_or, fold, refl, subst, arith}
use Rattle.std.specs.Prelude.{All, if◌then◌else◌, slice_get}
use Rattle.std.specs.BTreeMap.{is_at}
use Rattle.std.specs.BTreeSet.{insert_key}
use Rattle.std.specs.List.{list_any}
use Rattle.std.proofs.lemmas.List.Elements.{All-append}
use Rattle.std.proofs.lemmas.Option.{get_or_from_slice_get, slice_get_within}
use Rattle.artifact_files.specs.Files.{Keys, artifact_keys, files_of, with_file, with_key, with_path}
use Rattle.res_base.specs.Builders.{key_of}
use Rattle.res_base.specs.Names.{text_cmp}
use Rattle.res_base.specs.Paths.{file_path_of}
use Rattle.res_base.specs.declared.key.FileKey.{FileKey}
use Rattle.res_base.specs.declared.key.Role.TheVariants.{Artifact}
use Rattle.resolution.specs.Settlements.{HasRepositories}
use Rattle.resolution.specs.declared.settled.Node.{Node}
use Rattle.resolution.specs.declared.settled.Settled.{Settled}

-- the key of an artifact in one of so many repositories
abbrev pub IsFileKey : ℕ → FileKey → Type 0
IsFileKey count key = (key.repo < count) × (key.role ≡ Artifact)

abbrev pub AreFileKeys : ℕ → List FileKey → Type 0
AreFileKeys count keys = All (λ (key : FileKey). IsFileKey count key) keys

all_one : {A : Type 0} (P : A → Type 0) (x : A) → P x → All P (x ∷ [])
all_one P x h zero d within = h
all_one P x h (suc k) d within = absurd (omega (arith, within))

all_none : {A : Type 0} (P : A → Type 0) → All P []
all_none P k d within = absurd (omega (arith, within))

-- what `with_path` does, by whether the path is there
abbrev if_there : Bool → Keys → ℕ → List ℕ → Keys
if_there there so_far repo path =
    if there then so_far else record { paths = insert_key text_cmp so_far.paths path; keys = so_far.keys ++ key_of repo Artifact path ∷ [] }

-- what each step of a fold keeps
fold_keeps : {F : Type 0} (P : Keys → Type 0) (step : Keys → F → Keys) → ((so_far : Keys) (file : F) → P so_far → P (step so_far file)) → (files : List F) (so_far : Keys) → P so_far → P (fold step so_far files)
fold_keeps P step keeps [] so_far old = old
fold_keeps P step keeps (file ∷ files) so_far old = fold_keeps P step keeps files (step so_far file) (keeps so_far file old)

option_cases : {X : Type 0} (o : Option X) (Q : Option X → Type 0) → Q None → ((x : X) → o ≡ Some x → Q (Some x)) → Q o
option_cases None Q none some = none
option_cases (Some x) Q none some = some x refl

module _ (count : ℕ) where
  path_within : (so_far : Keys) (repo : ℕ) (path : List ℕ) → repo < count → AreFileKeys count so_far.keys → AreFileKeys count (with_path so_far repo path).keys
  path_within so_far repo path h old = by (list_any (is_at (text_cmp path)) so_far.paths)
    where
      by : (there : Bool) → AreFileKeys count (if_there there so_far repo path).keys
      by true = old
      by false = All-append (λ (key : FileKey). IsFileKey count key) so_far.keys (key_of repo Artifact path ∷ []) old (all_one (λ (key : FileKey). IsFileKey count key) (key_of repo Artifact path) (h, refl))

  node_within : (nodes : List Node) → All (λ (node : Node). node.repo < count) nodes → (place : ℕ) (node : Node) → slice_get nodes place ≡ Some node → node.repo < count
  node_within nodes all place node is =
      let at : get_or nodes place node ≡ node = get_or_from_slice_get nodes place node node is in
      subst (λ (n : Node). n.repo < count) at (all place node (slice_get_within nodes place node is))

  pub keys_within : (settled : Settled) → HasRepositories count settled → AreFileKeys count (artifact_keys settled)
  keys_within settled all =
      fold_keeps (λ (so_far : Keys). AreFileKeys count so_far.keys) (with_file settled.nodes)
      (λ so_far file old.
      option_cases (slice_get settled.nodes file.place) (λ found. AreFileKeys count (with_key so_far file.name found).keys) old
      (λ node is. path_within so_far node.repo (file_path_of node.coord file.name.ext file.name.classifier) (node_within settled.nodes all file.place node is) old))
      (files_of settled) (record { paths = []; keys = [] }) (all_none (λ (key : FileKey). IsFileKey count key))
