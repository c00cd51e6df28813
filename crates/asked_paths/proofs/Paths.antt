-- All keys that rounds ask for are at paths of files.
use Rattle.std.proofs.Common.{◌≡◌, ℕ, zero, suc, ◌+◌, ◌-◌, ◌<◌, arith, inl, inr, Bool, true, false, cond, not, ◌||◌, Option, Some, None, List, [], ◌∷◌, ◌++◌, refl, ap, subst}
use Rattle.std.proofs.lemmas.Bool.{and_parts}
use Rattle.std.proofs.lemmas.Option.{get_or_from_slice_get, slice_get_within}
use Rattle.std.specs.BTreeMap.{is_at}
use Rattle.std.specs.BTreeSet.{insert_key}
use Rattle.std.specs.List.{flat_map, list_all, list_any}
use Rattle.std.proofs.lemmas.Map.Views.{All-insert_key}
use Rattle.std.specs.Prelude.{All, Contains, fold, slice_get}
use Rattle.arrival_core.proofs.Members.{in_either, to_contains}
use Rattle.artifact_files.specs.Files.{Keys, artifact_keys, files_of, node_file_cmp, node_file_eq, unless_moved, with_edge, with_file, with_key, with_name, with_path, with_target}
use Rattle.artifact_files.specs.Names.{is_empty_text, is_fit, named}
use Rattle.ascii_bytes.specs.Classes.{is_plain_byte}
use Rattle.claim_rules.specs.Sessions.{keys_from, later_keys, unless_artifact, with_later}
use Rattle.claim_rules.specs.declared.settings.Settings.{Settings}
use Rattle.interval_sets.specs.declared.interval.Interval.{Interval}
use Rattle.link_base.proofs.PlainPaths.{file_path_is_file_path, listing_path_is_file_path, pom_path_is_file_path}
use Rattle.link_base.specs.FilePaths.{IsFilePath, is_file_path}
use Rattle.asked_paths.specs.Files.{IsFileOf}
use Rattle.pom_build.specs.NeededKeys.{IsPomKey}
use Rattle.pom_build.specs.Reads.{effective_keys}
use Rattle.project_lookup.specs.Listings.{listing_of}
use Rattle.reconcile_rules.specs.declared.request.Chosen.TheVariants as chosen
use Rattle.reconcile_rules.specs.declared.request.Chosen.{Chosen}
use Rattle.res_base.specs.Builders.{key_of}
use Rattle.res_base.specs.Known.{Known}
use Rattle.res_base.specs.Members.{Among}
use Rattle.res_base.specs.Names.{text_cmp}
use Rattle.res_base.specs.Paths.{file_path_of, listing_path_of, pom_path_of}
use Rattle.res_base.specs.Plain.{is_at_most_two_dots, is_plain_coord, is_plain_module, is_plain_name}
use Rattle.res_base.specs.declared.coord.Coord.{Coord}
use Rattle.res_base.specs.declared.coord.Module.{Module}
use Rattle.res_base.specs.declared.key.FileKey.{FileKey}
use Rattle.res_base.specs.declared.key.Role.TheVariants.{Pom, Listing, Artifact}
use Rattle.res_base.specs.declared.key.Role.{Role}
use Rattle.resolution.specs.Settlements.{HasRepositories, IfSettled, IsSettlement}
use Rattle.resolution.specs.declared.ask.Ask.{Ask}
use Rattle.resolution.specs.declared.choices.ChoiceRow.{ChoiceRow}
use Rattle.resolution.specs.declared.progress.RequestRow.{RequestRow}
use Rattle.resolution.specs.declared.progress.RoundAnswer.TheVariants as rounds
use Rattle.resolution.specs.declared.progress.RoundAnswer.{RoundAnswer}
use Rattle.resolution.specs.declared.progress.Walk.TheVariants as walks
use Rattle.resolution.specs.declared.progress.Walk.{Walk}
use Rattle.resolution.specs.declared.settled.Edge.{Edge}
use Rattle.resolution.specs.declared.settled.Node.{Node}
use Rattle.resolution.specs.declared.settled.Settled.{Settled as Outcome}
use Rattle.resolution.specs.declared.verdict.Verdict.TheVariants.{Clashes, Failed, Settled, Unsettled}
use Rattle.resolution.specs.declared.verdict.Verdict.{Verdict}
use Rattle.round_core.specs.Choices.{choices_eq}
use Rattle.round_core.specs.Decisions.{chosen_for}
use Rattle.round_core.specs.Listings.{offer_in}
use Rattle.round_core.specs.Needs.{at_end}
use Rattle.round_core.specs.Reaching.{reached_of}
use Rattle.round_core.specs.Reads.{behind_chosen, behind_offer, bom_keys, decided_keys, end_keys, files_if, later_reads, listing_keys, listing_reads, offer_keys, offer_keys_from, pom_reads, project_keys, reads_from, reads_of, round_reads, unless_settled}
use Rattle.round_core.specs.Rounds.{round_of, walk_of}

abbrev pub Filed : List FileKey → Type 0
Filed keys = (key : FileKey) → Among key keys → IsFilePath key.path

at_path : (key : FileKey) (path : List ℕ) → key.path ≡ path → is_file_path path ≡ true → IsFilePath key.path
at_path key path is file = rw is file

both_filed : (xs ys : List FileKey) → Filed xs → Filed ys → Filed (xs ++ ys)
both_filed xs ys one other key m = elim (in_either key xs ys m) [ inl k ↦ one key k | inr k ↦ other key k ]

all_filed : {A : Type 0} (f : A → List FileKey) → ((x : A) → Filed (f x)) → (xs : List A) → Filed (flat_map f xs)
all_filed f each [] key m = absurd m
all_filed f each (x ∷ xs) key m = both_filed (f x) (flat_map f xs) (each x) (all_filed f each xs) key m

-- ---- the same file in later repositories

from_filed : (left repo : ℕ) (role : Role) (path : List ℕ) → is_file_path path ≡ true
    → Filed (keys_from left repo role path)
from_filed zero repo role path file key m = absurd m
from_filed (suc left) repo role path file key (inl is) = at_path key path (ap (λ (k : FileKey). k.path) is) file
from_filed (suc left) repo role path file key (inr m) = from_filed left (repo + 1) role path file key m

later_filed : (repos : ℕ) (key : FileKey) → is_file_path key.path ≡ true → Filed (later_keys repos key)
later_filed repos key file one m = by key.role m
  where
    by : (role : Role)
        → Among one (unless_artifact role (keys_from (repos - (key.repo + 1)) (key.repo + 1) key.role key.path))
        → IsFilePath one.path
    by Pom k = from_filed _ _ key.role key.path file one k
    by Listing k = from_filed _ _ key.role key.path file one k
    by Artifact k = absurd k

laters_filed : (repos : ℕ) (keys : List FileKey) → Filed keys → Filed (flat_map (later_keys repos) keys)
laters_filed repos [] files key m = absurd m
laters_filed repos (one ∷ keys) files key m =
    both_filed (later_keys repos one) (flat_map (later_keys repos) keys) (later_filed repos one (files one (inl refl)))
    (laters_filed repos keys (λ k member. files k (inr member))) key m

pub hints_filed : (s : Settings) (keys : List FileKey) → Filed keys → Filed (with_later s keys)
hints_filed s keys files = by s.eager
  where
    by : (b : Bool) → Filed (cond b (flat_map (later_keys s.repos) keys) [])
    by true key m = laters_filed s.repos keys files key m
    by false key m = absurd m

-- ---- what rounds look at

listing_filed : (m : Module) (repo : ℕ) → Filed (listing_keys m repo)
listing_filed m repo key member = by (is_plain_module m) refl member
  where
    by : (b : Bool) → is_plain_module m ≡ b → Among key (cond b (key_of repo Listing (listing_path_of m) ∷ []) [])
        → IsFilePath key.path
    by true plain (inl is) =
        at_path key (listing_path_of m) (ap (λ (k : FileKey). k.path) is) (listing_path_is_file_path m plain)
    by true plain (inr k) = absurd k
    by false plain k = absurd k

module _ (known : Known) (ask : Ask)
    (poms : (c : Coord) (key : FileKey) → Contains (effective_keys known ask.repos c) key → IsPomKey ask.repos key) where
  effective_filed : (c : Coord) → Filed (effective_keys known ask.repos c)
  effective_filed c key m =
      let p = poms c key (to_contains (effective_keys known ask.repos c) key m) in
      at_path key (pom_path_of p.coord) (ap (λ (k : FileKey). k.path) p.is) (pom_path_is_file_path p.coord p.plain)

  project_filed : (project : _) → Filed (project_keys known ask.repos project)
  project_filed None key m = absurd m
  project_filed (Some project) key m = effective_filed project.coord key m

  offers_filed : (m : Module) (interval : Interval (List ℕ)) (repo left : ℕ)
      → Filed (offer_keys_from known m interval repo left)
  offers_filed m interval repo zero key member = absurd member
  offers_filed m interval repo (suc left) key member =
      both_filed (listing_keys m repo)
      (behind_offer (offer_in interval (listing_of known m repo)) (offer_keys_from known m interval (repo + 1) left))
      (listing_filed m repo)
      (by (offer_in interval (listing_of known m repo)) (offers_filed m interval (repo + 1) left))
      key member
    where
      by : (o : _) → Filed (offer_keys_from known m interval (repo + 1) left)
          → Filed (behind_offer o (offer_keys_from known m interval (repo + 1) left))
      by None later one k = later one k
      by (Some offer) later one k = absurd k

  decided_filed : (row : RequestRow) → Filed (decided_keys known ask row)
  decided_filed row = by (chosen_for ask row None)
    where
      by : (c : Chosen) → Filed (behind_chosen c (offer_keys known ask.repos row.«module»))
      by (chosen.Version version) key m = absurd m
      by (chosen.Clash clash) key m = absurd m
      by (chosen.NeedsListing interval) key m = offers_filed row.«module» interval 0 ask.repos key m

  walk_filed : (w : Walk) → Filed (listing_reads known ask w)
  walk_filed (walks.Needs keys) key m = absurd m
  walk_filed (walks.Requests rows) key m = all_filed (decided_keys known ask) decided_filed rows key m

  round_filed : (rows : List ChoiceRow) → Filed (round_reads known ask rows)
  round_filed rows =
      let reached = reached_of known ask rows in
      both_filed (pom_reads known ask.repos reached) (listing_reads known ask (walk_of known ask rows))
      (both_filed (flat_map (bom_keys known ask.repos) reached.boms)
      (flat_map (end_keys known ask.repos reached) reached.last)
      (all_filed (bom_keys known ask.repos) (λ project. project_filed (Some project)) reached.boms)
      (all_filed (end_keys known ask.repos reached) (λ e. project_filed (at_end reached e)) reached.last))
      (walk_filed (walk_of known ask rows))

  later_reads_filed : (answer : RoundAnswer) (rows : List ChoiceRow) (further : List ChoiceRow → List FileKey)
      → ((later : List ChoiceRow) → Filed (further later)) → Filed (later_reads answer rows further)
  later_reads_filed (rounds.Needs keys) rows further each key m = absurd m
  later_reads_filed (rounds.Next later) rows further each key m = by (choices_eq rows later.rows) m
    where
      by : (b : Bool) → Among key (unless_settled b later.rows further) → IsFilePath key.path
      by true k = absurd k
      by false k = each later.rows key k

  reads_filed_from : (left : ℕ) (rows : List ChoiceRow) → Filed (reads_from known ask left rows)
  reads_filed_from zero rows key m = absurd m
  reads_filed_from (suc left) rows key m =
      both_filed (round_reads known ask rows) (later_reads (round_of known ask rows) rows (reads_from known ask left))
      (round_filed rows)
      (later_reads_filed (round_of known ask rows) rows (reads_from known ask left) (reads_filed_from left))
      key m

  pub reads_filed : Filed (reads_of known ask)
  reads_filed = reads_filed_from ask.rounds []

-- ---- what verdicts want

abbrev pub AreFiles : ℕ → List FileKey → Type 0
AreFiles repos keys = (key : FileKey) → Among key keys → IsFileOf repos key

plain_bytes : (name : List ℕ) → is_plain_name name ≡ true → list_all is_plain_byte name ≡ true
plain_bytes name p = (and_parts (list_all is_plain_byte name) (not (is_at_most_two_dots name)) p).0

empty_or_plain : (text : List ℕ) → (is_empty_text text || is_plain_name text) ≡ true
    → list_all is_plain_byte text ≡ true
empty_or_plain [] p = refl
empty_or_plain (byte ∷ text) p = plain_bytes (byte ∷ text) p

-- files of nodes and their names, whose types their crate keeps for itself
abbrev ArgumentOf : {A B : Type 0} → (A → B) → Type 0
ArgumentOf {A} f = A

abbrev File : Type 0
File = ArgumentOf node_file_eq

abbrev Name : Type 0
Name = ArgumentOf is_fit

-- the name of a file is fit for a path
abbrev IsFit : File → Type 0
IsFit file = is_fit file.name ≡ true

name_fit : (files : List File) (place : ℕ) (name : Option Name) → All IsFit files
    → All IsFit (with_name files place name)
name_fit files place None fit = fit
name_fit files place (Some name) fit = by (is_fit name) refl
  where
    by : (b : Bool) → is_fit name ≡ b
        → All IsFit (cond b (insert_key node_file_cmp files (record { place = place; name = name })) files)
    by true is = All-insert_key node_file_cmp (record { place = place; name = name }) IsFit files fit is
    by false is = fit

moved_fit : (moved : Bool) (files : List File) (place : ℕ) (name : Option Name) → All IsFit files
    → All IsFit (unless_moved moved files place name)
moved_fit true files place name fit = fit
moved_fit false files place name fit = name_fit files place name fit

target_fit : (files : List File) (e : Edge) (o : Option Node) → All IsFit files → All IsFit (with_target files e o)
target_fit files e None fit = fit
target_fit files e (Some node) fit = moved_fit node.moved files e.target (named node.packaging e.kind e.classifier) fit

edges_fit : (nodes : List Node) (edges : List Edge) (files : List File) → All IsFit files
    → All IsFit (fold (with_edge nodes) files edges)
edges_fit nodes [] files fit = fit
edges_fit nodes (e ∷ edges) files fit =
    edges_fit nodes edges (with_edge nodes files e) (target_fit files e (slice_get nodes e.target) fit)

first_fit : (file : File) (files : List File) → All IsFit (file ∷ files) → IsFit file
first_fit file files fit = fit 0 file (omega arith)

rest_fit : (file : File) (files : List File) → All IsFit (file ∷ files) → All IsFit files
rest_fit file files fit k d within = fit (suc k) d (omega (arith, within))

module _ (repos : ℕ) where
  both_files : (xs ys : List FileKey) → AreFiles repos xs → AreFiles repos ys → AreFiles repos (xs ++ ys)
  both_files xs ys one other key m = elim (in_either key xs ys m) [ inl k ↦ one key k | inr k ↦ other key k ]

  abbrev grown : Keys → ℕ → List ℕ → Keys
  grown so_far repo path =
      record { paths = insert_key text_cmp so_far.paths path; keys = so_far.keys ++ key_of repo Artifact path ∷ [] }

  path_files : (so_far : Keys) (repo : ℕ) (path : List ℕ) → repo < repos → is_file_path path ≡ true
      → AreFiles repos so_far.keys → AreFiles repos (with_path so_far repo path).keys
  path_files so_far repo path within file before = by (list_any (is_at (text_cmp path)) so_far.paths)
    where
      last : (key : FileKey) → Among key (key_of repo Artifact path ∷ []) → IsFileOf repos key
      last key (inl is) = record {
        listed = omega (arith, within, ap (λ (k : FileKey). k.repo) is);
        path = at_path key path (ap (λ (k : FileKey). k.path) is) file;
      }
      last key (inr m) = absurd m

      by : (b : Bool) → AreFiles repos (cond b so_far (grown so_far repo path)).keys
      by true = before
      by false = both_files so_far.keys (key_of repo Artifact path ∷ []) before last

  module _ (nodes : List Node) (plain : All (λ (node : Node). is_plain_coord node.coord ≡ true) nodes)
      (found : All (λ (node : Node). node.repo < repos) nodes) where
    node_plain : (place : ℕ) (node : Node) → slice_get nodes place ≡ Some node → is_plain_coord node.coord ≡ true
    node_plain place node is =
        subst (λ (one : Node). is_plain_coord one.coord ≡ true) (get_or_from_slice_get nodes place node node is)
        (plain place node (slice_get_within nodes place node is))

    node_found : (place : ℕ) (node : Node) → slice_get nodes place ≡ Some node → node.repo < repos
    node_found place node is =
        subst (λ (one : Node). one.repo < repos) (get_or_from_slice_get nodes place node node is)
        (found place node (slice_get_within nodes place node is))

    file_files : (so_far : Keys) (file : File) → IsFit file → AreFiles repos so_far.keys
        → AreFiles repos (with_file nodes so_far file).keys
    file_files so_far file fit before = by (slice_get nodes file.place) refl
      where
        by : (o : Option Node) → slice_get nodes file.place ≡ o → AreFiles repos (with_key so_far file.name o).keys
        by None is = before
        by (Some node) is =
            let both = and_parts (is_plain_name file.name.ext)
            (is_empty_text file.name.classifier || is_plain_name file.name.classifier) fit in
            path_files so_far node.repo (file_path_of node.coord file.name.ext file.name.classifier)
            (node_found file.place node is)
            (file_path_is_file_path node.coord file.name.ext file.name.classifier (node_plain file.place node is)
            (plain_bytes file.name.ext both.0) (empty_or_plain file.name.classifier both.1)) before

    all_files : (files : List File) → All IsFit files → (so_far : Keys) → AreFiles repos so_far.keys
        → AreFiles repos (fold (with_file nodes) so_far files).keys
    all_files [] fit so_far before = before
    all_files (file ∷ files) fit so_far before =
        all_files files (rest_fit file files fit) (with_file nodes so_far file)
        (file_files so_far file (first_fit file files fit) before)

  none_yet : AreFiles repos []
  none_yet key m = absurd m

  no_names : All IsFit []
  no_names k d within = absurd (omega (arith, within))

  settled_files : (settled : Outcome) → IsSettlement settled → HasRepositories repos settled
      → AreFiles repos (artifact_keys settled)
  settled_files settled is found =
      all_files settled.nodes is.coordinates found (files_of settled)
      (edges_fit settled.nodes settled.edges [] no_names) (record { paths = []; keys = [] }) none_yet

  pub verdict_files : (files : Bool) (verdict : Verdict) → IfSettled verdict IsSettlement
      → IfSettled verdict (HasRepositories repos) → AreFiles repos (files_if files verdict)
  verdict_files false verdict is found key m = absurd m
  verdict_files true (Settled settled) is found key m = settled_files settled is found key m
  verdict_files true (Clashes clashes) is found key m = absurd m
  verdict_files true (Failed faults) is found key m = absurd m
  verdict_files true (Unsettled rounds) is found key m = absurd m
