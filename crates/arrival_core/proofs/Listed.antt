-- All keys that rounds ask for are files of the repositories.
use Rattle.std.proofs.Common.{◌≡◌, ℕ, zero, suc, ◌+◌, ◌-◌, ◌<◌, arith, inl, inr, Bool, true, false, cond, not, Option, Some, None, List, [], ◌∷◌, ◌++◌, refl, sym, ap, subst}
use Rattle.std.specs.List.{flat_map, list_any}
use Rattle.std.specs.Prelude.{All, Contains, fold, slice_get}
use Rattle.std.specs.BTreeMap.{is_at}
use Rattle.std.specs.BTreeSet.{insert_key}
use Rattle.std.proofs.lemmas.Option.{get_or_from_slice_get, slice_get_within}
use Rattle.arrival_core.proofs.Members.{from_contains, in_either, passed, to_contains}
use Rattle.arrival_core.specs.Resolving.{resolver_of, standing_of}
use Rattle.artifact_files.specs.Files.{Keys, artifact_keys, files_of, with_file, with_key, with_path}
use Rattle.claim_rules.specs.Sessions.{is_known, keys_from, later_keys, needs, needs_at, unless_artifact, with_later}
use Rattle.claim_rules.specs.declared.settings.Settings.{Settings}
use Rattle.interval_sets.specs.declared.interval.Interval.{Interval}
use Rattle.pom_build.specs.NeededKeys.{IsPomKey}
use Rattle.pom_build.specs.Reads.{effective_keys}
use Rattle.project_lookup.specs.Listings.{listing_of}
use Rattle.reconcile_rules.specs.declared.request.Chosen.{Chosen}
use Rattle.reconcile_rules.specs.declared.request.Chosen.TheVariants as chosen
use Rattle.res_base.specs.Known.{Known}
use Rattle.res_base.specs.Members.{Among}
use Rattle.res_base.specs.Names.{text_cmp}
use Rattle.res_base.specs.Builders.{key_of}
use Rattle.res_base.specs.Paths.{file_path_of, listing_path_of}
use Rattle.res_base.specs.Plain.{is_plain_module}
use Rattle.res_base.specs.declared.coord.Coord.{Coord}
use Rattle.res_base.specs.declared.coord.Module.{Module}
use Rattle.res_base.specs.declared.key.FileKey.{FileKey}
use Rattle.res_base.specs.declared.key.Role.{Role}
use Rattle.res_base.specs.declared.key.Role.TheVariants.{Pom, Listing, Artifact}
use Rattle.resolution.specs.Settlements.{HasRepositories, IfSettled}
use Rattle.resolution.specs.declared.ask.Ask.{Ask}
use Rattle.resolution.specs.declared.choices.ChoiceRow.{ChoiceRow}
use Rattle.resolution.specs.declared.progress.Progress.{Progress}
use Rattle.resolution.specs.declared.progress.Progress.TheVariants.{Waiting, Over}
use Rattle.resolution.specs.declared.progress.RequestRow.{RequestRow}
use Rattle.resolution.specs.declared.progress.RoundAnswer.{RoundAnswer}
use Rattle.resolution.specs.declared.progress.RoundAnswer.TheVariants as rounds
use Rattle.resolution.specs.declared.progress.Walk.{Walk}
use Rattle.resolution.specs.declared.progress.Walk.TheVariants as walks
use Rattle.resolution.specs.declared.settled.Node.{Node}
use Rattle.resolution.specs.declared.settled.Settled.{Settled as Outcome}
use Rattle.resolution.specs.declared.verdict.Verdict.{Verdict}
use Rattle.resolution.specs.declared.verdict.Verdict.TheVariants.{Clashes, Failed, Settled, Unsettled}
use Rattle.round_core.specs.Choices.{choices_eq}
use Rattle.round_core.specs.Decisions.{chosen_for}
use Rattle.round_core.specs.Listings.{offer_in}
use Rattle.round_core.specs.Needs.{at_end}
use Rattle.round_core.specs.Reaching.{reached_of}
use Rattle.round_core.specs.Reads.{behind_chosen, behind_offer, bom_keys, decided_keys, end_keys, files_if, later_reads, listing_keys, listing_reads, needs_in, offer_keys, offer_keys_from, pom_reads, project_keys, reads_from, reads_of, round_reads, unless_settled}
use Rattle.round_core.specs.Rounds.{round_of, rounds_of, walk_of}

abbrev pub Listed : ℕ → List FileKey → Type 0
Listed repos keys = (key : FileKey) → Among key keys → key.repo < repos

module _ (repos : ℕ) where
  both_listed : (xs ys : List FileKey) → Listed repos xs → Listed repos ys → Listed repos (xs ++ ys)
  both_listed xs ys one other key m = elim (in_either key xs ys m) [ inl k ↦ one key k | inr k ↦ other key k ]

  all_listed : {A : Type 0} (f : A → List FileKey) → ((x : A) → Listed repos (f x)) → (xs : List A) → Listed repos (flat_map f xs)
  all_listed f each [] key m = absurd m
  all_listed f each (x ∷ xs) key m = both_listed (f x) (flat_map f xs) (each x) (all_listed f each xs) key m

-- ---- the same file in later repositories

from_listed : (left repo : ℕ) (role : Role) (path : List ℕ) → (key : FileKey) → Among key (keys_from left repo role path) → (key.repo < repo + left) × (0 < left)
from_listed zero repo role path key m = absurd m
from_listed (suc left) repo role path key (inl is) = (omega (arith, ap (λ (k : FileKey). k.repo) is), omega arith)
from_listed (suc left) repo role path key (inr m) =
    let later = from_listed left (repo + 1) role path key m in
    (omega (arith, later.0), omega arith)

later_listed : (repos : ℕ) (key : FileKey) → Listed repos (later_keys repos key)
later_listed repos key one m = by key.role m
  where
    at : Among one (keys_from (repos - (key.repo + 1)) (key.repo + 1) key.role key.path) → one.repo < repos
    at k =
        let found = from_listed (repos - (key.repo + 1)) (key.repo + 1) key.role key.path one k in
        omega (arith, found.0, found.1)

    by : (role : Role) → Among one (unless_artifact role (keys_from (repos - (key.repo + 1)) (key.repo + 1) key.role key.path)) → one.repo < repos
    by Pom k = at k
    by Listing k = at k
    by Artifact k = absurd k

pub hints_listed : (s : Settings) (keys : List FileKey) → Listed s.repos (with_later s keys)
hints_listed s keys = by s.eager
  where
    by : (b : Bool) → Listed s.repos (cond b (flat_map (later_keys s.repos) keys) [])
    by true key m = all_listed s.repos (later_keys s.repos) (later_listed s.repos) keys key m
    by false key m = absurd m

-- ---- what rounds look at

module _ (known : Known) (ask : Ask)
    (poms : (c : Coord) (key : FileKey) → Contains (effective_keys known ask.repos c) key → IsPomKey ask.repos key) where
  effective_listed : (c : Coord) → Listed ask.repos (effective_keys known ask.repos c)
  effective_listed c key m =
      let p = poms c key (to_contains (effective_keys known ask.repos c) key m) in
      subst (λ n. n < ask.repos) (sym (ap (λ (k : FileKey). k.repo) p.is)) p.listed

  project_listed : (project : _) → Listed ask.repos (project_keys known ask.repos project)
  project_listed None key m = absurd m
  project_listed (Some project) key m = effective_listed project.coord key m

  listing_listed : (m : Module) (repo : ℕ) → repo < ask.repos → Listed ask.repos (listing_keys m repo)
  listing_listed m repo within key member = by (is_plain_module m) member
    where
      by : (b : Bool) → Among key (cond b (key_of repo Listing (listing_path_of m) ∷ []) []) → key.repo < ask.repos
      by true (inl is) = omega (arith, within, ap (λ (k : FileKey). k.repo) is)
      by true (inr k) = absurd k
      by false k = absurd k

  offers_listed : (m : Module) (interval : Interval (List ℕ)) (repo left : ℕ) → repo + left ≡ ask.repos → Listed ask.repos (offer_keys_from known m interval repo left)
  offers_listed m interval repo zero in_all key member = absurd member
  offers_listed m interval repo (suc left) in_all key member =
      both_listed ask.repos (listing_keys m repo)
      (behind_offer (offer_in interval (listing_of known m repo)) (offer_keys_from known m interval (repo + 1) left))
      (listing_listed m repo (omega (arith, in_all)))
      (by (offer_in interval (listing_of known m repo)) (offers_listed m interval (repo + 1) left (omega (arith, in_all))))
      key member
    where
      by : (o : _) → Listed ask.repos (offer_keys_from known m interval (repo + 1) left)
          → Listed ask.repos (behind_offer o (offer_keys_from known m interval (repo + 1) left))
      by None later one k = later one k
      by (Some offer) later one k = absurd k

  decided_listed : (row : RequestRow) → Listed ask.repos (decided_keys known ask row)
  decided_listed row = by (chosen_for ask row None)
    where
      by : (c : Chosen) → Listed ask.repos (behind_chosen c (offer_keys known ask.repos row.«module»))
      by (chosen.Version version) key m = absurd m
      by (chosen.Clash clash) key m = absurd m
      by (chosen.NeedsListing interval) key m = offers_listed row.«module» interval 0 ask.repos (omega arith) key m

  walk_listed : (w : Walk) → Listed ask.repos (listing_reads known ask w)
  walk_listed (walks.Needs keys) key m = absurd m
  walk_listed (walks.Requests rows) key m = all_listed ask.repos (decided_keys known ask) decided_listed rows key m

  round_listed : (rows : List ChoiceRow) → Listed ask.repos (round_reads known ask rows)
  round_listed rows =
      let reached = reached_of known ask rows in
      both_listed ask.repos (pom_reads known ask.repos reached) (listing_reads known ask (walk_of known ask rows))
      (both_listed ask.repos (flat_map (bom_keys known ask.repos) reached.boms) (flat_map (end_keys known ask.repos reached) reached.last)
      (all_listed ask.repos (bom_keys known ask.repos) (λ project. project_listed (Some project)) reached.boms)
      (all_listed ask.repos (end_keys known ask.repos reached) (λ e. project_listed (at_end reached e)) reached.last))
      (walk_listed (walk_of known ask rows))

  later_reads_listed : (answer : RoundAnswer) (rows : List ChoiceRow) (further : List ChoiceRow → List FileKey)
      → ((later : List ChoiceRow) → Listed ask.repos (further later)) → Listed ask.repos (later_reads answer rows further)
  later_reads_listed (rounds.Needs keys) rows further each key m = absurd m
  later_reads_listed (rounds.Next later) rows further each key m = by (choices_eq rows later.rows) m
    where
      by : (b : Bool) → Among key (unless_settled b later.rows further) → key.repo < ask.repos
      by true k = absurd k
      by false k = each later.rows key k

  reads_listed_from : (left : ℕ) (rows : List ChoiceRow) → Listed ask.repos (reads_from known ask left rows)
  reads_listed_from zero rows key m = absurd m
  reads_listed_from (suc left) rows key m =
      both_listed ask.repos (round_reads known ask rows) (later_reads (round_of known ask rows) rows (reads_from known ask left))
      (round_listed rows)
      (later_reads_listed (round_of known ask rows) rows (reads_from known ask left) (reads_listed_from left))
      key m

  pub reads_listed : Listed ask.repos (reads_of known ask)
  reads_listed = reads_listed_from ask.rounds []

  -- ---- what verdicts want

  abbrev grown : Keys → ℕ → List ℕ → Keys
  grown so_far repo path =
      record { paths = insert_key text_cmp so_far.paths path; keys = so_far.keys ++ key_of repo Artifact path ∷ [] }

  path_listed : (so_far : Keys) (repo : ℕ) (path : List ℕ) → repo < ask.repos → Listed ask.repos so_far.keys → Listed ask.repos (with_path so_far repo path).keys
  path_listed so_far repo path within before = by (list_any (is_at (text_cmp path)) so_far.paths)
    where
      last : (key : FileKey) → Among key (key_of repo Artifact path ∷ []) → key.repo < ask.repos
      last key (inl is) = omega (arith, within, ap (λ (k : FileKey). k.repo) is)
      last key (inr m) = absurd m

      by : (b : Bool) → Listed ask.repos (cond b so_far (grown so_far repo path)).keys
      by true = before
      by false = both_listed ask.repos so_far.keys (key_of repo Artifact path ∷ []) before last

  module _ (nodes : List Node) (listed : All (λ (node : Node). node.repo < ask.repos) nodes) where
    node_listed : (place : ℕ) (node : Node) → slice_get nodes place ≡ Some node → node.repo < ask.repos
    node_listed place node is =
        subst (λ (one : Node). one.repo < ask.repos) (get_or_from_slice_get nodes place node node is)
        (listed place node (slice_get_within nodes place node is))

    file_listed : (so_far : Keys) (file : _) → Listed ask.repos so_far.keys → Listed ask.repos (with_file nodes so_far file).keys
    file_listed so_far file before = by (slice_get nodes file.place) refl
      where
        by : (o : Option Node) → slice_get nodes file.place ≡ o → Listed ask.repos (with_key so_far file.name o).keys
        by None is = before
        by (Some node) is =
            path_listed so_far node.repo (file_path_of node.coord file.name.ext file.name.classifier) (node_listed file.place node is) before

  fold_listed : {A : Type 0} (f : Keys → A → Keys) → ((so_far : Keys) (x : A) → Listed ask.repos so_far.keys → Listed ask.repos (f so_far x).keys)
      → (xs : List A) (so_far : Keys) → Listed ask.repos so_far.keys → Listed ask.repos (fold f so_far xs).keys
  fold_listed f step [] so_far before = before
  fold_listed f step (x ∷ xs) so_far before = fold_listed f step xs (f so_far x) (step so_far x before)

  none_yet : Listed ask.repos []
  none_yet key m = absurd m

  settled_listed : (settled : Outcome) → HasRepositories ask.repos settled → Listed ask.repos (artifact_keys settled)
  settled_listed settled listed =
      fold_listed (with_file settled.nodes) (file_listed settled.nodes listed) (files_of settled) (record { paths = []; keys = [] }) none_yet

  files_listed : (files : Bool) (verdict : Verdict) → IfSettled verdict (HasRepositories ask.repos) → Listed ask.repos (files_if files verdict)
  files_listed false verdict listed key m = absurd m
  files_listed true (Settled settled) listed key m = settled_listed settled listed key m
  files_listed true (Clashes clashes) listed key m = absurd m
  files_listed true (Failed faults) listed key m = absurd m
  files_listed true (Unsettled rounds) listed key m = absurd m

  pub needs_listed : ((verdict : Verdict) → rounds_of known ask ≡ Over verdict → IfSettled verdict (HasRepositories ask.repos))
      → ((key : FileKey) → Contains (needs_in (rounds_of known ask)) key → Contains (reads_of known ask) key) → Listed ask.repos (needs (resolver_of ask) known)
  unfolding resolver_of
  needs_listed settled read key m = by (rounds_of known ask) refl m
    where
      by : (p : Progress) → rounds_of known ask ≡ p → Among key (needs_at (standing_of p) (λ verdict. files_if ask.files verdict) known) → key.repo < ask.repos
      by (Waiting round choices keys) is k =
          reads_listed key (from_contains (reads_of known ask) key (read key (subst (λ q. Contains (needs_in q) key) (sym is) (to_contains keys key k))))
      by (Over verdict) is k = files_listed ask.files verdict (settled verdict is) key (passed (λ (one : FileKey). not (is_known known one)) key (files_if ask.files verdict) k).member
