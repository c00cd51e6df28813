-- Rounds look at no fewer keys when more is known.
use Rattle.std.proofs.Common.{◌≡◌, ℕ, ◌+◌, zero, suc, Bool, true, false, Option, None, Some, ◌⊎◌, inl, inr, List, [], ◌∷◌, ◌++◌, refl, sym, ◌∙◌, ap, subst}
use Rattle.std.specs.List.{flat_map}
use Rattle.std.specs.Option.{option_map}
use Rattle.interval_sets.specs.declared.interval.Interval.{Interval}
use Rattle.live_walk.specs.Graphs.{In, here, there}
use Rattle.live_walk.proofs.Members.{FlatMapped, from_flat_map, in_back, in_either, in_flat_map, in_front}
use Rattle.pom_build.specs.Effectives.{effective_of}
use Rattle.pom_build.specs.Outcomes.{is_waiting}
use Rattle.pom_build.specs.Reads.{effective_keys}
use Rattle.pom_build.specs.declared.build.Build.{Build}
use Rattle.pom_build.specs.declared.build.Build.TheVariants as builds
use Rattle.project_lookup.specs.Listings.{Listed, is_unknown, listing_of, no_listing, unknown, versions}
use Rattle.reconcile_rules.specs.declared.request.Chosen.{Chosen}
use Rattle.reconcile_rules.specs.declared.request.Chosen.TheVariants as chosen
use Rattle.res_base.specs.Known.{Grows, Known}
use Rattle.res_base.specs.declared.coord.Coord.{Coord}
use Rattle.res_base.specs.declared.coord.Module.{Module}
use Rattle.res_base.specs.declared.key.FileKey.{FileKey}
use Rattle.resolution.specs.declared.ask.Ask.{Ask}
use Rattle.resolution.specs.declared.choices.ChoiceRow.{ChoiceRow}
use Rattle.resolution.specs.declared.choices.Choices.{Choices}
use Rattle.resolution.specs.declared.progress.RequestRow.{RequestRow}
use Rattle.resolution.specs.declared.progress.RoundAnswer.{RoundAnswer}
use Rattle.resolution.specs.declared.progress.RoundAnswer.TheVariants.{Needs, Next}
use Rattle.resolution.specs.declared.progress.Walk.{Walk}
use Rattle.resolution.specs.declared.progress.Walk.TheVariants as walks
use Rattle.round_core.specs.Choices.{choices_eq, chosen_coord, modules_of}
use Rattle.round_core.specs.Decisions.{chosen_for}
use Rattle.round_core.specs.Edges.{edges, edges_built, edges_in, graph, last_ones, target_of}
use Rattle.round_core.specs.Listings.{candidates, offer_in, unless_none}
use Rattle.round_core.specs.Needs.{is_open}
use Rattle.round_core.specs.Projects.{project_at, projects_of}
use Rattle.round_core.specs.Reaching.{reached_of}
use Rattle.round_core.specs.Reads.{behind_chosen, behind_offer, bom_keys, decided_keys, end_keys, later_reads, listing_keys, listing_reads, offer_keys, offer_keys_from, pom_reads, project_keys, reads_from, reads_of, round_reads, unless_settled}
use Rattle.round_core.specs.Rounds.{round_of, walk_by, walk_of}
use Rattle.round_core.specs.declared.edges.RowEdge.{RowEdge}
use Rattle.round_core.specs.declared.projects.ChosenProject.{ChosenProject}
use Rattle.round_core.proofs.Below.{Below}
use Rattle.round_core.proofs.Ends.{project_is, walk_same}
use Rattle.round_core.proofs.Grow.{alike_ends, closed_alike, round_grows}
use Rattle.round_core.proofs.SamePaths.{last_more}
use Rattle.round_core.proofs.Seen.{has_edges, lawful}
use Rattle.round_core.proofs.Waits.{contains_in, in_contains}

module _ (laws : Below) (f g : Known) (more : Grows f g) (ask : Ask) (x : FileKey) where
  -- ---- projects

  coord_more : (c : Option Coord) → In x (project_keys f ask.repos (option_map (project_at f ask.repos) c))
      → In x (project_keys g ask.repos (option_map (project_at g ask.repos) c))
  coord_more None h = h
  coord_more (Some c) h =
      contains_in x (effective_keys g ask.repos c)
      (laws.keys_grow f g ask.repos c x more (in_contains x (effective_keys f ask.repos c) h))

  boms_more : (boms : List Coord) → In x (flat_map (bom_keys f ask.repos) (projects_of f ask.repos boms))
      → In x (flat_map (bom_keys g ask.repos) (projects_of g ask.repos boms))
  boms_more [] h = h
  boms_more (c ∷ boms) h =
      elim (in_either (effective_keys f ask.repos c) _ h) [
        | inl i ↦ in_front _ (coord_more (Some c) i)
        | inr i ↦ in_back (effective_keys g ask.repos c) (boms_more boms i)
      ]

  -- ---- listings

  offers_more : (m : Module) (interval : Interval (List ℕ)) (left repo : ℕ)
      → In x (offer_keys_from f m interval repo left) → In x (offer_keys_from g m interval repo left)
  offers_more m interval zero repo h = h
  offers_more m interval (suc left) repo h =
      elim (in_either (listing_keys m repo) _ h) [
        | inl i ↦ in_front _ i
        | inr i ↦ in_back (listing_keys m repo)
            (by (offers_more m interval left (repo + 1)) (listing_of f m repo) refl i)
      ]
    where
      further : (In x (offer_keys_from f m interval (repo + 1) left)
          → In x (offer_keys_from g m interval (repo + 1) left)) → (found : List (List ℕ))
          → In x (behind_offer (unless_none found) (offer_keys_from f m interval (repo + 1) left))
          → In x (behind_offer (unless_none found) (offer_keys_from g m interval (repo + 1) left))
      further later [] i = later i
      further later (version ∷ found) i = elim i [ ]

      by : (In x (offer_keys_from f m interval (repo + 1) left) → In x (offer_keys_from g m interval (repo + 1) left))
          → (l : Listed) → listing_of f m repo ≡ l
          → In x (behind_offer (offer_in interval l) (offer_keys_from f m interval (repo + 1) left))
          → In x (behind_offer (offer_in interval (listing_of g m repo))
          (offer_keys_from g m interval (repo + 1) left))
      by later (unknown key) e i = elim i [ ]
      by later no_listing e i =
          let l : listing_of g m repo ≡ no_listing = laws.listing_grows f g m repo more (ap is_unknown e) ∙ e in
          subst (λ z. In x (behind_offer (offer_in interval z) (offer_keys_from g m interval (repo + 1) left))) (sym l)
          (later i)
      by later (versions listed) e i =
          let l : listing_of g m repo ≡ versions listed = laws.listing_grows f g m repo more (ap is_unknown e) ∙ e in
          subst (λ z. In x (behind_offer (offer_in interval z) (offer_keys_from g m interval (repo + 1) left))) (sym l)
          (further later (candidates interval listed) i)

  decided_more : (row : RequestRow) → In x (decided_keys f ask row) → In x (decided_keys g ask row)
  decided_more row h = by (chosen_for ask row None) h
    where
      by : (picked : Chosen) → In x (behind_chosen picked (offer_keys f ask.repos row.«module»))
          → In x (behind_chosen picked (offer_keys g ask.repos row.«module»))
      by (chosen.Version version) i = i
      by (chosen.Clash clash) i = i
      by (chosen.NeedsListing interval) i = offers_more row.«module» interval ask.repos 0 i

  rows_more : (rows : List RequestRow) → In x (flat_map (decided_keys f ask) rows)
      → In x (flat_map (decided_keys g ask) rows)
  rows_more rows h =
      let r : FlatMapped (decided_keys f ask) x rows = from_flat_map (decided_keys f ask) x rows h in
      in_flat_map (decided_keys g ask) r.member (decided_more r.one r.inside)

  walk_more : (walk : Walk) → In x (listing_reads f ask walk) → In x (listing_reads g ask walk)
  walk_more (walks.Needs keys) h = h
  walk_more (walks.Requests rows) h = rows_more rows h

  -- ---- a round

  module _ (chosen : List ChoiceRow) where
    edges_more : (m : Module) (e : RowEdge) → In e (edges f ask chosen m) → In e (edges g ask chosen m)
    edges_more m e h = by (chosen_coord chosen m) h
      where
        built : (c : Coord) (build : Build) → effective_of f ask.repos c ≡ build
            → In e (edges_built ask.configuration c build)
            → In e (edges_built ask.configuration c (effective_of g ask.repos c))
        built c (builds.Built project) q i =
            let same : effective_of g ask.repos c ≡ builds.Built project =
            laws.answer_grows f g ask.repos c more (ap is_waiting q) ∙ q in
            subst (λ z. In e (edges_built ask.configuration c z)) (sym same) i
        built c (builds.Needs keys) q i = elim i [ ]
        built c (builds.NotFound why) q i = elim i [ ]
        built c (builds.Refused fault) q i = elim i [ ]

        by : (c : Option Coord) → In e (edges_in ask.configuration (option_map (project_at f ask.repos) c))
            → In e (edges_in ask.configuration (option_map (project_at g ask.repos) c))
        by None i = i
        by (Some c) i = built c (effective_of f ask.repos c) refl i

    -- more edges are the last ones of live paths
    pub ends_more : (e : RowEdge) → In e (last_ones f ask chosen) → In e (last_ones g ask chosen)
    ends_more e h =
        last_more (graph f ask chosen) (edges g ask chosen) edges_more (lawful f ask chosen laws.sets)
        (modules_of chosen) (has_edges f ask chosen) (has_edges g ask chosen) e h

    end_more : (e : RowEdge) → In x (end_keys f ask.repos (reached_of f ask chosen) e)
        → In x (end_keys g ask.repos (reached_of g ask chosen) e)
    end_more e h =
        subst (λ z. In x (project_keys g ask.repos z)) (sym (project_is g ask chosen (target_of e)))
        (coord_more (chosen_coord chosen (target_of e))
        (subst (λ z. In x (project_keys f ask.repos z)) (project_is f ask chosen (target_of e)) h))

    poms_more : In x (pom_reads f ask.repos (reached_of f ask chosen))
        → In x (pom_reads g ask.repos (reached_of g ask chosen))
    poms_more h =
        elim (in_either (flat_map (bom_keys f ask.repos) (projects_of f ask.repos ask.boms)) _ h) [
          | inl i ↦ in_front _ (boms_more ask.boms i)
          | inr i ↦
              (let r : FlatMapped (end_keys f ask.repos (reached_of f ask chosen)) x (last_ones f ask chosen) =
              from_flat_map (end_keys f ask.repos (reached_of f ask chosen)) x (last_ones f ask chosen) i in
              in_back (flat_map (bom_keys g ask.repos) (projects_of g ask.repos ask.boms))
              (in_flat_map (end_keys g ask.repos (reached_of g ask chosen)) (ends_more r.one r.member)
              (end_more r.one r.inside)))
        ]

    listings_more : In x (listing_reads f ask (walk_of f ask chosen))
        → In x (listing_reads g ask (walk_of g ask chosen))
    listings_more h = by (is_open (reached_of f ask chosen)) refl h
      where
        by : (t : Bool) → is_open (reached_of f ask chosen) ≡ t
            → In x (listing_reads f ask (walk_by t ask.roots (reached_of f ask chosen)))
            → In x (listing_reads g ask (walk_of g ask chosen))
        by true e i = elim i [ ]
        by false e i =
            let walk : walk_of g ask chosen ≡ walk_of f ask chosen =
            walk_same laws.sets f g ask chosen
            (alike_ends f g ask chosen (closed_alike laws f g more ask chosen e)) in
            subst (λ w. In x (listing_reads g ask w)) (sym walk) (walk_more (walk_of f ask chosen) h)

    round_more : In x (round_reads f ask chosen) → In x (round_reads g ask chosen)
    round_more h =
        elim (in_either (pom_reads f ask.repos (reached_of f ask chosen)) _ h) [
          | inl i ↦ in_front _ (poms_more i)
          | inr i ↦ in_back (pom_reads g ask.repos (reached_of g ask chosen)) (listings_more i)
        ]

  -- ---- all rounds

  reads_from_more : (left : ℕ) (chosen : List ChoiceRow) → In x (reads_from f ask left chosen)
      → In x (reads_from g ask left chosen)
  reads_from_more zero chosen h = h
  reads_from_more (suc left) chosen h =
      elim (in_either (round_reads f ask chosen) _ h) [
        | inl i ↦ in_front _ (round_more chosen i)
        | inr i ↦ in_back (round_reads g ask chosen) (by (reads_from_more left) (round_of f ask chosen) refl i)
      ]
    where
      by : ((later : List ChoiceRow) → In x (reads_from f ask left later) → In x (reads_from g ask left later))
          → (answer : RoundAnswer) → round_of f ask chosen ≡ answer
          → In x (later_reads answer chosen (reads_from f ask left))
          → In x (later_reads (round_of g ask chosen) chosen (reads_from g ask left))
      by further (Needs keys) e i = elim i [ ]
      by further (Next later) e i =
          subst (λ a. In x (later_reads a chosen (reads_from g ask left)))
          (sym (round_grows laws f g more ask chosen later e)) (on (choices_eq chosen later.rows) i)
        where
          on : (t : Bool) → In x (unless_settled t later.rows (reads_from f ask left))
              → In x (unless_settled t later.rows (reads_from g ask left))
          on true j = elim j [ ]
          on false j = further later.rows j

  pub reads_more : In x (reads_of f ask) → In x (reads_of g ask)
  reads_more = reads_from_more ask.rounds []
