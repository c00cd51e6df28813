-- Rounds depend on the keys that they look at, and on no other.
use Rattle.std.proofs.Common.{◌≡◌, ℕ, ◌+◌, zero, suc, Bool, true, false, cond, Option, None, Some, List, [], ◌∷◌, ◌++◌, length, map, refl, sym, ◌∙◌, ap, subst}
use Rattle.std.specs.Prelude.{fold}
use Rattle.std.specs.List.{flat_map, list_any}
use Rattle.std.specs.Option.{option_map}
use Rattle.interval_sets.specs.declared.interval.Interval.{Interval}
use Rattle.live_walk.specs.Graphs.{In, here, there}
use Rattle.pom_build.specs.Effectives.{effective_of}
use Rattle.pom_build.specs.Reads.{Agree, effective_keys}
use Rattle.project_lookup.specs.Listings.{listing_at_key, listing_of, no_listing}
use Rattle.reconcile_rules.specs.declared.request.Chosen.{Chosen}
use Rattle.reconcile_rules.specs.declared.request.Chosen.TheVariants as chosen
use Rattle.res_base.specs.Builders.{key_of}
use Rattle.res_base.specs.Known.{Known}
use Rattle.res_base.specs.Paths.{listing_path_of}
use Rattle.res_base.specs.Plain.{is_plain_module}
use Rattle.res_base.specs.declared.key.Role.TheVariants as roles
use Rattle.res_base.specs.declared.coord.Coord.{Coord}
use Rattle.res_base.specs.declared.coord.Module.{Module}
use Rattle.res_base.specs.declared.key.FileKey.{FileKey}
use Rattle.resolution.specs.declared.ask.Ask.{Ask}
use Rattle.resolution.specs.declared.choices.ChoiceRow.{ChoiceRow}
use Rattle.resolution.specs.declared.choices.Choices.{Choices}
use Rattle.resolution.specs.declared.progress.Progress.{Progress}
use Rattle.resolution.specs.declared.progress.Progress.TheVariants.{Over, Waiting}
use Rattle.resolution.specs.declared.progress.RequestRow.{RequestRow}
use Rattle.resolution.specs.declared.progress.RoundAnswer.{RoundAnswer}
use Rattle.resolution.specs.declared.progress.RoundAnswer.TheVariants.{Needs, Next}
use Rattle.resolution.specs.declared.progress.Walk.{Walk}
use Rattle.resolution.specs.declared.progress.Walk.TheVariants as walks
use Rattle.round_core.specs.Choices.{Rises, choices_eq, chosen_coord, modules_of}
use Rattle.round_core.specs.Decisions.{by_chosen, by_offer, chosen_for, decided}
use Rattle.round_core.specs.Edges.{last_ones, target_of}
use Rattle.round_core.specs.Listings.{offer_from, offer_in, offer_of, or_later}
use Rattle.round_core.specs.Needs.{at_end}
use Rattle.round_core.specs.Projects.{project_at, projects_of}
use Rattle.round_core.specs.Reaching.{reached_of}
use Rattle.round_core.specs.Reads.{behind_chosen, behind_offer, bom_keys, decided_keys, end_keys, later_reads, listing_keys, listing_reads, offer_keys, offer_keys_from, pom_reads, project_keys, reads_from, reads_of, round_reads, unless_settled}
use Rattle.round_core.specs.Rounds.{after_round, answer_by, next_by, round_by, round_of, rounds_from, rounds_of, settled_or, walk_of, with_decided, with_decision}
use Rattle.round_core.specs.Verdicts.{verdict_of}
use Rattle.round_core.specs.declared.decide.Decision.{Decision}
use Rattle.round_core.specs.declared.edges.RowEdge.{RowEdge}
use Rattle.round_core.specs.declared.listings.Offer.{Offer}
use Rattle.round_core.specs.declared.one_round.Gathered.TheVariants.{Rows}
use Rattle.round_core.specs.declared.projects.ChosenProject.{ChosenProject}
use Rattle.round_core.specs.declared.reach.Reached.{Reached}
use Rattle.round_core.proofs.Below.{Below}
use Rattle.round_core.proofs.Ends.{fold_on, last_same, project_is, walk_same}
use Rattle.round_core.proofs.Grow.{Alike, alike_ends, round_rises, verdict_same}
use Rattle.round_core.proofs.SamePaths.{flat_map_on}

-- ---- keys of which two maps say the same

module _ (a b : Known) where
  pub agree_first : (xs ys : List FileKey) → Agree a b (xs ++ ys) → Agree a b xs
  agree_first [] ys h = tt
  agree_first (x ∷ xs) ys h = (h.0, agree_first xs ys h.1)

  pub agree_later : (xs ys : List FileKey) → Agree a b (xs ++ ys) → Agree a b ys
  agree_later [] ys h = h
  agree_later (x ∷ xs) ys h = agree_later xs ys h.1

  pub agree_in : {A : Type 0} (keys : A → List FileKey) (xs : List A) (x : A) → Agree a b (flat_map keys xs) → In x xs
      → Agree a b (keys x)
  agree_in keys [] x h m = elim m [ ]
  agree_in keys (y ∷ xs) x h here = agree_first (keys y) (flat_map keys xs) h
  agree_in keys (y ∷ xs) x h (there m) = agree_in keys xs x (agree_later (keys y) (flat_map keys xs) h) m

-- ---- listings

module _ (a b : Known) (m : Module) (interval : Interval (List ℕ)) where
  listing_fixed : (repo : ℕ) → Agree a b (listing_keys m repo) → listing_of b m repo ≡ listing_of a m repo
  listing_fixed repo h = by (is_plain_module m) h
    where
      by : (t : Bool) → Agree a b (cond t (key_of repo roles.Listing (listing_path_of m) ∷ []) [])
          → cond t (listing_at_key (key_of repo roles.Listing (listing_path_of m))
          (b (key_of repo roles.Listing (listing_path_of m)))) no_listing
          ≡ cond t (listing_at_key (key_of repo roles.Listing (listing_path_of m))
          (a (key_of repo roles.Listing (listing_path_of m)))) no_listing
      by true g = ap (listing_at_key (key_of repo roles.Listing (listing_path_of m))) g.0
      by false g = refl

  -- what is offered, and the keys that were looked at for it
  pub record SameOffers (repo left : ℕ) : Type 0 where
    pub offers : offer_from b m interval repo left ≡ offer_from a m interval repo left
    pub keys : offer_keys_from b m interval repo left ≡ offer_keys_from a m interval repo left

  pub offers_fixed : (left repo : ℕ) → Agree a b (offer_keys_from a m interval repo left) → SameOffers repo left
  offers_fixed zero repo h = record { offers = refl; keys = refl }
  offers_fixed (suc left) repo h =
      let listing : listing_of b m repo ≡ listing_of a m repo =
      listing_fixed repo (agree_first a b (listing_keys m repo) _ h) in
      by listing (offers_fixed left (repo + 1)) (offer_in interval (listing_of a m repo)) refl
      (agree_later a b (listing_keys m repo) _ h)
    where
      by : listing_of b m repo ≡ listing_of a m repo
          → (Agree a b (offer_keys_from a m interval (repo + 1) left) → SameOffers (repo + 1) left) → (o : Option Offer)
          → offer_in interval (listing_of a m repo) ≡ o
          → Agree a b
          (behind_offer (offer_in interval (listing_of a m repo)) (offer_keys_from a m interval (repo + 1) left))
          → SameOffers repo (suc left)
      by listing later (Some offer) e g =
          record {
            offers = ap (λ l. or_later (offer_in interval l) (offer_from b m interval (repo + 1) left)) listing
                ∙ rw e refl;
            keys = ap (λ l. listing_keys m repo
                ++ behind_offer (offer_in interval l) (offer_keys_from b m interval (repo + 1) left)) listing
                ∙ rw e refl;
          }
      by listing later None e g =
          let same : SameOffers (repo + 1) left = later (rw e at g) in
          record {
            offers = ap (λ l. or_later (offer_in interval l) (offer_from b m interval (repo + 1) left)) listing
                ∙ ap (or_later (offer_in interval (listing_of a m repo))) same.offers;
            keys = ap (λ l. listing_keys m repo
                ++ behind_offer (offer_in interval l) (offer_keys_from b m interval (repo + 1) left)) listing
                ∙ ap (λ z. listing_keys m repo ++ behind_offer (offer_in interval (listing_of a m repo)) z) same.keys;
          }

module _ (a b : Known) (ask : Ask) where
  pub record SameDecision (row : RequestRow) : Type 0 where
    pub decision : decided b ask row ≡ decided a ask row
    pub keys : decided_keys b ask row ≡ decided_keys a ask row

  pub decided_fixed : (row : RequestRow) → Agree a b (decided_keys a ask row) → SameDecision row
  decided_fixed row h = by (chosen_for ask row None) refl h
    where
      by : (picked : Chosen) → chosen_for ask row None ≡ picked
          → Agree a b (behind_chosen (chosen_for ask row None) (offer_keys a ask.repos row.«module»)) → SameDecision row
      by (chosen.Version version) e g = record { decision = rw e refl; keys = rw e refl }
      by (chosen.Clash clash) e g = record { decision = rw e refl; keys = rw e refl }
      by (chosen.NeedsListing interval) e g =
          let same : SameOffers a b row.«module» interval 0 ask.repos =
          offers_fixed a b row.«module» interval ask.repos 0 (rw e at g) in
          record { decision = rw e (ap (λ o. by_offer o (chosen_for ask row)) same.offers); keys = rw e same.keys }

-- ---- a round

module _ (laws : Below) (a b : Known) (ask : Ask) where
  project_fixed : (c : Option Coord) → Agree a b (project_keys a ask.repos (option_map (project_at a ask.repos) c))
      → option_map (project_at b ask.repos) c ≡ option_map (project_at a ask.repos) c
  project_fixed None h = refl
  project_fixed (Some c) h =
      ap (λ build. Some (record { coord = c; build = build })) (laws.answer_reads a b ask.repos c h)

  boms_fixed : (boms : List Coord) → Agree a b (flat_map (bom_keys a ask.repos) (projects_of a ask.repos boms))
      → projects_of b ask.repos boms ≡ projects_of a ask.repos boms
  boms_fixed [] h = refl
  boms_fixed (c ∷ boms) h =
      ap (λ build. record { coord = c; build = build } ∷ projects_of b ask.repos boms)
      (laws.answer_reads a b ask.repos c (agree_first a b (effective_keys a ask.repos c) _ h))
      ∙ ap (λ z. project_at a ask.repos c ∷ z) (boms_fixed boms (agree_later a b (effective_keys a ask.repos c) _ h))

  module _ (chosen : List ChoiceRow) where
    pub alike : Agree a b (pom_reads a ask.repos (reached_of a ask chosen)) → Alike a b ask chosen
    alike h =
        record {
          boms = boms_fixed ask.boms
              (agree_first a b (flat_map (bom_keys a ask.repos) (projects_of a ask.repos ask.boms)) _ h);
          ends = λ e m.
              project_fixed (chosen_coord chosen (target_of e))
              (subst (λ z. Agree a b (project_keys a ask.repos z)) (project_is a ask chosen (target_of e))
              (agree_in a b (end_keys a ask.repos (reached_of a ask chosen)) (last_ones a ask chosen) e
              (agree_later a b (flat_map (bom_keys a ask.repos) (projects_of a ask.repos ask.boms)) _ h) m));
        }

    -- the keys of a project that was built from these
    keys_of_coord : (c : Option Coord) → Agree a b (project_keys a ask.repos (option_map (project_at a ask.repos) c))
        → project_keys b ask.repos (option_map (project_at b ask.repos) c)
        ≡ project_keys a ask.repos (option_map (project_at a ask.repos) c)
    keys_of_coord None h = refl
    keys_of_coord (Some c) h = laws.keys_read a b ask.repos c h

    bom_keys_fixed : (boms : List Coord) → Agree a b (flat_map (bom_keys a ask.repos) (projects_of a ask.repos boms))
        → flat_map (bom_keys b ask.repos) (projects_of b ask.repos boms)
        ≡ flat_map (bom_keys a ask.repos) (projects_of a ask.repos boms)
    bom_keys_fixed [] h = refl
    bom_keys_fixed (c ∷ boms) h =
        ap (λ z. z ++ flat_map (bom_keys b ask.repos) (projects_of b ask.repos boms))
        (laws.keys_read a b ask.repos c (agree_first a b (effective_keys a ask.repos c) _ h))
        ∙ ap (λ z. effective_keys a ask.repos c ++ z)
        (bom_keys_fixed boms (agree_later a b (effective_keys a ask.repos c) _ h))

    end_keys_fixed : (e : RowEdge) → Agree a b (end_keys a ask.repos (reached_of a ask chosen) e)
        → end_keys b ask.repos (reached_of b ask chosen) e ≡ end_keys a ask.repos (reached_of a ask chosen) e
    end_keys_fixed e h =
        ap (project_keys b ask.repos) (project_is b ask chosen (target_of e))
        ∙ keys_of_coord (chosen_coord chosen (target_of e))
        (subst (λ z. Agree a b (project_keys a ask.repos z)) (project_is a ask chosen (target_of e)) h)
        ∙ sym (ap (project_keys a ask.repos) (project_is a ask chosen (target_of e)))

    pub poms_fixed : Agree a b (pom_reads a ask.repos (reached_of a ask chosen))
        → pom_reads b ask.repos (reached_of b ask chosen) ≡ pom_reads a ask.repos (reached_of a ask chosen)
    poms_fixed h =
        let last : last_ones b ask chosen ≡ last_ones a ask chosen =
        last_same laws.sets a b ask chosen (alike_ends a b ask chosen (alike h)) in
        let of_ends : Agree a b (flat_map (end_keys a ask.repos (reached_of a ask chosen)) (last_ones a ask chosen)) =
        agree_later a b (flat_map (bom_keys a ask.repos) (projects_of a ask.repos ask.boms)) _ h in
        ap (λ z. z ++ flat_map (end_keys b ask.repos (reached_of b ask chosen)) (last_ones b ask chosen))
        (bom_keys_fixed ask.boms
        (agree_first a b (flat_map (bom_keys a ask.repos) (projects_of a ask.repos ask.boms)) _ h))
        ∙ ap (λ z. flat_map (bom_keys a ask.repos) (projects_of a ask.repos ask.boms)
        ++ flat_map (end_keys b ask.repos (reached_of b ask chosen)) z) last
        ∙ ap (λ z. flat_map (bom_keys a ask.repos) (projects_of a ask.repos ask.boms) ++ z)
        (flat_map_on (end_keys b ask.repos (reached_of b ask chosen))
        (end_keys a ask.repos (reached_of a ask chosen)) (last_ones a ask chosen)
        (λ e m. end_keys_fixed e
        (agree_in a b (end_keys a ask.repos (reached_of a ask chosen)) (last_ones a ask chosen) e of_ends m)))

    answer_fixed : (walk : Walk) → Agree a b (listing_reads a ask walk) → round_by b ask walk ≡ round_by a ask walk
    answer_fixed (walks.Needs keys) h = refl
    answer_fixed (walks.Requests rows) h =
        ap answer_by
        (fold_on (with_decided b ask) (with_decided a ask) rows
        (λ so_far row m. ap (with_decision so_far row.«module»)
        (decided_fixed a b ask row (agree_in a b (decided_keys a ask) rows row h m)).decision) (Rows []))

    listings_fixed : (walk : Walk) → Agree a b (listing_reads a ask walk)
        → listing_reads b ask walk ≡ listing_reads a ask walk
    listings_fixed (walks.Needs keys) h = refl
    listings_fixed (walks.Requests rows) h =
        flat_map_on (decided_keys b ask) (decided_keys a ask) rows
        (λ row m. (decided_fixed a b ask row (agree_in a b (decided_keys a ask) rows row h m)).keys)

    pub record SameRound : Type 0 where
      pub alike : Alike a b ask chosen
      pub answer : round_of b ask chosen ≡ round_of a ask chosen
      pub keys : round_reads b ask chosen ≡ round_reads a ask chosen

    pub round_fixed : Agree a b (round_reads a ask chosen) → SameRound
    round_fixed h =
        let of_poms : Agree a b (pom_reads a ask.repos (reached_of a ask chosen)) =
        agree_first a b (pom_reads a ask.repos (reached_of a ask chosen)) _ h in
        let of_listings : Agree a b (listing_reads a ask (walk_of a ask chosen)) =
        agree_later a b (pom_reads a ask.repos (reached_of a ask chosen)) _ h in
        let walk : walk_of b ask chosen ≡ walk_of a ask chosen =
        walk_same laws.sets a b ask chosen (alike_ends a b ask chosen (alike of_poms)) in
        record {
          alike = alike of_poms;
          answer = ap (round_by b ask) walk ∙ answer_fixed (walk_of a ask chosen) of_listings;
          keys =
              ap (λ z. z ++ listing_reads b ask (walk_of b ask chosen)) (poms_fixed of_poms)
              ∙ ap (λ z. pom_reads a ask.repos (reached_of a ask chosen) ++ listing_reads b ask z) walk
              ∙ ap (λ z. pom_reads a ask.repos (reached_of a ask chosen) ++ z)
              (listings_fixed (walk_of a ask chosen) of_listings);
        }

  -- ---- all rounds

  pub record SameRounds (left done : ℕ) (chosen : List ChoiceRow) : Type 0 where
    pub progress : rounds_from b ask left done chosen ≡ rounds_from a ask left done chosen
    pub keys : reads_from b ask left chosen ≡ reads_from a ask left chosen

  pub rounds_from_fixed : (left done : ℕ) (chosen : List ChoiceRow) → Rises (modules_of chosen)
      → Agree a b (reads_from a ask left chosen) → SameRounds left done chosen
  rounds_from_fixed zero done chosen rises h = record { progress = refl; keys = refl }
  rounds_from_fixed (suc left) done chosen rises h =
      let round : SameRound chosen = round_fixed chosen (agree_first a b (round_reads a ask chosen) _ h) in
      by round (λ later. rounds_from_fixed left (done + 1) later) (round_of a ask chosen) refl
      (agree_later a b (round_reads a ask chosen) _ h)
    where
      by : SameRound chosen
          → ((later : List ChoiceRow) → Rises (modules_of later) → Agree a b (reads_from a ask left later)
          → SameRounds left (done + 1) later) → (answer : RoundAnswer) → round_of a ask chosen ≡ answer
          → Agree a b (later_reads (round_of a ask chosen) chosen (reads_from a ask left))
          → SameRounds (suc left) done chosen
      by round further (Needs keys) e g =
          record {
            progress = rw (round.answer, e) refl;
            keys = ap (λ z. z ++ later_reads (round_of b ask chosen) chosen (reads_from b ask left)) round.keys
                ∙ rw (round.answer, e) refl;
          }
      by round further (Next later) e g = on (choices_eq chosen later.rows) refl (rw e at g)
        where
          on : (t : Bool) → choices_eq chosen later.rows ≡ t
              → Agree a b (unless_settled (choices_eq chosen later.rows) later.rows (reads_from a ask left))
              → SameRounds (suc left) done chosen
          on true same k =
              record {
                progress =
                    rw (round.answer, e, same)
                    (ap Over (verdict_same laws a b ask chosen rises round.alike later e same (done + 1)));
                keys = ap (λ z. z ++ later_reads (round_of b ask chosen) chosen (reads_from b ask left)) round.keys
                    ∙ rw (round.answer, e, same) refl;
              }
          on false apart k =
              let rest : SameRounds left (done + 1) later.rows =
              further later.rows (round_rises a ask chosen later e) (rw apart at k) in
              record {
                progress = rw (round.answer, e, apart) rest.progress;
                keys = ap (λ z. z ++ later_reads (round_of b ask chosen) chosen (reads_from b ask left)) round.keys
                    ∙ rw (round.answer, e, apart) (ap (λ z. round_reads a ask chosen ++ z) rest.keys);
              }

  pub rounds_fixed : Agree a b (reads_of a ask) → SameRounds ask.rounds 0 []
  rounds_fixed h = rounds_from_fixed ask.rounds 0 [] tt h
