-- Choices that are made over what is known stay when more is.
use Rattle.std.proofs.Common.{◌≡◌, ℕ, ◌+◌, zero, suc, Bool, true, false, Option, None, Some, inl, inr, List, [], ◌∷◌, ◌++◌, map, refl, sym, ◌∙◌, ap, subst}
use Rattle.std.specs.Prelude.{fold}
use Rattle.std.specs.BTreeSet.{insert_key}
use Rattle.interval_sets.specs.declared.interval.Interval.{Interval}
use Rattle.live_walk.specs.Graphs.{In, here, there}
use Rattle.live_walk.proofs.Members.{in_cons}
use Rattle.project_lookup.specs.Listings.{Listed, is_unknown, listing_of, no_listing, unknown, versions}
use Rattle.reconcile_rules.specs.declared.request.Chosen.{Chosen}
use Rattle.reconcile_rules.specs.declared.request.Chosen.TheVariants as chosen
use Rattle.res_base.specs.Known.{Grows, Known}
use Rattle.res_base.specs.Names.{key_cmp}
use Rattle.res_base.specs.declared.coord.Module.{Module}
use Rattle.res_base.specs.declared.key.FileKey.{FileKey}
use Rattle.resolution.specs.declared.ask.Ask.{Ask}
use Rattle.resolution.specs.declared.choices.ChoiceRow.{ChoiceRow}
use Rattle.resolution.specs.declared.choices.Choices.{Choices}
use Rattle.resolution.specs.declared.progress.RequestRow.{RequestRow}
use Rattle.resolution.specs.declared.progress.RoundAnswer.{RoundAnswer}
use Rattle.resolution.specs.declared.progress.RoundAnswer.TheVariants.{Needs, Next}
use Rattle.round_core.specs.Choices.{modules_of}
use Rattle.round_core.specs.Decisions.{by_chosen, by_offer, chosen_for, decided, is_lacking}
use Rattle.round_core.specs.Listings.{offer_from, offer_in, offer_of, or_later}
use Rattle.round_core.specs.Rounds.{answer_by, next_by, with_decided, with_decision}
use Rattle.round_core.specs.declared.decide.Decision.{Decision}
use Rattle.round_core.specs.declared.decide.Decision.TheVariants.{Lacks, Made}
use Rattle.round_core.specs.declared.listings.Offer.{Offer}
use Rattle.round_core.specs.declared.listings.Offer.TheVariants.{Lacking, Versions}
use Rattle.round_core.specs.declared.one_round.Gathered.{Gathered}
use Rattle.round_core.specs.declared.one_round.Gathered.TheVariants.{Keys, Rows}
use Rattle.round_core.proofs.Below.{Below}
use Rattle.round_core.proofs.Ends.{fold_on}

abbrev pub lacks_offer : Offer → Bool
lacks_offer (Versions found) = false
lacks_offer (Lacking key) = true

module _ (laws : Below) (f g : Known) (more : Grows f g) (m : Module) (interval : Interval (List ℕ)) where
  offer_step : (repo : ℕ) (listed : Listed) → listing_of f m repo ≡ listed → (later after : Offer)
      → (lacks_offer later ≡ false → after ≡ later)
      → lacks_offer (or_later (offer_in interval listed) later) ≡ false
      → or_later (offer_in interval (listing_of g m repo)) after ≡ or_later (offer_in interval listed) later
  offer_step repo (unknown key) e later after same h = absurd (cc)
  offer_step repo no_listing e later after same h =
      let l : listing_of g m repo ≡ no_listing = laws.listing_grows f g m repo more (ap is_unknown e) ∙ e in
      ap (λ z. or_later (offer_in interval z) after) l ∙ same h
  offer_step repo (versions listed) e later after same h =
      let l : listing_of g m repo ≡ versions listed = laws.listing_grows f g m repo more (ap is_unknown e) ∙ e in
      ap (λ z. or_later (offer_in interval z) after) l ∙ by (offer_in interval (versions listed)) h
    where
      by : (o : Option Offer) → lacks_offer (or_later o later) ≡ false → or_later o after ≡ or_later o later
      by (Some offer) k = refl
      by None k = same k

  offers_grow : (left repo : ℕ) → lacks_offer (offer_from f m interval repo left) ≡ false
      → offer_from g m interval repo left ≡ offer_from f m interval repo left
  offers_grow zero repo h = refl
  offers_grow (suc left) repo h =
      offer_step repo (listing_of f m repo) refl (offer_from f m interval (repo + 1) left)
      (offer_from g m interval (repo + 1) left) (offers_grow left (repo + 1)) h

-- a decision that lacks nothing
module _ (laws : Below) (f g : Known) (more : Grows f g) (ask : Ask) where
  by_offers : (m : Module) (interval : Interval (List ℕ)) (choose : Option (List (List ℕ)) → Chosen)
      → is_lacking (by_offer (offer_of f ask.repos m interval) choose) ≡ false
      → by_offer (offer_of g ask.repos m interval) choose ≡ by_offer (offer_of f ask.repos m interval) choose
  by_offers m interval choose h =
      ap (λ o. by_offer o choose)
      (offers_grow laws f g more m interval ask.repos 0 (free (offer_of f ask.repos m interval) h))
    where
      free : (o : Offer) → is_lacking (by_offer o choose) ≡ false → lacks_offer o ≡ false
      free (Versions found) k = refl
      free (Lacking key) k = absurd (cc)

  by_choice : (m : Module) (picked : Chosen) (choose : Option (List (List ℕ)) → Chosen)
      → is_lacking (by_chosen picked (offer_of f ask.repos m) choose) ≡ false
      → by_chosen picked (offer_of g ask.repos m) choose ≡ by_chosen picked (offer_of f ask.repos m) choose
  by_choice m (chosen.Version version) choose h = refl
  by_choice m (chosen.Clash clash) choose h = refl
  by_choice m (chosen.NeedsListing interval) choose h = by_offers m interval choose h

  pub decided_grows : (row : RequestRow) → is_lacking (decided f ask row) ≡ false
      → decided g ask row ≡ decided f ask row
  decided_grows row h = by_choice row.«module» (chosen_for ask row None) (chosen_for ask row) h

-- ---- all decisions of a round

-- once a listing is lacking, some keys are needed
keys_stay : (known : Known) (ask : Ask) (keys : List FileKey) (rows : List RequestRow) (later : Choices)
    → answer_by (fold (with_decided known ask) (Keys keys) rows) ≡ Next later → ⊥
keys_stay known ask keys [] later h = absurd (cc)
keys_stay known ask keys (row ∷ rows) later h =
    by (λ more k. keys_stay known ask more rows later k) (decided known ask row) h
  where
    by : ((more : List FileKey) → answer_by (fold (with_decided known ask) (Keys more) rows) ≡ Next later → ⊥)
        → (d : Decision) → answer_by (fold (with_decided known ask) (with_decision (Keys keys) row.«module» d) rows)
        ≡ Next later → ⊥
    by further (Made choice) k = further keys k
    by further (Lacks key) k = further (insert_key key_cmp keys key) k

-- where there are next choices, all decisions are made
pub all_made : (known : Known) (ask : Ask) (so_far : List ChoiceRow) (rows : List RequestRow) (later : Choices)
    → answer_by (fold (with_decided known ask) (Rows so_far) rows) ≡ Next later → (row : RequestRow) → In row rows
    → is_lacking (decided known ask row) ≡ false
all_made known ask so_far [] later h row i = elim i [ ]
all_made known ask so_far (r ∷ rows) later h row i =
    by (λ more k j. all_made known ask more rows later k row j) (decided known ask r) refl h i
  where
    by : ((more : List ChoiceRow) → answer_by (fold (with_decided known ask) (Rows more) rows) ≡ Next later
        → In row rows → is_lacking (decided known ask row) ≡ false) → (d : Decision) → decided known ask r ≡ d
        → answer_by (fold (with_decided known ask) (with_decision (Rows so_far) r.«module» d) rows) ≡ Next later
        → In row (r ∷ rows) → is_lacking (decided known ask row) ≡ false
    by further (Lacks key) e k j = absurd (keys_stay known ask (key ∷ []) rows later k)
    by further (Made choice) e k j =
        elim (in_cons row r rows j) [
          | inl q ↦ ap (λ z. is_lacking (decided known ask z)) q ∙ ap is_lacking e
          | inr l ↦ further (so_far ++ record { «module» = r.«module»; choice = choice } ∷ []) k l
        ]

-- the modules of the next choices are those of the rows
pub next_modules : (known : Known) (ask : Ask) (so_far : List ChoiceRow) (rows : List RequestRow) (later : Choices)
    → answer_by (fold (with_decided known ask) (Rows so_far) rows) ≡ Next later
    → modules_of later.rows ≡ modules_of so_far ++ map (λ (row : RequestRow). row.«module») rows
next_modules known ask so_far [] later h = ap modules_of (same h) ∙ sym (end (modules_of so_far))
  where
    same : answer_by (Rows so_far) ≡ Next later → later.rows ≡ so_far
    same k = ap rows_in (sym k)
      where
        rows_in : RoundAnswer → List ChoiceRow
        rows_in (Needs keys) = []
        rows_in (Next choices) = choices.rows

    end : (xs : List Module) → xs ++ [] ≡ xs
    end [] = refl
    end (x ∷ xs) = ap (λ z. x ∷ z) (end xs)
next_modules known ask so_far (r ∷ rows) later h =
    by (λ more k. next_modules known ask more rows later k) (decided known ask r) h
  where
    modules_more : (xs : List ChoiceRow) (x : ChoiceRow) (more : List Module) → modules_of (xs ++ x ∷ []) ++ more
        ≡ modules_of xs ++ (x.«module» ∷ more)
    modules_more [] x more = refl
    modules_more (y ∷ xs) x more = ap (λ z. y.«module» ∷ z) (modules_more xs x more)

    by : ((more : List ChoiceRow) → answer_by (fold (with_decided known ask) (Rows more) rows) ≡ Next later
        → modules_of later.rows ≡ modules_of more ++ map (λ (row : RequestRow). row.«module») rows) → (d : Decision)
        → answer_by (fold (with_decided known ask) (with_decision (Rows so_far) r.«module» d) rows) ≡ Next later
        → modules_of later.rows ≡ modules_of so_far ++ (r.«module» ∷ map (λ (row : RequestRow). row.«module») rows)
    by further (Lacks key) k = absurd (keys_stay known ask (key ∷ []) rows later k)
    by further (Made choice) k = further (so_far ++ record { «module» = r.«module»; choice = choice } ∷ []) k
        ∙ modules_more so_far (record { «module» = r.«module»; choice = choice })
        (map (λ (row : RequestRow). row.«module») rows)

pub next_grows : (laws : Below) (f g : Known) → Grows f g → (ask : Ask) (rows : List RequestRow) (later : Choices)
    → next_by f ask rows ≡ Next later → next_by g ask rows ≡ Next later
next_grows laws f g more ask rows later h =
    ap answer_by
    (fold_on (with_decided g ask) (with_decided f ask) rows
    (λ so_far row i. ap (with_decision so_far row.«module»)
    (decided_grows laws f g more ask row (all_made f ask [] rows later h row i))) (Rows [])) ∙ h
