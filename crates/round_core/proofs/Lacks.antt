-- The listings that a round looks at, and those that it lacks.
use Rattle.std.proofs.Common.{◌≡◌, ℕ, ◌+◌, ◌<◌, length, arith, zero, suc, Bool, true, false, cond, ◌⊎◌, inl, inr, Option, None, Some, List, [], ◌∷◌, ◌++◌, refl, sym, ◌∙◌, ap, subst}
use Rattle.std.specs.Prelude.{fold}
use Rattle.std.specs.BTreeSet.{insert_key}
use Rattle.std.specs.List.{flat_map}
use Rattle.std.specs.declared.cmp.Ordering.TheVariants.{Equal}
use Rattle.interval_sets.specs.declared.interval.Interval.{Interval}
use Rattle.live_walk.specs.Graphs.{In, here, there}
use Rattle.live_walk.proofs.Members.{FlatMapped, from_flat_map, in_back, in_either, in_flat_map, in_front, in_one}
use Rattle.project_lookup.specs.Listings.{Listed, listing_at_key, listing_in, listing_of, no_listing, unknown, versions}
use Rattle.reconcile_rules.specs.declared.request.Chosen.{Chosen}
use Rattle.reconcile_rules.specs.declared.request.Chosen.TheVariants as chosen
use Rattle.res_base.specs.Builders.{key_of}
use Rattle.res_base.specs.Known.{Known}
use Rattle.res_base.specs.Names.{key_cmp}
use Rattle.res_base.specs.Paths.{listing_path_of}
use Rattle.res_base.specs.Plain.{is_plain_module}
use Rattle.res_base.specs.declared.coord.Module.{Module}
use Rattle.res_base.specs.declared.key.FileKey.{FileKey}
use Rattle.res_base.specs.declared.key.Role.TheVariants as roles
use Rattle.res_base.specs.declared.reading.Reading.{Reading}
use Rattle.res_base.specs.declared.reading.Reading.TheVariants as readings
use Rattle.resolution.specs.declared.ask.Ask.{Ask}
use Rattle.resolution.specs.declared.choices.ChoiceRow.{ChoiceRow}
use Rattle.resolution.specs.declared.progress.RequestRow.{RequestRow}
use Rattle.resolution.specs.declared.progress.RoundAnswer.{RoundAnswer}
use Rattle.resolution.specs.declared.progress.RoundAnswer.TheVariants.{Needs, Next}
use Rattle.round_core.specs.Decisions.{by_chosen, by_offer, chosen_for, decided, lacked_in}
use Rattle.round_core.specs.Listings.{candidates, offer_from, offer_in, offer_of, or_later, unless_none}
use Rattle.round_core.specs.Reads.{behind_chosen, behind_offer, decided_keys, listing_keys, offer_keys, offer_keys_from}
use Rattle.round_core.specs.Rounds.{answer_by, next_by, with_decided, with_decision}
use Rattle.round_core.specs.declared.decide.Decision.{Decision}
use Rattle.round_core.specs.declared.decide.Decision.TheVariants.{Lacks, Made}
use Rattle.round_core.specs.declared.listings.Offer.{Offer}
use Rattle.round_core.specs.declared.listings.Offer.TheVariants.{Lacking, Versions}
use Rattle.round_core.specs.declared.one_round.Gathered.{Gathered}
use Rattle.round_core.specs.declared.one_round.Gathered.TheVariants.{Keys, Rows}
use Rattle.round_core.proofs.Waits.{in_key, key_in, others_in}

module _ (known : Known) (m : Module) (interval : Interval (List ℕ)) where
  abbrev key_at : ℕ → FileKey
  key_at repo = key_of repo roles.Listing (listing_path_of m)

  -- a listing that is not known is that of a plain module, at its key
  unknown_at : (repo : ℕ) (key : FileKey) → listing_of known m repo ≡ unknown key
      → In key (listing_keys m repo) × (known key ≡ None)
  unknown_at repo key h = by (is_plain_module m) h
    where
      at : (reading : Option Reading) → known (key_at repo) ≡ reading → listing_at_key (key_at repo) reading
          ≡ unknown key → In key (key_at repo ∷ []) × (known key ≡ None)
      at None e g = let q : key_at repo ≡ key =
          cc in (subst (λ z. In z (key_at repo ∷ [])) q here, subst (λ z. known z ≡ None) q e)
      at (Some (readings.Pom pom)) e g = absurd (cc)
      at (Some (readings.Listing listed)) e g = absurd (cc)
      at (Some (readings.Stored len)) e g = absurd (cc)
      at (Some (readings.NotReadable fault)) e g = absurd (cc)
      at (Some readings.Absent) e g = absurd (cc)
      at (Some (readings.Damaged damage)) e g = absurd (cc)
      at (Some readings.TooLarge) e g = absurd (cc)

      by : (t : Bool) → cond t (listing_at_key (key_at repo) (known (key_at repo))) no_listing ≡ unknown key
          → In key (cond t (key_at repo ∷ []) []) × (known key ≡ None)
      by true g = at (known (key_at repo)) refl g
      by false g = absurd (cc)

  -- and a key that is looked at and not known is that of the listing
  at_unknown : (repo : ℕ) (key : FileKey) → In key (listing_keys m repo) → known key ≡ None
      → listing_of known m repo ≡ unknown key
  at_unknown repo key h e = by (is_plain_module m) h
    where
      by : (t : Bool) → In key (cond t (key_at repo ∷ []) [])
          → cond t (listing_at_key (key_at repo) (known (key_at repo))) no_listing ≡ unknown key
      by true i = let q : key ≡ key_at repo = in_one i in let n : known (key_at repo) ≡ None =
          subst (λ z. known z ≡ None) q e in ap (listing_at_key (key_at repo)) n ∙ ap unknown (sym q)
      by false i = elim i [ ]

  lacking_same : (k key : FileKey) → Lacking k ≡ Lacking key → k ≡ key
  lacking_same k key s = cc

  -- a repository whose listing is known is passed over, or offers what it has
  passed_over : (found : List (List ℕ)) (later : Offer) (key : FileKey) → or_later (unless_none found) later
      ≡ Lacking key → (unless_none found ≡ None) × (later ≡ Lacking key)
  passed_over [] later key g = (refl, g)
  passed_over (version ∷ more) later key g = absurd (cc)

  pub lacking_read : (left repo : ℕ) (key : FileKey) → offer_from known m interval repo left ≡ Lacking key
      → In key (offer_keys_from known m interval repo left) × (known key ≡ None)
  lacking_read zero repo key h = absurd (cc)
  lacking_read (suc left) repo key h = by (lacking_read left (repo + 1) key) (listing_of known m repo) refl h
    where
      further : offer_in interval (listing_of known m repo) ≡ None
          → In key (offer_keys_from known m interval (repo + 1) left) × (known key ≡ None)
          → In key (offer_keys_from known m interval repo (suc left)) × (known key ≡ None)
      further e r = (
        in_back (listing_keys m repo)
            (subst (λ o. In key (behind_offer o (offer_keys_from known m interval (repo + 1) left))) (sym e) r.0),
        r.1,
      )

      by : (offer_from known m interval (repo + 1) left ≡ Lacking key
          → In key (offer_keys_from known m interval (repo + 1) left) × (known key ≡ None)) → (l : Listed)
          → listing_of known m repo ≡ l
          → or_later (offer_in interval l) (offer_from known m interval (repo + 1) left) ≡ Lacking key
          → In key (offer_keys_from known m interval repo (suc left)) × (known key ≡ None)
      by later (unknown k) e g = let u : In key (listing_keys m repo) × (known key ≡ None) =
          unknown_at repo key (e ∙ ap unknown (lacking_same k key g)) in (in_front _ u.0, u.1)
      by later no_listing e g = further (ap (offer_in interval) e) (later g)
      by later (versions listed) e g =
          let r : (unless_none (candidates interval listed) ≡ None)
          × (offer_from known m interval (repo + 1) left ≡ Lacking key) =
          passed_over (candidates interval listed) (offer_from known m interval (repo + 1) left) key g in
          further (ap (offer_in interval) e ∙ r.0) (later r.1)

  pub to_lacking : (left repo : ℕ) (key : FileKey) → In key (offer_keys_from known m interval repo left)
      → known key ≡ None → offer_from known m interval repo left ≡ Lacking key
  to_lacking zero repo key h n = elim h [ ]
  to_lacking (suc left) repo key h n =
      elim (in_either (listing_keys m repo) _ h) [
        | inl i ↦ ap (λ l. or_later (offer_in interval l) (offer_from known m interval (repo + 1) left))
            (at_unknown repo key i n)
        | inr i ↦ by (to_lacking left (repo + 1) key) (offer_in interval (listing_of known m repo)) refl i
      ]
    where
      by : (In key (offer_keys_from known m interval (repo + 1) left) → known key ≡ None
          → offer_from known m interval (repo + 1) left ≡ Lacking key) → (o : Option Offer)
          → offer_in interval (listing_of known m repo) ≡ o
          → In key (behind_offer o (offer_keys_from known m interval (repo + 1) left))
          → or_later (offer_in interval (listing_of known m repo)) (offer_from known m interval (repo + 1) left)
          ≡ Lacking key
      by later None e i = ap (λ o. or_later o (offer_from known m interval (repo + 1) left)) e ∙ later i n
      by later (Some offer) e i = elim i [ ]

-- ---- decisions

module _ (known : Known) (ask : Ask) where
  lacks_same : (k key : FileKey) → Lacks k ≡ Lacks key → k ≡ key
  lacks_same k key s = cc

  pub decided_lacks : (row : RequestRow) (key : FileKey) → decided known ask row ≡ Lacks key
      → In key (decided_keys known ask row) × (known key ≡ None)
  decided_lacks row key h = by (chosen_for ask row None) h
    where
      offers : (interval : Interval (List ℕ)) (o : Offer) → offer_of known ask.repos row.«module» interval ≡ o
          → by_offer o (chosen_for ask row) ≡ Lacks key
          → In key (offer_keys known ask.repos row.«module» interval) × (known key ≡ None)
      offers interval (Versions listed) e g = absurd (cc)
      offers interval (Lacking k) e g =
          lacking_read known row.«module» interval ask.repos 0 key (e ∙ ap Lacking (lacks_same k key g))

      by : (picked : Chosen) → by_chosen picked (offer_of known ask.repos row.«module») (chosen_for ask row) ≡ Lacks key
          → In key (behind_chosen picked (offer_keys known ask.repos row.«module»)) × (known key ≡ None)
      by (chosen.Version version) g = absurd (cc)
      by (chosen.Clash clash) g = absurd (cc)
      by (chosen.NeedsListing interval) g = offers interval (offer_of known ask.repos row.«module» interval) refl g

  pub lacks_decided : (row : RequestRow) (key : FileKey) → In key (decided_keys known ask row) → known key ≡ None
      → decided known ask row ≡ Lacks key
  lacks_decided row key h n = by (chosen_for ask row None) h
    where
      by : (picked : Chosen) → In key (behind_chosen picked (offer_keys known ask.repos row.«module»))
          → by_chosen picked (offer_of known ask.repos row.«module») (chosen_for ask row) ≡ Lacks key
      by (chosen.Version version) i = elim i [ ]
      by (chosen.Clash clash) i = elim i [ ]
      by (chosen.NeedsListing interval) i =
          ap (λ o. by_offer o (chosen_for ask row)) (to_lacking known row.«module» interval ask.repos 0 key i n)

  abbrev lacked : RequestRow → List FileKey
  lacked row = lacked_in (decided known ask row)

  in_lacked : (d : Decision) (x : FileKey) → In x (lacked_in d) → d ≡ Lacks x
  in_lacked (Made choice) x h = elim h [ ]
  in_lacked (Lacks key) x here = refl
  in_lacked (Lacks key) x (there h) = elim h [ ]

-- ---- the keys that are gathered

abbrev pub gathered_keys : Gathered → List FileKey
gathered_keys (Rows rows) = []
gathered_keys (Keys keys) = keys

abbrev pub answer_keys : RoundAnswer → List FileKey
answer_keys (Needs keys) = keys
answer_keys (Next later) = []

answered_keys : (gathered : Gathered) → answer_keys (answer_by gathered) ≡ gathered_keys gathered
answered_keys (Rows rows) = refl
answered_keys (Keys keys) = refl

-- keys that are needed are some
abbrev pub AreSome : Gathered → Type 0
AreSome (Rows rows) = 0 < 1
AreSome (Keys keys) = 0 < length keys

pub in_some : {A : Type 0} (x : A) (xs : List A) → In x xs → 0 < length xs
in_some x [] h = elim h [ ]
in_some x (y ∷ xs) h = omega arith

abbrev pub HasSome : RoundAnswer → Type 0
HasSome (Needs keys) = 0 < length keys
HasSome (Next later) = 0 < 1

some_answer : (gathered : Gathered) → AreSome gathered → HasSome (answer_by gathered)
some_answer (Rows rows) h = h
some_answer (Keys keys) h = h

module _ (same_key : (a b : FileKey) → key_cmp a b ≡ Equal → a ≡ b) (known : Known) (ask : Ask) where
  step_from : (x : FileKey) (gathered : Gathered) (m : Module) (d : Decision)
      → In x (gathered_keys (with_decision gathered m d)) → In x (gathered_keys gathered) ⊎ In x (lacked_in d)
  step_from x (Rows rows) m (Made choice) h = elim h [ ]
  step_from x (Rows rows) m (Lacks key) h = inr h
  step_from x (Keys keys) m (Made choice) h = inl h
  step_from x (Keys keys) m (Lacks key) h =
      elim (in_key same_key x key keys h) [ inl q ↦ inr (subst (λ z. In z (key ∷ [])) (sym q) here) | inr i ↦ inl i ]

  step_kept : (x : FileKey) (gathered : Gathered) (m : Module) (d : Decision) → In x (gathered_keys gathered)
      → In x (gathered_keys (with_decision gathered m d))
  step_kept x (Rows rows) m d h = elim h [ ]
  step_kept x (Keys keys) m (Made choice) h = h
  step_kept x (Keys keys) m (Lacks key) h = others_in same_key x key keys h

  step_new : (x : FileKey) (gathered : Gathered) (m : Module) (d : Decision) → In x (lacked_in d)
      → In x (gathered_keys (with_decision gathered m d))
  step_new x gathered m (Made choice) h = elim h [ ]
  step_new x (Rows rows) m (Lacks key) h = h
  step_new x (Keys keys) m (Lacks key) here = key_in same_key key keys
  step_new x (Keys keys) m (Lacks key) (there h) = elim h [ ]

  step_some : (gathered : Gathered) (m : Module) (d : Decision) → AreSome gathered
      → AreSome (with_decision gathered m d)
  step_some (Rows rows) m (Made choice) h = h
  step_some (Rows rows) m (Lacks key) h = omega arith
  step_some (Keys keys) m (Made choice) h = h
  step_some (Keys keys) m (Lacks key) h = in_some key (insert_key key_cmp keys key) (key_in same_key key keys)

  all_from : (x : FileKey) (gathered : Gathered) (rows : List RequestRow)
      → In x (gathered_keys (fold (with_decided known ask) gathered rows))
      → In x (gathered_keys gathered) ⊎ In x (flat_map (lacked known ask) rows)
  all_from x gathered [] h = inl h
  all_from x gathered (row ∷ rows) h =
      elim (all_from x (with_decided known ask gathered row) rows h) [
        | inl i ↦ elim (step_from x gathered row.«module» (decided known ask row) i) [
          | inl l ↦ inl l
          | inr r ↦ inr
              (in_front _ r)
        ]
        | inr i ↦ inr (in_back (lacked known ask row) i)
      ]

  all_kept : (x : FileKey) (gathered : Gathered) (rows : List RequestRow) → In x (gathered_keys gathered)
      → In x (gathered_keys (fold (with_decided known ask) gathered rows))
  all_kept x gathered [] h = h
  all_kept x gathered (row ∷ rows) h =
      all_kept x (with_decided known ask gathered row) rows
      (step_kept x gathered row.«module» (decided known ask row) h)

  all_new : (x : FileKey) (gathered : Gathered) (rows : List RequestRow) → In x (flat_map (lacked known ask) rows)
      → In x (gathered_keys (fold (with_decided known ask) gathered rows))
  all_new x gathered [] h = elim h [ ]
  all_new x gathered (row ∷ rows) h =
      elim (in_either (lacked known ask row) _ h) [
        | inl i ↦ all_kept x (with_decided known ask gathered row) rows
            (step_new x gathered row.«module» (decided known ask row) i)
        | inr i ↦ all_new x (with_decided known ask gathered row) rows i
      ]

  all_some : (gathered : Gathered) (rows : List RequestRow) → AreSome gathered
      → AreSome (fold (with_decided known ask) gathered rows)
  all_some gathered [] h = h
  all_some gathered (row ∷ rows) h =
      all_some (with_decided known ask gathered row) rows (step_some gathered row.«module» (decided known ask row) h)

  -- the keys that the next choices lack are those of listings that are looked at and not known
  pub lacking_next : (x : FileKey) (rows : List RequestRow) → In x (answer_keys (next_by known ask rows))
      → In x (flat_map (decided_keys known ask) rows) × (known x ≡ None)
  lacking_next x rows h =
      elim (all_from x (Rows []) rows
      (subst (λ z. In x z) (answered_keys (fold (with_decided known ask) (Rows []) rows)) h)) [
        | inl none ↦ elim none [ ]
        | inr i ↦
            (let f : FlatMapped (lacked known ask) x rows = from_flat_map (lacked known ask) x rows i in
            let r : In x (decided_keys known ask f.one) × (known x ≡ None) =
            decided_lacks known ask f.one x (in_lacked known ask (decided known ask f.one) x f.inside) in
            (in_flat_map (decided_keys known ask) f.member r.0, r.1))
      ]

  pub next_lacking : (x : FileKey) (rows : List RequestRow) → In x (flat_map (decided_keys known ask) rows)
      → known x ≡ None → In x (answer_keys (next_by known ask rows))
  next_lacking x rows h n =
      let f : FlatMapped (decided_keys known ask) x rows = from_flat_map (decided_keys known ask) x rows h in
      let d : decided known ask f.one ≡ Lacks x = lacks_decided known ask f.one x f.inside n in
      subst (λ z. In x z) (sym (answered_keys (fold (with_decided known ask) (Rows []) rows)))
      (all_new x (Rows []) rows
      (in_flat_map (lacked known ask) f.member (subst (λ z. In x (lacked_in z)) (sym d) here)))

  pub next_some : (rows : List RequestRow) → HasSome (next_by known ask rows)
  next_some rows = some_answer (fold (with_decided known ask) (Rows []) rows) (all_some (Rows []) rows (omega arith))
