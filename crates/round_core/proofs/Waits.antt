-- What a round waits for: the keys that it looks at and that are not known.
use Rattle.std.proofs.Common.{◌≡◌, ℕ, ◌+◌, ◌<◌, zero, suc, Bool, true, false, cond, ◌||◌, ◌&&◌, ◌⊎◌, inl, inr, Option, None, Some, List, [], ◌∷◌, ◌++◌, length, map, refl, sym, ◌∙◌, ap, subst, arith, get_or}
use Rattle.std.specs.Prelude.{◌↔◌, Contains, fold, nat_eq}
use Rattle.std.specs.BTreeSet.{insert_key}
use Rattle.std.specs.List.{flat_map, list_any}
use Rattle.std.specs.Option.{option_map}
use Rattle.std.specs.Ordering.{is_eq, match_ordering, nat_cmp, ordering_then}
use Rattle.std.specs.declared.cmp.Ordering.{Ordering}
use Rattle.std.specs.declared.cmp.Ordering.TheVariants.{Equal, Greater, Less}
use Rattle.interval_sets.specs.declared.interval.Interval.{Interval}
use Rattle.live_walk.specs.Graphs.{In, here, there}
use Rattle.live_walk.proofs.Members.{FlatMapped, from_flat_map, in_back, in_cons, in_either, in_flat_map, in_front}
use Rattle.pom_build.specs.Effectives.{effective_of}
use Rattle.pom_build.specs.NeededKeys.{IsOpen, needed_by}
use Rattle.pom_build.specs.Reads.{effective_keys}
use Rattle.project_lookup.specs.Listings.{listing_at_key, listing_in, listing_of, no_listing, unknown, versions}
use Rattle.reconcile_rules.specs.declared.request.Chosen.{Chosen}
use Rattle.reconcile_rules.specs.declared.request.Chosen.TheVariants as chosen
use Rattle.res_base.specs.Builders.{key_of}
use Rattle.res_base.specs.Known.{Known}
use Rattle.res_base.specs.Names.{key_cmp, key_eq}
use Rattle.res_base.specs.Paths.{listing_path_of}
use Rattle.res_base.specs.Plain.{is_plain_module}
use Rattle.res_base.specs.declared.coord.Coord.{Coord}
use Rattle.res_base.specs.declared.coord.Module.{Module}
use Rattle.res_base.specs.declared.key.FileKey.{FileKey}
use Rattle.res_base.specs.declared.key.Role.TheVariants as roles
use Rattle.res_base.specs.declared.reading.Reading.{Reading}
use Rattle.resolution.specs.declared.ask.Ask.{Ask}
use Rattle.resolution.specs.declared.choices.ChoiceRow.{ChoiceRow}
use Rattle.resolution.specs.declared.progress.RequestRow.{RequestRow}
use Rattle.resolution.specs.declared.progress.RoundAnswer.{RoundAnswer}
use Rattle.resolution.specs.declared.progress.RoundAnswer.TheVariants.{Needs, Next}
use Rattle.resolution.specs.declared.progress.Walk.{Walk}
use Rattle.resolution.specs.declared.progress.Walk.TheVariants as walks
use Rattle.round_core.specs.Choices.{chosen_coord}
use Rattle.round_core.specs.Decisions.{by_chosen, by_offer, chosen_for, decided}
use Rattle.round_core.specs.Edges.{last_ones, target_of}
use Rattle.round_core.specs.Listings.{offer_from, offer_in, or_later}
use Rattle.round_core.specs.Needs.{at_end, is_open, keys_in, open_keys, waits_in, with_bom, with_end, with_keys}
use Rattle.round_core.specs.Projects.{project_at, projects_of}
use Rattle.round_core.specs.Reaching.{reached_of}
use Rattle.round_core.specs.Reads.{behind_chosen, behind_offer, bom_keys, decided_keys, end_keys, listing_keys, offer_keys, offer_keys_from, pom_reads, project_keys}
use Rattle.round_core.specs.Rounds.{answer_by, next_by, with_decided, with_decision}
use Rattle.round_core.specs.declared.decide.Decision.{Decision}
use Rattle.round_core.specs.declared.decide.Decision.TheVariants.{Lacks, Made}
use Rattle.round_core.specs.declared.edges.RowEdge.{RowEdge}
use Rattle.round_core.specs.declared.listings.Offer.{Offer}
use Rattle.round_core.specs.declared.listings.Offer.TheVariants.{Lacking, Versions}
use Rattle.round_core.specs.declared.one_round.Gathered.{Gathered}
use Rattle.round_core.specs.declared.one_round.Gathered.TheVariants.{Keys, Rows}
use Rattle.round_core.specs.declared.projects.ChosenProject.{ChosenProject}
use Rattle.round_core.proofs.Below.{Below}
use Rattle.round_core.proofs.Ends.{project_is}

-- ---- members by place

pub contains_in : (x : FileKey) (xs : List FileKey) → Contains xs x → In x xs
contains_in x xs h = at xs h.0 h.1 h.2
  where
    at : (ys : List FileKey) (i : ℕ) → i < length ys → get_or ys i x ≡ x → In x ys
    at [] i l e = absurd (omega (arith, l))
    at (y ∷ ys) zero l e = subst (λ z. In z (y ∷ ys)) e here
    at (y ∷ ys) (suc i) l e = there (at ys i (omega (arith, l)) e)

pub in_contains : (x : FileKey) (xs : List FileKey) → In x xs → Contains xs x
in_contains x [] h = elim h [ ]
in_contains x (y ∷ ys) here = (0, omega arith, refl)
in_contains x (y ∷ ys) (there h) = let r : Contains ys x =
    in_contains x ys h in (suc r.0, (let l : r.0 < length ys = r.1 in omega (arith, l)), r.2)

-- ---- keys in order

then_eq : (a b : Ordering) → is_eq (ordering_then a b) ≡ (is_eq a && is_eq b)
then_eq Less b = refl
then_eq Equal b = refl
then_eq Greater b = refl

module _ (same_key : (a b : FileKey) → key_cmp a b ≡ Equal → a ≡ b) where
  pub in_key : (x k : FileKey) (keys : List FileKey) → In x (insert_key key_cmp keys k) → (x ≡ k) ⊎ In x keys
  in_key x k [] h = elim (in_cons x k [] h) [ inl q ↦ inl q | inr i ↦ elim i [ ] ]
  in_key x k (y ∷ keys) h = by (in_key x k keys) (key_cmp k y) h
    where
      by : (In x (insert_key key_cmp keys k) → (x ≡ k) ⊎ In x keys) → (o : Ordering)
          → In x (match_ordering o (k ∷ y ∷ keys) (y ∷ keys) (y ∷ insert_key key_cmp keys k))
          → (x ≡ k) ⊎ In x (y ∷ keys)
      by later Less i = in_cons x k (y ∷ keys) i
      by later Equal i = inr i
      by later Greater i =
          elim (in_cons x y (insert_key key_cmp keys k) i) [
            | inl q ↦ inr (subst (λ z. In z (y ∷ keys)) (sym q) here)
            | inr j ↦ elim (later j) [ inl q ↦ inl q | inr l ↦ inr (there l) ]
          ]

  pub key_in : (k : FileKey) (keys : List FileKey) → In k (insert_key key_cmp keys k)
  key_in k [] = here
  key_in k (y ∷ keys) = by (key_in k keys) (key_cmp k y) refl
    where
      by : In k (insert_key key_cmp keys k) → (o : Ordering) → key_cmp k y ≡ o
          → In k (match_ordering o (k ∷ y ∷ keys) (y ∷ keys) (y ∷ insert_key key_cmp keys k))
      by later Less e = here
      by later Equal e = subst (λ z. In k (z ∷ keys)) (same_key k y e) here
      by later Greater e = there later

  pub others_in : (x k : FileKey) (keys : List FileKey) → In x keys → In x (insert_key key_cmp keys k)
  others_in x k [] h = elim h [ ]
  others_in x k (y ∷ keys) h = by (others_in x k keys) (key_cmp k y) h
    where
      by : (In x keys → In x (insert_key key_cmp keys k)) → (o : Ordering) → In x (y ∷ keys)
          → In x (match_ordering o (k ∷ y ∷ keys) (y ∷ keys) (y ∷ insert_key key_cmp keys k))
      by later Less i = there i
      by later Equal i = i
      by later Greater i =
          elim (in_cons x y keys i) [
            | inl q ↦ subst (λ z. In z (y ∷ insert_key key_cmp keys k))
                (sym q) here
            | inr j ↦ there (later j)
          ]

  from_keys : (x : FileKey) (keys more : List FileKey) → In x (with_keys keys more) → In x keys ⊎ In x more
  from_keys x keys [] h = inl h
  from_keys x keys (k ∷ more) h =
      elim (from_keys x (insert_key key_cmp keys k) more h) [
        | inl i ↦ elim (in_key x k keys i) [ inl q ↦ inr (subst (λ z. In z (k ∷ more)) (sym q) here) | inr l ↦ inl l ]
        | inr i ↦ inr (there i)
      ]

  keys_kept : (x : FileKey) (keys more : List FileKey) → In x keys → In x (with_keys keys more)
  keys_kept x keys [] h = h
  keys_kept x keys (k ∷ more) h = keys_kept x (insert_key key_cmp keys k) more (others_in x k keys h)

  to_keys : (x : FileKey) (keys more : List FileKey) → In x more → In x (with_keys keys more)
  to_keys x keys [] h = elim h [ ]
  to_keys x keys (k ∷ more) here = keys_kept x (insert_key key_cmp keys k) more (key_in k keys)
  to_keys x keys (k ∷ more) (there h) = to_keys x (insert_key key_cmp keys k) more h

  module _ {A : Type 0} (f : A → List FileKey) where
    pub from_all : (x : FileKey) (keys : List FileKey) (xs : List A) → In x (fold (λ ks a. with_keys ks (f a)) keys xs)
        → In x keys ⊎ In x (flat_map f xs)
    from_all x keys [] h = inl h
    from_all x keys (a ∷ xs) h =
        elim (from_all x (with_keys keys (f a)) xs h) [
          | inl i ↦ elim (from_keys x keys (f a) i) [ inl l ↦ inl l | inr r ↦ inr (in_front (flat_map f xs) r) ]
          | inr i ↦ inr (in_back (f a) i)
        ]

    pub all_kept : (x : FileKey) (keys : List FileKey) (xs : List A) → In x keys
        → In x (fold (λ ks a. with_keys ks (f a)) keys xs)
    all_kept x keys [] h = h
    all_kept x keys (a ∷ xs) h = all_kept x (with_keys keys (f a)) xs (keys_kept x keys (f a) h)

    pub to_all : (x : FileKey) (keys : List FileKey) (xs : List A) → In x (flat_map f xs)
        → In x (fold (λ ks a. with_keys ks (f a)) keys xs)
    to_all x keys [] h = elim h [ ]
    to_all x keys (a ∷ xs) h =
        elim (in_either (f a) (flat_map f xs) h) [
          | inl i ↦ all_kept x (with_keys keys (f a)) xs (to_keys x keys (f a) i)
          | inr i ↦ to_all x (with_keys keys (f a)) xs i
        ]

-- ---- projects

module _ (laws : Below) (known : Known) (ask : Ask) where
  -- the keys that a project waits for are those it looks at and that are not known
  waited : (c : Option Coord) (x : FileKey) → In x (keys_in (option_map (project_at known ask.repos) c))
      → In x (project_keys known ask.repos (option_map (project_at known ask.repos) c)) × (known x ≡ None)
  waited None x h = elim h [ ]
  waited (Some c) x h =
      let o : IsOpen known ask.repos c x =
      (laws.needed known ask.repos c x).0 (in_contains x (needed_by (effective_of known ask.repos c)) h) in
      (contains_in x (effective_keys known ask.repos c) o.0, o.1)

  to_waited : (c : Option Coord) (x : FileKey)
      → In x (project_keys known ask.repos (option_map (project_at known ask.repos) c)) → known x ≡ None
      → In x (keys_in (option_map (project_at known ask.repos) c))
  to_waited None x h e = elim h [ ]
  to_waited (Some c) x h e =
      contains_in x (needed_by (effective_of known ask.repos c))
      ((laws.needed known ask.repos c x).1 (in_contains x (effective_keys known ask.repos c) h, e))

  module _ (chosen : List ChoiceRow) where
    end_waited : (e : RowEdge) (x : FileKey) → In x (keys_in (at_end (reached_of known ask chosen) e))
        → In x (end_keys known ask.repos (reached_of known ask chosen) e) × (known x ≡ None)
    end_waited e x h =
        let q = project_is known ask chosen (target_of e) in
        let r = waited (chosen_coord chosen (target_of e)) x (subst (λ z. In x (keys_in z)) q h) in
        (subst (λ z. In x (project_keys known ask.repos z)) (sym q) r.0, r.1)

    to_end : (e : RowEdge) (x : FileKey) → In x (end_keys known ask.repos (reached_of known ask chosen) e)
        → known x ≡ None → In x (keys_in (at_end (reached_of known ask chosen) e))
    to_end e x h n =
        let q = project_is known ask chosen (target_of e) in
        subst (λ z. In x (keys_in z)) (sym q)
        (to_waited (chosen_coord chosen (target_of e)) x (subst (λ z. In x (project_keys known ask.repos z)) q h) n)

    boms_waited : (boms : List Coord) (x : FileKey)
        → In x (flat_map (λ (p : ChosenProject). keys_in (Some p)) (projects_of known ask.repos boms))
        → In x (flat_map (bom_keys known ask.repos) (projects_of known ask.repos boms)) × (known x ≡ None)
    boms_waited [] x h = elim h [ ]
    boms_waited (c ∷ boms) x h =
        elim (in_either (keys_in (Some (project_at known ask.repos c))) _ h) [
          | inl i ↦ (let r = waited (Some c) x i in (in_front _ r.0, r.1))
          | inr i ↦ (let r = boms_waited boms x i in (in_back (effective_keys known ask.repos c) r.0, r.1))
        ]

    to_boms : (boms : List Coord) (x : FileKey)
        → In x (flat_map (bom_keys known ask.repos) (projects_of known ask.repos boms)) → known x ≡ None
        → In x (flat_map (λ (p : ChosenProject). keys_in (Some p)) (projects_of known ask.repos boms))
    to_boms [] x h n = elim h [ ]
    to_boms (c ∷ boms) x h n =
        elim (in_either (effective_keys known ask.repos c) _ h) [
          | inl i ↦ in_front _ (to_waited (Some c) x i n)
          | inr i ↦ in_back (keys_in (Some (project_at known ask.repos c))) (to_boms boms x i n)
        ]

    module _ (same_key : (a b : FileKey) → key_cmp a b ≡ Equal → a ≡ b) where
      pub open_read : (x : FileKey) → In x (open_keys (reached_of known ask chosen))
          → In x (pom_reads known ask.repos (reached_of known ask chosen)) × (known x ≡ None)
      open_read x h =
          elim (from_all same_key (λ (e : RowEdge). keys_in (at_end (reached_of known ask chosen) e)) x _
          (last_ones known ask chosen) h) [
            | inl i ↦
                elim (from_all same_key (λ (p : ChosenProject). keys_in (Some p)) x []
                (projects_of known ask.repos ask.boms) i) [
                  | inl none ↦ elim none [ ]
                  | inr b ↦ (let r = boms_waited ask.boms x b in (in_front _ r.0, r.1))
                ]
            | inr i ↦
                (let f : FlatMapped (λ (e : RowEdge). keys_in (at_end (reached_of known ask chosen) e)) x
                (last_ones known ask chosen) = from_flat_map _ x (last_ones known ask chosen) i in
                let r = end_waited f.one x f.inside in (
                  in_back (flat_map (bom_keys known ask.repos) (projects_of known ask.repos ask.boms))
                      (in_flat_map (end_keys known ask.repos (reached_of known ask chosen)) f.member r.0),
                  r.1,
                ))
          ]

      pub read_open : (x : FileKey) → In x (pom_reads known ask.repos (reached_of known ask chosen)) → known x ≡ None
          → In x (open_keys (reached_of known ask chosen))
      read_open x h n =
          elim (in_either (flat_map (bom_keys known ask.repos) (projects_of known ask.repos ask.boms)) _ h) [
            | inl b ↦
                all_kept same_key (λ (e : RowEdge). keys_in (at_end (reached_of known ask chosen) e)) x _
                (last_ones known ask chosen)
                (to_all same_key (λ (p : ChosenProject). keys_in (Some p)) x [] (projects_of known ask.repos ask.boms)
                (to_boms ask.boms x b n))
            | inr i ↦
                (let f : FlatMapped (end_keys known ask.repos (reached_of known ask chosen)) x
                (last_ones known ask chosen) = from_flat_map _ x (last_ones known ask chosen) i in
                to_all same_key (λ (e : RowEdge). keys_in (at_end (reached_of known ask chosen) e)) x _
                (last_ones known ask chosen)
                (in_flat_map (λ (e : RowEdge). keys_in (at_end (reached_of known ask chosen) e)) f.member
                (to_end f.one x f.inside n)))
          ]
