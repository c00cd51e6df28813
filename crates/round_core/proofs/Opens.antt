-- Rounds wait for the keys that they look at and that are not known, and for no others.
use Rattle.std.proofs.Common.{◌≡◌, ℕ, ◌+◌, ◌<◌, zero, suc, Bool, true, false, ◌||◌, Option, None, Some, ◌⊎◌, inl, inr, List, [], ◌∷◌, ◌++◌, length, refl, sym, ◌∙◌, ap, subst, arith}
use Rattle.std.specs.Prelude.{fold}
use Rattle.std.specs.List.{flat_map, list_any}
use Rattle.std.specs.Option.{option_map}
use Rattle.std.specs.declared.cmp.Ordering.TheVariants.{Equal}
use Rattle.live_walk.specs.Graphs.{In, here, there}
use Rattle.live_walk.proofs.Members.{FlatMapped, Passes, any_from_in, from_flat_map, in_back, in_either, in_flat_map, in_from_any, in_front}
use Rattle.pom_build.specs.Effectives.{effective_of}
use Rattle.pom_build.specs.NeededKeys.{needed_by}
use Rattle.pom_build.specs.Outcomes.{is_waiting}
use Rattle.pom_build.specs.declared.build.Build.{Build}
use Rattle.pom_build.specs.declared.build.Build.TheVariants as builds
use Rattle.res_base.specs.Known.{Known}
use Rattle.res_base.specs.Names.{key_cmp}
use Rattle.res_base.specs.declared.coord.Coord.{Coord}
use Rattle.res_base.specs.declared.key.FileKey.{FileKey}
use Rattle.resolution.specs.declared.ask.Ask.{Ask}
use Rattle.resolution.specs.declared.choices.ChoiceRow.{ChoiceRow}
use Rattle.resolution.specs.declared.choices.Choices.{Choices}
use Rattle.resolution.specs.declared.progress.Progress.{Progress}
use Rattle.resolution.specs.declared.progress.Progress.TheVariants.{Over, Waiting}
use Rattle.resolution.specs.declared.progress.RoundAnswer.{RoundAnswer}
use Rattle.resolution.specs.declared.progress.RoundAnswer.TheVariants.{Needs, Next}
use Rattle.round_core.specs.Choices.{choices_eq, chosen_coord}
use Rattle.round_core.specs.Edges.{last_ones, target_of}
use Rattle.round_core.specs.Needs.{at_end, is_open, keys_in, open_keys, waits_in, with_bom}
use Rattle.round_core.specs.Projects.{project_at, projects_of}
use Rattle.round_core.specs.Reaching.{reached_of}
use Rattle.round_core.specs.Reads.{is_over, later_reads, listing_reads, needs_in, pom_reads, reads_from, reads_of, round_reads, unless_settled}
use Rattle.round_core.specs.Requests.{request_rows}
use Rattle.round_core.specs.Rounds.{after_round, round_by, round_of, rounds_from, rounds_of, settled_or, walk_by, walk_of}
use Rattle.round_core.specs.Steering as steering
use Rattle.round_core.specs.Verdicts.{verdict_of}
use Rattle.round_core.specs.declared.edges.RowEdge.{RowEdge}
use Rattle.round_core.specs.declared.projects.ChosenProject.{ChosenProject}
use Rattle.round_core.proofs.Below.{Below}
use Rattle.round_core.proofs.Lacks.{HasSome, answer_keys, in_some, lacking_next, next_lacking, next_some}
use Rattle.round_core.proofs.Ends.{project_is}
use Rattle.round_core.proofs.Waits.{all_kept, from_all, open_read, read_open, to_all}

-- ---- whether a round is open

needed_waits : (build : Build) (x : FileKey) → In x (needed_by build) → is_waiting build ≡ true
needed_waits (builds.Built project) x h = elim h [ ]
needed_waits (builds.Needs keys) x h = refl
needed_waits (builds.NotFound why) x h = elim h [ ]
needed_waits (builds.Refused fault) x h = elim h [ ]

keys_wait : (project : Option ChosenProject) (x : FileKey) → In x (keys_in project) → waits_in project ≡ true
keys_wait None x h = elim h [ ]
keys_wait (Some project) x h = needed_waits project.build x h

or_true : (s t : Bool) → s ≡ true → (s || t) ≡ true
or_true s t h = rw h refl

or_later : (s t : Bool) → t ≡ true → (s || t) ≡ true
or_later true t h = refl
or_later false t h = h

module _ (same_key : (a b : FileKey) → key_cmp a b ≡ Equal → a ≡ b) (laws : Below) (known : Known) (ask : Ask) where
  module _ (chosen : List ChoiceRow) where
    -- where keys are needed, the round is open
    keys_open : (x : FileKey) → In x (open_keys (reached_of known ask chosen)) → is_open (reached_of known ask chosen)
        ≡ true
    keys_open x h =
        elim (from_all same_key (λ (e : RowEdge). keys_in (at_end (reached_of known ask chosen) e)) x with_boms
        (last_ones known ask chosen) h) [
          | inl i ↦
              elim (from_all same_key (λ (p : ChosenProject). keys_in (Some p)) x []
              (projects_of known ask.repos ask.boms) i) [
                | inl none ↦ elim none [ ]
                | inr b ↦
                    (let f : FlatMapped (λ (p : ChosenProject). keys_in (Some p)) x
                    (projects_of known ask.repos ask.boms) =
                    from_flat_map _ x (projects_of known ask.repos ask.boms) b in
                    or_true _ _
                    (any_from_in (λ (p : ChosenProject). waits_in (Some p)) f.member
                    (keys_wait (Some f.one) x f.inside)))
              ]
          | inr i ↦
              (let f : FlatMapped (λ (e : RowEdge). keys_in (at_end (reached_of known ask chosen) e)) x
              (last_ones known ask chosen) = from_flat_map _ x (last_ones known ask chosen) i in
              or_later _ _ (any_from_in (λ (e : RowEdge). waits_in (at_end (reached_of known ask chosen) e)) f.member
              (keys_wait (at_end (reached_of known ask chosen) f.one) x f.inside)))
        ]
      where
        with_boms : List FileKey
        with_boms = fold with_bom [] (projects_of known ask.repos ask.boms)

    pub record Waits : Type 0 where
      pub waits : (x : FileKey) → In x (answer_keys (round_of known ask chosen))
          → In x (round_reads known ask chosen) × (known x ≡ None)
      pub opens : (x : FileKey) → In x (round_reads known ask chosen) → known x ≡ None
          → In x (answer_keys (round_of known ask chosen))

    abbrev answer_at : Bool → RoundAnswer
    answer_at t = round_by known ask (walk_by t ask.roots (reached_of known ask chosen))

    abbrev listings_at : Bool → List FileKey
    listings_at t = listing_reads known ask (walk_by t ask.roots (reached_of known ask chosen))

    waits_at : (t : Bool) → is_open (reached_of known ask chosen) ≡ t → (x : FileKey) → In x (answer_keys (answer_at t))
        → In x (pom_reads known ask.repos (reached_of known ask chosen) ++ listings_at t) × (known x ≡ None)
    waits_at true e x h = let r : In x (pom_reads known ask.repos (reached_of known ask chosen)) × (known x ≡ None) =
        open_read laws known ask chosen same_key x h in (in_front _ r.0, r.1)
    waits_at false e x h = let r =
        lacking_next same_key known ask x
        (request_rows ask.roots (steering.steer ask.roots (reached_of known ask chosen)) (last_ones known ask chosen))
        h in (in_back (pom_reads known ask.repos (reached_of known ask chosen)) r.0, r.1)

    opens_at : (t : Bool) → is_open (reached_of known ask chosen) ≡ t → (x : FileKey)
        → In x (pom_reads known ask.repos (reached_of known ask chosen) ++ listings_at t) → known x ≡ None
        → In x (answer_keys (answer_at t))
    opens_at true e x h n =
        elim (in_either (pom_reads known ask.repos (reached_of known ask chosen)) [] h) [
          | inl p ↦ read_open laws known ask chosen same_key x p n
          | inr none ↦ elim none [ ]
        ]
    opens_at false e x h n =
        elim (in_either (pom_reads known ask.repos (reached_of known ask chosen)) (listings_at false) h) [
          | inl p ↦ absurd (let t : is_open (reached_of known ask chosen) ≡ true =
              keys_open x (read_open laws known ask chosen same_key x p n) in cc)
          | inr l ↦ next_lacking same_key known ask x
              (request_rows ask.roots (steering.steer ask.roots (reached_of known ask chosen))
              (last_ones known ask chosen)) l n
        ]

    pub round_waits : Waits
    round_waits =
        record {
          waits = waits_at (is_open (reached_of known ask chosen)) refl;
          opens =
              opens_at (is_open (reached_of known ask chosen)) refl;
        }

  -- ---- all rounds

  rounds_wait : (left done : ℕ) (chosen : List ChoiceRow) (x : FileKey)
      → In x (needs_in (rounds_from known ask left done chosen))
      → In x (reads_from known ask left chosen) × (known x ≡ None)
  rounds_wait zero done chosen x h = elim h [ ]
  rounds_wait (suc left) done chosen x h =
      by (λ later. rounds_wait left (done + 1) later x) (round_of known ask chosen) refl h
    where
      by : ((later : List ChoiceRow) → In x (needs_in (rounds_from known ask left (done + 1) later))
          → In x (reads_from known ask left later) × (known x ≡ None)) → (answer : RoundAnswer)
          → round_of known ask chosen ≡ answer
          → In x (needs_in (after_round answer done chosen (λ settled. Over (verdict_of known ask (done + 1) settled))
          (rounds_from known ask left (done + 1))))
          → In x (reads_from known ask (suc left) chosen) × (known x ≡ None)
      by further (Needs keys) e g =
          let r : In x (round_reads known ask chosen) × (known x ≡ None) =
          (round_waits chosen).waits x (subst (λ z. In x (answer_keys z)) (sym e) g) in
          (in_front _ r.0, r.1)
      by further (Next later) e g = on (choices_eq chosen later.rows) refl g
        where
          on : (t : Bool) → choices_eq chosen later.rows ≡ t
              → In x (needs_in
              (settled_or t chosen later.rows (λ settled. Over (verdict_of known ask (done + 1) settled))
              (rounds_from known ask left (done + 1))))
              → In x (reads_from known ask (suc left) chosen) × (known x ≡ None)
          on true same i = elim i [ ]
          on false apart i =
              let r : In x (reads_from known ask left later.rows) × (known x ≡ None) = further later.rows i in (
                in_back (round_reads known ask chosen)
                    (subst (λ a. In x (later_reads a chosen (reads_from known ask left))) (sym e)
                    (subst (λ t. In x (unless_settled t later.rows (reads_from known ask left))) (sym apart) r.0)),
                r.1,
              )

  rounds_open : (left done : ℕ) (chosen : List ChoiceRow) (x : FileKey) → In x (reads_from known ask left chosen)
      → known x ≡ None → In x (needs_in (rounds_from known ask left done chosen))
  rounds_open zero done chosen x h n = elim h [ ]
  rounds_open (suc left) done chosen x h n =
      elim (in_either (round_reads known ask chosen) _ h) [
        | inl i ↦ first (round_of known ask chosen) ((round_waits chosen).opens x i n)
        | inr i ↦ by (λ later j. rounds_open left (done + 1) later x j n) (round_of known ask chosen) i
      ]
    where
      behind : RoundAnswer → Progress
      behind answer =
          after_round answer done chosen (λ settled. Over (verdict_of known ask (done + 1) settled))
          (rounds_from known ask left (done + 1))

      first : (answer : RoundAnswer) → In x (answer_keys answer) → In x (needs_in (behind answer))
      first (Needs keys) i = i
      first (Next later) i = elim i [ ]

      by : ((later : List ChoiceRow) → In x (reads_from known ask left later)
          → In x (needs_in (rounds_from known ask left (done + 1) later))) → (answer : RoundAnswer)
          → In x (later_reads answer chosen (reads_from known ask left)) → In x (needs_in (behind answer))
      by further (Needs keys) i = elim i [ ]
      by further (Next later) i = on (choices_eq chosen later.rows) i
        where
          on : (t : Bool) → In x (unless_settled t later.rows (reads_from known ask left))
              → In x (needs_in
              (settled_or t chosen later.rows (λ settled. Over (verdict_of known ask (done + 1) settled))
              (rounds_from known ask left (done + 1))))
          on true j = elim j [ ]
          on false j = further later.rows j

  pub needs_read : (x : FileKey) → In x (needs_in (rounds_of known ask)) → In x (reads_of known ask) × (known x ≡ None)
  needs_read = rounds_wait ask.rounds 0 []

  pub reads_needed : (x : FileKey) → In x (reads_of known ask) → known x ≡ None → In x (needs_in (rounds_of known ask))
  reads_needed = rounds_open ask.rounds 0 []

  -- ---- keys that are needed are some

  first_in : (keys : List FileKey) → 0 < length keys → (x : FileKey) × In x keys
  first_in [] h = absurd (omega (arith, h))
  first_in (key ∷ keys) h = (key, here)

  some_at : (c : Coord) → is_waiting (effective_of known ask.repos c) ≡ true
      → (x : FileKey) × In x (needed_by (effective_of known ask.repos c))
  some_at c h = by (effective_of known ask.repos c) refl h
    where
      by : (build : Build) → effective_of known ask.repos c ≡ build → is_waiting build ≡ true
          → (x : FileKey) × In x (needed_by build)
      by (builds.Needs keys) e g = first_in keys (laws.some known ask.repos c keys e)
      by (builds.Built project) e g = absurd (cc)
      by (builds.NotFound why) e g = absurd (cc)
      by (builds.Refused fault) e g = absurd (cc)

  some_of : (c : Option Coord) → waits_in (option_map (project_at known ask.repos) c) ≡ true
      → (x : FileKey) × In x (keys_in (option_map (project_at known ask.repos) c))
  some_of None h = absurd (cc)
  some_of (Some c) h = some_at c h

  boms_some : (boms : List Coord)
      → list_any (λ (p : ChosenProject). waits_in (Some p)) (projects_of known ask.repos boms) ≡ true
      → (x : FileKey) × In x (flat_map (λ (p : ChosenProject). keys_in (Some p)) (projects_of known ask.repos boms))
  boms_some [] h = absurd (cc)
  boms_some (c ∷ boms) h = by (boms_some boms) (is_waiting (effective_of known ask.repos c)) refl h
    where
      by : (list_any (λ (p : ChosenProject). waits_in (Some p)) (projects_of known ask.repos boms) ≡ true
          → (x : FileKey)
          × In x (flat_map (λ (p : ChosenProject). keys_in (Some p)) (projects_of known ask.repos boms)))
          → (t : Bool) → is_waiting (effective_of known ask.repos c) ≡ t
          → (t || list_any (λ (p : ChosenProject). waits_in (Some p)) (projects_of known ask.repos boms)) ≡ true
          → (x : FileKey)
          × In x (flat_map (λ (p : ChosenProject). keys_in (Some p)) (projects_of known ask.repos (c ∷ boms)))
      by later true e g = let r : (x : FileKey) × In x (needed_by (effective_of known ask.repos c)) =
          some_at c e in (r.0, in_front _ r.1)
      by later false e g =
          let r : (x : FileKey)
          × In x (flat_map (λ (p : ChosenProject). keys_in (Some p)) (projects_of known ask.repos boms)) =
          later g in (r.0, in_back (needed_by (effective_of known ask.repos c)) r.1)

  open_some : (chosen : List ChoiceRow) → is_open (reached_of known ask chosen) ≡ true
      → (x : FileKey) × In x (open_keys (reached_of known ask chosen))
  open_some chosen h =
      by (list_any (λ (p : ChosenProject). waits_in (Some p)) (projects_of known ask.repos ask.boms)) refl h
    where
      by : (t : Bool) → list_any (λ (p : ChosenProject). waits_in (Some p)) (projects_of known ask.repos ask.boms) ≡ t
          → (t || list_any (λ (e : RowEdge). waits_in (at_end (reached_of known ask chosen) e))
          (last_ones known ask chosen)) ≡ true
          → (x : FileKey) × In x (open_keys (reached_of known ask chosen))
      by true e g =
          let r : (x : FileKey)
          × In x (flat_map (λ (p : ChosenProject). keys_in (Some p)) (projects_of known ask.repos ask.boms)) =
          boms_some ask.boms e in (
            r.0,
            all_kept same_key (λ (d : RowEdge). keys_in (at_end (reached_of known ask chosen) d)) r.0 _
                (last_ones known ask chosen)
                (to_all same_key (λ (p : ChosenProject). keys_in (Some p)) r.0 []
                (projects_of known ask.repos ask.boms) r.1),
          )
      by false e g =
          let p : Passes (λ (d : RowEdge). waits_in (at_end (reached_of known ask chosen) d))
          (last_ones known ask chosen) =
          in_from_any (λ (d : RowEdge). waits_in (at_end (reached_of known ask chosen) d))
          (last_ones known ask chosen) g in
          let at : at_end (reached_of known ask chosen) p.one
          ≡ option_map (project_at known ask.repos) (chosen_coord chosen (target_of p.one)) =
          project_is known ask chosen (target_of p.one) in
          let r : (x : FileKey)
          × In x (keys_in (option_map (project_at known ask.repos) (chosen_coord chosen (target_of p.one)))) =
          some_of (chosen_coord chosen (target_of p.one)) (subst (λ z. waits_in z ≡ true) at p.passes) in (
            r.0,
            to_all same_key (λ (d : RowEdge). keys_in (at_end (reached_of known ask chosen) d)) r.0 _
                (last_ones known ask chosen)
                (in_flat_map (λ (d : RowEdge). keys_in (at_end (reached_of known ask chosen) d)) p.member
                (subst (λ z. In r.0 (keys_in z)) (sym at) r.1)),
          )

  round_some : (chosen : List ChoiceRow) → HasSome (round_of known ask chosen)
  round_some chosen = by (is_open (reached_of known ask chosen)) refl
    where
      by : (t : Bool) → is_open (reached_of known ask chosen) ≡ t
          → HasSome (round_by known ask (walk_by t ask.roots (reached_of known ask chosen)))
      by true e = let r : (x : FileKey) × In x (open_keys (reached_of known ask chosen)) =
          open_some chosen e in in_some r.0 (open_keys (reached_of known ask chosen)) r.1
      by false e =
          next_some same_key known ask
          (request_rows ask.roots (steering.steer ask.roots (reached_of known ask chosen)) (last_ones known ask chosen))

  abbrev NeedSome : Progress → Type 0
  NeedSome (Waiting round choices needs) = 0 < length needs
  NeedSome (Over verdict) = 0 < 1

  rounds_from_some : (left done : ℕ) (chosen : List ChoiceRow) → NeedSome (rounds_from known ask left done chosen)
  rounds_from_some zero done chosen = omega arith
  rounds_from_some (suc left) done chosen =
      by (rounds_from_some left (done + 1)) (round_of known ask chosen) (round_some chosen)
    where
      by : ((later : List ChoiceRow) → NeedSome (rounds_from known ask left (done + 1) later)) → (answer : RoundAnswer)
          → HasSome answer
          → NeedSome (after_round answer done chosen (λ settled. Over (verdict_of known ask (done + 1) settled))
          (rounds_from known ask left (done + 1)))
      by further (Needs keys) h = h
      by further (Next later) h = on (choices_eq chosen later.rows)
        where
          on : (t : Bool)
              → NeedSome (settled_or t chosen later.rows (λ settled. Over (verdict_of known ask (done + 1) settled))
              (rounds_from known ask left (done + 1)))
          on true = omega arith
          on false = further later.rows

  pub rounds_some : (round : ℕ) (choices : Choices) (needs : List FileKey)
      → rounds_of known ask ≡ Waiting round choices needs → 0 < length needs
  rounds_some round choices needs h = subst (λ z. NeedSome z) h (rounds_from_some ask.rounds 0 [])

  -- where all that is looked at is known, the rounds are over
  pub known_over : ((x : FileKey) → In x (reads_of known ask) → known x ≡ None → ⊥) → is_over (rounds_of known ask)
      ≡ true
  known_over all = by (rounds_of known ask) refl
    where
      by : (progress : Progress) → rounds_of known ask ≡ progress → is_over progress ≡ true
      by (Over verdict) e = refl
      by (Waiting round choices needs) e =
          let r : (x : FileKey) × In x needs = first_in needs (rounds_some round choices needs e) in
          let n : In r.0 (reads_of known ask) × (known r.0 ≡ None) =
          needs_read r.0 (subst (λ z. In r.0 (needs_in z)) (sym e) r.1) in
          absurd (all r.0 n.0 n.1)

  pub over_known : (x : FileKey) → is_over (rounds_of known ask) ≡ true → In x (reads_of known ask) → known x ≡ None → ⊥
  over_known x over h n = by (rounds_of known ask) over (reads_needed x h n)
    where
      by : (progress : Progress) → is_over progress ≡ true → In x (needs_in progress) → ⊥
      by (Over verdict) o i = elim i [ ]
      by (Waiting round choices needs) o i = absurd (cc)
