-- Laws of look-ups.
use Rattle.std.proofs.Common.{◌≡◌, ℕ, zero, suc, ◌+◌, ◌<◌, ◌≤◌, arith, Bool, true, false, cond, Option, None, Some, List, [], ◌∷◌, ◌++◌, length, refl, sym, ◌∙◌, ap, subst, true≢false, ◌⊎◌, inl, inr, length-append}
use Rattle.std.specs.Prelude.{slice_get, IsSome, replicate}
use Rattle.std.proofs.lemmas.Bool.{cases_lt}
use Rattle.std.proofs.lemmas.List.{get_or_append_left}
use Rattle.std.proofs.lemmas.Option.{slice_get-get_or}
use Rattle.std.proofs.Math.Seq.{get_or-append_seam}
use Rattle.res_base.specs.Builders.{key_of}
use Rattle.res_base.specs.Known.{Known, Grows}
use Rattle.res_base.specs.Paths.{pom_path_of}
use Rattle.res_base.specs.Plain.{is_plain_coord, is_plain_module}
use Rattle.res_base.specs.declared.coord.Coord.{Coord}
use Rattle.res_base.specs.declared.coord.Module.{Module}
use Rattle.res_base.specs.declared.key.Role.TheVariants as roles
use Rattle.res_base.specs.declared.pom.PomRecord.{PomRecord}
use Rattle.res_base.specs.declared.reading.Reading.{Reading}
use Rattle.res_base.specs.declared.reading.Reading.TheVariants as readings
use Rattle.res_base.specs.declared.reading.Reason.{Reason}
use Rattle.res_base.specs.declared.reading.Reason.TheVariants as reasons
use Rattle.project_lookup.specs.Listings.{no_listing, is_unknown, listing_at_key, listing_key, listing_of}
use Rattle.project_lookup.specs.Looks.{not_found, is_missing, Tried, project, refused, tried, or_later, at_repo, look_from, look_of, pom_key, reason_at, NoneBefore, IsLook}

-- one repository without the project
pub look_next :
    (known : Known) (path : List ℕ) (repo n left : ℕ) (why : List Reason) (reading : Reading) (reason : Reason)
    → n ≡ suc left → known (key_of repo roles.Pom path) ≡ Some reading → tried reading ≡ refused reason
    → look_from known path repo n why ≡ look_from known path (repo + 1) left (why ++ reason ∷ [])
look_next known path repo n left why reading reason e k t = rw (e, k, t) refl

pom_in : PomRecord → Tried → PomRecord
pom_in other (project pom) = pom
pom_in other (refused reason) = other

project_is : (reading : Reading) (pom : PomRecord) → tried reading ≡ project pom → reading ≡ readings.Pom pom
unfolding pom_in
project_is (readings.Pom own) pom e = ap readings.Pom (ap (pom_in pom) e)
project_is (readings.Listing versions) pom e = cc
project_is (readings.Stored len) pom e = cc
project_is (readings.NotReadable fault) pom e = cc
project_is readings.Absent pom e = cc
project_is (readings.Damaged damage) pom e = cc
project_is readings.TooLarge pom e = cc

-- the item after others
get_last : {X : Type 0} (xs : List X) (x : X) → slice_get (xs ++ x ∷ []) (length xs) ≡ Some x
get_last xs x = slice_get-get_or (xs ++ x ∷ []) (length xs) x (omega (arith, length-append xs (x ∷ []))) ∙ ap Some (get_or-append_seam xs x [] x)

get_before : {X : Type 0} (xs : List X) (x : X) (k : ℕ) → k < length xs → slice_get (xs ++ x ∷ []) k ≡ slice_get xs k
get_before xs x k within =
    slice_get-get_or (xs ++ x ∷ []) k x (omega (arith, within, length-append xs (x ∷ []))) ∙ ap Some (get_or_append_left xs (x ∷ []) x k within) ∙ sym (slice_get-get_or xs k x within)

module _ (known : Known) (repos : ℕ) (c : Coord) where
  -- what is known of the repositories before one, by their reasons
  record Before (repo : ℕ) (why : List Reason) : Type 0 where
    pub none : NoneBefore known c repo
    pub count : length why ≡ repo
    pub each : (earlier : ℕ) → earlier < repo → reason_at known c earlier ≡ slice_get why earlier

  before_next : (repo : ℕ) (why : List Reason) (reason : Reason) → Before repo why
      → reason_at known c repo ≡ Some reason → Before (repo + 1) (why ++ reason ∷ [])
  before_next repo why reason b here = record { none = none; count = length-append why (reason ∷ []) ∙ ap (λ n. n + 1) b.count; each = each }
    where
      none : NoneBefore known c (repo + 1)
      none earlier e = at (cases_lt earlier repo)
        where
          at : (earlier < repo) ⊎ (repo ≤ earlier) → IsSome (reason_at known c earlier)
          at (inl before) = b.none earlier before
          at (inr after) = let same : earlier ≡ repo = omega (arith, e) in rw (same, here) refl

      each : (earlier : ℕ) → earlier < repo + 1 → reason_at known c earlier ≡ slice_get (why ++ reason ∷ []) earlier
      each earlier e = at (cases_lt earlier repo)
        where
          at : (earlier < repo) ⊎ (repo ≤ earlier) → reason_at known c earlier ≡ slice_get (why ++ reason ∷ []) earlier
          at (inl before) = b.each earlier before ∙ sym (get_before why reason earlier (subst (λ n. earlier < n) (sym b.count) before))
          at (inr after) =
              let same : earlier ≡ length why = omega (arith, e, b.count) in
              let at_repo : earlier ≡ repo = omega (arith, e) in
              ap (reason_at known c) at_repo ∙ here ∙ sym (ap (slice_get (why ++ reason ∷ [])) same ∙ get_last why reason)

  look_is : (left repo : ℕ) (why : List Reason) → repo + left ≡ repos → Before repo why
      → IsLook known repos c (look_from known (pom_path_of c) repo left why)
  look_is zero repo why e b = let all : repo ≡ repos = omega (arith, e) in (b.count ∙ all, λ earlier within. b.each earlier (subst (λ n. earlier < n) (sym all) within))
  look_is (suc left) repo why e b = at (known (pom_key c repo)) refl (λ reason here. look_is left (repo + 1) (why ++ reason ∷ []) (omega (arith, e)) (before_next repo why reason b here))
    where
      by : (reading : Reading) (t : Tried) → tried reading ≡ t → known (pom_key c repo) ≡ Some reading
          → ((reason : Reason) → reason_at known c repo ≡ Some reason → IsLook known repos c (look_from known (pom_path_of c) (repo + 1) left (why ++ reason ∷ [])))
          → IsLook known repos c (or_later repo t (λ reason. look_from known (pom_path_of c) (repo + 1) left (why ++ reason ∷ [])))
      by reading (project pom) t k rest = (omega (arith, e), k ∙ ap Some (project_is reading pom t), b.none)
      by reading (refused reason) t k rest = rest reason (rw (k, t) refl)

      at : (r : Option Reading) → known (pom_key c repo) ≡ r
          → ((reason : Reason) → reason_at known c repo ≡ Some reason → IsLook known repos c (look_from known (pom_path_of c) (repo + 1) left (why ++ reason ∷ [])))
          → IsLook known repos c (at_repo (pom_key c repo) r (λ reason. look_from known (pom_path_of c) (repo + 1) left (why ++ reason ∷ [])))
      at None k rest = (repo, omega (arith, e), refl, k, b.none)
      at (Some reading) k rest = by reading (tried reading) refl k rest

  pub look_law : is_plain_coord c ≡ true → IsLook known repos c (look_of known repos c)
  look_law plain =
      rw plain (look_is repos 0 [] (omega arith) (record { none = λ earlier e. absurd (omega (arith, e)); count = refl; each = λ earlier e. absurd (omega (arith, e)) }))

module _ (before after : Known) (grows : Grows before after) where
  module _ (path : List ℕ) where
    from_grows : (left repo : ℕ) (why : List Reason) → is_missing (look_from before path repo left why) ≡ false
        → look_from after path repo left why ≡ look_from before path repo left why
    from_grows zero repo why answered = refl
    from_grows (suc left) repo why answered = at (before (key_of repo roles.Pom path)) refl answered (λ reason more. from_grows left (repo + 1) (why ++ reason ∷ []) more)
      where
        by : (t : Tried)
            → is_missing (or_later repo t (λ reason. look_from before path (repo + 1) left (why ++ reason ∷ []))) ≡ false
            → ((reason : Reason) → is_missing (look_from before path (repo + 1) left (why ++ reason ∷ [])) ≡ false → look_from after path (repo + 1) left (why ++ reason ∷ []) ≡ look_from before path (repo + 1) left (why ++ reason ∷ []))
            → or_later repo t (λ reason. look_from after path (repo + 1) left (why ++ reason ∷ [])) ≡ or_later repo t (λ reason. look_from before path (repo + 1) left (why ++ reason ∷ []))
        by (project pom) more rest = refl
        by (refused reason) more rest = rest reason more

        at : (r : Option Reading) → before (key_of repo roles.Pom path) ≡ r
            → is_missing (at_repo (key_of repo roles.Pom path) r (λ reason. look_from before path (repo + 1) left (why ++ reason ∷ []))) ≡ false
            → ((reason : Reason) → is_missing (look_from before path (repo + 1) left (why ++ reason ∷ [])) ≡ false → look_from after path (repo + 1) left (why ++ reason ∷ []) ≡ look_from before path (repo + 1) left (why ++ reason ∷ []))
            → at_repo (key_of repo roles.Pom path) (after (key_of repo roles.Pom path)) (λ reason. look_from after path (repo + 1) left (why ++ reason ∷ [])) ≡ at_repo (key_of repo roles.Pom path) r (λ reason. look_from before path (repo + 1) left (why ++ reason ∷ []))
        at None k more rest = absurd (true≢false more)
        at (Some reading) k more rest = rw (grows (key_of repo roles.Pom path) reading k) (by (tried reading) more rest)

  pub look_grows : (repos : ℕ) (c : Coord) → is_missing (look_of before repos c) ≡ false
      → look_of after repos c ≡ look_of before repos c
  look_grows repos c answered = at (is_plain_coord c) answered
    where
      at : (b : Bool)
          → is_missing (cond b (look_from before (pom_path_of c) 0 repos []) (not_found (replicate repos reasons.BadName))) ≡ false
          → cond b (look_from after (pom_path_of c) 0 repos []) (not_found (replicate repos reasons.BadName)) ≡ cond b (look_from before (pom_path_of c) 0 repos []) (not_found (replicate repos reasons.BadName))
      at true more = from_grows (pom_path_of c) repos 0 [] more
      at false more = refl

  pub listing_grows : (m : Module) (repo : ℕ) → is_unknown (listing_of before m repo) ≡ false
      → listing_of after m repo ≡ listing_of before m repo
  listing_grows m repo answered = at (is_plain_module m) answered
    where
      by : (r : Option Reading) → before (listing_key m repo) ≡ r
          → is_unknown (listing_at_key (listing_key m repo) r) ≡ false
          → listing_at_key (listing_key m repo) (after (listing_key m repo)) ≡ listing_at_key (listing_key m repo) r
      by None k more = absurd (true≢false more)
      by (Some reading) k more = ap (listing_at_key (listing_key m repo)) (grows (listing_key m repo) reading k)

      at : (b : Bool)
          → is_unknown (cond b (listing_at_key (listing_key m repo) (before (listing_key m repo))) no_listing) ≡ false
          → cond b (listing_at_key (listing_key m repo) (after (listing_key m repo))) no_listing ≡ cond b (listing_at_key (listing_key m repo) (before (listing_key m repo))) no_listing
      at true more = by (before (listing_key m repo)) refl more
      at false more = refl
