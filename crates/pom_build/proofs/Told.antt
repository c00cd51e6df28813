-- What an answer tells: which keys it needs, and how many reasons it has.
use Rattle.std.proofs.Common.{◌≡◌, ℕ, zero, suc, ◌+◌, ◌<◌, ◌⊎◌, inl, inr, ⊎_elim, Bool, true, false, cond, not, Option, None, Some, List, [], ◌∷◌, ◌++◌, length, filter, fold, refl, sym, ◌∙◌, ◌&&◌, nat_eq, ap, subst, arith, rules, append_assoc, append-nil, length-append, true≢false}
use Rattle.std.specs.Prelude.{Contains, ◌↔◌, replicate, if◌then◌else◌}
use Rattle.std.specs.Cmp.{IsEquivalence}
use Rattle.std.specs.Cmp.Lexicographic.{same_text}
use Rattle.std.specs.Cmp.Rules.{comparing}
use Rattle.std.specs.List.{IsDistinct, list_any}
use Rattle.std.proofs.lemmas.List.Elements.{Contains-append_left, Contains-append_right, Contains-append_cases, Contains-push, Contains-push_cases}
use Rattle.std.proofs.lemmas.Map.Keys.{IsDistinct-push}
use Rattle.std.proofs.lemmas.List.{length-replicate}
use Rattle.std.proofs.lemmas.Map.Views.{Contains-from_any}
use Rattle.res_base.specs.Builders.{key_of}
use Rattle.res_base.specs.Known.{Known}
use Rattle.std.proofs.lemmas.Bool.{eqb-true}
use Rattle.res_base.specs.Names.{key_eq, role_eq, text_eq}
use Rattle.res_base.specs.Paths.{pom_path_of}
use Rattle.res_base.specs.Plain.{is_plain_coord}
use Rattle.res_base.specs.declared.coord.Coord.{Coord}
use Rattle.res_base.specs.declared.key.FileKey.{FileKey}
use Rattle.res_base.specs.declared.key.Role.{Role}
use Rattle.res_base.specs.declared.key.Role.TheVariants as roles
use Rattle.res_base.specs.declared.pom.DepRecord.{DepRecord}
use Rattle.res_base.specs.declared.pom.PomRecord.{PomRecord}
use Rattle.res_base.specs.declared.reading.Reading.{Reading}
use Rattle.res_base.specs.declared.reading.Reason.{Reason}
use Rattle.res_base.specs.declared.reading.Reason.TheVariants as reasons
use Rattle.project_lookup.specs.Looks.{Looked, found, missing, not_found, Tried, project, refused, tried, or_later, at_repo, look_from, look_of, pom_key}
use Rattle.pom_build.specs.Effectives.{effective_in, effective_of}
use Rattle.pom_build.specs.Imports.{import_coord, is_import, import_all, imported, managed_rows, managed_with, managed_from, merged, past_chain, with_key}
use Rattle.pom_build.specs.Lines.{is_among, is_on, with_parent, on_parent, on_look, climbed, line_from, past_limit, started, line_of}
use Rattle.pom_build.specs.NeededKeys.{IsOpen, IsPomKey, needed_by}
use Rattle.pom_build.specs.Outcomes.{and_then, build_of, needs, unless_met}
use Rattle.pom_build.specs.declared.build.Build.TheVariants as builds
use Rattle.pom_build.specs.Projects.{project_of}
use Rattle.pom_build.specs.Reads.{behind_tried, behind_reading, keys_from, look_keys, behind_look, of_next, unless_seen, parent_keys, line_keys, keys_of_all, import_keys, managed_keys, effective_keys}
use Rattle.pom_build.specs.declared.build.BuildFault.{BuildFault}
use Rattle.pom_build.specs.declared.build.BuildFault.TheVariants.{ParentCycle, ImportCycle, TooDeep, LineAbsent}
use Rattle.pom_build.specs.declared.build.Effective.{Effective}
use Rattle.pom_build.specs.declared.line.Line.{Line}
use Rattle.pom_build.specs.declared.outcome.Outcome.{Outcome}
use Rattle.pom_build.specs.declared.outcome.Outcome.TheVariants.{Built, Needs, NotFound, Refused}
use Rattle.pom_build.proofs.Members.{none, first, later, only, first_or_later}

-- keys that are equal are one

both : (a b : Bool) → (a && b) ≡ true → (a ≡ true) × (b ≡ true)
both true b e = (refl, e)
both false b e = absurd (true≢false (sym e))

same_role : (a b : Role) → role_eq a b ≡ true → a ≡ b
same_role roles.Pom roles.Pom e = refl
same_role roles.Pom roles.Listing e = absurd (true≢false (sym e))
same_role roles.Pom roles.Artifact e = absurd (true≢false (sym e))
same_role roles.Listing roles.Pom e = absurd (true≢false (sym e))
same_role roles.Listing roles.Listing e = refl
same_role roles.Listing roles.Artifact e = absurd (true≢false (sym e))
same_role roles.Artifact roles.Pom e = absurd (true≢false (sym e))
same_role roles.Artifact roles.Listing e = absurd (true≢false (sym e))
same_role roles.Artifact roles.Artifact e = refl

pub same_key : (a b : FileKey) → key_eq a b ≡ true → a ≡ b
same_key a b e =
    let parts = both (nat_eq a.repo b.repo && text_eq a.path b.path) (role_eq a.role b.role) e in
    let firsts = both (nat_eq a.repo b.repo) (text_eq a.path b.path) parts.0 in
    let repo : a.repo ≡ b.repo = eqb-true a.repo b.repo firsts.0 in
    let path : a.path ≡ b.path = same_text a.path b.path (sym firsts.1) in
    let role : a.role ≡ b.role = same_role a.role b.role parts.1 in
    ap (λ n. key_of n a.role a.path) repo ∙ ap (λ one. key_of b.repo one a.path) role ∙ ap (key_of b.repo b.role) path

pub equal_keys : IsEquivalence key_eq
equal_keys = search (comparing, rules)

-- keys put one by one, each once

in_with_key : (keys : List FileKey) (key one : FileKey) → Contains keys one → Contains (with_key keys key) one
in_with_key keys key one h = at (list_any (key_eq key) keys)
  where
    at : (b : Bool) → Contains (cond b keys (keys ++ key ∷ [])) one
    at true = h
    at false = Contains-append_left keys (key ∷ []) one h

itself_with_key : (keys : List FileKey) (key : FileKey) → Contains (with_key keys key) key
itself_with_key keys key = at (list_any (key_eq key) keys) refl
  where
    at : (b : Bool) → list_any (key_eq key) keys ≡ b → Contains (cond b keys (keys ++ key ∷ [])) key
    at true e = Contains-from_any same_key key keys e
    at false e = Contains-push keys key

from_with_key : (keys : List FileKey) (key one : FileKey) → Contains (with_key keys key) one → Contains keys one ⊎ (key ≡ one)
from_with_key keys key one h = at (list_any (key_eq key) keys) h
  where
    at : (b : Bool) → Contains (cond b keys (keys ++ key ∷ [])) one → Contains keys one ⊎ (key ≡ one)
    at true h = inl h
    at false h = Contains-push_cases keys key one h

distinct_with_key : (keys : List FileKey) (key : FileKey) → IsDistinct key_eq keys → IsDistinct key_eq (with_key keys key)
distinct_with_key keys key d = at (list_any (key_eq key) keys) refl
  where
    at : (b : Bool) → list_any (key_eq key) keys ≡ b → IsDistinct key_eq (cond b keys (keys ++ key ∷ []))
    at true e = d
    at false e = IsDistinct-push equal_keys keys key d e

pub before_fold : (keys more : List FileKey) (one : FileKey) → Contains keys one → Contains (fold with_key keys more) one
before_fold keys [] one h = h
before_fold keys (key ∷ more) one h = before_fold (with_key keys key) more one (in_with_key keys key one h)

pub in_fold : (keys more : List FileKey) (one : FileKey) → Contains more one → Contains (fold with_key keys more) one
in_fold keys [] one h = absurd (none one h)
in_fold keys (key ∷ more) one h =
    ⊎_elim (λ is. before_fold (with_key keys key) more one (subst (Contains (with_key keys key)) is (itself_with_key keys key)))
    (λ there. in_fold (with_key keys key) more one there) (first_or_later key more one h)

from_fold : (keys more : List FileKey) (one : FileKey) → Contains (fold with_key keys more) one → Contains keys one ⊎ Contains more one
from_fold keys [] one h = inl h
from_fold keys (key ∷ more) one h =
    ⊎_elim (λ here. ⊎_elim (λ before. inl before) (λ is. inr (subst (Contains (key ∷ more)) is (first key more))) (from_with_key keys key one here))
    (λ there. inr (later key more one there)) (from_fold (with_key keys key) more one h)

distinct_fold : (keys more : List FileKey) → IsDistinct key_eq keys → IsDistinct key_eq (fold with_key keys more)
distinct_fold keys [] d = d
distinct_fold keys (key ∷ more) d = distinct_fold (with_key keys key) more (distinct_with_key keys key d)

no_keys : IsDistinct key_eq []
unfolding IsDistinct
no_keys = tt

one_key : (key : FileKey) → IsDistinct key_eq (key ∷ [])
one_key key = IsDistinct-push equal_keys [] key no_keys refl

some_of : (keys : List FileKey) (key : FileKey) → Contains keys key → 0 < length keys
some_of keys key h = omega (arith, h.1)

-- what is said of a part, where these keys were looked at

abbrev pub HasReasons : ℕ → BuildFault → Type 0
HasReasons repos (ParentCycle path) = Unit {0}
HasReasons repos (ImportCycle path) = Unit {0}
HasReasons repos (TooDeep path) = Unit {0}
HasReasons repos (LineAbsent c why) = length why ≡ repos

abbrev pub IsSound : {A : Type 0} → ℕ → Outcome A → Type 0
IsSound repos (Built part) = Unit {0}
IsSound repos (Needs keys) = IsDistinct key_eq keys × (0 < length keys)
IsSound repos (NotFound why) = length why ≡ repos
IsSound repos (Refused fault) = HasReasons repos fault

pub record IsTold (known : Known) (repos : ℕ) {A : Type 0} (looked : List FileKey) (u : Outcome A) : Type 0 where
  pub open_key : (key : FileKey) → Contains looked key → known key ≡ None → Contains (needs u) key
  pub needed : (key : FileKey) → Contains (needs u) key → Contains looked key × (known key ≡ None)
  pub poms : (key : FileKey) → Contains looked key → IsPomKey repos key
  pub sound : IsSound repos u

some_is_no : {A : Type 0} {a : A} → None ≡ Some a → ⊥
some_is_no e = cc

module _ (known : Known) (repos : ℕ) where
  -- where nothing is looked at, nothing is needed
  told_nothing : {A : Type 0} (u : Outcome A) → needs u ≡ [] → IsSound repos u → IsTold known repos [] u
  told_nothing u e sound =
      record {
        open_key = λ key h n. absurd (none key h);
        needed = λ key h. absurd (none key (subst (λ keys. Contains keys key) e h));
        poms = λ key h. absurd (none key h);
        sound = sound;
      }

  -- what goes on from a part without needs
  told_then : {A B : Type 0} (looked more : List FileKey) (u : Outcome A) (v : Outcome B) → needs u ≡ [] → IsTold known repos looked u → IsTold known repos more v → IsTold known repos (looked ++ more) v
  told_then looked more u v e h k =
      record {
        open_key = λ key m n. ⊎_elim (λ here. absurd (none key (subst (λ keys. Contains keys key) e (h.open_key key here n)))) (λ there. k.open_key key there n) (Contains-append_cases looked more key m);
        needed = λ key m. let there = k.needed key m in (Contains-append_right looked more key there.0, there.1);
        poms = λ key m. ⊎_elim (h.poms key) (k.poms key) (Contains-append_cases looked more key m);
        sound = k.sound;
      }

  -- what ends with the needs of a part
  told_end : {A B : Type 0} (looked : List FileKey) (u : Outcome A) (v : Outcome B) → needs v ≡ needs u → IsSound repos v → IsTold known repos looked u → IsTold known repos (looked ++ []) v
  told_end looked u v e sound h =
      subst (λ keys. IsTold known repos keys v) (sym (append-nil looked))
      (record {
        open_key = λ key m n. subst (λ keys. Contains keys key) (sym e) (h.open_key key m n);
        needed = λ key m. h.needed key (subst (λ keys. Contains keys key) e m);
        poms = h.poms;
        sound = sound;
      })

  -- look-ups

  abbrev outcome_of : Looked → Outcome (ℕ × PomRecord)
  outcome_of (found repo pom) = Built (repo, pom)
  outcome_of (missing key) = Needs (key ∷ [])
  outcome_of (not_found why) = NotFound why

  module _ (c : Coord) (plain : is_plain_coord c ≡ true) where
    is_pom_key : (repo : ℕ) → repo < repos → IsPomKey repos (pom_key c repo)
    is_pom_key repo lt = record { coord = c; repo = repo; plain = plain; listed = lt; is = refl }

    told_tried : (repo : ℕ) → repo < repos → (reading : Reading) → known (pom_key c repo) ≡ Some reading → (t : Tried) (more : List FileKey) (k : Reason → Looked)
        → ((why : Reason) → IsTold known repos more (outcome_of (k why)))
        → IsTold known repos (pom_key c repo ∷ behind_tried t more) (outcome_of (or_later repo t k))
    told_tried repo lt reading e t more k ih = told_then (pom_key c repo ∷ []) (behind_tried t more) (Built repo) (outcome_of (or_later repo t k)) refl here (rest t)
      where
        here : IsTold known repos (pom_key c repo ∷ []) (Built repo)
        here =
            record {
              open_key = λ key m n. let same : known key ≡ Some reading = subst (λ one. known one ≡ Some reading) (only (pom_key c repo) key m) e in absurd (some_is_no (sym n ∙ same));
              needed = λ key m. absurd (none key m);
              poms = λ key m. subst (IsPomKey repos) (only (pom_key c repo) key m) (is_pom_key repo lt);
              sound = tt;
            }

        rest : (t : Tried) → IsTold known repos (behind_tried t more) (outcome_of (or_later repo t k))
        rest (project pom) = told_nothing (Built (repo, pom)) refl tt
        rest (refused why) = ih why

    told_reading : (repo : ℕ) → repo < repos → (reading : Option Reading) → known (pom_key c repo) ≡ reading → (more : List FileKey) (k : Reason → Looked)
        → ((why : Reason) → IsTold known repos more (outcome_of (k why)))
        → IsTold known repos (pom_key c repo ∷ behind_reading reading more) (outcome_of (at_repo (pom_key c repo) reading k))
    told_reading repo lt None e more k ih =
        record {
          open_key = λ key m n. m;
          needed = λ key m. (m, subst (λ one. known one ≡ None) (only (pom_key c repo) key m) e);
          poms = λ key m. subst (IsPomKey repos) (only (pom_key c repo) key m) (is_pom_key repo lt);
          sound = (one_key (pom_key c repo), omega arith);
        }
    told_reading repo lt (Some reading) e more k ih = told_tried repo lt reading e (tried reading) more k ih

    told_from : (left repo : ℕ) (why : List Reason) → repo + left ≡ repos → length why ≡ repo → IsTold known repos (keys_from known (pom_path_of c) repo left) (outcome_of (look_from known (pom_path_of c) repo left why))
    told_from zero repo why e len = told_nothing (NotFound why) refl (len ∙ omega (arith, e))
    told_from (suc left) repo why e len =
        told_reading repo (omega (arith, e)) (known (pom_key c repo)) refl (keys_from known (pom_path_of c) (repo + 1) left) (λ reason. look_from known (pom_path_of c) (repo + 1) left (why ++ reason ∷ []))
        (λ reason. told_from left (repo + 1) (why ++ reason ∷ []) (omega (arith, e)) (length-append why (reason ∷ []) ∙ ap (λ n. n + 1) len))

  told_look : (c : Coord) → IsTold known repos (look_keys known repos c) (outcome_of (look_of known repos c))
  told_look c = at (is_plain_coord c) refl
    where
      at : (b : Bool) → is_plain_coord c ≡ b → IsTold known repos (cond b (keys_from known (pom_path_of c) 0 repos) []) (outcome_of (cond b (look_from known (pom_path_of c) 0 repos []) (not_found (replicate repos reasons.BadName))))
      at true plain = told_from c plain repos 0 [] (omega arith) refl
      at false plain = told_nothing (NotFound (replicate repos reasons.BadName)) refl (length-replicate repos reasons.BadName)

  -- lines

  told_started : (u : Looked) (c : Coord) (looked : List FileKey) (keys : ℕ → PomRecord → List FileKey) (k : Line → Option Coord → Outcome Line)
      → ((repo : ℕ) (pom : PomRecord) → IsTold known repos (keys repo pom) (k (record { own = project_of c repo pom; parents = [] }) pom.parent))
      → IsTold known repos looked (outcome_of u) → IsTold known repos (looked ++ behind_look u keys) (started u c k)
  told_started (found repo pom) c looked keys k ih h = told_then looked (keys repo pom) (Built (repo, pom)) (k (record { own = project_of c repo pom; parents = [] }) pom.parent) refl h (ih repo pom)
  told_started (missing key) c looked keys k ih h = told_end looked (outcome_of (missing key)) (Needs (key ∷ [])) refl h.sound h
  told_started (not_found why) c looked keys k ih h = told_end looked (outcome_of (not_found why)) (NotFound why) refl h.sound h

  told_on_look : (u : Looked) (line : Line) (c : Coord) (looked : List FileKey) (keys : ℕ → PomRecord → List FileKey) (k : Line → Option Coord → Outcome Line)
      → ((repo : ℕ) (pom : PomRecord) → IsTold known repos (keys repo pom) (k (with_parent line (project_of c repo pom)) pom.parent))
      → IsTold known repos looked (outcome_of u) → IsTold known repos (looked ++ behind_look u keys) (on_look u line c k)
  told_on_look (found repo pom) line c looked keys k ih h = told_then looked (keys repo pom) (Built (repo, pom)) (k (with_parent line (project_of c repo pom)) pom.parent) refl h (ih repo pom)
  told_on_look (missing key) line c looked keys k ih h = told_end looked (outcome_of (missing key)) (Needs (key ∷ [])) refl h.sound h
  told_on_look (not_found why) line c looked keys k ih h = told_end looked (outcome_of (not_found why)) (Refused (LineAbsent c why)) refl h.sound h

  told_on_parent : (next : Option Coord) (line : Line) (keys : Coord → List FileKey) (k : Coord → Outcome Line) → ((c : Coord) → IsTold known repos (keys c) (k c)) → IsTold known repos (of_next next keys) (on_parent next line k)
  told_on_parent None line keys k ih = told_nothing (Built line) refl tt
  told_on_parent (Some c) line keys k ih = ih c

  told_unless : {A : Type 0} (met : Bool) (fault : BuildFault) → HasReasons repos fault → (keys : Coord → List FileKey) (c : Coord) (k : Coord → Outcome A) → IsTold known repos (keys c) (k c)
      → IsTold known repos (unless_seen met keys c) (unless_met met fault k c)
  told_unless true fault sound keys c k ih = told_nothing (Refused fault) refl sound
  told_unless false fault sound keys c k ih = ih

  past_sound : {A : Type 0} (b : Bool) (one other : BuildFault) → HasReasons repos one → HasReasons repos other → IsTold known repos {A = A} [] (Refused (cond b one other))
  past_sound true one other h k = told_nothing (Refused one) refl h
  past_sound false one other h k = told_nothing (Refused other) refl k

  told_past : (next : Option Coord) (line : Line) → IsTold known repos [] (on_parent next line (past_limit line))
  told_past None line = told_nothing (Built line) refl tt
  told_past (Some c) line = past_sound (is_on c line) _ _ tt tt

  told_line_from : (left : ℕ) (line : Line) (next : Option Coord) → IsTold known repos (parent_keys known repos left line next) (line_from known repos left line next)
  told_line_from zero line next = told_past next line
  told_line_from (suc left) line next =
      told_on_parent next line _ (climbed known repos line (line_from known repos left))
      (λ c.
      told_unless (is_on c line) _ tt _ c (λ parent. on_look (look_of known repos parent) line parent (line_from known repos left))
      (told_on_look (look_of known repos c) line c (look_keys known repos c) (λ repo pom. parent_keys known repos left (with_parent line (project_of c repo pom)) pom.parent) (line_from known repos left)
      (λ repo pom. told_line_from left (with_parent line (project_of c repo pom)) pom.parent) (told_look c)))

  pub told_line : (c : Coord) → IsTold known repos (line_keys known repos c) (line_of known repos c)
  unfolding line_of
  told_line c =
      told_started (look_of known repos c) c (look_keys known repos c) (λ repo pom. parent_keys known repos 31 (record { own = project_of c repo pom; parents = [] }) pom.parent) (line_from known repos 31)
      (λ repo pom. told_line_from 31 (record { own = project_of c repo pom; parents = [] }) pom.parent) (told_look c)

  -- imports

  told_merged : (looked more : List FileKey) (u v : Outcome (List DepRecord)) → IsTold known repos looked u → IsTold known repos more v → IsTold known repos (looked ++ more) (merged u v)
  told_merged looked more u v h k =
      record {
        open_key = λ key m n. ⊎_elim (λ here. left u v key (h.open_key key here n)) (λ there. right u v key (k.open_key key there n)) (Contains-append_cases looked more key m);
        needed = λ key m.
            ⊎_elim (λ here. let one = h.needed key here in (Contains-append_left looked more key one.0, one.1)) (λ there. let one = k.needed key there in (Contains-append_right looked more key one.0, one.1)) (back u v key m);
        poms = λ key m. ⊎_elim (h.poms key) (k.poms key) (Contains-append_cases looked more key m);
        sound = sound u v h.sound k.sound;
      }
    where
      left : (u v : Outcome (List DepRecord)) (key : FileKey) → Contains (needs u) key → Contains (needs (merged u v)) key
      left (Built rows) v key m = absurd (none key m)
      left (Needs keys) (Built more) key m = m
      left (Needs keys) (Needs more) key m = before_fold keys more key m
      left (Needs keys) (NotFound why) key m = m
      left (Needs keys) (Refused fault) key m = m
      left (NotFound why) v key m = absurd (none key m)
      left (Refused fault) v key m = absurd (none key m)

      right : (u v : Outcome (List DepRecord)) (key : FileKey) → Contains (needs v) key → Contains (needs (merged u v)) key
      right u (Built rows) key m = absurd (none key m)
      right u (NotFound why) key m = absurd (none key m)
      right u (Refused fault) key m = absurd (none key m)
      right (Built rows) (Needs more) key m = in_fold [] more key m
      right (Needs keys) (Needs more) key m = in_fold keys more key m
      right (NotFound why) (Needs more) key m = in_fold [] more key m
      right (Refused fault) (Needs more) key m = in_fold [] more key m

      new : (more : List FileKey) (key : FileKey) → Contains (fold with_key [] more) key → Contains more key
      new more key m = ⊎_elim (λ before. absurd (none key before)) (λ there. there) (from_fold [] more key m)

      back : (u v : Outcome (List DepRecord)) (key : FileKey) → Contains (needs (merged u v)) key → Contains (needs u) key ⊎ Contains (needs v) key
      back (Built rows) (Built more) key m = inl m
      back (Built rows) (Needs more) key m = inr (new more key m)
      back (Built rows) (NotFound why) key m = inl m
      back (Built rows) (Refused fault) key m = inl m
      back (Needs keys) (Built more) key m = inl m
      back (Needs keys) (Needs more) key m = from_fold keys more key m
      back (Needs keys) (NotFound why) key m = inl m
      back (Needs keys) (Refused fault) key m = inl m
      back (NotFound why) (Built more) key m = inl m
      back (NotFound why) (Needs more) key m = inr (new more key m)
      back (NotFound why) (NotFound other) key m = inl m
      back (NotFound why) (Refused fault) key m = inl m
      back (Refused fault) (Built more) key m = inl m
      back (Refused fault) (Needs more) key m = inr (new more key m)
      back (Refused fault) (NotFound why) key m = inl m
      back (Refused fault) (Refused other) key m = inl m

      some : (more : List FileKey) → 0 < length more → 0 < length (fold with_key [] more)
      some [] lt = absurd (omega (arith, lt))
      some (key ∷ more) lt = some_of (fold with_key [] (key ∷ more)) key (in_fold [] (key ∷ more) key (first key more))

      also : (keys more : List FileKey) → 0 < length keys → 0 < length (fold with_key keys more)
      also [] more lt = absurd (omega (arith, lt))
      also (key ∷ keys) more lt = some_of (fold with_key (key ∷ keys) more) key (before_fold (key ∷ keys) more key (first key keys))

      sound : (u v : Outcome (List DepRecord)) → IsSound repos u → IsSound repos v → IsSound repos (merged u v)
      sound (Built rows) (Built more) a b = tt
      sound (Built rows) (Needs more) a b = (distinct_fold [] more no_keys, some more b.1)
      sound (Built rows) (NotFound why) a b = b
      sound (Built rows) (Refused fault) a b = b
      sound (Needs keys) (Built more) a b = a
      sound (Needs keys) (Needs more) a b = (distinct_fold keys more a.0, also keys more a.1)
      sound (Needs keys) (NotFound why) a b = a
      sound (Needs keys) (Refused fault) a b = a
      sound (NotFound why) (Built more) a b = a
      sound (NotFound why) (Needs more) a b = (distinct_fold [] more no_keys, some more b.1)
      sound (NotFound why) (NotFound other) a b = a
      sound (NotFound why) (Refused fault) a b = a
      sound (Refused fault) (Built more) a b = a
      sound (Refused fault) (Needs more) a b = (distinct_fold [] more no_keys, some more b.1)
      sound (Refused fault) (NotFound why) a b = a
      sound (Refused fault) (Refused other) a b = a

  told_imports : (keys : Coord → List FileKey) (k : Coord → Outcome (List DepRecord)) → ((c : Coord) → IsTold known repos (keys c) (k c))
      → (rows : List DepRecord) (looked : List FileKey) (so_far : Outcome (List DepRecord)) → IsTold known repos looked so_far → IsTold known repos (looked ++ keys_of_all keys rows) (import_all k so_far rows)
  told_imports keys k ih [] looked so_far h = subst (λ all. IsTold known repos all so_far) (sym (append-nil looked)) h
  told_imports keys k ih (row ∷ rows) looked so_far h =
      subst (λ all. IsTold known repos all (import_all k (merged so_far (k (import_coord row))) rows)) (append_assoc looked (keys (import_coord row)) (keys_of_all keys rows))
      (told_imports keys k ih rows (looked ++ keys (import_coord row)) (merged so_far (k (import_coord row))) (told_merged looked (keys (import_coord row)) so_far (k (import_coord row)) h (ih (import_coord row))))

  pub told_managed_with : (keys : Coord → List FileKey) (k : Coord → Outcome (List DepRecord)) → ((c : Coord) → IsTold known repos (keys c) (k c)) → (line : Line) → IsTold known repos (import_keys keys (Built line)) (managed_with k line)
  told_managed_with keys k ih line =
      told_imports keys k ih (filter is_import (managed_rows line)) [] (Built (filter (λ row. not (is_import row)) (managed_rows line))) (told_nothing (Built (filter (λ row. not (is_import row)) (managed_rows line))) refl tt)

  told_on_line : {B : Type 0} (looked : List FileKey) (keys : Coord → List FileKey) (u : Outcome Line) (k : Line → Outcome B) → ((line : Line) → IsTold known repos (import_keys keys (Built line)) (k line))
      → IsTold known repos looked u → IsTold known repos (looked ++ import_keys keys u) (and_then u k)
  told_on_line looked keys (Built line) k ih h = told_then looked (import_keys keys (Built line)) (Built line) (k line) refl h (ih line)
  told_on_line looked keys (Needs more) k ih h = told_end {A = Line} looked (Needs more) (Needs more) refl h.sound h
  told_on_line looked keys (NotFound why) k ih h = told_end {A = Line} looked (NotFound why) (NotFound why) refl h.sound h
  told_on_line looked keys (Refused fault) k ih h = told_end {A = Line} looked (Refused fault) (Refused fault) refl h.sound h

  told_on_imported : {B : Type 0} (looked : List FileKey) (keys : Coord → List FileKey) (c : Coord) (u : Outcome Line) (k : Line → Outcome B) → ((line : Line) → IsTold known repos (import_keys keys (Built line)) (k line))
      → IsTold known repos looked u → IsTold known repos (looked ++ import_keys keys u) (and_then (imported c u) k)
  told_on_imported looked keys c (Built line) k ih h = told_then looked (import_keys keys (Built line)) (Built line) (k line) refl h (ih line)
  told_on_imported looked keys c (Needs more) k ih h = told_end {A = Line} looked (Needs more) (Needs more) refl h.sound h
  told_on_imported looked keys c (NotFound why) k ih h = told_end {A = Line} looked (NotFound why) (Refused (LineAbsent c why)) refl h.sound h
  told_on_imported looked keys c (Refused fault) k ih h = told_end {A = Line} looked (Refused fault) (Refused fault) refl h.sound h

  pub told_managed_from : (left : ℕ) (chain : List Coord) (c : Coord) → IsTold known repos (managed_keys known repos left chain c) (managed_from known repos left chain c)
  told_managed_from zero chain c = past_sound (is_among c chain) _ _ tt tt
  told_managed_from (suc left) chain c =
      told_unless (is_among c chain) _ tt _ c (λ one. and_then (imported one (line_of known repos one)) (managed_with (managed_from known repos left (chain ++ one ∷ []))))
      (told_on_imported (line_keys known repos c) (managed_keys known repos left (chain ++ c ∷ [])) c (line_of known repos c) (managed_with (managed_from known repos left (chain ++ c ∷ [])))
      (told_managed_with (managed_keys known repos left (chain ++ c ∷ [])) (managed_from known repos left (chain ++ c ∷ [])) (told_managed_from left (chain ++ c ∷ []))) (told_line c))

  abbrev pub rest : Coord → Line → Outcome Effective
  rest c line = and_then (managed_with (managed_from known repos 31 (c ∷ [])) line) (λ managed. Built (effective_in line managed))

  told_effective_in : (looked : List FileKey) (line : Line) (u : Outcome (List DepRecord)) → IsTold known repos looked u → IsTold known repos looked (and_then u (λ managed. Built (effective_in line managed)))
  told_effective_in looked line (Built rows) h = record { open_key = h.open_key; needed = h.needed; poms = h.poms; sound = tt }
  told_effective_in looked line (Needs keys) h = record { open_key = h.open_key; needed = h.needed; poms = h.poms; sound = h.sound }
  told_effective_in looked line (NotFound why) h = record { open_key = h.open_key; needed = h.needed; poms = h.poms; sound = h.sound }
  told_effective_in looked line (Refused fault) h = record { open_key = h.open_key; needed = h.needed; poms = h.poms; sound = h.sound }

  pub told_effective : (c : Coord) → IsTold known repos (effective_keys known repos c) (and_then (line_of known repos c) (rest c))
  told_effective c =
      told_on_line (line_keys known repos c) (managed_keys known repos 31 (c ∷ [])) (line_of known repos c) (rest c)
      (λ line.
      told_effective_in _ line (managed_with (managed_from known repos 31 (c ∷ [])) line)
      (told_managed_with (managed_keys known repos 31 (c ∷ [])) (managed_from known repos 31 (c ∷ [])) (told_managed_from 31 (c ∷ [])) line)) (told_line c)

-- the same of the answer

needs-build : (u : Outcome Effective) → needed_by (build_of u) ≡ needs u
needs-build (Built one) = refl
needs-build (Needs keys) = refl
needs-build (NotFound why) = refl
needs-build (Refused fault) = refl

needs_distinct : (repos : ℕ) (u : Outcome Effective) → IsSound repos u → IsDistinct key_eq (needs u)
needs_distinct repos (Built one) h = no_keys
needs_distinct repos (Needs keys) h = h.0
needs_distinct repos (NotFound why) h = no_keys
needs_distinct repos (Refused fault) h = no_keys

-- what is sound of an answer, by its variant
sound_some : (repos : ℕ) (u : Outcome Effective) (keys : List FileKey) → IsSound repos u → build_of u ≡ builds.Needs keys → 0 < length keys
sound_some repos (Built one) keys h e = cc
sound_some repos (Needs some) keys h e = let is : some ≡ keys = cc in subst (λ one. 0 < length one) is h.1
sound_some repos (NotFound why) keys h e = cc
sound_some repos (Refused fault) keys h e = cc

sound_not_found : (repos : ℕ) (u : Outcome Effective) (why : List Reason) → IsSound repos u → build_of u ≡ builds.NotFound why → length why ≡ repos
sound_not_found repos (Built one) why h e = cc
sound_not_found repos (Needs keys) why h e = cc
sound_not_found repos (NotFound all) why h e = let is : all ≡ why = cc in subst (λ one. length one ≡ repos) is h
sound_not_found repos (Refused fault) why h e = cc

sound_refused : (repos : ℕ) (u : Outcome Effective) (c : Coord) (why : List Reason) → IsSound repos u → build_of u ≡ builds.Refused (LineAbsent c why) → length why ≡ repos
sound_refused repos (Built one) c why h e = cc
sound_refused repos (Needs keys) c why h e = cc
sound_refused repos (NotFound all) c why h e = cc
sound_refused repos (Refused fault) c why h e = let is : fault ≡ LineAbsent c why = cc in subst (HasReasons repos) is h

module _ (known : Known) (repos : ℕ) (c : Coord) where
  pub told_some : (keys : List FileKey) → effective_of known repos c ≡ builds.Needs keys → 0 < length keys
  unfolding effective_of
  told_some keys e = sound_some repos (and_then (line_of known repos c) (rest known repos c)) keys (told_effective known repos c).sound e

  pub told_distinct : IsDistinct key_eq (needed_by (effective_of known repos c))
  unfolding effective_of
  told_distinct =
      subst (IsDistinct key_eq) (sym (needs-build (and_then (line_of known repos c) (rest known repos c)))) (needs_distinct repos (and_then (line_of known repos c) (rest known repos c)) (told_effective known repos c).sound)

  pub told_needed : (key : FileKey) → Contains (needed_by (effective_of known repos c)) key ↔ IsOpen known repos c key
  unfolding effective_of
  told_needed key =
      let told : IsTold known repos (effective_keys known repos c) (and_then (line_of known repos c) (rest known repos c)) = told_effective known repos c in
      let same = needs-build (and_then (line_of known repos c) (rest known repos c)) in
      (λ h. told.needed key (subst (λ keys. Contains keys key) same h), λ h. subst (λ keys. Contains keys key) (sym same) (told.open_key key h.0 h.1))

  pub told_poms : (key : FileKey) → Contains (effective_keys known repos c) key → IsPomKey repos key
  told_poms key h = (told_effective known repos c).poms key h

  pub told_not_found : (why : List Reason) → effective_of known repos c ≡ builds.NotFound why → length why ≡ repos
  unfolding effective_of
  told_not_found why e = sound_not_found repos (and_then (line_of known repos c) (rest known repos c)) why (told_effective known repos c).sound e

  pub told_line_absent : (one : Coord) (why : List Reason) → effective_of known repos c ≡ builds.Refused (LineAbsent one why) → length why ≡ repos
  unfolding effective_of
  told_line_absent one why e = sound_refused repos (and_then (line_of known repos c) (rest known repos c)) one why (told_effective known repos c).sound e
