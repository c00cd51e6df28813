-- The keys that imports need, looked for project by project.
use Rattle.std.proofs.Common.{◌≡◌, ℕ, zero, suc, ◌+◌, ◌<◌, ◌≤◌, ◌⊎◌, ⊎_elim, Bool, true, false, cond, ◌||◌, None, List, [], ◌∷◌, ◌++◌, filter, fold, not, refl, sym, ◌∙◌, ap, subst, arith, true≢false}
use Rattle.std.specs.List.{list_any}
use Rattle.std.specs.Option.{unwrap_or}
use Rattle.std.specs.Prelude.{Contains}
use Rattle.std.proofs.lemmas.List.Elements.{Contains-append_cases, Contains-push_cases}
use Rattle.std.proofs.lemmas.List.Sums.{fold-append}
use Rattle.std.proofs.lemmas.Map.Views.{Contains-from_any, list_any-from_Contains}
use Rattle.res_base.specs.Known.{Known}
use Rattle.res_base.specs.Names.{coord_eq, key_eq}
use Rattle.res_base.specs.declared.coord.Coord.{Coord}
use Rattle.res_base.specs.declared.key.FileKey.{FileKey}
use Rattle.res_base.specs.declared.pom.DepRecord.{DepRecord}
use Rattle.pom_build.specs.CoordTables.{value_at}
use Rattle.pom_build.specs.Imports.{import_all, import_coord, imported, is_import, managed_from, managed_rows, managed_with, merged, with_key}
use Rattle.pom_build.specs.Lines.{is_among, line_of}
use Rattle.pom_build.specs.Outcomes.{and_then, needs, needs_or, waits}
use Rattle.pom_build.specs.Reads.{import_keys, keys_of_all, line_keys, managed_keys, unless_seen}
use Rattle.pom_build.specs.Visits.{HasLevel, IsAllVisited, IsDone, IsLater, IsSeenIn, IsVisited, all_needed, imports_of, level_of}
use Rattle.pom_build.specs.declared.build.BuildFault.{BuildFault}
use Rattle.pom_build.specs.declared.line.Line.{Line}
use Rattle.pom_build.specs.declared.needs.Seen.{Seen}
use Rattle.pom_build.specs.declared.outcome.Outcome.{Outcome}
use Rattle.pom_build.specs.declared.outcome.Outcome.TheVariants.{Built, Needs, NotFound, Refused}
use Rattle.pom_build.proofs.Climbing.{managed_from-more}
use Rattle.pom_build.proofs.Members.{none, first, later}
use Rattle.pom_build.proofs.Chains.{apart_last, both_false, longer}
use Rattle.pom_build.proofs.Coords.{alike_among, among_end, among_front, among_or, equal_coords, same_coord}
use Rattle.pom_build.proofs.Told.{before_fold, equal_keys, in_fold, same_key, told_line, told_managed_from, told_managed_with, IsSound}

-- keys put after others, each once

put_again : (keys : List FileKey) (key : FileKey) → Contains keys key → with_key keys key ≡ keys
put_again keys key m = let e : list_any (key_eq key) keys ≡ true = list_any-from_Contains equal_keys key keys m in rw e refl

-- repeats that are left out before make no difference
pub fold_fold : (keys front more : List FileKey) → fold with_key keys (fold with_key front more) ≡ fold with_key (fold with_key keys front) more
fold_fold keys front [] = refl
fold_fold keys front (key ∷ more) =
    fold_fold keys (with_key front key) more ∙ ap (λ start. fold with_key start more) (at (list_any (key_eq key) front) refl)
  where
    at : (b : Bool) → list_any (key_eq key) front ≡ b → fold with_key keys (cond b front (front ++ key ∷ [])) ≡ with_key (fold with_key keys front) key
    at true e = sym (put_again (fold with_key keys front) key (in_fold keys front key (Contains-from_any same_key key front e)))
    at false e = fold-append with_key keys front (key ∷ [])

-- keys that are all there
pub all_there : (keys more : List FileKey) → ((key : FileKey) → Contains more key → Contains keys key) → fold with_key keys more ≡ keys
all_there keys [] there = refl
all_there keys (key ∷ more) there =
    ap (λ start. fold with_key start more) (put_again keys key (there key (first key more)))
    ∙ all_there keys more (λ one m. there one (later key more one m))

-- what answers of several need

pub needs_merged : (u v : Outcome (List DepRecord)) → needs (merged u v) ≡ fold with_key (needs u) (needs v)
needs_merged (Built rows) (Built more) = refl
needs_merged (Built rows) (Needs keys) = refl
needs_merged (Built rows) (NotFound why) = refl
needs_merged (Built rows) (Refused fault) = refl
needs_merged (Needs keys) (Built more) = refl
needs_merged (Needs keys) (Needs more) = refl
needs_merged (Needs keys) (NotFound why) = refl
needs_merged (Needs keys) (Refused fault) = refl
needs_merged (NotFound why) (Built more) = refl
needs_merged (NotFound why) (Needs keys) = refl
needs_merged (NotFound why) (NotFound other) = refl
needs_merged (NotFound why) (Refused fault) = refl
needs_merged (Refused fault) (Built more) = refl
needs_merged (Refused fault) (Needs keys) = refl
needs_merged (Refused fault) (NotFound why) = refl
needs_merged (Refused fault) (Refused other) = refl

pub imports_needed : (k : Coord → Outcome (List DepRecord)) (imports : List DepRecord) (u : Outcome (List DepRecord)) (keys : List FileKey)
    → fold with_key keys (needs (import_all k u imports)) ≡ all_needed k (fold with_key keys (needs u)) imports
imports_needed k [] u keys = refl
imports_needed k (row ∷ imports) u keys =
    imports_needed k imports (merged u (k (import_coord row))) keys
    ∙ ap (λ start. all_needed k start imports)
    (ap (fold with_key keys) (needs_merged u (k (import_coord row))) ∙ fold_fold keys (needs u) (needs (k (import_coord row))))

pub imports_need : (k : Coord → Outcome (List DepRecord)) (imports : List DepRecord) (u : Outcome (List DepRecord)) → needs (import_all k u imports) ≡ all_needed k (needs u) imports
imports_need k [] u = refl
imports_need k (row ∷ imports) u =
    imports_need k imports (merged u (k (import_coord row))) ∙ ap (λ start. all_needed k start imports) (needs_merged u (k (import_coord row)))

-- the keys that an answer needs, or else its fault
fault_or_needs : (repos : ℕ) (u : Outcome (List DepRecord)) (fault : BuildFault) (keys : List FileKey) → keys ≡ needs u → IsSound repos u
    → (waits u ≡ false → u ≡ Refused fault) → needs_or keys fault ≡ u
fault_or_needs repos (Built rows) fault keys e sound stops = ap (λ all. needs_or all fault) e ∙ sym (stops refl)
fault_or_needs repos (Needs []) fault keys e sound stops = absurd (omega (arith, sound.1))
fault_or_needs repos (Needs (key ∷ more)) fault keys e sound stops = ap (λ all. needs_or all fault) e
fault_or_needs repos (NotFound why) fault keys e sound stops = ap (λ all. needs_or all fault) e ∙ sym (stops refl)
fault_or_needs repos (Refused other) fault keys e sound stops = ap (λ all. needs_or all fault) e ∙ sym (stops refl)

only_needs : (u : Outcome (List DepRecord)) (keys : List FileKey) → keys ≡ needs u → waits u ≡ true → Needs keys ≡ u
only_needs (Built rows) keys e w = absurd (true≢false (sym w))
only_needs (Needs more) keys e w = ap Needs e
only_needs (NotFound why) keys e w = absurd (true≢false (sym w))
only_needs (Refused fault) keys e w = absurd (true≢false (sym w))

-- one more import
pub one_needed : (k : Coord → Outcome (List DepRecord)) (keys : List FileKey) (imports : List DepRecord) (row : DepRecord)
    → all_needed k keys (imports ++ row ∷ []) ≡ fold with_key (all_needed k keys imports) (needs (k (import_coord row)))
one_needed k keys imports row = fold-append (λ so_far one. fold with_key so_far (needs (k (import_coord one)))) keys imports (row ∷ [])

-- one coordinate in the chain and one that is not are apart
apart_from : (c x : Coord) (chain : List Coord) → is_among c chain ≡ false → is_among x chain ≡ true → coord_eq c x ≡ false
apart_from c x chain e f = at (coord_eq c x) refl
  where
    at : (b : Bool) → coord_eq c x ≡ b → b ≡ false
    at false same = refl
    at true same = absurd (true≢false (sym f ∙ sym (alike_among c x same chain) ∙ e))

-- a project's own rows, before its imports are added
abbrev rows_of : Line → Outcome (List DepRecord)
rows_of line = Built (filter (λ row. not (is_import row)) (managed_rows line))

-- no project was visited where the table is empty
pub no_level : (seen : Seen) → seen.levels.entries ≡ [] → (c : Coord) → level_of seen c ≡ 0
no_level seen empty c = rw empty refl

module _ (known : Known) (repos : ℕ) where
  -- what is to be looked at for a project that was visited with as many levels is done
  visited : (left : ℕ) (chain other : List Coord) (seen : Seen) → ((c : Coord) → 1 ≤ level_of seen c → is_among c chain ≡ false → IsDone known repos seen c)
      → ((x : Coord) → is_among x other ≡ false → is_among x chain ≡ false) → (c : Coord) → left ≤ level_of seen c
      → (key : FileKey) → Contains (managed_keys known repos left other c) key → known key ≡ None → Contains seen.keys key
  visited zero chain other seen done sub c le key m unknown = absurd (none key m)
  visited (suc left) chain other seen done sub c le key m unknown =
      at (is_among c other) refl m (λ x deep h. visited left chain (other ++ c ∷ []) seen done (λ y e. sub y (apart_last y c other e).0) x deep key h unknown)
    where
      by_rows : (rows : List DepRecord) → ((row : DepRecord) → Contains rows row → level_of seen c ≤ suc (level_of seen (import_coord row)))
          → Contains (keys_of_all (managed_keys known repos left (other ++ c ∷ [])) rows) key
          → ((x : Coord) → left ≤ level_of seen x → Contains (managed_keys known repos left (other ++ c ∷ []) x) key → Contains seen.keys key)
          → Contains seen.keys key
      by_rows [] there m further = absurd (none key m)
      by_rows (row ∷ rows) there m further =
          let deep : left ≤ level_of seen (import_coord row) = omega (arith, le, there row (first row rows)) in
          ⊎_elim (λ here. further (import_coord row) deep here)
          (λ rest. by_rows rows (λ one n. there one (later row rows one n)) rest further)
          (Contains-append_cases (managed_keys known repos left (other ++ c ∷ []) (import_coord row)) (keys_of_all (managed_keys known repos left (other ++ c ∷ [])) rows) key m)

      by_line : (u : Outcome Line) → ((row : DepRecord) → Contains (imports_of u) row → level_of seen c ≤ suc (level_of seen (import_coord row)))
          → Contains (import_keys (managed_keys known repos left (other ++ c ∷ [])) u) key
          → ((x : Coord) → left ≤ level_of seen x → Contains (managed_keys known repos left (other ++ c ∷ []) x) key → Contains seen.keys key)
          → Contains seen.keys key
      by_line (Built line) there m further = by_rows (imports_of (Built line)) there m further
      by_line (Needs keys) there m further = absurd (none key m)
      by_line (NotFound why) there m further = absurd (none key m)
      by_line (Refused fault) there m further = absurd (none key m)

      at : (b : Bool) → is_among c other ≡ b
          → Contains (unless_seen b (λ one. line_keys known repos one ++ import_keys (managed_keys known repos left (other ++ one ∷ [])) (line_of known repos one)) c) key
          → ((x : Coord) → left ≤ level_of seen x → Contains (managed_keys known repos left (other ++ c ∷ []) x) key → Contains seen.keys key)
          → Contains seen.keys key
      at true e m further = absurd (none key m)
      at false e m further =
          let here : IsDone known repos seen c = done c (omega (arith, le)) (sub c e) in
          ⊎_elim (λ own. here.keys key own unknown) (λ behind. by_line (line_of known repos c) here.imports behind further)
          (Contains-append_cases (line_keys known repos c) (import_keys (managed_keys known repos left (other ++ c ∷ [])) (line_of known repos c)) key m)

  pub seen_again : (left : ℕ) (chain : List Coord) (c : Coord) (seen : Seen) → IsSeenIn known repos left chain seen → left ≤ level_of seen c
      → IsVisited known repos left chain c seen seen
  seen_again left chain c seen in_chain le =
      record {
        keys = sym (all_there seen.keys (needs (managed_from known repos left chain c))
            (λ key m. let asked = (told_managed_from known repos left chain c).needed key m in
            visited left chain chain seen in_chain.done (λ x e. e) c le key asked.0 asked.1));
        seen = in_chain;
        later = record { grows = λ x. omega arith; kept = λ x e. refl };
        there = le;
      }

  pub met_again : (left : ℕ) (chain : List Coord) (c : Coord) (seen : Seen) → IsSeenIn known repos left chain seen → is_among c chain ≡ true
      → IsVisited known repos left chain c seen seen
  met_again left chain c seen in_chain met = seen_again left chain c seen in_chain (in_chain.stacked c met)

  -- before the imports of a project are visited
  pub entered : (left : ℕ) (chain : List Coord) (c : Coord) (before after : Seen) → IsSeenIn known repos (suc left) chain before → is_among c chain ≡ false
      → level_of before c < suc left → after.keys ≡ before.keys → HasLevel before c (suc left) after → IsSeenIn known repos left (chain ++ c ∷ []) after
  entered left chain c before after in_chain apart less keys level =
      record { done = λ x some far. still x some (apart_last x c chain far); stacked = λ x met. ⊎_elim (λ e. omega (arith, in_chain.stacked x e, raised x)) (λ e. omega (arith, own x e)) (among_or x c chain met) }
    where
      raised : (x : Coord) → level_of before x ≤ level_of after x
      raised x = at (coord_eq c x) refl (level x)
        where
          at : (b : Bool) → coord_eq c x ≡ b → level_of after x ≡ cond b (suc left) (level_of before x) → level_of before x ≤ level_of after x
          at true same e = let is : level_of before x ≡ level_of before c = ap (level_of before) (sym (same_coord c x same)) in omega (arith, e, is, less)
          at false same e = omega (arith, e)

      own : (x : Coord) → coord_eq x c ≡ true → level_of after x ≡ suc left
      own x same = level x ∙ ap (λ b. cond b (suc left) (level_of before x)) (equal_coords.symm c x ∙ same)

      still : (x : Coord) → 1 ≤ level_of after x → (is_among x chain ≡ false) × (coord_eq x c ≡ false) → IsDone known repos after x
      still x some far =
          let same : level_of after x ≡ level_of before x = level x ∙ ap (λ b. cond b (suc left) (level_of before x)) (equal_coords.symm c x ∙ far.1) in
          let had : IsDone known repos before x = in_chain.done x (omega (arith, some, same)) far.0 in
          record {
            keys = λ key m unknown. subst (λ all. Contains all key) (sym keys) (had.keys key m unknown);
            imports = λ row m. omega (arith, same, had.imports row m, raised (import_coord row));
          }

  -- when the imports of a project were visited
  pub left_again : (left : ℕ) (chain : List Coord) (c : Coord) (before middle after : Seen) → IsSeenIn known repos (suc left) chain before → is_among c chain ≡ false
      → level_of before c < suc left → HasLevel before c (suc left) middle
      → IsSeenIn known repos left (chain ++ c ∷ []) after → IsLater (chain ++ c ∷ []) middle after
      → after.keys ≡ fold with_key before.keys (needs (managed_from known repos (suc left) chain c))
      → ((key : FileKey) → Contains (line_keys known repos c) key → known key ≡ None → Contains after.keys key)
      → ((row : DepRecord) → Contains (imports_of (line_of known repos c)) row → left ≤ level_of after (import_coord row))
      → IsVisited known repos (suc left) chain c before after
  left_again left chain c before middle after in_chain apart less level inner later keys line imports =
      record {
        keys = keys;
        seen = record { done = done; stacked = λ x met. omega (arith, in_chain.stacked x met, kept x met) };
        later = record { grows = λ x. omega (arith, raised x, later.grows x); kept = kept };
        there = omega (arith, here);
      }
    where
      raised : (x : Coord) → level_of before x ≤ level_of middle x
      raised x = at (coord_eq c x) refl (level x)
        where
          at : (b : Bool) → coord_eq c x ≡ b → level_of middle x ≡ cond b (suc left) (level_of before x) → level_of before x ≤ level_of middle x
          at true same e = let is : level_of before x ≡ level_of before c = ap (level_of before) (sym (same_coord c x same)) in omega (arith, e, is, less)
          at false same e = omega (arith, e)

      here : level_of after c ≡ suc left
      here = later.kept c (among_end c chain) ∙ level c ∙ ap (λ b. cond b (suc left) (level_of before c)) (equal_coords.refl c)

      kept : (x : Coord) → is_among x chain ≡ true → level_of after x ≡ level_of before x
      kept x met = later.kept x (among_front x c chain met) ∙ level x ∙ ap (λ b. cond b (suc left) (level_of before x)) (apart_from c x chain apart met)

      done : (x : Coord) → 1 ≤ level_of after x → is_among x chain ≡ false → IsDone known repos after x
      done x some far = at (coord_eq x c) refl
        where
          at : (b : Bool) → coord_eq x c ≡ b → IsDone known repos after x
          at true same =
              subst (IsDone known repos after) (sym (same_coord x c same))
              (record { keys = line; imports = λ row m. omega (arith, here, imports row m) })
          at false other = inner.done x some (longer x c chain ∙ both_false (is_among x chain) (coord_eq x c) far other)

  -- more keys, and nothing else
  only_keys : (left : ℕ) (chain : List Coord) (before after : Seen) → IsSeenIn known repos left chain before → after.levels ≡ before.levels
      → ((key : FileKey) → Contains before.keys key → Contains after.keys key) → IsSeenIn known repos left chain after
  only_keys left chain before after in_chain levels keys =
      record {
        done = λ x some far.
            let had = in_chain.done x (omega (arith, some, same x)) far in
            record { keys = λ key m unknown. keys key (had.keys key m unknown); imports = λ row m. omega (arith, had.imports row m, same x, same (import_coord row)) };
        stacked = λ x met. omega (arith, in_chain.stacked x met, same x);
      }
    where
      same : (x : Coord) → level_of after x ≡ level_of before x
      same x = ap (λ levels. unwrap_or (value_at levels x) 0) levels

  -- a project without a line has no imports
  pub ended : (left : ℕ) (chain : List Coord) (c : Coord) (before middle after : Seen) (u : Outcome Line) → line_of known repos c ≡ u → imports_of u ≡ []
      → needs (and_then (imported c u) (managed_with (managed_from known repos left (chain ++ c ∷ [])))) ≡ needs u
      → IsSeenIn known repos (suc left) chain before → is_among c chain ≡ false → level_of before c < suc left
      → middle.keys ≡ before.keys → HasLevel before c (suc left) middle
      → after.levels ≡ middle.levels → after.keys ≡ fold with_key middle.keys (needs u)
      → IsVisited known repos (suc left) chain c before after
  ended left chain c before middle after u e none_of same in_chain apart less kept level levels keys =
      left_again left chain c before middle after in_chain apart less level
      (only_keys left (chain ++ c ∷ []) middle after (entered left chain c before middle in_chain apart less kept level) levels
      (λ key m. subst (λ all. Contains all key) (sym keys) (before_fold middle.keys (needs u) key m)))
      (record { grows = λ x. omega (arith, ap (λ l. unwrap_or (value_at l x) 0) levels); kept = λ x met. ap (λ l. unwrap_or (value_at l x) 0) levels })
      (keys ∙ ap (λ all. fold with_key all (needs u)) kept ∙ ap (fold with_key before.keys) (sym whole))
      (λ key m unknown.
      let asked : Contains (needs u) key = subst (λ v. Contains (needs v) key) e ((told_line known repos c).open_key key m unknown) in
      subst (λ all. Contains all key) (sym keys) (in_fold middle.keys (needs u) key asked))
      (λ row m. absurd (none row (subst (λ all. Contains all row) (ap imports_of e ∙ none_of) m)))
    where
      whole : needs (managed_from known repos (suc left) chain c) ≡ needs u
      whole = ap needs (managed_from-more known repos (suc left) left chain c refl apart)
          ∙ ap (λ v. needs (and_then (imported c v) (managed_with (managed_from known repos left (chain ++ c ∷ []))))) e ∙ same

  -- a project with a line, whose imports were visited
  pub went_through : (left : ℕ) (chain : List Coord) (c : Coord) (before middle after : Seen) (line : Line) → line_of known repos c ≡ Built line
      → IsSeenIn known repos (suc left) chain before → is_among c chain ≡ false → level_of before c < suc left
      → middle.keys ≡ before.keys → HasLevel before c (suc left) middle
      → IsAllVisited known repos left (chain ++ c ∷ []) (imports_of (Built line)) middle after
      → IsVisited known repos (suc left) chain c before after
  went_through left chain c before middle after line e in_chain apart less kept level all =
      left_again left chain c before middle after in_chain apart less level all.seen all.later
      (all.keys ∙ ap (λ keys. all_needed (managed_from known repos left (chain ++ c ∷ [])) keys (imports_of (Built line))) kept
      ∙ sym (imports_needed (managed_from known repos left (chain ++ c ∷ [])) (imports_of (Built line)) (rows_of line) before.keys) ∙ ap (fold with_key before.keys) (sym whole))
      (λ key m unknown. absurd (none key (subst (λ v. Contains (needs v) key) e ((told_line known repos c).open_key key m unknown))))
      (λ row m. all.there row (subst (λ v. Contains (imports_of v) row) e m))
    where
      whole : needs (managed_from known repos (suc left) chain c) ≡ needs (import_all (managed_from known repos left (chain ++ c ∷ [])) (rows_of line) (imports_of (Built line)))
      whole = ap needs (managed_from-more known repos (suc left) left chain c refl apart ∙ ap (λ v. and_then (imported c v) (managed_with (managed_from known repos left (chain ++ c ∷ [])))) e)

  -- with as many levels as are left
  pub ended_at : (n left : ℕ) → n ≡ suc left → (chain : List Coord) (c : Coord) (before middle after : Seen) (u : Outcome Line) → line_of known repos c ≡ u → imports_of u ≡ []
      → needs (and_then (imported c u) (managed_with (managed_from known repos left (chain ++ c ∷ [])))) ≡ needs u
      → IsSeenIn known repos n chain before → is_among c chain ≡ false → level_of before c < n
      → middle.keys ≡ before.keys → HasLevel before c n middle
      → after.levels ≡ middle.levels → after.keys ≡ fold with_key middle.keys (needs u)
      → IsVisited known repos n chain c before after
  ended_at n left e chain c before middle after u is none_of same in_chain apart less kept level levels keys =
      subst (λ m. IsVisited known repos m chain c before after) (sym e)
      (ended left chain c before middle after u is none_of same (subst (λ m. IsSeenIn known repos m chain before) e in_chain) apart (omega (arith, less, e)) kept
      (subst (λ m. HasLevel before c m middle) e level) levels keys)

  pub entered_at : (n left : ℕ) → n ≡ suc left → (chain : List Coord) (c : Coord) (before after : Seen) → IsSeenIn known repos n chain before → is_among c chain ≡ false
      → level_of before c < n → after.keys ≡ before.keys → HasLevel before c n after → IsSeenIn known repos left (chain ++ c ∷ []) after
  entered_at n left e chain c before after in_chain apart less keys level =
      entered left chain c before after (subst (λ m. IsSeenIn known repos m chain before) e in_chain) apart (omega (arith, less, e)) keys
      (subst (λ m. HasLevel before c m after) e level)

  pub went_through_at : (n left : ℕ) → n ≡ suc left → (chain : List Coord) (c : Coord) (before middle after : Seen) (line : Line) → line_of known repos c ≡ Built line
      → IsSeenIn known repos n chain before → is_among c chain ≡ false → level_of before c < n
      → middle.keys ≡ before.keys → HasLevel before c n middle
      → IsAllVisited known repos left (chain ++ c ∷ []) (filter is_import (managed_rows line)) middle after
      → IsVisited known repos n chain c before after
  went_through_at n left e chain c before middle after line is in_chain apart less kept level all =
      subst (λ m. IsVisited known repos m chain c before after) (sym e)
      (went_through left chain c before middle after line is (subst (λ m. IsSeenIn known repos m chain before) e in_chain) apart (omega (arith, less, e)) kept
      (subst (λ m. HasLevel before c m middle) e level) all)

  pub none_visited : (left : ℕ) (chain : List Coord) (seen : Seen) → IsSeenIn known repos left chain seen → IsAllVisited known repos left chain [] seen seen
  none_visited left chain seen in_chain =
      record { keys = refl; seen = in_chain; later = record { grows = λ x. omega arith; kept = λ x e. refl }; there = λ row m. absurd (none row m) }

  pub one_visited : (left : ℕ) (chain : List Coord) (front : List DepRecord) (row : DepRecord) (before middle after : Seen)
      → IsAllVisited known repos left chain front before middle → IsVisited known repos left chain (import_coord row) middle after
      → IsAllVisited known repos left chain (front ++ row ∷ []) before after
  one_visited left chain front row before middle after all one =
      record {
        keys = one.keys ∙ ap (λ keys. fold with_key keys (needs (managed_from known repos left chain (import_coord row)))) all.keys
            ∙ sym (one_needed (managed_from known repos left chain) before.keys front row);
        seen = one.seen;
        later = record { grows = λ x. omega (arith, all.later.grows x, one.later.grows x); kept = λ x e. one.later.kept x e ∙ all.later.kept x e };
        there = λ x m. ⊎_elim (λ had. omega (arith, all.there x had, one.later.grows (import_coord x)))
            (λ is. subst (λ y. left ≤ level_of after (import_coord y)) is one.there) (Contains-push_cases front row x m);
      }

  -- before anything is visited but the project itself
  pub started_with : (left : ℕ) (c : Coord) (blank start : Seen) → ((x : Coord) → level_of blank x ≡ 0) → HasLevel blank c left start
      → IsSeenIn known repos left (c ∷ []) start
  started_with left c blank start never level =
      record { done = λ x some far. absurd (no x some far); stacked = λ x met. omega (arith, there x met) }
    where
      right : (b : Bool) → (b || false) ≡ b
      right true = refl
      right false = refl

      no : (x : Coord) → 1 ≤ level_of start x → is_among x (c ∷ []) ≡ false → ⊥
      no x some far =
          let apart : coord_eq c x ≡ false = equal_coords.symm c x ∙ sym (right (coord_eq x c)) ∙ far in
          let is : level_of start x ≡ 0 = level x ∙ ap (λ b. cond b left (level_of blank x)) apart ∙ never x in
          omega (arith, some, is)

      there : (x : Coord) → is_among x (c ∷ []) ≡ true → level_of start x ≡ left
      there x met = level x ∙ ap (λ b. cond b left (level_of blank x)) (equal_coords.symm c x ∙ sym (right (coord_eq x c)) ∙ met)

  needs_line : (left : ℕ) (c : Coord) (line : Line)
      → needs (managed_with (managed_from known repos left (c ∷ [])) line) ≡ all_needed (managed_from known repos left (c ∷ [])) [] (filter is_import (managed_rows line))
  needs_line left c line =
      imports_need (managed_from known repos left (c ∷ [])) (filter is_import (managed_rows line)) (Built (filter (λ row. not (is_import row)) (managed_rows line)))

  sound_line : (left : ℕ) (c : Coord) (line : Line) → IsSound repos (managed_with (managed_from known repos left (c ∷ [])) line)
  sound_line left c line =
      (told_managed_with known repos (managed_keys known repos left (c ∷ [])) (managed_from known repos left (c ∷ [])) (told_managed_from known repos left (c ∷ [])) line).sound

  -- what is said of a project with a line, where its imports do not give rows
  pub fault_or_keys : (left : ℕ) (c : Coord) (line : Line) (fault : BuildFault) (keys : List FileKey)
      → keys ≡ all_needed (managed_from known repos left (c ∷ [])) [] (filter is_import (managed_rows line))
      → (waits (managed_with (managed_from known repos left (c ∷ [])) line) ≡ false → managed_with (managed_from known repos left (c ∷ [])) line ≡ Refused fault)
      → needs_or keys fault ≡ managed_with (managed_from known repos left (c ∷ [])) line
  fault_or_keys left c line fault keys e stops =
      fault_or_needs repos (managed_with (managed_from known repos left (c ∷ [])) line) fault keys (e ∙ sym (needs_line left c line)) (sound_line left c line) stops

  pub keys_alone : (left : ℕ) (c : Coord) (line : Line) (keys : List FileKey)
      → keys ≡ all_needed (managed_from known repos left (c ∷ [])) [] (filter is_import (managed_rows line))
      → waits (managed_with (managed_from known repos left (c ∷ [])) line) ≡ true
      → Needs keys ≡ managed_with (managed_from known repos left (c ∷ [])) line
  keys_alone left c line keys e w = only_needs (managed_with (managed_from known repos left (c ∷ [])) line) keys (e ∙ sym (needs_line left c line)) w
