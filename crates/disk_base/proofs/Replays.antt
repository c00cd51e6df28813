-- The names of a log, and of a table that follows it.
use Rattle.std.proofs.Common.{ℕ, ◌≡◌, ◌<◌, ◌≤◌, ◌++◌, ◌-◌, List, [], ◌∷◌, Option, Some, length, get_or, take, drop, suc, arith, length-drop, take_all, refl, sym, ap, subst, ◌∙◌}
use Rattle.std.proofs.Math.Path.{fun_ext}
use Rattle.std.proofs.Math.Seq.{drop-cons}
use Rattle.std.proofs.lemmas.List.{take-append-drop}
use Rattle.disk_base.proofs.Composed.{run-append}
use Rattle.disk_base.proofs.Selections.{listed_right, picked_image, picked_right, rows_show}
use Rattle.disk_base.specs.Crashes.{IsPicked, crashed}
use Rattle.disk_base.specs.Images.{Image, IsImage}
use Rattle.disk_base.specs.MemoryDisks.{names_now, names_showing}
use Rattle.disk_base.specs.Names.{Names, after, run}
use Rattle.disk_base.specs.Reads.{AreListed}
use Rattle.disk_base.specs.Selected.{held_in, listed_in, rows_picked}
use Rattle.disk_base.specs.Tables.{HasNamesInOrder, names_in, names_of}
use Rattle.disk_base.specs.declared.log.Log.{Log}
use Rattle.disk_base.specs.declared.rows.FirstName.{FirstName}
use Rattle.disk_base.specs.declared.rows.Table.{Table}
use Rattle.disk_base.specs.declared.steps.DiskStep.{DiskStep}

-- one more step of a list of steps
pub run_more : (steps : List DiskStep) (i j : ℕ) (x d : DiskStep) (s t : Names) → j ≡ suc i → i < length steps
    → x ≡ get_or steps i d → ((n : List ℕ) → t n ≡ after x s n) → run (drop j steps) t ≡ run (drop i steps) s
run_more steps i j x d s t q le is each =
    ap (λ (k : ℕ). run (drop k steps) t) q
    ∙ (ap (λ (u : Names). run (drop (suc i) steps) u) (fun_ext each)
    ∙ (ap (λ (y : DiskStep). run (drop (suc i) steps) (after y s)) is
    ∙ sym (ap (λ (rest : List DiskStep). run rest s) (drop-cons steps i d le))))

-- all the steps, over the names that a table was loaded with
pub replayed : (log : Log) (first : List FirstName) (calls : List DiskStep) (loaded done : Names)
    → first ≡ log.first → calls ≡ log.calls → ((n : List ℕ) → loaded n ≡ names_of first n) → done ≡ run calls loaded
    → (n : List ℕ) → done n ≡ names_now log n
replayed log first calls loaded done f c each e n =
    let start : loaded ≡ names_of log.first = fun_ext each ∙ ap names_of f in
    ap (λ (s : Names). s n) (e ∙ (ap (λ (s : Names). run calls s) start ∙ ap (λ (xs : List DiskStep). run xs (names_of log.first)) c))

-- the steps from a place on
pub rest_of : (k : ℕ) (calls all : List DiskStep) → calls ≡ all → take (length calls - k) (drop k calls) ≡ drop k all
rest_of k calls all e =
    take_all (length calls - k) (drop k calls) (omega (arith, length-drop k calls))
    ∙ ap (λ (xs : List DiskStep). drop k xs) e

-- the later steps, over the names after the first so many
pub finished : (log : Log) (k : ℕ) (rest : List DiskStep) (before done : Names) → rest ≡ drop k log.calls
    → ((n : List ℕ) → before n ≡ run (take k log.calls) (names_of log.first) n) → done ≡ run rest before
    → (n : List ℕ) → done n ≡ names_now log n
finished log k rest before done r each e n =
    let split : run (drop k log.calls) (run (take k log.calls) (names_of log.first)) ≡ names_now log =
    sym (run-append (take k log.calls) (drop k log.calls) (names_of log.first))
    ∙ ap (λ (xs : List DiskStep). run xs (names_of log.first)) (take-append-drop k log.calls) in
    ap (λ (s : Names). s n) (e ∙ (ap (λ (xs : List DiskStep). run xs before) r
    ∙ (ap (λ (s : Names). run (drop k log.calls) s) (fun_ext each) ∙ split)))

-- what a table tells that was put in order
pub in_order : (log : Log) (old new : Table) → ((n : List ℕ) → names_in old n ≡ names_now log n)
    → ((n : List ℕ) → names_in new n ≡ names_in old n) → names_in new ≡ names_now log
in_order log old new a b = fun_ext (λ n. b n ∙ a n)

some_names : (a b : Names) → Some a ≡ Some b → a ≡ b
some_names a b e = cc

pub list_right : (table : Table) (names made : List (List ℕ)) (prefix : List ℕ) (now s : Names)
    → HasNamesInOrder table names → made ≡ listed_in (names_in table) prefix names → names_in table ≡ now
    → Some now ≡ Some s → AreListed s prefix made
list_right table names made prefix now s order is e f =
    subst (λ (u : Names). AreListed u prefix made) (e ∙ some_names now s f)
    (subst (λ (xs : List (List ℕ)). AreListed (names_in table) prefix xs) (sym is) (listed_right table names prefix order))

pub crash_right : (picks : List ℕ) (table : Table) (names held : List (List ℕ)) (rows : List FirstName)
    (calls : List DiskStep) (s : Names) → HasNamesInOrder table names → held ≡ held_in (names_in table) names
    → rows ≡ rows_picked picks 0 (names_in table) held → calls ≡ [] → names_in table ≡ s
    → (i : Image) × (Some (run calls (names_of rows)) ≡ Some (names_showing i)) × IsImage s i × IsPicked picks s i
crash_right picks table names held rows calls s order h r none e =
    let all = held_in (names_in table) names in
    let i : Image = crashed picks 0 (names_in table) all in
    let made : rows ≡ rows_picked picks 0 (names_in table) all =
    r ∙ ap (λ (xs : List (List ℕ)). rows_picked picks 0 (names_in table) xs) h in
    let shown : names_of rows ≡ names_showing i =
    fun_ext (λ n. ap (λ (u : List FirstName). names_of u n) made ∙ rows_show picks 0 (names_in table) all n) in (
      i,
      ap (λ (xs : List DiskStep). Some (run xs (names_of rows))) none ∙ ap Some shown,
      subst (λ (u : Names). IsImage u i) e (picked_image picks table names order),
      subst (λ (u : Names). IsPicked picks u i) e (picked_right picks table names order),
    )
