-- Each artifact has a row.
use Rattle.std.proofs.Common.{◌≡◌, ◌<◌, ℕ, zero, suc, true, Option, None, Some, List, [], ◌∷◌, ◌++◌, length, map, get_or, refl, sym, ◌∙◌, ap, subst, ⊎_elim, arith}
use Rattle.std.specs.Prelude.{All, IsSome, slice_get}
use Rattle.std.specs.List.{cons_option, filter_map}
use Rattle.std.specs.Option.{option_to_list}
use Rattle.std.proofs.lemmas.List.Elements.{filter_map-append}
use Rattle.std.proofs.lemmas.Option.{slice_get-get_or}
use Rattle.cache_layout.specs.Names.{name_of}
use Rattle.class_path.specs.Files.{AreFileRows, IsFileRow, row_for, row_of}
use Rattle.class_path.specs.declared.rows.FileRow.{FileRow}
use Rattle.class_path.proofs.Keys.{AreFileKeys, IsFileKey}
use Rattle.project_lookup.specs.KnownPairs.{AreFit, stands_at}
use Rattle.res_base.specs.Known.{Known, known_of}
use Rattle.res_base.specs.Members.{Among}
use Rattle.res_base.specs.Paths.{url_at}
use Rattle.res_base.specs.declared.key.FileKey.{FileKey}
use Rattle.res_base.specs.declared.reading.Reading.{Reading}

one_row : {X : Type 0} (o : Option X) → option_to_list o ≡ cons_option o []
one_row None = refl
one_row (Some x) = refl

-- one more key
pub row_more : (f : FileKey → Option FileRow) (keys : List FileKey) (key : FileKey) (rows new : List FileRow) (row : Option FileRow) → rows ≡ filter_map f keys → row ≡ f key → new ≡ rows ++ option_to_list row → new ≡ filter_map f (keys ++ key ∷ [])
row_more f keys key rows new row old here is =
    is ∙ ap (λ (o : Option FileRow). rows ++ option_to_list o) here ∙ ap (λ z. z ++ option_to_list (f key)) old ∙ ap (λ z. filter_map f keys ++ z) (one_row (f key)) ∙ sym (filter_map-append f keys (key ∷ []))

all_rest : {A : Type 0} (P : A → Type 0) (x : A) (xs : List A) → All P (x ∷ xs) → All P xs
all_rest P x xs all k d h = all (suc k) d (omega (arith, h))

all_first : {A : Type 0} (P : A → Type 0) (x : A) (xs : List A) → All P (x ∷ xs) → P x
all_first P x xs all = all 0 x (omega arith)

all_more : {A : Type 0} (P : A → Type 0) (x : A) (xs : List A) → P x → All P xs → All P (x ∷ xs)
all_more P x xs here rest zero d h = here
all_more P x xs here rest (suc k) d h = rest k d (omega (arith, h))

among_all : {A : Type 0} (P : A → Type 0) (x : A) (xs : List A) → Among x xs → All P xs → P x
among_all P x [] among all = absurd among
among_all P x (y ∷ ys) among all = ⊎_elim (λ (e : x ≡ y). subst P (sym e) (all_first P y ys all)) (λ (m : Among x ys). among_all P x ys m (all_rest P y ys all)) among

module _ (known : Known) (addresses : List (List ℕ)) where
  -- the row of a key that is known, in a repository that has an address
  some_row : (key : FileKey) → key.repo < length addresses → IsSome (known key) → (row : FileRow) × ((row_for known addresses key ≡ Some row) × ((row.key ≡ key) × (known key ≡ Some row.reading)))
  some_row key h some = by (known key) refl
    where
      by : (found : Option Reading) → known key ≡ found → (row : FileRow) × ((row_for known addresses key ≡ Some row) × ((row.key ≡ key) × (known key ≡ Some row.reading)))
      by None e = absurd (let none : IsSome {T = Reading} None = subst (λ (o : Option Reading). IsSome o) e some in cc none)
      by (Some reading) e =
          let address : List ℕ = get_or addresses key.repo [] in
          let there : slice_get addresses key.repo ≡ Some address = slice_get-get_or addresses key.repo [] h in
          (record { key = key; name = name_of (url_at address key.path); reading = reading }, (ap (λ (o : Option (List ℕ)). row_of key o (known key)) there ∙ ap (λ (o : Option Reading). row_of key (Some address) o) e, (refl, e)))

  pub all_keys : (keys : List FileKey) → AreFileKeys (length addresses) keys → All (λ (key : FileKey). IsSome (known key)) keys → map (λ (row : FileRow). row.key) (filter_map (row_for known addresses) keys) ≡ keys
  all_keys [] within some = refl
  all_keys (key ∷ keys) within some =
      let row = some_row key (all_first (λ (k : FileKey). IsFileKey (length addresses) k) key keys within).0 (all_first (λ (k : FileKey). IsSome (known k)) key keys some) in
      rw row.1.0 (ap (λ (k : FileKey). k ∷ map (λ (r : FileRow). r.key) (filter_map (row_for known addresses) keys)) row.1.1.0
      ∙ ap (λ z. key ∷ z) (all_keys keys (all_rest (λ (k : FileKey). IsFileKey (length addresses) k) key keys within) (all_rest (λ (k : FileKey). IsSome (known k)) key keys some)))

  module _ (fit : (key : FileKey) (reading : Reading) → known key ≡ Some reading → stands_at reading key.role ≡ true) where
    pub all_fit : (keys : List FileKey) → AreFileKeys (length addresses) keys → All (λ (key : FileKey). IsSome (known key)) keys → AreFileRows (length addresses) (filter_map (row_for known addresses) keys)
    all_fit [] within some = λ k d h. absurd (omega (arith, h))
    all_fit (key ∷ keys) within some =
        let here : IsFileKey (length addresses) key = all_first (λ (k : FileKey). IsFileKey (length addresses) k) key keys within in
        let row = some_row key here.0 (all_first (λ (k : FileKey). IsSome (known k)) key keys some) in
        let rest : AreFileRows (length addresses) (filter_map (row_for known addresses) keys) = all_fit keys (all_rest (λ (k : FileKey). IsFileKey (length addresses) k) key keys within) (all_rest (λ (k : FileKey). IsSome (known k)) key keys some) in
        let same : row.0.key ≡ key = row.1.1.0 in
        let first : IsFileRow (length addresses) row.0 = record {
          repository = subst (λ (k : FileKey). k.repo < length addresses) (sym same) here.0;
          role = ap (λ (k : FileKey). k.role) same ∙ here.1;
          reading = subst (λ r. stands_at row.0.reading r ≡ true) here.1 (fit key row.0.reading row.1.1.1);
        } in
        rw row.1.0 (all_more (λ (r : FileRow). IsFileRow (length addresses) r) row.0 (filter_map (row_for known addresses) keys) first rest)

-- what is known of a key is a reading of its role
pub known_fit : (pairs : List (FileKey × Reading)) (repos : ℕ) → AreFit repos pairs → ((key : FileKey) (reading : Reading) → known_of pairs key ≡ Some reading → Among (key, reading) pairs)
    → (key : FileKey) (reading : Reading) → known_of pairs key ≡ Some reading → stands_at reading key.role ≡ true
known_fit pairs repos fit among key reading is = (among_all (λ (pair : FileKey × Reading). (pair.0.repo < repos) × (stands_at pair.1 pair.0.role ≡ true)) (key, reading) pairs (among key reading is) fit).1
