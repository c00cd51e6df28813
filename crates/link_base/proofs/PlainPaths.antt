-- The paths of plain coordinates and modules are paths of files.
use Rattle.std.proofs.Common.{◌≡◌, ℕ, Bool, true, false, not, ◌&&◌, ◌||◌, ◌==◌, List, [], ◌∷◌, ◌++◌, refl, sym, ◌∙◌, append_assoc, codes, append-nil, inl, inr}
use Rattle.std.specs.List.{list_all}
use Rattle.std.proofs.lemmas.Bool.{and_parts, and_from, or_left, cases_Bool}
use Rattle.ascii_bytes.specs.Classes.{is_word_byte, is_plain_byte}
use Rattle.res_base.specs.Plain.{is_dot, goes_on_as_org, is_at_most_two_dots, is_plain_org, is_plain_name, is_plain_module, is_plain_coord}
use Rattle.res_base.specs.Paths.{slashed, slashed_byte, file_stem, dash_of, pom_path_of, file_path_of, listing_path_of}
use Rattle.res_base.specs.declared.coord.Coord.{Coord}
use Rattle.res_base.specs.declared.coord.Module.{Module}
use Rattle.link_base.specs.FilePaths.{is_segment_byte, is_segment, is_file_path}
use Rattle.link_base.proofs.Segments.{not_at, list_all_both, list_all_weaker, segment_before, segment_alone, longer_segment}

plain_in_segment : (b : ℕ) → is_plain_byte b ≡ true → is_segment_byte b ≡ true
plain_in_segment b p = or_left (is_plain_byte b) (b == 126) p

word_in_segment : (b : ℕ) → is_word_byte b ≡ true → is_segment_byte b ≡ true
word_in_segment b p = plain_in_segment b (or_left (is_word_byte b) (b == 46 || b == 43) p)

plain_bytes : (name : List ℕ) → is_plain_name name ≡ true → list_all is_plain_byte name ≡ true
plain_bytes name p =
    (and_parts (list_all is_plain_byte name) (not (is_at_most_two_dots name)) p).0

-- a plain name is a segment
pub name_is_segment : (name : List ℕ) → is_plain_name name ≡ true → is_segment name ≡ true
name_is_segment name p =
    let both = and_parts (list_all is_plain_byte name) (not (is_at_most_two_dots name)) p in
    and_from (list_all is_segment_byte name) (not (is_at_most_two_dots name))
    (list_all_weaker is_plain_byte is_segment_byte plain_in_segment name (plain_bytes name p)) both.1

-- so is a part of an org
word_is_segment : (b : ℕ) (word : List ℕ) → list_all is_word_byte (b ∷ word) ≡ true → is_segment (b ∷ word) ≡ true
word_is_segment b word p =
    let both = and_parts (is_word_byte b) (list_all is_word_byte word) p in
    and_from (list_all is_segment_byte (b ∷ word)) (not (is_at_most_two_dots (b ∷ word)))
    (list_all_weaker is_word_byte is_segment_byte word_in_segment (b ∷ word) p)
    (rw (not_at is_word_byte 46 b refl both.0) refl)

word_then : (word : List ℕ) (b : ℕ) → list_all is_word_byte word ≡ true → is_word_byte b ≡ true
    → is_segment (word ++ (b ∷ [])) ≡ true
word_then [] b p q = word_is_segment b [] (and_from (is_word_byte b) true q refl)
word_then (c ∷ word) b p q =
    word_is_segment c (word ++ (b ∷ []))
    (list_all_both is_word_byte (c ∷ word) (b ∷ []) p (and_from (is_word_byte b) true q refl))

from_second : (a b : Bool) → a ≡ false → (a || b) ≡ true → b ≡ true
from_second a b n h = rw n at h

slashed_word : (b : ℕ) → is_word_byte b ≡ true → slashed_byte b ≡ b
slashed_word b p = rw (not_at is_word_byte 46 b refl p) refl

-- an org whose first part has begun with this word, as a folder before a path
org_before : (word text rest : List ℕ) (in_part : Bool) → list_all is_word_byte word ≡ true
    → (in_part ≡ true → is_segment word ≡ true) → goes_on_as_org in_part text ≡ true → is_file_path rest ≡ true
    → is_file_path ((word ++ slashed text) ++ (47 ∷ rest)) ≡ true
org_before word [] rest in_part w s g r = rw append-nil (segment_before word rest (s g) r)
org_before word (b ∷ text) rest in_part w s g r =
    let both = and_parts (is_word_byte b || (is_dot b && in_part)) (goes_on_as_org (is_word_byte b) text) g in
    elim (cases_Bool (is_word_byte b)) [
      | inl word_byte ↦
          let one : List ℕ = b ∷ [] in
          let longer = list_all_both is_word_byte word one w (and_from (is_word_byte b) true word_byte refl) in
          rw (slashed_word b word_byte, ← append_assoc word one (slashed text))
          (org_before (word ++ one) text rest (is_word_byte b) longer (λ _. word_then word b w word_byte) both.1 r)
      | inr other_byte ↦
          let ends = from_second (is_word_byte b) (is_dot b && in_part) other_byte both.0 in
          let dot = and_parts (is_dot b) in_part ends in
          let no_word : is_word_byte b ≡ true → is_segment [] ≡ true =
          λ e. let bad : false ≡ true = sym other_byte ∙ e in cc in
          let after : is_file_path (slashed text ++ (47 ∷ rest)) ≡ true =
          org_before [] text rest (is_word_byte b) refl no_word both.1 r in
          rw (dot.0, append_assoc word (47 ∷ slashed text) (47 ∷ rest))
          (segment_before word (slashed text ++ (47 ∷ rest)) (s dot.1) after)
    ]

no_word : false ≡ true → is_segment [] ≡ true
no_word e = cc

-- the folder of an org before a path
org_folder : (org rest : List ℕ) → is_plain_org org ≡ true → is_file_path rest ≡ true
    → is_file_path (slashed org ++ (47 ∷ rest)) ≡ true
org_folder org rest p r = org_before [] org rest false refl no_word p r

-- a path of a coordinate, its parts to the right
abbrev after_org : List ℕ → List ℕ → List ℕ → List ℕ
after_org name version rest = name ++ (47 ∷ (version ++ (47 ∷ (name ++ (45 ∷ (version ++ rest))))))

stem_parts : (c : Coord) (rest : List ℕ)
    → file_stem c ++ rest ≡ slashed c.«module».org ++ (47 ∷ after_org c.«module».name c.version rest)
stem_parts c rest = simp append_assoc

-- what begins as the files of a plain coordinate do, and goes on with plain bytes
stem_path_is_file_path : (c : Coord) (rest : List ℕ) → is_plain_coord c ≡ true → list_all is_plain_byte rest ≡ true
    → is_file_path (file_stem c ++ rest) ≡ true
stem_path_is_file_path c rest p q =
    let org = c.«module».org in
    let name = c.«module».name in
    let version = c.version in
    let both = and_parts (is_plain_module c.«module») (is_plain_name version) p in
    let parts = and_parts (is_plain_org org) (is_plain_name name) both.0 in
    let after : List ℕ = 45 ∷ (version ++ rest) in
    let bytes : list_all is_plain_byte after ≡ true =
    list_all_both is_plain_byte version rest (plain_bytes version both.1) q in
    let segment = list_all_weaker is_plain_byte is_segment_byte plain_in_segment after bytes in
    let file : is_file_path (name ++ after) ≡ true =
    segment_alone (name ++ after) (longer_segment name after (name_is_segment name parts.1) segment refl) in
    let in_version = segment_before version (name ++ after) (name_is_segment version both.1) file in
    let in_name = segment_before name (version ++ (47 ∷ (name ++ after))) (name_is_segment name parts.1) in_version in
    rw (stem_parts c rest) (org_folder org (after_org name version rest) parts.0 in_name)

-- the POM of a plain coordinate has a path of a file
pub pom_path_is_file_path : (c : Coord) → is_plain_coord c ≡ true → is_file_path (pom_path_of c) ≡ true
pom_path_is_file_path c p = stem_path_is_file_path c (codes ".pom") p refl

dash_is_plain : (classifier : List ℕ) → list_all is_plain_byte (dash_of classifier) ≡ true
dash_is_plain [] = refl
dash_is_plain (b ∷ classifier) = refl

-- so has each file of it whose extension and classifier have plain bytes alone; there may be no classifier
pub file_path_is_file_path : (c : Coord) (ext classifier : List ℕ) → is_plain_coord c ≡ true
    → list_all is_plain_byte ext ≡ true → list_all is_plain_byte classifier ≡ true
    → is_file_path (file_path_of c ext classifier) ≡ true
file_path_is_file_path c ext classifier p e k =
    stem_path_is_file_path c (dash_of classifier ++ (classifier ++ (46 ∷ ext))) p
    (list_all_both is_plain_byte (dash_of classifier) (classifier ++ (46 ∷ ext)) (dash_is_plain classifier)
    (list_all_both is_plain_byte classifier (46 ∷ ext) k e))

listing_parts : (m : Module) → listing_path_of m ≡ slashed m.org ++ (47 ∷ (m.name ++ (47 ∷ codes "maven-metadata.xml")))
listing_parts m = simp append_assoc

-- the listing of a plain module has a path of a file
pub listing_path_is_file_path : (m : Module) → is_plain_module m ≡ true → is_file_path (listing_path_of m) ≡ true
listing_path_is_file_path m p =
    let parts = and_parts (is_plain_org m.org) (is_plain_name m.name) p in
    let file : is_file_path (m.name ++ (47 ∷ codes "maven-metadata.xml")) ≡ true =
    segment_before m.name (codes "maven-metadata.xml") (name_is_segment m.name parts.1) refl in
    rw (listing_parts m) (org_folder m.org (m.name ++ (47 ∷ codes "maven-metadata.xml")) parts.0 file)
