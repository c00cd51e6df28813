-- Two plain coordinates have two POM paths, and two plain modules two listing paths.
use Rattle.std.proofs.Common.{◌≡◌, ℕ, Bool, true, false, cond, not, ◌&&◌, ◌||◌, List, [], ◌∷◌, ◌++◌, refl, sym, ◌∙◌, ap, subst, append_assoc}
use Rattle.std.specs.Prelude.{◌==◌, codes}
use Rattle.std.specs.List.{list_all}
use Rattle.std.proofs.lemmas.Bool.{and_parts, and_from, eqb-true, false_from_ne_true}
use Rattle.ascii_bytes.specs.Classes.{is_word_byte, is_plain_byte}
use Rattle.res_base.specs.Plain.{is_dot, goes_on_as_org, is_plain_org, is_plain_name, is_at_most_two_dots, is_plain_module, is_plain_coord}
use Rattle.res_base.specs.Paths.{slashed, slashed_byte, module_folder, pom_path_of, listing_path_of}
use Rattle.res_base.specs.declared.coord.Module.{Module}
use Rattle.res_base.specs.declared.coord.Coord.{Coord}

abbrev no_slash_byte : ℕ → Bool
no_slash_byte byte = not (byte == 47)

abbrev has_no_slash : List ℕ → Bool
has_no_slash text = list_all no_slash_byte text

-- a byte that passes a test which a slash does not pass is no slash
passes_no_slash : (test : ℕ → Bool) (byte : ℕ) → test 47 ≡ false → test byte ≡ true → no_slash_byte byte ≡ true
passes_no_slash test byte at_slash passes =
    let no : (byte == 47) ≡ false = false_from_ne_true (byte == 47)
    (λ e. let is : byte ≡ 47 = eqb-true byte 47 e in let bad : false ≡ true = sym at_slash
    ∙ (ap test (sym is) ∙ passes) in cc) in
    ap not no

all_no_slash : (test : ℕ → Bool) (text : List ℕ) → test 47 ≡ false → list_all test text ≡ true
    → has_no_slash text ≡ true
all_no_slash test [] at_slash e = refl
all_no_slash test (byte ∷ text) at_slash e =
    let both = and_parts (test byte) (list_all test text) e in
    and_from (no_slash_byte byte) (has_no_slash text) (passes_no_slash test byte at_slash both.0)
    (all_no_slash test text at_slash both.1)

no_slash-append : (a b : List ℕ) → has_no_slash a ≡ true → has_no_slash b ≡ true → has_no_slash (a ++ b) ≡ true
no_slash-append [] b p q = q
no_slash-append (byte ∷ a) b p q =
    let both = and_parts (no_slash_byte byte) (has_no_slash a) p in
    and_from (no_slash_byte byte) (has_no_slash (a ++ b)) both.0 (no_slash-append a b both.1 q)

name_no_slash : (name : List ℕ) → is_plain_name name ≡ true → has_no_slash name ≡ true
name_no_slash name plain = all_no_slash is_plain_byte name refl
    (and_parts (list_all is_plain_byte name) (not (is_at_most_two_dots name)) plain).0

-- what an org's byte may be
abbrev is_org_byte : ℕ → Bool
is_org_byte byte = is_word_byte byte || is_dot byte

org_byte : (in_part : Bool) (byte : ℕ) → (is_word_byte byte || (is_dot byte && in_part)) ≡ true
    → is_org_byte byte ≡ true
org_byte true byte e = by (is_word_byte byte) (is_dot byte) e
  where
    by : (word dot : Bool) → (word || (dot && true)) ≡ true → (word || dot) ≡ true
    by true dot h = refl
    by false true h = refl
    by false false h = h
org_byte false byte e = by (is_word_byte byte) (is_dot byte) e
  where
    by : (word dot : Bool) → (word || (dot && false)) ≡ true → (word || dot) ≡ true
    by true dot h = refl
    by false true h = refl
    by false false h = h

org_bytes : (in_part : Bool) (org : List ℕ) → goes_on_as_org in_part org ≡ true → list_all is_org_byte org ≡ true
org_bytes in_part [] e = refl
org_bytes in_part (byte ∷ org) e =
    let both = and_parts (is_word_byte byte || (is_dot byte && in_part)) (goes_on_as_org (is_word_byte byte) org) e in
    and_from (is_org_byte byte) (list_all is_org_byte org) (org_byte in_part byte both.0)
    (org_bytes (is_word_byte byte) org both.1)

org_no_slash : (org : List ℕ) → is_plain_org org ≡ true → has_no_slash org ≡ true
org_no_slash org plain = all_no_slash is_org_byte org refl (org_bytes false org plain)

-- where the last slash stands

head_same : (a b : ℕ) (xs ys : List ℕ) → a ∷ xs ≡ b ∷ ys → a ≡ b
head_same a b xs ys e = cc

tail_same : (a b : ℕ) (xs ys : List ℕ) → a ∷ xs ≡ b ∷ ys → xs ≡ ys
tail_same a b xs ys e = cc

slash_inside : (a b : List ℕ) → has_no_slash (a ++ 47 ∷ b) ≡ true → ⊥
slash_inside [] b e = cc
slash_inside (byte ∷ a) b e = slash_inside a b (and_parts (no_slash_byte byte) (has_no_slash (a ++ 47 ∷ b)) e).1

same_behind_slash : (x y a b : List ℕ) → has_no_slash a ≡ true → has_no_slash b ≡ true → x ++ 47 ∷ a ≡ y ++ 47 ∷ b
    → (x ≡ y) × (a ≡ b)
same_behind_slash [] [] a b p q e = (refl, tail_same 47 47 a b e)
same_behind_slash [] (byte ∷ y) a b p q e = absurd (slash_inside y b
    (subst (λ text. has_no_slash text ≡ true) (tail_same 47 byte a (y ++ 47 ∷ b) e) p))
same_behind_slash (byte ∷ x) [] a b p q e = absurd (slash_inside x a
    (subst (λ text. has_no_slash text ≡ true) (sym (tail_same byte 47 (x ++ 47 ∷ a) b e)) q))
same_behind_slash (c ∷ x) (d ∷ y) a b p q e =
    let rest = same_behind_slash x y a b p q (tail_same c d (x ++ 47 ∷ a) (y ++ 47 ∷ b) e) in
    let first : c ≡ d = head_same c d (x ++ 47 ∷ a) (y ++ 47 ∷ b) e in
    let front : x ≡ y = rest.0 in
    ((cc), rest.1)

-- two orgs have two folders

byte_same : (c d : ℕ) → no_slash_byte c ≡ true → no_slash_byte d ≡ true → slashed_byte c ≡ slashed_byte d → c ≡ d
byte_same c d p q e = by (c == 46) (d == 46) refl refl e
  where
    slash_not : (byte : ℕ) → no_slash_byte byte ≡ true → 47 ≡ byte → ⊥
    slash_not byte h is = let bad : no_slash_byte 47 ≡ true = subst (λ b. no_slash_byte b ≡ true) (sym is) h in cc

    by : (s t : Bool) → (c == 46) ≡ s → (d == 46) ≡ t → cond s 47 c ≡ cond t 47 d → c ≡ d
    by true true k l h = eqb-true c 46 k ∙ sym (eqb-true d 46 l)
    by true false k l h = absurd (slash_not d q h)
    by false true k l h = absurd (slash_not c p (sym h))
    by false false k l h = h

org_same : (a b : List ℕ) → has_no_slash a ≡ true → has_no_slash b ≡ true → slashed a ≡ slashed b → a ≡ b
org_same [] [] p q e = refl
org_same [] (d ∷ b) p q e = absurd (cc)
org_same (c ∷ a) [] p q e = absurd (cc)
org_same (c ∷ a) (d ∷ b) p q e =
    let left = and_parts (no_slash_byte c) (has_no_slash a) p in
    let right = and_parts (no_slash_byte d) (has_no_slash b) q in
    let rest : a ≡ b = org_same a b left.1 right.1 (tail_same (slashed_byte c) (slashed_byte d) (slashed a)
    (slashed b) e) in
    let first : c ≡ d = byte_same c d left.0 right.0 (head_same (slashed_byte c) (slashed_byte d) (slashed a)
    (slashed b) e) in
    cc

module_same : (m n : Module) → is_plain_module m ≡ true → is_plain_module n ≡ true → module_folder m ≡ module_folder n
    → m ≡ n
module_same m n p q e =
    let left = and_parts (is_plain_org m.org) (is_plain_name m.name) p in
    let right = and_parts (is_plain_org n.org) (is_plain_name n.name) q in
    let parts = same_behind_slash (slashed m.org) (slashed n.org) m.name n.name (name_no_slash m.name left.1)
    (name_no_slash n.name right.1) e in
    let org : m.org ≡ n.org = org_same m.org n.org (org_no_slash m.org left.0) (org_no_slash n.org right.0) parts.0 in
    ap (λ x. record { org = x; name = m.name }) org ∙ ap (λ x. record { org = n.org; name = x }) parts.1

pub listing_paths_apart : (m n : Module) → is_plain_module m ≡ true → is_plain_module n ≡ true
    → listing_path_of m ≡ listing_path_of n → m ≡ n
listing_paths_apart m n p q e =
    let file : List ℕ = codes "maven-metadata.xml" in
    module_same m n p q (same_behind_slash (module_folder m) (module_folder n) file file refl refl e).0

-- name-version.pom
abbrev pom_file : Coord → List ℕ
pom_file c = c.«module».name ++ 45 ∷ (c.version ++ codes ".pom")

pom_parts : (folder name version end : List ℕ) → (folder ++ 47 ∷ (version ++ 47 ∷ (name ++ 45 ∷ version))) ++ end
    ≡ (folder ++ 47 ∷ version) ++ 47 ∷ (name ++ 45 ∷ (version ++ end))
pom_parts folder name version end = simp append_assoc refl

pub pom_paths_apart : (c d : Coord) → is_plain_coord c ≡ true → is_plain_coord d ≡ true
    → pom_path_of c ≡ pom_path_of d → c ≡ d
pom_paths_apart c d p q e =
    let left = and_parts (is_plain_module c.«module») (is_plain_name c.version) p in
    let right = and_parts (is_plain_module d.«module») (is_plain_name d.version) q in
    let file_no_slash : (x : Coord) → is_plain_module x.«module» ≡ true → is_plain_name x.version ≡ true
    → has_no_slash (pom_file x) ≡ true =
    λ x module_plain version_plain.
    let name = (and_parts (is_plain_org x.«module».org) (is_plain_name x.«module».name) module_plain).1 in
    no_slash-append x.«module».name (45 ∷ (x.version ++ codes ".pom")) (name_no_slash x.«module».name name)
    (no_slash-append x.version (codes ".pom") (name_no_slash x.version version_plain) refl) in
    let parts : (x : Coord) → pom_path_of x ≡ (module_folder x.«module» ++ 47 ∷ x.version) ++ 47 ∷ pom_file x =
    λ x. pom_parts (module_folder x.«module») x.«module».name x.version (codes ".pom") in
    let folders = same_behind_slash (module_folder c.«module» ++ 47 ∷ c.version)
    (module_folder d.«module» ++ 47 ∷ d.version) (pom_file c) (pom_file d)
    (file_no_slash c left.0 left.1) (file_no_slash d right.0 right.1) (sym (parts c) ∙ (e ∙ parts d)) in
    let both = same_behind_slash (module_folder c.«module») (module_folder d.«module») c.version d.version
    (name_no_slash c.version left.1) (name_no_slash d.version right.1) folders.0 in
    let module_is : c.«module» ≡ d.«module» = module_same c.«module» d.«module» left.0 right.0 both.0 in
    ap (λ m. record { «module» = m; version = c.version }) module_is
    ∙ ap (λ v. record { «module» = d.«module»; version = v }) both.1
