-- Paths of files: a segment alone, a segment before a path, a path with a suffix.
use Rattle.std.proofs.Common.{◌≡◌, ℕ, Bool, true, false, not, ◌&&◌, ◌==◌, List, [], ◌∷◌, ◌++◌, refl, sym, ◌∙◌, ap, subst, append_assoc, append-nil, codes, inl, inr}
use Rattle.std.specs.List.{list_all, slice_split}
use Rattle.std.proofs.lemmas.Bool.{and_parts, and_from, cases_Bool, eqb-true, false_from_ne_true, not-true, not_from_false}
use Rattle.std.proofs.lemmas.List.Folds.{list_all-append}
use Rattle.res_base.specs.Plain.{is_dot, is_at_most_two_dots}
use Rattle.link_base.specs.FilePaths.{is_segment_byte, is_segment, is_slash, is_file_path}

-- a byte that passes a test is no byte that does not
pub not_at : (test : ℕ → Bool) (k b : ℕ) → test k ≡ false → test b ≡ true → (b == k) ≡ false
not_at test k b f t =
    false_from_ne_true (b == k)
    (λ e. let same : b ≡ k = eqb-true b k e in let bad : false ≡ true = sym f ∙ (ap test (sym same) ∙ t) in cc)

pub list_all_both : (test : ℕ → Bool) (a b : List ℕ) → list_all test a ≡ true → list_all test b ≡ true
    → list_all test (a ++ b) ≡ true
list_all_both test a b p q = list_all-append test a b ∙ and_from (list_all test a) (list_all test b) p q

pub list_all_weaker : (one other : ℕ → Bool) → ((b : ℕ) → one b ≡ true → other b ≡ true) → (text : List ℕ)
    → list_all one text ≡ true → list_all other text ≡ true
list_all_weaker one other w [] p = refl
list_all_weaker one other w (b ∷ text) p =
    let both = and_parts (one b) (list_all one text) p in
    and_from (other b) (list_all other text) (w b both.0) (list_all_weaker one other w text both.1)

-- a byte that ends no segment
abbrev is_other : ℕ → Bool
is_other byte = not (is_slash byte)

segment_has_no_slash : (segment : List ℕ) → is_segment segment ≡ true → list_all is_other segment ≡ true
segment_has_no_slash segment p =
    list_all_weaker is_segment_byte is_other
    (λ b h. not_from_false (is_slash b) (not_at is_segment_byte 47 b refl h)) segment
    (and_parts (list_all is_segment_byte segment) (not (is_at_most_two_dots segment)) p).0

-- a word without a slash is split off at the slash after it
split_first : (word rest : List ℕ) → list_all is_other word ≡ true
    → slice_split is_slash (word ++ (47 ∷ rest)) ≡ word ∷ slice_split is_slash rest
split_first [] rest p = refl
split_first (b ∷ word) rest p =
    let both = and_parts (is_other b) (list_all is_other word) p in
    rw (not-true (is_slash b) both.0, split_first word rest both.1) refl

-- alone it is the one part
split_last : (word : List ℕ) → list_all is_other word ≡ true → slice_split is_slash word ≡ word ∷ []
split_last [] p = refl
split_last (b ∷ word) p =
    let both = and_parts (is_other b) (list_all is_other word) p in
    rw (not-true (is_slash b) both.0, split_last word both.1) refl

path_parts : (word rest : List ℕ) → list_all is_other word ≡ true
    → is_file_path (word ++ (47 ∷ rest)) ≡ (is_segment word && is_file_path rest)
path_parts word rest p = ap (list_all is_segment) (split_first word rest p)

path_part : (word : List ℕ) → list_all is_other word ≡ true → is_file_path word ≡ (is_segment word && true)
path_part word p = ap (list_all is_segment) (split_last word p)

-- a segment before a path makes a path
pub segment_before : (segment rest : List ℕ) → is_segment segment ≡ true → is_file_path rest ≡ true
    → is_file_path (segment ++ (47 ∷ rest)) ≡ true
segment_before segment rest p q =
    path_parts segment rest (segment_has_no_slash segment p) ∙ and_from (is_segment segment) (is_file_path rest) p q

-- a segment alone is one
pub segment_alone : (segment : List ℕ) → is_segment segment ≡ true → is_file_path segment ≡ true
segment_alone segment p =
    path_part segment (segment_has_no_slash segment p) ∙ and_from (is_segment segment) true p refl

and_false : (b : Bool) → (b && false) ≡ false
and_false true = refl
and_false false = refl

not_all_dots : (a b : List ℕ) → list_all is_dot b ≡ false → list_all is_dot (a ++ b) ≡ false
not_all_dots [] b p = p
not_all_dots (x ∷ a) b p = rw (not_all_dots a b p) (and_false (is_dot x))

-- a longer segment: the suffix is not of dots alone
pub longer_segment : (segment suffix : List ℕ) → is_segment segment ≡ true → list_all is_segment_byte suffix ≡ true
    → list_all is_dot suffix ≡ false → is_segment (segment ++ suffix) ≡ true
longer_segment segment suffix p q d =
    let both = and_parts (list_all is_segment_byte segment) (not (is_at_most_two_dots segment)) p in
    let bytes = list_all_both is_segment_byte segment suffix both.0 q in
    and_from (list_all is_segment_byte (segment ++ suffix)) (not (is_at_most_two_dots (segment ++ suffix))) bytes
    (rw (not_all_dots segment suffix d) refl)

-- a path of which the first segment has begun with this word
longer_from : (word text suffix : List ℕ) → list_all is_other word ≡ true → is_file_path (word ++ text) ≡ true
    → list_all is_segment_byte suffix ≡ true → list_all is_dot suffix ≡ false
    → is_file_path (word ++ (text ++ suffix)) ≡ true
longer_from word [] suffix w p q d =
    let alone : is_file_path word ≡ true = ap is_file_path (sym (append-nil word)) ∙ p in
    let segment = (and_parts (is_segment word) true (sym (path_part word w) ∙ alone)).0 in
    segment_alone (word ++ suffix) (longer_segment word suffix segment q d)
longer_from word (b ∷ text) suffix w p q d =
    elim (cases_Bool (is_slash b)) [
      | inl slash ↦
          let is : b ≡ 47 = eqb-true b 47 slash in
          let cut : is_file_path (word ++ (47 ∷ text)) ≡ true =
          subst (λ c. is_file_path (word ++ (c ∷ text)) ≡ true) is p in
          let parts = and_parts (is_segment word) (is_file_path text) (sym (path_parts word text w) ∙ cut) in
          let rest : is_file_path (text ++ suffix) ≡ true = longer_from [] text suffix refl parts.1 q d in
          subst (λ c. is_file_path (word ++ (c ∷ (text ++ suffix))) ≡ true) (sym is)
          (segment_before word (text ++ suffix) parts.0 rest)
      | inr other ↦
          let one = b ∷ [] in
          let longer : list_all is_other (word ++ one) ≡ true =
          list_all_both is_other word one w (and_from (is_other b) true (not_from_false (is_slash b) other) refl) in
          let moved : is_file_path ((word ++ one) ++ text) ≡ true = ap is_file_path (append_assoc word one text) ∙ p in
          ap is_file_path (sym (append_assoc word one (text ++ suffix)))
          ∙ longer_from (word ++ one) text suffix longer moved q d
    ]

-- a path with a suffix that is not of dots alone
pub file_path_with_suffix : (path suffix : List ℕ) → is_file_path path ≡ true → list_all is_segment_byte suffix ≡ true
    → list_all is_dot suffix ≡ false → is_file_path (path ++ suffix) ≡ true
file_path_with_suffix path suffix = longer_from [] path suffix refl

-- the paths of a file's checksum files
pub sha1_path_is_file_path : (path : List ℕ) → is_file_path path ≡ true → is_file_path (path ++ codes ".sha1") ≡ true
sha1_path_is_file_path path p = file_path_with_suffix path (codes ".sha1") p refl refl

pub md5_path_is_file_path : (path : List ℕ) → is_file_path path ≡ true → is_file_path (path ++ codes ".md5") ≡ true
md5_path_is_file_path path p = file_path_with_suffix path (codes ".md5") p refl refl

pub sha256_path_is_file_path : (path : List ℕ) → is_file_path path ≡ true
    → is_file_path (path ++ codes ".sha256") ≡ true
sha256_path_is_file_path path p = file_path_with_suffix path (codes ".sha256") p refl refl
