-- Runs of digits, found from the left.
use Rattle.std.proofs.Common.{◌≡◌, ℕ, ◌+◌, ◌-◌, ◌<◌, ◌≤◌, Bool, true, false, List, [], ◌∷◌, ◌++◌, length, take, drop, get_or, Some, None, refl, sym, ◌∙◌, ap, arith}
use Rattle.std.specs.List.{list_all}
use Rattle.std.proofs.lemmas.List.Folds.{list_all-append}
use Rattle.std.specs.Prelude.{◌==◌, ◌&&◌, slice_range, find}
use Rattle.std.proofs.lemmas.Bool.{and_parts, and_from, eq-eqb, ne_eqb}
use Rattle.std.proofs.lemmas.List.{take-append-drop, take_more, drop_more, drop-drop, get_or-drop, length-drop, length-take, take_all}
use Rattle.ascii_bytes.specs.Classes.{is_hex_digit}
use Rattle.digest_check.specs.ChecksumFiles.{digit_runs, first_run}

-- a run up to another byte, and a run up to the end
split_run : (run rest : List ℕ) (byte : ℕ) → list_all is_hex_digit run ≡ true → is_hex_digit byte ≡ false
    → digit_runs (run ++ byte ∷ rest) ≡ run ∷ digit_runs rest
split_run [] rest byte all other = rw other refl
split_run (b ∷ run) rest byte all other =
    let both = and_parts (is_hex_digit b) (list_all is_hex_digit run) all in
    rw (both.0, split_run run rest byte both.1 other) refl

split_last : (run : List ℕ) → list_all is_hex_digit run ≡ true → digit_runs run ≡ run ∷ []
split_last [] all = refl
split_last (b ∷ run) all =
    let both = and_parts (is_hex_digit b) (list_all is_hex_digit run) all in
    rw (both.0, split_last run both.1) refl

-- the text from a place on, cut at a later byte
cut_at : (text : List ℕ) (start i : ℕ) → start ≤ i → i < length text
    → drop start text ≡ slice_range text start i ++ get_or text i 0 ∷ drop (i + 1) text
cut_at text start i h k =
    let on : start + (i - start) ≡ i = omega arith in
    let rest : drop (i - start) (drop start text) ≡ get_or text i 0 ∷ drop (i + 1) text =
    drop-drop (i - start) start text ∙ (ap (λ n. drop n text) on ∙ drop_more text i 0 k) in
    sym (take-append-drop (i - start) (drop start text)) ∙ ap (λ xs. take (i - start) (drop start text) ++ xs) rest

pub length_range : (text : List ℕ) (start i : ℕ) → start ≤ i → i ≤ length text
    → length (slice_range text start i) ≡ i - start
length_range text start i h k = let within : i - start ≤ length (drop start text) =
    simp length-drop (omega arith) in simp (length-take, length-drop) (omega arith)

first_of : (len : ℕ) (run : List ℕ) (runs : List (List ℕ)) → length run ≡ len
    → find (λ r. length r == len) (run ∷ runs) ≡ Some run
first_of len run runs e = rw (eq-eqb (length run) len e) refl

not_first : (len : ℕ) (run : List ℕ) (runs : List (List ℕ)) → (length run ≡ len → ⊥)
    → find (λ r. length r == len) (run ∷ runs) ≡ find (λ r. length r == len) runs
not_first len run runs ne = rw (ne_eqb (length run) len ne) refl

-- the runs from `start` on, where only digits stand up to the byte at i, which is none
pub run_found : (text : List ℕ) (len start i : ℕ) → start ≤ i → i < length text
    → list_all is_hex_digit (slice_range text start i) ≡ true → is_hex_digit (get_or text i 0) ≡ false → i - start ≡ len
    → first_run len (drop start text) ≡ Some (slice_range text start i)
run_found text len start i h k all other e =
    let run = slice_range text start i in
    let size : length run ≡ len = length_range text start i h (omega arith) ∙ e in
    let rest = drop (i + 1) text in
    ap (first_run len) (cut_at text start i h k) ∙ (ap (find (λ r. length r == len))
    (split_run run rest (get_or text i 0) all other) ∙ first_of len run (digit_runs rest) size)

pub run_passed : (text : List ℕ) (len start i : ℕ) → start ≤ i → i < length text
    → list_all is_hex_digit (slice_range text start i) ≡ true → is_hex_digit (get_or text i 0) ≡ false
    → (i - start ≡ len → ⊥)
    → first_run len (drop start text) ≡ first_run len (drop (i + 1) text)
run_passed text len start i h k all other ne =
    let run = slice_range text start i in
    let size : length run ≡ i - start = length_range text start i h (omega arith) in
    rw (cut_at text start i h k, split_run run (drop (i + 1) text) (get_or text i 0) all other)
    (not_first len run (digit_runs (drop (i + 1) text)) (λ e. ne (sym size ∙ e)))

-- the run from `start` on, where only digits stand up to the end
rest_is : (text : List ℕ) (start : ℕ) → take (length text - start) (drop start text) ≡ drop start text
rest_is text start = take_all (length text - start) (drop start text) (simp length-drop (omega arith))

pub rest_digits : (text : List ℕ) (start i : ℕ) → i ≤ length text → length text ≤ i
    → list_all is_hex_digit (slice_range text start i) ≡ true
    → list_all is_hex_digit (take (length text - start) (drop start text)) ≡ true
rest_digits text start i h k all = let end : i ≡ length text =
    omega arith in ap (λ n. list_all is_hex_digit (take (n - start) (drop start text))) (sym end) ∙ all

pub last_found : (text : List ℕ) (len start : ℕ) → list_all is_hex_digit
    (take (length text - start) (drop start text)) ≡ true → length (take (length text - start) (drop start text)) ≡ len
    → first_run len (drop start text) ≡ Some (take (length text - start) (drop start text))
last_found text len start all e =
    let run = take (length text - start) (drop start text) in
    ap (first_run len) (sym (rest_is text start)) ∙ (ap (find (λ r. length r == len)) (split_last run all)
    ∙ first_of len run [] e)

pub last_passed : (text : List ℕ) (len start : ℕ) → list_all is_hex_digit
    (take (length text - start) (drop start text)) ≡ true
    → (length (take (length text - start) (drop start text)) ≡ len → ⊥) → first_run len (drop start text) ≡ None
last_passed text len start all ne =
    let run = take (length text - start) (drop start text) in
    ap (first_run len) (sym (rest_is text start)) ∙ (ap (find (λ r. length r == len)) (split_last run all)
    ∙ not_first len run [] ne)

-- a run goes on by a digit, and none has begun behind another byte
all_one_more : (test : ℕ → Bool) (xs : List ℕ) (b : ℕ) → list_all test xs ≡ true → test b ≡ true
    → list_all test (xs ++ b ∷ []) ≡ true
all_one_more test xs b e f = list_all-append test xs (b ∷ [])
    ∙ and_from (list_all test xs) (test b && true) e (rw f refl)

pub run_more : (text : List ℕ) (start i : ℕ) → start ≤ i → i < length text
    → list_all is_hex_digit (slice_range text start i) ≡ true → is_hex_digit (get_or text i 0) ≡ true
    → list_all is_hex_digit (slice_range text start (i + 1)) ≡ true
run_more text start i h k all digit =
    let within : i - start < length (drop start text) = simp length-drop (omega arith) in
    let on : i + 1 - start ≡ i - start + 1 = omega arith in
    let place : start + (i - start) ≡ i = omega arith in
    let at : get_or (drop start text) (i - start) 0 ≡ get_or text i 0 = get_or-drop start text (i - start) 0
    ∙ ap (λ n. get_or text n 0) place in
    let more : slice_range text start (i + 1) ≡ slice_range text start i ++ get_or text i 0 ∷ [] =
    ap (λ n. take n (drop start text)) on ∙ (take_more (drop start text) (i - start) 0 within
    ∙ ap (λ b. take (i - start) (drop start text) ++ b ∷ []) at) in
    rw more (all_one_more is_hex_digit (slice_range text start i) (get_or text i 0) all digit)

pub run_begins : (text : List ℕ) (i : ℕ) → list_all is_hex_digit (slice_range text i i) ≡ true
run_begins text i = let none : i - i ≡ 0 = omega arith in rw none refl
