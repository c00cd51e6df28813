-- A text has at most one place: the length of its longest prefix that goes on.
use Rattle.std.proofs.Common.{◌≡◌, ℕ, ◌+◌, ◌<◌, ◌≤◌, List, ◌++◌, length, take, drop, sym, ◌∙◌, ap, subst, arith}
use Rattle.std.proofs.lemmas.List.{take-append-drop, take-take, append_assoc}
use Rattle.fault_place.specs.Place.{GoesOn, IsPlace}

-- a shorter prefix goes on too
pub shorter_goes_on : (accepts : List ℕ → Type 0) (text : List ℕ) (m n : ℕ) → m ≤ n → GoesOn accepts (take n text)
    → GoesOn accepts (take m text)
shorter_goes_on accepts text m n short (rest, is) =
    let between = drop m (take n text) in
    let prefix : take m text ++ between ≡ take n text =
    rw (← take-take m n text short) (take-append-drop m (take n text)) in
    let whole : take m text ++ (between ++ rest) ≡ take n text ++ rest = sym (append_assoc (take m text) between rest)
    ∙ ap (λ xs. xs ++ rest) prefix in
    (between ++ rest, subst accepts (sym whole) is)

pub goes_on_below : (accepts : List ℕ → Type 0) (text : List ℕ) (place k : ℕ) → IsPlace accepts text place → k ≤ place
    → GoesOn accepts (take k text)
goes_on_below accepts text place k is below = shorter_goes_on accepts text k place below is.goes_on

pub none_above : (accepts : List ℕ → Type 0) (text : List ℕ) (place k : ℕ) → IsPlace accepts text place → place < k
    → k ≤ length text → GoesOn accepts (take k text) → ⊥
none_above accepts text place k is above within goes_on =
    is.no_more (omega arith) (shorter_goes_on accepts text (place + 1) k (omega arith) goes_on)

pub one_place : (accepts : List ℕ → Type 0) (text : List ℕ) (m n : ℕ) → IsPlace accepts text m
    → IsPlace accepts text n → m ≡ n
one_place accepts text m n p q =
    let not_below : m < n → ⊥ = λ below. none_above accepts text m n p below q.within q.goes_on in
    let not_above : n < m → ⊥ = λ above. none_above accepts text n m q above p.within p.goes_on in
    omega (arith, not_below, not_above)
