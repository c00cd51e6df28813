-- The reader of constraints is right.
use Rattle.std.proofs.Common.{◌≡◌, ℕ, inl, inr, Bool, true, false, if◌then◌else◌, not, ◌&&◌, List, [], ◌∷◌, ◌++◌, length, ◌-◌, arith, length-append, refl, sym, ◌∙◌, ap, subst, Option, Some, None}
use Rattle.std.specs.Prelude.{IfSome, ◌==◌, codes}
use Rattle.std.specs.List.{list_all}
use Rattle.std.specs.Str.{bytes_eq}
use Rattle.std.proofs.lemmas.Bool.{cond_both, and_parts, and_from, or_from, eqb-true, cases_Bool, false≢true}
use Rattle.std.proofs.lemmas.List.{append_assoc, append-nil}
use Rattle.std.proofs.Math.Seq.{get_or-append_seam}
use Rattle.std.proofs.lemmas.List.Folds.{list_all-append}
use Rattle.std.proofs.lemmas.Slice.Eq.{bytes_eq-Decides}
use Rattle.fault_place.specs.Reader.{goes_with, reads, IsRight, Accepts}
use Rattle.fault_place.proofs.Readers.{at_start, spelled}
use Rattle.interval_sets.specs.declared.interval.Interval.{Interval}
use Rattle.ascii_bytes.specs.Classes.{is_blank, is_plain_byte}
use Rattle.version_order.specs.declared.constraint.Constraint.{Constraint}
use Rattle.version_order.specs.declared.constraint.Constraint.TheVariants.{Any, Plain, Within}
use Rattle.version_order.specs.Constraints.{has_some, last_byte, is_reserved, is_bound, is_plain, IsPadded, IsOptional, opening, closing, interval_of, only, IsPair, IsSingle, IsConstraint}
use Rattle.version_order.specs.ConstraintReader.{Side, first, second, State, begin, in_plain, opened, before, inside, after, closed, ends, step, outcome, Leads, Fits, constraint_reader}

-- ---- bytes

all_more : (p : ℕ → Bool) (xs : List ℕ) (b : ℕ) → list_all p xs ≡ true → p b ≡ true → list_all p (xs ++ b ∷ []) ≡ true
all_more p xs b f g = list_all-append p xs (b ∷ []) ∙ and_from (list_all p xs) (p b && true) f (rw g refl)

has_more : (xs : List ℕ) (b : ℕ) → has_some (xs ++ b ∷ []) ≡ true
has_more [] b = refl
has_more (x ∷ xs) b = refl

bound_more : (xs : List ℕ) (b : ℕ) → is_bound xs ≡ true → is_plain_byte b ≡ true → is_bound (xs ++ b ∷ []) ≡ true
bound_more xs b f g =
    and_from (list_all is_plain_byte (xs ++ b ∷ [])) (has_some (xs ++ b ∷ []))
    (all_more is_plain_byte xs b (and_parts (list_all is_plain_byte xs) (has_some xs) f).0 g) (has_more xs b)

bound_first : (b : ℕ) → is_plain_byte b ≡ true → is_bound (b ∷ []) ≡ true
bound_first b g = rw g refl

-- a byte of a class is not one that the class lacks
pub apart : (p : ℕ → Bool) (b k : ℕ) → p b ≡ true → p k ≡ false → (b == k) ≡ false
apart p b k e f =
    elim (cases_Bool (b == k)) [ inl is ↦ absurd (false≢true (sym f ∙ ap p (sym (eqb-true b k is)) ∙ e)) | inr other ↦ other ]

pub plain_not_blank : (c : ℕ) → is_plain_byte c ≡ true → is_blank c ≡ false
plain_not_blank c e = or_from (c == 32) (c == 9) (apart is_plain_byte c 32 e refl) (apart is_plain_byte c 9 e refl)

-- ---- each step keeps what is known of the prefix

kept_by : (b : Bool) (x y : Option State) (front : List ℕ) → (b ≡ true → IfSome x (λ t. Fits t front))
    → (b ≡ false → IfSome y (λ t. Fits t front)) → IfSome (if b then x else y) (λ t. Fits t front)
kept_by b x y front f g = cond_both b x y (λ o. IfSome o (λ t. Fits t front)) f g

ends_keeps : (side : Side) (bound : Option (List ℕ)) (lead text front : List ℕ) (c : ℕ) → Leads side lead
    → IsOptional text bound → front ≡ lead ++ (text ++ c ∷ []) → IfSome (ends side bound c) (λ t. Fits t front)
ends_keeps (first true) (Some bound) lead text front c leads is whole =
    kept_by (c == 44) _ _ front
    (λ e. (text, is, rw (whole, leads, eqb-true c 44 e) refl))
    (λ _. kept_by (c == 93) _ _ front (λ e. inr (record { bound = bound; inner = text; whole = rw (whole, leads, eqb-true c 93 e) refl; is_inner = is; says = refl })) (λ _. tt))
ends_keeps (first true) None lead text front c leads is whole =
    kept_by (c == 44) _ _ front (λ e. (text, is, rw (whole, leads, eqb-true c 44 e) refl)) (λ _. tt)
ends_keeps (first false) bound lead text front c leads is whole =
    kept_by (c == 44) _ _ front (λ e. (text, is, rw (whole, leads, eqb-true c 44 e) refl)) (λ _. tt)
ends_keeps (second square lower) bound lead text front c leads is whole =
    let low = leads.0 in
    let all : front ≡ opening square ∷ (low ++ 44 ∷ (text ++ c ∷ [])) = whole
    ∙ ap (λ x. x ++ (text ++ c ∷ [])) leads.2
    ∙ ap (λ x. opening square ∷ x) (append_assoc low (44 ∷ []) (text ++ c ∷ [])) in
    kept_by (c == 93) _ _ front
    (λ e. inl (record { square = square; square_end = true; lower = lower; upper = bound; low = low; high = text; whole = all ∙ ap (λ b. opening square ∷ (low ++ 44 ∷ (text ++ b ∷ []))) (eqb-true c 93 e); is_low = leads.1; is_high = is; says = refl }))
    (λ _. kept_by (c == 41) _ _ front
    (λ e. inl (record { square = square; square_end = false; lower = lower; upper = bound; low = low; high = text; whole = all ∙ ap (λ b. opening square ∷ (low ++ 44 ∷ (text ++ b ∷ []))) (eqb-true c 41 e); is_low = leads.1; is_high = is; says = refl }))
    (λ _. tt))

keeps : (s : State) (front : List ℕ) (c : ℕ) → Fits s front → IfSome (step s c) (λ t. Fits t (front ++ c ∷ []))
keeps begin front c fits =
    kept_by (c == 91) _ _ (front ++ c ∷ []) (λ e. rw (fits, eqb-true c 91 e) refl)
    (λ _. kept_by (c == 40) _ _ (front ++ c ∷ []) (λ e. rw (fits, eqb-true c 40 e) refl)
    (λ _. kept_by (is_plain_byte c) _ _ (front ++ c ∷ []) (λ e. (rw fits refl, bound_first c e)) (λ _. tt)))
keeps (in_plain text) front c fits =
    kept_by (is_plain_byte c) _ _ (front ++ c ∷ []) (λ e. (ap (λ x. x ++ c ∷ []) fits.0, bound_more text c fits.1 e))
    (λ _. tt)
keeps (opened side) front c leads =
    kept_by (is_blank c) _ _ (front ++ c ∷ [])
    (λ e. record { lead = front; blanks = c ∷ []; leads = leads; are_blank = rw e refl; whole = refl })
    (λ _. kept_by (is_plain_byte c) _ _ (front ++ c ∷ []) (λ e. record { lead = front; blanks = []; leads = leads; are_blank = refl; bounds = bound_first c e; whole = refl })
    (λ _. ends_keeps side None front [] (front ++ c ∷ []) c leads refl refl))
keeps (before side) front c fits =
    let whole : front ++ c ∷ [] ≡ fits.lead ++ (fits.blanks ++ c ∷ []) = ap (λ x. x ++ c ∷ []) fits.whole
    ∙ append_assoc fits.lead fits.blanks (c ∷ []) in
    kept_by (is_blank c) _ _ (front ++ c ∷ [])
    (λ e. record { lead = fits.lead; blanks = fits.blanks ++ c ∷ []; leads = fits.leads; are_blank = all_more is_blank fits.blanks c fits.are_blank e; whole = whole })
    (λ _. kept_by (is_plain_byte c) _ _ (front ++ c ∷ []) (λ e. record { lead = fits.lead; blanks = fits.blanks; leads = fits.leads; are_blank = fits.are_blank; bounds = bound_first c e; whole = whole })
    (λ _. tt))
keeps (inside side bound) front c fits =
    let whole : front ++ c ∷ [] ≡ fits.lead ++ ((fits.blanks ++ bound) ++ c ∷ []) = ap (λ x. x ++ c ∷ []) fits.whole
    ∙ append_assoc fits.lead (fits.blanks ++ bound) (c ∷ []) in
    let grouped : front ++ c ∷ [] ≡ fits.lead ++ (fits.blanks ++ (bound ++ c ∷ [])) = whole
    ∙ ap (λ x. fits.lead ++ x) (append_assoc fits.blanks bound (c ∷ [])) in
    let is : IsPadded (fits.blanks ++ bound) bound = record { before = fits.blanks; after = []; whole = rw append-nil refl; blank_before = fits.are_blank; blank_after = refl; bounds = fits.bounds } in
    kept_by (is_blank c) _ _ (front ++ c ∷ [])
    (λ e. record { lead = fits.lead; text = fits.blanks ++ (bound ++ c ∷ []); leads = fits.leads; padded = record { before = fits.blanks; after = c ∷ []; whole = refl; blank_before = fits.are_blank; blank_after = rw e refl; bounds = fits.bounds }; whole = grouped })
    (λ _. kept_by (is_plain_byte c) _ _ (front ++ c ∷ []) (λ e. record { lead = fits.lead; blanks = fits.blanks; leads = fits.leads; are_blank = fits.are_blank; bounds = bound_more bound c fits.bounds e; whole = grouped })
    (λ _. ends_keeps side (Some bound) fits.lead (fits.blanks ++ bound) (front ++ c ∷ []) c fits.leads is whole))
keeps (after side bound) front c fits =
    let whole : front ++ c ∷ [] ≡ fits.lead ++ (fits.text ++ c ∷ []) = ap (λ x. x ++ c ∷ []) fits.whole
    ∙ append_assoc fits.lead fits.text (c ∷ []) in
    let is = fits.padded in
    kept_by (is_blank c) _ _ (front ++ c ∷ [])
    (λ e. record {
      lead = fits.lead;
      text = fits.text ++ c ∷ [];
      leads = fits.leads;
      padded =
          record { before = is.before; after = is.after ++ c ∷ []; whole = ap (λ x. x ++ c ∷ []) is.whole ∙ append_assoc is.before (bound ++ is.after) (c ∷ []) ∙ ap (λ x. is.before ++ x) (append_assoc bound is.after (c ∷ [])); blank_before = is.blank_before; blank_after = all_more is_blank is.after c is.blank_after e; bounds = is.bounds };
      whole = whole;
    })
    (λ _. ends_keeps side (Some bound) fits.lead fits.text (front ++ c ∷ []) c fits.leads is whole)
keeps (closed interval) front c fits = tt

-- ---- what is read is spelled

gives : (s : State) (front : List ℕ) (value : Constraint) → Fits s front → outcome s ≡ Some value
    → IsConstraint front value
gives begin front value fits e = let same : Any ≡ value = cc in subst (IsConstraint front) same fits
gives (in_plain text) front value fits e =
    let go = cond_both (is_plain text) (Some (Plain text)) None (λ o. o ≡ Some value → IsConstraint front value)
    (λ w same. let is : Plain text ≡ value = cc in subst (IsConstraint front) is (fits.0, w))
    (λ w same. let never : ⊥ = cc in absurd never) in
    go e
gives (opened side) front value fits e = let never : ⊥ = cc in absurd never
gives (before side) front value fits e = let never : ⊥ = cc in absurd never
gives (inside side bound) front value fits e = let never : ⊥ = cc in absurd never
gives (after side bound) front value fits e = let never : ⊥ = cc in absurd never
gives (closed interval) front value fits e =
    let same : Within interval ≡ value = cc in subst (IsConstraint front) same fits

-- ---- what is spelled is read

after_reads : (blanks bound rest : List ℕ) (side : Side) (c : ℕ) → list_all is_blank blanks ≡ true
    → is_blank c ≡ false
    → reads constraint_reader (blanks ++ c ∷ rest) (after side bound) ≡ goes_with (ends side (Some bound) c)
    (reads constraint_reader rest)
after_reads [] bound rest side c e f = rw f refl
after_reads (b ∷ blanks) bound rest side c e f =
    let both = and_parts (is_blank b) (list_all is_blank blanks) e in
    rw both.0 (after_reads blanks bound rest side c both.1 f)

inside_after : (blanks bound rest : List ℕ) (side : Side) (c : ℕ) → list_all is_blank blanks ≡ true
    → is_blank c ≡ false → is_plain_byte c ≡ false
    → reads constraint_reader (blanks ++ c ∷ rest) (inside side bound) ≡ goes_with (ends side (Some bound) c)
    (reads constraint_reader rest)
inside_after [] bound rest side c e f g = rw (f, g) refl
inside_after (b ∷ blanks) bound rest side c e f g =
    let both = and_parts (is_blank b) (list_all is_blank blanks) e in
    rw both.0 (after_reads blanks bound rest side c both.1 f)

inside_reads : (text bound rest : List ℕ) (side : Side) → list_all is_plain_byte text ≡ true
    → reads constraint_reader (text ++ rest) (inside side bound) ≡ reads constraint_reader rest
    (inside side (bound ++ text))
inside_reads [] bound rest side e = rw append-nil refl
inside_reads (b ∷ text) bound rest side e =
    let both = and_parts (is_plain_byte b) (list_all is_plain_byte text) e in
    let whole : (bound ++ b ∷ []) ++ text ≡ bound ++ b ∷ text = append_assoc bound (b ∷ []) text in
    rw (plain_not_blank b both.0, both.0) (rw whole at (inside_reads text (bound ++ b ∷ []) rest side both.1))

before_reads : (blanks bound rest : List ℕ) (side : Side) → list_all is_blank blanks ≡ true → is_bound bound ≡ true
    → reads constraint_reader (blanks ++ (bound ++ rest)) (before side) ≡ reads constraint_reader rest
    (inside side bound)
before_reads [] [] rest side e f = absurd (false≢true f)
before_reads [] (b ∷ bound) rest side e f =
    let bytes = and_parts (list_all is_plain_byte (b ∷ bound)) true f in
    let both = and_parts (is_plain_byte b) (list_all is_plain_byte bound) bytes.0 in
    rw (plain_not_blank b both.0, both.0) (inside_reads bound (b ∷ []) rest side both.1)
before_reads (b ∷ blanks) bound rest side e f =
    let both = and_parts (is_blank b) (list_all is_blank blanks) e in
    rw both.0 (before_reads blanks bound rest side both.1 f)

opened_reads : (blanks bound rest : List ℕ) (side : Side) → list_all is_blank blanks ≡ true → is_bound bound ≡ true
    → reads constraint_reader (blanks ++ (bound ++ rest)) (opened side) ≡ reads constraint_reader rest
    (inside side bound)
opened_reads [] [] rest side e f = absurd (false≢true f)
opened_reads [] (b ∷ bound) rest side e f =
    let bytes = and_parts (list_all is_plain_byte (b ∷ bound)) true f in
    let both = and_parts (is_plain_byte b) (list_all is_plain_byte bound) bytes.0 in
    rw (plain_not_blank b both.0, both.0) (inside_reads bound (b ∷ []) rest side both.1)
opened_reads (b ∷ blanks) bound rest side e f =
    let both = and_parts (is_blank b) (list_all is_blank blanks) e in
    rw both.0 (before_reads blanks bound rest side both.1 f)

optional_reads : (text rest : List ℕ) (bound : Option (List ℕ)) (side : Side) (c : ℕ) → IsOptional text bound
    → is_blank c ≡ false → is_plain_byte c ≡ false
    → reads constraint_reader (text ++ c ∷ rest) (opened side) ≡ goes_with (ends side bound c)
    (reads constraint_reader rest)
optional_reads text rest None side c is f g =
    ap (λ x. reads constraint_reader (x ++ c ∷ rest) (opened side)) is ∙ rw (f, g) refl
optional_reads text rest (Some bound) side c is f g =
    ap (λ x. reads constraint_reader (x ++ c ∷ rest) (opened side)) is.whole
    ∙ ap (λ x. reads constraint_reader x (opened side))
    (append_assoc is.before (bound ++ is.after) (c ∷ rest) ∙ ap (λ x. is.before ++ x) (append_assoc bound is.after (c ∷ rest)))
    ∙ opened_reads is.before bound (is.after ++ c ∷ rest) side is.blank_before is.bounds
    ∙ inside_after is.after bound rest side c is.blank_after f g

plain_reads : (text begun : List ℕ) → list_all is_plain_byte text ≡ true
    → reads constraint_reader text (in_plain begun) ≡ outcome (in_plain (begun ++ text))
plain_reads [] begun e = rw append-nil refl
plain_reads (b ∷ text) begun e =
    let both = and_parts (is_plain_byte b) (list_all is_plain_byte text) e in
    let whole : (begun ++ b ∷ []) ++ text ≡ begun ++ b ∷ text = append_assoc begun (b ∷ []) text in
    rw both.0 (rw whole at (plain_reads text (begun ++ b ∷ []) both.1))

plain_taken : (text : List ℕ) → is_plain text ≡ true → reads constraint_reader text begin ≡ Some (Plain text)
plain_taken [] is = absurd (false≢true is)
plain_taken (b ∷ text) is =
    let parts = and_parts (is_bound (b ∷ text)) (not (last_byte (b ∷ text) == 43) && not (is_reserved (b ∷ text))) is in
    let bytes = and_parts (list_all is_plain_byte (b ∷ text)) true parts.0 in
    let both = and_parts (is_plain_byte b) (list_all is_plain_byte text) bytes.0 in
    rw (apart is_plain_byte b 91 both.0 refl, apart is_plain_byte b 40 both.0 refl, both.0)
    (plain_reads text (b ∷ []) both.1 ∙ ap (λ t. if t then Some (Plain (b ∷ text)) else None) is)

closes : (square : Bool) (lower upper : Option (List ℕ)) (square_end : Bool)
    → goes_with (ends (second square lower) upper (closing square_end)) (reads constraint_reader []) ≡ Some
    (Within (interval_of square lower upper square_end))
closes square lower upper true = refl
closes square lower upper false = refl

closing_apart : (square : Bool) → (is_blank (closing square) ≡ false) × (is_plain_byte (closing square) ≡ false)
closing_apart true = (refl, refl)
closing_apart false = (refl, refl)

opens : (square : Bool) (rest : List ℕ)
    → reads constraint_reader (opening square ∷ rest) begin ≡ reads constraint_reader rest (opened (first square))
opens true rest = refl
opens false rest = refl

pub comma : (square : Bool) (bound : Option (List ℕ))
    → ends (first square) bound 44 ≡ Some (opened (second square bound))
comma true (Some bound) = refl
comma true None = refl
comma false bound = refl

pair_taken : (text : List ℕ) (interval : Interval (List ℕ)) → IsPair text interval
    → reads constraint_reader text begin ≡ Some (Within interval)
pair_taken text interval is =
    ap (λ x. reads constraint_reader x begin) is.whole
    ∙ opens is.square (is.low ++ 44 ∷ (is.high ++ closing is.square_end ∷ []))
    ∙ optional_reads is.low (is.high ++ closing is.square_end ∷ []) is.lower (first is.square) 44 is.is_low refl refl
    ∙ ap (λ o. goes_with o (reads constraint_reader (is.high ++ closing is.square_end ∷ []))) (comma is.square is.lower)
    ∙ optional_reads is.high [] is.upper (second is.square is.lower) (closing is.square_end) is.is_high
    (closing_apart is.square_end).0 (closing_apart is.square_end).1
    ∙ closes is.square is.lower is.upper is.square_end
    ∙ ap (λ i. Some (Within i)) is.says

single_taken : (text : List ℕ) (interval : Interval (List ℕ)) → IsSingle text interval
    → reads constraint_reader text begin ≡ Some (Within interval)
single_taken text interval is =
    ap (λ x. reads constraint_reader x begin) is.whole
    ∙ optional_reads is.inner [] (Some is.bound) (first true) 93 is.is_inner refl refl
    ∙ ap (λ i. Some (Within i)) is.says

takes : (text : List ℕ) (value : Constraint) → IsConstraint text value → reads constraint_reader text begin ≡ Some value
takes text Any is = ap (λ x. reads constraint_reader x begin) is
takes text (Plain version) is = ap (λ x. reads constraint_reader x begin) is.0 ∙ plain_taken version is.1
takes text (Within interval) (inl is) = pair_taken text interval is
takes text (Within interval) (inr is) = single_taken text interval is

-- ---- no state is a dead end: a letter that ends no reserved word makes a bound a plain text

last_one : (xs : List ℕ) (c : ℕ) → last_byte (xs ++ c ∷ []) ≡ c
last_one xs c =
    let e : length (xs ++ c ∷ []) - 1 ≡ length xs = rw length-append (omega arith) in
    rw e (get_or-append_seam xs c [] 0)

no_word : (xs word : List ℕ) → (last_byte word == 97) ≡ false → bytes_eq (xs ++ 97 ∷ []) word ≡ false
no_word xs word e =
    elim (cases_Bool (bytes_eq (xs ++ 97 ∷ []) word)) [
      | inl same ↦ absurd (false≢true (sym e ∙ ap (λ w. last_byte w == 97) (sym ((bytes_eq-Decides (xs ++ 97 ∷ []) word).0 same)) ∙ ap (λ c. c == 97) (last_one xs 97)))
      | inr other ↦ other
    ]

plain_on : (text : List ℕ) → is_bound text ≡ true → is_plain (text ++ 97 ∷ []) ≡ true
plain_on text e =
    rw
    (bound_more text 97 e refl, last_one text 97, no_word text (codes "latest.release") refl, no_word text (codes "latest.integration") refl, no_word text (codes "LATEST") refl, no_word text (codes "RELEASE") refl) refl

lives : (s : State) (front : List ℕ) → Fits s front
    → (rest : List ℕ) × (value : Constraint) × (reads constraint_reader rest s ≡ Some value)
lives begin front fits = ([], Any, refl)
lives (in_plain text) front fits =
    (97 ∷ [], Plain (text ++ 97 ∷ []), ap (λ t. if t then Some (Plain (text ++ 97 ∷ [])) else None) (plain_on text fits.1))
lives (opened (first true)) front fits = (44 ∷ 93 ∷ [], Within (interval_of true None None true), refl)
lives (opened (first false)) front fits = (44 ∷ 93 ∷ [], Within (interval_of false None None true), refl)
lives (opened (second square lower)) front fits = (93 ∷ [], Within (interval_of square lower None true), refl)
lives (before (first true)) front fits = (49 ∷ 93 ∷ [], Within (only (49 ∷ [])), refl)
lives (before (first false)) front fits =
    (49 ∷ 44 ∷ 93 ∷ [], Within (interval_of false (Some (49 ∷ [])) None true), refl)
lives (before (second square lower)) front fits =
    (49 ∷ 93 ∷ [], Within (interval_of square lower (Some (49 ∷ [])) true), refl)
lives (inside (first true) bound) front fits = (93 ∷ [], Within (only bound), refl)
lives (inside (first false) bound) front fits = (44 ∷ 93 ∷ [], Within (interval_of false (Some bound) None true), refl)
lives (inside (second square lower) bound) front fits =
    (93 ∷ [], Within (interval_of square lower (Some bound) true), refl)
lives (after (first true) bound) front fits = (93 ∷ [], Within (only bound), refl)
lives (after (first false) bound) front fits = (44 ∷ 93 ∷ [], Within (interval_of false (Some bound) None true), refl)
lives (after (second square lower) bound) front fits =
    (93 ∷ [], Within (interval_of square lower (Some bound) true), refl)
lives (closed interval) front fits = ([], Within interval, refl)

pub right : IsRight constraint_reader IsConstraint
right = record { begins = refl; keeps = keeps; gives = gives; takes = takes; lives = lives }

-- the relation and the reader agree
pub read_is : (text : List ℕ) (value : Constraint) → reads constraint_reader text begin ≡ Some value
    → IsConstraint text value
read_is text value e = spelled right text [] begin value (at_start right) e

pub is_read : (text : List ℕ) (value : Constraint) → IsConstraint text value
    → reads constraint_reader text begin ≡ Some value
is_read = takes

pub not_read : (text : List ℕ) → (Accepts IsConstraint text → ⊥) → reads constraint_reader text begin ≡ None
not_read text outside = by (reads constraint_reader text begin) refl
  where
    by : (read : Option Constraint) → reads constraint_reader text begin ≡ read → read ≡ None
    by None e = refl
    by (Some value) e = absurd (outside (value, spelled right text [] begin value (at_start right) e))
