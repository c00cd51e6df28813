-- The lines are those of the tree: the number of lines suffices, since each edge has one line at most.
use Rattle.std.proofs.Common.{◌≡◌, ◌<◌, ◌≤◌, ◌+◌, ◌⊎◌, ◌||◌, ℕ, zero, suc, Bool, true, false, not, Option, None, Some, List, [], ◌∷◌, ◌++◌, cond, length, map, refl, sym, ◌∙◌, ap, subst, ⊎_elim, arith, eqb, eq-eqb}
use Rattle.std.specs.Prelude.{is_none}
use Rattle.std.proofs.lemmas.Bool.Decides.{eqb_tells}
use Rattle.std.proofs.lemmas.List.{append-nil, append_assoc, length-append, length-map}
use Rattle.node_edges.specs.Edges.{edges_of, root_edges, starts_at}
use Rattle.resolution.specs.declared.settled.Edge.{Edge}
use Rattle.tree_print.specs.Lines.{Branch, Line, branch_at, children, is_among, line_at, lines, tree_lines}
use Rattle.tree_print.specs.Trees.{AreLines, IsTree, again, first, nothing}

-- ---- how many edges go from modules without a line

abbrev is_open : List ℕ → Option ℕ → Bool
is_open above None = false
is_open above (Some source) = not (is_among above source)

abbrev add_if : Bool → ℕ → ℕ
add_if true n = suc n
add_if false n = n

abbrev open_count : List ℕ → List Edge → ℕ
open_count above [] = 0
open_count above (e ∷ edges) = add_if (is_open above e.source) (open_count above edges)

same_source : (e : Edge) (xs : List Edge) (n k : ℕ) → n ≡ length xs + k → suc n ≡ suc (length xs) + k
same_source e xs n k h = omega (arith, h)

other_source : (e : Edge) (xs : List Edge) (n k : ℕ) (b : Bool) → n ≡ length xs + k → add_if (not b) n ≡ length xs + add_if (not b) k
other_source e xs n k true h = h
other_source e xs n k false h = omega (arith, h)

not_equal : (a b : ℕ) → (a ≡ b → ⊥) → eqb b a ≡ false
not_equal a b ne = ⊎_elim (λ (p : (eqb b a ≡ true) × (b ≡ a)). absurd (ne (sym p.1))) (λ (p : (eqb b a ≡ false) × (b ≡ a → ⊥)). p.0) (eqb_tells b a)

split_step : (source : Option ℕ) (above : List ℕ) (target : ℕ) (e : Edge) (xs : List Edge) (n k : ℕ) → is_among above target ≡ false → n ≡ length xs + k → add_if (is_open above source) n ≡ length (cond (starts_at target source) (e ∷ xs) xs) + add_if (is_open (target ∷ above) source) k
split_step None above target e xs n k new h = h
split_step (Some source) above target e xs n k new h = ⊎_elim same other (eqb_tells target source)
  where
    G : Bool → Bool → Bool → Type 0
    G starts among equal = add_if (not among) n ≡ length (cond starts (e ∷ xs) xs) + add_if (not (equal || among)) k

    same : (eqb target source ≡ true) × (target ≡ source) → add_if (not (is_among above source)) n ≡ length (cond (eqb target source) (e ∷ xs) xs) + add_if (not (eqb source target || is_among above source)) k
    same (is, at) =
        let among : is_among above source ≡ false = subst (λ (s : ℕ). is_among above s ≡ false) at new in
        let equal : eqb source target ≡ true = eq-eqb source target (sym at) in
        subst (λ b. G b (is_among above source) (eqb source target)) (sym is) (subst (λ b. G true b (eqb source target)) (sym among) (subst (λ b. G true false b) (sym equal) (same_source e xs n k h)))

    other : (eqb target source ≡ false) × (target ≡ source → ⊥) → add_if (not (is_among above source)) n ≡ length (cond (eqb target source) (e ∷ xs) xs) + add_if (not (eqb source target || is_among above source)) k
    other (is, ne) =
        let equal : eqb source target ≡ false = not_equal target source ne in
        subst (λ b. G b (is_among above source) (eqb source target)) (sym is) (subst (λ b. G false (is_among above source) b) (sym equal) (other_source e xs n k (is_among above source) h))

-- a module's edges are open up to its first line
split : (edges : List Edge) (above : List ℕ) (target : ℕ) → is_among above target ≡ false → open_count above edges ≡ length (edges_of edges target) + open_count (target ∷ above) edges
split [] above target new = refl
split (e ∷ edges) above target new = split_step e.source above target e (edges_of edges target) (open_count above edges) (open_count (target ∷ above) edges) new (split edges above target new)

fewer_step : (source : Option ℕ) (above : List ℕ) (target : ℕ) (n k : ℕ) → k ≤ n → add_if (is_open (target ∷ above) source) k ≤ add_if (is_open above source) n
fewer_step None above target n k h = h
fewer_step (Some source) above target n k h = by (eqb source target) (is_among above source)
  where
    by : (equal among : Bool) → add_if (not (equal || among)) k ≤ add_if (not among) n
    by true true = h
    by true false = omega (arith, h)
    by false true = h
    by false false = omega (arith, h)

fewer : (edges : List Edge) (above : List ℕ) (target : ℕ) → open_count (target ∷ above) edges ≤ open_count above edges
fewer [] above target = omega arith
fewer (e ∷ edges) above target = fewer_step e.source above target (open_count above edges) (open_count (target ∷ above) edges) (fewer edges above target)

start_step : (source : Option ℕ) (e : Edge) (xs : List Edge) (n m : ℕ) → n + length xs ≡ m → add_if (is_open [] source) n + length (cond (is_none source) (e ∷ xs) xs) ≡ suc m
start_step None e xs n m h = omega (arith, h)
start_step (Some source) e xs n m h = omega (arith, h)

-- each edge is open, or goes from no module
start : (edges : List Edge) → open_count [] edges + length (root_edges edges) ≡ length edges
start [] = refl
start (e ∷ edges) = start_step e.source e (root_edges edges) (open_count [] edges) (length edges) (start edges)

-- ---- the lines of edges of one depth, and then the others

record Run (edges : List Edge) (left depth : ℕ) (above : List ℕ) (wanted : List Edge) (others : List Branch) : Type 0 where
  made : List Line
  after : List ℕ
  rest : ℕ
  less : rest ≤ left
  enough : open_count after edges + length others ≤ rest
  are : AreLines edges depth above wanted made after
  same : lines edges left above (map (branch_at depth) wanted ++ others) ≡ made ++ lines edges rest after others

module _ (edges : List Edge) (fuel left depth : ℕ) (above : List ℕ) (e : Edge) (wanted : List Edge) (others : List Branch) (h : suc left ≤ suc fuel) (enough : open_count above edges + (length (e ∷ wanted) + length others) ≤ suc left)
    (go : (left depth : ℕ) (above : List ℕ) (wanted : List Edge) (others : List Branch) → left ≤ fuel → open_count above edges + (length wanted + length others) ≤ left → Run edges left depth above wanted others) where
  abbrev behind : Bool → List Line
  behind among = line_at depth e among ∷ lines edges left (e.target ∷ above) (children edges among (branch_at depth e) ++ (map (branch_at depth) wanted ++ others))

  run_again : is_among above e.target ≡ true → Run edges (suc left) depth above (e ∷ wanted) others
  run_again is =
      let less : open_count (e.target ∷ above) edges ≤ open_count above edges = fewer edges above e.target in
      let later = go left depth (e.target ∷ above) wanted others (omega (arith, h)) (omega (arith, less, enough)) in
      let shorter : later.rest ≤ left = later.less in
      record {
        made = line_at depth e true ∷ later.made;
        after = later.after;
        rest = later.rest;
        less = omega (arith, shorter);
        enough = later.enough;
        are = again depth above e wanted later.made later.after is later.are;
        same = ap behind is ∙ ap (λ z. line_at depth e true ∷ z) later.same;
      }

  run_first : is_among above e.target ≡ false → Run edges (suc left) depth above (e ∷ wanted) others
  run_first is =
      let parts : open_count above edges ≡ length (edges_of edges e.target) + open_count (e.target ∷ above) edges = split edges above e.target is in
      let next : List Branch = map (branch_at depth) wanted ++ others in
      let many : length next ≡ length wanted + length others = length-append (map (branch_at depth) wanted) others ∙ ap (λ n. n + length others) (length-map wanted (branch_at depth)) in
      let below = go left (suc depth) (e.target ∷ above) (edges_of edges e.target) next (omega (arith, h)) (omega (arith, parts, many, enough)) in
      let below_less : below.rest ≤ left = below.less in
      let below_enough : open_count below.after edges + length next ≤ below.rest = below.enough in
      let later = go below.rest depth below.after wanted others (omega (arith, below_less, h)) (omega (arith, below_enough, many)) in
      let later_less : later.rest ≤ below.rest = later.less in
      record {
        made = line_at depth e false ∷ (below.made ++ later.made);
        after = later.after;
        rest = later.rest;
        less = omega (arith, later_less, below_less);
        enough = later.enough;
        are = first depth above e wanted below.made later.made below.after later.after is below.are later.are;
        same = ap behind is ∙ ap (λ z. line_at depth e false ∷ z) (below.same ∙ ap (λ z. below.made ++ z) later.same ∙ sym (append_assoc below.made later.made (lines edges later.rest later.after others)));
      }

  run_next : Run edges (suc left) depth above (e ∷ wanted) others
  run_next = by (is_among above e.target) refl
    where
      by : (among : Bool) → is_among above e.target ≡ among → Run edges (suc left) depth above (e ∷ wanted) others
      by true is = run_again is
      by false is = run_first is

run : (edges : List Edge) (fuel left depth : ℕ) (above : List ℕ) (wanted : List Edge) (others : List Branch) → left ≤ fuel → open_count above edges + (length wanted + length others) ≤ left → Run edges left depth above wanted others
run edges fuel left depth above [] others h enough = record { made = []; after = above; rest = left; less = omega arith; enough = omega (arith, enough); are = nothing depth above; same = refl }
run edges zero left depth above (e ∷ wanted) others h enough = absurd (omega (arith, h, enough))
run edges (suc fuel) zero depth above (e ∷ wanted) others h enough = absurd (omega (arith, h, enough))
run edges (suc fuel) (suc left) depth above (e ∷ wanted) others h enough =
    run_next edges fuel left depth above e wanted others h enough (λ l d a w o below many. run edges fuel l d a w o below many)

nothing_left : (edges : List Edge) (left : ℕ) (above : List ℕ) → lines edges left above [] ≡ []
nothing_left edges zero above = refl
nothing_left edges (suc left) above = refl

pub is_tree : (edges : List Edge) → IsTree edges (tree_lines edges)
is_tree edges =
    let all : open_count [] edges + length (root_edges edges) ≡ length edges = start edges in
    let whole = run edges (length edges) (length edges) 0 [] (root_edges edges) [] (omega arith) (omega (arith, all)) in
    let same : tree_lines edges ≡ whole.made =
    sym (ap (lines edges (length edges) []) (append-nil (map (branch_at 0) (root_edges edges)))) ∙ whole.same ∙ ap (λ z. whole.made ++ z) (nothing_left edges whole.rest whole.after) ∙ append-nil whole.made
    in
    (whole.after, subst (λ made. AreLines edges 0 [] (root_edges edges) made whole.after) (sym same) whole.are)
