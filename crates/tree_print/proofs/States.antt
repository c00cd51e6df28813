-- The state of the walk after a step.
use Rattle.std.proofs.Common.{◌≡◌, ◌<◌, ◌≤◌, ◌+◌, ℕ, zero, suc, Bool, true, false, Option, Some, List, [], ◌∷◌, ◌++◌, cond, length, map, replicate, reverse, get_or, set, refl, sym, ◌∙◌, ap, subst, arith, ◌⊎◌, ⊎_elim, eqb, ◌||◌}
use Rattle.std.specs.Prelude.{slice_get}
use Rattle.std.proofs.lemmas.Bool.Decides.{eqb_tells}
use Rattle.std.proofs.lemmas.List.{append-nil, length-replicate, length-set, map-append, reverse-append, reverse-reverse}
use Rattle.std.proofs.lemmas.Option.{slice_get_within}
use Rattle.node_edges.specs.Edges.{edges_of, root_edges}
use Rattle.node_edges.specs.Table.{ArePlaces}
use Rattle.resolution.specs.declared.settled.Edge.{Edge}
use Rattle.tree_print.specs.Lines.{Branch, branch_at, children, is_among, root_branches}
use Rattle.tree_print.specs.Stacks.{IsState, Marks, found, pending_at, wanted}
use Rattle.tree_print.specs.declared.pending.Pending.{Pending}

map-reverse : {A B : Type 0} (f : A → B) (xs : List A) → map f (reverse xs) ≡ reverse (map f xs)
map-reverse f [] = refl
map-reverse f (x ∷ xs) =
    ap (map f) (reverse-append (x ∷ []) xs) ∙ map-append f (reverse xs) (x ∷ []) ∙ ap (λ z. z ++ f x ∷ []) (map-reverse f xs) ∙ sym (reverse-append (f x ∷ []) (map f xs))

-- the top of the stack stands first
pub top_first : (edges : List Edge) (stack : List Pending) (top : Pending) → map (found edges) (reverse (stack ++ top ∷ [])) ≡ found edges top ∷ map (found edges) (reverse stack)
top_first edges stack top = ap (map (found edges)) (reverse-append stack (top ∷ []))

slice_get-set_same : {A : Type 0} (xs : List A) (i : ℕ) (x : A) → i < length xs → slice_get (set xs i x) i ≡ Some x
slice_get-set_same [] i x h = absurd (omega (arith, h))
slice_get-set_same (y ∷ xs) zero x h = refl
slice_get-set_same (y ∷ xs) (suc i) x h = slice_get-set_same xs i x (omega (arith, h))

slice_get-set_other : {A : Type 0} (xs : List A) (i j : ℕ) (x : A) → (j ≡ i → ⊥) → slice_get (set xs i x) j ≡ slice_get xs j
slice_get-set_other [] i j x ne = refl
slice_get-set_other (y ∷ xs) zero zero x ne = absurd (ne refl)
slice_get-set_other (y ∷ xs) zero (suc j) x ne = refl
slice_get-set_other (y ∷ xs) (suc i) zero x ne = refl
slice_get-set_other (y ∷ xs) (suc i) (suc j) x ne = slice_get-set_other xs i j x (λ e. ne (ap suc e))

-- one module more above
marked : (marks : List Bool) (above : List ℕ) (target : ℕ) → target < length marks → Marks marks above → Marks (set marks target true) (target ∷ above)
marked marks above target h old place within = ⊎_elim same other (eqb_tells place target)
  where
    same : (eqb place target ≡ true) × (place ≡ target) → slice_get (set marks target true) place ≡ Some (is_among (target ∷ above) place)
    same (is, e) = subst (λ (p : ℕ). slice_get (set marks target true) p ≡ Some true) (sym e) (slice_get-set_same marks target true h) ∙ ap (λ (b : Bool). Some (b || is_among above place)) (sym is)

    other : (eqb place target ≡ false) × (place ≡ target → ⊥) → slice_get (set marks target true) place ≡ Some (is_among (target ∷ above) place)
    other (is, ne) = slice_get-set_other marks target place true ne ∙ old place (subst (λ (n : ℕ). place < n) (length-set marks target true) within) ∙ ap (λ (b : Bool). Some (b || is_among above place)) (sym is)

-- edges that were found at their places are branches of one depth
branches_of : (edges : List Edge) (depth : ℕ) (places : List ℕ) (wants : List Edge) → ArePlaces edges places wants → map (found edges) (map (pending_at depth) places) ≡ map wanted (map (branch_at depth) wants)
branches_of edges depth [] [] is = refl
branches_of edges depth [] (e ∷ wants) is = cc
branches_of edges depth (at ∷ places) [] is = cc
branches_of edges depth (at ∷ places) (e ∷ wants) is =
    let here : slice_get edges at ≡ Some e = cc in
    let rest : ArePlaces edges places wants = cc in
    ap (λ (o : Option Edge). (depth, o) ∷ map (found edges) (map (pending_at depth) places)) here ∙ ap (λ z. wanted (branch_at depth e) ∷ z) (branches_of edges depth places wants rest)

pub pushed : (edges : List Edge) (stack : List Pending) (depth : ℕ) (places : List ℕ) (wants : List Edge) (branches : List Branch) → ArePlaces edges places wants → map (found edges) (reverse stack) ≡ map wanted branches
    → map (found edges) (reverse (stack ++ map (pending_at depth) (reverse places))) ≡ map wanted (map (branch_at depth) wants ++ branches)
pushed edges stack depth places wants branches are old =
    let turned : reverse (map (pending_at depth) (reverse places)) ≡ map (pending_at depth) places = sym (map-reverse (pending_at depth) (reverse places)) ∙ ap (map (pending_at depth)) (reverse-reverse places) in
    ap (map (found edges)) (reverse-append stack (map (pending_at depth) (reverse places)) ∙ ap (λ z. z ++ reverse stack) turned)
    ∙ map-append (found edges) (map (pending_at depth) places) (reverse stack)
    ∙ ap (λ z. z ++ map (found edges) (reverse stack)) (branches_of edges depth places wants are)
    ∙ ap (λ z. map wanted (map (branch_at depth) wants) ++ z) old
    ∙ sym (map-append wanted (map (branch_at depth) wants) branches)

-- the children of a branch, unless its module stands above
grown : (edges : List Edge) (stack : List Pending) (branch : Branch) (places : List ℕ) (branches : List Branch) (was : Bool) → ArePlaces edges places (edges_of edges branch.edge.target) → map (found edges) (reverse stack) ≡ map wanted branches
    → map (found edges) (reverse (stack ++ cond was [] (map (pending_at (branch.depth + 1)) (reverse places)))) ≡ map wanted (children edges was branch ++ branches)
grown edges stack branch places branches true are old = ap (λ z. map (found edges) (reverse z)) (append-nil stack) ∙ old
grown edges stack branch places branches false are old =
    subst (λ (d : ℕ). map (found edges) (reverse (stack ++ map (pending_at (branch.depth + 1)) (reverse places))) ≡ map wanted (map (branch_at d) (edges_of edges branch.edge.target) ++ branches))
    (omega arith) (pushed edges stack (branch.depth + 1) places (edges_of edges branch.edge.target) branches are old)

module _ (edges : List Edge) (marks : List Bool) (stack : List Pending) (top : Pending) (above : List ℕ) (branch : Branch) (branches : List Branch) (state : IsState edges marks (stack ++ top ∷ []) above (branch ∷ branches)) where
  both : found edges top ∷ map (found edges) (reverse stack) ≡ wanted branch ∷ map wanted branches
  both = sym (top_first edges stack top) ∙ state.held

  pub same_depth : top.depth ≡ branch.depth
  same_depth = let e : found edges top ≡ wanted branch = cc both in ap (λ (p : ℕ × Option Edge). p.0) e

  pub is_there : slice_get edges top.at ≡ Some branch.edge
  is_there = let e : found edges top ≡ wanted branch = cc both in ap (λ (p : ℕ × Option Edge). p.1) e

  pub at_within : top.at < length edges
  at_within = slice_get_within edges top.at branch.edge is_there

  pub rest : map (found edges) (reverse stack) ≡ map wanted branches
  rest = cc both

  module _ (e : Edge) (here : slice_get edges top.at ≡ Some e) where
    same_edge : branch.edge ≡ e
    same_edge = let there : slice_get edges top.at ≡ Some branch.edge = is_there in cc

    pub same_branch : branch ≡ branch_at top.depth e
    same_branch = ap (λ d. branch_at d branch.edge) (sym same_depth) ∙ ap (branch_at top.depth) same_edge

    module _ (was : Bool) (within : e.target < length marks) (is : slice_get marks e.target ≡ Some was) where
      pub same_mark : was ≡ is_among above e.target
      same_mark = let known : slice_get marks e.target ≡ Some (is_among above e.target) = state.marked e.target within in cc

      pub next_state : (places : List ℕ) (stack' : List Pending) → ArePlaces edges places (edges_of edges e.target) → stack' ≡ stack ++ cond was [] (map (pending_at (top.depth + 1)) (reverse places))
          → IsState edges (set marks e.target true) stack' (branch.edge.target ∷ above) (children edges (is_among above branch.edge.target) branch ++ branches)
      next_state places stack' are new =
          subst (λ (b : Branch). IsState edges (set marks e.target true) stack' (b.edge.target ∷ above) (children edges (is_among above b.edge.target) b ++ branches)) (sym same_branch)
          (subst (λ (w : Bool). IsState edges (set marks e.target true) stack' (e.target ∷ above) (children edges w (branch_at top.depth e) ++ branches)) same_mark
          (record { marked = marked marks above e.target within state.marked; held = ap (λ z. map (found edges) (reverse z)) new ∙ grown edges stack (branch_at top.depth e) places branches was are rest }))

slice_get-replicate : (n i : ℕ) → i < n → slice_get (replicate n false) i ≡ Some false
slice_get-replicate zero i h = absurd (omega (arith, h))
slice_get-replicate (suc n) zero h = refl
slice_get-replicate (suc n) (suc i) h = slice_get-replicate n i (omega (arith, h))

-- the roots are on the stack, and no line stands above
pub start_state : (edges : List Edge) (count : ℕ) (marks : List Bool) (stack : List Pending) (places : List ℕ) → marks ≡ replicate count false → ArePlaces edges places (root_edges edges) → stack ≡ map (pending_at 0) (reverse places)
    → IsState edges marks stack [] (root_branches edges)
start_state edges count marks stack places none are is =
    record {
      marked = λ place within.
          let here : place < count = subst (λ n. place < n) (ap length none ∙ length-replicate count false) within in
          ap (λ (m : List Bool). slice_get m place) none ∙ slice_get-replicate count place here;
      held = ap (λ z. map (found edges) (reverse z)) is ∙ pushed edges [] 0 places (root_edges edges) [] are refl ∙ ap (map wanted) (append-nil (root_branches edges));
    }
