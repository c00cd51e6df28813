-- One more piece of a text, and one more edge on the stack.
use Rattle.std.proofs.Common.{◌≡◌, ◌<◌, ◌+◌, ◌-◌, ℕ, suc, List, [], ◌∷◌, ◌++◌, length, map, reverse, get_or, take, refl, sym, ◌∙◌, ap, subst, arith}
use Rattle.std.proofs.lemmas.List.{append_assoc, get_or-reverse, length-reverse, map_push, take_more}
use Rattle.tree_print.specs.Stacks.{pending_at}
use Rattle.tree_print.specs.Texts.{indent}
use Rattle.tree_print.specs.declared.pending.Pending.{Pending}

pub indent_more : (depth step : ℕ) (text new all : List ℕ) → step < depth → text ++ indent (depth - step) ≡ all → new ≡ text ++ 32 ∷ 32 ∷ [] → new ++ indent (depth - (step + 1)) ≡ all
indent_more depth step text new all h old is =
    let left : depth - step ≡ suc (depth - (step + 1)) = omega (arith, h) in
    ap (λ z. z ++ indent (depth - (step + 1))) is ∙ append_assoc text (32 ∷ 32 ∷ []) (indent (depth - (step + 1))) ∙ ap (λ n. text ++ indent n) (sym left) ∙ old

pub push_more : (first stack new : List Pending) (depth done : ℕ) (places : List ℕ) → done < length places → stack ≡ first ++ map (pending_at depth) (take done (reverse places))
    → new ≡ stack ++ pending_at depth (get_or places (length places - 1 - done) 0) ∷ [] → new ≡ first ++ map (pending_at depth) (take (done + 1) (reverse places))
push_more first stack new depth done places h old is =
    let within : done < length (reverse places) = subst (λ (n : ℕ). done < n) (sym (length-reverse places)) h in
    let at : ℕ = get_or places (length places - 1 - done) 0 in
    let next : take (done + 1) (reverse places) ≡ take done (reverse places) ++ at ∷ [] = take_more (reverse places) done 0 within ∙ ap (λ x. take done (reverse places) ++ x ∷ []) (get_or-reverse places done 0 h) in
    is
    ∙ ap (λ z. z ++ pending_at depth at ∷ []) old
    ∙ append_assoc first (map (pending_at depth) (take done (reverse places))) (pending_at depth at ∷ [])
    ∙ ap (λ z. first ++ z) (sym (ap (map (pending_at depth)) next ∙ map_push (pending_at depth) (take done (reverse places)) at))
