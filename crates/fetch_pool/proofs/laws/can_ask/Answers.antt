use Rattle.std.proofs.Common.{◌<◌, ℕ, zero, suc, List, [], ◌∷◌, inl, inr, refl, arith, length, subst, sym, ◌∙◌}
use Rattle.std.specs.Prelude.{slice_get, unwrap_or}
use Rattle.asked_paths.specs.Files.{IsFileOf}
use Rattle.res_base.specs.Members.{Among}
use Rattle.fetch_pool.proofs.laws.can_ask.Goals as goal

-- what stands at a place of a list is among its members
among : (xs : List (List ℕ)) (i : ℕ) → i < length xs → Among (unwrap_or (slice_get xs i) []) xs
among [] i at = absurd (omega (arith, at))
among (x ∷ xs) zero at = inl refl
among (x ∷ xs) (suc i) at = inr (among xs i (omega (arith, at)))

pub returns : goal.returns
returns c s ask h plan key repos planned due =
    let file : IsFileOf ask.repos key = c.paths_asked.ensures.claimed s ask h key repos due in
    record {
      address = planned.read _ (among plan.addresses key.repo (subst (λ n. key.repo < n) (sym (planned.count ∙ repos)) file.listed));
      path = file.path;
    }
