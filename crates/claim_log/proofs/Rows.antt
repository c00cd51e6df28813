-- Rows of tallies.
use Rattle.std.proofs.Common.{◌≡◌, Bool, true, false, cond, Some, None, refl, sym, ◌∙◌, ap, subst}
use Rattle.std.specs.BTreeMap.{BTreeMap, IsUnchanged, Updates, get, is_at}
use Rattle.std.specs.Map.{lookup}
use Rattle.std.specs.Prelude.{IsSome}
use Rattle.claim_log.specs.Tallies.{tally, or_none, KeepsRows}
use Rattle.claim_log.specs.declared.tallies.Tally.{Tally}
use Rattle.claim_log.proofs.Keys.{Decided, updated}
use Rattle.res_base.specs.Names.{key_eq, key_cmp}
use Rattle.res_base.specs.declared.key.FileKey.{FileKey}

pub same_table : {X : Type 0} (before after : BTreeMap FileKey X) → IsUnchanged before after → (q : FileKey)
    → get key_cmp after q ≡ get key_cmp before q
same_table before after same q = ap (λ entries. lookup (is_at (key_cmp q)) entries) same

pub rows_stay : (before after : BTreeMap FileKey Tally) → IsUnchanged before after → KeepsRows before after
rows_stay before after same =
    record {
      rows = λ q there. subst (λ o. IsSome o) (sym (same_table before after same q)) there;
      counted = λ q. ap or_none (same_table before after same q);
    }

-- a row without breaks, for a key that had none
pub row_added : Decided → (before after : BTreeMap FileKey Tally) (key : FileKey) → get key_cmp before key ≡ None
    → Updates key_cmp before after key (Some (tally 0 false)) → KeepsRows before after
row_added decided before after key none up =
    record {
      rows = λ q there. subst (λ o. IsSome o) (sym (updated before after key _ up q)) (still (key_eq key q) q there);
      counted = λ q. ap or_none (updated before after key _ up q) ∙ same q (key_eq key q) refl;
    }
  where
    still : (b : Bool) (q : FileKey) → IsSome (get key_cmp before q) → IsSome (cond b (Some (tally 0 false)) (get key_cmp before q))
    still true q there = refl
    still false q there = there

    same : (q : FileKey) (b : Bool) → key_eq key q ≡ b
        → or_none (cond b (Some (tally 0 false)) (get key_cmp before q)) ≡ or_none (get key_cmp before q)
    same q true e = sym (ap or_none (subst (λ k. get key_cmp before k ≡ None) ((decided key q).0 e) none))
    same q false e = refl
