-- What a crash may leave of a name once a call that speaks of it is done.
use Rattle.std.proofs.Common.{ℕ, ◌≡◌, Bool, false, List, Option, Some, sym, ap, ◌∙◌, subst}
use Rattle.disk_base.proofs.Composed.{run-append}
use Rattle.disk_base.specs.Names.{Names, run, told_after}
use Rattle.disk_base.specs.Runs.{Done}
use Rattle.cache_images.proofs.Frames.{kept_absent, run_kept}
use Rattle.cache_images.proofs.Sealing.{clear_leaves, clear_leaves_other, publish_leaves, put_leaves}
use Rattle.cache_images.proofs.Texts.{gone_not_data, is_record_part, part_not_data, part_not_gone}
use Rattle.cache_images.specs.Leaves.{IsAbsent, IsFirmly, IsSealed}
use Rattle.cache_images.specs.Places.{IsDataName, gone_name, part_name, record_name, record_part_name}
use Rattle.cache_images.specs.Sequences.{clear_steps, gone_steps, publish_steps, put_steps}
use Rattle.cache_store.proofs.Slots.{some_one}
use Rattle.cache_store.proofs.Stood.{held}
use Rattle.cache_store.specs.Parts.{Parts, part_at}
use Rattle.cache_store.specs.declared.part.Part.{Part}

some_name : (a b : List ℕ) → Some a ≡ Some b → a ≡ b
some_name a b h = cc

some_names : (a b : Names) → Some a ≡ Some b → a ≡ b
some_names a b h = cc

module _ {D : Type 0} (told : D → Option Names) where
  -- a part that was published
  pub published_as : (old new : D) (parts : Parts) (k : ℕ) (name : List ℕ) (p : Part) → part_at parts k ≡ Some p
      → p.sealed ≡ Some name → Done told (publish_steps (part_name k) name) old new
      → (s after : Names) (part : Part) (m : List ℕ) (sealed : IsSealed s k m) → told old ≡ Some s
      → told new ≡ Some after → part_at parts k ≡ Some part → part.sealed ≡ Some m
      → IsFirmly (after m) sealed.bytes × IsFirmly (after (record_name m)) sealed.line
  published_as old new parts k name p at sealed done s after part m is f g here sealed_for =
      let one : p ≡ part = some_one p part (sym at ∙ here) in
      let named : name ≡ m = some_name name m (sym sealed ∙ (ap (λ (q : Part). q.sealed) one ∙ sealed_for)) in
      let steps = publish_steps (part_name k) m in
      let done_m : Done told steps old new =
      subst (λ (u : List ℕ). Done told (publish_steps (part_name k) u) old new) named done in
      let ends : run steps s ≡ after =
      some_names (run steps s) after (sym (ap (told_after steps) f) ∙ (sym done_m.names ∙ g)) in
      subst (λ (u : Names). IsFirmly (u m) is.bytes × IsFirmly (u (record_name m)) is.line) ends
      (publish_leaves s k m is)

  -- a file that was taken away
  pub taken_as : (there : Bool) (old new : D) (name : List ℕ) → IsDataName name
      → (there ≡ false → (s : Names) → told old ≡ Some s → IsAbsent (s name) × IsAbsent (s (gone_name name)))
      → Done told (clear_steps there name (gone_name name)) old new
      → (s : Names) → told new ≡ Some s → IsAbsent (s name) × IsAbsent (s (gone_name name))
  taken_as there old new name named absent done =
      let gone = gone_name name in
      held told (clear_steps there name gone) old new (λ s. IsAbsent (s name) × IsAbsent (s gone)) done
      (λ s f. (
        clear_leaves there s name gone (gone_not_data name name named) (λ e. (absent e s f).0),
        clear_leaves_other there s name gone (λ e. (absent e s f).1),
      ))

  told_ends : (there : Bool) (s : Names) (k : ℕ) (name line : List ℕ) → IsDataName name
      → (there ≡ false → IsAbsent (s name))
      → IsAbsent (run (gone_steps there k name line) s name) × IsFirmly (run (gone_steps there k name line) s (gone_name name)) line
  told_ends there s k name line named absent =
      let gone = gone_name name in
      let q = record_part_name k in
      let puts = put_steps q gone line in
      let mid = run (clear_steps there name gone) s in
      let m = part_not_data q name (is_record_part k) named in
      let kept = run_kept puts mid name (m, (m, (m, ((m, gone_not_data name name named), (tt, tt))))) in
      subst (λ (r : Names). IsAbsent (r name) × IsFirmly (r gone) line)
      (sym (run-append (clear_steps there name gone) puts s)) (
        kept_absent (run puts mid name) (mid name) kept
            (clear_leaves there s name gone (gone_not_data name name named) absent),
        put_leaves mid q gone line (part_not_gone q name (is_record_part k)),
      )

  -- an absence record that was written
  pub told_as : (there : Bool) (old new : D) (k : ℕ) (name line : List ℕ) → IsDataName name
      → (there ≡ false → (s : Names) → told old ≡ Some s → IsAbsent (s name))
      → Done told (gone_steps there k name line) old new
      → (s : Names) → told new ≡ Some s → IsAbsent (s name) × IsFirmly (s (gone_name name)) line
  told_as there old new k name line named absent done =
      held told (gone_steps there k name line) old new
      (λ s. IsAbsent (s name) × IsFirmly (s (gone_name name)) line) done
      (λ s f. told_ends there s k name line named (λ e. absent e s f))
