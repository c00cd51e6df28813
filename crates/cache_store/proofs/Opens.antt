-- What is left of a disk whose parts were removed.
use Rattle.std.proofs.Common.{ℕ, zero, suc, ◌≡◌, ◌<◌, ◌+◌, ◌++◌, List, [], ◌∷◌, Option, Some, None, IsSome, length, get_or, take, drop, codes, refl, sym, ap, ◌∙◌, subst, inl, inr, arith, add-one, true≢false}
use Rattle.std.specs.Prelude.{nat_eq}
use Rattle.std.specs.List.{starts_with}
use Rattle.std.specs.Option.{option_map}
use Rattle.std.proofs.Math.Seq.{take-suc}
use Rattle.std.proofs.lemmas.Bool.Decides.{Decides-eqb}
use Rattle.std.proofs.lemmas.List.{map-append}
use Rattle.std.proofs.lemmas.Slice.Eq.{starts_is}
use Rattle.disk_base.specs.Names.{Names, after, bytes_of, read_name, run, told_after}
use Rattle.disk_base.specs.Reads.{AreListed}
use Rattle.disk_base.specs.Runs.{Done}
use Rattle.disk_base.specs.declared.contents.Bindings.{Bindings}
use Rattle.disk_base.specs.declared.contents.Content.{Content}
use Rattle.disk_base.specs.declared.steps.DiskStep.TheVariants.{Remove, SyncNames}
use Rattle.res_base.specs.Members.{Among}
use Rattle.cache_images.proofs.Sealing.{removed_among, removed_other, removed_still}
use Rattle.cache_images.specs.Places.{IsPartName}
use Rattle.cache_images.specs.Sequences.{removed}
use Rattle.cache_store.proofs.Stood.{held}
use Rattle.cache_store.specs.Opened.{IsCleared}
use Rattle.cache_store.specs.Stands.{FilesSettled}

pub removed_more : (names : List (List ℕ)) (i : ℕ) (p : List ℕ) → i < length names → p ≡ get_or names i p
    → removed (take (i + 1) names) ≡ removed (take i names) ++ Remove p ∷ []
removed_more names i p le is =
    rw add-one (ap removed (take-suc names i p le ∙ ap (λ (x : List ℕ). take i names ++ x ∷ []) (sym is))
    ∙ map-append Remove (take i names) (p ∷ []))

pub among_at : (names : List (List ℕ)) (i : ℕ) (p : List ℕ) → i < length names → p ≡ get_or names i p → Among p names
among_at [] i p le is = absurd (omega (arith, le))
among_at (x ∷ names) zero p le is = inl is
among_at (x ∷ names) (suc i) p le is = inr (among_at names i p (omega (arith, le)) is)

pub part_listed : (s : Names) (names : List (List ℕ)) → AreListed s (codes "parts/") names → (p : List ℕ)
    → Among p names → IsPartName p
part_listed s names listed p h = record {
  rest = drop 6 p;
  begins = (starts_is Decides-eqb p (codes "parts/") (starts_with nat_eq p (codes "parts/")) refl).0
      ((listed.exactly p).0 h).1;
}

some_names : (a b : Names) → Some a ≡ Some b → a ≡ b
some_names a b h = cc

gone_from : (names : List (List ℕ)) (s : Names) (n : List ℕ) (o : Option Content) → (s n).present ≡ o
    → (IsSome (s n).present → Among n names) → (run (removed names) s n).present ≡ None
gone_from names s n None e listed = removed_still names s n e
gone_from names s n (Some c) e listed =
    removed_among names s n (listed (subst (λ (o : Option Content). IsSome o) (sym e) refl))

module _ {D : Type 0} (told : D → Option Names) where
  ends : (names : List (List ℕ)) (old mid new : D) → Done told (removed names) old mid → Done told (SyncNames ∷ []) mid new
      → (s r : Names) → told old ≡ Some s → told new ≡ Some r → r ≡ after SyncNames (run (removed names) s)
  ends names old mid new a b s r e f =
      some_names r (after SyncNames (run (removed names) s))
      (sym f ∙ (b.names ∙ ap (told_after (SyncNames ∷ [])) (a.names ∙ ap (told_after (removed names)) e)))

  pub cleared_as : (names : List (List ℕ)) (first old mid new : D) → told old ≡ told first
      → ((s : Names) → told first ≡ Some s → AreListed s (codes "parts/") names)
      → Done told (removed names) old mid → Done told (SyncNames ∷ []) mid new → IsCleared told first new
  cleared_as names first old mid new same listed a b = record {
    parts = λ s r e f n begins.
        let is = ends names old mid new a b s r (same ∙ e) f in
        let none = gone_from names s n (s n).present refl (λ some. ((listed s e).exactly n).1 (some, begins)) in
        subst (λ (u : Names). read_name u n ≡ None) (sym is) (ap (option_map bytes_of) none);
    others = λ s r e f n begins.
        let is = ends names old mid new a b s r (same ∙ e) f in
        let kept = removed_other names s n (λ h. true≢false (sym (((listed s e).exactly n).0 h).1 ∙ begins)) in
        subst (λ (u : Names). read_name u n ≡ read_name s n) (sym is)
        (ap (λ (c : Bindings). option_map bytes_of c.present) kept);
  }

  pub settled_as : (old new : D) → Done told (SyncNames ∷ []) old new → (s : Names) → told new ≡ Some s → FilesSettled s
  settled_as old new done = held told (SyncNames ∷ []) old new FilesSettled done (λ s f n named. (refl, refl))
