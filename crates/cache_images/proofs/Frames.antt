-- A name of which no call speaks keeps its bindings, or loses the earlier ones.
use Rattle.std.proofs.Common.{ℕ, ◌≡◌, ◌≢◌, Bool, true, false, cond, List, [], ◌∷◌, Option, None, refl, ap, subst, ◌∙◌, inl, inr}
use Rattle.cache_images.proofs.Shown.{put_other, settled_shows}
use Rattle.cache_images.specs.Leaves.{IsAbsent, IsFirmly, IsSettled, Kept}
use Rattle.disk_base.specs.Images.{MayShow}
use Rattle.disk_base.specs.Names.{Names, after, bound_anew, put_at, run, settled}
use Rattle.disk_base.specs.declared.contents.Bindings.{Bindings}
use Rattle.disk_base.specs.declared.steps.DiskStep.{DiskStep}
use Rattle.disk_base.specs.declared.steps.DiskStep.TheVariants.{Append, Remove, Rename, Start, Sync, SyncNames}
use Rattle.res_base.specs.Names.{text_eq}

-- the call does not speak of the name
abbrev pub Misses : DiskStep → List ℕ → Type 0
Misses (Start n) m = n ≢ m
Misses (Append n bytes) m = n ≢ m
Misses (Sync n) m = n ≢ m
Misses (Rename a b) m = (a ≢ m) × (b ≢ m)
Misses (Remove n) m = n ≢ m
Misses SyncNames m = Unit {0}

abbrev pub MissAll : List DiskStep → List ℕ → Type 0
MissAll [] m = Unit {0}
MissAll (x ∷ xs) m = Misses x m × MissAll xs m

rename_other : (a b m : List ℕ) (s : Names) (t : Bool) → text_eq a b ≡ t → a ≢ m → b ≢ m
    → cond t s (put_at a (bound_anew None (s a)) (put_at b (bound_anew (s a).present (s b)) s)) m ≡ s m
rename_other a b m s true e p q = refl
rename_other a b m s false e p q =
    put_other a m (bound_anew None (s a)) (put_at b (bound_anew (s a).present (s b)) s) p
    ∙ put_other b m (bound_anew (s a).present (s b)) s q

pub step_kept : (x : DiskStep) (s : Names) (m : List ℕ) → Misses x m → Kept (after x s m) (s m)
step_kept (Start n) s m h = inl (put_other n m _ s h)
step_kept (Append n bytes) s m h = inl (put_other n m _ s h)
step_kept (Sync n) s m h = inl (put_other n m _ s h)
step_kept (Rename a b) s m h = inl (rename_other a b m s (text_eq a b) refl h.0 h.1)
step_kept (Remove n) s m h = inl (put_other n m _ s h)
step_kept SyncNames s m h = inr refl

pub kept_trans : (c b a : Bindings) → Kept c b → Kept b a → Kept c a
kept_trans c b a (inl p) (inl q) = inl (p ∙ q)
kept_trans c b a (inl p) (inr q) = inr (p ∙ q)
kept_trans c b a (inr p) (inl q) = inr (p ∙ ap settled q)
kept_trans c b a (inr p) (inr q) = inr (p ∙ ap settled q)

pub run_kept : (xs : List DiskStep) (s : Names) (m : List ℕ) → MissAll xs m → Kept (run xs s m) (s m)
run_kept [] s m h = inl refl
run_kept (x ∷ xs) s m h =
    kept_trans (run xs (after x s) m) (after x s m) (s m) (run_kept xs (after x s) m h.1) (step_kept x s m h.0)

pub kept_shows : (new old : Bindings) (o : Option (List ℕ)) → Kept new old → MayShow new o → MayShow old o
kept_shows new old o (inl e) h = subst (λ (b : Bindings). MayShow b o) e h
kept_shows new old o (inr e) h = settled_shows old o (subst (λ (b : Bindings). MayShow b o) e h)

pub kept_present : (new old : Bindings) → Kept new old → new.present ≡ old.present
kept_present new old (inl e) = ap (λ (b : Bindings). b.present) e
kept_present new old (inr e) = ap (λ (b : Bindings). b.present) e

pub kept_absent : (new old : Bindings) → Kept new old → IsAbsent old → IsAbsent new
kept_absent new old k absent o h = absent o (kept_shows new old o k h)

pub kept_firmly : (new old : Bindings) (bytes : List ℕ) → Kept new old → IsFirmly old bytes → IsFirmly new bytes
kept_firmly new old bytes k firm o h = firm o (kept_shows new old o k h)

pub kept_settled : (new old : Bindings) → Kept new old → IsSettled old → IsSettled new
kept_settled new old (inl e) settled = ap (λ (b : Bindings). b.before) e ∙ settled
kept_settled new old (inr e) settled = ap (λ (b : Bindings). b.before) e
