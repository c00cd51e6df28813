-- What names show after a call.
use Rattle.std.proofs.Common.{ℕ, ◌≡◌, ◌≢◌, ◌⊎◌, ◌++◌, List, [], ◌∷◌, Option, Some, None, length, take, drop, refl, sym, ap, subst, ◌∙◌, inl, inr, ⊎_elim, append-nil, arith}
use Rattle.std.specs.Option.{option_map}
use Rattle.std.proofs.lemmas.List.{drop_all, take-append-drop, take_all}
use Rattle.cache_images.proofs.Texts.{eq_false, eq_self}
use Rattle.disk_base.specs.Images.{IsImage, MayShow, Shows, ShowsOne}
use Rattle.disk_base.specs.Names.{Names, bound_anew, bytes_of, put_at, read_name, renamed, settled, whole}
use Rattle.disk_base.specs.declared.contents.Bindings.{Bindings}
use Rattle.disk_base.specs.declared.contents.Content.{Content}

-- as it reads
pub read_shown : (b : Bindings) (o : Option Content) → b.present ≡ o → MayShow b (option_map bytes_of o)
read_shown b None e = inl (subst (λ (u : Option Content). Shows u None) (sym e) refl)
read_shown b (Some c) e =
    let firm = sym (take-append-drop c.firm c.bytes) in
    inl (subst (λ (u : Option Content). Shows u (Some (bytes_of c))) (sym e)
    (drop c.firm c.bytes, ap Some firm, λ le. drop_all c.firm c.bytes le))

-- the names as they read are one of their images
pub read_image : (s : Names) → IsImage s (read_name s)
read_image s m = read_shown (s m) (s m).present refl

shows_push : (bs : List (Option Content)) (b : Option Content) (o : Option (List ℕ)) → ShowsOne (bs ++ b ∷ []) o
    → ShowsOne bs o ⊎ Shows b o
shows_push [] b o (inl h) = inr h
shows_push [] b o (inr h) = absurd h
shows_push (x ∷ bs) b o (inl h) = inl (inl h)
shows_push (x ∷ bs) b o (inr h) =
    ⊎_elim (λ (p : ShowsOne bs o). inl (inr p)) (λ (p : Shows b o). inr p) (shows_push bs b o h)

-- a name that got a new binding
pub anew_shows : (c : Option Content) (b : Bindings) (o : Option (List ℕ)) → MayShow (bound_anew c b) o
    → Shows c o ⊎ MayShow b o
anew_shows c b o (inl h) = inl h
anew_shows c b o (inr h) =
    ⊎_elim (λ (p : ShowsOne b.before o). inr (inr p)) (λ (p : Shows b.present o). inr (inl p))
    (shows_push b.before b.present o h)

pub settled_shows : (b : Bindings) (o : Option (List ℕ)) → MayShow (settled b) o → MayShow b o
settled_shows b o (inl h) = inl h
settled_shows b o (inr h) = absurd h

-- a firm content
pub firm_shows : (bytes : List ℕ) (o : Option (List ℕ)) → Shows (Some (whole bytes)) o → o ≡ Some bytes
firm_shows bytes o h =
    let all = take_all (length bytes) bytes (omega arith) in
    let none : h.0 ≡ [] = h.2 (omega arith) in
    h.1 ∙ (ap (λ (t : List ℕ). Some (take (length bytes) bytes ++ t)) none
    ∙ (ap Some (append-nil (take (length bytes) bytes)) ∙ ap Some all))

-- ---- the name that a call speaks of, and another one
pub put_self : (n : List ℕ) (b : Bindings) (s : Names) → put_at n b s n ≡ b
put_self n b s = rw (eq_self n) refl

pub put_other : (n m : List ℕ) (b : Bindings) (s : Names) → n ≢ m → put_at n b s m ≡ s m
put_other n m b s differ = rw (eq_false n m differ) refl

pub rename_own : (a b : List ℕ) (s : Names) → a ≢ b → renamed a b s b ≡ bound_anew (s a).present (s b)
rename_own a b s differ =
    let inner = put_at b (bound_anew (s a).present (s b)) s in
    rw (eq_false a b differ) (put_other a b (bound_anew None (s a)) inner differ
    ∙ put_self b (bound_anew (s a).present (s b)) s)
