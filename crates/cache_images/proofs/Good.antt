-- What a call on the disk does to the files, their records and the absence records.
use Rattle.std.proofs.Common.{ℕ, ◌≡◌, ◌≢◌, ◌⊎◌, Bool, true, false, cond, List, Option, Some, None, refl, sym, ap, subst, ◌∙◌, ⊎_elim}
use Rattle.std.proofs.lemmas.Bool.{false≢true}
use Rattle.cache_images.proofs.Frames.{Misses, kept_shows, step_kept}
use Rattle.cache_images.proofs.Shown.{anew_shows, firm_shows, put_self, read_image, rename_own}
use Rattle.cache_images.proofs.Texts.{eq_false, eq_self, eq_true, gone_not_data, gones_apart, part_not_data, part_not_gone, part_not_record, record_not_data, record_not_gone, records_apart}
use Rattle.cache_images.specs.Leaves.{IsAbsent, IsFirmly}
use Rattle.cache_images.specs.Places.{IsDataName, IsPartName, gone_name, record_name}
use Rattle.cache_images.specs.Sound.{EachFile}
use Rattle.disk_base.specs.Images.{Image, IsImage, MayShow, Shows}
use Rattle.disk_base.specs.Names.{Names, after, bound_anew, read_name, renamed, whole}
use Rattle.disk_base.specs.declared.contents.Bindings.{Bindings}
use Rattle.disk_base.specs.declared.contents.Content.{Content}
use Rattle.disk_base.specs.declared.steps.DiskStep.{DiskStep}
use Rattle.disk_base.specs.declared.steps.DiskStep.TheVariants.{Remove, Rename}
use Rattle.res_base.specs.Names.{text_eq}

-- ---- an image with another outcome at one name
abbrev pub patch : List ℕ → Option (List ℕ) → Image → Image
patch n o i m = cond (text_eq n m) o (i m)

patch_at : (s : Names) (i : Image) (n m : List ℕ) (o : Option (List ℕ)) (t : Bool) → text_eq n m ≡ t
    → MayShow (s n) o → MayShow (s m) (i m) → MayShow (s m) (cond t o (i m))
patch_at s i n m o true e h k = subst (λ (u : List ℕ). MayShow (s u) o) (eq_true n m e) h
patch_at s i n m o false e h k = k

pub patched : (s : Names) (i : Image) (n : List ℕ) (o : Option (List ℕ)) → IsImage s i → MayShow (s n) o
    → IsImage s (patch n o i)
patched s i n o im h m = patch_at s i n m o (text_eq n m) refl h (im m)

pub patch_self : (n : List ℕ) (o : Option (List ℕ)) (i : Image) → patch n o i n ≡ o
patch_self n o i = rw (eq_self n) refl

patch_other : (n m : List ℕ) (o : Option (List ℕ)) (i : Image) → n ≢ m → patch n o i m ≡ i m
patch_other n m o i differ = rw (eq_false n m differ) refl

-- ---- what a crash may leave of a file, its record and its absence record, is good
pub record GoodAt (Fits : List ℕ → List ℕ → Option (List ℕ) → Type 0) (Gone : List ℕ → List ℕ → Type 0) (s : Names)
    (n : List ℕ) : Type 0 where
  pub file : (d : List ℕ) (r : Option (List ℕ)) → MayShow (s n) (Some d) → MayShow (s (record_name n)) r → Fits n d r
  pub absence : (g : List ℕ) → MayShow (s (gone_name n)) (Some g) → Gone n g

-- the call speaks of none of the three
pub record MissesFile (x : DiskStep) (n : List ℕ) : Type 0 where
  pub file : Misses x n
  pub line : Misses x (record_name n)
  pub gone : Misses x (gone_name n)

-- ---- calls that speak of one file
pub part_misses : (p m : List ℕ) → IsPartName p → IsDataName m → (p ≢ m) × (p ≢ record_name m) × (p ≢ gone_name m)
part_misses p m part named = (part_not_data p m part named, part_not_record p m part, part_not_gone p m part)

data_removed : (n m : List ℕ) → IsDataName n → n ≢ m → MissesFile (Remove n) m
data_removed n m named differ = record {
  file = differ;
  line = λ e. record_not_data m n named (sym e);
  gone = λ e. gone_not_data m n named (sym e);
}

gone_removed : (n m : List ℕ) → IsDataName m → n ≢ m → MissesFile (Remove (gone_name n)) m
gone_removed n m named differ = record {
  file = gone_not_data n m named;
  line = λ e. record_not_gone m n (sym e);
  gone = gones_apart n m differ;
}

record_put : (p n m : List ℕ) → IsPartName p → IsDataName m → n ≢ m → MissesFile (Rename p (record_name n)) m
record_put p n m part named differ =
    let misses = part_misses p m part named in
    record {
      file = (misses.0, record_not_data n m named);
      line = (misses.1, records_apart n m differ);
      gone = (misses.2, record_not_gone n m);
    }

file_put : (p n m : List ℕ) → IsPartName p → IsDataName n → IsDataName m → n ≢ m → MissesFile (Rename p n) m
file_put p n m part own named differ =
    let misses = part_misses p m part named in
    record {
      file = (misses.0, differ);
      line = (misses.1, λ e. record_not_data m n own (sym e));
      gone = (misses.2, λ e. gone_not_data m n own (sym e));
    }

absence_put : (p n m : List ℕ) → IsPartName p → IsDataName m → n ≢ m → MissesFile (Rename p (gone_name n)) m
absence_put p n m part named differ =
    let misses = part_misses p m part named in
    record {
      file = (misses.0, gone_not_data n m named);
      line = (misses.1, λ e. record_not_gone m n (sym e));
      gone = (misses.2, gones_apart n m differ);
    }

never : (d : List ℕ) → Some d ≡ None → ⊥
never d e = (cc)

-- what a name shows that was renamed to
renamed_shows : (p n : List ℕ) (s : Names) (o : Option (List ℕ)) → p ≢ n → MayShow (renamed p n s n) o
    → Shows (s p).present o ⊎ MayShow (s n) o
renamed_shows p n s o differ h =
    anew_shows (s p).present (s n) o (subst (λ (b : Bindings). MayShow b o) (rename_own p n s differ) h)

-- what a name shows that was removed
removed_shows : (n : List ℕ) (s : Names) (d : List ℕ) → MayShow (after (Remove n) s n) (Some d) → MayShow (s n) (Some d)
removed_shows n s d h =
    ⊎_elim (λ (p : Shows None (Some d)). absurd (never d p)) (λ (p : MayShow (s n) (Some d)). p)
    (anew_shows None (s n) (Some d)
    (subst (λ (b : Bindings). MayShow b (Some d)) (put_self n (bound_anew None (s n)) s) h))

-- what shows where the part is firm
firm_content : (o : Option Content) (bytes d : List ℕ) → o ≡ Some (whole bytes) → Shows o (Some d) → d ≡ bytes
firm_content o bytes d firm h =
    let is : Some d ≡ Some bytes =
    firm_shows bytes (Some d) (subst (λ (c : Option Content). Shows c (Some d)) firm h) in
    cc

module _ (Fits : List ℕ → List ℕ → Option (List ℕ) → Type 0) (Gone : List ℕ → List ℕ → Type 0) where
  abbrev pub Good : Names → Type 0
  Good s = (n : List ℕ) → IsDataName n → GoodAt Fits Gone s n

  pub good_images : (s : Names) → Good s → (i : Image) → IsImage s i → EachFile Fits Gone i
  good_images s good i im n named = (
    λ d e. (good n named).file d (i (record_name n)) (subst (λ (o : Option (List ℕ)). MayShow (s n) o) e (im n))
        (im (record_name n)),
    λ g e. (good n named).absence g (subst (λ (o : Option (List ℕ)). MayShow (s (gone_name n)) o) e (im (gone_name n))),
  )

  abbrev pub AllGood : Names → Type 0
  AllGood s = (i : Image) → IsImage s i → EachFile Fits Gone i

  file_of : (s : Names) → AllGood s → (n : List ℕ) → IsDataName n → (d : List ℕ) (r : Option (List ℕ))
      → MayShow (s n) (Some d) → MayShow (s (record_name n)) r → Fits n d r
  file_of s all n named d r h k =
      let inner : Image = patch (record_name n) r (read_name s) in
      let i : Image = patch n (Some d) inner in
      let lined : IsImage s inner = patched s (read_name s) (record_name n) r (read_image s) k in
      let im : IsImage s i = patched s inner n (Some d) lined h in
      let apart : n ≢ record_name n = λ e. record_not_data n n named (sym e) in
      let line : i (record_name n) ≡ r =
      patch_other n (record_name n) (Some d) inner apart ∙ patch_self (record_name n) r (read_name s) in
      subst (λ (o : Option (List ℕ)). Fits n d o) line ((all i im n named).0 d (patch_self n (Some d) inner))

  absence_of : (s : Names) → AllGood s → (n : List ℕ) → IsDataName n → (g : List ℕ)
      → MayShow (s (gone_name n)) (Some g) → Gone n g
  absence_of s all n named g h =
      let i : Image = patch (gone_name n) (Some g) (read_name s) in
      let im : IsImage s i = patched s (read_name s) (gone_name n) (Some g) (read_image s) h in
      (all i im n named).1 g (patch_self (gone_name n) (Some g) (read_name s))

  pub from_images : (s : Names) → AllGood s → Good s
  from_images s all n named = record { file = file_of s all n named; absence = absence_of s all n named }

  -- of another file
  kept_good : (x : DiskStep) (s : Names) (n : List ℕ) → MissesFile x n → GoodAt Fits Gone s n
      → GoodAt Fits Gone (after x s) n
  kept_good x s n misses good = record {
    file = λ d r h k. good.file d r
        (kept_shows (after x s n) (s n) (Some d) (step_kept x s n misses.file) h)
        (kept_shows (after x s (record_name n)) (s (record_name n)) r (step_kept x s (record_name n) misses.line) k);
    absence = λ g h. good.absence g
        (kept_shows (after x s (gone_name n)) (s (gone_name n)) (Some g) (step_kept x s (gone_name n) misses.gone) h);
  }

  -- a call that speaks of no file
  pub good_part : (x : DiskStep) (s : Names) → ((n : List ℕ) → IsDataName n → MissesFile x n) → Good s
      → Good (after x s)
  good_part x s misses good n named = kept_good x s n (misses n named) (good n named)

  but_at : (x : DiskStep) (s : Names) (n m : List ℕ) (t : Bool) → text_eq n m ≡ t → IsDataName m
      → ((m : List ℕ) → IsDataName m → n ≢ m → MissesFile x m) → GoodAt Fits Gone (after x s) n → Good s
      → GoodAt Fits Gone (after x s) m
  but_at x s n m true e named misses here good =
      subst (λ (u : List ℕ). GoodAt Fits Gone (after x s) u) (eq_true n m e) here
  but_at x s n m false e named misses here good =
      let differ : n ≢ m = λ f. false≢true (sym e ∙ (ap (λ (u : List ℕ). text_eq n u) (sym f) ∙ eq_self n)) in
      kept_good x s m (misses m named differ) (good m named)

  -- a call that speaks of one file
  good_but : (x : DiskStep) (s : Names) (n : List ℕ) → ((m : List ℕ) → IsDataName m → n ≢ m → MissesFile x m)
      → GoodAt Fits Gone (after x s) n → Good s → Good (after x s)
  good_but x s n misses here good m named = but_at x s n m (text_eq n m) refl named misses here good

  -- a file is taken away
  pub good_removed : (s : Names) (n : List ℕ) → IsDataName n → Good s → Good (after (Remove n) s)
  good_removed s n named good =
      let x = Remove n in
      let line : Misses x (record_name n) = λ e. record_not_data n n named (sym e) in
      let gone : Misses x (gone_name n) = λ e. gone_not_data n n named (sym e) in
      good_but x s n (λ m other differ. data_removed n m named differ)
      record {
        file = λ d r h k. (good n named).file d r (removed_shows n s d h)
            (kept_shows (after x s (record_name n)) (s (record_name n)) r (step_kept x s (record_name n) line) k);
        absence = λ g h. (good n named).absence g
            (kept_shows (after x s (gone_name n)) (s (gone_name n)) (Some g) (step_kept x s (gone_name n) gone) h);
      }
      good

  -- an absence record is taken away
  pub good_gone_removed : (s : Names) (n : List ℕ) → IsDataName n → Good s → Good (after (Remove (gone_name n)) s)
  good_gone_removed s n named good =
      let x = Remove (gone_name n) in
      let file : Misses x n = gone_not_data n n named in
      let line : Misses x (record_name n) = λ e. record_not_gone n n (sym e) in
      good_but x s n (λ m other differ. gone_removed n m other differ)
      record {
        file = λ d r h k. (good n named).file d r
            (kept_shows (after x s n) (s n) (Some d) (step_kept x s n file) h)
            (kept_shows (after x s (record_name n)) (s (record_name n)) r (step_kept x s (record_name n) line) k);
        absence = λ g h. (good n named).absence g (removed_shows (gone_name n) s g h);
      }
      good

  -- a record comes, for each content that the file may show
  pub good_line : (s : Names) (p n line : List ℕ) → IsDataName n → IsPartName p → (s p).present ≡ Some (whole line)
      → ((d : List ℕ) → MayShow (s n) (Some d) → Fits n d (Some line)) → Good s
      → Good (after (Rename p (record_name n)) s)
  good_line s p n line named part firm fits good =
      let x = Rename p (record_name n) in
      let file : Misses x n = (part_not_data p n part named, record_not_data n n named) in
      let gone : Misses x (gone_name n) = (part_not_gone p n part, record_not_gone n n) in
      good_but x s n (λ m other differ. record_put p n m part other differ)
      record {
        file = λ d r h k.
            let shown : MayShow (s n) (Some d) = kept_shows (after x s n) (s n) (Some d) (step_kept x s n file) h in
            ⊎_elim (λ (q : Shows (s p).present r).
            let is : r ≡ Some line = firm_shows line r (subst (λ (c : Option Content). Shows c r) firm q) in
            subst (λ (o : Option (List ℕ)). Fits n d o) (sym is) (fits d shown))
            (λ (q : MayShow (s (record_name n)) r). (good n named).file d r shown q)
            (renamed_shows p (record_name n) s r (part_not_record p n part) k);
        absence = λ g h. (good n named).absence g
            (kept_shows (after x s (gone_name n)) (s (gone_name n)) (Some g) (step_kept x s (gone_name n) gone) h);
      }
      good

  -- a file comes, whose record stands
  pub good_file : (s : Names) (p n bytes line : List ℕ) → IsDataName n → IsPartName p
      → (s p).present ≡ Some (whole bytes) → IsAbsent (s n) → IsFirmly (s (record_name n)) line
      → Fits n bytes (Some line) → Good s → Good (after (Rename p n) s)
  good_file s p n bytes line named part firm absent recorded fits good =
      let x = Rename p n in
      let missed : Misses x (record_name n) = (part_not_record p n part, λ e. record_not_data n n named (sym e)) in
      let gone : Misses x (gone_name n) = (part_not_gone p n part, λ e. gone_not_data n n named (sym e)) in
      good_but x s n (λ m other differ. file_put p n m part named other differ)
      record {
        file = λ d r h k.
            let is : r ≡ Some line = recorded r
            (kept_shows (after x s (record_name n)) (s (record_name n)) r (step_kept x s (record_name n) missed) k) in
            let same : d ≡ bytes = ⊎_elim
            (λ (q : Shows (s p).present (Some d)). firm_content (s p).present bytes d firm q)
            (λ (q : MayShow (s n) (Some d)). absurd (never d (absent (Some d) q)))
            (renamed_shows p n s (Some d) (part_not_data p n part named) h) in
            subst (λ (o : Option (List ℕ)). Fits n d o) (sym is)
            (subst (λ (u : List ℕ). Fits n u (Some line)) (sym same) fits);
        absence = λ g h. (good n named).absence g
            (kept_shows (after x s (gone_name n)) (s (gone_name n)) (Some g) (step_kept x s (gone_name n) gone) h);
      }
      good

  -- an absence record comes
  pub good_absence : (s : Names) (p n line : List ℕ) → IsDataName n → IsPartName p → (s p).present ≡ Some (whole line)
      → Gone n line → Good s → Good (after (Rename p (gone_name n)) s)
  good_absence s p n line named part firm is good =
      let x = Rename p (gone_name n) in
      let file : Misses x n = (part_not_data p n part named, gone_not_data n n named) in
      let missed : Misses x (record_name n) = (part_not_record p n part, λ e. record_not_gone n n (sym e)) in
      good_but x s n (λ m other differ. absence_put p n m part other differ)
      record {
        file = λ d r h k. (good n named).file d r
            (kept_shows (after x s n) (s n) (Some d) (step_kept x s n file) h)
            (kept_shows (after x s (record_name n)) (s (record_name n)) r (step_kept x s (record_name n) missed) k);
        absence = λ g h.
            ⊎_elim (λ (q : Shows (s p).present (Some g)).
            subst (λ (u : List ℕ). Gone n u) (sym (firm_content (s p).present line g firm q)) is)
            (λ (q : MayShow (s (gone_name n)) (Some g)). (good n named).absence g q)
            (renamed_shows p (gone_name n) s (Some g) (part_not_gone p n part) h);
      }
      good
