-- What the sequences of calls leave, and that every image along them is good.
use Rattle.std.proofs.Common.{ℕ, ◌≡◌, ◌≢◌, ◌++◌, List, [], ◌∷◌, Option, Some, None, refl, sym, ap, subst, ◌∙◌, inl, inr, Bool, true, false}
use Rattle.std.specs.Option.{option_map}
use Rattle.std.specs.Prelude.{if◌then◌else◌}
use Rattle.cache_images.proofs.Frames.{MissAll, Misses, kept_absent, kept_firmly, kept_present, run_kept, step_kept}
use Rattle.cache_images.proofs.Good.{Good, MissesFile, good_absence, good_file, good_gone_removed, good_images, good_line, good_part, good_removed, part_misses}
use Rattle.cache_images.proofs.Shown.{firm_shows, put_other, put_self, rename_own}
use Rattle.cache_images.proofs.Texts.{gone_not_data, is_part, is_record_part, part_not_data, part_not_gone, part_not_record, parts_not_record_parts, record_not_data}
use Rattle.cache_images.specs.Leaves.{IsAbsent, IsFirmly, IsSealed, IsSettled}
use Rattle.cache_images.specs.Places.{IsDataName, IsPartName, gone_name, part_name, record_name, record_part_name}
use Rattle.cache_images.specs.Sequences.{clear_steps, gone_steps, open_steps, publish_steps, put_steps, removed, seal_steps, take_steps, upgrade_steps}
use Rattle.cache_images.specs.Sound.{EachFile, RecordFits}
use Rattle.disk_base.specs.Images.{Image, IsImage, MayShow, Shows, ShowsOne}
use Rattle.res_base.specs.Members.{Among}
use Rattle.disk_base.specs.Names.{Names, after, bound_anew, bytes_of, empty, longer, made_firm, run, settled, whole, with_now}
use Rattle.disk_base.specs.Runs.{AllAlong}
use Rattle.disk_base.specs.declared.contents.Bindings.{Bindings}
use Rattle.disk_base.specs.declared.contents.Content.{Content}
use Rattle.disk_base.specs.declared.steps.DiskStep.{DiskStep}
use Rattle.disk_base.specs.declared.steps.DiskStep.TheVariants.{Append, Remove, Rename, Start, Sync, SyncNames}
use Rattle.res_base.specs.Names.{text_eq}

-- a settled name that is unbound
settled_absent : (b : Bindings) → b.present ≡ None → IsAbsent (settled b)
settled_absent b e o (inl h) = subst (λ (c : Option Content). Shows c o) e h
settled_absent b e o (inr h) = absurd h

-- a name that is unbound, where no earlier binding can come back
pub absent_now : (b : Bindings) → IsSettled b → b.present ≡ None → IsAbsent b
absent_now b settled e o (inl h) = subst (λ (c : Option Content). Shows c o) e h
absent_now b settled e o (inr h) = absurd (subst (λ (l : List (Option Content)). ShowsOne l o) settled h)

-- a settled name with a firm content
settled_firmly : (b : Bindings) (bytes : List ℕ) → b.present ≡ Some (whole bytes) → IsFirmly (settled b) bytes
settled_firmly b bytes e o (inl h) = firm_shows bytes o (subst (λ (c : Option Content). Shows c o) e h)
settled_firmly b bytes e o (inr h) = absurd h

abbrev present_of : Bindings → Option Content
present_of b = b.present

-- ---- what put_steps and take_steps leave
written : (s : Names) (p line : List ℕ)
    → present_of (after (Sync p) (after (Append p line) (after (Start p) s)) p) ≡ Some (whole line)
written s p line =
    let s1 = after (Start p) s in
    let s2 = after (Append p line) s1 in
    let one : s1 p ≡ bound_anew (Some empty) (s p) = put_self p (bound_anew (Some empty) (s p)) s in
    let two : s2 p ≡ with_now (longer line) (s1 p) = put_self p (with_now (longer line) (s1 p)) s1 in
    let three : after (Sync p) s2 p ≡ with_now made_firm (s2 p) = put_self p (with_now made_firm (s2 p)) s2 in
    ap present_of (three ∙ (ap (with_now made_firm) (two ∙ ap (with_now (longer line)) one)))

pub put_leaves : (s : Names) (p r line : List ℕ) → p ≢ r → IsFirmly (run (put_steps p r line) s r) line
put_leaves s p r line apart =
    let s3 = after (Sync p) (after (Append p line) (after (Start p) s)) in
    settled_firmly (after (Rename p r) s3 r) line (ap present_of (rename_own p r s3 apart) ∙ written s p line)

removed_present : (s : Names) (n : List ℕ) → present_of (after (Remove n) s n) ≡ None
removed_present s n = ap present_of (put_self n (bound_anew None (s n)) s)

pub take_leaves : (s : Names) (n g : List ℕ) → g ≢ n → IsAbsent (run (take_steps n g) s n)
take_leaves s n g apart =
    let s1 = after (Remove n) s in
    settled_absent (after (Remove g) s1 n)
    (ap present_of (put_other g n (bound_anew None (s1 g)) s1 apart) ∙ removed_present s n)

pub take_leaves_other : (s : Names) (n g : List ℕ) → IsAbsent (run (take_steps n g) s g)
take_leaves_other s n g =
    let s1 = after (Remove n) s in settled_absent (after (Remove g) s1 g) (removed_present s1 g)

-- the name is unbound for good, taken away or absent before
pub clear_leaves : (there : Bool) (s : Names) (n g : List ℕ) → g ≢ n → (there ≡ false → IsAbsent (s n))
    → IsAbsent (run (clear_steps there n g) s n)
clear_leaves true s n g apart absent = take_leaves s n g apart
clear_leaves false s n g apart absent = absent refl

pub clear_leaves_other : (there : Bool) (s : Names) (n g : List ℕ) → (there ≡ false → IsAbsent (s g))
    → IsAbsent (run (clear_steps there n g) s g)
clear_leaves_other true s n g absent = take_leaves_other s n g
clear_leaves_other false s n g absent = absent refl

module _ (Fits : List ℕ → List ℕ → Option (List ℕ) → Type 0) (Gone : List ℕ → List ℕ → Type 0) where
  abbrev pub IsGood : Names → Type 0
  IsGood s = Good Fits Gone s

  misses : (p n : List ℕ) (x : DiskStep) → IsPartName p → IsDataName n
      → ((m : List ℕ) → p ≢ m → Misses x m) → MissesFile x n
  misses p n x part named each =
      let apart = part_misses p n part named in
      record { file = each n apart.0; line = each (record_name n) apart.1; gone = each (gone_name n) apart.2 }

  pub good_synced : (s : Names) → IsGood s → IsGood (after SyncNames s)
  good_synced s good =
      good_part Fits Gone SyncNames s (λ n named. record { file = tt; line = tt; gone = tt }) good

  good_start : (s : Names) (p : List ℕ) → IsPartName p → IsGood s → IsGood (after (Start p) s)
  good_start s p part good =
      good_part Fits Gone (Start p) s (λ n named. misses p n (Start p) part named (λ m e. e)) good

  good_append : (s : Names) (p bytes : List ℕ) → IsPartName p → IsGood s → IsGood (after (Append p bytes) s)
  good_append s p bytes part good =
      good_part Fits Gone (Append p bytes) s (λ n named. misses p n (Append p bytes) part named (λ m e. e)) good

  good_sync : (s : Names) (p : List ℕ) → IsPartName p → IsGood s → IsGood (after (Sync p) s)
  good_sync s p part good =
      good_part Fits Gone (Sync p) s (λ n named. misses p n (Sync p) part named (λ m e. e)) good

  good_remove : (s : Names) (p : List ℕ) → IsPartName p → IsGood s → IsGood (after (Remove p) s)
  good_remove s p part good =
      good_part Fits Gone (Remove p) s (λ n named. misses p n (Remove p) part named (λ m e. e)) good

  images : (s : Names) → IsGood s → (i : Image) → IsImage s i → EachFile Fits Gone i
  images s good = good_images Fits Gone s good

  -- ---- calls on a part alone
  pub start_along : (s : Names) (p : List ℕ) → IsPartName p → IsGood s
      → AllAlong (EachFile Fits Gone) (Start p ∷ []) s
  start_along s p part good = (images s good, images (after (Start p) s) (good_start s p part good))

  pub append_along : (s : Names) (p bytes : List ℕ) → IsPartName p → IsGood s
      → AllAlong (EachFile Fits Gone) (Append p bytes ∷ []) s
  append_along s p bytes part good = (images s good, images (after (Append p bytes) s) (good_append s p bytes part good))

  pub remove_along : (s : Names) (p : List ℕ) → IsPartName p → IsGood s
      → AllAlong (EachFile Fits Gone) (Remove p ∷ []) s
  remove_along s p part good = (images s good, images (after (Remove p) s) (good_remove s p part good))

  pub sync_along : (s : Names) → IsGood s → AllAlong (EachFile Fits Gone) (SyncNames ∷ []) s
  sync_along s good = (images s good, images (after SyncNames s) (good_synced s good))

  -- ---- calls on a file
  pub clear_along : (s : Names) (there : Bool) (n : List ℕ) → IsDataName n → IsGood s
      → AllAlong (EachFile Fits Gone) (clear_steps there n (gone_name n)) s
  clear_along s true n named good =
      let s1 = after (Remove n) s in
      let s2 = after (Remove (gone_name n)) s1 in
      let g1 = good_removed Fits Gone s n named good in
      let g2 = good_gone_removed Fits Gone s1 n named g1 in
      (images s good, (images s1 g1, (images s2 g2, images (after SyncNames s2) (good_synced s2 g2))))
  clear_along s false n named good = images s good

  -- a file that is written as a part, where its new name may come over the present one
  put_along : (s : Names) (q name line : List ℕ) → IsPartName q → IsGood s
      → ((t : Names) → (t q).present ≡ Some (whole line)
      → ((m : List ℕ) → q ≢ m → t m ≡ s m) → IsGood t → IsGood (after (Rename q name) t))
      → AllAlong (EachFile Fits Gone) (put_steps q name line) s
  put_along s q name line part good comes =
      let s1 = after (Start q) s in
      let s2 = after (Append q line) s1 in
      let s3 = after (Sync q) s2 in
      let s4 = after (Rename q name) s3 in
      let g1 = good_start s q part good in
      let g2 = good_append s1 q line part g1 in
      let g3 = good_sync s2 q part g2 in
      let same : (m : List ℕ) → q ≢ m → s3 m ≡ s m = λ m e. put_other q m _ s2 e ∙ (put_other q m _ s1 e ∙ put_other q m _ s e) in
      let g4 : IsGood s4 = comes s3 (written s q line) same g3 in
      (images s good, (images s1 g1, (images s2 g2, (images s3 g3, (images s4 g4, images (after SyncNames s4) (good_synced s4 g4))))))

  pub publish_along : (s : Names) (k : ℕ) (n : List ℕ) (sealed : IsSealed s k n)
      → Fits n sealed.bytes (Some sealed.line) → IsGood s
      → AllAlong (EachFile Fits Gone) (publish_steps (part_name k) n) s
  publish_along s k n sealed fits good =
      let s1 = after (Rename (part_name k) n) s in
      let g1 = good_file Fits Gone s (part_name k) n sealed.bytes sealed.line sealed.named (is_part k) sealed.firm
      sealed.absent sealed.recorded fits good in
      (images s good, (images s1 g1, images (after SyncNames s1) (good_synced s1 g1)))

  never_shown : (b : Bindings) → IsAbsent b → (d : List ℕ) → MayShow b (Some d) → ⊥
  never_shown b absent d h = let e : Some d ≡ None = absent (Some d) h in cc

  -- a record comes where no file has the name
  line_along : (s : Names) (k : ℕ) (n line : List ℕ) → IsDataName n → IsAbsent (s n) → IsGood s
      → AllAlong (EachFile Fits Gone) (put_steps (record_part_name k) (record_name n) line) s
  line_along s k n line named absent good =
      let q = record_part_name k in
      let part = is_record_part k in
      put_along s q (record_name n) line part good
      (λ t firm same g. good_line Fits Gone t q n line named part firm
      (λ d h. absurd (never_shown (s n) absent d
      (subst (λ (b : Bindings). MayShow b (Some d)) (same n (part_not_data q n part named)) h))) g)

  pub seal_along : (s : Names) (there : Bool) (k : ℕ) (n line : List ℕ) → IsDataName n
      → (there ≡ false → IsAbsent (s n)) → IsGood s → AllAlong (EachFile Fits Gone) (seal_steps there k n line) s
  seal_along s true k n line named absent good =
      let p = part_name k in
      let s1 = after (Sync p) s in
      let s2 = after (Remove n) s1 in
      let s3 = after (Remove (gone_name n)) s2 in
      let s4 = after SyncNames s3 in
      let g1 = good_sync s p (is_part k) good in
      let g2 = good_removed Fits Gone s1 n named g1 in
      let g3 = good_gone_removed Fits Gone s2 n named g2 in
      let rest = line_along s4 k n line named (take_leaves s1 n (gone_name n) (gone_not_data n n named)) (good_synced s3 g3) in
      (images s good, (images s1 g1, (images s2 g2, (images s3 g3, rest))))
  seal_along s false k n line named absent good =
      let p = part_name k in
      let s1 = after (Sync p) s in
      let kept = step_kept (Sync p) s n (part_not_data p n (is_part k) named) in
      (images s good, line_along s1 k n line named (kept_absent (s1 n) (s n) kept (absent refl)) (good_sync s p (is_part k) good))

  -- an absence record comes
  absence_along : (s : Names) (k : ℕ) (n line : List ℕ) → IsDataName n → Gone n line → IsGood s
      → AllAlong (EachFile Fits Gone) (put_steps (record_part_name k) (gone_name n) line) s
  absence_along s k n line named is good =
      let q = record_part_name k in
      let part = is_record_part k in
      put_along s q (gone_name n) line part good
      (λ t firm same g. good_absence Fits Gone t q n line named part firm is g)

  pub gone_along : (s : Names) (there : Bool) (k : ℕ) (n line : List ℕ) → IsDataName n → Gone n line → IsGood s
      → AllAlong (EachFile Fits Gone) (gone_steps there k n line) s
  gone_along s true k n line named is good =
      let s1 = after (Remove n) s in
      let s2 = after (Remove (gone_name n)) s1 in
      let s3 = after SyncNames s2 in
      let g1 = good_removed Fits Gone s n named good in
      let g2 = good_gone_removed Fits Gone s1 n named g1 in
      let rest = absence_along s3 k n line named is (good_synced s2 g2) in
      (images s good, (images s1 g1, (images s2 g2, rest)))
  gone_along s false k n line named is good = absence_along s k n line named is good

  -- another line comes, which fits each content that the file may show once the names are synced
  pub upgrade_along : (s : Names) (k : ℕ) (n line : List ℕ) → IsDataName n
      → ((d : List ℕ) → MayShow (settled (s n)) (Some d) → Fits n d (Some line)) → IsGood s
      → AllAlong (EachFile Fits Gone) (upgrade_steps k n line) s
  upgrade_along s k n line named fits good =
      let s1 = after SyncNames s in
      let g1 = good_synced s good in
      let q = record_part_name k in
      let part = is_record_part k in
      let rest = put_along s1 q (record_name n) line part g1
      (λ t is same g. good_line Fits Gone t q n line named part is
      (λ d h. fits d (subst (λ (b : Bindings). MayShow b (Some d)) (same n (part_not_data q n part named)) h)) g) in
      (images s good, rest)

  -- parts are removed one by one, and then the names are synced
  pub removes_along : (names : List (List ℕ)) (s : Names) → ((p : List ℕ) → Among p names → IsPartName p) → IsGood s
      → AllAlong (EachFile Fits Gone) (open_steps names) s
  removes_along [] s parts good = sync_along s good
  removes_along (p ∷ names) s parts good = (
    images s good,
    removes_along names (after (Remove p) s) (λ q h. parts q (inr h)) (good_remove s p (parts p (inl refl)) good),
  )

-- ---- what stands after a seal
-- a part that is sealed stays so where no call speaks of it
pub sealed_kept : (xs : List DiskStep) (s : Names) (j : ℕ) (m : List ℕ) → MissAll xs (part_name j) → MissAll xs m
    → MissAll xs (record_name m) → IsSealed s j m → IsSealed (run xs s) j m
sealed_kept xs s j m p f r sealed = record {
  named = sealed.named;
  bytes = sealed.bytes;
  line = sealed.line;
  firm = kept_present (run xs s (part_name j)) (s (part_name j)) (run_kept xs s (part_name j) p) ∙ sealed.firm;
  absent = kept_absent (run xs s m) (s m) (run_kept xs s m f) sealed.absent;
  recorded = kept_firmly (run xs s (record_name m)) (s (record_name m)) sealed.line
      (run_kept xs s (record_name m) r) sealed.recorded;
  fits = sealed.fits;
}

-- which calls of a seal speak of another name
pub rest_misses : (there : Bool) (n g q r line m : List ℕ) → n ≢ m → g ≢ m → q ≢ m → r ≢ m
    → MissAll (clear_steps there n g ++ put_steps q r line) m
rest_misses true n g q r line m f h e i = (f, (h, (tt, (e, (e, (e, ((e, i), (tt, tt))))))))
rest_misses false n g q r line m f h e i = (e, (e, (e, ((e, i), (tt, tt)))))

pub seal_misses : (there : Bool) (k : ℕ) (n line m : List ℕ) → part_name k ≢ m → n ≢ m → gone_name n ≢ m
    → record_part_name k ≢ m → record_name n ≢ m → MissAll (seal_steps there k n line) m
seal_misses there k n line m p f g q r =
    (p, rest_misses there n (gone_name n) (record_part_name k) (record_name n) line m f g q r)

-- the part is firm behind it
pub seal_firm : (there : Bool) (s : Names) (k : ℕ) (n line : List ℕ) (content : Content) → IsDataName n
    → (s (part_name k)).present ≡ Some content
    → (run (seal_steps there k n line) s (part_name k)).present ≡ Some (whole (bytes_of content))
seal_firm there s k n line content named bound =
    let p = part_name k in
    let q = record_part_name k in
    let s1 = after (Sync p) s in
    let pn : n ≢ p = λ e. part_not_data p n (is_part k) named (sym e) in
    let pg : gone_name n ≢ p = λ e. part_not_gone p n (is_part k) (sym e) in
    let pq : q ≢ p = λ e. parts_not_record_parts k k (sym e) in
    let pr : record_name n ≢ p = λ e. part_not_record p n (is_part k) (sym e) in
    let rest = clear_steps there n (gone_name n) ++ put_steps q (record_name n) line in
    let kept = run_kept rest s1 p (rest_misses there n (gone_name n) q (record_name n) line p pn pg pq pr) in
    kept_present (run rest s1 p) (s1 p) kept
    ∙ (ap present_of (put_self p (with_now made_firm (s p)) s) ∙ ap (option_map made_firm) bound)

-- a record that comes where no file has the name leaves it so
line_leaves : (s : Names) (k : ℕ) (n line : List ℕ) → IsDataName n → IsAbsent (s n)
    → IsAbsent (run (put_steps (record_part_name k) (record_name n) line) s n)
    × IsFirmly (run (put_steps (record_part_name k) (record_name n) line) s (record_name n)) line
line_leaves s k n line named absent =
    let q = record_part_name k in
    let m = part_not_data q n (is_record_part k) named in
    let puts = put_steps q (record_name n) line in
    let kept = run_kept puts s n (m, (m, (m, ((m, record_not_data n n named), (tt, tt))))) in (
      kept_absent (run puts s n) (s n) kept absent,
      put_leaves s q (record_name n) line (part_not_record q n (is_record_part k)),
    )

seal_ends : (there : Bool) (s : Names) (k : ℕ) (n line : List ℕ) → IsDataName n → (there ≡ false → IsAbsent (s n))
    → IsAbsent (run (seal_steps there k n line) s n) × IsFirmly (run (seal_steps there k n line) s (record_name n)) line
seal_ends true s k n line named absent =
    let s1 = after (Sync (part_name k)) s in
    line_leaves (run (take_steps n (gone_name n)) s1) k n line named
    (take_leaves s1 n (gone_name n) (gone_not_data n n named))
seal_ends false s k n line named absent =
    let p = part_name k in
    let s1 = after (Sync p) s in
    let kept = step_kept (Sync p) s n (part_not_data p n (is_part k) named) in
    line_leaves s1 k n line named (kept_absent (s1 n) (s n) kept (absent refl))

pub seal_leaves : (there : Bool) (s : Names) (k : ℕ) (n line : List ℕ) (content : Content) → IsDataName n
    → (there ≡ false → IsAbsent (s n)) → (s (part_name k)).present ≡ Some content → RecordFits line (bytes_of content)
    → IsSealed (run (seal_steps there k n line) s) k n
seal_leaves there s k n line content named absent bound fits =
    let ends = seal_ends there s k n line named absent in
    record {
      named = named;
      bytes = bytes_of content;
      line = line;
      firm = seal_firm there s k n line content named bound;
      absent = ends.0;
      recorded = ends.1;
      fits = fits;
    }

-- the file and its record, after it is published
pub publish_leaves : (s : Names) (k : ℕ) (n : List ℕ) (sealed : IsSealed s k n)
    → IsFirmly (run (publish_steps (part_name k) n) s n) sealed.bytes
    × IsFirmly (run (publish_steps (part_name k) n) s (record_name n)) sealed.line
publish_leaves s k n sealed =
    let p = part_name k in
    let steps = publish_steps p n in
    let kept = run_kept steps s (record_name n)
    ((part_not_record p n (is_part k), λ e. record_not_data n n sealed.named (sym e)), (tt, tt)) in (
      settled_firmly (after (Rename p n) s n) sealed.bytes
          (ap present_of (rename_own p n s (part_not_data p n (is_part k) sealed.named)) ∙ sealed.firm),
      kept_firmly (run steps s (record_name n)) (s (record_name n)) sealed.line kept sealed.recorded,
    )

-- ---- what is removed
removed_once : (p : List ℕ) (s : Names) (n : List ℕ) → present_of (s n) ≡ None
    → present_of (after (Remove p) s n) ≡ None
removed_once p s n e = by (text_eq p n) refl
  where
    by : (b : Bool) → text_eq p n ≡ b → present_of (if b then bound_anew None (s p) else s n) ≡ None
    by true f = refl
    by false f = e

pub removed_still : (names : List (List ℕ)) (s : Names) (n : List ℕ) → present_of (s n) ≡ None
    → present_of (run (removed names) s n) ≡ None
removed_still [] s n e = e
removed_still (p ∷ names) s n e = removed_still names (after (Remove p) s) n (removed_once p s n e)

-- a name that is among them is unbound, and another one as it was
pub removed_among : (names : List (List ℕ)) (s : Names) (n : List ℕ) → Among n names
    → present_of (run (removed names) s n) ≡ None
removed_among [] s n h = absurd h
removed_among (p ∷ names) s n (inl e) =
    removed_still names (after (Remove p) s) n
    (subst (λ (m : List ℕ). present_of (after (Remove p) s m) ≡ None) (sym e) (removed_present s p))
removed_among (p ∷ names) s n (inr h) = removed_among names (after (Remove p) s) n h

pub removed_other : (names : List (List ℕ)) (s : Names) (n : List ℕ) → (Among n names → ⊥) → run (removed names) s n ≡ s n
removed_other [] s n h = refl
removed_other (p ∷ names) s n h =
    removed_other names (after (Remove p) s) n (λ k. h (inr k))
    ∙ put_other p n (bound_anew None (s p)) s (λ e. h (inl (sym e)))
