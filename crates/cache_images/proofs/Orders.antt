-- Wrong orders of calls leave images that are not sound.
use Rattle.std.proofs.Common.{ℕ, ◌≡◌, ◌≢◌, List, [], ◌∷◌, Option, Some, None, length, refl, sym, ap, ◌∙◌, subst, inl, arith}
use Rattle.std.specs.Option.{option_map}
use Rattle.std.proofs.lemmas.List.{nil_from_length}
use Rattle.disk_base.specs.Images.{MayShow, Shows}
use Rattle.disk_base.specs.Names.{Names, after, bound_anew, bytes_of, empty, longer, no_names, read_name, run, with_now}
use Rattle.disk_base.specs.declared.contents.Bindings.{Bindings}
use Rattle.disk_base.specs.declared.contents.Content.{Content}
use Rattle.disk_base.specs.declared.steps.DiskStep.TheVariants.{Append, Rename, Start}
use Rattle.cache_layout.specs.declared.record.Record.{Record}
use Rattle.cache_images.proofs.Frames.{kept_firmly, kept_present, run_kept}
use Rattle.cache_images.proofs.Good.{from_images}
use Rattle.cache_images.proofs.Sealing.{put_leaves}
use Rattle.cache_images.proofs.Shown.{put_self, read_image, rename_own}
use Rattle.cache_images.proofs.Texts.{is_part, is_record_part, part_not_data, part_not_record, record_not_data}
use Rattle.cache_images.specs.Along.{AllGood, Along}
use Rattle.cache_images.specs.Leaves.{IsFirmly}
use Rattle.cache_images.specs.Orders.{AreUnsound, early_steps, loose_steps}
use Rattle.cache_images.specs.Places.{IsDataName, part_name, record_name, record_part_name}
use Rattle.cache_images.specs.Sequences.{put_steps}
use Rattle.cache_images.specs.Sound.{AnyLine, HasItsRecord, HasRecord, RecordFits}

-- ---- a file without its record
early : (k : ℕ) (n bytes : List ℕ) → IsDataName n → Along HasItsRecord AnyLine (early_steps k n bytes) no_names → ⊥
early k n bytes named all =
    let p = part_name k in
    let r = record_name n in
    let s = run (early_steps k n bytes) no_names in
    let pr = part_not_record p n (is_part k) in
    let nr : n ≢ r = λ e. record_not_data n n named (sym e) in
    let there : read_name s n ≡ Some bytes =
    put_leaves no_names p n bytes (part_not_data p n (is_part k) named) (read_name s n) (read_image s n) in
    let kept = run_kept (early_steps k n bytes) no_names r (pr, (pr, (pr, ((pr, nr), (tt, tt))))) in
    let none : read_name s r ≡ None = ap (option_map bytes_of) (kept_present (s r) (no_names r) kept) in
    let last : AllGood HasItsRecord AnyLine s = all.1.1.1.1.1 in
    let has : HasRecord (read_name s r) bytes = (last (read_name s) (read_image s) n named).0 bytes there in
    subst (λ (o : Option (List ℕ)). HasRecord o bytes) none has

-- ---- a file that was not synced
two_lengths : (line : List ℕ) → RecordFits line [] → RecordFits line (0 ∷ []) → ⊥
two_lengths line a b =
    let same : a.entry ≡ b.entry = one_entry a.entry b.entry (sym a.reads ∙ b.reads) in
    let size : a.entry.length ≡ 1 = ap (λ (e : Record). e.length) same ∙ b.measures.size in
    omega (arith, size, a.measures.size)
  where
    one_entry : (x y : Record) → Some x ≡ Some y → x ≡ y
    one_entry x y e = cc

shows_any : (o : Option Content) (bytes d : List ℕ) → bytes ≢ [] → o ≡ Some (longer bytes empty) → Shows o (Some d)
shows_any o bytes d some e =
    subst (λ (c : Option Content). Shows c (Some d)) (sym e)
    (d, refl, λ le. absurd (some (nil_from_length bytes (omega (arith, le)))))

abbrev present_of : Bindings → Option Content
present_of b = b.present

loose_shows : (s : Names) (p n bytes d : List ℕ) → p ≢ n → bytes ≢ []
    → MayShow (run (Start p ∷ Append p bytes ∷ Rename p n ∷ []) s n) (Some d)
loose_shows s p n bytes d apart some =
    let s1 = after (Start p) s in
    let s2 = after (Append p bytes) s1 in
    let one : s1 p ≡ bound_anew (Some empty) (s p) = put_self p (bound_anew (Some empty) (s p)) s in
    let two : s2 p ≡ with_now (longer bytes) (s1 p) = put_self p (with_now (longer bytes) (s1 p)) s1 in
    let is : present_of (after (Rename p n) s2 n) ≡ Some (longer bytes empty) =
    ap present_of (rename_own p n s2 apart) ∙ ap present_of (two ∙ ap (with_now (longer bytes)) one) in
    inl (shows_any (present_of (after (Rename p n) s2 n)) bytes d some is)

loose : (k : ℕ) (n line bytes : List ℕ) → IsDataName n → bytes ≢ []
    → Along HasItsRecord AnyLine (loose_steps k n line bytes) no_names → ⊥
loose k n line bytes named some all =
    let p = part_name k in
    let q = record_part_name k in
    let r = record_name n in
    let s = run (put_steps q r line) no_names in
    let rest = Start p ∷ Append p bytes ∷ Rename p n ∷ [] in
    let pr = part_not_record p n (is_part k) in
    let nr : n ≢ r = λ e. record_not_data n n named (sym e) in
    let kept = run_kept rest s r (pr, (pr, ((pr, nr), tt))) in
    let firm : IsFirmly (run rest s r) line =
    kept_firmly (run rest s r) (s r) line kept (put_leaves no_names q r line (part_not_record q n (is_record_part k))) in
    let line_shown : MayShow (run rest s r) (Some line) =
    subst (λ (o : Option (List ℕ)). MayShow (run rest s r) o)
    (firm (read_name (run rest s) r) (read_image (run rest s) r)) (read_image (run rest s) r) in
    let last : AllGood HasItsRecord AnyLine (run rest s) = all.1.1.1.1.1.1.1.1 in
    let good = from_images HasItsRecord AnyLine (run rest s) last n named in
    let apart = part_not_data p n (is_part k) named in
    two_lengths line (good.file [] (Some line) (loose_shows s p n bytes [] apart some) line_shown)
    (good.file (0 ∷ []) (Some line) (loose_shows s p n bytes (0 ∷ []) apart some) line_shown)

pub unsound : AreUnsound
unsound = record { early = early; loose = loose }
