-- Files that are read piece by piece.
use Rattle.std.proofs.Common.{ℕ, ◌≡◌, ◌<◌, ◌≤◌, ◌+◌, ◌-◌, ◌^◌, ◌++◌, List, [], Option, Some, None, length, take, drop, min, refl, sym, ap, ◌∙◌, subst, ⊎_elim, true, false, leb, arith, append-nil, append_assoc, true≢false}
use Rattle.std.proofs.lemmas.Bool.Decides.{leb_tells}
use Rattle.std.proofs.Math.Seq.{take-add}
use Rattle.std.proofs.lemmas.List.{take_all}
use Rattle.std.specs.Prelude.{is_some}
use Rattle.disk_base.proofs.Composed.{ran_reads, told_read}
use Rattle.disk_base.specs.Images.{Image}
use Rattle.disk_base.specs.Names.{Names, bytes_of, read_name}
use Rattle.disk_base.specs.declared.contents.Content.{Content}
use Rattle.std.specs.Option.{option_map}
use Rattle.disk_base.specs.Runs.{Ran}
use Rattle.cache_reads.specs.Pieces.{FitsPlace, ReadsAll, TakesPiece, bytes_or_none}

piece_first : (taken content : List ℕ) (at n : ℕ)
    → (taken ++ take at content) ++ take n (drop at content) ≡ taken ++ take (at + n) content
piece_first taken content at n =
    append_assoc taken (take at content) (take n (drop at content))
    ∙ ap (λ (l : List ℕ). taken ++ l) (sym (take-add at n content))

piece_last : (taken content : List ℕ) (at room : ℕ) → at ≤ length content → 0 < room → 0 ≡ min room (length content - at)
    → (taken ++ take at content) ++ take 0 (drop at content) ≡ taken ++ content
piece_last taken content at room le some none =
    let all : take at content ≡ content = take_all at content (omega (arith, none, some)) in
    append-nil (taken ++ take at content) ∙ ap (λ (l : List ℕ). taken ++ l) all

longer_within : (content : List ℕ) (at room n : ℕ) → at ≤ length content → n ≡ min room (length content - at)
    → at + n ≤ length content
longer_within content at room n le e = omega (arith, le, e)

module _ {D : Type 0} (told : D → Option Names) (moment : D → ℕ) (since : D → ℕ → Image → Type 0) (name : List ℕ) where
  abbrev content_of : Names → List ℕ
  content_of s = bytes_or_none (read_name s name)

  -- the bytes up to a place were taken
  pub record SoFar (old now : D) (before after : List ℕ → Type 0) (at : ℕ) : Type 0 where
    pub ran : Ran told moment since [] old now
    pub each : (s : Names) → told old ≡ Some s → (taken : List ℕ) → before taken
        → (at ≤ length (content_of s)) × after (taken ++ take at (content_of s))

  pub so_far_more : (old mid new : D) (before between after : List ℕ → Type 0) (at room n : ℕ)
      → SoFar old mid before between at → Ran told moment since [] mid new
      → TakesPiece told mid name at room between after n → SoFar old new before after (at + n)
  so_far_more old mid new before between after at room n so ran takes = record {
    ran = ran_reads told moment since old mid new so.ran ran;
    each = λ s f taken had.
        let first = so.each s f taken had in
        let next = takes.each s (told_read told moment since old mid so.ran ∙ f) (taken ++ take at (content_of s)) first.1 in (
          longer_within (content_of s) at room n first.0 next.0,
          subst after (piece_first taken (content_of s) at n) next.1,
        );
  }

  pub so_far_end : (old mid : D) (before between after : List ℕ → Type 0) (at room n : ℕ)
      → SoFar old mid before between at → TakesPiece told mid name at room between after n → 0 < room → n ≡ 0
      → ReadsAll told old name before after
  so_far_end old mid before between after at room n so takes some none = record {
    all = λ s f taken had.
        let first = so.each s f taken had in
        let next = takes.each s (told_read told moment since old mid so.ran ∙ f) (taken ++ take at (content_of s)) first.1 in
        let e : 0 ≡ min room (length (content_of s) - at) = sym none ∙ next.0 in
        let moved : after ((taken ++ take at (content_of s)) ++ take 0 (drop at (content_of s))) =
        subst (λ (m : ℕ). after ((taken ++ take at (content_of s)) ++ take m (drop at (content_of s)))) none next.1 in
        subst after (piece_last taken (content_of s) at room first.0 some e) moved;
  }

-- a place that is not past the end of all places
pub few_more : (at room n : ℕ) → FitsPlace at room n → room ≤ 65536 → (n ≡ 0 → ⊥) → at + n ≤ 2 ^ 63 + 65535
few_more at room n fits few some =
    ⊎_elim (λ (h : (leb (2 ^ 63) at ≡ true) × (2 ^ 63 ≤ at)). absurd (some (fits.ends h.1)))
    (λ (h : (leb (2 ^ 63) at ≡ false) × (at < 2 ^ 63)). omega (arith, h.1, fits.within, few)) (leb_tells (2 ^ 63) at)

bound_bytes : (o : Option Content) → is_some o ≡ true
    → option_map bytes_of o ≡ Some (bytes_or_none (option_map bytes_of o))
bound_bytes None e = absurd (true≢false (sym e))
bound_bytes (Some c) e = refl

-- a name that is bound reads as its bytes
pub bound_read : (s : Names) (name : List ℕ) → is_some (s name).present ≡ true
    → read_name s name ≡ Some (bytes_or_none (read_name s name))
bound_read s name e = bound_bytes (s name).present e
