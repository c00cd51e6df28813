-- The order by items is total up to ties, and the full order is total.
use Rattle.std.specs.Prelude.{◌≡◌, ℕ, zero, suc, ◌+◌, ◌≤◌, List, [], ◌∷◌, length}
use Rattle.std.proofs.Common.{refl, sym, ◌∙◌, ap, arith}
use Rattle.std.specs.declared.cmp.Ordering.{Ordering}
use Rattle.std.specs.declared.cmp.Ordering.TheVariants.{Less, Equal}
use Rattle.std.specs.Ordering.{ordering_then, ordering_reverse}
use Rattle.std.specs.Cmp.{IsTotalOrder, on_total, then_total, nat_cmp_total}
use Rattle.std.specs.Cmp.Lexicographic.{slice_cmp, lists_total, nat_list_cmp_total}
use Rattle.version_order.specs.RankValue.{RankValue}
use Rattle.version_order.specs.Ranks.{rank_cmp, empty_rank, ranks_cmp, items_cmp, full_cmp, ranks}

pub rank_total : IsTotalOrder rank_cmp
rank_total =
    then_total (on_total (λ (r : RankValue). r.class) nat_cmp_total)
    (then_total (on_total (λ (r : RankValue). r.size) nat_cmp_total) (on_total (λ (r : RankValue). r.bytes) nat_list_cmp_total))

-- continued by empty items to a length
abbrev continued : ℕ → List RankValue → List RankValue
continued zero xs = []
continued (suc n) [] = empty_rank ∷ continued n []
continued (suc n) (x ∷ xs) = x ∷ continued n xs

same_continued : (n : ℕ) (xs ys : List RankValue) → length xs ≤ n → length ys ≤ n
    → ranks_cmp xs ys ≡ slice_cmp rank_cmp (continued n xs) (continued n ys)
same_continued zero [] [] h k = refl
same_continued zero [] (y ∷ ys) h k = absurd (omega (arith, k))
same_continued zero (x ∷ xs) ys h k = absurd (omega (arith, h))
same_continued (suc n) [] [] h k = same_continued n [] [] (omega arith) (omega arith)
same_continued (suc n) [] (y ∷ ys) h k =
    ap (ordering_then (rank_cmp empty_rank y)) (same_continued n [] ys (omega arith) (omega (arith, k)))
same_continued (suc n) (x ∷ xs) [] h k =
    ap (ordering_then (rank_cmp x empty_rank)) (same_continued n xs [] (omega (arith, h)) (omega arith))
same_continued (suc n) (x ∷ xs) (y ∷ ys) h k =
    ap (ordering_then (rank_cmp x y)) (same_continued n xs ys (omega (arith, h)) (omega (arith, k)))

abbrev C : List RankValue → List RankValue → Ordering
C = slice_cmp rank_cmp

listed : IsTotalOrder C
listed = lists_total rank_total

-- three lists, each continued to one length
module _ (xs ys zs : List RankValue) where
  abbrev upto : List RankValue → List RankValue
  upto = continued (length xs + length ys + length zs)

  at_xy : ranks_cmp xs ys ≡ C (upto xs) (upto ys)
  at_xy = same_continued (length xs + length ys + length zs) xs ys (omega arith) (omega arith)

  at_yx : ranks_cmp ys xs ≡ C (upto ys) (upto xs)
  at_yx = same_continued (length xs + length ys + length zs) ys xs (omega arith) (omega arith)

  at_yz : ranks_cmp ys zs ≡ C (upto ys) (upto zs)
  at_yz = same_continued (length xs + length ys + length zs) ys zs (omega arith) (omega arith)

  at_xz : ranks_cmp xs zs ≡ C (upto xs) (upto zs)
  at_xz = same_continued (length xs + length ys + length zs) xs zs (omega arith) (omega arith)

  turned : ranks_cmp xs ys ≡ ordering_reverse (ranks_cmp ys xs)
  turned = at_xy ∙ listed.antisymm (upto xs) (upto ys) ∙ ap ordering_reverse (sym at_yx)

  chained : ranks_cmp xs ys ≡ Less → ranks_cmp ys zs ≡ Less → ranks_cmp xs zs ≡ Less
  chained h k = at_xz ∙ listed.trans (upto xs) (upto ys) (upto zs) (sym at_xy ∙ h) (sym at_yz ∙ k)

  level : ranks_cmp xs ys ≡ Equal → ranks_cmp xs zs ≡ ranks_cmp ys zs
  level h = at_xz ∙ listed.congr (upto xs) (upto ys) (upto zs) (sym at_xy ∙ h) ∙ sym at_yz

ranks_total : IsTotalOrder ranks_cmp
ranks_total = record { antisymm = λ x y. turned x y []; trans = chained; congr = level }

pub items_total : IsTotalOrder items_cmp
items_total = on_total ranks ranks_total

pub full_total : IsTotalOrder full_cmp
full_total = then_total items_total nat_list_cmp_total
