-- A file of which no more was read than was allowed was read whole.
use Rattle.std.proofs.Common.{◌≡◌, ℕ, ◌+◌, ◌-◌, ◌^◌, ◌<◌, ◌≤◌, min, List, [], ◌∷◌, length, take, Option, Some, None, IfSome, refl, ap, ◌∙◌, arith, zero, suc}
use Rattle.std.specs.Option.{option_map}
use Rattle.std.proofs.lemmas.Bool.{le-leb}
use Rattle.link_base.specs.Links.{got_of}
use Rattle.link_base.specs.declared.links.Got.TheVariants.{Bytes}

-- what is shorter than was taken is all
take-short : (n : ℕ) (all : List ℕ) → length (take n all) < n → take n all ≡ all
take-short zero all h = absurd (omega arith)
take-short (suc n) [] h = refl
take-short (suc n) (x ∷ all) h = ap (λ rest. x ∷ rest) (take-short n all (omega (arith, h)))

pub read_whole : (known : Option (List ℕ)) (limit count : ℕ) (bytes : List ℕ) → count ≡ min (limit + 1) (2 ^ 64 - 1)
    → length bytes < 2 ^ 63 → length bytes ≤ limit → IfSome (option_map (take count) known) (λ taken. bytes ≡ taken)
    → IfSome known (λ left. Bytes bytes ≡ got_of (Some left) limit)
read_whole None limit count bytes c s f k = tt
read_whole (Some left) limit count bytes c s f k =
    let short : length (take count left) < count = omega (arith, c, s, f, ap length k) in
    let whole : bytes ≡ left = k ∙ take-short count left short in
    let fits : length left ≤ limit = omega (arith, f, ap length whole) in
    rw (le-leb (length left) limit fits) (ap Bytes whole)
