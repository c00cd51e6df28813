-- The URL of a key.
use Rattle.std.proofs.Common.{ℕ, zero, suc, ◌≡◌, List, [], ◌∷◌, Option, Some, None, refl, sym, arith}
use Rattle.cache_images.specs.Sound.{IsUrlOf}
use Rattle.cache_layout.specs.Addresses.{IsAddress}
use Rattle.cache_layout.specs.Names.{name_of}
use Rattle.file_answers.specs.Demands.{demand_of}
use Rattle.file_answers.specs.declared.demand.Demand.{Demand}
use Rattle.hex.specs.Hex.{IsBytes}
use Rattle.link_base.specs.Links.{opened_of}
use Rattle.link_base.specs.declared.links.Opened.TheVariants.{Absent as Missing}
use Rattle.pool_rules.specs.Plans.{url_in}
use Rattle.pool_rules.specs.declared.plan.Plan.{Plan}
use Rattle.res_base.specs.Paths.{url_at}
use Rattle.res_base.specs.World.{at}
use Rattle.res_base.specs.declared.key.FileKey.{FileKey}
use Rattle.res_base.specs.declared.reading.Check.{Check}
use Rattle.res_base.specs.declared.world.WorldRow.{WorldRow}
use Rattle.file_fetch.specs.Keys.{address_of}

pub bytes_joined : (xs ys : List ℕ) → IsBytes xs → IsBytes ys → IsBytes (url_at xs ys)
bytes_joined [] ys p q zero = omega arith
bytes_joined [] ys p q (suc i) = q i
bytes_joined (x ∷ xs) ys p q zero = p 0
bytes_joined (x ∷ xs) ys p q (suc i) = bytes_joined xs ys (λ k. p (suc k)) q i

pub url_named : (plan : Plan) (key : FileKey) (name : List ℕ) → IsAddress (address_of plan key)
    → IsBytes (url_at (address_of plan key) key.path) → name ≡ name_of (url_at (address_of plan key) key.path)
    → IsUrlOf name (url_in plan key)
url_named plan key name reads bytes named = record {
  address = address_of plan key;
  path = key.path;
  whole = refl;
  reads = reads;
  bytes = bytes;
  named = sym named;
}

pub url_from : (plan : Plan) (key : FileKey) (name one first other second : List ℕ) → one ≡ address_of plan key
    → first ≡ key.path → IsBytes (url_at one first) → other ≡ address_of plan key → second ≡ key.path
    → name ≡ name_of (url_at other second) → IsAddress (address_of plan key) → IsUrlOf name (url_in plan key)
url_from plan key name one first other second a b bytes c d named reads =
    url_named plan key name reads (rw (a, b) at bytes) (rw (c, d) at named)

-- no file is opened at a key's URL where the world has none there
pub absent_there : (w : List WorldRow) (plan : Plan) (key : FileKey) (one first : List ℕ) → one ≡ address_of plan key
    → first ≡ key.path → Missing ≡ opened_of (at w (url_at one first)) → at w (url_in plan key) ≡ None
absent_there w plan key one first a b opened = by (at w (url_in plan key)) refl (rw (a, b) at opened)
  where
    by : (o : Option (List ℕ)) → at w (url_in plan key) ≡ o → Missing ≡ opened_of (at w (url_in plan key))
        → at w (url_in plan key) ≡ None
    by None is e = is
    by (Some bytes) is e = let h = rw is at e in let no : ⊥ = cc in absurd no

-- what checks ask of a key's file
pub demand_there : (w : List WorldRow) (plan : Plan) (key : FileKey) (one first : List ℕ) (list : List Check)
    (demand : Demand) → one ≡ address_of plan key → first ≡ key.path → list ≡ plan.checks
    → demand ≡ demand_of (at w) (url_at one first) list → demand ≡ demand_of (at w) (url_in plan key) plan.checks
demand_there w plan key one first list demand a b c is = rw (a, b, c) at is
