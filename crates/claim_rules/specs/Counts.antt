-- What is counted along a history: claims, failures of links, and what the cache lacks.
use Rattle.std.specs.Prelude.{ℕ, ◌||◌, ◌&&◌, Bool, true, false, nat_lt, count_by}
use Rattle.std.specs.List.{list_any}
use Rattle.claim_rules.specs.Histories.{What, claim, arrive, broke, give_back, Entry, History, key_in}
use Rattle.claim_rules.specs.declared.why.Why.{Why}
use Rattle.claim_rules.specs.declared.why.Why.TheVariants.{Link, NotCached}
use Rattle.res_base.specs.Names.{key_eq}
use Rattle.res_base.specs.declared.key.FileKey.{FileKey}

-- an entry that passes a test and is of the key
abbrev pub is_of : (What → Bool) → FileKey → Entry → Bool
is_of test key e = test e.what && key_eq (key_in e.what) key

abbrev pub is_claim : What → Bool
is_claim (claim key) = true
is_claim (arrive key reading) = false
is_claim (broke key why) = false
is_claim (give_back key) = false

abbrev pub claims : History → ℕ
claims h = count_by (λ (e : Entry). is_claim e.what) h

abbrev pub claims_of : History → FileKey → ℕ
claims_of h key = count_by (is_of is_claim key) h

-- the claims of keys that pass
abbrev pub claims_that : (FileKey → Bool) → History → ℕ
claims_that passes h = count_by (λ (e : Entry). is_claim e.what && passes (key_in e.what)) h

abbrev pub is_by_link : Why → Bool
is_by_link Link = true
is_by_link NotCached = false

abbrev pub breaks_by : (Why → Bool) → What → Bool
breaks_by by (claim key) = false
breaks_by by (arrive key reading) = false
breaks_by by (broke key why) = by why
breaks_by by (give_back key) = false

abbrev pub is_link_break : What → Bool
is_link_break = breaks_by is_by_link

-- how often a claim of the key broke by the link
abbrev pub link_breaks : History → FileKey → ℕ
link_breaks h key = count_by (is_of is_link_break key) h

abbrev pub is_uncached : Why → Bool
is_uncached Link = false
is_uncached NotCached = true

abbrev pub is_lack : What → Bool
is_lack = breaks_by is_uncached

-- a claim of the key broke because the cache has no answer
abbrev pub is_lacking : History → FileKey → Bool
is_lacking h key = list_any (is_of is_lack key) h

-- the link failed once more than it may, or the cache has no answer
abbrev pub is_broken : ℕ → History → FileKey → Bool
is_broken retries h key = nat_lt retries (link_breaks h key) || is_lacking h key

abbrev pub is_return : What → Bool
is_return (claim key) = false
is_return (arrive key reading) = false
is_return (broke key why) = false
is_return (give_back key) = true

-- some claim was given back
abbrev pub gave_back : History → Bool
gave_back h = list_any (λ (e : Entry). is_return e.what) h
