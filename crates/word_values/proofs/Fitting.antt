-- What holds of every job that is read.
use Rattle.std.proofs.Common.{◌≡◌, ◌≤◌, ◌+◌, ◌&&◌, ℕ, Bool, true, false, cond, List, [], ◌∷◌, ◌++◌, Option, Some, None, Ok, Err, length, nat_le, unwrap_or, refl, subst, arith, length-append, lit≤, codes}
use Rattle.std.proofs.lemmas.Bool.{and_parts}
use Rattle.std.proofs.lemmas.Bool.Decides.{nat_tests}
use Rattle.std.proofs.lemmas.List.Splits.{length-slice_split}
use Rattle.std.specs.List.{list_all}
use Rattle.ascii_bytes.specs.Digits.{decimal}
use Rattle.cache_layout.specs.Addresses.{is_address}
use Rattle.res_base.specs.Names.{text_eq}
use Rattle.res_base.specs.declared.coord.Coord.{Coord}
use Rattle.word_values.specs.Addresses.{addresses_of, repository_in}
use Rattle.word_values.specs.Choices.{choice_given, output_in}
use Rattle.word_values.specs.Coordinates.{is_constraint, is_preferred, root_in}
use Rattle.word_values.specs.Fits.{IsFit, IsFitSample, is_sample, modules_apart, prints}
use Rattle.word_values.specs.Members.{after_member, is_none_left, members_from, members_in}
use Rattle.word_values.specs.Numbers.{is_number, number_between, number_given}
use Rattle.word_values.specs.Prefixes.{is_printable, prefix_in}
use Rattle.word_values.specs.Refusals.{Read, ◌>>=◌, or_refused}
use Rattle.word_values.specs.Samples.{place_given, sample_given}
use Rattle.word_values.specs.Split.{is_bar, members_of}
use Rattle.word_values.specs.Values.{Texts, cache_given, job_given, links_given, roots_given, rules_given, shows_given}
use Rattle.word_values.specs.declared.job.Command.{Command}
use Rattle.word_values.specs.declared.job.Command.TheVariants.{Resolve, Fetch, Sample}
use Rattle.word_values.specs.declared.job.Job.{Job}
use Rattle.word_values.specs.declared.job.Output.{Output}
use Rattle.word_values.specs.declared.job.Output.TheVariants.{Plain, Tree, Json, Classpath}
use Rattle.word_values.specs.declared.refusals.WordKind.{WordKind}
use Rattle.word_values.specs.declared.refusals.WordKind.TheVariants as kind
use Rattle.word_values.specs.declared.refusals.WordsErr.TheVariants.{BadWords}
use Rattle.word_values.specs.declared.values.Cache.{Cache}
use Rattle.word_values.specs.declared.values.Links.{Links}
use Rattle.word_values.specs.declared.values.Rules.{Rules}
use Rattle.word_values.specs.declared.values.Shows.{Shows}
use Rattle.word_values.proofs.FitLists.{AreRoots, are_forced, root_step}
use Rattle.word_values.proofs.Kept.{kept}
use Rattle.word_values.proofs.Repositories.{are_repositories}

-- a chain that ends in a value has one at its first step
pub record Opened {A B : Type 0} (wanted : Read A) (next : A → Read B) (value : B) : Type 0 where
  pub first : A
  pub read : wanted ≡ Ok first
  pub rest : next first ≡ Ok value

pub opened : {A B : Type 0} (wanted : Read A) (next : A → Read B) (value : B) → (wanted >>= next) ≡ Ok value
    → Opened wanted next value
unfolding ◌>>=◌
opened (Ok first) next value e = record { first = first; read = refl; rest = e }
opened (Err refusal) next value e = let no : ⊥ = cc in absurd no

-- what holds of one value of a reading holds of the other
pub carry : {A : Type 0} (P : A → Type 0) (made value : A) (wanted : Read A) → wanted ≡ Ok made → wanted ≡ Ok value → P made
    → P value
carry P made value wanted e q h = let same : made ≡ value = cc in subst P same h

-- numbers between two limits
pub record IsBetween (least most number : ℕ) : Type 0 where
  pub at_least : least ≤ number
  pub at_most : number ≤ most

number_fits : (least most : ℕ) (text : List ℕ) (number : ℕ) → number_between least most text ≡ Some number
    → IsBetween least most number
number_fits least most text number e =
    go (is_number text && (nat_le least (decimal text) && nat_le (decimal text) most)) refl e
  where
    go : (b : Bool) → (is_number text && (nat_le least (decimal text) && nat_le (decimal text) most)) ≡ b
        → cond b (Some (decimal text)) None ≡ Some number → IsBetween least most number
    go true q s =
        let both = (and_parts (is_number text) (nat_le least (decimal text) && nat_le (decimal text) most) q).1 in
        let tests = and_parts (nat_le least (decimal text)) (nat_le (decimal text) most) both in
        let same : decimal text ≡ number = cc in
        subst (IsBetween least most) same (record { at_least = grind (arith, nat_tests, tests.0); at_most = grind (arith, nat_tests, tests.1) })
    go false q s = let no : ⊥ = cc in absurd no

pub between : (k : WordKind) (least most usual : ℕ) (text : Option (List ℕ)) (number : ℕ) → least ≤ usual → usual ≤ most
    → number_given k least most usual text ≡ Ok number → IsBetween least most number
between k least most usual None number low high e =
    let same : usual ≡ number = cc in subst (IsBetween least most) same (record { at_least = low; at_most = high })
between k least most usual (Some text) number low high e = go (number_between least most text) refl e
  where
    go : (read : Option ℕ) → number_between least most text ≡ read → or_refused k read ≡ Ok number → IsBetween least most number
    go None q s = let no : ⊥ = cc in absurd no
    go (Some n) q s = let same : n ≡ number = cc in subst (IsBetween least most) same (number_fits least most text n q)

-- each member is read once
pub counted : {A : Type 0} (k : WordKind) (reads : List A → List ℕ → Bool → Option A) (texts : List (List ℕ)) (before made : List A)
    → members_from k reads texts before ≡ Ok made → length made ≡ length before + length texts
counted k reads [] before made e =
    let same : before ≡ made = cc in subst (λ xs. length xs ≡ length before + 0) same (omega arith)
counted {A} k reads (text ∷ rest) before made e =
    go (reads before text (is_none_left rest)) (λ member s. counted k reads rest (before ++ member ∷ []) made s) e
  where
    go : (read : Option A)
        → ((member : A) → members_from k reads rest (before ++ member ∷ []) ≡ Ok made
        → length made ≡ length (before ++ member ∷ []) + length rest)
        → after_member k reads before read (members_from k reads rest) ≡ Ok made
        → length made ≡ length before + length (text ∷ rest)
    go None next s = let no : ⊥ = cc in absurd no
    go (Some member) next s =
        let more : length made ≡ length (before ++ member ∷ []) + length rest = next member s in
        omega (arith, simp length-append at more)

pub record IsFitRules (rules : Rules) : Type 0 where
  pub forced : list_all (λ coord. is_preferred coord.version) rules.forced ≡ true
  pub forced_apart : modules_apart rules.forced ≡ true
  pub some_round : 1 ≤ rules.rounds
  pub most_rounds : rules.rounds ≤ 1000

pub rules_fit : (given : Texts) (rules : Rules) → rules_given given ≡ Ok rules → IsFitRules rules
unfolding rules_given
rules_fit given rules e =
    let s1 = opened _ _ _ e in
    let s2 = opened _ _ _ s1.rest in
    let s3 = opened _ _ _ s2.rest in
    let s4 = opened _ _ _ s3.rest in
    let s5 = opened _ _ _ s4.rest in
    let s6 = opened _ _ _ s5.rest in
    let forced = are_forced (given (codes "force")) s3.first s3.read in
    let rounds = between kind.Rounds 1 1000 200 (given (codes "rounds")) s6.first (lit≤ tt) (lit≤ tt) s6.read in
    carry IsFitRules _ rules _ refl s6.rest
    (record { forced = forced.0; forced_apart = forced.1; some_round = rounds.at_least; most_rounds = rounds.at_most })

pub record IsFitLinks (links : Links) : Type 0 where
  pub some_link : 1 ≤ links.parallel
  pub most_links : links.parallel ≤ 16
  pub retries : links.retries ≤ 3

pub links_fit : (given : Texts) (links : Links) → links_given given ≡ Ok links → IsFitLinks links
unfolding links_given
links_fit given links e =
    let s1 = opened _ _ _ e in
    let s2 = opened _ _ _ s1.rest in
    let s3 = opened _ _ _ s2.rest in
    let parallel = between kind.Parallel 1 16 6 (given (codes "parallel")) s1.first (lit≤ tt) (lit≤ tt) s1.read in
    let retries = between kind.Retries 0 3 1 (given (codes "retries")) s2.first (lit≤ tt) (lit≤ tt) s2.read in
    carry IsFitLinks _ links _ refl s3.rest
    (record { some_link = parallel.at_least; most_links = parallel.at_most; retries = retries.at_most })

pub record IsFitCache (cache : Cache) : Type 0 where
  pub some_limit : 1 ≤ cache.limit
  pub most_limit : cache.limit ≤ 4294967296

pub cache_fit : (given : Texts) (cache : Cache) → cache_given given ≡ Ok cache → IsFitCache cache
unfolding cache_given
cache_fit given cache e =
    let s1 = opened _ _ _ e in
    let s2 = opened _ _ _ s1.rest in
    let s3 = opened _ _ _ s2.rest in
    let s4 = opened _ _ _ s3.rest in
    let s5 = opened _ _ _ s4.rest in
    let limit = between kind.Limit 1 4294967296 4294967296 (given (codes "limit")) s5.first (lit≤ tt) (lit≤ tt) s5.read in
    carry IsFitCache _ cache _ refl s5.rest (record { some_limit = limit.at_least; most_limit = limit.at_most })

-- the first of some named outputs, or one of the others
one_of : (P : Output → Type 0) (is : Bool) (first : Output) (others : Option Output) (output : Output) → P first
    → (others ≡ Some output → P output) → cond is (Some first) others ≡ Some output → P output
one_of P true first others output holds_here holds_else e = let same : first ≡ output = cc in subst P same holds_here
one_of P false first others output holds_here holds_else e = holds_else e

none_of : (P : Output → Type 0) (output : Output) → None ≡ Some output → P output
none_of P output e = let no : ⊥ = cc in absurd no

abbrev Prints : Command → Output → Type 0
Prints command output = prints command output ≡ true

named_output : (command : Command) (text : List ℕ) (output : Output) → output_in command text ≡ Some output
    → Prints command output
named_output Resolve text output e =
    one_of (Prints Resolve) (text_eq text (codes "plain")) Plain _ output refl
    (one_of (Prints Resolve) (text_eq text (codes "tree")) Tree _ output refl
    (one_of (Prints Resolve) (text_eq text (codes "json")) Json None output refl (none_of (Prints Resolve) output))) e
named_output Fetch text output e =
    one_of (Prints Fetch) (text_eq text (codes "plain")) Plain _ output refl
    (one_of (Prints Fetch) (text_eq text (codes "classpath")) Classpath _ output refl
    (one_of (Prints Fetch) (text_eq text (codes "json")) Json None output refl (none_of (Prints Fetch) output))) e
named_output Sample text output e = none_of (Prints Sample) output e

plain_output : (command : Command) → Prints command Plain
plain_output Resolve = refl
plain_output Fetch = refl
plain_output Sample = refl

output_fits : (command : Command) (text : Option (List ℕ)) (output : Output)
    → choice_given kind.Output Plain (output_in command) text ≡ Ok output → Prints command output
output_fits command None output e =
    let same : Plain ≡ output = cc in subst (Prints command) same (plain_output command)
output_fits command (Some text) output e = go (output_in command text) refl e
  where
    go : (read : Option Output) → output_in command text ≡ read → or_refused kind.Output read ≡ Ok output → Prints command output
    go None q s = let no : ⊥ = cc in absurd no
    go (Some o) q s = let same : o ≡ output = cc in subst (Prints command) same (named_output command text o q)

prefix_fits : (text prefix : List ℕ) → prefix_in text ≡ Ok prefix → list_all is_printable prefix ≡ true
prefix_fits text prefix e = go (list_all is_printable text) refl e
  where
    go : (b : Bool) → list_all is_printable text ≡ b → cond b (Ok text) (Err (BadWords kind.Prefix 0)) ≡ Ok prefix
        → list_all is_printable prefix ≡ true
    go true q s = let same : text ≡ prefix = cc in subst (λ t. list_all is_printable t ≡ true) same q
    go false q s = let no : ⊥ = cc in absurd no

pub record IsFitShows (command : Command) (shows : Shows) : Type 0 where
  pub output : prints command shows.output ≡ true
  pub prefix : list_all is_printable shows.prefix ≡ true

pub shows_fit : (command : Command) (given : Texts) (shows : Shows) → shows_given command given ≡ Ok shows
    → IsFitShows command shows
unfolding shows_given
shows_fit command given shows e =
    let s1 = opened _ _ _ e in
    let s2 = opened _ _ _ s1.rest in
    carry (IsFitShows command) _ shows _ refl s2.rest (record {
      output = output_fits command (given (codes "output")) s1.first s1.read;
      prefix = prefix_fits (unwrap_or (given (codes "prefix")) []) s2.first s2.read;
    })

-- a list of repositories has one
some_member : (text : List ℕ) (made : List (List ℕ)) → members_in kind.Repositories repository_in (members_of text) ≡ Ok made
    → 1 ≤ length made
some_member text made e =
    omega (arith, counted kind.Repositories repository_in (members_of text) [] made e, length-slice_split is_bar text)

pub record AreFitAddresses (made : List (List ℕ)) : Type 0 where
  pub some : 1 ≤ length made
  pub few : length made ≤ 16
  pub addresses : list_all is_address made ≡ true

addresses_fit : (text : Option (List ℕ)) (made : List (List ℕ)) → addresses_of text ≡ Ok made → AreFitAddresses made
addresses_fit None made e = let no : ⊥ = cc in absurd no
addresses_fit (Some text) made e =
    let all = are_repositories (members_of text) made e in
    record { some = some_member text made e; few = all.few; addresses = all.addresses }

pub record AreFitRoots (made : List Coord) : Type 0 where
  pub some : 1 ≤ length made
  pub roots : list_all (λ coord. is_constraint coord.version) made ≡ true

roots_fit : (texts : List (List ℕ)) (made : List Coord) → roots_given texts ≡ Ok made → AreFitRoots made
roots_fit [] made e = let no : ⊥ = cc in absurd no
roots_fit (text ∷ texts) made e = record {
  some = omega (arith, counted kind.Roots root_in (text ∷ texts) [] made e);
  roots = kept kind.Roots root_in AreRoots root_step (text ∷ texts) [] made refl e;
}

no_sample : (command : Command) → is_sample command ≡ false → IsFitSample command None
no_sample Resolve e = refl
no_sample Fetch e = refl
no_sample Sample e = let no : ⊥ = cc in no

-- what holds of the job of `resolve` or `fetch`
pub job_fits : (command : Command) (given : Texts) (texts : List (List ℕ)) (job : Job) → is_sample command ≡ false
    → job_given command given texts ≡ Ok job → IsFit job
unfolding job_given
job_fits command given texts job other e =
    let s1 = opened _ _ _ e in
    let s2 = opened _ _ _ s1.rest in
    let s3 = opened _ _ _ s2.rest in
    let s4 = opened _ _ _ s3.rest in
    let s5 = opened _ _ _ s4.rest in
    let s6 = opened _ _ _ s5.rest in
    let addresses = addresses_fit (given (codes "repositories")) s1.first s1.read in
    let rules = rules_fit given s2.first s2.read in
    let links = links_fit given s3.first s3.read in
    let cache = cache_fit given s4.first s4.read in
    let shows = shows_fit command given s5.first s5.read in
    let roots = roots_fit texts s6.first s6.read in
    carry IsFit _ job _ refl s6.rest (record {
      ask = record {
        some_root = roots.some;
        roots = roots.roots;
        forced = rules.forced;
        forced_apart = rules.forced_apart;
        some_round = rules.some_round;
        most_rounds = rules.most_rounds;
      };
      repos = refl;
      some_repo = addresses.some;
      most_repos = addresses.few;
      addresses = addresses.addresses;
      some_link = links.some_link;
      most_links = links.most_links;
      retries = links.retries;
      some_limit = cache.some_limit;
      most_limit = cache.most_limit;
      output = shows.output;
      prefix = shows.prefix;
      sample = no_sample command other;
    })

place_fits : (k : WordKind) (least most : ℕ) (text : Option (List ℕ)) (number : ℕ) → place_given k least most text ≡ Ok number
    → IsBetween least most number
place_fits k least most None number e = let no : ⊥ = cc in absurd no
place_fits k least most (Some text) number e = go (number_between least most text) refl e
  where
    go : (read : Option ℕ) → number_between least most text ≡ read → or_refused k read ≡ Ok number → IsBetween least most number
    go None q s = let no : ⊥ = cc in absurd no
    go (Some n) q s = let same : n ≡ number = cc in subst (IsBetween least most) same (number_fits least most text n q)

-- what holds of the job of `sample`
pub sample_fits : (seed count : Option (List ℕ)) (job : Job) → sample_given seed count ≡ Ok job → IsFit job
sample_fits seed count job e =
    let s1 = opened _ _ _ e in
    let s2 = opened _ _ _ s1.rest in
    let modules = place_fits kind.Count 1 10000 count s2.first s2.read in
    carry IsFit _ job _ refl s2.rest (record {
      ask = record {
        some_root = lit≤ tt;
        roots = refl;
        forced = refl;
        forced_apart = refl;
        some_round = lit≤ tt;
        most_rounds = lit≤ tt;
      };
      repos = refl;
      some_repo = lit≤ tt;
      most_repos = lit≤ tt;
      addresses = refl;
      some_link = lit≤ tt;
      most_links = lit≤ tt;
      retries = lit≤ tt;
      some_limit = lit≤ tt;
      most_limit = lit≤ tt;
      output = refl;
      prefix = refl;
      sample = (modules.at_least, modules.at_most);
    })
