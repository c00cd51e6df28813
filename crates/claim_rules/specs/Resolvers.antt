-- What rounds give over what is known, for one ask, and the laws that they keep.
use Rattle.std.specs.Prelude.{◌≡◌, List, [], None}
use Rattle.res_base.specs.Known.{Known, Grows}
use Rattle.res_base.specs.Members.{Among}
use Rattle.res_base.specs.declared.key.FileKey.{FileKey}

-- how far rounds come: they wait for keys, or give a verdict
pub data Standing (V : Type 0) : Type 0 where
  waiting : List FileKey → Standing V
  given : V → Standing V

pub record Resolver (V : Type 0) : Type 0 where
  -- how far the rounds come
  pub rounds : Known → Standing V
  -- the keys at which they look, known or not
  pub reads : Known → List FileKey
  -- the artifacts that a verdict wants
  pub files : V → List FileKey

abbrev pub awaited : {V : Type 0} → Standing V → List FileKey
awaited (waiting keys) = keys
awaited (given verdict) = []

-- both say the same of each of these keys
abbrev pub SameAt : Known → Known → List FileKey → Type 0
SameAt one other keys = (key : FileKey) → Among key keys → other key ≡ one key

pub record IsLawful {V : Type 0} (r : Resolver V) : Type 0 where
  -- rounds depend on the keys at which they look, and so do these keys
  pub fixed : (one other : Known) → SameAt one other (r.reads one) → r.rounds other ≡ r.rounds one
  pub fixed_reads : (one other : Known) → SameAt one other (r.reads one) → r.reads other ≡ r.reads one
  -- they wait for the unknown ones among them, and for no others
  pub opens : (known : Known) (key : FileKey) → Among key (r.reads known) → known key ≡ None
      → Among key (awaited (r.rounds known))
  pub unknown : (known : Known) (key : FileKey) → Among key (awaited (r.rounds known)) → known key ≡ None
  pub read : (known : Known) (key : FileKey) → Among key (awaited (r.rounds known)) → Among key (r.reads known)
  -- they look at all the more keys where more is known
  pub grows : (before after : Known) → Grows before after → (key : FileKey) → Among key (r.reads before)
      → Among key (r.reads after)
  -- who waits, waits for some key
  pub some : (known : Known) → r.rounds known ≡ waiting [] → ⊥
