-- What the names of a disk are bound to, and what each call makes of it.
use Rattle.std.specs.Prelude.{ℕ, List, [], ◌∷◌, ◌++◌, Option, Some, None, if◌then◌else◌, IsSome, length}
use Rattle.std.specs.Option.{option_map, ForSome}
use Rattle.res_base.specs.Names.{text_eq}
use Rattle.disk_base.specs.declared.contents.Content.{Content}
use Rattle.disk_base.specs.declared.contents.Bindings.{Bindings}
use Rattle.disk_base.specs.declared.steps.DiskStep.{DiskStep}
use Rattle.disk_base.specs.declared.steps.DiskStep.TheVariants.{Start, Append, Sync, Rename, Remove, SyncNames}

-- what each name is bound to, and was since the names were synced last
abbrev pub Names : Type 0
Names = List ℕ → Bindings

abbrev pub unbound : Bindings
unbound = record { before = []; present = None }

abbrev pub no_names : Names
no_names name = unbound

-- a content as it reads
abbrev pub bytes_of : Content → List ℕ
bytes_of c = c.bytes

-- as a name reads
abbrev pub read_name : Names → List ℕ → Option (List ℕ)
read_name s name = option_map bytes_of (s name).present

abbrev pub empty : Content
empty = record { bytes = []; firm = 0 }

-- a content that is firm as a whole
abbrev pub whole : List ℕ → Content
whole bytes = record { bytes = bytes; firm = length bytes }

-- bytes were put at its end
abbrev pub longer : List ℕ → Content → Content
longer more c = record { bytes = c.bytes ++ more; firm = c.firm }

-- it was synced
abbrev pub made_firm : Content → Content
made_firm c = whole (bytes_of c)

-- a name that gets a new binding
abbrev pub bound_anew : Option Content → Bindings → Bindings
bound_anew o b = record { before = b.before ++ b.present ∷ []; present = o }

-- a name whose present content changes
abbrev pub with_now : (Content → Content) → Bindings → Bindings
with_now f b = record { before = b.before; present = option_map f b.present }

-- a name whose earlier bindings can't come back
abbrev pub settled : Bindings → Bindings
settled b = record { before = []; present = b.present }

-- one name gets these bindings
abbrev pub put_at : List ℕ → Bindings → Names → Names
put_at name b s m = if text_eq name m then b else s m

-- the second name is bound to what the first one is, which becomes unbound
abbrev pub renamed : List ℕ → List ℕ → Names → Names
renamed a b s =
    if text_eq a b then s else put_at a (bound_anew None (s a)) (put_at b (bound_anew (s a).present (s b)) s)

-- after one call whose effect stands
abbrev pub after : DiskStep → Names → Names
after (Start n) s = put_at n (bound_anew (Some empty) (s n)) s
after (Append n bytes) s = put_at n (with_now (longer bytes) (s n)) s
after (Sync n) s = put_at n (with_now made_firm (s n)) s
after (Rename a b) s = renamed a b s
after (Remove n) s = put_at n (bound_anew None (s n)) s
after SyncNames s = λ m. settled (s m)

-- after all of these calls
abbrev pub run : List DiskStep → Names → Names
run [] s = s
run (step ∷ steps) s = run steps (after step s)

abbrev pub told_after : List DiskStep → Option Names → Option Names
told_after steps told = option_map (run steps) told

-- the name is bound, where the disk tells that
pub record IsBoundIn (told : Option Names) (name : List ℕ) : Type 0 where
  pub bound : ForSome told (λ s. IsSome (s name).present)
