-- Calls on a disk that was read before.
use Rattle.std.proofs.Common.{ℕ, ◌≡◌, Bool, false, List, [], Option, Some, None, refl, sym, ◌∙◌, subst, true≢false}
use Rattle.std.specs.Prelude.{is_some}
use Rattle.std.specs.Option.{option_map}
use Rattle.disk_base.proofs.Composed.{done_then, ran_then, told_read}
use Rattle.disk_base.specs.Images.{Image}
use Rattle.disk_base.specs.Names.{IsBoundIn, Names, bytes_of, read_name, told_after}
use Rattle.disk_base.specs.Runs.{Done, Ran}
use Rattle.disk_base.specs.declared.contents.Content.{Content}
use Rattle.disk_base.specs.declared.steps.DiskStep.{DiskStep}
use Rattle.cache_reads.specs.Reads.{AnswersThere}
use Rattle.cache_store.specs.Clears.{IsUnboundIn}

none_after : (o : Option Names) → o ≡ told_after [] o
none_after None = refl
none_after (Some s) = refl

unread : (o : Option Content) → is_some (option_map bytes_of o) ≡ false → o ≡ None
unread None e = refl
unread (Some c) e = absurd (true≢false e)

-- a name that reads as absent is unbound
pub unbound_read : (s : Names) (name : List ℕ) → is_some (read_name s name) ≡ false → (s name).present ≡ None
unbound_read s name e = unread (s name).present e

module _ {D : Type 0} (told : D → Option Names) (moment : D → ℕ) (since : D → ℕ → Image → Type 0) where
  pub done_read : (old new : D) → Ran told moment since [] old new → Done told [] old new
  done_read old new a = record { names = told_read told moment since old new a ∙ none_after (told old) }

  -- calls after a read
  pub ran_after : (xs : List DiskStep) (old mid new : D) → Ran told moment since [] old mid
      → Ran told moment since xs mid new → Ran told moment since xs old new
  ran_after xs old mid new a b = ran_then told moment since [] xs old mid new a (done_read old mid a) b

  pub done_after : (xs : List DiskStep) (old mid new : D) → Ran told moment since [] old mid → Done told xs mid new
      → Done told xs old new
  done_after xs old mid new a b = done_then told [] xs old mid new (done_read old mid a) b

  pub bound_after : (name : List ℕ) (old mid : D) → Ran told moment since [] old mid → IsBoundIn (told old) name
      → IsBoundIn (told mid) name
  bound_after name old mid a b =
      subst (λ (o : Option Names). IsBoundIn o name) (sym (told_read told moment since old mid a)) b

  -- two names that read as absent
  pub neither_of : (old mid : D) (name gone : List ℕ) (first second : Bool) → Ran told moment since [] old mid
      → AnswersThere told old name first → first ≡ false → AnswersThere told mid gone second → second ≡ false
      → IsUnboundIn (told old) name × IsUnboundIn (told old) gone
  neither_of old mid name gone first second a one e two f = (
    λ s is. unbound_read s name (sym (one s is) ∙ e),
    λ s is. unbound_read s gone (sym (two s (told_read told moment since old mid a ∙ is)) ∙ f),
  )
