-- What a store has after each call.
use Rattle.std.proofs.Common.{ℕ, ◌≡◌, ◌<◌, ◌≤◌, Bool, false, List, [], ◌∷◌, Option, Some, None, length, set, refl, sym, ap, ◌∙◌, subst, arith, length-set}
use Rattle.std.specs.Prelude.{Vec}
use Rattle.std.specs.declared.alloc.Global.{Global}
use Rattle.digest_check.specs.Fed.{IsFed}
use Rattle.digest_check.specs.declared.sums.Sums.{Sums}
use Rattle.disk_base.specs.Names.{Names, run}
use Rattle.disk_base.specs.Runs.{Done}
use Rattle.disk_base.specs.declared.steps.DiskStep.{DiskStep}
use Rattle.disk_base.specs.declared.steps.DiskStep.TheVariants.{Append, Remove, Start}
use Rattle.cache_images.proofs.Sealing.{absent_now}
use Rattle.cache_images.specs.Leaves.{IsAbsent}
use Rattle.cache_images.specs.Places.{IsDataName, gone_name, part_name}
use Rattle.cache_images.specs.Sequences.{clear_steps, gone_steps, publish_steps, seal_steps, upgrade_steps}
use Rattle.cache_images.specs.Sound.{RecordFits}
use Rattle.cache_store.proofs.Slots.{apart_cleared, apart_set, apart_unsealed, within}
use Rattle.cache_store.proofs.Stood.{Longer, Spares, all_holds, append_spares, appended_holds, clear_settles, cleared_holds, fresh, gone_settles, gone_spares, held, part_misses, publish_settles, publish_spares, remove_spares, seal_settles, seal_spares, sealed_holds, set_holds, settled_kept, start_spares, started_holds, take_spares, unsealed_holds, upgrade_settles, upgrade_spares}
use Rattle.cache_store.specs.Clears.{IsUnboundIn}
use Rattle.cache_store.specs.Parts.{AreApart, AreUnsealed, HasBytes, Parts, part_at, sealed_as}
use Rattle.cache_store.specs.Stands.{FilesSettled, HoldsParts, Stands}
use Rattle.cache_store.specs.declared.part.Part.{Part}
use Rattle.cache_store.specs.declared.store.Store.{Store}

module _ {D : Type 0} (told : D → Option Names) where
  -- what is so of a store, over its disk and its parts
  pub record StandsOn (disk : D) (parts : Parts) : Type 0 where
    pub holds : (s : Names) → told disk ≡ Some s → HoldsParts s parts
    pub settled : (s : Names) → told disk ≡ Some s → FilesSettled s
    pub apart : AreApart parts
    pub few : length parts ≤ 4096

  pub on_parts : (store : Store D) → Stands told store → StandsOn store.disk store.parts.items
  on_parts store st = record { holds = st.holds; settled = st.settled; apart = st.apart; few = st.few }

  pub with_parts : (disk : D) (parts : Vec (Option Part) Global) (items : Parts) (live : Bool) → parts.items ≡ items
      → StandsOn disk items → Stands told (record { disk = disk; parts = parts; live = live })
  with_parts disk parts items live e st =
      let moved = subst (λ (ps : Parts). StandsOn disk ps) (sym e) st in
      record { holds = moved.holds; settled = moved.settled; apart = moved.apart; few = moved.few }

  -- places that have the same parts
  pub same_parts : (disk : D) (old new : Parts) → StandsOn disk old → length new ≤ 4096
      → ((j : ℕ) → part_at new j ≡ part_at old j) → StandsOn disk new
  same_parts disk old new st few same = record {
    holds = λ s e j q at. st.holds s e j q (sym (same j) ∙ at);
    settled = st.settled;
    apart = λ i j p q name hi hj. st.apart i j p q name (sym (same i) ∙ hi) (sym (same j) ∙ hj);
    few = few;
  }

  few_set : (parts : Parts) (k : ℕ) (o : Option Part) → length parts ≤ 4096 → length (set parts k o) ≤ 4096
  few_set parts k o few = omega (arith, length-set parts k o)

  below : (parts : Parts) (j : ℕ) (q : Part) → length parts ≤ 4096 → part_at parts j ≡ Some q → j < 4096
  below parts j q few at = let here = within parts j q at in omega arith

  -- no part is sealed for a name any more
  pub unsealed_on : (disk : D) (name : List ℕ) (old new : Parts) → AreUnsealed name old new
      → length new ≡ length old → StandsOn disk old → StandsOn disk new
  unsealed_on disk name old new are same st = record {
    holds = λ s e. unsealed_holds s name old new are (st.holds s e);
    settled = st.settled;
    apart = apart_unsealed name old new are st.apart;
    few = omega (arith, st.few);
  }

  pub began_on : (old new : D) (parts : Parts) (k : ℕ) (sums : Sums) → StandsOn old parts → k < length parts
      → IsFed sums [] → Done told (Start (part_name k) ∷ []) old new → StandsOn new (set parts k (Some (fresh sums)))
  began_on old new parts k sums st le fed done =
      let x = fresh sums in
      let steps = Start (part_name k) ∷ [] in
      record {
        holds = held told steps old new (λ s. HoldsParts s (set parts k (Some x))) done
            (λ s f. set_holds steps s parts k x le (st.holds s f) (started_holds s k sums fed)
            (λ j q other at. start_spares j k q (below parts j q st.few at) (omega (arith, le, st.few)) other));
        settled = held told steps old new FilesSettled done
            (λ s f. settled_kept steps s (λ n named. let m = part_misses k n named in ((m.0, tt), (m.1, tt))) (st.settled s f));
        apart = apart_set parts k x le st.apart (λ name e. absurd (never_sealed name e));
        few = few_set parts k (Some x) st.few;
      }
    where
      never_sealed : (name : List ℕ) → None ≡ Some name → ⊥
      never_sealed name e = (cc)

  pub appended_on : (old new : D) (parts : Parts) (k : ℕ) (piece : List ℕ) (p q : Part) → StandsOn old parts
      → part_at parts k ≡ Some p → Longer p q piece → Done told (Append (part_name k) piece ∷ []) old new
      → StandsOn new (set parts k (Some q))
  appended_on old new parts k piece p q st at is done =
      let le = within parts k p at in
      let steps = Append (part_name k) piece ∷ [] in
      record {
        holds = held told steps old new (λ s. HoldsParts s (set parts k (Some q))) done
            (λ s f. set_holds steps s parts k q le (st.holds s f)
            (appended_holds s k piece p q is (st.holds s f k p at))
            (λ j r other here. append_spares j k r piece (below parts j r st.few here) (omega (arith, le, st.few)) other));
        settled = held told steps old new FilesSettled done
            (λ s f. settled_kept steps s (λ n named. let m = part_misses k n named in ((m.0, tt), (m.1, tt))) (st.settled s f));
        apart = apart_set parts k q le st.apart (λ name e. absurd (no_name name (sym is.open_now ∙ e)));
        few = few_set parts k (Some q) st.few;
      }
    where
      no_name : (name : List ℕ) → None ≡ Some name → ⊥
      no_name name e = (cc)

  -- where no earlier file can come back, a name that is unbound is so for good
  pub unbound_for_good : (disk : D) (parts : Parts) (name : List ℕ) → IsDataName name → StandsOn disk parts
      → IsUnboundIn (told disk) name → (s : Names) → told disk ≡ Some s → IsAbsent (s name)
  unbound_for_good disk parts name named st unbound s f =
      absent_now (s name) (st.settled s f name named).0 (unbound s f)

  pub clears_good : (disk : D) (parts : Parts) (name gone : List ℕ) → IsDataName name → gone ≡ gone_name name
      → StandsOn disk parts → (there : Bool)
      → (there ≡ false → IsUnboundIn (told disk) name × IsUnboundIn (told disk) gone)
      → there ≡ false → (s : Names) → told disk ≡ Some s → IsAbsent (s name) × IsAbsent (s (gone_name name))
  clears_good disk parts name gone named is st there neither e s f =
      let both = neither e in
      let settled = st.settled s f name named in
      let none : (s (gone_name name)).present ≡ None =
      subst (λ (u : List ℕ). (s u).present ≡ None) is (both.1 s f) in
      (absent_now (s name) settled.0 (both.0 s f), absent_now (s (gone_name name)) settled.1 none)

  pub sealed_on : (there : Bool) (old new : D) (parts : Parts) (k : ℕ) (name line : List ℕ) (p : Part)
      → IsDataName name → StandsOn old parts → part_at parts k ≡ Some p
      → ((j : ℕ) (q : Part) → part_at parts j ≡ Some q → q.sealed ≡ Some name → ⊥)
      → ((bytes : List ℕ) → HasBytes p bytes → RecordFits line bytes)
      → (there ≡ false → IsUnboundIn (told old) name)
      → Done told (seal_steps there k name line) old new → StandsOn new (set parts k (Some (sealed_as name p)))
  sealed_on there old new parts k name line p named st at none fits unbound done =
      let le = within parts k p at in
      let x = sealed_as name p in
      let steps = seal_steps there k name line in
      record {
        holds = held told steps old new (λ s. HoldsParts s (set parts k (Some x))) done
            (λ s f. set_holds steps s parts k x le (st.holds s f)
            (sealed_holds there s k name line p named (λ e. unbound_for_good old parts name named st (unbound e) s f) fits
            (st.holds s f k p at))
            (λ j q other here. seal_spares name named there j k q line (below parts j q st.few here) (omega (arith, le, st.few))
            other (λ m e g. none j q here (e ∙ ap Some (sym g)))));
        settled = held told steps old new FilesSettled done (λ s f. seal_settles there k name line s);
        apart = apart_set parts k x le st.apart
            (λ m e j q here g. absurd (none j q here (g ∙ sym e)));
        few = few_set parts k (Some x) st.few;
      }

  pub published_on : (old new : D) (parts : Parts) (k : ℕ) (name : List ℕ) (p : Part) → StandsOn old parts
      → part_at parts k ≡ Some p → p.sealed ≡ Some name → Done told (publish_steps (part_name k) name) old new
      → StandsOn new (set parts k None)
  published_on old new parts k name p st at sealed done =
      let le = within parts k p at in
      let steps = publish_steps (part_name k) name in
      record {
        holds = held told steps old new (λ s. HoldsParts s (set parts k None)) done
            (λ s f. cleared_holds steps s parts k le (st.holds s f)
            (λ j q other here. publish_spares j k q name ((st.holds s f k p at).sealed name sealed).named
            (below parts j q st.few here) (omega (arith, le, st.few)) other
            (λ m e g. other (st.apart j k q p name here at (e ∙ ap Some (sym g)) sealed))));
        settled = held told steps old new FilesSettled done (λ s f. publish_settles (part_name k) name s);
        apart = apart_cleared parts k le st.apart;
        few = few_set parts k None st.few;
      }

  pub dropped_on : (old new : D) (parts : Parts) (k : ℕ) (p : Part) → StandsOn old parts → part_at parts k ≡ Some p
      → Done told (Remove (part_name k) ∷ []) old new → StandsOn new (set parts k None)
  dropped_on old new parts k p st at done =
      let le = within parts k p at in
      let steps = Remove (part_name k) ∷ [] in
      record {
        holds = held told steps old new (λ s. HoldsParts s (set parts k None)) done
            (λ s f. cleared_holds steps s parts k le (st.holds s f)
            (λ j q other here. remove_spares j k q (below parts j q st.few here) (omega (arith, le, st.few)) other));
        settled = held told steps old new FilesSettled done
            (λ s f. settled_kept steps s (λ n named. let m = part_misses k n named in ((m.0, tt), (m.1, tt))) (st.settled s f));
        apart = apart_cleared parts k le st.apart;
        few = few_set parts k None st.few;
      }

  -- calls on a file for which no part is sealed
  run_on : (xs : List DiskStep) (old new : D) (parts : Parts) → StandsOn old parts
      → ((s : Names) → told old ≡ Some s → (j : ℕ) (q : Part) → part_at parts j ≡ Some q → Spares xs j q)
      → ((s : Names) → FilesSettled s → FilesSettled (run xs s)) → Done told xs old new → StandsOn new parts
  run_on xs old new parts st spares settles done = record {
    holds = held told xs old new (λ s. HoldsParts s parts) done (λ s f. all_holds xs s parts (st.holds s f) (spares s f));
    settled = held told xs old new FilesSettled done (λ s f. settles s (st.settled s f));
    apart = st.apart;
    few = st.few;
  }

  pub taken_on : (there : Bool) (old new : D) (parts : Parts) (name : List ℕ) → IsDataName name → StandsOn old parts
      → ((j : ℕ) (q : Part) → part_at parts j ≡ Some q → q.sealed ≡ Some name → ⊥)
      → Done told (clear_steps there name (gone_name name)) old new → StandsOn new parts
  taken_on there old new parts name named st none done =
      run_on (clear_steps there name (gone_name name)) old new parts st
      (λ s f j q here. take_spares name named there j q (λ m e g. none j q here (e ∙ ap Some (sym g))))
      (λ s settled. clear_settles there name (gone_name name) s settled) done

  pub gone_on : (there : Bool) (old new : D) (parts : Parts) (k : ℕ) (name line : List ℕ) → IsDataName name
      → StandsOn old parts → ((j : ℕ) (q : Part) → part_at parts j ≡ Some q → q.sealed ≡ Some name → ⊥)
      → Done told (gone_steps there k name line) old new → StandsOn new parts
  gone_on there old new parts k name line named st none done =
      run_on (gone_steps there k name line) old new parts st
      (λ s f j q here. gone_spares name named there j k q line (λ m e g. none j q here (e ∙ ap Some (sym g))))
      (λ s settled. gone_settles there k name line s) done

  pub upgraded_on : (old new : D) (parts : Parts) (k : ℕ) (name line : List ℕ) → IsDataName name
      → StandsOn old parts
      → ((s : Names) → told old ≡ Some s → (j : ℕ) (q : Part) → part_at parts j ≡ Some q → q.sealed ≡ Some name → ⊥)
      → Done told (upgrade_steps k name line) old new → StandsOn new parts
  upgraded_on old new parts k name line named st none done =
      run_on (upgrade_steps k name line) old new parts st
      (λ s f j q here. upgrade_spares name named j k q line (λ m e g. none s f j q here (e ∙ ap Some (sym g))))
      (λ s settled. upgrade_settles k name line s) done

  -- a disk that was read
  pub read_on : (old new : D) (parts : Parts) → told new ≡ told old → StandsOn old parts → StandsOn new parts
  read_on old new parts same st = record {
    holds = λ s f. st.holds s (sym same ∙ f);
    settled = λ s f. st.settled s (sym same ∙ f);
    apart = st.apart;
    few = st.few;
  }

  pub read_stands : (old : Store D) (disk : D) (live : Bool) → told disk ≡ told old.disk → Stands told old
      → Stands told (record { disk = disk; parts = old.parts; live = live })
  read_stands old disk live same st =
      with_parts disk old.parts old.parts.items live refl (read_on old.disk disk old.parts.items same (on_parts old st))

  -- a disk without open parts
  pub opened_on : (disk : D) → ((s : Names) → told disk ≡ Some s → FilesSettled s) → StandsOn disk []
  opened_on disk settled = record {
    holds = λ s f j q e. absurd (never j q e);
    settled = settled;
    apart = λ i j p q name e f. absurd (never i p e);
    few = omega arith;
  }
    where
      never : (j : ℕ) (q : Part) → part_at [] j ≡ Some q → ⊥
      never j q e = (cc)
