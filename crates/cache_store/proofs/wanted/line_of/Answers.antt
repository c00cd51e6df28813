use Rattle.std.proofs.Common.{ℕ, ◌≡◌, Bool, true, List, Option, Some, None, length, refl, ap, ◌∙◌}
use Rattle.std.specs.Prelude.{IfSome, is_some}
use Rattle.std.proofs.lemmas.Result.{IfOk-weaker}
use Rattle.sha2.specs.Sha256.{sha256}
use Rattle.cache_images.specs.Sound.{RecordFits}
use Rattle.cache_layout.specs.Readings.{record_in}
use Rattle.cache_layout.specs.declared.record.Record.{Record}
use Rattle.digest_check.specs.Digests.{digests_of}
use Rattle.digest_check.specs.declared.sums.Digests.{Digests}
use Rattle.res_base.specs.declared.reading.Check.{Check}
use Rattle.cache_store.specs.Contents.{TellsRecord}
use Rattle.cache_store.proofs.wanted.line_of.Goals as goal

fits_of : (line bytes : List ℕ) (entry : Record) (digests : Digests) → record_in line ≡ Some entry
    → entry.length ≡ length bytes → entry.sha1 ≡ digests.sha1 → entry.sha256 ≡ Some digests.sha256
    → digests ≡ digests_of bytes → RecordFits line bytes
fits_of line bytes entry digests reads size first second is =
    let made : entry.sha256 ≡ Some (sha256 bytes) = second ∙ ap (λ (d : Digests). Some d.sha256) is in
    record {
      entry = entry;
      reads = reads;
      measures = record {
        size = size;
        first = first ∙ ap (λ (d : Digests). d.sha1) is;
        second = same_second entry.sha256 (sha256 bytes) made;
      };
    }
  where
    one_text : (a b : List ℕ) → Some a ≡ Some b → a ≡ b
    one_text a b e = cc

    same_second : (o : Option (List ℕ)) (d : List ℕ) → o ≡ Some d → IfSome o (λ digest. digest ≡ d)
    same_second None d e = tt
    same_second (Some a) d e = one_text a d e

tells_of : (line : List ℕ) (entry : Record) (checks : List Check) (moment : ℕ) → record_in line ≡ Some entry
    → entry.checks ≡ checks → entry.moment ≡ moment → is_some entry.sha256 ≡ true → TellsRecord line checks moment
tells_of line entry checks moment reads listed at_moment newer = record {
  entry = entry;
  reads = reads;
  listed = listed;
  at_moment = at_moment;
  newer = newer;
}

pub returns-clause-fits : goal.returns-clause-fits
returns-clause-fits c =
    IfOk-weaker c.record_line.result _ _
    (λ line is bytes size same. fits_of line bytes _ c.args.digests.now ((c.record_lines_read.ensures line _).1 is) size
    refl refl same) c.record_line.ensures

pub returns-clause-tells : goal.returns-clause-tells
returns-clause-tells c =
    IfOk-weaker c.record_line.result _ _
    (λ line is. tells_of line _ c.args.checks.now c.args.moment ((c.record_lines_read.ensures line _).1 is)
    c.in_ok-checks.ensures refl refl) c.record_line.ensures
