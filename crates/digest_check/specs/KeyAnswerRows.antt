-- Answers over small worlds, row by row.
use Rattle.std.specs.Prelude.{◌≡◌, ℕ, Some, None, List, [], ◌∷◌, codes, refl}
use Rattle.sha1.specs.Sha1 as of_sha1
use Rattle.res_base.specs.Builders.{key_of, row_of}
use Rattle.res_base.specs.declared.key.FileKey.{FileKey}
use Rattle.res_base.specs.declared.key.Role.TheVariants.{Artifact}
use Rattle.res_base.specs.declared.reading.Answer.{Answer}
use Rattle.res_base.specs.declared.reading.Answer.TheVariants as answers
use Rattle.res_base.specs.declared.reading.Check.{Check}
use Rattle.res_base.specs.declared.reading.Check.TheVariants.{Sha1, Md5, NoCheck}
use Rattle.res_base.specs.declared.reading.Digest.TheVariants as kinds
use Rattle.res_base.specs.declared.world.WorldRow.{WorldRow}
use Rattle.digest_check.specs.KeyAnswers.{answer}
use Rattle.digest_check.specs.ChecksumRows.{sha1_of_abc}

abbrev jar : FileKey
jar = key_of 1 Artifact (codes "x/a/1/a-1.jar")

abbrev jar_row : WorldRow
jar_row = row_of (codes "http://r2/x/a/1/a-1.jar") (codes "abc")

abbrev sha1_row : List ℕ → WorldRow
sha1_row text = row_of (codes "http://r2/x/a/1/a-1.jar.sha1") text

-- the answer of the second of two repositories, with a limit of 3 bytes
abbrev asked : List Check → List WorldRow → Answer
asked list rows = answer rows (codes "http://r1" ∷ codes "http://r2" ∷ []) list 3 jar

absent_row : asked (NoCheck ∷ []) (row_of (codes "http://r1/x/a/1/a-1.jar") (codes "abc") ∷ []) ≡ answers.Absent
absent_row = refl

too_large_row : asked (NoCheck ∷ []) (row_of (codes "http://r2/x/a/1/a-1.jar") (codes "abcd") ∷ []) ≡ answers.TooLarge
too_large_row = refl

unchecked_row : asked (NoCheck ∷ Sha1 ∷ []) (jar_row ∷ []) ≡ answers.Bytes (codes "abc")
unchecked_row = refl

undecided_row : asked [] (jar_row ∷ []) ≡ answers.Damaged (record { check = NoCheck; wanted = None; got = None })
undecided_row = refl

right_row : asked (Sha1 ∷ []) (jar_row ∷ sha1_row (codes "a9993e364706816aba3e25717850c26c9cd0d89d  a-1.jar\n") ∷ [])
    ≡ answers.Bytes (codes "abc")
unfolding of_sha1.sha1 of_sha1.first_words of_sha1.schedule of_sha1.rounds of_sha1.compress of_sha1.hash_after of_sha1.digest_bytes
right_row = refl

-- another digest is wanted, and the check `none` behind it is not tried
wrong_row : asked (Sha1 ∷ NoCheck ∷ []) (jar_row ∷ sha1_row (codes "00000000000000000000000000000000000000ff") ∷ [])
    ≡ answers.Damaged (record {
      check = Sha1;
      wanted =
          Some (kinds.Sha1 (0 ∷ 0 ∷ 0 ∷ 0 ∷ 0 ∷ 0 ∷ 0 ∷ 0 ∷ 0 ∷ 0 ∷ 0 ∷ 0 ∷ 0 ∷ 0 ∷ 0 ∷ 0 ∷ 0 ∷ 0 ∷ 0 ∷ 255 ∷ []));
      got = Some (kinds.Sha1 sha1_of_abc);
    })
unfolding of_sha1.sha1 of_sha1.first_words of_sha1.schedule of_sha1.rounds of_sha1.compress of_sha1.hash_after of_sha1.digest_bytes
wrong_row = refl

-- a checksum file without a digest decides nothing
next_check_row : asked (Sha1 ∷ NoCheck ∷ []) (jar_row ∷ sha1_row (codes "<html></html>") ∷ [])
    ≡ answers.Bytes (codes "abc")
next_check_row = refl

none_decides_row : asked (Sha1 ∷ Md5 ∷ []) (jar_row ∷ sha1_row [] ∷ [])
    ≡ answers.Damaged (record { check = NoCheck; wanted = None; got = None })
none_decides_row = refl
