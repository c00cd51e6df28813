-- What reading answers, where the disk tells its names.
use Rattle.std.specs.Prelude.{ℕ, ◌≡◌, Bool, List, Option, is_some, option_and_then}
use Rattle.std.specs.Option.{ForSome}
use Rattle.cache_layout.specs.Readings.{gone_in, record_in}
use Rattle.cache_layout.specs.declared.record.Found.{Found}
use Rattle.cache_layout.specs.declared.record.Measured.{Measured}
use Rattle.cache_layout.specs.declared.record.Record.{Record}
use Rattle.disk_base.specs.Names.{Names, read_name}
use Rattle.cache_reads.specs.Finds.{absence_found, data_found, found_of, measured_by}
use Rattle.cache_reads.specs.Pieces.{bytes_or_none}
use Rattle.cache_reads.specs.Upgrades.{upgraded}
use Rattle.cache_reads.specs.declared.planning.Upgraded.{Upgraded}

module _ {D : Type 0} (told : D → Option Names) (disk : D) (name : List ℕ) where
  -- whether the name is bound
  abbrev pub AnswersThere : Bool → Type 0
  AnswersThere there = ForSome (told disk) (λ s. there ≡ is_some (read_name s name))

  abbrev pub AnswersFile : List ℕ → Type 0
  AnswersFile bytes = ForSome (told disk) (λ s. bytes ≡ bytes_or_none (read_name s name))

  abbrev pub AnswersMeasure : Bool → Measured → Type 0
  AnswersMeasure second measure = ForSome (told disk) (λ s. measure ≡ measured_by second (bytes_or_none (read_name s name)))

  abbrev pub AnswersEntry : Option Record → Type 0
  AnswersEntry entry = ForSome (told disk) (λ s. entry ≡ option_and_then record_in (read_name s name))

  abbrev pub AnswersAbsence : Found → Type 0
  AnswersAbsence found = ForSome (told disk) (λ s. found ≡ absence_found (option_and_then gone_in (read_name s name)))

  -- what is found of the data beside this record, or beside none
  abbrev pub AnswersBeside : Option Record → Found → Type 0
  AnswersBeside entry found = ForSome (told disk) (λ s. found ≡ data_found entry (bytes_or_none (read_name s name)))

  abbrev pub AnswersData : List ℕ → Found → Type 0
  AnswersData entry_name found = ForSome (told disk)
      (λ s. found ≡ data_found (option_and_then record_in (read_name s entry_name)) (bytes_or_none (read_name s name)))

  abbrev pub AnswersFound : List ℕ → List ℕ → Found → Type 0
  AnswersFound entry_name gone found = ForSome (told disk)
      (λ s. found ≡ found_of (read_name s name) (read_name s entry_name) (read_name s gone))

  -- what an upgrade of the data's record comes to
  abbrev pub AnswersPlan : List ℕ → Upgraded → Type 0
  AnswersPlan entry_name up = ForSome (told disk)
      (λ s. up ≡ upgraded (data_found (option_and_then record_in (read_name s entry_name)) (bytes_or_none (read_name s name)))
      (bytes_or_none (read_name s name)))

  -- likewise where there may be no data; the absence record, which is not read then, may be any
  abbrev pub AnswersUpgraded : List ℕ → Upgraded → Type 0
  AnswersUpgraded entry_name up = ForSome (told disk) (λ s. (absent : Option (List ℕ))
      → up ≡ upgraded (found_of (read_name s name) (read_name s entry_name) absent) (bytes_or_none (read_name s name)))
