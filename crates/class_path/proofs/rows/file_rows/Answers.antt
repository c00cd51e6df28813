use Rattle.std.proofs.Common.{◌≡◌, List, length, map, sym, ◌∙◌, ap, subst}
use Rattle.std.specs.List.{filter_map}
use Rattle.std.proofs.lemmas.Result.{IfOk-weaker}
use Rattle.artifact_files.specs.Files.{artifact_keys}
use Rattle.class_path.specs.Files.{AreFileRows, file_rows_of, row_for}
use Rattle.class_path.specs.declared.rows.FileRow.{FileRow}
use Rattle.class_path.proofs.Keys.{keys_within}
use Rattle.class_path.proofs.Whole.{all_fit, all_keys, known_fit}
use Rattle.res_base.specs.Known.{known_of}
use Rattle.class_path.proofs.rows.file_rows.Goals as goal

pub returns-clause-rows : goal.returns-clause-rows
returns-clause-rows c =
    IfOk-weaker c.all_rows.result (λ (rows : List FileRow). rows ≡ filter_map (row_for (known_of c.args.known.now.pairs) c.args.addresses.now) c.in_ok-keys.keys)
    (λ (rows : List FileRow). rows ≡ file_rows_of c.args.settled.now (known_of c.args.known.now.pairs) c.args.addresses.now)
    (λ rows is. is ∙ ap (filter_map (row_for (known_of c.args.known.now.pairs) c.args.addresses.now)) c.in_ok-keys.ensures) c.all_rows.ensures

pub returns-clause-keys : goal.returns-clause-keys
returns-clause-keys c =
    IfOk-weaker c.all_rows.result (λ (rows : List FileRow). rows ≡ filter_map (row_for (known_of c.args.known.now.pairs) c.args.addresses.now) c.in_ok-keys.keys)
    (λ (rows : List FileRow). map (λ (row : FileRow). row.key) rows ≡ artifact_keys c.args.settled.now)
    (λ rows is.
    ap (map (λ (row : FileRow). row.key)) (is ∙ ap (filter_map (row_for (known_of c.args.known.now.pairs) c.args.addresses.now)) c.in_ok-keys.ensures)
    ∙ all_keys (known_of c.args.known.now.pairs) c.args.addresses.now (artifact_keys c.args.settled.now) (keys_within (length c.args.addresses.now) c.args.settled.now c.requires.repositories) c.requires.known)
    c.all_rows.ensures

pub returns-clause-fit : goal.returns-clause-fit
returns-clause-fit c =
    IfOk-weaker c.all_rows.result (λ (rows : List FileRow). rows ≡ filter_map (row_for (known_of c.args.known.now.pairs) c.args.addresses.now) c.in_ok-keys.keys)
    (λ (rows : List FileRow). AreFileRows (length c.args.addresses.now) rows)
    (λ rows is.
    subst (AreFileRows (length c.args.addresses.now)) (sym (is ∙ ap (filter_map (row_for (known_of c.args.known.now.pairs) c.args.addresses.now)) c.in_ok-keys.ensures))
    (all_fit (known_of c.args.known.now.pairs) c.args.addresses.now
    (known_fit c.args.known.now.pairs c.args.known.now.repos c.len-known.ensures.fit (c.known_pairs.ensures.among c.args.known.now.pairs))
    (artifact_keys c.args.settled.now) (keys_within (length c.args.addresses.now) c.args.settled.now c.requires.repositories) c.requires.known))
    c.all_rows.ensures
