use Rattle.serde_json.specs.View.{view}
use Rattle.ra_patch.specs.Answers.{IsDocument}
use Rattle.ra_patch.proofs.AnswerLemmas.{imported-read, refused-read, answer-imported, answer-refused}
use Rattle.ra_patch.proofs.document.import.Goals as goal

pub returns-clause-imported : goal.returns-clause-imported
returns-clause-imported c =
    let bytes = c.args.bytes.now in
    let d = view c.in_ok-document.document in
    let document : IsDocument bytes d = record
    { few = c.if-bytes-gt-MOST_BYTES.false; reads = c.in_ok-document.ensures.ok } in
    answer-imported (λ v. v.text.items) bytes c.import_value.result
    (imported-read (λ v. v.text.items) bytes d c.import_value.result document c.import_value.ensures.ok)
    (refused-read (λ v. v.text.items) bytes d c.import_value.result document c.import_value.ensures.err)

pub returns-clause-refused : goal.returns-clause-refused
returns-clause-refused c =
    let bytes = c.args.bytes.now in
    let d = view c.in_ok-document.document in
    let document : IsDocument bytes d = record
    { few = c.if-bytes-gt-MOST_BYTES.false; reads = c.in_ok-document.ensures.ok } in
    answer-refused (λ v. v.text.items) bytes c.import_value.result
    (imported-read (λ v. v.text.items) bytes d c.import_value.result document c.import_value.ensures.ok)
    (refused-read (λ v. v.text.items) bytes d c.import_value.result document c.import_value.ensures.err)

pub import_value-requires : goal.import_value-requires
import_value-requires c =
    (c.args.bytes.now, record { few = c.if-bytes-gt-MOST_BYTES.false; reads = c.in_ok-document.ensures.ok })
