use Rattle.std.proofs.Common.{◌≡◌, ◌++◌, ◌∙◌, ℕ, List, length, map, ap}
use Rattle.ra_account.specs.Triggers.{TriggerRow}
use Rattle.ra_condition.specs.Contents.{groups_of, trigger_contents}
use Rattle.ra_trigger.specs.States.{is_triggered}
use Rattle.ra_why.specs.Text.{first_text, frames_text, groups_lines, whole_lines}
use Rattle.ra_why.proofs.TextLemmas.{four_parts}
use Rattle.ra_why.proofs.whole.account_text.Goals as goal

pub returns : goal.returns
returns c = λ size rows known.
    let t = trigger_contents c.args.trigger.now in
    let kept = c.args.kept.now in
    let first : ℕ → List ℕ = λ n. first_text (is_triggered kept.state) n c.args.id ++ frames_text n kept in
    let lines : List ℕ =
    groups_lines 0 0 (groups_of t) kept.hits (length rows) size (map (λ (f : TriggerRow). f.row) rows) in
    let rows' = map (λ (f : TriggerRow). f.row) rows in
    let start : c.into_bytes-text.result.items ≡ first (length rows) =
    ap (λ v. v.items) c.into_bytes-text.ensures.value ∙ c.in_ok-head.ensures ∙ ap first known.count in
    let rest : c.as_bytes.result.now ≡ whole_lines t rows =
    c.as_bytes.ensures.value ∙ c.in_ok-whole.ensures size rows known in
    four_parts (first_text (is_triggered kept.state) (length rows) c.args.id) (frames_text (length rows) kept) lines
    (whole_lines t rows)
    c.into_bytes-text.result.items c.put_conditions.new.text.items c.extend_from_slice.new.self.items
    start
    (c.in_ok-put_conditions.ensures size rows known
    ∙ ap (λ hits. c.into_bytes-text.result.items ++ groups_lines 0 0 (groups_of t) hits (length rows) size rows')
    c.hits.ensures)
    (c.in_ok-extend_from_slice.ensures.items ∙ ap (λ ys. c.put_conditions.new.text.items ++ ys) rest)
