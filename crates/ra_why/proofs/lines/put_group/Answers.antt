use Rattle.std.proofs.Common.{◌≡◌, ◌<◌, ◌++◌, ◌∙◌, ℕ, List, length, map, slice_index, ap, subst, sym, arith}
use Rattle.std.specs.List.{flat_map, range_with_len}
use Rattle.std.proofs.lemmas.List.{get_or_read, length-map}
use Rattle.ra_account.specs.declared.running.Running.{Running}
use Rattle.ra_account.specs.Conditions.{IsAccountOf}
use Rattle.ra_account.specs.Marks.{IsSound}
use Rattle.ra_account.specs.Running.{IsRunning, RunsAt}
use Rattle.ra_account.specs.Groups.{shown}
use Rattle.ra_account.specs.Text.{told_of}
use Rattle.ra_account.proofs.ToldLemmas.{told_is}
use Rattle.ra_condition.specs.Contents.{condition_at, group_contents, no_condition}
use Rattle.ra_why.specs.Text.{condition_lines}
use Rattle.ra_why.proofs.TextLemmas.{text_more}
use Rattle.ra_why.proofs.lines.put_group.Goals as goal

pub told-requires-clause-stands : goal.told-requires-clause-stands
told-requires-clause-stands c =
    let there : c.loop-place.place < length c.args.account.now.conditions.items =
    omega (
      arith,
      c.loop-place-test.true,
      c.len-place-end.ensures,
      c.args.told.now.group.now.conditions.ok.0,
      c.requires.accounts,
    ) in
    subst (λ (r : Running). RunsAt c.args.told.now.frames r) (sym c.index.ensures)
    (c.requires.stands.each_stands c.loop-place.place there c.index.result.now)

pub loop-place-preserved : goal.loop-place-preserved
loop-place-preserved c = λ size rows known.
    let cs = group_contents c.args.told.now.group.now in
    let j = c.loop-place.place in
    let f : ℕ → List ℕ =
    λ k. condition_lines c.args.told.now.number k (condition_at cs k) (slice_index c.args.told.now.hits.now k)
    c.args.told.now.frames
    (told_of (map (shown cs size k) rows)) in
    let account = c.in_ok-own.own in
    let below : j < length cs =
    omega (arith, c.loop-place-test.true, c.len-place-end.ensures, c.args.told.now.group.now.conditions.ok.0) in
    let there : j < length c.args.account.now.conditions.items = omega (arith, below, c.requires.accounts) in
    let long = length-map rows (shown cs size j) ∙ sym known.count ∙ c.requires.stands.frames_too in
    let own : IsAccountOf (map (shown cs size j) rows) account =
    c.in_ok-own.ensures.told (map (shown cs size j) rows) long
    (subst (λ (r : Running). IsRunning (map (shown cs size j) rows) r) (sym c.index.ensures)
    (known.each j there c.index.result.now)) in
    let sound : IsSound account.columns = c.in_ok-own.ensures.stands.sound in
    let here : c.index-in-loop-place.result.now ≡ condition_at cs j =
    get_or_read cs j c.index-in-loop-place.result.now below c.index-in-loop-place.ensures no_condition in
    text_more c.args.text.now.items c.loop-place.text.items c.put_lines.new.text.items f j
    (c.loop-place.invariant size rows known)
    (c.in_ok-put_lines.ensures
    ∙ (λ i. c.loop-place.text.items ++ condition_lines c.args.told.now.number j (here i)
    (slice_index c.args.told.now.hits.now j) c.args.told.now.frames
    (told_is (map (shown cs size j) rows) account own sound i)))

pub returns : goal.returns
returns c = λ size rows known.
    let cs = group_contents c.args.told.now.group.now in
    let f : ℕ → List ℕ =
    λ k. condition_lines c.args.told.now.number k (condition_at cs k) (slice_index c.args.told.now.hits.now k)
    c.args.told.now.frames
    (told_of (map (shown cs size k) rows)) in
    let all : c.loop-place.place ≡ length cs =
    omega (
      arith,
      c.loop-place-test.false,
      c.loop-place.auto.place-end,
      c.len-place-end.ensures,
      c.args.told.now.group.now.conditions.ok.0,
    ) in
    c.loop-place.invariant size rows known ∙ ap (λ n. c.args.text.now.items ++ flat_map f (range_with_len 0 n)) all
