use Rattle.std.proofs.Common.{◌≡◌, ℕ, ◌+◌, ◌-◌, ◌*◌, ◌<◌, Option, Some, None, List, length, map, refl, sym, ◌∙◌, ap}
use Rattle.std.proofs.Common.{subst, arith}
use Rattle.std.specs.Vec.{with_items}
use Rattle.std.proofs.lemmas.List.{with_items_is}
use Rattle.std.proofs.lemmas.Simd.{map-map}
use Rattle.ra_progress.specs.declared.shape.PresenceShape.{PresenceShape}
use Rattle.ra_text.specs.Words.{word_at}
use Rattle.ra_member.specs.declared.member.Member.{Member}
use Rattle.ra_member.specs.Members.{cleared_member}
use Rattle.ra_member.specs.MemberRuns.{kept_by}
use Rattle.ra_display.specs.declared.presence_run.PresenceRun.{PresenceRun}
use Rattle.ra_display.specs.PresenceBack.{HasDisplay, PutsBackDisplay, StayLines, hits_of_lines, numbers_of_lines}
use Rattle.ra_display.proofs.DisplayRows.{lines_hits, lines_numbers}
use Rattle.ra_display.proofs.RestoredPresence.{display_back, display_cleared}
use Rattle.ra_display.proofs.restored_presence.put_back_display.Goals as goal

pub put_back_lines-requires-clause-hits : goal.put_back_lines-requires-clause-hits
put_back_lines-requires-clause-hits c =
    let run = c.args.run.now in
    let has : HasDisplay c.args.bytes.now (Some c.in-Some.at) c.args.shape.now = subst (λ (place :
    Option ℕ). HasDisplay c.args.bytes.now place c.args.shape.now) c.in-Some.is c.requires.block in
    let shape = ap (λ (s : PresenceShape). s.hits) c.requires.shape in
    let same = ap (λ runs. length (hits_of_lines runs)) c.deref_mut.ensures.value in
    let said = c.presence_block-block.ensures in
    omega (arith, has.0.1, shape, ap length (lines_hits run.lines.items), same, said.hits)

pub put_back_lines-requires-clause-numbers : goal.put_back_lines-requires-clause-numbers
put_back_lines-requires-clause-numbers c =
    let run = c.args.run.now in
    let has : HasDisplay c.args.bytes.now (Some c.in-Some.at) c.args.shape.now = subst (λ (place :
    Option ℕ). HasDisplay c.args.bytes.now place c.args.shape.now) c.in-Some.is c.requires.block in
    let shape = ap (λ (s : PresenceShape). s.parts) c.requires.shape in
    let same = ap (λ runs. length (numbers_of_lines runs)) c.deref_mut.ensures.value in
    let said = c.presence_block-block.ensures in
    omega (arith, has.0.1, shape, ap length (lines_numbers run.lines.items), same, said.numbers)

pub returns-in-Some : goal.returns-in-Some
returns-in-Some c =
    let bytes = c.args.bytes.now in
    let at = c.in-Some.at in
    let old = c.args.run.now in
    let hits = at + 4 in
    let numbers = at + 4 + 4 * c.args.shape.now.hits in
    let news = c.put_back_lines.new.lines in
    let new : PresenceRun = record { lines = with_items old.lines news; shown = c.presence_block-block.result.shown } in
    let has : HasDisplay bytes (Some at) c.args.shape.now = subst
    (λ (place : Option ℕ). HasDisplay bytes place c.args.shape.now) c.in-Some.is c.requires.block in
    let same : new.lines.items ≡ news =
    with_items_is old.lines news (c.put_back_lines.auto.lines ∙ c.deref_mut.ensures.len) in
    let e = c.put_back_lines.ensures in
    let stay : StayLines old.lines.items new.lines.items =
    subst (λ (olds : List Member). StayLines olds new.lines.items) c.deref_mut.ensures.value
    (subst (λ (runs : List Member). StayLines c.deref_mut.result.now runs) (sym same) e.stay) in
    let said = c.presence_block-block.ensures in
    let all_hits = ap hits_of_lines same ∙ rw c.deref_mut.ensures.value at (rw said.hits at e.hits) in
    let all_numbers = ap numbers_of_lines same ∙ rw c.deref_mut.ensures.value at (rw said.numbers at e.numbers) in
    let within : word_at bytes at < length old.lines.items =
    omega (arith, has.1, ap (λ (s : PresenceShape). s.lines) c.requires.shape) in
    subst (λ (place : Option ℕ). PutsBackDisplay bytes place old new) (sym c.in-Some.is)
    (display_back bytes at hits numbers old new c.presence_block-block.ensures.shown within stay
    all_hits all_numbers refl (ap (λ (s : PresenceShape). at + 4 + 4 * s.hits) c.requires.shape))

pub returns-in-None : goal.returns-in-None
returns-in-None c =
    let bytes = c.args.bytes.now in
    let old = c.args.run.now in
    let news = c.clear_lines.new.lines in
    let new : PresenceRun = record { lines = with_items old.lines news; shown = c.args.shape.now.lines - 1 } in
    let has : HasDisplay bytes None c.args.shape.now = subst
    (λ (place : Option ℕ). HasDisplay bytes place c.args.shape.now) c.in-None.is c.requires.block in
    let same : new.lines.items ≡ news =
    with_items_is old.lines news (c.clear_lines.auto.lines ∙ c.deref_mut-in-None.ensures.len) in
    let e = c.clear_lines.ensures in
    let lines : c.args.shape.now.lines ≡ length old.lines.items =
    ap (λ (s : PresenceShape). s.lines) c.requires.shape in
    let stay : StayLines old.lines.items new.lines.items = subst (λ (olds : List Member). StayLines
    olds new.lines.items) c.deref_mut-in-None.ensures.value (subst (λ (runs : List Member).
    StayLines c.deref_mut-in-None.result.now runs) (sym same) e.stay) in
    let kept : map kept_by new.lines.items ≡ map cleared_member (map kept_by old.lines.items) =
    ap (map kept_by) same ∙ e.kept ∙ ap (map (λ (m : Member). cleared_member (kept_by m)))
    c.deref_mut-in-None.ensures.value ∙ sym (map-map cleared_member kept_by old.lines.items) in
    subst (λ (place : Option ℕ). PutsBackDisplay bytes place old new) (sym c.in-None.is)
    (display_cleared bytes old new (ap (λ n. n - 1) lines) (omega (arith, has, lines)) stay kept)
