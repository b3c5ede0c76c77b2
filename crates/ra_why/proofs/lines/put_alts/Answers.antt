use Rattle.std.proofs.Common.{◌≡◌, ◌+◌, ◌-◌, ◌<◌, ◌++◌, ◌∷◌, ◌∙◌, ℕ, List, drop, length, map, take, ap, sym, subst}
use Rattle.std.proofs.Common.{append_assoc, arith}
use Rattle.std.proofs.lemmas.List.{drop_more}
use Rattle.ra_account.specs.declared.group_account.GroupAccount.{GroupAccount}
use Rattle.ra_account.specs.Groups.{IsGroupAccount, group_at, part_of, start_at}
use Rattle.ra_account.proofs.GroupLemmas.{end_within, group_here, start_more}
use Rattle.ra_condition.specs.declared.condition.Condition.{Condition}
use Rattle.ra_condition.specs.declared.group.Group.{Group}
use Rattle.ra_condition.specs.Contents.{group_contents}
use Rattle.ra_why.specs.Text.{group_lines, groups_lines}
use Rattle.ra_why.proofs.lines.put_alts.Goals as goal

pub slice_bounds-lines-end : goal.slice_bounds-lines-end
slice_bounds-lines-end c =
    let group = c.index-groups-place.result in
    let fits = end_within c.args.told.now.groups.now c.loop-place.place group
    (omega (arith, c.loop-place-test.true)) c.index-groups-place.is in
    omega (arith, fits, c.loop-place.invariant.starts, c.len.ensures, group.conditions.ok.0, c.requires.within)

pub loop-place-preserved : goal.loop-place-preserved
loop-place-preserved c =
    let groups = c.args.told.now.groups.now in
    let place = c.loop-place.place in
    let start = c.loop-place.start in
    let group = c.index-groups-place.result in
    let account = c.index-accounts-place.result in
    let gs = map group_contents groups in
    let cs = group_contents group in
    let hits = c.args.told.now.hits.now in
    let within : place < length groups = omega (arith, c.loop-place-test.true) in
    let here : group_at gs place ≡ cs = group_here groups place group within c.index-groups-place.is in
    let next = start_more groups place group within c.index-groups-place.is in
    let long : c.len.result ≡ length cs = omega (arith, c.len.ensures, group.conditions.ok.0) in
    let span : start + c.len.result - start ≡ length cs = omega (arith, long) in
    let rest : drop place groups ≡ group ∷ drop (place + 1) groups =
    drop_more groups place group within
    ∙ ap (λ (g : Group). g ∷ drop (place + 1) groups) (sym c.index-groups-place.is) in
    let after = map group_contents (drop (place + 1) groups) in
    let first : place + 1 ≡ 1 + place = omega arith in
    let second : 1 + (place + 1) ≡ 1 + place + 1 = omega arith in
    record {
      starts = omega (arith, c.loop-place.invariant.starts, next, long);
      written = λ size rows known.
          let there : IsGroupAccount (group_at gs place) size
          (map (part_of (group_at gs place) (c.args.told.now.from + start_at gs place)) rows) account =
          subst (λ (a : GroupAccount). IsGroupAccount (group_at gs place) size
          (map (part_of (group_at gs place) (c.args.told.now.from + start_at gs place)) rows) a)
          (sym c.index-accounts-place.is) (known place (omega (arith, within, c.requires.many)) account) in
          let at : IsGroupAccount (group_at gs place) size (map (part_of (group_at gs place) start) rows) account =
          subst (λ (s : ℕ). IsGroupAccount (group_at gs place) size
          (map (part_of (group_at gs place) s) rows) account) (sym c.loop-place.invariant.starts) there in
          let own : IsGroupAccount cs size (map (part_of cs start) rows) account =
          subst (λ (xs : List Condition). IsGroupAccount xs size (map (part_of xs start) rows) account) here at in
          let lines : List ℕ =
          group_lines (1 + place) cs (take (length cs) (drop start hits)) c.args.told.now.frames size
          (map (part_of cs start) rows) in
          let put = c.in_ok-put_group.ensures size (map (part_of cs start) rows) own
          ∙ (λ i. c.loop-place.text.items ++ group_lines (first i) cs
          (take (span i) (drop start hits)) c.args.told.now.frames size (map (part_of cs start) rows)) in
          (λ i. put i ++ groups_lines (second i) (start + long i) after hits c.args.told.now.frames size rows)
          ∙ append_assoc c.loop-place.text.items lines
          (groups_lines (1 + place + 1) (start + length cs) after hits c.args.told.now.frames size rows)
          ∙ ap (λ (xs : List Group). c.loop-place.text.items ++ groups_lines (1 + place) start
          (map group_contents xs) hits c.args.told.now.frames size rows) (sym rest)
          ∙ c.loop-place.invariant.written size rows known;
    }
