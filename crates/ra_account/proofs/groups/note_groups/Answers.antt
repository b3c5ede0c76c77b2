use Rattle.std.proofs.Common.{◌≡◌, ap, ℕ, ◌+◌, ◌-◌, ◌<◌, ◌≤◌, ◌∷◌, [], List, drop, take, length, map, get_or}
use Rattle.std.proofs.Common.{get_or-set_other, sym, ◌∙◌, subst, arith}
use Rattle.std.proofs.lemmas.List.{length-map, take_all, take_more}
use Rattle.ra_condition.specs.declared.condition.Condition.{Condition}
use Rattle.ra_condition.specs.Contents.{group_contents}
use Rattle.ra_account.specs.declared.group_account.GroupAccount.{GroupAccount}
use Rattle.ra_account.specs.Groups.{GroupRow, FitsGroup, GroupStandsAt, IsGroupAccount, group_at}
use Rattle.ra_account.specs.Groups.{part_of, row_in, start_at, wants_of}
use Rattle.ra_account.proofs.GroupLemmas.{cut_fits, each_set, end_within, group_here, noted_part, start_more}
use Rattle.ra_account.proofs.GroupLemmas.{wants_part}
use Rattle.ra_trigger.specs.Steps.{frames_along}
use Rattle.ra_account.specs.Stops.{stops_of_all}
use Rattle.ra_account.proofs.StopLemmas.{stops_more, stops_part}
use Rattle.ra_account.proofs.groups.note_groups.Goals as goal

pub part-requires-clause-within : goal.part-requires-clause-within
part-requires-clause-within c =
    let group = c.index-groups-place.result in
    let fits = end_within c.args.groups.now c.loop-place.place group
    (omega (arith, c.loop-place-test.true, c.requires.ready.as_many, length-map c.args.groups.now group_contents))
    c.index-groups-place.is in
    omega (arith, fits, c.loop-place.invariant.starts, c.len.ensures, group.conditions.ok.0, c.requires.within)

pub note-stops-requires-clause-row : goal.note-stops-requires-clause-row
note-stops-requires-clause-row c =
    let group = c.index-groups-place.result in
    let within : c.loop-place.place < length c.args.groups.now =
    omega (arith, c.loop-place-test.true, c.requires.ready.as_many, length-map c.args.groups.now group_contents) in
    let fits = end_within c.args.groups.now c.loop-place.place group within c.index-groups-place.is in
    cut_fits (length c.args.frame.now.row.truths.now) _ _ c.loop-place.start (row_in c.args.frame.now.row) _
    c.requires.row c.part.ensures (omega (arith, c.len.ensures, group.conditions.ok.0))
    (omega (arith, fits, c.loop-place.invariant.starts, c.requires.within))

pub loop-place-preserved : goal.loop-place-preserved
loop-place-preserved c =
    let place = c.loop-place.place in
    let olds = c.loop-place.accounts in
    let new = c.note-stops.new.self in
    let group = c.index-groups-place.result in let cs = group_contents group in
    let gs = map group_contents c.args.groups.now in
    let known = c.loop-place.invariant in
    let first : place < length c.args.accounts.now = omega (arith, c.loop-place-test.true) in
    let within : place < length olds = omega (arith, first, c.loop-place.auto.accounts) in
    let in_text : place < length c.args.groups.now =
    omega (arith, first, c.requires.ready.as_many, length-map c.args.groups.now group_contents) in
    let here = group_here c.args.groups.now place group in_text c.index-groups-place.is in
    let next = start_more c.args.groups.now place group in_text c.index-groups-place.is in
    let own = sym (known.rest place (omega arith) c.index-accounts-place.result) in
    let row : GroupRow = row_in c.args.frame.now.row in
    let size = c.args.frame.now.size in let start = c.loop-place.start in
    let starts : ℕ → ℕ = λ g. c.args.from + start_at gs g in
    let parts = λ (g : ℕ) (rows : List GroupRow). map (part_of (group_at gs g) (starts g)) rows in
    let long : start + c.len.result - start ≡ length cs = omega (arith, c.len.ensures, group.conditions.ok.0) in
    record {
      starts = omega (arith, known.starts, next, c.len.ensures, group.conditions.ok.0);
      fit = each_set (λ g a. FitsGroup (group_at gs g) a) olds place new within known.fit
          (subst (λ (xs : List Condition). FitsGroup xs new) (sym here) c.note-stops.ensures.ready.fits);
      stand = each_set (λ g a. GroupStandsAt (c.args.frame.now.at + 1) a) olds place new within known.stand
          c.note-stops.ensures.ready.stands;
      noted = λ earlier was. each_set (λ g a. IsGroupAccount (group_at gs g) size (parts g (row ∷ earlier)) a)
          olds place new within (known.noted earlier was)
          (noted_part cs (group_at gs place) size start (starts place) _ row _ earlier
          (get_or olds place c.index-accounts-place.result) new
          c.note-stops.ensures.noted c.part.ensures here (sym known.starts) long
          (subst (λ (a : GroupAccount). IsGroupAccount (group_at gs place) size (parts place earlier) a) own
          (was place first c.index-accounts-place.result)));
      wants = each_set (λ g a. a.wants.items ≡ wants_of (group_at gs g) (part_of (group_at gs g) (starts g) row))
          olds place new within known.wants
          (wants_part cs (group_at gs place) start (starts place) _ row _ new.wants.items
          c.note-stops.ensures.wants c.part.ensures here (sym known.starts) long);
      stops_too = stops_more (take place gs) (group_at gs place) c.args.from row
          (record { paused = c.loop-place.paused; reset = c.loop-place.reset }) c.note-stops.result known.stops_too
          (stops_part cs (group_at gs place) start (starts place) _ row _ c.note-stops.result
          c.note-stops.ensures.stops c.part.ensures here (sym known.starts) long)
          ∙ ap (λ (xs : List (List Condition)). stops_of_all (frames_along xs (drop c.args.from row.truths)
          (drop c.args.from row.lefts) (drop c.args.from row.hits)))
          (sym (take_more gs place [] (omega (arith, in_text, length-map c.args.groups.now group_contents))));
      rest = λ g above d. get_or-set_other olds place g new d (omega arith) ∙ known.rest g (omega arith) d;
    }

pub returns-clause-noted : goal.returns-clause-noted
returns-clause-noted c = λ earlier was g below d. c.loop-place.invariant.noted earlier was g
    (omega (arith, c.loop-place-test.false, c.loop-place.auto.accounts)) d

pub returns-clause-wants : goal.returns-clause-wants
returns-clause-wants c = λ g below d. c.loop-place.invariant.wants g
    (omega (arith, c.loop-place-test.false, c.loop-place.auto.accounts)) d

pub returns-clause-stops : goal.returns-clause-stops
returns-clause-stops c =
    let gs = map group_contents c.args.groups.now in
    let all : length gs ≤ c.loop-place.place =
    omega (arith, c.loop-place-test.false, c.loop-place.auto.accounts, c.requires.ready.as_many) in
    c.loop-place.invariant.stops_too
    ∙ ap (λ (xs : List (List Condition)). stops_of_all
    (frames_along xs (drop c.args.from c.args.frame.now.row.truths.now)
    (drop c.args.from c.args.frame.now.row.lefts.now) (drop c.args.from c.args.frame.now.row.hits.now)))
    (take_all c.loop-place.place gs all)
