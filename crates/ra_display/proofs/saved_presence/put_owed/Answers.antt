use Rattle.std.proofs.Common.{◌≡◌, ◌++◌, length, drop, arith, sym, ◌∙◌, ap, ap₂, subst}
use Rattle.std.proofs.lemmas.List.{take-append-le, take_all}
use Rattle.ra_member.specs.MemberRuns.{FitWords, PutsBehind, kept_by}
use Rattle.ra_member.specs.Members.{saved_hits}
use Rattle.ra_schedule.specs.Counted.{bits_in, owed_by, owed_member_by}
use Rattle.ra_schedule.specs.Counts.{counts_of}
use Rattle.ra_schedule.proofs.MembersRest.Counted.{bits_many, saved_owed_by, saved_stay_by}
use Rattle.ra_display.proofs.saved_presence.put_owed.Goals as goal

pub pay-requires : goal.pay-requires
pay-requires c =
    let kept = kept_by c.args.line.now in
    let hits : c.save.new.hits.items ≡ saved_hits kept =
    c.in_ok-save.ensures.hits.all ∙ ap (λ xs. xs ++ saved_hits kept) c.new-own.ensures.items in
    ap length (c.deref.ensures.value ∙ c.in_ok-counted.ensures)
    ∙ bits_many (counts_of c.args.counts.now) kept c.requires.fits
    ∙ sym (ap length (c.deref_mut.ensures.value ∙ hits))

-- the hits that are put are those that are owed
own_is : (c : goal.After-drop-own-2) → c.deref-2.result.now ≡ saved_hits
    (owed_member_by c.args.frames (counts_of c.args.counts.now) (kept_by c.args.line.now))
own_is c =
    let counts = counts_of c.args.counts.now in
    let kept = kept_by c.args.line.now in
    let frames = c.args.frames in
    let row : c.deref.result.now ≡ bits_in counts = c.deref.ensures.value ∙ c.in_ok-counted.ensures in
    let were : c.deref_mut.result.now ≡ saved_hits kept =
    c.deref_mut.ensures.value ∙ c.in_ok-save.ensures.hits.all
    ∙ ap (λ xs. xs ++ saved_hits kept) c.new-own.ensures.items in
    let paid_hits = c.pay.new.hits in
    let long : length paid_hits ≡ c.save.new.hits.len =
    omega (arith, c.pay.auto.hits, c.deref_mut.ensures.len, c.save.new.hits.ok) in
    let now : c.deref-2.result.now ≡ paid_hits =
    c.deref-2.ensures.value
    ∙ take-append-le c.save.new.hits.len paid_hits (drop (length paid_hits) c.save.new.hits.items) (omega (arith, long))
    ∙ take_all c.save.new.hits.len paid_hits (omega (arith, long)) in
    now ∙ c.pay.ensures ∙ ap₂ (owed_by frames) row were ∙ saved_owed_by frames counts kept c.requires.fits

pub returns-clause-hits : goal.returns-clause-hits
returns-clause-hits c =
    subst (λ xs. PutsBehind c.args.rows.now.hits.items c.put_after.new.hits.items xs)
    (own_is c) c.in_ok-put_after.ensures

pub returns-clause-numbers : goal.returns-clause-numbers
returns-clause-numbers c =
    let same = sym (saved_stay_by c.args.frames (counts_of c.args.counts.now)
    (kept_by c.args.line.now) c.requires.fits) in
    record {
      all = c.in_ok-save.ensures.numbers.all ∙ ap (λ xs. c.args.rows.now.numbers.items ++ xs) same;
      fit = subst FitWords same c.in_ok-save.ensures.numbers.fit;
    }
