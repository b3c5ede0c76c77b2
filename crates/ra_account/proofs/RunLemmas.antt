-- Frames that are alike, counted at once.
use Rattle.std.proofs.Common.{◌≡◌, ◌≢◌, inl, inr, ℕ, zero, suc, ◌+◌, ◌-◌, ◌*◌, ◌<◌, ◌≤◌, Bool, true, false, List, ◌++◌}
use Rattle.std.proofs.Common.{length, set, replicate, get_or, get_or-set_same, get_or-set_other, refl, sym, ap, ◌∙◌}
use Rattle.std.proofs.Common.{arith, length-append}
use Rattle.std.specs.Prelude.{if◌then◌else◌, ◌==◌}
use Rattle.std.proofs.lemmas.Bool.{cases_eq, ne_eqb}
use Rattle.std.proofs.lemmas.List.{length-replicate, length-set}
use Rattle.ra_account.specs.Counting.{count_of, first_of, times_of}
use Rattle.ra_account.specs.Marks.{IsWidth, joined, mark_at, mark_more}
use Rattle.ra_account.specs.declared.mark.Mark.{Mark}
use Rattle.ra_account.specs.declared.mark.Mark.TheVariants.{Never, Sometimes, Always}
use Rattle.ra_account.specs.declared.times.Times.{Times}
use Rattle.ra_account.proofs.ColumnLemmas.{AreMarks, put_marks}

-- how many frames there are with some more
pub long_run : (n : ℕ) (now : Bool) (earlier : List Bool) → length (replicate n now ++ earlier) ≡ n + length earlier
long_run n now earlier = omega (arith, length-append (replicate n now) earlier, length-replicate n now)

-- frames at which it is not so change nothing
pub none_run : (n : ℕ) (earlier : List Bool) → times_of (replicate n false ++ earlier) ≡ times_of earlier
none_run zero earlier = refl
none_run (suc n) earlier = none_run n earlier

count_run : (n : ℕ) (earlier : List Bool) → count_of (replicate n true ++ earlier) ≡ n + count_of earlier
count_run zero earlier = omega arith
count_run (suc n) earlier = omega (arith, count_run n earlier)

first_run : (n : ℕ) (earlier : List Bool)
    → first_of (replicate (suc n) true ++ earlier)
    ≡ (if count_of earlier == 0 then length earlier else first_of earlier)
first_run zero earlier = refl
first_run (suc n) earlier =
    (let some : count_of (replicate (suc n) true ++ earlier) ≢ 0 = omega (arith, count_run (suc n) earlier) in
    ap (λ b. if b then length (replicate (suc n) true ++ earlier)
    else first_of (replicate (suc n) true ++ earlier)) (ne_eqb _ 0 some))
    ∙ first_run n earlier

-- how many, the first and the last with some frames more at which it is so
pub some_run : (n : ℕ) (earlier : List Bool) → times_of (replicate (suc n) true ++ earlier) ≡ record {
  count = suc n + count_of earlier;
  first = if count_of earlier == 0 then length earlier else first_of earlier;
  last = n + length earlier;
}
some_run n earlier = (λ i. record {
  count = count_run (suc n) earlier i;
  first = first_run n earlier i;
  last = long_run n true earlier i;
})

-- the same by the numbers that were kept
pub times_run : (n : ℕ) (earlier : List Bool) (t : Times) → 0 < n → t ≡ times_of earlier
    → times_of (replicate n true ++ earlier) ≡ record {
      count = t.count + n;
      first = if t.count == 0 then length earlier else t.first;
      last = length earlier + n - 1;
    }
times_run zero earlier t some is = grind arith
times_run (suc n) earlier t some is =
    some_run n earlier
    ∙ (let first : suc n + count_of earlier ≡ t.count + suc n = omega (arith, ap (λ (x : Times). x.count) is) in
    let last : n + length earlier ≡ length earlier + suc n - 1 = omega arith in
    (λ i. record {
      count = first i;
      first = if (sym is i).count == 0 then length earlier else (sym is i).first;
      last = last i;
    }))

-- a mark with a frame more that is like the last one
same_again : (mark : Mark) (now : Bool) → joined (joined mark (mark_at now)) (mark_at now) ≡ joined mark (mark_at now)
same_again Always true = refl
same_again Always false = refl
same_again Never true = refl
same_again Never false = refl
same_again Sometimes true = refl
same_again Sometimes false = refl

same_at_once : (now : Bool) → joined (mark_at now) (mark_at now) ≡ mark_at now
same_at_once true = refl
same_at_once false = refl

mark_by : (begun zeroed : Bool) (mark : Mark) (now : Bool) → zeroed ≡ false
    → (if zeroed then mark_at now else joined (if begun then mark_at now else joined mark (mark_at now)) (mark_at now))
    ≡ (if begun then mark_at now else joined mark (mark_at now))
mark_by true zeroed mark now fell =
    ap (λ b. if b then mark_at now else joined (mark_at now) (mark_at now)) fell ∙ same_at_once now
mark_by false zeroed mark now fell =
    ap (λ b. if b then mark_at now else joined (joined mark (mark_at now)) (mark_at now)) fell ∙ same_again mark now

mark_again : (begun n : ℕ) (mark : Mark) (now : Bool)
    → mark_more (begun + suc n) (mark_more begun mark now) now ≡ mark_more begun mark now
mark_again begun n mark now =
    mark_by (begun == 0) (begun + suc n == 0) mark now (ne_eqb (begun + suc n) 0 (omega arith))

-- a mark that is written again changes nothing
written_again : (marks : List Mark) (full : ℕ) (mark : Mark) (k : ℕ) → full < length marks
    → get_or marks full Never ≡ mark
    → get_or marks k Never ≡ get_or (set marks full mark) k Never
written_again marks full mark k room is = elim (cases_eq k full) [
  | inl same ↦ ap (λ j. get_or marks j Never) same ∙ is ∙ sym (get_or-set_same marks full mark Never room)
      ∙ ap (λ j. get_or (set marks full mark) j Never) (sym same)
  | inr other ↦ sym (get_or-set_other marks full k mark Never other)
]

-- the marks with frames more of one column that are alike
pub put_run : (n w full begun : ℕ) (marks : List Mark) (now : Bool) (earlier : List Bool)
    → begun + suc n ≤ w → full < length marks
    → full * w + begun ≡ length earlier → AreMarks w marks earlier
    → AreMarks w (set marks full (mark_more begun (get_or marks full Never) now)) (replicate (suc n) now ++ earlier)
put_run zero w full begun marks now earlier within room long known =
    put_marks w full begun marks now earlier (omega (arith, within)) room long known
put_run (suc n) w full begun marks now earlier within room long known =
    let mark = mark_more begun (get_or marks full Never) now in
    let before = put_run n w full begun marks now earlier (omega (arith, within)) room long known in
    let more = replicate (suc n) now ++ earlier in
    let here : get_or (set marks full mark) full Never ≡ mark = get_or-set_same marks full mark Never room in
    let lasts : full * w + (begun + suc n) ≡ length more = omega (arith, long, long_run (suc n) now earlier) in
    let roomy : full < length (set marks full mark) = omega (arith, room, length-set marks full mark) in
    let next = put_marks w full (begun + suc n) (set marks full mark) now more
    (omega (arith, within)) roomy lasts before in
    let again : mark_more (begun + suc n) (get_or (set marks full mark) full Never) now ≡ mark =
    ap (λ m. mark_more (begun + suc n) m now) here ∙ mark_again begun n (get_or marks full Never) now in
    λ k there. written_again (set marks full mark) full _ k roomy (here ∙ sym again) ∙ next k there

-- the same of a count that is not 0
pub put_some : (n w full begun : ℕ) (marks : List Mark) (now : Bool) (earlier : List Bool) → 0 < n
    → begun + n ≤ w → full < length marks
    → full * w + begun ≡ length earlier → AreMarks w marks earlier
    → AreMarks w (set marks full (mark_more begun (get_or marks full Never) now)) (replicate n now ++ earlier)
put_some zero w full begun marks now earlier some within room long known = grind arith
put_some (suc n) w full begun marks now earlier some within room long known =
    put_run n w full begun marks now earlier within room long known

-- the width of more frames for which there is room
pub more_width : (n m w : ℕ) → n ≤ m → m ≤ 60 * w → IsWidth n w → IsWidth m w
more_width n m w more room known = record {
  exponent = known.exponent;
  power = known.power;
  enough = room;
  least = λ e fits. known.least e (omega (arith, more, fits));
}
