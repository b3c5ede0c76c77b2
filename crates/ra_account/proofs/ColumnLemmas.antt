-- The marks of columns with one frame more, and of columns joined two by two.
use Rattle.std.proofs.Common.{◌≡◌, ◌≢◌, ◌⊎◌, inl, inr, ℕ, zero, suc, ◌+◌, ◌*◌, ◌<◌, ◌≤◌, Bool, true, false, List, []}
use Rattle.std.proofs.Common.{◌∷◌, ◌++◌, length, take, drop, set, refl, sym, ap, ◌∙◌, subst, arith, get_or}
use Rattle.std.proofs.Common.{get_or-set_same, get_or-set_other, length-drop}
use Rattle.std.specs.Prelude.{not, reverse}
use Rattle.std.specs.List.{list_all}
use Rattle.std.proofs.lemmas.Bool.{cases_eq, cases_lt}
use Rattle.std.proofs.lemmas.Grind.{common_steps}
use Rattle.std.proofs.lemmas.List.{take_all, take-append-le, drop-append-le, drop-drop, reverse-append, length-reverse}
use Rattle.std.proofs.lemmas.List.{length-take-le}
use Rattle.std.proofs.lemmas.List.Folds.{list_all-append}
use Rattle.std.proofs.Math.Nat.{mul-le-mul_right}
use Rattle.std.proofs.Math.Seq.{take-add}
use Rattle.ra_account.specs.declared.mark.Mark.{Mark}
use Rattle.ra_account.specs.declared.mark.Mark.TheVariants.{Never}
use Rattle.ra_account.specs.Marks.{mark_of, mark_more, joined, frames_in, column_of}

-- not at all of some frames where at none, of one or more
none_not_all : (now : Bool) (counts : List Bool) → list_all not (now ∷ counts) ≡ true
    → list_all (λ c. c) (now ∷ counts) ≡ false
none_not_all false counts none = refl
none_not_all true counts none = grind (arith, common_steps)

-- the mark of two runs of one or more frames each is theirs joined
pub mark_two : (a b : Bool) (before later : List Bool) → mark_of ((a ∷ before) ++ (b ∷ later))
    ≡ joined (mark_of (a ∷ before)) (mark_of (b ∷ later))
mark_two a b before later =
    grind (
      arith,
      common_steps,
      list_all-append (λ c. c) (a ∷ before) (b ∷ later),
      list_all-append not (a ∷ before) (b ∷ later),
      none_not_all a before,
      none_not_all b later,
    )

-- the same of any two that are not empty
mark_joined : (before later : List Bool) → 0 < length before → 0 < length later
    → mark_of (before ++ later) ≡ joined (mark_of before) (mark_of later)
mark_joined [] later some other = grind arith
mark_joined (a ∷ before) [] some other = grind arith
mark_joined (a ∷ before) (b ∷ later) some other = mark_two a b before later

-- the mark of a column with one frame more
mark_run : (begun : ℕ) (run : List Bool) (now : Bool) → length run ≡ begun
    → mark_of (run ++ now ∷ []) ≡ mark_more begun (mark_of run) now
mark_run zero [] now long = grind (arith, common_steps)
mark_run zero (a ∷ run) now long = grind arith
mark_run (suc begun) [] now long = grind arith
mark_run (suc begun) (a ∷ run) now long = mark_two a now run [] ∙ grind (arith, common_steps)

-- a full column is the same with one frame more
full_column : (w k : ℕ) (xs : List Bool) (now : Bool) → k * w + w ≤ length xs
    → frames_in w k (xs ++ now ∷ []) ≡ frames_in w k xs
full_column w k xs now full =
    ap (λ ys. take w ys) (drop-append-le (k * w) xs (now ∷ []) (omega arith))
    ∙ take-append-le w (drop (k * w) xs) (now ∷ []) (omega (arith, length-drop (k * w) xs))

-- the column that is not full has all frames behind the full ones
last_column : (w k begun : ℕ) (xs : List Bool) → begun < w → k * w + begun ≡ length xs
    → frames_in w k xs ≡ drop (k * w) xs
last_column w k begun xs within long = take_all w (drop (k * w) xs) (omega (arith, length-drop (k * w) xs))

-- and one more
more_column : (w k begun : ℕ) (xs : List Bool) (now : Bool) → begun < w → k * w + begun ≡ length xs
    → frames_in w k (xs ++ now ∷ []) ≡ drop (k * w) xs ++ now ∷ []
more_column w k begun xs now within long =
    ap (λ ys. take w ys) (drop-append-le (k * w) xs (now ∷ []) (omega arith))
    ∙ take_all w (drop (k * w) xs ++ now ∷ []) (grind (arith, common_steps, length-drop (k * w) xs))

-- the mark of the last column, with one frame more
last_mark : (w k begun : ℕ) (xs : List Bool) (now : Bool) → begun < w → k * w + begun ≡ length xs
    → mark_of (frames_in w k (xs ++ now ∷ [])) ≡ mark_more begun (mark_of (frames_in w k xs)) now
last_mark w k begun xs now within long =
    ap mark_of (more_column w k begun xs now within long)
    ∙ mark_run begun (drop (k * w) xs) now (omega (arith, length-drop (k * w) xs))
    ∙ ap (λ run. mark_more begun (mark_of run) now) (sym (last_column w k begun xs within long))

-- a column that has a frame is not behind the one that is not full
not_behind : (w k full begun : ℕ) → begun < w → k * w ≤ full * w + begun → (k ≡ full) ⊎ (k < full)
not_behind w k full begun within reaches = elim (cases_lt k full) [
  | inl below ↦ inr below
  | inr above ↦ elim (cases_eq k full) [
    | inl same ↦ inl same
    | inr other ↦ (let past : suc full ≤ k = omega arith in inl (omega (arith, mul-le-mul_right w past)))
  ]
]

-- the marks of columns are those of some frames
abbrev pub AreMarks : (width : ℕ) → List Mark → List Bool → Type 0
AreMarks w marks counts = (k : ℕ) → k * w < length counts → get_or marks k Never ≡ column_of w k counts

-- the mark of the last column, where the frames before it are known
last_put : (w full begun : ℕ) (marks : List Mark) (now : Bool) (earlier : List Bool) → begun < w
    → full * w + begun ≡ length earlier
    → AreMarks w marks earlier → mark_more begun (get_or marks full Never) now
    ≡ mark_more begun (column_of w full earlier) now
last_put w full zero marks now earlier within long known = refl
last_put w full (suc begun) marks now earlier within long known =
    ap (λ mark. mark_more (suc begun) mark now) (known full (omega arith))

-- the marks with one frame more
pub put_marks : (w full begun : ℕ) (marks : List Mark) (now : Bool) (earlier : List Bool)
    → begun < w → full < length marks → full * w + begun ≡ length earlier
    → AreMarks w marks earlier
    → AreMarks w (set marks full (mark_more begun (get_or marks full Never) now)) (now ∷ earlier)
put_marks w full begun marks now earlier within room long known = λ k there.
    let xs = reverse earlier in
    let longer : full * w + begun ≡ length xs = long ∙ sym (length-reverse earlier) in
    let next : column_of w k (now ∷ earlier) ≡ mark_of (frames_in w k (xs ++ now ∷ [])) =
    ap (λ ys. mark_of (frames_in w k ys)) (reverse-append (now ∷ []) earlier) in
    elim (not_behind w k full begun within (omega arith)) [
      | inl same ↦ subst (λ (j : ℕ). get_or (set marks full (mark_more begun
          (get_or marks full Never) now)) j Never ≡ column_of w j (now ∷ earlier)) (sym same)
          (get_or-set_same marks full _ Never room
          ∙ last_put w full begun marks now earlier within long known
          ∙ sym (last_mark w full begun xs now within longer)
          ∙ sym (ap (λ ys. mark_of (frames_in w full ys)) (reverse-append (now ∷ []) earlier)))
      | inr below ↦ (
          let lower : suc k ≤ full = below in
          let fits : k * w + w ≤ full * w = omega (arith, mul-le-mul_right w lower) in
          let other : k ≢ full = omega arith in
          get_or-set_other marks full k _ Never other
          ∙ known k (omega arith)
          ∙ sym (ap mark_of (full_column w k xs now (omega arith)))
          ∙ sym next)
    ]

-- a column of double width has the frames of two
double_column : (w k : ℕ) (xs : List Bool) → frames_in (w + w) k xs
    ≡ frames_in w (k * 2) xs ++ frames_in w (k * 2 + 1) xs
double_column w k xs =
    let start : k * (w + w) ≡ k * 2 * w = omega arith in
    let next : k * 2 * w + w ≡ (k * 2 + 1) * w = omega arith in
    ap (λ n. take (w + w) (drop n xs)) start
    ∙ take-add w w (drop (k * 2 * w) xs)
    ∙ ap (λ ys. frames_in w (k * 2) xs ++ take w ys) (drop-drop w (k * 2 * w) xs ∙ ap (λ n. drop n xs) next)

-- and the mark of both joined, where both are full
double_mark : (w k : ℕ) (xs : List Bool) → 0 < w → (k * 2 + 1) * w + w ≤ length xs
    → mark_of (frames_in (w + w) k xs)
    ≡ joined (mark_of (frames_in w (k * 2) xs)) (mark_of (frames_in w (k * 2 + 1) xs))
double_mark w k xs some full =
    let first = length-take-le w (drop (k * 2 * w) xs) (omega (arith, length-drop (k * 2 * w) xs)) in
    let second = length-take-le w (drop ((k * 2 + 1) * w) xs) (omega (arith, length-drop ((k * 2 + 1) * w) xs)) in
    ap mark_of (double_column w k xs)
    ∙ mark_joined (frames_in w (k * 2) xs) (frames_in w (k * 2 + 1) xs) (omega (arith, first)) (omega (arith, second))

-- a column of double width that has a frame is one of thirty
below_thirty : (w k : ℕ) → 0 < w → k * (w + w) < 60 * w → k < 30
below_thirty w k some there = elim (cases_lt k 30) [
  | inl below ↦ below
  | inr above ↦ (let thirty : 30 ≤ k = omega arith in omega (arith, mul-le-mul_right (w + w) thirty))
]

-- the marks of sixty full columns joined two by two
pub join_marks : (w : ℕ) (marks marks' : List Mark) (counts : List Bool) → 0 < w → 60 * w
    ≡ length counts → AreMarks w marks counts
    → ((k : ℕ) → k < 30 → get_or marks' k Never ≡ joined (get_or marks (k * 2) Never) (get_or marks (k * 2 + 1) Never))
    → AreMarks (w + w) marks' counts
join_marks w marks marks' counts some long known joins = λ k there.
    let long' : length (reverse counts) ≡ 60 * w = length-reverse counts ∙ sym long in
    let below : k < 30 = below_thirty w k some (omega arith) in
    let lower : k * 2 + 1 + 1 ≤ 60 = omega arith in
    let fits : (k * 2 + 1) * w + w ≤ 60 * w = omega (arith, mul-le-mul_right w lower) in
    let first : k * 2 * w < length counts = omega arith in
    let second : (k * 2 + 1) * w < length counts = omega arith in
    joins k below
    ∙ ap (λ mark. joined mark (get_or marks (k * 2 + 1) Never)) (known (k * 2) first)
    ∙ ap (λ mark. joined (column_of w (k * 2) counts) mark) (known (k * 2 + 1) second)
    ∙ sym (double_mark w k (reverse counts) some (omega arith))
