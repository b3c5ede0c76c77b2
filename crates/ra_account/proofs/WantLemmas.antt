-- What a frame wants of all conditions of a trigger.
use Rattle.std.proofs.Common.{◌≡◌, ℕ, suc, ◌+◌, ◌<◌, ◌≤◌, ◌^◌, Bool, false, List, [], ◌∷◌, ◌++◌, length, map, take}
use Rattle.std.proofs.Common.{drop, sum_by, get_or, refl, sym, ap, ap₂, ◌∙◌, arith, length-append, append_assoc}
use Rattle.std.specs.Prelude.{min, replicate, ◌==◌, if◌then◌else◌, true}
use Rattle.std.proofs.lemmas.Grind.{common_steps}
use Rattle.std.specs.List.{flat_map}
use Rattle.std.proofs.Math.Seq.{drop-append_seam, take-append_seam}
use Rattle.std.proofs.lemmas.List.{drop-drop, get_or-map, length-map, length-take-le, replicate-append-replicate}
use Rattle.std.proofs.lemmas.List.{take-append-drop}
use Rattle.std.proofs.lemmas.List.Sums.{sum_by-cons}
use Rattle.std.proofs.lemmas.List.FromFn.{fill_by_all}
use Rattle.ra_condition.specs.declared.condition.Condition.{Condition}
use Rattle.ra_account.specs.declared.group_account.GroupAccount.{GroupAccount}
use Rattle.ra_account.specs.Groups.{AllFit, AllWant, GroupRow, group_at, part_of, start_at, wants_of}
use Rattle.ra_account.specs.Counting.{count_of}
use Rattle.ra_account.proofs.CountingLemmas.{count_of-le}
use Rattle.ra_account.specs.Wanting.{alt_wants, fewest_of, none_of, of_alts, of_first, trigger_wants}

-- the wants of some groups, one by one
abbrev pub wants_by : List GroupAccount → List (List Bool)
wants_by accounts = map (λ g. g.wants.items) accounts

-- they are those of the alts of a trigger, where each is told
pub wants_alts : (groups : List (List Condition)) (from : ℕ) (row : GroupRow) (accounts : List GroupAccount)
    → length accounts ≡ length groups
    → AllWant groups from row accounts → wants_by accounts ≡ alt_wants groups from row
wants_alts groups from row [] many told =
    fill_by_all (λ g. wants_of (group_at groups g) (part_of (group_at groups g) (from + start_at groups g) row)) []
    (length groups) [] many (λ k below. absurd (omega (arith, below, many)))
wants_alts groups from row (first ∷ accounts) many told =
    fill_by_all (λ g. wants_of (group_at groups g) (part_of (group_at groups g) (from + start_at groups g) row))
    (wants_by (first ∷ accounts)) (length groups) []
    (length-map (first ∷ accounts) (λ (g : GroupAccount). g.wants.items) ∙ many)
    (λ k below. get_or-map (λ (g : GroupAccount). g.wants.items) (first ∷ accounts) k first []
    (omega (arith, below, many)) ∙ told k (omega (arith, below, many)) first)

-- what a frame wants of a trigger, where it is told of its core and of its alts
pub wants_told : (core : List Condition) (gs alts : List (List Condition)) (from : ℕ) (row : GroupRow)
    (wants : List Bool)
    (accounts : List GroupAccount) → wants ≡ wants_of core (part_of core 0 row) → length accounts ≡ length gs
    → AllWant gs from row accounts → gs ≡ alts → from ≡ length core
    → wants ++ of_alts (wants_by accounts) ≡ trigger_wants (record { core = core; alts = alts }) row
wants_told core gs alts from row wants accounts core_is many told same starts =
    ap₂ (λ ws vs. ws ++ of_alts vs) core_is
    (wants_alts gs from row accounts many told ∙ (λ i. alt_wants (same i) (starts i) row))

-- there is as much room for what is wanted as there are conditions
pub wants_many : (groups : List (List Condition)) (accounts : List GroupAccount) → length accounts ≡ length groups
    → ((g : ℕ) → g < length accounts → (d : GroupAccount) → length (get_or accounts g d).wants.items ≡ length
    (group_at groups g))
    → sum_by (λ g. length g.wants.items) accounts ≡ sum_by length groups
wants_many [] [] many each = refl
wants_many (cs ∷ groups) [] many each = absurd (omega arith)
wants_many [] (a ∷ accounts) many each = absurd (omega arith)
wants_many (cs ∷ groups) (a ∷ accounts) many each =
    sum_by-cons (λ (g : GroupAccount). length g.wants.items) a accounts
    ∙ ap₂ (λ m n. m + n) (each 0 (omega arith) a)
    (wants_many groups accounts (omega arith) (λ g below d. each (suc g) (omega arith) d))
    ∙ sym (sum_by-cons length cs groups)

-- the same of the groups of a trigger and their accounts
pub wants_room : (alts groups : List (List Condition)) (accounts all : List GroupAccount)
    → length accounts ≡ length groups
    → AllFit groups accounts → groups ≡ alts → all ≡ accounts
    → sum_by length alts ≡ sum_by (λ g. length g.wants.items) all
wants_room alts groups accounts all many fit same is =
    ap (sum_by length) (sym same)
    ∙ sym (wants_many groups accounts many (λ g below d. (fit g below d).wants))
    ∙ ap (sum_by (λ (g : GroupAccount). length g.wants.items)) (sym is)

-- a list whose part from a place on is written anew, up to the end of that part
pub put_part : (xs part rest : List Bool) (from end : ℕ) → from ≤ length xs → end ≡ from + length part
    → take end (take from xs ++ (part ++ rest)) ≡ take from xs ++ part
put_part xs part rest from end within is =
    let long : end ≡ length (take from xs ++ part) = is
    ∙ sym (length-append (take from xs) part ∙ ap (λ n. n + length part) (length-take-le from xs within)) in
    ap (take end) (sym (append_assoc (take from xs) part rest)) ∙ ap (λ n. take n ((take from xs ++ part) ++ rest)) long
    ∙ take-append_seam (take from xs ++ part) rest

-- no number of conditions is greater than what stands where there is no alt
pub fewest_fits : (alts : List (List Bool)) → min 18446744073709551615 (fewest_of alts) ≡ fewest_of alts
fewest_fits [] = refl
fewest_fits (wants ∷ alts) = grind (arith, common_steps, fewest_fits alts)

-- how many conditions some groups have
abbrev pub size_of : List GroupAccount → ℕ
size_of accounts = sum_by (λ g. length g.wants.items) accounts

-- one group and the others
pub size_more : (first : GroupAccount) (others : List GroupAccount)
    → size_of (first ∷ others) ≡ length first.wants.items + size_of others
size_more first others = sum_by-cons (λ (g : GroupAccount). length g.wants.items) first others

-- nothing is wanted of some alts
pub nones_of : (alts : List GroupAccount) → replicate (size_of alts) false ≡ flat_map none_of (wants_by alts)
nones_of [] = refl
nones_of (alt ∷ alts) =
    ap (λ n. replicate n false) (size_more alt alts)
    ∙ sym (replicate-append-replicate (length alt.wants.items) (size_of alts) false)
    ∙ ap (λ ys. none_of alt.wants.items ++ ys) (nones_of alts)

-- a list whose rest is known from a place on, up to the end of a part and from there on
pub next_part : (xs part rest : List Bool) (from end : ℕ) → from ≤ length xs → end ≡ from + length part
    → drop from xs ≡ part ++ rest
    → (take end xs ≡ take from xs ++ part) × (drop end xs ≡ rest)
next_part xs part rest from end within is known = (
  ap (take end) (sym (take-append-drop from xs) ∙ ap (λ ys. take from xs ++ ys) known)
      ∙ put_part xs part rest from end within is,
  ap (λ n. drop n xs) is ∙ sym (drop-drop (length part) from xs) ∙ ap (drop (length part)) known
      ∙ drop-append_seam part rest,
)

-- what is wanted where an alt is the first of which this many conditions are
pub first_here : (least : ℕ) (wants : List Bool) (alts : List (List Bool)) → (count_of wants == least) ≡ true
    → of_first least (wants ∷ alts) ≡ wants ++ flat_map none_of alts
first_here least wants alts is =
    ap (λ b. if b then wants ++ flat_map none_of alts else none_of wants ++ of_first least alts) is

-- and where it is not
pub first_later : (least : ℕ) (wants : List Bool) (alts : List (List Bool)) → (count_of wants == least) ≡ false
    → of_first least (wants ∷ alts) ≡ none_of wants ++ of_first least alts
first_later least wants alts is =
    ap (λ b. if b then wants ++ flat_map none_of alts else none_of wants ++ of_first least alts) is

-- how many of two lists are so
pub count_of-append : (xs ys : List Bool) → count_of (xs ++ ys) ≡ count_of xs + count_of ys
count_of-append [] ys = omega arith
count_of-append (true ∷ xs) ys = omega (arith, count_of-append xs ys)
count_of-append (false ∷ xs) ys = omega (arith, count_of-append xs ys)

-- where nothing is wanted of a group, none of its conditions is
count_none : (wants : List Bool) → count_of (none_of wants) ≡ 0
count_none [] = refl
count_none (wanted ∷ wants) = count_none wants

-- nor where nothing is wanted of several
count_nones : (alts : List (List Bool)) → count_of (flat_map none_of alts) ≡ 0
count_nones [] = refl
count_nones (wants ∷ alts) =
    count_of-append (none_of wants) (flat_map none_of alts) ∙ ap₂ (λ m n. m + n) (count_none wants) (count_nones alts)

-- of the first alt of which this many conditions are wanted this many are
count_here : (fewest : ℕ) (wants : List Bool) (alts : List (List Bool)) → count_of wants ≡ fewest
    → count_of (wants ++ flat_map none_of alts) ≡ fewest
count_here fewest wants alts is = omega (arith, count_of-append wants (flat_map none_of alts), count_nones alts, is)

-- of the first alt of which the fewest are wanted the fewest are, where that holds of the others
count_more : (least : ℕ) (wants : List Bool) (alts : List (List Bool)) (equal : Bool)
    → (count_of wants == least) ≡ equal
    → (equal ≡ false → count_of (of_first least alts) ≡ least) → count_of (of_first least (wants ∷ alts)) ≡ least
count_more least wants alts true e others =
    ap (λ b. count_of (if b then wants ++ flat_map none_of alts else none_of wants ++ of_first least alts)) e
    ∙ count_here least wants alts (grind (arith, common_steps, e))
count_more least wants alts false e others =
    ap (λ b. count_of (if b then wants ++ flat_map none_of alts else none_of wants ++ of_first least alts)) e
    ∙ count_of-append (none_of wants) (of_first least alts)
    ∙ omega (arith, count_none wants, others refl)

-- the same, where there are no more conditions than there may be
count_first : (least : ℕ) (first : GroupAccount) (alts : List GroupAccount) → size_of (first ∷ alts) < 2 ^ 64
    → least ≡ fewest_of (wants_by (first ∷ alts)) → count_of (of_first least (wants_by (first ∷ alts))) ≡ least
count_first least first [] few is =
    count_more least first.wants.items [] (count_of first.wants.items == least) refl
    (λ other. absurd (grind (arith, common_steps, other, is, count_of-le first.wants.items, size_more first [])))
count_first least first (second ∷ alts) few is =
    count_more least first.wants.items (wants_by (second ∷ alts)) (count_of first.wants.items == least) refl
    (λ other. count_first least second alts
    (omega (arith, few, size_more first (second ∷ alts)))
    (grind (arith, common_steps, other, is)))

-- how many are wanted of the conditions of the alts, where there is one
pub count_alts : (least : ℕ) (alts : List GroupAccount) → 0 < length alts → size_of alts < 2 ^ 64
    → least ≡ fewest_of (wants_by alts) → count_of (of_first (fewest_of (wants_by alts)) (wants_by alts)) ≡ least
count_alts least [] some few is = absurd (omega (arith, some))
count_alts least (first ∷ alts) some few is =
    ap (λ n. count_of (of_first n (wants_by (first ∷ alts)))) (sym is) ∙ count_first least first alts few is

-- the fewest are no more than there are conditions
pub fewest_few : (alts : List GroupAccount) → 0 < length alts → fewest_of (wants_by alts) ≤ size_of alts
fewest_few [] some = absurd (omega (arith, some))
fewest_few (first ∷ alts) some = grind (arith, common_steps, count_of-le first.wants.items, size_more first alts)
