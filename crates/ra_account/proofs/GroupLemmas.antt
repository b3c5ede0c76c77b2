-- The accounts of a group's conditions with one frame more.
use Rattle.std.proofs.Common.{◌≡◌, ℕ, ◌+◌, ◌-◌, ◌<◌, ◌≤◌, [], ◌∷◌, ◌++◌, inl, inr, below_more, set, get_or-set_same}
use Rattle.std.proofs.Common.{get_or-set_other, length-append, length-drop, Bool, false, List, length, map, take, drop}
use Rattle.std.proofs.Common.{sum_by, get_or, sym, ap, ◌∙◌, subst, arith}
use Rattle.std.proofs.lemmas.Bool.{cases_lt}
use Rattle.std.proofs.Math.ListN.{get_or-append}
use Rattle.std.proofs.Math.Seq.{get_or-append_seam}
use Rattle.std.proofs.lemmas.List.{get_or-map, length-map, length-take-le}
use Rattle.std.proofs.lemmas.List.Sums.{sum_by_more, sum_by_more_le}
use Rattle.std.proofs.lemmas.List.FromFn.{fill_by_all}
use Rattle.ra_condition.specs.declared.condition.Condition.{Condition}
use Rattle.ra_condition.specs.declared.group.Group.{Group}
use Rattle.ra_condition.specs.Contents.{group_contents}
use Rattle.ra_account.specs.declared.group_account.GroupAccount.{GroupAccount}
use Rattle.ra_account.specs.Facts.{wanted_at}
use Rattle.ra_account.specs.Groups.{AreGroupAccounts, GroupRow, IsGroupAccount, IsRowOf, cut_row, group_at, part_of}
use Rattle.ra_account.specs.Groups.{row_frame, start_at}
use Rattle.ra_account.specs.Groups.{wants_of}

-- the wants, where each is what the frame wants
pub wants_group : (cs : List Condition) (row : GroupRow) (wants : List Bool) → length wants ≡ length cs
    → ((j : ℕ) → j < length cs → get_or wants j false ≡ wanted_at (row_frame cs row) j) → wants ≡ wants_of cs row
wants_group cs row wants many same = fill_by_all (wanted_at (row_frame cs row)) wants (length cs) false many same

-- the group of a place, as the text has it
pub group_here : (groups : List Group) (k : ℕ) (g : Group) → k < length groups → g ≡ get_or groups k g
    → group_at (map group_contents groups) k ≡ group_contents g
group_here groups k g within is = get_or-map group_contents groups k g [] within ∙ ap group_contents (sym is)

-- the conditions of the next group start behind those of this one
pub start_more : (groups : List Group) (k : ℕ) (g : Group) → k < length groups → g ≡ get_or groups k g
    → start_at (map group_contents groups) (k + 1) ≡ start_at (map group_contents groups) k + length (group_contents g)
start_more groups k g within is =
    sum_by_more length (map group_contents groups) k [] (omega (arith, length-map groups group_contents))
    ∙ ap (λ cs. start_at (map group_contents groups) k + length cs) (group_here groups k g within is)

-- and end within those of all
pub end_within : (groups : List Group) (k : ℕ) (g : Group) → k < length groups → g ≡ get_or groups k g
    → start_at (map group_contents groups) k + length (group_contents g) ≤ sum_by length (map group_contents groups)
end_within groups k g within is =
    omega (
      arith,
      sum_by_more_le length (map group_contents groups) k []
          (omega (arith, length-map groups group_contents)),
      ap length (group_here groups k g within is),
    )

-- as many elements of a list as there are from a place on
cut_many : {A : Type 0} (xs : List A) (all count from : ℕ) → length xs ≡ all → from + count ≤ all
    → length (take count (drop from xs)) ≡ count
cut_many xs all count from many within = length-take-le count (drop from xs) (omega (arith, length-drop from xs))

-- the part up to a place has as many as are before it
pub whole_row : (count : ℕ) (r : GroupRow) → cut_row (count - 0) 0 r ≡ cut_row count 0 r
whole_row count r = (let whole : count - 0 ≡ count = omega arith in ap (λ n. cut_row n 0 r) whole)

-- a part of a row is a row
pub cut_fits : (all count many from : ℕ) (r part : GroupRow) → IsRowOf all r → part ≡ cut_row count from r
    → count ≡ many
    → from + many ≤ all → IsRowOf many part
cut_fits all count many from r part row is same within =
    let long : from + count ≤ all = omega (arith, same, within) in
    subst (λ (n : ℕ). IsRowOf n part) same
    (subst (λ (p : GroupRow). IsRowOf count p) (sym is) (record {
      truths_many = cut_many r.truths all count from row.truths_many long;
      lefts_many = cut_many r.lefts all count from row.lefts_many long;
      rights_many = cut_many r.rights all count from row.rights_many long;
      hits_many = cut_many r.hits all count from row.hits_many long;
    }))

-- the account of a group, where what was noted is the group's part of a row
pub noted_part : (cs cs' : List Condition) (size start start' count : ℕ) (row part : GroupRow) (earlier : List GroupRow)
    (old new : GroupAccount)
    → ((before : List GroupRow) → IsGroupAccount cs size before old → IsGroupAccount cs size (part ∷ before) new)
    → part ≡ cut_row count start row → cs' ≡ cs → start' ≡ start → count ≡ length cs
    → IsGroupAccount cs' size (map (part_of cs' start') earlier) old
    → IsGroupAccount cs' size (map (part_of cs' start') (row ∷ earlier)) new
noted_part cs cs' size start start' count row part earlier old new noted is same starts many was =
    subst (λ (xs : List Condition). IsGroupAccount xs size (map (part_of xs start') earlier) old
    → IsGroupAccount xs size (map (part_of xs start') (row ∷ earlier)) new) (sym same)
    (subst (λ (s : ℕ). IsGroupAccount cs size (map (part_of cs s) earlier) old
    → IsGroupAccount cs size (map (part_of cs s) (row ∷ earlier)) new) (sym starts)
    (λ before. subst (λ (r : GroupRow). IsGroupAccount cs size (r ∷ map (part_of cs start) earlier) new)
    (is ∙ ap (λ n. cut_row n start row) many) (noted (map (part_of cs start) earlier) before)))
    was

-- what is wanted of a group, where it is told by the group's part of a row
pub wants_part : (cs cs' : List Condition) (start start' count : ℕ) (row part : GroupRow) (wants : List Bool)
    → wants ≡ wants_of cs part → part ≡ cut_row count start row
    → cs' ≡ cs → start' ≡ start → count ≡ length cs → wants ≡ wants_of cs' (part_of cs' start' row)
wants_part cs cs' start start' count row part wants told is same starts many =
    told ∙ ap (wants_of cs) is
    ∙ (λ i. wants_of (sym same i) (cut_row ((many ∙ ap length (sym same)) i) (sym starts i) row))

-- what holds of each account so far, and of one more
pub each_pushed : {A : Type 0} (P : ℕ → A → Type 0) (accounts : List A) (next : A) (n : ℕ) → length accounts ≡ n
    → ((g : ℕ) → g < length accounts → (d : A) → P g (get_or accounts g d)) → P n next
    → (g : ℕ) → g < length (accounts ++ next ∷ []) → (d : A) → P g (get_or (accounts ++ next ∷ []) g d)
each_pushed {A} P accounts next n long known here = λ g below d.
    elim (cases_lt g (length accounts)) [
      | inl before ↦ subst (λ (a : A). P g a) (sym (get_or-append accounts (next ∷ []) d g before)) (known g before d)
      | inr last ↦
          (let is_last : length accounts ≡ g = omega (arith, length-append accounts (next ∷ [])) in
          subst (λ (k : ℕ). P k (get_or (accounts ++ next ∷ []) k d)) is_last
          (subst (λ (a : A). P (length accounts) a) (sym (get_or-append_seam accounts next [] d))
          (subst (λ (k : ℕ). P k next) (sym long) here)))
    ]

-- what holds of each account so far, and of one more that is written anew
pub each_set : {A : Type 0} (P : ℕ → A → Type 0) (olds : List A) (place : ℕ) (new : A) → place < length olds
    → ((g : ℕ) → g < place → (d : A) → P g (get_or olds g d)) → P place new
    → (g : ℕ) → g < place + 1 → (d : A) → P g (get_or (set olds place new) g d)
each_set {A} P olds place new within known here = below_more _ _
    (λ g below d. subst (λ (a : A). P g a) (sym (get_or-set_other olds place g new d (omega arith))) (known g below d))
    (λ d. subst (λ (a : A). P place a) (sym (get_or-set_same olds place new d within)) here)

-- what each value so far is, and one more that is written anew
pub each_told : {A : Type 0} (value : ℕ → A) (olds : List A) (place : ℕ) (d : A) {new : A}
    → ((j : ℕ) → j < place → get_or olds j d ≡ value j) → place < length olds → new ≡ value place
    → (j : ℕ) → j < place + 1 → get_or (set olds place new) j d ≡ value j
each_told value olds place d {new} known within here = below_more _ _
    (λ j below. get_or-set_other olds place j new d (omega arith) ∙ known j below)
    (get_or-set_same olds place new d within ∙ here)

-- the accounts of the alts of a trigger, where those of some groups are told
pub alts_told : (gs alts : List (List Condition)) (from start size : ℕ) (row : GroupRow) (rows : List GroupRow)
    (old new : List GroupAccount)
    → (AreGroupAccounts gs from size rows old → AreGroupAccounts gs from size (row ∷ rows) new) → gs ≡ alts
    → from ≡ start
    → AreGroupAccounts alts start size rows old → AreGroupAccounts alts start size (row ∷ rows) new
alts_told gs alts from start size row rows old new told same starts =
    subst (λ (s : ℕ). AreGroupAccounts alts s size rows old → AreGroupAccounts alts s size (row ∷ rows) new) starts
    (subst (λ (xs : List (List Condition)). AreGroupAccounts xs from size rows old
    → AreGroupAccounts xs from size (row ∷ rows) new) same told)
