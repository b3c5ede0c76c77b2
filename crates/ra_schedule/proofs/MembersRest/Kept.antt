-- Tests and values that were judged to keep all but free hits.
use Rattle.std.proofs.Common.{◌≡◌, ℕ, suc, ◌+◌, ◌<◌, Bool, true, false, List, [], ◌∷◌, ◌++◌, length, take, drop, map}
use Rattle.std.proofs.Common.{sum_by, slice_index, slice_index_or, zero-add, refl, sym, ap, ◌∙◌, arith, length-drop}
use Rattle.std.proofs.Common.{subst}
use Rattle.std.specs.List.{range_with_len}
use Rattle.std.proofs.lemmas.Bool.{and_from}
use Rattle.std.proofs.lemmas.List.{get_or-map, get_or-take, get_or-drop, get_or_append_left, get_or-append-add}
use Rattle.std.proofs.lemmas.List.{length-map}
use Rattle.std.proofs.lemmas.List.FromFn.{length-range_with_len, get_or-range_with_len}
use Rattle.std.proofs.lemmas.List.Sums.{AllPass-from_list_all, list_all-from_AllPass, sum_by-cons}
use Rattle.ra_condition.specs.declared.condition.Condition.{Condition}
use Rattle.ra_condition.specs.Chains.{places}
use Rattle.ra_condition.specs.Contents.{TriggerContents, PartContents, condition_at, counted_in, groups_of}
use Rattle.ra_condition.specs.Contents.{no_condition, trigger_hits, value_hits}
use Rattle.ra_group.specs.declared.form.Form.{Form}
use Rattle.ra_group.specs.declared.form.Form.TheVariants.{InTrigger, InValue}
use Rattle.ra_schedule.specs.Counted.{all_keep_by, free_in, keeps_by}
use Rattle.ra_schedule.specs.Groups.{all_keep, groups_keep, is_free}
use Rattle.ra_schedule.specs.Owing.{TestsKeep, ValuesKeep}
use Rattle.ra_schedule.proofs.MembersRest.Counted.{keeps_place}
use Rattle.ra_schedule.proofs.Resting.Kept.{keeps_at}
use Rattle.ra_value.specs.Steps.{ValueKept}

-- the hits at each place stay, or are free and one more
abbrev KeepAt : (free : List Bool) → (before after : List ℕ) → Type 0
KeepAt free before after =
    (j : ℕ) → j < length after
    → keeps_by (slice_index_or free j false) (slice_index before j) (slice_index after j) ≡ true

keep_at : (free : List Bool) (before after : List ℕ) → all_keep_by free before after ≡ true → KeepAt free before after
keep_at free before after keep j l =
    sym (ap (keeps_place free before after) (get_or-range_with_len 0 (length after) j 0 l ∙ zero-add j))
    ∙ AllPass-from_list_all (keeps_place free before after) (range_with_len 0 (length after)) keep j
    0 (omega (arith, l, length-range_with_len 0 (length after)))

-- groups side by side keep their hits, or count, where the bits of free conditions say so
module _ (form : Form) where
  group_keeps : (cs : List Condition) (more : List Bool) (before after : List ℕ)
      → ((j : ℕ) → j < length cs → keeps_by (slice_index_or (map (is_free form) cs ++ more) j false)
      (slice_index before j) (slice_index after j) ≡ true)
      → all_keep form cs (take (length cs) before) (take (length cs) after) ≡ true
  group_keeps cs more before after at =
      let n = length cs in
      list_all-from_AllPass (keeps_at form cs (take n before) (take n after)) (places cs)
      (λ k d l.
      let within : k < n = omega (arith, l, length-range_with_len 0 n) in
      let free : slice_index_or (map (is_free form) cs ++ more) k false ≡ is_free form (condition_at cs k) =
      get_or_append_left (map (is_free form) cs) more false k (omega (arith, within, length-map cs (is_free form)))
      ∙ get_or-map (is_free form) cs k no_condition false within in
      ap (keeps_at form cs (take n before) (take n after)) (get_or-range_with_len 0 n k d within ∙ zero-add k)
      ∙ (λ i. keeps_by (sym free i) (get_or-take n before k 0 within i) (get_or-take n after k 0 within i))
      ∙ at k within)

  groups_kept : (gs : List (List Condition)) (before after : List ℕ) → length after ≡ sum_by length
      gs → KeepAt (free_in form gs) before after → groups_keep form gs before after ≡ true
  groups_kept [] before after long at = refl
  groups_kept (cs ∷ gs) before after long at =
      let n = length cs in
      let whole : length after ≡ n + sum_by length gs = long ∙ sum_by-cons length cs gs in
      and_from (all_keep form cs (take n before) (take n after)) (groups_keep form gs (drop n before) (drop n after))
      (group_keeps cs (free_in form gs) before after (λ j l. at j (omega (arith, l, whole))))
      (groups_kept gs (drop n before) (drop n after) (length-drop n after ∙ omega (arith, whole))
      (λ j l.
      let most : n + j < length after = omega (arith, l, length-drop n after) in
      let free : slice_index_or (map (is_free form) cs ++ free_in form gs) (n + j) false
      ≡ slice_index_or (free_in form gs) j false =
      ap (λ m. slice_index_or (map (is_free form) cs ++ free_in form gs) (m + j) false)
      (sym (length-map cs (is_free form)))
      ∙ get_or-append-add (map (is_free form) cs) (free_in form gs) j false in
      (λ i. keeps_by (sym free i) (get_or-drop n before j 0 i) (get_or-drop n after j 0 i))
      ∙ at (n + j) most))

heads : {A : Type 0} (x y : A) (xs ys : List A) → x ∷ xs ≡ y ∷ ys → x ≡ y
heads x y xs ys same = cc

tails : {A : Type 0} (x y : A) (xs ys : List A) → x ∷ xs ≡ y ∷ ys → xs ≡ ys
tails x y xs ys same = cc

none : {A : Type 0} (x : A) (xs : List A) → x ∷ xs ≡ [] → ⊥
none x xs same = cc

-- each row passes
abbrev RowsPass : (free : List (List Bool)) → (olds news : List (List ℕ)) → Type 0
RowsPass free olds news =
    (k : ℕ) → k < length news → all_keep_by (slice_index_or free k []) (slice_index_or olds k [])
    (slice_index_or news k []) ≡ true

abbrev pub free_test : TriggerContents → List Bool
free_test t = free_in InTrigger (groups_of t)

-- tests that were judged to keep
pub tests_keep : (tests : List TriggerContents) (free : List (List Bool))
    (olds news : List (List ℕ)) → free ≡ map free_test tests
    → length olds ≡ length news → map length news ≡ map trigger_hits tests → RowsPass free olds news
    → TestsKeep tests olds news
tests_keep [] free [] [] is many long pass = tt
tests_keep [] free (old ∷ olds) [] is many long pass = absurd (omega (arith, many))
tests_keep [] free olds (new ∷ news) is many long pass = absurd (none (length new) (map length news) long)
tests_keep (t ∷ tests) free olds [] is many long pass =
    absurd (none (trigger_hits t) (map trigger_hits tests) (sym long))
tests_keep (t ∷ tests) free [] (new ∷ news) is many long pass = absurd (omega (arith, many))
tests_keep (t ∷ tests) [] (old ∷ olds) (new ∷ news) is many long pass =
    absurd (none (free_test t) (map free_test tests) (sym is))
tests_keep (t ∷ tests) (f ∷ free) (old ∷ olds) (new ∷ news) is many long pass =
    let first : f ≡ free_test t = heads f (free_test t) free (map free_test tests) is in (
      groups_kept InTrigger (groups_of t) old new
          (heads (length new) (trigger_hits t) (map length news) (map trigger_hits tests) long)
          (subst (λ xs. KeepAt xs old new) first (keep_at f old new (pass 0 (omega arith)))),
      tests_keep tests free olds news (tails f (free_test t) free (map free_test tests) is) (omega (arith, many))
          (tails (length new) (trigger_hits t) (map length news) (map trigger_hits tests) long)
          (λ k l. pass (suc k) (omega (arith, l))),
    )

abbrev pub free_value : List PartContents → List Bool
free_value parts = free_in InValue (map counted_in parts)

pub counted_sum : (parts : List PartContents) → value_hits parts ≡ sum_by length (map counted_in parts)
counted_sum [] = refl
counted_sum (part ∷ parts) =
    sum_by-cons (λ (p : PartContents). length (counted_in p)) part parts
    ∙ ap (λ m. length (counted_in part) + m) (counted_sum parts)
    ∙ sym (sum_by-cons length (counted_in part) (map counted_in parts))

abbrev hits_of : List ValueKept → List (List ℕ)
hits_of = map (λ (v : ValueKept). v.hits)

abbrev numbers_of : List ValueKept → List (List ℕ)
numbers_of = map (λ (v : ValueKept). v.numbers)

-- values that were judged to keep
pub values_keep : (values : List (List PartContents)) (free : List (List Bool))
    (olds news : List ValueKept) → free ≡ map free_value values
    → length olds ≡ length news → map length (hits_of news) ≡ map value_hits values → numbers_of olds ≡ numbers_of news
    → RowsPass free (hits_of olds) (hits_of news) → ValuesKeep values olds news
values_keep [] free [] [] is many long numbers pass = tt
values_keep [] free (old ∷ olds) [] is many long numbers pass = absurd (omega (arith, many))
values_keep [] free olds (new ∷ news) is many long numbers pass =
    absurd (none (length new.hits) (map length (hits_of news)) long)
values_keep (v ∷ values) free olds [] is many long numbers pass =
    absurd (none (value_hits v) (map value_hits values) (sym long))
values_keep (v ∷ values) free [] (new ∷ news) is many long numbers pass = absurd (omega (arith, many))
values_keep (v ∷ values) [] (old ∷ olds) (new ∷ news) is many long numbers pass =
    absurd (none (free_value v) (map free_value values) (sym is))
values_keep (v ∷ values) (f ∷ free) (old ∷ olds) (new ∷ news) is many long numbers pass =
    let first : f ≡ free_value v = heads f (free_value v) free (map free_value values) is in
    let hits = groups_kept InValue (map counted_in v) old.hits new.hits
    (heads (length new.hits) (value_hits v) (map length (hits_of news)) (map value_hits values) long ∙ counted_sum v)
    (subst (λ xs. KeepAt xs old.hits new.hits) first (keep_at f old.hits new.hits (pass 0 (omega arith)))) in (
      record { hits = hits; numbers = sym (heads old.numbers new.numbers (numbers_of olds) (numbers_of news) numbers) },
      values_keep values free olds news (tails f (free_value v) free (map free_value values) is) (omega (arith, many))
          (tails (length new.hits) (value_hits v) (map length (hits_of news)) (map value_hits values) long)
          (tails old.numbers new.numbers (numbers_of olds) (numbers_of news) numbers)
          (λ k l. pass (suc k) (omega (arith, l))),
    )
