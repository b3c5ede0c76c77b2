-- Tests and values that step, and rows that are cut for them, keep numbers of 32 bits.
use Rattle.std.proofs.Common.{ℕ, List, [], ◌∷◌, ◌++◌, length, map, drop, lit<}
use Rattle.std.specs.List.{AllByRecursion, concat}
use Rattle.ra_condition.specs.declared.condition.Condition.{Condition}
use Rattle.ra_condition.specs.Contents.{TriggerContents, groups_of, PartContents, Legacy, Grouped, counted_in}
use Rattle.ra_condition.specs.Contents.{value_hits}
use Rattle.ra_condition.specs.Chains.{places}
use Rattle.ra_condition.specs.Spelled.{IsTerm}
use Rattle.ra_memory.specs.Image.{History, AreImages}
use Rattle.ra_chain.specs.Elaboration.{left_of, terms_tree}
use Rattle.ra_memref.specs.Values.{Start}
use Rattle.ra_value.specs.Steps.{ValueKept, no_value}
use Rattle.ra_member.specs.Frames.{left_at, lefts_at, truths_at, sum_at, value_next}
use Rattle.ra_member.specs.Members.{MemberContents, MemberKept, no_values, tests_next, values_next, hit_lengths}
use Rattle.ra_member.specs.Members.{number_lengths, saved_hits, saved_numbers, values_of, opened_member}
use Rattle.ra_member.specs.Rows.{rows_by}
use Rattle.ra_meaning.proofs.Each.{each_append, each_take, each_drop, each_replicate, each_map, each_map_of}
use Rattle.ra_meaning.proofs.Each.{each_flat_map}
use Rattle.ra_meaning.proofs.Words.Trees.{IsWord, AreStartWords, value_word}
use Rattle.ra_meaning.proofs.Spelled.Trees.{FitsGroup, left_words, terms_words}
use Rattle.ra_meaning.proofs.Words.Groups.{AreAllWords, truth_words, AreValueWords, value_words}

-- the operands of a trigger are of 32 bits
abbrev pub FitsTrigger : TriggerContents → Type 0
FitsTrigger t = AllByRecursion FitsGroup (groups_of t)

-- the operands of a part are of 32 bits
abbrev pub FitsPart : PartContents → Type 0
FitsPart (Legacy terms) = AllByRecursion IsTerm terms
FitsPart (Grouped cs) = FitsGroup cs

-- the operands of a value are of 32 bits
abbrev pub FitsValue : List PartContents → Type 0
FitsValue parts = AllByRecursion FitsPart parts

-- the operands of a member are of 32 bits
pub record FitsMember (m : MemberContents) : Type 0 where
  pub tests : AllByRecursion FitsTrigger m.tests
  pub values : AllByRecursion FitsValue m.values

-- what is kept of a member is of 32 bits
pub record AreMemberWords (kept : MemberKept) : Type 0 where
  pub tests : AllByRecursion AreAllWords kept.tests
  pub values : AllByRecursion AreValueWords kept.values

-- numbers that are cut into rows
rows_words : (lengths row : List ℕ) → AreAllWords row → AllByRecursion AreAllWords (rows_by lengths row)
rows_words [] row words = tt
rows_words (n ∷ lengths) row words =
    (each_take IsWord n row words, rows_words lengths (drop n row) (each_drop IsWord n row words))

values_of_words : (hits numbers : List (List ℕ)) → AllByRecursion AreAllWords hits
    → AllByRecursion AreAllWords numbers → AllByRecursion AreValueWords (values_of hits numbers)
values_of_words [] numbers words more = tt
values_of_words (h ∷ hits) [] words more = tt
values_of_words (h ∷ hits) (n ∷ numbers) words more =
    (record { hits = words.0; numbers = more.0 }, values_of_words hits numbers words.1 more.1)

-- a file's numbers, cut for a member
pub opened_words : (m : MemberContents) (hits numbers : List ℕ) → AreAllWords hits
    → AreAllWords numbers → AreMemberWords (opened_member m hits numbers)
opened_words m hits numbers words more =
    let rows = rows_by (hit_lengths m) hits in
    let are = rows_words (hit_lengths m) hits words in
    record {
      tests = each_take AreAllWords (length m.tests) rows are;
      values = values_of_words (drop (length m.tests) rows) (rows_by (number_lengths m) numbers)
          (each_drop AreAllWords (length m.tests) rows are)
          (rows_words (number_lengths m) numbers more);
    }

-- and laid out in rows again
joined_words : (rows : List (List ℕ)) → AllByRecursion AreAllWords rows → AreAllWords (concat rows)
joined_words [] words = tt
joined_words (row ∷ rows) words = each_append IsWord row (concat rows) words.0 (joined_words rows words.1)

pub saved_words : (kept : MemberKept) → AreMemberWords kept → AreAllWords (saved_hits kept)
    × AreAllWords (saved_numbers kept)
saved_words kept words =
    let hits = map (λ (v : ValueKept). v.hits) kept.values in
    let numbers = map (λ (v : ValueKept). v.numbers) kept.values in (
      joined_words (kept.tests ++ hits) (each_append AreAllWords kept.tests hits words.tests
          (each_map_of AreAllWords AreValueWords (λ v. v.hits)
          (λ v each. each.hits) kept.values words.values)),
      joined_words numbers (each_map_of AreAllWords AreValueWords (λ v. v.numbers)
          (λ v each. each.numbers) kept.values words.values),
    )

pub no_values_words : (values : List (List PartContents)) → AllByRecursion AreValueWords (no_values values)
no_values_words values =
    each_map AreValueWords no_value (λ parts. record {
      hits = each_replicate IsWord (value_hits parts) 0 (lit< tt);
      numbers = each_replicate IsWord (length parts) 0 (lit< tt);
    }) values

counted_fits : (part : PartContents) → FitsPart part → FitsGroup (counted_in part)
counted_fits (Legacy terms) fits = tt
counted_fits (Grouped cs) fits = fits

module _ (start : Start) (opened_words : AreStartWords start) (h : History) (images : AreImages h) where
  pub lefts_words : (groups : List (List Condition)) → AllByRecursion FitsGroup groups
      → AreAllWords (lefts_at start h groups)
  lefts_words groups fits =
      each_flat_map IsWord FitsGroup (λ cs. map (left_at start h cs) (places cs))
      (λ cs group. each_map IsWord (left_at start h cs) (λ j. value_word start opened_words
      (left_of cs j) (left_words cs group j) h images) (places cs)) groups fits

  sum_word : (part : PartContents) → FitsPart part → IsWord (sum_at start h part)
  sum_word (Legacy terms) fits = value_word start opened_words (terms_tree terms) (terms_words terms fits) h images
  sum_word (Grouped cs) fits = lit< tt

  next_value_words : (parts : List PartContents) → FitsValue parts → (old : ValueKept)
      → AreValueWords old → AreValueWords (value_next start parts h old)
  next_value_words parts fits old words =
      let groups = map counted_in parts in
      let lefts = lefts_words groups (each_map_of FitsGroup FitsPart counted_in counted_fits parts fits) in
      let sums = each_map_of IsWord FitsPart (sum_at start h) sum_word parts fits in
      value_words parts (truths_at start h groups) (lefts_at start h groups)
      (map (sum_at start h) parts) old lefts sums words

  pub tests_words : (tests : List TriggerContents) → AllByRecursion FitsTrigger tests
      → (hits : List (List ℕ)) → AllByRecursion AreAllWords hits
      → AllByRecursion AreAllWords (tests_next start tests h hits)
  tests_words [] fits hits words = tt
  tests_words (t ∷ tests) fits [] words = tt
  tests_words (t ∷ tests) fits (k ∷ hits) words = (
    truth_words t (truths_at start h (groups_of t)) (lefts_at start h (groups_of t))
        (lefts_words (groups_of t) fits.0) k words.0,
    tests_words tests fits.1 hits words.1,
  )

  pub values_words : (values : List (List PartContents)) → AllByRecursion FitsValue values
      → (kept : List ValueKept) → AllByRecursion AreValueWords kept
      → AllByRecursion AreValueWords (values_next start values h kept)
  values_words [] fits kept words = tt
  values_words (v ∷ values) fits [] words = tt
  values_words (v ∷ values) fits (k ∷ kept) words =
      (next_value_words v fits.0 k words.0, values_words values fits.1 kept words.1)
