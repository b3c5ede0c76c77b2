-- Elements whose numbers are put back one behind the other keep the words of one row.
use Rattle.std.proofs.Common.{◌≡◌, ℕ, suc, ◌+◌, ◌*◌, ◌<◌, ◌≤◌, List, [], ◌∷◌, ◌++◌, length, map, take, drop, get_or}
use Rattle.std.proofs.Common.{set, sym, ◌∙◌, ap, ap₂, arith, add-one, length-append, take-append-drop}
use Rattle.std.specs.List.{flat_map}
use Rattle.std.proofs.Math.Seq.{drop-cons}
use Rattle.std.proofs.lemmas.List.{map-append, take_more, take_more_set, take_all, get_or-drop, get_or_default}
use Rattle.std.proofs.lemmas.List.{drop-set-lt}
use Rattle.std.proofs.lemmas.List.Concat.{flat_map-append}
use Rattle.ra_text.specs.Words.{words_at}
use Rattle.ra_member.proofs.PlanLemmas.{one_more}
use Rattle.ra_text.proofs.Rows.{words_row}

-- the elements before a place keep the words from one place on, up to another
pub record IsRowBack {A : Type 0} (numbers : A → List ℕ) (bytes : List ℕ) (from at k : ℕ)
    (olds runs : List A) : Type 0 where
  pub at_too : at ≡ from + 4 * length (flat_map numbers (take k olds))
  pub row : flat_map numbers (take k runs) ≡ words_at bytes from (length (flat_map numbers (take k olds)))

-- what follows the same is the same
same_at : {A : Type 0} (runs olds : List A) (k : ℕ) (d : A) → drop k runs ≡ drop k olds
    → get_or runs k d ≡ get_or olds k d
same_at runs olds k d rest =
    let here : k ≡ k + 0 = omega arith in
    ap (λ n. get_or runs n d) here ∙ sym (get_or-drop k runs 0 d) ∙ ap (λ xs. get_or xs 0 d) rest
    ∙ get_or-drop k olds 0 d ∙ ap (λ n. get_or olds n d) (sym here)

-- the element at a place is put back, and all before it were
module _ {A : Type 0} (k : ℕ) (olds runs : List A) (d : A) (within : k < length olds)
    (within_too : k < length runs) (rest : drop k runs ≡ drop k olds) where
  abbrev run : A
  run = get_or runs k d

  next : take (k + 1) olds ≡ take k olds ++ run ∷ []
  next =
      let same : run ≡ get_or olds k run = same_at runs olds k d rest ∙ get_or_default olds k d run within in
      take_more olds k run within ∙ ap (λ x. take k olds ++ x ∷ []) (sym same)

  pub rest_next : (new : A) → drop (k + 1) (set runs k new) ≡ drop (k + 1) olds
  rest_next new =
      let both : run ∷ drop (suc k) runs ≡ get_or olds k run ∷ drop (suc k) olds =
      ap (λ x. x ∷ drop (suc k) runs) (get_or_default runs k d run within_too)
      ∙ sym (drop-cons runs k run within_too) ∙ rest ∙ drop-cons olds k run within in
      let later : drop (suc k) runs ≡ drop (suc k) olds = cc in
      drop-set-lt (k + 1) runs k new (omega arith) ∙ rw add-one later

  -- what is said of each of those before the place, and of the new one
  pub mapped_next : {B : Type 0} (says said : A → B) (new : A) → says new ≡ said run
      → map says (take k runs) ≡ map said (take k olds) → map says (take (k + 1) (set runs k new))
      ≡ map said (take (k + 1) olds)
  mapped_next says said new one before =
      ap (map says) (take_more_set runs k new within_too)
      ∙ map-append says (take k runs) (new ∷ [])
      ∙ ap₂ (λ xs x. xs ++ x ∷ []) before one
      ∙ sym (map-append said (take k olds) (run ∷ []))
      ∙ ap (map said) (sym next)

  module _ (numbers : A → List ℕ) where
    length_next : length (flat_map numbers (take (k + 1) olds))
        ≡ length (flat_map numbers (take k olds)) + length (numbers run)
    length_next =
        ap (λ xs. length (flat_map numbers xs)) next ∙ ap length (one_more numbers
        (take k olds) run) ∙ length-append (flat_map numbers (take k olds)) (numbers run)

    row_within : length (flat_map numbers (take k olds)) + length (numbers run) ≤ length (flat_map numbers olds)
    row_within =
        let whole : flat_map numbers olds ≡ flat_map numbers (take (k + 1) olds)
        ++ flat_map numbers (drop (k + 1) olds) = ap (flat_map numbers) (sym (take-append-drop
        (k + 1) olds)) ∙ flat_map-append numbers (take (k + 1) olds) (drop (k + 1) olds) in
        omega (
          arith,
          ap length whole,
          length-append (flat_map numbers (take (k + 1) olds)) (flat_map numbers (drop (k + 1) olds)),
          length_next,
        )

    module _ (bytes : List ℕ) (from at : ℕ) (back : IsRowBack numbers bytes from at k olds runs) where
      pub within_bytes : (most : ℕ) → from + 4 * length (flat_map numbers olds) ≤ most
          → at + 4 * length (numbers run) ≤ most
      within_bytes most long = omega (arith, row_within, back.at_too)

      pub row_next : (new : A) (then : ℕ) → numbers new ≡ words_at bytes at (length (numbers run))
          → then ≡ at + 4 * length (numbers run) → IsRowBack numbers bytes from
          then (k + 1) olds (set runs k new)
      row_next new then one is =
          let n = length (flat_map numbers (take k olds)) in
          let m = length (numbers run) in
          record {
            at_too = omega (arith, length_next, back.at_too, is);
            row =
                ap (flat_map numbers) (take_more_set runs k new within_too)
                ∙ one_more numbers (take k runs) new
                ∙ ap₂ (λ xs ys. xs ++ ys) back.row one
                ∙ words_row bytes from at n m back.at_too
                ∙ ap (words_at bytes from) (sym length_next);
          }

-- before the first element and behind the last
module _ {A : Type 0} (numbers : A → List ℕ) (bytes : List ℕ) (from : ℕ) where
  pub row_ends : (at k : ℕ) (olds runs : List A) → length olds ≤ k → length runs ≤ k
      → IsRowBack numbers bytes from at k olds runs → (flat_map numbers runs ≡ words_at bytes from
      (length (flat_map numbers olds))) × (at ≡ from + 4 * length (flat_map numbers olds))
  row_ends at k olds runs enough enough_too back =
      (rw (take_all k olds enough, take_all k runs enough_too) at back.row, rw (take_all k olds enough) at back.at_too)
