-- What stands on rows that are made of more entries.
use Rattle.std.proofs.Common.{◌≡◌, ℕ, zero, suc, ◌+◌, ◌-◌, ◌<◌, ◌⊎◌, inl, inr, List, [], ◌∷◌, ◌++◌, length, get_or}
use Rattle.std.proofs.Common.{refl, sym, subst, ap, ◌∙◌, arith, length-append}
use Rattle.std.proofs.lemmas.List.{get_or_append_left, get_or-append-add}
use Rattle.std.proofs.lemmas.Bool.{cases_eq, cases_lt}
use Rattle.ra_links.specs.declared.entry.Entry.{Entry}
use Rattle.ra_links.specs.FlatRows.{IsListed, entry_at, numbers_on}
use Rattle.ra_links.proofs.Entries.{on_here, on_other}

-- what stands in one of two lists stands in both together, and nothing else does
pub listed_front : (n : ℕ) (xs ys : List ℕ) → IsListed n xs → IsListed n (xs ++ ys)
listed_front n xs ys is = record {
  place = is.place;
  within = omega (arith, is.within, length-append xs ys);
  here = get_or_append_left xs ys 0 is.place is.within ∙ is.here;
}

pub listed_back : (n : ℕ) (xs ys : List ℕ) → IsListed n ys → IsListed n (xs ++ ys)
listed_back n xs ys is = record {
  place = length xs + is.place;
  within = omega (arith, is.within, length-append xs ys);
  here = get_or-append-add xs ys is.place 0 ∙ is.here;
}

pub listed_either : (n : ℕ) (xs ys : List ℕ) → IsListed n (xs ++ ys) → IsListed n xs ⊎ IsListed n ys
listed_either n xs ys is = elim (cases_lt is.place (length xs)) [
  | inl less ↦ inl (record {
    place = is.place;
    within = less;
    here = sym (get_or_append_left xs ys 0 is.place less) ∙ is.here;
  })
  | inr more ↦
      let there : is.place ≡ length xs + (is.place - length xs) = omega (arith, more) in
      inr (record {
        place = is.place - length xs;
        within = omega (arith, is.within, length-append xs ys, more);
        here = sym (ap (λ i. get_or (xs ++ ys) i 0) there ∙ get_or-append-add xs ys (is.place - length xs) 0) ∙ is.here;
      })
]

pub listed_one : (n : ℕ) → IsListed n (n ∷ [])
listed_one n = record { place = 0; within = omega arith; here = refl }

pub is_one : (n m : ℕ) → IsListed n (m ∷ []) → n ≡ m
is_one n m is =
    let first : is.place ≡ 0 = omega (arith, is.within) in
    sym is.here ∙ ap (λ i. get_or (m ∷ []) i 0) first

pub none_listed : (n : ℕ) → IsListed n [] → ⊥
none_listed n is = absurd (omega (arith, is.within))

-- the numbers of some entries and then of others
pub on_both : (old more : List Entry) (row : ℕ)
    → numbers_on row (old ++ more) ≡ numbers_on row old ++ numbers_on row more
on_both [] more row = refl
on_both (entry ∷ old) more row = elim (cases_eq entry.row row) [
  | inl here ↦
      on_here entry (old ++ more) row here ∙ ap (λ ns. entry.number ∷ ns) (on_both old more row)
      ∙ ap (λ ns. ns ++ numbers_on row more) (sym (on_here entry old row here))
  | inr apart ↦
      on_other entry (old ++ more) row apart ∙ on_both old more row
      ∙ ap (λ ns. ns ++ numbers_on row more) (sym (on_other entry old row apart))
]

module _ (old more : List Entry) (n row : ℕ) where
  pub listed_old : IsListed n (numbers_on row old) → IsListed n (numbers_on row (old ++ more))
  listed_old is =
      subst (IsListed n) (sym (on_both old more row)) (listed_front n (numbers_on row old) (numbers_on row more) is)

  pub listed_new : IsListed n (numbers_on row more) → IsListed n (numbers_on row (old ++ more))
  listed_new is =
      subst (IsListed n) (sym (on_both old more row)) (listed_back n (numbers_on row old) (numbers_on row more) is)

  pub listed_in : IsListed n (numbers_on row (old ++ more))
      → IsListed n (numbers_on row old) ⊎ IsListed n (numbers_on row more)
  listed_in is =
      listed_either n (numbers_on row old) (numbers_on row more) (subst (IsListed n) (on_both old more row) is)

-- an entry puts its number on its row
pub listed_here : (entry : Entry) (row : ℕ) → row ≡ entry.row → IsListed entry.number (numbers_on row (entry ∷ []))
listed_here entry row here =
    subst (IsListed entry.number) (sym (on_here entry [] row (sym here))) (listed_one entry.number)

-- and on no other row
pub is_here : (entry : Entry) (n row : ℕ) → IsListed n (numbers_on row (entry ∷ []))
    → (row ≡ entry.row) × (n ≡ entry.number)
is_here entry n row is = elim (cases_eq entry.row row) [
  | inl here ↦ (sym here, is_one n entry.number (subst (IsListed n) (on_here entry [] row here) is))
  | inr apart ↦ absurd (none_listed n (subst (IsListed n) (on_other entry [] row apart) is))
]

-- what holds of each entry of two lists holds of each of both
pub each_both : (P : Entry → Type 0) (old more : List Entry) → ((k : ℕ) → k < length old → P (entry_at old k))
    → ((k : ℕ) → k < length more → P (entry_at more k)) → (k : ℕ) → k < length (old ++ more)
    → P (entry_at (old ++ more) k)
each_both P [] more olds mores k below = mores k below
each_both P (entry ∷ old) more olds mores zero below = olds 0 (omega arith)
each_both P (entry ∷ old) more olds mores (suc k) below =
    each_both P old more (λ j less. olds (suc j) (omega (arith, less))) mores k (omega (arith, below))

pub each_one : (P : Entry → Type 0) (entry : Entry) → P entry → (k : ℕ) → k < length (entry ∷ [])
    → P (entry_at (entry ∷ []) k)
each_one P entry here zero below = here
each_one P entry here (suc k) below = absurd (omega (arith, below))

-- a number that stands on a row is that of an entry
pub number_of_one : (P : ℕ → Type 0) (entries : List Entry)
    → ((k : ℕ) → k < length entries → P (entry_at entries k).number) → (n row : ℕ)
    → IsListed n (numbers_on row entries) → P n
number_of_one P [] each n row is = absurd (none_listed n is)
number_of_one P (entry ∷ entries) each n row is = elim (listed_in (entry ∷ []) entries n row is) [
  | inl first ↦ subst P (sym (is_here entry n row first).1) (each 0 (omega arith))
  | inr later ↦ number_of_one P entries (λ j less. each (suc j) (omega (arith, less))) n row later
]
