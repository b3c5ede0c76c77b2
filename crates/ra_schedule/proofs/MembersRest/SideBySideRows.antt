-- Rows that stand beside what is kept, and a walk over both.
use Rattle.std.proofs.Common.{◌≡◌, ℕ, zero, suc, ◌+◌, ◌<◌, Bool, List, [], ◌∷◌, ◌++◌, length, map, take, drop, get_or}
use Rattle.std.proofs.Common.{set, zip, sym, ◌∙◌, ap, ap₂, subst, arith}
use Rattle.std.specs.List.{AllByRecursion}
use Rattle.std.proofs.lemmas.List.{map-append, take_more, take_more_set, get_or-drop, length-map, length-take-le}
use Rattle.ra_member.proofs.SideBySide.{zip_more}
use Rattle.ra_schedule.specs.Counted.{counted, counted_rows}

-- what follows the same is the same
pub same_at : {A : Type 0} (runs olds : List A) (k : ℕ) (d : A) → drop k runs ≡ drop k olds
    → get_or runs k d ≡ get_or olds k d
same_at runs olds k d rest =
    let here : k ≡ k + 0 = omega arith in
    ap (λ n. get_or runs n d) here ∙ sym (get_or-drop k runs 0 d) ∙ ap (λ xs. get_or xs 0 d) rest
    ∙ get_or-drop k olds 0 d ∙ ap (λ n. get_or olds n d) (sym here)

heads : (m n : ℕ) (ms ns : List ℕ) → m ∷ ms ≡ n ∷ ns → m ≡ n
heads m n ms ns same = cc

tails : (m n : ℕ) (ms ns : List ℕ) → m ∷ ms ≡ n ∷ ns → ms ≡ ns
tails m n ms ns same = cc

none : (m : ℕ) (ms : List ℕ) → m ∷ ms ≡ [] → ⊥
none m ms same = cc

module _ {A B X Y : Type 0} (f : X → List A) (g : Y → List B) where
  -- as many rows stand beside each other
  pub as_many : (xs : List X) (ys : List Y) → map length (map f xs) ≡ map length (map g ys) → length xs ≡ length ys
  as_many xs ys long =
      omega (
        arith,
        ap length long,
        length-map (map f xs) length,
        length-map xs f,
        length-map (map g ys) length,
        length-map ys g,
      )

  -- the rows at one place are as long
  pub as_long : (xs : List X) (ys : List Y) (k : ℕ) (d : X) (e : Y) → k < length xs
      → map length (map f xs) ≡ map length (map g ys)
      → length (f (get_or xs k d)) ≡ length (g (get_or ys k e))
  as_long [] ys k d e within long = absurd (omega (arith, within))
  as_long (x ∷ xs) [] k d e within long = absurd (none (length (f x)) (map length (map f xs)) long)
  as_long (x ∷ xs) (y ∷ ys) zero d e within long =
      heads (length (f x)) (length (g y)) (map length (map f xs)) (map length (map g ys)) long
  as_long (x ∷ xs) (y ∷ ys) (suc k) d e within long =
      as_long xs ys k d e (omega (arith, within))
      (tails (length (f x)) (length (g y)) (map length (map f xs)) (map length (map g ys)) long)

all_more : {B : Type 0} (P : B → Type 0) (xs : List B) (x : B) → AllByRecursion P xs → P x
    → AllByRecursion P (xs ++ x ∷ [])
all_more P [] x all one = (one, tt)
all_more P (y ∷ xs) x all one = (all.0, all_more P xs x all.1 one)

module _ {Y B : Type 0} (said : Y → B) (ys : List Y) (k : ℕ) (e : Y) (within : k < length ys) where
  -- what is said of one element more
  pub said_next : map said (take (k + 1) ys) ≡ map said (take k ys) ++ said (get_or ys k e) ∷ []
  said_next = ap (map said) (take_more ys k e within) ∙ map-append said (take k ys) (get_or ys k e ∷ [])

  -- and holds of it
  pub holds_next : (P : B → Type 0) → AllByRecursion P (map said (take k ys)) → P (said (get_or ys k e))
      → AllByRecursion P (map said (take (k + 1) ys))
  holds_next P all one =
      subst (AllByRecursion P) (sym said_next) (all_more P (map said (take k ys)) (said (get_or ys k e)) all one)

  module _ {X : Type 0} (says : X → B) (rows : List X) (within_too : k < length rows) where
    says_next : (new : X) → map says (take (k + 1) (set rows k new)) ≡ map says (take k rows) ++ says new ∷ []
    says_next new = ap (map says) (take_more_set rows k new within_too) ∙ map-append says (take k rows) (new ∷ [])

    -- a row takes up what is said of the element beside it
    pub noted_next : (new : X) → says new ≡ said (get_or ys k e) → map says (take k rows) ≡ map said (take k ys)
        → map says (take (k + 1) (set rows k new)) ≡ map said (take (k + 1) ys)
    noted_next new one before = says_next new ∙ ap₂ (λ xs x. xs ++ x ∷ []) before one ∙ sym said_next

-- what is kept at a place changes by the row beside it
module _ {X Y R K : Type 0} (row : X → R) (kept : Y → K) (op : R × K → K) (rows : List X) (olds runs : List Y) (k : ℕ)
    (d : X) (e : Y) (many : length rows ≡ length olds) (within : k < length olds) (within_too : k < length runs)
    (rest : drop k runs ≡ drop k olds) where
  pub paid_next : (new : Y) → kept new ≡ op (row (get_or rows k d), kept (get_or runs k e))
      → map kept (take k runs) ≡ map op (zip (map row (take k rows)) (map kept (take k olds)))
      → map kept (take (k + 1) (set runs k new))
      ≡ map op (zip (map row (take (k + 1) rows)) (map kept (take (k + 1) olds)))
  paid_next new one before =
      let within_rows : k < length rows = omega (arith, within, many) in
      let same_many : length (map kept (take k olds)) ≡ length (map row (take k rows)) =
      omega (
        arith,
        within,
        many,
        length-map (take k olds) kept,
        length-map (take k rows) row,
        length-take-le k olds (omega (arith, within)),
        length-take-le k rows (omega (arith, within, many)),
      ) in
      says_next kept olds k e within kept runs within_too new
      ∙ ap₂ (λ xs x. xs ++ x ∷ []) before
      (one ∙ ap (λ y. op (row (get_or rows k d), kept y)) (same_at runs olds k e rest))
      ∙ sym (zip_more op (map row (take k rows)) (map kept (take k olds)) (row (get_or rows k d))
      (kept (get_or olds k e)) same_many)
      ∙ ap₂ (λ xs ys. map op (zip xs ys)) (sym (said_next row rows k d within_rows))
      (sym (said_next kept olds k e within))

-- whether hits changed is noted at one place more
module _ {X Y C : Type 0} (row : X → List ℕ) (kept : Y → List ℕ) (bits : C → List Bool)
    (rows : List X) (runs : List Y) (counts : List C)
    (k : ℕ) (d : X) (e : Y) (within_rows : k < length rows) (within : k < length runs)
    (within_too : k < length counts) where
  pub counted_next : (new : C) → bits new ≡ counted (row (get_or rows k d)) (kept (get_or runs k e))
      → map bits (take k counts) ≡ counted_rows (map row (take k rows)) (map kept (take k runs))
      → map bits (take (k + 1) (set counts k new))
      ≡ counted_rows (map row (take (k + 1) rows)) (map kept (take (k + 1) runs))
  counted_next new one before =
      let same_many : length (map kept (take k runs)) ≡ length (map row (take k rows)) =
      omega (
        arith,
        within,
        within_rows,
        length-map (take k runs) kept,
        length-map (take k rows) row,
        length-take-le k runs (omega (arith, within)),
        length-take-le k rows (omega (arith, within_rows)),
      ) in
      ap (map bits) (take_more_set counts k new within_too)
      ∙ map-append bits (take k counts) (new ∷ [])
      ∙ ap₂ (λ xs x. xs ++ x ∷ []) before one
      ∙ sym (zip_more (λ (p : List ℕ × List ℕ). counted p.0 p.1) (map row (take k rows))
      (map kept (take k runs)) (row (get_or rows k d)) (kept (get_or runs k e)) same_many)
      ∙ ap₂ counted_rows (sym (said_next row rows k d within_rows)) (sym (said_next kept runs k e within))
