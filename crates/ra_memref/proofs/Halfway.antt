-- A list whose front is that of one list, and whose rest is that of another.
use Rattle.std.proofs.Common.{◌≡◌, ◌≢◌, ℕ, suc, ◌<◌, ◌≤◌, List, length, get_or, set, refl, ap, sym, ◌∙◌, ◌⊎◌, inl, inr}
use Rattle.std.proofs.Common.{arith}
use Rattle.std.proofs.lemmas.List.{get_or-set_same, get_or-set_other}
use Rattle.std.proofs.lemmas.Grind.{same_number_lists}
use Rattle.std.proofs.lemmas.Bool.{cases_eq}

-- the numbers below j are the new ones
pub record IsDone (new : List ℕ) (j : ℕ) (now : List ℕ) : Type 0 where
  pub done : (i : ℕ) → i < j → get_or now i 0 ≡ get_or new i 0

-- and those from j on are the old ones
pub record IsHalfway (old new : List ℕ) (j : ℕ) (now : List ℕ) : Type 0 where
  pub done : (i : ℕ) → i < j → get_or now i 0 ≡ get_or new i 0
  pub left : (i : ℕ) → j ≤ i → get_or now i 0 ≡ get_or old i 0

module _ (new : List ℕ) (j : ℕ) (now : List ℕ) (v : ℕ) where
  set_one : (k i : ℕ) → k < length now → v ≡ get_or new k 0 → (i ≡ k → ⊥) ⊎ (i ≡ k)
      → (get_or now i 0 ≡ get_or new i 0) ⊎ (i ≡ k) → get_or (set now k v) i 0 ≡ get_or new i 0
  set_one k i within is (inr here) same =
      ap (λ n. get_or (set now k v) n 0) here ∙ get_or-set_same now k v 0 within ∙ is
      ∙ ap (λ n. get_or new n 0) (sym here)
  set_one k i within is (inl other) (inl same) = get_or-set_other now k i v 0 other ∙ same
  set_one k i within is (inl other) (inr here) = absurd (other here)

  either : (a b : ℕ) → (a ≡ b → ⊥) ⊎ (a ≡ b)
  either a b = elim (cases_eq a b) [ inl same ↦ inr same | inr other ↦ inl other ]

  before_or : (i k : ℕ) → i < suc k → ((i < k) → get_or now i 0 ≡ get_or new i 0)
      → (i ≡ k → ⊥) ⊎ (i ≡ k) → (get_or now i 0 ≡ get_or new i 0) ⊎ (i ≡ k)
  before_or i k below done (inr here) = inr here
  before_or i k below done (inl other) = inl (done (omega (arith, other)))

  pub done_more : j < length now → v ≡ get_or new j 0 → IsDone new j now → IsDone new (suc j) (set now j v)
  done_more within is before = record {
    done = λ i below. set_one j i within is (either i j) (before_or i j below (before.done i) (either i j));
  }

  pub halfway_more : (old : List ℕ) → j < length now → v ≡ get_or new j 0 → IsHalfway old new j now
      → IsHalfway old new (suc j) (set now j v)
  halfway_more old within is before = record {
    done = λ i below. set_one j i within is (either i j) (before_or i j below (before.done i) (either i j));
    left = λ i above. get_or-set_other now j i v 0 (let other : i ≢ j = omega arith in other)
        ∙ before.left i (omega arith);
  }

  pub halfway_again : (old : List ℕ) (k : ℕ) → k < j → k < length now → v ≡ get_or new k 0
      → IsHalfway old new j now → IsHalfway old new j (set now k v)
  halfway_again old k early within is before = record {
    done = λ i below. set_one k i within is (either i k) (inl (before.done i below));
    left = λ i above. get_or-set_other now k i v 0 (let other : i ≢ k = omega arith in other) ∙ before.left i above;
  }

pub halfway_none : (old new : List ℕ) → IsHalfway old new 0 old
halfway_none old new = record { done = λ i below. absurd (omega arith); left = λ i above. refl }

pub done_none : (new now : List ℕ) → IsDone new 0 now
done_none new now = record { done = λ i below. absurd (omega arith) }

pub done_all : (new now : List ℕ) → length now ≡ length new → IsDone new (length new) now → now ≡ new
done_all new now same all = same_number_lists now new same (λ k below. all.done k (omega arith))

pub halfway_all : (old new now : List ℕ) → length now ≡ length new → IsHalfway old new (length new) now → now ≡ new
halfway_all old new now same all = same_number_lists now new same (λ k below. all.done k (omega arith))
