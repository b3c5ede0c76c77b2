-- What holds of each element of a list, after what is done to the list.
use Rattle.std.proofs.Common.{ℕ, zero, suc, List, [], ◌∷◌, ◌++◌, take, drop, slice_set, replicate, slice_index_or, map}
use Rattle.std.specs.List.{AllByRecursion, flat_map}
use Rattle.std.proofs.lemmas.List.Elements.{All-from_recursion, recursion_from_All, All-take, All-drop, All-set}

pub each_append : {A : Type 0} (P : A → Type 0) (xs ys : List A) → AllByRecursion P xs
    → AllByRecursion P ys → AllByRecursion P (xs ++ ys)
each_append P [] ys front behind = behind
each_append P (x ∷ xs) ys front behind = (front.0, each_append P xs ys front.1 behind)

pub each_take : {A : Type 0} (P : A → Type 0) (n : ℕ) (xs : List A) → AllByRecursion P xs → AllByRecursion P (take n xs)
each_take P n xs all =
    recursion_from_All P (take n xs) (All-take P n xs (All-from_recursion P xs all))

pub each_drop : {A : Type 0} (P : A → Type 0) (n : ℕ) (xs : List A) → AllByRecursion P xs → AllByRecursion P (drop n xs)
each_drop P n xs all =
    recursion_from_All P (drop n xs) (All-drop P n xs (All-from_recursion P xs all))

pub each_set : {A : Type 0} (P : A → Type 0) (xs : List A) (i : ℕ) (a : A) → P a
    → AllByRecursion P xs → AllByRecursion P (slice_set xs i a)
each_set P xs i a holds all =
    recursion_from_All P (slice_set xs i a) (All-set P xs i a holds (All-from_recursion P xs all))

pub each_replicate : {A : Type 0} (P : A → Type 0) (n : ℕ) (a : A) → P a → AllByRecursion P (replicate n a)
each_replicate P zero a holds = tt
each_replicate P (suc n) a holds = (holds, each_replicate P n a holds)

-- past the end stands the default
pub each_at : {A : Type 0} (P : A → Type 0) (xs : List A) (k : ℕ) (d : A) → P d
    → AllByRecursion P xs → P (slice_index_or xs k d)
each_at P [] k d holds all = holds
each_at P (x ∷ xs) zero d holds all = all.0
each_at P (x ∷ xs) (suc k) d holds all = each_at P xs k d holds all.1

pub each_map : {A B : Type 0} (P : B → Type 0) (f : A → B) → ((a : A) → P (f a)) → (xs : List A)
    → AllByRecursion P (map f xs)
each_map P f each [] = tt
each_map P f each (x ∷ xs) = (each x, each_map P f each xs)

-- the same, where each element is known to be some way
pub each_map_of : {A B : Type 0} (P : B → Type 0) (Q : A → Type 0) (f : A → B)
    → ((a : A) → Q a → P (f a)) → (xs : List A) → AllByRecursion Q xs → AllByRecursion P (map f xs)
each_map_of P Q f each [] all = tt
each_map_of P Q f each (x ∷ xs) all = (each x all.0, each_map_of P Q f each xs all.1)

pub each_flat_map : {A B : Type 0} (P : B → Type 0) (Q : A → Type 0) (f : A → List B)
    → ((a : A) → Q a → AllByRecursion P (f a)) → (xs : List A) → AllByRecursion Q xs
    → AllByRecursion P (flat_map f xs)
each_flat_map P Q f each [] all = tt
each_flat_map P Q f each (x ∷ xs) all =
    each_append P (f x) (flat_map f xs) (each x all.0) (each_flat_map P Q f each xs all.1)
