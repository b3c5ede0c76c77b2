-- The latest frame that passes a test is the greatest one that does.
use Rattle.std.proofs.Common.{◌≡◌, ℕ, inl, inr, Bool, true, false, if◌then◌else◌, List, [], ◌∷◌, Option, Some, None}
use Rattle.std.proofs.Common.{unwrap_or, refl, ap, subst}
use Rattle.ra_memory.specs.Image.{History}
use Rattle.ra_memref.specs.Values.{latest, changes, before_change, prior_of}
use Rattle.ra_memref.specs.Laws.{IsGreatest, NeverPasses, IsPrior}

latest_of : (passes : History → Bool) (image : List ℕ) (earlier k : History)
    → (latest passes earlier ≡ Some k → IsGreatest passes earlier k) → (b : Bool)
    → passes (image ∷ earlier) ≡ b → (if b then Some (image ∷ earlier) else latest passes earlier)
    ≡ Some k → IsGreatest passes (image ∷ earlier) k
latest_of passes image earlier k before true holds found =
    let same : image ∷ earlier ≡ k = ap (λ o. unwrap_or o (image ∷ earlier)) found in
    record { later = []; whole = same; here = subst (λ h. passes h ≡ true) same holds; none_later = tt }
latest_of passes image earlier k before false fails found =
    let rest = before found in
    record {
      later = image ∷ rest.later;
      whole = ap (λ h. image ∷ h) rest.whole;
      here = rest.here;
      none_later = (subst (λ h. passes (image ∷ h) ≡ false) rest.whole fails, rest.none_later);
    }

pub latest_is_greatest : (passes : History → Bool) (history k : History) → latest passes history
    ≡ Some k → IsGreatest passes history k
latest_is_greatest passes [] k found = cc
latest_is_greatest passes (image ∷ earlier) k found =
    latest_of passes image earlier k (latest_is_greatest passes earlier k) (passes (image ∷ earlier)) refl found

never_by : (passes : History → Bool) (image : List ℕ) (earlier : History)
    → (latest passes earlier ≡ None → NeverPasses passes earlier) → (b : Bool)
    → passes (image ∷ earlier) ≡ b → (if b then Some (image ∷ earlier) else latest passes earlier)
    ≡ None → NeverPasses passes (image ∷ earlier)
never_by passes image earlier before true holds found = cc
never_by passes image earlier before false fails found = (fails, before found)

-- where no latest frame passes, none does
pub never_passes : (passes : History → Bool) (history : History) → latest passes history ≡ None
    → NeverPasses passes history
never_passes passes [] none = tt
never_passes passes (image ∷ earlier) none =
    never_by passes image earlier (never_passes passes earlier) (passes (image ∷ earlier)) refl none

prior_by : (number : History → ℕ) (opened : ℕ) (history : History) (o : Option History) → latest
    (changes number) history ≡ o → IsPrior number opened history (prior_of number opened history)
prior_by number opened history None none =
    inr (never_passes (changes number) history none, ap (before_change number opened) none)
prior_by number opened history (Some k) found =
    inl (k, latest_is_greatest (changes number) history k found, ap (before_change number opened) found)

-- a prior is the number before the greatest frame of change
pub prior_is : (number : History → ℕ) (opened : ℕ) (history : History)
    → IsPrior number opened history (prior_of number opened history)
prior_is number opened history = prior_by number opened history (latest (changes number) history) refl
