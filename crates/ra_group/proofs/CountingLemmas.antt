-- Whether a group's numbers come from hits is the same at every frame.
use Rattle.std.proofs.Common.{◌≡◌, ℕ, zero, suc, ◌+◌, Bool, ◌||◌, ◌&&◌, List, [], ◌∷◌, length, get_or, refl, ap, ◌∙◌}
use Rattle.std.proofs.Common.{arith}
use Rattle.std.specs.List.{list_any, range_with_len}
use Rattle.ra_condition.specs.Flags.{is_measured}
use Rattle.ra_condition.specs.Contents.{no_condition}
use Rattle.ra_group.specs.declared.form.Form.{Form}
use Rattle.ra_group.specs.Equations.{Frame}
use Rattle.ra_group.specs.Outcome.{outcome_of, from_total}
use Rattle.ra_group.specs.Counting.{counts_hits}

any_next : (p : ℕ → Bool) (a n : ℕ) → list_any p (range_with_len (suc a) n)
    ≡ list_any (λ j. p (suc j)) (range_with_len a n)
any_next p a zero = refl
any_next p a (suc n) =
    let e : suc a + 1 ≡ suc (a + 1) = omega arith in
    ap (λ b. p (suc a) || b) (ap (λ m. list_any p (range_with_len m n)) e ∙ any_next p (a + 1) n)

any_places : {X : Type 0} (p : X → Bool) (d : X) (xs : List X)
    → list_any (λ j. p (get_or xs j d)) (range_with_len 0 (length xs)) ≡ list_any p xs
any_places p d [] = refl
any_places p d (x ∷ xs) = ap (λ b. p x || b) (any_next (λ j. p (get_or (x ∷ xs) j d)) 0 (length xs) ∙ any_places p d xs)

pub outcome_of-from_hits : (form : Form) (f : Frame) → (outcome_of form f).from_hits ≡ counts_hits form f.conditions
outcome_of-from_hits form f = any_places (λ c. is_measured c.flag && from_total form c) no_condition f.conditions
