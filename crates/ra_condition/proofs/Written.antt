-- What a loop that writes items one after the other has written at its end.
use Rattle.std.proofs.Common.{◌≡◌, ◌∙◌, ℕ, ◌≤◌, List, [], ◌∷◌, ◌++◌, length, map, take, refl, sym, ap, append_assoc}
use Rattle.std.proofs.Common.{take_all}
use Rattle.std.specs.List.{flat_map}

-- pieces of items that are seen by their contents
pub flat_map-map : {X Y : Type 0} (view : X → Y) (text : Y → List ℕ) (xs : List X)
    → flat_map text (map view xs) ≡ flat_map (λ x. text (view x)) xs
flat_map-map view text [] = refl
flat_map-map view text (x ∷ xs) = ap (λ t. text (view x) ++ t) (flat_map-map view text xs)

-- a first text, and the pieces of all items behind it
pub all-written : {X Y : Type 0} (view : X → Y) (text : Y → List ℕ) (xs : List X) (n : ℕ)
    (old first middle now : List ℕ) → length xs ≤ n → middle ≡ old ++ first → now
    ≡ middle ++ flat_map (λ x. text (view x)) (take n xs)
    → now ≡ old ++ (first ++ flat_map text (map view xs))
all-written view text xs n old first middle now le start written =
    written ∙ ap (λ t. middle ++ flat_map (λ x. text (view x)) t) (take_all n xs le)
    ∙ ap (λ t. t ++ flat_map (λ x. text (view x)) xs) start
    ∙ append_assoc old first (flat_map (λ x. text (view x)) xs)
    ∙ ap (λ t. old ++ (first ++ t)) (sym (flat_map-map view text xs))
