-- A course of which more is earned stands after each history after which it stood.
use Rattle.std.proofs.Common.{◌≡◌, List, [], ◌∷◌, map, refl, sym, ◌∙◌, ap, ap₂, Bool}
use Rattle.ra_progress.specs.Contents.{KeptItem, OfAchievement, OfBoard, Opening}
use Rattle.ra_meaning.specs.Earned.{Earned, is_earned, item_with, items_with, earned_in, with_earned}

-- answers put beside items take the place of those before, as far as they are read off them
one_again : (e before : Bool) (item : KeptItem) → item_with e (item_with before item)
    ≡ item_with (is_earned (item_with e (item_with before item))) item
one_again e before (OfAchievement state measured hits old) = refl
one_again e before (OfBoard state hits numbers) = refl

items_again : (earned before : Earned) (items : List KeptItem) → items_with earned (items_with
    before items) ≡ items_with (map is_earned (items_with earned (items_with before items))) items
items_again [] before items = refl
items_again (e ∷ earned) [] items = refl
items_again (e ∷ earned) (b ∷ before) [] = refl
items_again (e ∷ earned) (b ∷ before) (item ∷ items) =
    ap₂ (λ x xs. x ∷ xs) (one_again e b item) (items_again earned before items)

opening_again : (o : Opening) (before earned : Earned) → with_earned (with_earned o before) earned
    ≡ with_earned o (earned_in (with_earned (with_earned o before) earned))
opening_again o before earned =
    let items = items_again earned before o.items in
    (λ i. record o { items = items i })

pub stands_too : (kept o : Opening) (earned : Earned) → kept ≡ with_earned o (earned_in kept)
    → with_earned kept earned ≡ with_earned o (earned_in (with_earned kept earned))
stands_too kept o earned is =
    let again = ap (λ k. with_earned k earned) is in
    again ∙ opening_again o (earned_in kept) earned ∙ ap (λ k. with_earned o (earned_in k)) (sym again)
