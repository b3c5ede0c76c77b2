-- Counts of the items of a set.
use Rattle.std.proofs.Common.{ℕ, ◌≡◌, ◌≤◌, ◌∙◌, take, ap, List, [], ◌∷◌, map, sum_by, length, refl, arith}
use Rattle.std.proofs.lemmas.List.{take_all}
use Rattle.std.proofs.lemmas.List.Sums.{sum_by-cons}
use Rattle.ra_set.specs.Contents.{ItemContents, Unlocks, Ranks, item_contents}
use Rattle.ra_set.specs.declared.item.Item.{Item}
use Rattle.ra_set.specs.declared.item.Item.TheVariants as item
use Rattle.ra_jobs.specs.Counting.{achievements_in, boards_in}

-- 1 for an achievement
abbrev pub unlocks : ItemContents → ℕ
unlocks (Unlocks id t) = 1
unlocks (Ranks id format b) = 0

-- 1 for a leaderboard
abbrev pub ranks : ItemContents → ℕ
ranks (Unlocks id t) = 0
ranks (Ranks id format b) = 1

pub achievements_sum : (items : List Item) → sum_by (λ item. unlocks (item_contents item)) items
    ≡ achievements_in (map item_contents items)
achievements_sum [] = refl
achievements_sum (item.Achievement id t ∷ items) =
    omega (
      arith,
      sum_by-cons (λ item. unlocks (item_contents item)) (item.Achievement id t) items,
      achievements_sum items,
    )
achievements_sum (item.Leaderboard id format b ∷ items) =
    omega (
      arith,
      sum_by-cons (λ item. unlocks (item_contents item)) (item.Leaderboard id format b) items,
      achievements_sum items,
    )

pub boards_sum : (items : List Item) → sum_by (λ item. ranks (item_contents item)) items
    ≡ boards_in (map item_contents items)
boards_sum [] = refl
boards_sum (item.Achievement id t ∷ items) =
    omega (arith, sum_by-cons (λ item. ranks (item_contents item)) (item.Achievement id t) items, boards_sum items)
boards_sum (item.Leaderboard id format b ∷ items) =
    omega (
      arith,
      sum_by-cons (λ item. ranks (item_contents item)) (item.Leaderboard id format b) items,
      boards_sum items,
    )

-- a count over all items
module _ (items : List Item) (index count : ℕ) (end : length items ≤ index) where
  all_items : take index items ≡ items
  all_items = take_all index items end

  pub achievements_counted : count ≡ sum_by (λ item. unlocks (item_contents item))
      (take index items) → count ≡ achievements_in (map item_contents items)
  achievements_counted h = h ∙ ap (sum_by (λ item. unlocks (item_contents item))) all_items ∙ achievements_sum items

  pub boards_counted : count ≡ sum_by (λ item. ranks (item_contents item)) (take index items)
      → count ≡ boards_in (map item_contents items)
  boards_counted h = h ∙ ap (sum_by (λ item. ranks (item_contents item))) all_items ∙ boards_sum items
