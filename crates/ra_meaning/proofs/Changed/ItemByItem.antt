-- What a set tells and prints at the last frame, item by item.
use Rattle.std.proofs.Common.{◌≡◌, ℕ, zero, suc, ◌+◌, ◌≤◌, Option, None, Some, List, [], ◌∷◌, ◌++◌, length, zip, refl}
use Rattle.std.proofs.Common.{sym, ◌∙◌, ap, ap₂, arith}
use Rattle.std.specs.List.{flat_map, range_with_len, slice_get}
use Rattle.std.proofs.lemmas.List.Concat.{flat_map-append}
use Rattle.ra_memory.specs.Image.{History}
use Rattle.ra_set.specs.Contents.{SetContents}
use Rattle.ra_progress.specs.Contents.{Opening}
use Rattle.ra_meaning.specs.Changed.{told_at, events_at, lines_at, IsItemByItem}
use Rattle.ra_meaning.specs.declared.event.Event.{Event}
use Rattle.ra_meaning.specs.Earned.{Earned}
use Rattle.ra_meaning.specs.Lines.{event_line, event_lines}
use Rattle.ra_meaning.specs.Openings.{start_of, frames_after}
use Rattle.ra_meaning.specs.Play.{item_events, unless_earned, events, lines}

-- what the elements of a list give, by their places and any number of places behind them
by_places : {A B : Type 0} (f : A → List B) (g : Option A → List B) → g None ≡ []
    → ((x : A) → g (Some x) ≡ f x) → (at : ℕ → List B) (xs : List A) (from n : ℕ) → length xs ≤ n
    → ((j : ℕ) → at (from + j) ≡ g (slice_get xs j)) → flat_map f xs
    ≡ flat_map at (range_with_len from n)
by_places f g none some at [] from zero most is = refl
by_places f g none some at [] from (suc n) most is =
    let here : at from ≡ [] = ap at (omega arith) ∙ is 0 ∙ none in
    let rest = by_places f g none some at [] (from + 1) n (omega arith) (λ j. ap at (omega arith) ∙ is (suc j)) in
    rest ∙ ap (λ x. x ++ flat_map at (range_with_len (from + 1) n)) (sym here)
by_places f g none some at (x ∷ xs) from zero most is = absurd (omega (arith, most))
by_places f g none some at (x ∷ xs) from (suc n) most is =
    let here : at from ≡ f x = ap at (omega arith) ∙ is 0 ∙ some x in
    let rest = by_places f g none some at xs (from + 1) n (omega (arith, most))
    (λ j. ap at (omega arith) ∙ is (suc j)) in
    ap₂ (λ a b. a ++ b) (sym here) rest

zip_short : {A B : Type 0} (xs : List A) (ys : List B) → length (zip xs ys) ≤ length ys
zip_short [] ys = omega arith
zip_short (x ∷ xs) [] = omega arith
zip_short (x ∷ xs) (y ∷ ys) = omega (arith, zip_short xs ys)

zip_short_first : {A B : Type 0} (xs : List A) (ys : List B) → length (zip xs ys) ≤ length xs
zip_short_first [] ys = omega arith
zip_short_first (x ∷ xs) [] = omega arith
zip_short_first (x ∷ xs) (y ∷ ys) = omega (arith, zip_short_first xs ys)

-- the lines of events that are laid in a row
lines_flat : (frame : ℕ) (at : ℕ → List Event) (ks : List ℕ) → event_lines frame (flat_map at ks)
    ≡ flat_map (λ k. event_lines frame (at k)) ks
lines_flat frame at [] = refl
lines_flat frame at (k ∷ ks) =
    flat_map-append (event_line frame) (at k) (flat_map at ks)
    ∙ ap (λ rest. event_lines frame (at k) ++ rest) (lines_flat frame at ks)

nothing : {B : Type 0} (ks : List ℕ) → ◌≡◌ {A = List B} [] (flat_map (λ k. []) ks)
nothing [] = refl
nothing (k ∷ ks) = nothing ks

pub item_by_item : (set : SetContents) → IsItemByItem set
item_by_item set = record { tells = tells; prints = prints }
  where
    tells : (o : Opening) (history : History) (earned : Earned) → events set o history earned
        ≡ flat_map (events_at set o history earned) (range_with_len 0 (length set.items))
    tells o [] earned = nothing (range_with_len 0 (length set.items))
    tells o (image ∷ earlier) earned =
        let all = zip earned (zip set.items o.items) in
        let short : length all ≤ length set.items = omega
        (arith, zip_short earned (zip set.items o.items), zip_short_first set.items o.items) in
        by_places (unless_earned (item_events (start_of set o) image earlier))
        (told_at (start_of set o) image earlier) refl (λ x. refl)
        (events_at set o (image ∷ earlier) earned) all 0 (length set.items) short
        (λ j. ap (events_at set o (image ∷ earlier) earned) (omega arith))

    prints : (o : Opening) (history : History) (earned : Earned) → lines set o history earned
        ≡ flat_map (lines_at set o history earned) (range_with_len 0 (length set.items))
    prints o [] earned = nothing (range_with_len 0 (length set.items))
    prints o (image ∷ earlier) earned =
        ap (event_lines (frames_after o.frames (length earlier))) (tells o (image ∷ earlier) earned)
        ∙ lines_flat (frames_after o.frames (length earlier))
        (events_at set o (image ∷ earlier) earned) (range_with_len 0 (length set.items))
