-- The conditions after some rows, and the events that are noted.
use Rattle.std.proofs.Common.{◌≡◌, ℕ, zero, suc, ◌+◌, ◌<◌, List, [], ◌∷◌, ◌++◌, length, map, take, drop, replicate}
use Rattle.std.proofs.Common.{get_or, set, refl, sym, ◌∙◌, ap, ap₂, arith, append_assoc, drop-cons, add-one}
use Rattle.std.specs.List.{AllByRecursion}
use Rattle.std.proofs.lemmas.List.{get_or-map, length-take-le, take_more, set_at}
use Rattle.ra_explain.specs.declared.explanation.Event.{Event}
use Rattle.ra_explain.specs.declared.explanation.Events.{Events}
use Rattle.ra_explain.specs.HitChanges.{ChangesSeen, unchanged, with_row, with_rows, events_of}
use Rattle.ra_explain.specs.Replays.{contents_of, noted, noted_one}

-- the events of the condition at a place
pub column_at : (events : List Events) (k : ℕ) (own : Events) → k < length events → own ≡ get_or events k own
    → get_or (contents_of events) k [] ≡ own.list.items
column_at events k own within is = get_or-map (λ (o : Events). o.list.items) events k own [] within
    ∙ ap (λ (o : Events). o.list.items) (sym is)

pub changes_at : (changes : List ChangesSeen) (k : ℕ) (own : ChangesSeen) → k < length changes
    → own ≡ get_or changes k own → get_or (events_of changes) k [] ≡ own.events
changes_at changes k own within is = get_or-map (λ (o : ChangesSeen). o.events) changes k own [] within
    ∙ ap (λ (o : ChangesSeen). o.events) (sym is)

-- as many are noted as there are
pub length_noted : (row : ℕ) (events : List (List Event)) (before after : List ℕ) → length before ≡ length events
    → length after ≡ length events → length (noted row events before after) ≡ length events
length_noted row [] [] [] long long_too = refl
length_noted row [] [] (a ∷ after) long long_too = absurd (omega arith)
length_noted row [] (b ∷ before) after long long_too = absurd (omega arith)
length_noted row (own ∷ events) [] after long long_too = absurd (omega arith)
length_noted row (own ∷ events) (b ∷ before) [] long long_too = absurd (omega arith)
length_noted row (own ∷ events) (b ∷ before) (a ∷ after) long long_too = ap suc
    (length_noted row events before after (omega arith) (omega arith))

-- a row more of each condition
pub length_rows : (changes : List ChangesSeen) (hits : List ℕ) → length hits ≡ length changes
    → length (with_rows changes hits) ≡ length changes
length_rows [] hits long = refl
length_rows (own ∷ changes) [] long = absurd (omega arith)
length_rows (own ∷ changes) (h ∷ hits) long = ap suc (length_rows changes hits (omega arith))

pub row_added : (changes : List ChangesSeen) (hits : List ℕ) (k : ℕ) (d : ChangesSeen) → k < length changes
    → length hits ≡ length changes → get_or (with_rows changes hits) k d ≡ with_row (get_or changes k d)
    (get_or hits k 0)
row_added [] hits k d within long = absurd (omega (arith, within))
row_added (own ∷ changes) [] k d within long = absurd (omega arith)
row_added (own ∷ changes) (h ∷ hits) zero d within long = refl
row_added (own ∷ changes) (h ∷ hits) (suc k) d within long = row_added changes hits k d (omega arith) (omega arith)

-- the first ones are new, and the others old: one more is new
pub one_new : (old new : List ChangesSeen) (k : ℕ) (x d : ChangesSeen) → length new ≡ length old → k < length old
    → x ≡ get_or new k d → set (take k new ++ drop k old) k x ≡ take (k + 1) new ++ drop (k + 1) old
one_new old new k x d same within is =
    ap (λ xs. set (take k new ++ xs) k x) (drop-cons old k d within)
    ∙ set_at (take k new) (get_or old k d) (drop (suc k) old) x k (length-take-le k new (omega (arith, same, within)))
    ∙ ap₂ (λ y n. take k new ++ y ∷ drop n old) is (sym (add-one k))
    ∙ sym (append_assoc (take k new) (get_or new k d ∷ []) (drop (k + 1) old))
    ∙ ap (λ xs. xs ++ drop (k + 1) old) (sym (take_more new k d (omega (arith, same, within))))

-- an old one that is not reached yet
pub old_at : (old new : List ChangesSeen) (k : ℕ) (d : ChangesSeen) → length new ≡ length old → k < length old
    → get_or (take k new ++ drop k old) k d ≡ get_or old k d
old_at old new k d same within =
    ap (λ xs. get_or (take k new ++ xs) k d) (drop-cons old k d within)
    ∙ here (take k new) (get_or old k d) (drop (suc k) old) k (length-take-le k new (omega (arith, same, within)))
  where
    here : (p : List ChangesSeen) (y : ChangesSeen) (ys : List ChangesSeen) (n : ℕ) → length p ≡ n
        → get_or (p ++ y ∷ ys) n d ≡ y
    here [] y ys zero e = refl
    here [] y ys (suc n) e = absurd (omega arith)
    here (x ∷ p) y ys zero e = absurd (omega arith)
    here (x ∷ p) y ys (suc n) e = here p y ys n (omega arith)

-- the conditions at a row, of these events and hits
abbrev pub columns : (row : ℕ) → List (List Event) → List ℕ → List ChangesSeen
columns row (own ∷ events) (h ∷ hits) = record { row = row; hits = h; events = own } ∷ columns row events hits
columns row _ _ = []

-- before the first row
pub columns_first : (since n : ℕ) → replicate n (unchanged since) ≡ columns since (replicate n []) (replicate n 0)
columns_first since zero = refl
columns_first since (suc n) = ap (λ cs. unchanged since ∷ cs) (columns_first since n)

-- one row more
pub columns_more : (row : ℕ) (events : List (List Event)) (hits after : List ℕ) → length hits ≡ length events
    → length after ≡ length events → with_rows (columns row events hits) after ≡ columns (row + 1)
    (noted row events hits after) after
columns_more row [] [] [] long long_too = refl
columns_more row [] [] (a ∷ after) long long_too = absurd (omega arith)
columns_more row [] (h ∷ hits) after long long_too = absurd (omega arith)
columns_more row (own ∷ events) [] after long long_too = absurd (omega arith)
columns_more row (own ∷ events) (h ∷ hits) [] long long_too = absurd (omega arith)
columns_more row (own ∷ events) (h ∷ hits) (a ∷ after) long long_too =
    ap (λ cs. record { row = row + 1; hits = a; events = noted_one row own h a } ∷ cs)
    (columns_more row events hits after (omega arith) (omega arith))

-- how many they are, their hits, their events and their rows
pub length_columns : (row : ℕ) (events : List (List Event)) (hits : List ℕ) → length hits ≡ length events
    → length (columns row events hits) ≡ length hits
length_columns row [] [] long = refl
length_columns row [] (h ∷ hits) long = absurd (omega arith)
length_columns row (own ∷ events) [] long = absurd (omega arith)
length_columns row (own ∷ events) (h ∷ hits) long = ap suc (length_columns row events hits (omega arith))

pub columns_hits : (row : ℕ) (events : List (List Event)) (hits : List ℕ) → length hits ≡ length events
    → map (λ (o : ChangesSeen). o.hits) (columns row events hits) ≡ hits
columns_hits row [] [] long = refl
columns_hits row [] (h ∷ hits) long = absurd (omega arith)
columns_hits row (own ∷ events) [] long = absurd (omega arith)
columns_hits row (own ∷ events) (h ∷ hits) long = ap (λ hs. h ∷ hs) (columns_hits row events hits (omega arith))

pub columns_events : (row : ℕ) (events : List (List Event)) (hits : List ℕ) → length hits ≡ length events
    → events_of (columns row events hits) ≡ events
columns_events row [] [] long = refl
columns_events row [] (h ∷ hits) long = absurd (omega arith)
columns_events row (own ∷ events) [] long = absurd (omega arith)
columns_events row (own ∷ events) (h ∷ hits) long = ap (λ es. own ∷ es) (columns_events row events hits (omega arith))

pub columns_room : (row bound : ℕ) (events : List (List Event)) (hits : List ℕ) → row < bound
    → AllByRecursion (λ (o : ChangesSeen). o.row < bound) (columns row events hits)
columns_room row bound [] hits below = tt
columns_room row bound (own ∷ events) [] below = tt
columns_room row bound (own ∷ events) (h ∷ hits) below = (below, columns_room row bound events hits below)
