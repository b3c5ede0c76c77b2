-- What the blocks of a kept state say, and that each is one that may be put back.
use Rattle.std.proofs.Common.{◌≡◌, ℕ, zero, suc, ◌+◌, ◌-◌, ◌<◌, ◌≤◌, ◌^◌, Option, None, Some, option_map, IfSome, List}
use Rattle.std.proofs.Common.{[], ◌∷◌, ◌++◌, length, map, drop, get_or, sum_by, slice_index, slice_index_or, refl, sym}
use Rattle.std.proofs.Common.{◌∙◌, ap, ap₂, subst, arith, append_assoc, append-nil, length-append}
use Rattle.std.specs.List.{concat}
use Rattle.std.proofs.lemmas.List.{length-drop}
use Rattle.std.proofs.lemmas.List.Sums.{sum_by-cons}
use Rattle.ra_text.proofs.Pieces.{Stands, stands_first, stands_next}
use Rattle.ra_progress.specs.declared.shape.ItemShape.{ItemShape}
use Rattle.ra_progress.specs.declared.shape.ItemShape.TheVariants.{Achievement, Leaderboard}
use Rattle.ra_progress.specs.declared.shape.PresenceShape.{PresenceShape}
use Rattle.ra_progress.specs.Contents.{KeptItem, KeptPresence, ItemFits, ItemsFit, PresenceFits}
use Rattle.ra_progress.specs.Layout.{item_length, version_in}
use Rattle.ra_progress.specs.Reading.{is_state}
use Rattle.ra_progress.specs.Saying.{said_item, said_items, said_presence}
use Rattle.ra_progress.specs.Spelling.{item_bytes, presence_block, presence_bytes}
use Rattle.ra_progress.proofs.Blocks.{length_item, length_presence}
use Rattle.ra_progress.proofs.OwnFile.{SaidItems, fitting, said_items_are, said_presence_is}
use Rattle.ra_progress.proofs.SaysOpening.{passes}
use Rattle.ra_items.specs.Restoring.{HasItem}
use Rattle.ra_display.specs.PresenceBack.{HasDisplay}
use Rattle.ra_runtime.specs.Keeping.{AreBlocks, AreLent, KeptSeen, item_places}

-- the block of an item that stands behind the first twenty bytes says the item
item_said : (bytes : List ℕ) (at : ℕ) (shape : ItemShape) (item : KeptItem) → 20 ≤ at
    → version_in bytes ≡ 3 → ItemFits shape item → Stands bytes at (item_bytes item)
    → said_item bytes shape at ≡ item
item_said bytes at shape item far three fits s =
    let back : at - 20 + 20 ≡ at = omega arith in
    let they : SaidItems bytes (shape ∷ []) (item ∷ []) [] []
    (record { at = at - 20; name = []; size = length (item_bytes item) } ∷ []) =
    said_items_are bytes ([] ∷ []) (shape ∷ []) (item ∷ []) [] [] (record
    { at = at - 20; name = []; size = length (item_bytes item) } ∷ []) three refl (fits, tt)
    (refl, refl, subst (λ n. Stands bytes n (item_bytes item)) (sym back) s, tt) in
    let head : said_item bytes shape (at - 20 + 20) ≡ item =
    first (said_item bytes shape (at - 20 + 20)) item they.are in
    subst (λ n. said_item bytes shape n ≡ item) back head
  where
    first : (x y : KeptItem) → x ∷ [] ≡ y ∷ [] → x ≡ y
    first x y same = cc

-- and may be put back
item_has : (bytes : List ℕ) (at : ℕ) (shape : ItemShape) (item : KeptItem) → 20 ≤ at
    → version_in bytes ≡ 3 → ItemFits shape item → Stands bytes at (item_bytes item)
    → HasItem bytes (Some at) shape
item_has bytes at shape item far three fits s =
    let long : length (item_bytes item) ≡ item_length shape = length_item shape item fits in
    let whole : length (drop at bytes) ≡ length (item_bytes item) + length s.behind =
    ap length s.here ∙ length-append (item_bytes item) s.behind in
    let within : at + item_length shape ≤ length bytes =
    within_it bytes at (item_length shape) (some shape) (omega (arith, whole, long)) in
    let block = (fitting ([] ∷ []) (shape ∷ []) (item ∷ []) [] [] refl (fits, tt) tt).0 in (
      (omega (arith, far, within), within),
      passes (is_state (version_in bytes) shape (slice_index bytes at)) _ (block.good bytes at three s),
    )
  where
    within_it : (xs : List ℕ) (n m : ℕ) → 0 < m → m ≤ length (drop n xs) → n + m ≤ length xs
    within_it xs n m any less = omega (arith, any, less, length-drop n xs)

    some : (shape : ItemShape) → 0 < item_length shape
    some (Achievement hits) = omega arith
    some (Leaderboard hits parts) = omega arith

-- the blocks of items that stand in a row, and what stands behind them
pub record AreStanding (bytes : List ℕ) (at : ℕ) (shapes : List ItemShape) (items : List KeptItem)
    (rest : List ℕ) : Type 0 where
  pub said : said_items bytes shapes (item_places at shapes) ≡ items
  pub has : (k : ℕ) (d : ItemShape) → k < length shapes
      → HasItem bytes (slice_index_or (item_places at shapes) k None) (get_or shapes k d)
  pub behind : Stands bytes (at + sum_by item_length shapes) rest

pub items_stand : (bytes : List ℕ) (at : ℕ) (shapes : List ItemShape) (items : List KeptItem)
    (rest : List ℕ) → 20 ≤ at → version_in bytes ≡ 3 → ItemsFit shapes items → Stands bytes at
    (concat (map item_bytes items) ++ rest) → AreStanding bytes at shapes items rest
items_stand bytes at [] [] rest far three fit s = record {
  said = refl;
  has = λ k d less. absurd (omega (arith, less));
  behind = subst (λ n. Stands bytes n rest) (omega arith) s;
}
items_stand bytes at [] (item ∷ items) rest far three fit s = absurd fit
items_stand bytes at (shape ∷ shapes) [] rest far three fit s = absurd fit
items_stand bytes at (shape ∷ shapes) (item ∷ items) rest far three fit s =
    let more = concat (map item_bytes items) in
    let long : length (item_bytes item) ≡ item_length shape = length_item shape item fit.0 in
    let whole : Stands bytes at (item_bytes item ++ (more ++ rest)) =
    subst (Stands bytes at) (append_assoc (item_bytes item) more rest) s in
    let here = stands_first bytes at (item_bytes item) (more ++ rest) whole in
    let later = items_stand bytes (at + item_length shape) shapes items rest
    (omega (arith, far)) three fit.1 (stands_next bytes at (at + item_length shape)
    (item_bytes item) (more ++ rest) (omega (arith, long)) whole) in
    record {
      said = ap₂ (λ x xs. x ∷ xs) (item_said bytes at shape item far three fit.0 here) later.said;
      has = λ k d less. by_place k d less (item_has bytes at shape item far three fit.0 here) later.has;
      behind = subst (λ n. Stands bytes n rest) (omega (arith, sum_by-cons item_length shape shapes)) later.behind;
    }
  where
    by_place : (k : ℕ) (d : ItemShape) → k < length (shape ∷ shapes) → HasItem bytes (Some at) shape
        → ((j : ℕ) (e : ItemShape) → j < length shapes → HasItem bytes
        (slice_index_or (item_places (at + item_length shape) shapes) j None) (get_or shapes j e))
        → HasItem bytes (slice_index_or (item_places at (shape ∷ shapes)) k None) (get_or (shape ∷ shapes) k d)
    by_place zero d less one others = one
    by_place (suc k) d less one others = others k d (omega (arith, less))

pub places_long : (at : ℕ) (shapes : List ItemShape) → length (item_places at shapes) ≡ length shapes
places_long at [] = refl
places_long at (shape ∷ shapes) = ap suc (places_long (at + item_length shape) shapes)

-- the block of a display that stands says the display, and may be put back
pub record IsStanding (bytes : List ℕ) (at : ℕ) (shape : Option PresenceShape)
    (kept : Option KeptPresence) : Type 0 where
  pub said : option_map (λ p. said_presence bytes p at) shape ≡ kept
  pub has : IfSome shape (HasDisplay bytes (Some at))

pub display_stands : (bytes : List ℕ) (at : ℕ) (shape : Option PresenceShape)
    (kept : Option KeptPresence) → 20 ≤ at → IfSome shape (λ p. p.lines < 2 ^ 32) → PresenceFits
    shape kept → Stands bytes at (concat (presence_block kept)) → IsStanding bytes at shape kept
display_stands bytes at None None far small fits s = record { said = refl; has = tt }
display_stands bytes at None (Some kept) far small fits s = absurd fits
display_stands bytes at (Some shape) None far small fits s = absurd fits
display_stands bytes at (Some shape) (Some kept) far small fits s =
    let here : Stands bytes at (presence_bytes kept) = subst (Stands bytes at) (append-nil (presence_bytes kept)) s in
    let they = said_presence_is bytes at shape kept small fits here in
    let long = length_presence shape kept fits in
    let whole : length (drop at bytes) ≡ length (presence_bytes kept) + length here.behind =
    ap length here.here ∙ length-append (presence_bytes kept) here.behind in
    let within = within_it bytes at (length (presence_bytes kept)) (omega (arith, long)) (omega (arith, whole)) in
    record {
      said = ap Some they.0;
      has = ((omega (arith, far, within, long), omega (arith, within, long)), omega (arith, they.1, fits.0));
    }
  where
    within_it : (xs : List ℕ) (n m : ℕ) → 0 < m → m ≤ length (drop n xs) → n + m ≤ length xs
    within_it xs n m any less = omega (arith, any, less, length-drop n xs)

-- the blocks are lent
pub blocks_lent : (kept : KeptSeen) (bytes : List ℕ) (display : ℕ)
    → AreBlocks bytes kept.items kept.presence kept.opening.items kept.opening.presence → display
    ≡ 20 + sum_by item_length kept.items
    → AreLent kept bytes (item_places 20 kept.items) (Some display)
blocks_lent kept bytes display blocks is =
    let they = items_stand bytes 20 kept.items kept.opening.items
    (concat (presence_block kept.opening.presence)) (omega arith) blocks.version blocks.fit
    (record { behind = blocks.behind; here = blocks.here }) in
    let shown = display_stands bytes display kept.presence kept.opening.presence
    (omega (arith, is)) blocks.small blocks.fits (subst
    (λ n. Stands bytes n (concat (presence_block kept.opening.presence))) (sym is) they.behind) in
    record {
      many = sym (places_long 20 kept.items);
      has = they.has;
      said = they.said;
      shows = shown.has;
      shown = shown.said;
    }

-- what blocks say is what they are of
pub blocks_say : (bytes : List ℕ) (shapes : List ItemShape) (presence : Option PresenceShape)
    (items : List KeptItem) (kept : Option KeptPresence) (display : ℕ)
    → AreBlocks bytes shapes presence items kept → display ≡ 20 + sum_by item_length shapes
    → (said_items bytes shapes (item_places 20 shapes) ≡ items)
    × (option_map (λ p. said_presence bytes p display) presence ≡ kept)
blocks_say bytes shapes presence items kept display blocks is =
    let they = items_stand bytes 20 shapes items (concat (presence_block kept)) (omega arith)
    blocks.version blocks.fit (record { behind = blocks.behind; here = blocks.here }) in
    let shown = display_stands bytes display presence kept (omega (arith, is)) blocks.small
    blocks.fits (subst (λ n. Stands bytes n (concat (presence_block kept))) (sym is) they.behind) in
    (they.said, shown.said)

-- so blocks are those of what they say
pub blocks_said : (bytes : List ℕ) (shapes : List ItemShape) (presence : Option PresenceShape)
    (items : List KeptItem) (kept : Option KeptPresence) (places : List (Option ℕ)) (display : ℕ)
    → AreBlocks bytes shapes presence items kept → places ≡ item_places 20 shapes → display
    ≡ 20 + sum_by item_length shapes
    → AreBlocks bytes shapes presence (said_items bytes shapes places)
    (option_map (λ p. said_presence bytes p display) presence)
blocks_said bytes shapes presence items kept places display blocks there is =
    let they = blocks_say bytes shapes presence items kept display blocks is in
    let said : said_items bytes shapes places ≡ items = ap (said_items bytes shapes) there ∙ they.0 in
    subst (λ (x : List KeptItem). AreBlocks bytes shapes presence x
    (option_map (λ p. said_presence bytes p display) presence)) (sym said)
    (subst (λ (y : Option KeptPresence). AreBlocks bytes shapes presence items y) (sym they.1) blocks)
