-- Names with their numbers and blocks, one more at a time, and how long blocks are.
use Rattle.std.proofs.Common.{◌≡◌, ℕ, zero, suc, ◌+◌, ◌<◌, Some, List, [], ◌∷◌, ◌++◌, length, length-append, map, take}
use Rattle.std.proofs.Common.{get_or, refl, sym, ◌∙◌, ap, arith, append_assoc, append-nil}
use Rattle.std.specs.Int.{w32, to_le_bytes}
use Rattle.ra_progress.specs.declared.shape.ItemShape.{ItemShape}
use Rattle.ra_progress.specs.declared.shape.ItemShape.TheVariants.{Achievement, Leaderboard}
use Rattle.ra_progress.specs.declared.shape.PresenceShape.{PresenceShape}
use Rattle.ra_progress.specs.declared.snapshot.ItemKept.{ItemKept}
use Rattle.ra_progress.specs.Contents.{kept_item, Name, KeptItem, OfAchievement, OfBoard, KeptPresence, ItemFits}
use Rattle.ra_progress.specs.Contents.{ItemsFit, PresenceFits}
use Rattle.ra_progress.specs.Layout.{item_length, script_length}
use Rattle.ra_text.specs.Words.{words}
use Rattle.ra_text.proofs.Pieces.{length_words}
use Rattle.ra_progress.specs.Spelling.{item_bytes, presence_bytes, named_words, named_blocks}

-- an item's block is as long as its shape says
pub length_item : (shape : ItemShape) (item : KeptItem) → ItemFits shape item
    → length (item_bytes item) ≡ item_length shape
length_item (Achievement count) (OfAchievement state measured hits earned) fits =
    omega (arith, length_words hits, fits.3.as_many)
length_item (Leaderboard count parts) (OfBoard state hits numbers) fits =
    omega (
      arith,
      length_words hits,
      length_words numbers,
      length-append (words hits) (words numbers),
      fits.1.as_many,
      fits.2.as_many,
    )
length_item (Achievement count) (OfBoard state hits numbers) fits = absurd fits
length_item (Leaderboard count parts) (OfAchievement state measured hits earned) fits = absurd fits

-- a script's block is as long as its shape says
pub length_presence : (shape : PresenceShape) (p : KeptPresence)
    → PresenceFits (Some shape) (Some p) → length (presence_bytes p) ≡ script_length (Some shape)
length_presence shape p fits =
    omega (
      arith,
      length-append (words (p.shown ∷ p.hits)) (words p.numbers),
      length_words (p.shown ∷ p.hits),
      length_words p.numbers,
      fits.1.as_many,
      fits.2.as_many,
    )

-- as many items are kept as there are shapes
pub items_as_many : (shapes : List ItemShape) (items : List KeptItem) → ItemsFit shapes items
    → length items ≡ length shapes
items_as_many [] [] fit = refl
items_as_many [] (item ∷ items) fit = absurd fit
items_as_many (shape ∷ shapes) [] fit = absurd fit
items_as_many (shape ∷ shapes) (item ∷ items) fit = let rest = items_as_many shapes items fit.1 in omega (arith, rest)

-- one more name with its number
words_more_next : (names : List Name) (numbers : List ℕ) (k : ℕ) (d : Name) → k < length names
    → k < length numbers → named_words (take (suc k) names) (take (suc k) numbers) ≡ named_words
    (take k names) (take k numbers) ++ (get_or names k d ++ to_le_bytes w32 (get_or numbers k 0))
words_more_next [] numbers k d one two = absurd (omega (arith, one))
words_more_next (name ∷ names) [] k d one two = absurd (omega (arith, two))
words_more_next (name ∷ names) (number ∷ numbers) zero d one two =
    ap (λ xs. name ++ xs) (append-nil (to_le_bytes w32 number))
words_more_next (name ∷ names) (number ∷ numbers) (suc k) d one two =
    let before = named_words (take k names) (take k numbers) in
    let more = get_or names k d ++ to_le_bytes w32 (get_or numbers k 0) in
    ap (λ xs. name ++ (to_le_bytes w32 number ++ xs))
    (words_more_next names numbers k d (omega (arith, one)) (omega (arith, two)))
    ∙ ap (λ xs. name ++ xs) (sym (append_assoc (to_le_bytes w32 number) before more))
    ∙ sym (append_assoc name (to_le_bytes w32 number ++ before) more)

pub words_more : (names : List Name) (numbers : List ℕ) (k : ℕ) (d : Name) → k < length names
    → k < length numbers → named_words (take (k + 1) names) (take (k + 1) numbers) ≡ named_words
    (take k names) (take k numbers) ++ (get_or names k d ++ to_le_bytes w32 (get_or numbers k 0))
words_more names numbers k d one two =
    let next : k + 1 ≡ suc k = omega arith in
    rw next (words_more_next names numbers k d one two)

-- one more name with its block
blocks_more_next : (names : List Name) (blocks : List (List ℕ)) (k : ℕ) (d : Name)
    → k < length names → k < length blocks → named_blocks (take (suc k) names) (take (suc k) blocks)
    ≡ named_blocks (take k names) (take k blocks)
    ++ (get_or names k d ++ (to_le_bytes w32 (length (get_or blocks k [])) ++ get_or blocks k []))
blocks_more_next [] blocks k d one two = absurd (omega (arith, one))
blocks_more_next (name ∷ names) [] k d one two = absurd (omega (arith, two))
blocks_more_next (name ∷ names) (block ∷ blocks) zero d one two =
    ap (λ xs. name ++ (to_le_bytes w32 (length block) ++ xs)) (append-nil block)
blocks_more_next (name ∷ names) (block ∷ blocks) (suc k) d one two =
    let before = named_blocks (take k names) (take k blocks) in
    let more = get_or names k d ++ (to_le_bytes w32 (length (get_or blocks k [])) ++ get_or blocks k []) in
    ap (λ xs. name ++ (to_le_bytes w32 (length block) ++ (block ++ xs)))
    (blocks_more_next names blocks k d (omega (arith, one)) (omega (arith, two)))
    ∙ ap (λ xs. name ++ (to_le_bytes w32 (length block) ++ xs)) (sym (append_assoc block before more))
    ∙ ap (λ xs. name ++ xs) (sym (append_assoc (to_le_bytes w32 (length block)) (block ++ before) more))
    ∙ sym (append_assoc name (to_le_bytes w32 (length block) ++ (block ++ before)) more)

pub blocks_more : (names : List Name) (blocks : List (List ℕ)) (k : ℕ) (d : Name) → k < length names
    → k < length blocks → named_blocks (take (k + 1) names) (take (k + 1) blocks)
    ≡ named_blocks (take k names) (take k blocks)
    ++ (get_or names k d ++ (to_le_bytes w32 (length (get_or blocks k [])) ++ get_or blocks k []))
blocks_more names blocks k d one two =
    let next : k + 1 ≡ suc k = omega arith in
    rw next (blocks_more_next names blocks k d one two)

-- names and blocks in two parts
pub blocks_parts : (names others : List Name) (blocks rest : List (List ℕ)) → length names
    ≡ length blocks → named_blocks (names ++ others) (blocks ++ rest)
    ≡ named_blocks names blocks ++ named_blocks others rest
blocks_parts [] others [] rest same = refl
blocks_parts [] others (block ∷ blocks) rest same = absurd (omega (arith, same))
blocks_parts (name ∷ names) others [] rest same = absurd (omega (arith, same))
blocks_parts (name ∷ names) others (block ∷ blocks) rest same =
    let before = named_blocks names blocks in
    let more = named_blocks others rest in
    ap (λ xs. name ++ (to_le_bytes w32 (length block) ++ (block ++ xs)))
    (blocks_parts names others blocks rest (omega (arith, same)))
    ∙ ap (λ xs. name ++ (to_le_bytes w32 (length block) ++ xs)) (sym (append_assoc block before more))
    ∙ ap (λ xs. name ++ xs) (sym (append_assoc (to_le_bytes w32 (length block)) (block ++ before) more))
    ∙ sym (append_assoc name (to_le_bytes w32 (length block) ++ (block ++ before)) more)

-- what is written in steps is written in one
pub steps_3 : (a b c d : List ℕ) → ((a ++ b) ++ c) ++ d ≡ a ++ (b ++ (c ++ d))
steps_3 a b c d = append_assoc (a ++ b) c d ∙ append_assoc a b (c ++ d)

pub steps_6 : (a b c d e f g : List ℕ) → (((((a ++ b) ++ c) ++ d) ++ e) ++ f) ++ g
    ≡ a ++ (b ++ (c ++ (d ++ (e ++ (f ++ g)))))
steps_6 a b c d e f g = append_assoc ((((a ++ b) ++ c) ++ d) ++ e) f g
    ∙ append_assoc (((a ++ b) ++ c) ++ d) e (f ++ g) ∙ steps_3 (a ++ b) c d (e ++ (f ++ g))
    ∙ append_assoc a b (c ++ (d ++ (e ++ (f ++ g))))

-- one name with its block
pub one_block : (name : Name) (block : List ℕ) → named_blocks (name ∷ []) (block ∷ [])
    ≡ name ++ (to_le_bytes w32 (length block) ++ block)
one_block name block = ap (λ xs. name ++ (to_le_bytes w32 (length block) ++ xs)) (append-nil block)

-- the block of an item in a list
pub block_of : (items : List ItemKept) (k : ℕ) (d : ItemKept) → k < length items
    → get_or (map item_bytes (map kept_item items)) k [] ≡ item_bytes (kept_item (get_or items k d))
block_of [] k d below = absurd (omega (arith, below))
block_of (item ∷ items) zero d below = refl
block_of (item ∷ items) (suc k) d below = block_of items k d (omega (arith, below))
