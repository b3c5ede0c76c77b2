-- A progress file as it is written, one piece behind the other.
use Rattle.std.proofs.Common.{◌≡◌, ℕ, zero, suc, ◌+◌, ◌<◌, ◌≤◌, ◌^◌, Bool, Option, None, Some, List, [], ◌∷◌, ◌++◌}
use Rattle.std.proofs.Common.{length, map, get_or, option_to_list, sum_by, All, sym, ◌∙◌, ap, arith, append_assoc, Fits}
use Rattle.std.specs.Int.{w32, w64, to_le_bytes}
use Rattle.std.specs.List.{AllByRecursion}
use Rattle.std.proofs.lemmas.List.{length-map}
use Rattle.std.proofs.lemmas.List.Sums.{sum_by-cons}
use Rattle.ra_progress.specs.declared.shape.ItemShape.{ItemShape}
use Rattle.ra_progress.specs.declared.shape.ItemShape.TheVariants.{Achievement, Leaderboard}
use Rattle.ra_progress.specs.declared.shape.PresenceShape.{PresenceShape}
use Rattle.ra_progress.specs.Contents.{ShapeContents, KeptItem, OfAchievement, OfBoard, KeptPresence, Opening, ItemFits}
use Rattle.ra_progress.specs.Contents.{ItemsFit, PresenceFits}
use Rattle.ra_progress.specs.Layout.{item_length, script_length}
use Rattle.ra_progress.specs.Names.{entry_names}
use Rattle.ra_progress.specs.Spelling.{mark, named_words, named_blocks, item_bytes, presence_block, blocks_of}
use Rattle.ra_progress.specs.Spelling.{body_bytes}
use Rattle.ra_progress.specs.Writing.{front_bytes, FitsShort, PresenceShort}
use Rattle.ra_progress.proofs.Blocks.{blocks_parts}

-- what stands behind a row of five pieces and a last one
behind_six : (a b c d e f rest : List ℕ) → (a ++ (b ++ (c ++ (d ++ (e ++ f))))) ++ rest
    ≡ a ++ (b ++ (c ++ (d ++ (e ++ (f ++ rest)))))
behind_six a b c d e f rest =
    append_assoc a (b ++ (c ++ (d ++ (e ++ f)))) rest
    ∙ ap (λ xs. a ++ xs) (append_assoc b (c ++ (d ++ (e ++ f))) rest
    ∙ ap (λ xs. b ++ xs) (append_assoc c (d ++ (e ++ f)) rest
    ∙ ap (λ xs. c ++ xs) (append_assoc d (e ++ f) rest ∙ ap (λ xs. d ++ xs) (append_assoc e f rest))))

-- all but the closing sum is the front, and the entries behind it
body_front : (shape : ShapeContents) (o : Opening)
    → front_bytes shape o.frames o.cells o.priors ++ named_blocks (entry_names shape) (blocks_of o) ≡ body_bytes shape o
body_front shape o =
    let blocks = named_blocks (entry_names shape) (blocks_of o) in
    let frames = to_le_bytes w64 o.frames in
    let cells = named_words shape.cells o.cells in
    let priors = named_words shape.priors o.priors in
    let many_cells = to_le_bytes w32 (length shape.cells) in
    let many_priors = to_le_bytes w32 (length shape.priors) in
    let many = to_le_bytes w32 (length (entry_names shape)) in
    let rest = many_cells ++ (cells ++ (many_priors ++ (priors ++ many))) in
    ap (λ xs. mark ++ 3 ∷ xs) (append_assoc shape.digest (frames ++ rest) blocks
    ∙ ap (λ xs. shape.digest ++ xs) (behind_six frames many_cells cells many_priors priors many blocks))

-- the same, with the items and the script written one behind the other
pub body_in_parts : (shape : ShapeContents) (o : Opening) → length shape.item_names ≡ length o.items
    → (front_bytes shape o.frames o.cells o.priors ++ named_blocks shape.item_names
    (map item_bytes o.items)) ++ named_blocks (option_to_list shape.presence_name) (presence_block o.presence)
    ≡ body_bytes shape o
body_in_parts shape o many =
    let front = front_bytes shape o.frames o.cells o.priors in
    let items = named_blocks shape.item_names (map item_bytes o.items) in
    let script = named_blocks (option_to_list shape.presence_name) (presence_block o.presence) in
    append_assoc front items script
    ∙ ap (λ xs. front ++ xs) (sym (blocks_parts shape.item_names (option_to_list shape.presence_name)
    (map item_bytes o.items) (presence_block o.presence) (many ∙ sym (length-map o.items item_bytes))))
    ∙ body_front shape o

-- a block that is written behind its name and length
pub block_behind : (old name size block now : List ℕ) → now ≡ (old ++ (name ++ size)) ++ block
    → now ≡ old ++ (name ++ (size ++ block))
block_behind old name size block now is =
    is ∙ append_assoc old (name ++ size) block ∙ ap (λ xs. old ++ xs) (append_assoc name size block)

-- what is kept of an achievement is short
achievement_fits : (shape : ItemShape) (state measured : ℕ) (hits : List ℕ) (earned : Bool)
    → ItemFits shape (OfAchievement state measured hits earned) → item_length shape ≤ 8388608
    → (state ≤ 4) × (length hits ≤ 2097152)
achievement_fits (Achievement count) state measured hits earned fits short = (fits.0, omega (arith, fits.3.as_many))
achievement_fits (Leaderboard count parts) state measured hits earned fits short = absurd fits

pub achievement_short : (state measured : ℕ) (hits : List ℕ) (earned : Bool)
    → FitsShort (OfAchievement state measured hits earned) → (state ≤ 4) × (length hits ≤ 2097152)
achievement_short state measured hits earned f = achievement_fits f.shape state measured hits earned f.fits f.short

-- what is kept of a board is short
board_fits : (shape : ItemShape) (state : ℕ) (hits numbers : List ℕ) → ItemFits shape (OfBoard state hits numbers)
    → item_length shape ≤ 8388608 → length hits + length numbers ≤ 2097152
board_fits (Achievement count) state hits numbers fits short = absurd fits
board_fits (Leaderboard count parts) state hits numbers fits short = omega (arith, fits.1.as_many, fits.2.as_many)

pub board_short : (state : ℕ) (hits numbers : List ℕ) → FitsShort (OfBoard state hits numbers)
    → length hits + length numbers ≤ 2097152
board_short state hits numbers f = board_fits f.shape state hits numbers f.fits f.short

-- items of shapes whose blocks are short together are each short
pub all_short : (shapes : List ItemShape) (items : List KeptItem) → ItemsFit shapes items
    → sum_by item_length shapes ≤ 8388608 → All FitsShort items
all_short [] [] fit short k d within = absurd (omega (arith, within))
all_short [] (item ∷ items) fit short k d within = absurd fit
all_short (shape ∷ shapes) [] fit short k d within = absurd fit
all_short (shape ∷ shapes) (item ∷ items) fit short zero d within =
    let one : item_length shape ≤ 8388608 = omega (arith, short, sum_by-cons item_length shape shapes) in
    record { shape = shape; fits = fit.0; short = one }
all_short (shape ∷ shapes) (item ∷ items) fit short (suc k) d within =
    all_short shapes items fit.1 (omega (arith, short, sum_by-cons item_length shape shapes)) k d
    (omega (arith, within))

-- the block of a script that is short
pub presence_short : (shape : Option PresenceShape) (p : Option KeptPresence) → PresenceFits shape p
    → script_length shape ≤ 8388608 → PresenceShort p
presence_short None None fits short = tt
presence_short None (Some p) fits short = absurd fits
presence_short (Some shape) None fits short = absurd fits
presence_short (Some shape) (Some p) fits short = omega (arith, fits.1.as_many, fits.2.as_many)

-- each number of a row of numbers of 32 bits is one
pub all_fit : (numbers : List ℕ) → ((k : ℕ) → Fits w32 (get_or numbers k 0)) → AllByRecursion (λ n. n < 2 ^ 32) numbers
all_fit [] fit = tt
all_fit (n ∷ numbers) fit = (let first = fit 0 in omega (arith, first), all_fit numbers (λ k. fit (suc k)))
