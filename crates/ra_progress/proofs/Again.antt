-- The set's own bytes are the bytes of what they say.
use Rattle.std.proofs.Common.{◌≡◌, ℕ, zero, suc, ◌+◌, ◌*◌, ◌-◌, ◌<◌, ◌≤◌, ◌==◌, true, false, if◌then◌else◌, nat_le}
use Rattle.std.proofs.Common.{Option, None, Some, option_map, is_some, List, [], ◌∷◌, ◌++◌, length, map, take, bytes_eq}
use Rattle.std.proofs.Common.{slice_index, slice_index_or, refl, sym, ◌∙◌, ap, ap₂, subst, arith, drop-cons}
use Rattle.std.specs.List.{AllByRecursion}
use Rattle.std.specs.Int.{w32, w64, to_le_bytes}
use Rattle.std.proofs.lemmas.Bool.{eqb-true, leb-true}
use Rattle.std.proofs.lemmas.Nat.{le_bytes_4, le_bytes_8}
use Rattle.std.proofs.lemmas.List.{take-append-drop}
use Rattle.std.proofs.lemmas.Slice.Eq.{bytes_eq-Decides}
use Rattle.md5.specs.Md5.{md5}
use Rattle.ra_progress.specs.declared.shape.ItemShape.{ItemShape}
use Rattle.ra_progress.specs.declared.shape.ItemShape.TheVariants.{Achievement, Leaderboard}
use Rattle.ra_progress.specs.declared.shape.PresenceShape.{PresenceShape}
use Rattle.ra_progress.specs.Contents.{Name, ShapeContents, OfPresence, Own, own_items, own_presence, own_entries}
use Rattle.ra_progress.specs.Contents.{plain_presence}
use Rattle.ra_text.specs.Words.{word_at, words_at, words}
use Rattle.ra_progress.specs.Layout.{Entry, name_at, version_in, digest_in, frames_at, item_length, block_length}
use Rattle.ra_progress.specs.Layout.{cell_count, prior_count, entry_count, first_entry, entry_after, entries_from}
use Rattle.ra_progress.specs.Layout.{entries_in, cells_in, priors_in}
use Rattle.ra_progress.specs.Names.{entry_names}
use Rattle.ra_progress.specs.Spelling.{state_byte, item_bytes, presence_bytes, presence_block, blocks_of, named_words}
use Rattle.ra_progress.specs.Spelling.{named_blocks, mark, body_bytes, progress_bytes}
use Rattle.ra_progress.specs.Reading.{HasLayout, have_sizes, IsAccepted}
use Rattle.ra_progress.specs.Saying.{is_earned, state_said, said_item, said_items, said_presence, said_or, own_places}
use Rattle.ra_progress.specs.Saying.{says}
use Rattle.ra_progress.specs.Laws.{IsShape, IsOwn}
use Rattle.ra_progress.proofs.Owns.{names_count}
use Rattle.ra_progress.proofs.Walks.{IsWalk, walk_first, walk_next}
use Rattle.ra_progress.proofs.ByName.{numbered_from}
use Rattle.ra_progress.proofs.Passes.{both_true, this_set_count}
use Rattle.ra_progress.proofs.Placed.{whole_layout, sizes_of_this_set}
use Rattle.ra_progress.proofs.OwnFile.{place_of_block}
use Rattle.ra_text.proofs.Pieces.{piece, joined, length_piece, piece_below, words_again}

-- the state byte of an achievement is that of the state and flag that it says
byte_again : (byte : ℕ) → state_byte (state_said 3 byte) (is_earned 3 byte) ≡ byte
byte_again byte =
    elim (nat_le 8 byte) as (λ b. nat_le 8 byte ≡ b → state_byte (if b then byte - 8 else byte) b ≡ byte) [
      | true ↦ λ e. omega (arith, leb-true 8 byte e)
      | false ↦ λ e. omega arith
    ] refl

module _ (bytes : List ℕ) (fit : AllByRecursion (λ b. b < 256) bytes) where
  one_byte : (at : ℕ) → at < length bytes → slice_index bytes at ∷ [] ≡ piece bytes at 1
  one_byte at below = rw (drop-cons bytes at 0) refl

  word_again : (at : ℕ) → at + 4 ≤ length bytes → to_le_bytes w32 (word_at bytes at) ≡ piece bytes at 4
  word_again at within =
      le_bytes_4 (piece bytes at 4) (word_at bytes at) (length_piece bytes at 4 within)
      (piece_below bytes at 4 fit) refl

  -- two parts in a row
  glue : (x y : List ℕ) (at n next m both : ℕ) → x ≡ piece bytes at n → y ≡ piece bytes next m → next ≡ at + n
      → both ≡ n + m → x ++ y ≡ piece bytes at both
  glue x y at n next m both left right e f = ap₂ (λ xs ys. xs ++ ys) left right ∙ joined bytes at n next m both e f

  item_again : (at : ℕ) (shape : ItemShape) → version_in bytes ≡ 3 → at + item_length shape ≤ length bytes
      → item_bytes (said_item bytes shape at) ≡ piece bytes at (item_length shape)
  item_again at (Achievement hits) three within =
      let byte = slice_index bytes at in
      let same : state_byte (state_said (version_in bytes) byte) (is_earned (version_in bytes) byte) ≡ byte = ap
      (λ version. state_byte (state_said version byte) (is_earned version byte)) three ∙ byte_again byte in
      glue (state_byte (state_said (version_in bytes) byte) (is_earned (version_in bytes) byte) ∷ [])
      (words (word_at bytes (at + 1) ∷ words_at bytes (at + 5) hits)) at 1 (at + 1) (4 + 4 * hits) (5 + 4 * hits)
      (ap (λ b. b ∷ []) same ∙ one_byte at (omega (arith, within)))
      (glue (to_le_bytes w32 (word_at bytes (at + 1))) (words (words_at bytes (at + 5) hits)) (at + 1) 4 (at + 5)
      (4 * hits) (4 + 4 * hits) (word_again (at + 1) (omega (arith, within)))
      (words_again bytes (at + 5) hits fit (omega (arith, within))) (omega arith) refl)
      refl (omega arith)
  item_again at (Leaderboard hits parts) three within =
      glue (slice_index bytes at ∷ [])
      (words (words_at bytes (at + 1) hits) ++ words (words_at bytes (at + 1 + 4 * hits) parts)) at 1 (at + 1)
      (4 * (hits + parts)) (1 + 4 * (hits + parts))
      (one_byte at (omega (arith, within)))
      (glue (words (words_at bytes (at + 1) hits)) (words (words_at bytes (at + 1 + 4 * hits) parts)) (at + 1)
      (4 * hits) (at + 1 + 4 * hits) (4 * parts) (4 * (hits + parts))
      (words_again bytes (at + 1) hits fit (omega (arith, within)))
      (words_again bytes (at + 1 + 4 * hits) parts fit (omega (arith, within))) refl (omega arith))
      refl refl

  script_again : (at : ℕ) (p : PresenceShape) → at + block_length (OfPresence p) ≤ length bytes
      → presence_bytes (said_presence bytes p at) ≡ piece bytes at (block_length (OfPresence p))
  script_again at p within =
      glue (words (word_at bytes at ∷ words_at bytes (at + 4) p.hits))
      (words (words_at bytes (at + 4 + 4 * p.hits) p.parts)) at (4 + 4 * p.hits) (at + 4 + 4 * p.hits) (4 * p.parts)
      (4 + 4 * (p.hits + p.parts))
      (glue (to_le_bytes w32 (word_at bytes at)) (words (words_at bytes (at + 4) p.hits)) at 4 (at + 4) (4 * p.hits)
      (4 + 4 * p.hits) (word_again at (omega (arith, within)))
      (words_again bytes (at + 4) p.hits fit (omega (arith, within))) refl refl)
      (words_again bytes (at + 4 + 4 * p.hits) p.parts fit (omega (arith, within))) (omega arith) (omega arith)

  -- names with their numbers
  named_again : (at j count : ℕ) → at + 20 * j + 20 * count ≤ length bytes
      → named_words (map (λ n. n.name) (numbered_from bytes at j count)) (map (λ n. n.number)
      (numbered_from bytes at j count)) ≡ piece bytes (at + 20 * j) (20 * count)
  named_again at j zero within = refl
  named_again at j (suc count) within =
      let place = at + 20 * j in
      let later = named_words (map (λ n. n.name) (numbered_from bytes at (j + 1) count))
      (map (λ n. n.number) (numbered_from bytes at (j + 1) count)) in
      glue (name_at bytes place) (to_le_bytes w32 (word_at bytes (place + 16)) ++ later) place 16 (place + 16)
      (4 + 20 * count) (20 * suc count) refl
      (glue (to_le_bytes w32 (word_at bytes (place + 16))) later (place + 16) 4 (at + 20 * (j + 1)) (20 * count)
      (4 + 20 * count) (word_again (place + 16) (omega (arith, within)))
      (named_again at (j + 1) count (omega (arith, within))) (omega arith) refl)
      refl (omega arith)

  -- the block of an entry
  abbrev pub block_of_entry : Entry → List ℕ
  block_of_entry entry = piece bytes (entry.at + 20) entry.size

  -- entries up to the closing sum
  blocks_again : (left at : ℕ) → IsWalk bytes left at
      → named_blocks (map (λ entry. entry.name) (entries_from bytes left at))
      (map block_of_entry (entries_from bytes left at)) ≡ piece bytes at (length bytes - 16 - at)
  blocks_again zero at walk =
      let none : length bytes - 16 - at ≡ 0 = omega (arith, walk.whole) in
      rw none refl
  blocks_again (suc left) at walk =
      let next = walk_next bytes (suc left) at (omega arith) walk in
      let one : suc left - 1 ≡ left = omega arith in
      let size = word_at bytes (at + 16) in
      let block = piece bytes (at + 20) size in
      let later = named_blocks (map (λ entry. entry.name) (entries_from bytes left (entry_after bytes at)))
      (map block_of_entry (entries_from bytes left (entry_after bytes at))) in
      let rest = blocks_again left (entry_after bytes at)
      (subst (λ n. IsWalk bytes n (entry_after bytes at)) one next.1) in
      let long : length block ≡ size = length_piece bytes (at + 20) size (omega (arith, next.0)) in
      glue (name_at bytes at) (to_le_bytes w32 (length block) ++ (block ++ later)) at 16 (at + 16)
      (length bytes - 16 - (at + 16)) (length bytes - 16 - at) refl
      (glue (to_le_bytes w32 (length block)) (block ++ later) (at + 16) 4 (at + 20) (length bytes - 16 - (at + 20))
      (length bytes - 16 - (at + 16)) (ap (to_le_bytes w32) long ∙ word_again (at + 16) (omega (arith, next.0)))
      (glue block later (at + 20) size (entry_after bytes at) (length bytes - 16 - entry_after bytes at)
      (length bytes - 16 - (at + 20)) refl rest refl (omega (arith, next.0))) (omega arith) (omega (arith, next.0)))
      refl (omega (arith, next.0))

  -- the blocks of what the items and the script say
  script_blocks : (name : Option Name) (shape : Option PresenceShape) (left at : ℕ) → is_some name ≡ is_some shape
      → IsWalk bytes left at → have_sizes (own_presence name shape) (entries_from bytes left at) ≡ true
      → presence_block (option_map (λ p. said_or (said_presence bytes p) (plain_presence p)
      (slice_index_or (map place_of_block (entries_from bytes left at)) 0 None)) shape)
      ≡ map block_of_entry (entries_from bytes left at)
  script_blocks None None zero at same walk sized = refl
  script_blocks None None (suc left) at same walk sized = absurd (cc sized)
  script_blocks None (Some p) left at same walk sized = absurd (cc same)
  script_blocks (Some name) None left at same walk sized = absurd (cc same)
  script_blocks (Some name) (Some p) zero at same walk sized = absurd (cc sized)
  script_blocks (Some name) (Some p) (suc zero) at same walk sized =
      let next = walk_next bytes 1 at (omega arith) walk in
      let long = eqb-true (word_at bytes (at + 16)) (block_length (OfPresence p))
      (both_true (word_at bytes (at + 16) == block_length (OfPresence p)) true sized).0 in
      ap (λ block. block ∷ []) (script_again (at + 20) p (omega (arith, next.0, long)) ∙ ap (piece bytes (at + 20))
      (sym long))
  script_blocks (Some name) (Some p) (suc (suc left)) at same walk sized =
      let both = both_true (word_at bytes (at + 16) == block_length (OfPresence p)) false sized in absurd
      (cc both.1)

  items_blocks : (names : List Name) (shapes : List ItemShape) (name : Option Name)
      (shape : Option PresenceShape) (left at : ℕ) → version_in bytes ≡ 3 → length names
      ≡ length shapes → is_some name ≡ is_some shape → IsWalk bytes left at
      → have_sizes (own_items names shapes ++ own_presence name shape) (entries_from bytes left at) ≡ true
      → map item_bytes (said_items bytes shapes (map place_of_block (entries_from bytes left at)))
      ++ presence_block (option_map (λ p. said_or (said_presence bytes p) (plain_presence p)
      (slice_index_or (map place_of_block (entries_from bytes left at)) (length shapes) None))
      shape)
      ≡ map block_of_entry (entries_from bytes left at)
  items_blocks [] [] name shape left at three many same walk sized =
      script_blocks name shape left at same walk sized
  items_blocks [] (item ∷ items) name shape left at three many same walk sized = absurd (omega (arith, many))
  items_blocks (n ∷ names) [] name shape left at three many same walk sized = absurd (omega (arith, many))
  items_blocks (n ∷ names) (item ∷ items) name shape zero at three many same walk sized = absurd (cc sized)
  items_blocks (n ∷ names) (item ∷ items) name shape (suc left) at three many same walk sized =
      let next = walk_next bytes (suc left) at (omega arith) walk in
      let one : suc left - 1 ≡ left = omega arith in
      let both = both_true (word_at bytes (at + 16) == item_length item)
      (have_sizes (own_items names items ++ own_presence name shape)
      (entries_from bytes left (entry_after bytes at))) sized in
      let long = eqb-true (word_at bytes (at + 16)) (item_length item) both.0 in
      ap₂ (λ x xs. x ∷ xs) (item_again (at + 20) item three (omega (arith, next.0, long)) ∙ ap
      (piece bytes (at + 20)) (sym long))
      (items_blocks names items name shape left (entry_after bytes at) three (omega (arith, many)) same
      (subst (λ n. IsWalk bytes n (entry_after bytes at)) one next.1) both.1)

  module _ (shape : ShapeContents) (is_shape : IsShape shape) (ok : IsAccepted shape bytes)
      (own : IsOwn shape bytes) where
    abbrev owns : List Own
    owns = own_entries shape

    abbrev ends : ℕ
    ends = length bytes - 16

    layout : HasLayout bytes
    layout = whole_layout shape bytes ok.whole (ap (λ version. version == 1) own.version)

    walk : IsWalk bytes (entry_count bytes) (first_entry bytes)
    walk = walk_first bytes layout

    sized : have_sizes owns (entries_in bytes) ≡ true
    sized = sizes_of_this_set shape bytes own.this_set

    digest_is : digest_in bytes ≡ shape.digest
    digest_is =
        (bytes_eq-Decides (digest_in bytes) shape.digest).0
        (both_true (bytes_eq (digest_in bytes) shape.digest) _ own.this_set).0

    cells_many : length shape.cells ≡ cell_count bytes
    cells_many =
        sym (eqb-true (cell_count bytes) (length shape.cells)
        (both_true (cell_count bytes == length shape.cells) _
        (both_true (bytes_eq (digest_in bytes) shape.digest) _ own.this_set).1).0)

    priors_many : length shape.priors ≡ prior_count bytes
    priors_many =
        sym (eqb-true (prior_count bytes) (length shape.priors)
        (both_true (prior_count bytes == length shape.priors) _
        (both_true (cell_count bytes == length shape.cells) _
        (both_true (bytes_eq (digest_in bytes) shape.digest) _ own.this_set).1).1).0)

    entries_many : length (entry_names shape) ≡ entry_count bytes
    entries_many = sym (names_count shape is_shape.paired) ∙ this_set_count owns bytes sized

    -- what is read by its places
    cells_said : (says shape bytes).cells ≡ map (λ n. n.number) (cells_in bytes)
    cells_said = rw (own.version, own.this_set) refl

    priors_said : (says shape bytes).priors ≡ map (λ n. n.number) (priors_in bytes)
    priors_said = rw (own.version, own.this_set) refl

    places_said : own_places shape bytes ≡ map place_of_block (entries_in bytes)
    places_said = rw (own.version, own.this_set) refl

    blocks_said : blocks_of (says shape bytes) ≡ map block_of_entry (entries_in bytes)
    blocks_said =
        ap (λ places. map item_bytes (said_items bytes shape.items places) ++ presence_block
        (option_map (λ p. said_or (said_presence bytes p) (plain_presence p)
        (slice_index_or places (length shape.items) None)) shape.presence)) places_said
        ∙ items_blocks shape.item_names shape.items shape.presence_name shape.presence (entry_count bytes)
        (first_entry bytes) own.version is_shape.paired.items is_shape.paired.presence walk sized

    entries_bytes : named_blocks (entry_names shape) (blocks_of (says shape bytes))
        ≡ piece bytes (first_entry bytes) (ends - first_entry bytes)
    entries_bytes =
        ap₂ named_blocks (sym own.entries) blocks_said ∙ blocks_again (entry_count bytes) (first_entry bytes) walk

    cells_bytes : named_words shape.cells (says shape bytes).cells ≡ piece bytes 33 (20 * cell_count bytes)
    cells_bytes =
        ap₂ named_words (sym own.cells) cells_said ∙ named_again 33 0 (cell_count bytes)
        (omega (arith, walk.within))

    priors_bytes : named_words shape.priors (says shape bytes).priors
        ≡ piece bytes (37 + 20 * cell_count bytes) (20 * prior_count bytes)
    priors_bytes =
        let start : 37 + 20 * cell_count bytes + 20 * 0 ≡ 37 + 20 * cell_count bytes = omega arith in
        ap₂ named_words (sym own.priors) priors_said ∙ named_again (37 + 20 * cell_count bytes) 0
        (prior_count bytes) (omega (arith, walk.within)) ∙ ap (λ at. piece bytes at (20 * prior_count bytes)) start

    -- a part, and all behind it up to the closing sum
    up_to_end : (x y : List ℕ) (at n next : ℕ) → x ≡ piece bytes at n → y ≡ piece bytes next (ends - next)
        → next ≡ at + n → next ≤ ends → x ++ y ≡ piece bytes at (ends - at)
    up_to_end x y at n next left right e within =
        glue x y at n next (ends - next) (ends - at) left right e (omega (arith, e, within))

    pub again : progress_bytes shape (says shape bytes) ≡ bytes
    again =
        let c = cell_count bytes in
        let p = prior_count bytes in
        let o = says shape bytes in
        let entries = up_to_end (to_le_bytes w32 (length (entry_names shape)))
        (named_blocks (entry_names shape) (blocks_of o)) (37 + 20 * (c + p)) 4 (first_entry bytes)
        (ap (to_le_bytes w32) entries_many ∙ word_again (37 + 20 * (c + p))
        (omega (arith, walk.within))) entries_bytes (omega arith) (omega (arith, walk.within)) in
        let priors = up_to_end (named_words shape.priors o.priors) _ (37 + 20 * c) (20 * p)
        (37 + 20 * (c + p)) priors_bytes entries (omega arith) (omega (arith, walk.within)) in
        let prior_count = up_to_end (to_le_bytes w32 (length shape.priors)) _ (33 + 20 * c) 4 (37 + 20 * c)
        (ap (to_le_bytes w32) priors_many ∙ word_again (33 + 20 * c) (omega (arith, walk.within))) priors
        (omega arith) (omega (arith, walk.within)) in
        let cells = up_to_end (named_words shape.cells o.cells) _ 33 (20 * c)
        (33 + 20 * c) cells_bytes prior_count refl (omega (arith, walk.within)) in
        let cell_count = up_to_end (to_le_bytes w32 (length shape.cells)) _ 29 4 33
        (ap (to_le_bytes w32) cells_many ∙ word_again 29 (omega (arith, walk.within))) cells refl
        (omega (arith, walk.within)) in
        let frames = up_to_end (to_le_bytes w64 (frames_at bytes)) _ 21 8 29
        (le_bytes_8 (piece bytes 21 8) (frames_at bytes) (length_piece bytes 21 8 (omega (arith, walk.within)))
        (piece_below bytes 21 8 fit) refl) cell_count refl (omega (arith, walk.within)) in
        let digest = up_to_end shape.digest _ 5 16 21 (sym digest_is) frames refl (omega (arith, walk.within)) in
        let version = up_to_end (3 ∷ []) _ 4 1 5
        (ap (λ n. n ∷ []) (sym own.version) ∙ one_byte 4 (omega (arith, walk.within))) digest refl
        (omega (arith, walk.within)) in
        let marked = up_to_end mark _ 0 4 4 (sym ok.whole.marked) version refl (omega (arith, walk.within)) in
        let whole : ends - 0 ≡ ends = omega arith in
        let body : body_bytes shape o ≡ take ends bytes = marked ∙ ap (λ n. take n bytes) whole in
        ap (λ xs. xs ++ md5 xs) body ∙ ap (λ xs. take ends bytes ++ xs) (sym ok.sum) ∙ take-append-drop ends bytes
