-- A row over which the blocks of items and of a display are written.
use Rattle.std.proofs.Common.{◌≡◌, ℕ, ◌+◌, ◌<◌, ◌≤◌, ◌^◌, Option, None, Some, IfSome, List, [], ◌++◌, length, map, take}
use Rattle.std.proofs.Common.{drop, get_or, sum_by, refl, sym, ◌∙◌, ap, subst, arith, append_assoc, length-append}
use Rattle.std.specs.List.{concat}
use Rattle.std.proofs.lemmas.List.{take-append-drop, length-take-le, length-drop, get_or_append_left}
use Rattle.std.proofs.Math.Seq.{drop-append_seam}
use Rattle.ra_progress.specs.declared.shape.ItemShape.{ItemShape}
use Rattle.ra_progress.specs.declared.shape.PresenceShape.{PresenceShape}
use Rattle.ra_progress.specs.Contents.{KeptItem, KeptPresence, ItemsFit, PresenceFits}
use Rattle.ra_progress.specs.Layout.{item_length, script_length, version_in}
use Rattle.ra_progress.specs.Spelling.{item_bytes, presence_block, presence_bytes}
use Rattle.ra_progress.proofs.Blocks.{length_presence}
use Rattle.ra_display.specs.Keeping.{PutsOver}
use Rattle.ra_display.proofs.Putting.{puts_both}
use Rattle.ra_items.proofs.KeptItems.{blocks_long}
use Rattle.ra_runtime.specs.declared.kept.Kept.TheInside.{Inside}
use Rattle.ra_runtime.specs.Keeping.{AreBlocks, IsKept}

pub display_long : (shape : Option PresenceShape) (kept : Option KeptPresence)
    → PresenceFits shape kept → length (concat (presence_block kept)) ≡ script_length shape
display_long None None fits = refl
display_long None (Some kept) fits = absurd fits
display_long (Some shape) None fits = absurd fits
display_long (Some shape) (Some kept) fits = omega
    (arith, length_presence shape kept fits, length-append (presence_bytes kept) [])

-- there is room for blocks where there are some
pub room_again : (bytes : List ℕ) (shapes : List ItemShape) (presence : Option PresenceShape)
    (items : List KeptItem) (kept : Option KeptPresence)
    → AreBlocks bytes shapes presence items kept → 20 + sum_by item_length shapes + script_length
    presence ≤ length bytes
room_again bytes shapes presence items kept blocks =
    let xs = concat (map item_bytes items) in
    let ys = concat (presence_block kept) in
    let whole = ap length blocks.here in
    omega (
      arith,
      blocks.long,
      whole,
      length-drop 20 bytes,
      length-append
          (xs ++ ys) blocks.behind,
      length-append xs ys,
      blocks_long shapes items blocks.fit,
      display_long presence kept blocks.fits,
    )

module _ (old mid new : List ℕ) (at next : ℕ) (xs ys : List ℕ) (far : 20 ≤ length old)
    (first : PutsOver old mid 20 at xs) (last : PutsOver mid new at next ys) where
  abbrev rest : List ℕ
  rest = (xs ++ ys) ++ drop next new

  whole : new ≡ take 20 old ++ rest
  whole =
      sym (take-append-drop next new)
      ∙ ap (λ zs. zs ++ drop next new) (puts_both old mid new 20 at next xs ys first last).front
      ∙ append_assoc (take 20 old) (xs ++ ys) (drop next new)

  head : length (take 20 old) ≡ 20
  head = length-take-le 20 old far

  pub rest_written : drop 20 new ≡ (xs ++ ys) ++ drop next new
  rest_written = ap (λ n. drop n new) (sym head) ∙ ap (drop (length (take 20 old))) whole
      ∙ drop-append_seam (take 20 old) rest

  pub version_stays : version_in new ≡ version_in old
  version_stays =
      ap (λ zs. get_or zs 4 0) whole
      ∙ get_or_append_left (take 20 old) rest 0 4 (omega (arith, head))
      ∙ sym (get_or_append_left (take 20 old) (drop 20 old) 0 4 (omega (arith, head)))
      ∙ ap (λ zs. get_or zs 4 0) (take-append-drop 20 old)

-- the blocks that are written are those of the items and of the display
pub blocks_written : (old mid new : List ℕ) (at next : ℕ) (shapes : List ItemShape)
    (presence : Option PresenceShape) (items : List KeptItem) (kept : Option KeptPresence)
    → 20 ≤ length old → version_in old ≡ 3 → IfSome presence (λ p. p.lines < 2 ^ 32)
    → ItemsFit shapes items → PresenceFits presence kept
    → PutsOver old mid 20 at (concat (map item_bytes items))
    → PutsOver mid new at next (concat (presence_block kept)) → AreBlocks new shapes presence items kept
blocks_written old mid new at next shapes presence items kept far three small fit fits first last =
    let xs = concat (map item_bytes items) in
    let ys = concat (presence_block kept) in
    record {
      long = omega (arith, far, first.long, last.long);
      version = version_stays old mid new at next xs ys far first last ∙ three;
      fit = fit;
      fits = fits;
      small = small;
      behind = drop next new;
      here = rest_written old mid new at next xs ys far first last;
    }

-- the blocks that are written over those of a kept state
pub blocks_noted : (t : Inside) → IsKept t → (one two three : List ℕ) (at next : ℕ)
    (items : List KeptItem) (kept : Option KeptPresence) → one ≡ t.bytes.items
    → ItemsFit t.items.items items → PresenceFits t.presence kept
    → PutsOver one two 20 at (concat (map item_bytes items))
    → PutsOver two three at next (concat (presence_block kept)) → AreBlocks three t.items.items t.presence items kept
blocks_noted t is one two three at next items kept same fit fits first last =
    blocks_written t.bytes.items two three at next t.items.items t.presence items kept
    is.blocks.long is.blocks.version is.blocks.small fit fits
    (subst (λ xs. PutsOver xs two 20 at (concat (map item_bytes items))) same first) last
