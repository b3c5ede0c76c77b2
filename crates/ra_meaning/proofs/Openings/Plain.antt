-- The opening of a set that was never played is an opening of it.
use Rattle.std.proofs.Common.{◌≡◌, ℕ, ◌<◌, Option, None, Some, option_map, List, [], ◌∷◌, length, map, replicate, refl}
use Rattle.std.proofs.Common.{arith, lit<, lit≤}
use Rattle.std.proofs.lemmas.List.{length-replicate}
use Rattle.ra_richpresence.specs.Contents.{ScriptContents}
use Rattle.ra_set.specs.Contents.{SetContents}
use Rattle.ra_progress.specs.declared.shape.ItemShape.{ItemShape}
use Rattle.ra_progress.specs.declared.shape.ItemShape.TheVariants.{Achievement, Leaderboard}
use Rattle.ra_progress.specs.declared.shape.PresenceShape.{PresenceShape}
use Rattle.ra_text.specs.Words.{AreWords}
use Rattle.ra_progress.specs.Contents.{ItemFits, ItemsFit, PresenceFits, IsOpening, plain_item, plain_presence}
use Rattle.ra_meaning.specs.Order.{presence_shape, shape_of}
use Rattle.ra_meaning.specs.Openings.{plain_opening}
use Rattle.ra_meaning.proofs.Each.{each_replicate}
use Rattle.ra_meaning.proofs.Words.Trees.{IsWord}

-- a script, where there is one, has a line
abbrev pub HasLines : SetContents → Type 0
HasLines set = (script : ScriptContents) → set.script ≡ Some script → 0 < length script.lines

zeros : (n : ℕ) → AreWords n (replicate n 0)
zeros n = record { as_many = length-replicate n 0; fit = each_replicate IsWord n 0 (lit< tt) }

plain_item_fits : (shape : ItemShape) → ItemFits shape (plain_item shape)
plain_item_fits (Achievement hits) = (lit≤ tt, λ four. absurd (omega (arith, four)), lit< tt, zeros hits)
plain_item_fits (Leaderboard hits parts) = (lit≤ tt, zeros hits, zeros parts)

plain_items_fit : (shapes : List ItemShape) → ItemsFit shapes (map plain_item shapes)
plain_items_fit [] = tt
plain_items_fit (shape ∷ shapes) = (plain_item_fits shape, plain_items_fit shapes)

plain_presence_fits : (script : Option ScriptContents)
    → ((s : ScriptContents) → script ≡ Some s → 0 < length s.lines) → PresenceFits (option_map
    presence_shape script) (option_map plain_presence (option_map presence_shape script))
plain_presence_fits None has = tt
plain_presence_fits (Some script) has =
    let shape : PresenceShape = presence_shape script in
    let some : 0 < length script.lines = has script refl in
    (omega (arith, some), zeros shape.hits, zeros shape.parts)

-- all waits, the last line is shown, and all numbers are 0
pub plain_fits : (set : SetContents) → HasLines set → IsOpening (shape_of set) (plain_opening set)
plain_fits set has = record {
  frames = lit< tt;
  cells = zeros (length (shape_of set).cells);
  priors = zeros (length (shape_of set).priors);
  items = plain_items_fit (shape_of set).items;
  presence = plain_presence_fits set.script has;
}
