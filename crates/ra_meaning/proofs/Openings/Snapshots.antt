-- What a set keeps after a history is an opening of it, and comes back from its bytes.
use Rattle.std.proofs.Common.{◌≡◌, ℕ, ◌<◌, ◌≤◌, ◌^◌, Option, None, Some, option_map, option_to_list, unwrap_or, is_some}
use Rattle.std.proofs.Common.{IfSome, List, [], ◌∷◌, ◌++◌, length, map, refl, sym, ◌∙◌, ap, subst, arith}
use Rattle.std.specs.List.{AllByRecursion}
use Rattle.std.proofs.lemmas.List.{length-map}
use Rattle.std.proofs.lemmas.Option.{none-some}
use Rattle.ra_memory.specs.Image.{History, AreBytes, AreImages}
use Rattle.ra_richpresence.specs.Contents.{LineContents, ScriptContents}
use Rattle.ra_set.specs.Contents.{SetContents}
use Rattle.ra_set.specs.Spelled.{IsSpelled, OptionalScript}
use Rattle.ra_progress.specs.declared.shape.PresenceShape.{PresenceShape}
use Rattle.ra_progress.specs.Contents.{Opening, IsOpening}
use Rattle.ra_progress.specs.Spelling.{progress_bytes}
use Rattle.ra_progress.specs.Reading.{IsAccepted, refusal}
use Rattle.ra_progress.specs.Saying.{says}
use Rattle.ra_progress.specs.Names.{IsName, IsPaired}
use Rattle.ra_progress.specs.Laws.{IsShape, HasLines, ComesBack}
use Rattle.ra_progress.proofs.SaysOpening.{says_opening}
use Rattle.ra_set.specs.Limits.{IsWithinLimits}
use Rattle.ra_set.specs.Names.{IsNamed, NamesScript}
use Rattle.ra_indirect.specs.Trees.{Cell, Tracked}
use Rattle.ra_memref.specs.Names.{cell_name, tracked_name}
use Rattle.md5.proofs.StandardFacts.{length-md5}
use Rattle.ra_meaning.proofs.Digests.{md5_bytes}
use Rattle.ra_progress.proofs.ComesBack.{comes_back}
use Rattle.ra_progress.proofs.Checks.{accepted_none}
use Rattle.ra_meaning.specs.Order.{item_shape, presence_shape, set_cells, set_tracked, shape_of}
use Rattle.ra_meaning.specs.OpeningLaws.{HasDigests}
use Rattle.ra_progress.specs.Layout.{length_of}
use Rattle.ra_meaning.specs.Openings.{start_of, frames_after, plain_opening, snapshot}
use Rattle.ra_meaning.proofs.Openings.Plain.{plain_fits}
pub use Rattle.ra_meaning.proofs.Openings.Unplayed.{snapshot_none}
use Rattle.ra_meaning.proofs.Words.Cells.{start_words, cells_fit, priors_fit}
use Rattle.ra_meaning.proofs.Words.Items.{items_fit}
use Rattle.ra_meaning.proofs.Words.Presence.{HasUntested, FitsScript, presence_fits}
use Rattle.ra_meaning.proofs.Spelled.Sets.{spelled_items}
use Rattle.ra_meaning.proofs.Spelled.Scripts.{spelled_script, script_in}

-- a script, where there is one, has operands of 32 bits and a line without a test
abbrev pub HasScript : SetContents → Type 0
HasScript set = (script : ScriptContents) → set.script ≡ Some script → FitsScript script

-- a script, where there is one, has fewer than 2 ^ 32 lines
abbrev pub HasFewLines : SetContents → Type 0
HasFewLines set =
    (script : ScriptContents) → set.script ≡ Some script → length script.lines < 2 ^ 32

-- an opening of a set, accepted from its bytes and said again
abbrev pub ComesBackTo : SetContents → Opening → Type 0
ComesBackTo set o =
    (refusal (shape_of set) (progress_bytes (shape_of set) o) ≡ None)
    × (says (shape_of set) (progress_bytes (shape_of set) o) ≡ o)

pub spelled_has_script : (set : SetContents) → IsSpelled set → HasScript set
spelled_has_script set spelled script some =
    spelled_script script (script_in set.script spelled.script script some).0

pub spelled_has_few : (set : SetContents) → IsSpelled set → HasFewLines set
spelled_has_few set spelled script some = (script_in set.script spelled.script script some).1

some_line : (lines : List LineContents) → HasUntested lines → 0 < length lines
some_line [] has = absurd has
some_line (line ∷ lines) has = omega arith

-- the opening of a set that was never played is one of it
pub plain_is_opening : (set : SetContents) → IsSpelled set → IsOpening (shape_of set) (plain_opening set)
plain_is_opening set spelled =
    plain_fits set (λ script some. some_line script.lines (spelled_has_script set spelled script some).untested)

count_fits : (count more : ℕ) → frames_after count more < 2 ^ 64
count_fits count more = omega arith

-- the opening of a run is one of its set at every history
pub snapshot_fits : (set : SetContents) (o : Opening) (history : History) → IsSpelled set
    → IsOpening (shape_of set) o → AreImages history
    → IsOpening (shape_of set) (snapshot set o history)
snapshot_fits set o history spelled is images =
    let start = start_of set o in
    let words = start_words set o is in
    record {
      frames = count_fits o.frames (length history);
      cells = cells_fit set o is history images;
      priors = priors_fit set o is history images;
      items = items_fit start words set.items (spelled_items set spelled) o.items is.items history images;
      presence = presence_fits start words history images set.script
          (spelled_has_script set spelled) o.presence is.presence;
    }

-- a shape's count of lines is the script's
few_in_shape : (script : Option ScriptContents)
    → ((s : ScriptContents) → script ≡ Some s → length s.lines < 2 ^ 32) → (shape : PresenceShape)
    → option_map presence_shape script ≡ Some shape → shape.lines < 2 ^ 32
few_in_shape None few shape is = absurd (none-some shape is)
few_in_shape (Some script) few shape is =
    let same : presence_shape script ≡ shape = ap (λ s. unwrap_or s shape) is in
    subst (λ (s : PresenceShape). s.lines < 2 ^ 32) same (few script refl)

-- the names of some things
all_named : {A : Type 0} (name : A → List ℕ) → ((a : A) → IsName (name a)) → (things : List A)
    → AllByRecursion IsName (map name things)
all_named name is [] = tt
all_named name is (a ∷ things) = (is a, all_named name is things)

-- what holds of names and of one more where there is one holds of all
named_last : (names : List (List ℕ)) (last : Option (List ℕ)) → AllByRecursion IsName names
    → IfSome last IsName → AllByRecursion IsName (names ++ option_to_list last)
named_last [] None all one = tt
named_last [] (Some name) all one = (one, tt)
named_last (n ∷ names) last all one = (all.0, named_last names last all.1 one)

cell_named : (c : Cell) → IsName (cell_name c)
cell_named c = record { long = length-md5 _; fit = md5_bytes _ }

tracked_named : (t : Tracked) → IsName (tracked_name t)
tracked_named t = record { long = length-md5 _; fit = md5_bytes _ }

-- there is a name of a script exactly where there is a script
script_paired : (name : Option (List ℕ)) (script : Option ScriptContents) → NamesScript name script
    → is_some name ≡ is_some (option_map presence_shape script)
script_paired None None is = refl
script_paired None (Some script) is = absurd is
script_paired (Some name) None is = absurd is
script_paired (Some name) (Some script) is = refl

-- the names of a set stand beside what they are of
pub is_paired : (set : SetContents) → IsWithinLimits set → IsNamed set → IsPaired (shape_of set)
is_paired set limits named = record {
  few = omega (arith, limits.items, length-map set.items item_shape);
  items = named.count ∙ sym (length-map set.items item_shape);
  presence = script_paired set.script_name set.script named.script;
}

-- the parts of the shape of a set are within their types
pub is_shape : (set : SetContents) → IsWithinLimits set → IsSpelled set → IsNamed set
    → HasDigests set → length_of (shape_of set) ≤ 8388608 → IsShape (shape_of set)
is_shape set limits spelled named digests short = record {
  digest = digests.digest;
  cells = all_named cell_name cell_named (set_cells set);
  priors = all_named tracked_name tracked_named (set_tracked set);
  entries = named_last set.item_names set.script_name digests.items digests.script;
  paired = is_paired set limits named;
  lines = few_in_shape set.script (spelled_has_few set spelled);
  short = short;
}

lines_in_shape : (script : Option ScriptContents)
    → ((s : ScriptContents) → script ≡ Some s → 0 < length s.lines) → (shape : PresenceShape)
    → option_map presence_shape script ≡ Some shape → 0 < shape.lines
lines_in_shape None has shape is = absurd (none-some shape is)
lines_in_shape (Some script) has shape is =
    let same : presence_shape script ≡ shape = ap (λ s. unwrap_or s shape) is in
    subst (λ (s : PresenceShape). 0 < s.lines) same (has script refl)

-- a script has a line
pub script_has_lines : (set : SetContents) → OptionalScript set.script → HasLines (shape_of set)
script_has_lines set spelled =
    lines_in_shape set.script (λ script some. some_line script.lines
    (spelled_script script (script_in set.script spelled script some).0).untested)

pub has_lines : (set : SetContents) → IsSpelled set → HasLines (shape_of set)
has_lines set spelled = script_has_lines set spelled.script

-- what accepted bytes say is an opening
pub said_is_opening : (set : SetContents) (bytes : List ℕ) → IsWithinLimits set → IsSpelled set
    → IsNamed set → AreBytes bytes → IsAccepted (shape_of set) bytes
    → IsOpening (shape_of set) (says (shape_of set) bytes)
said_is_opening set bytes limits spelled named fit accepted =
    says_opening bytes fit (shape_of set) (is_paired set limits named) (has_lines set spelled) accepted

-- the bytes of any opening of a set are accepted, and say it again
pub opening_comes_back : (set : SetContents) (o : Opening) → IsShape (shape_of set)
    → IsOpening (shape_of set) o → ComesBackTo set o
opening_comes_back set o shape is =
    let back : ComesBack (shape_of set) o = comes_back (shape_of set) o shape is in
    (accepted_none (shape_of set) (progress_bytes (shape_of set) o) back.accepted, back.says_it)
