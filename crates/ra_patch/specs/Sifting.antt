-- What is read of lists: the step between the code and docs/DEFINITIONS.md, "What is left of a document".
use Rattle.std.specs.Prelude.{◌≡◌, ℕ, ◌+◌, ◌==◌, ◌||◌, Bool, false, Option, None, Some, List, ◌++◌, length}
use Rattle.std.specs.Prelude.{string_bytes}
use Rattle.std.specs.BTreeSet.{contains}
use Rattle.std.specs.List.{flat_map}
use Rattle.std.specs.Ordering.{nat_cmp}
use Rattle.serde_json.specs.Data.{Data}
use Rattle.ra_patch.specs.declared.item_kind.ItemKind.{ItemKind}
use Rattle.ra_patch.specs.declared.left_out.LeftCause.{LeftCause}
use Rattle.ra_patch.specs.declared.left_out.LeftOut.{LeftOut}
use Rattle.ra_patch.specs.declared.sifted.Sifted.{Sifted}
use Rattle.ra_patch.specs.Leaving.{Leaves, IsScriptVerdict, has_id, id_of, item_row, kept_item, kept_script, line_of}
use Rattle.ra_patch.specs.Leaving.{script_row}
use Rattle.ra_patch.specs.Lines.{presence_lines}

-- an id is among those of the items that stay
abbrev pub holds : Sifted → ℕ → Bool
holds s id = contains nat_cmp s.ids id

-- an id is that of an item that stays
abbrev pub is_kept : Option LeftCause → Data → ℕ → Bool
is_kept None d id = id_of d == id
is_kept (Some cause) d id = false

-- one item more was read, which stays or is left out
pub record Puts (kind : ItemKind) (old : Sifted) (d : Data) (cause : Option LeftCause) (new : Sifted) : Type 0 where
  pub ids : (id : ℕ) → holds new id ≡ (is_kept cause d id || holds old id)
  pub count : new.count ≡ old.count + 1
  pub text : string_bytes new.text ≡ string_bytes old.text ++ flat_map (line_of kind) (kept_item cause d)
  pub rows : new.left_out.items ≡ old.left_out.items ++ item_row kind old.count d cause

-- these items of a list were read, from one state to another
pub record Sifts (kind : ItemKind) (start : Sifted) (items : List Data) (s : Sifted) : Type 0 where
  pub stays : List Data
  pub left_out : List LeftOut
  pub leaves : Leaves kind items stays left_out
  pub ids : (id : ℕ) → holds s id ≡ has_id stays id
  pub count : s.count ≡ length items
  pub text : string_bytes s.text ≡ string_bytes start.text ++ flat_map (line_of kind) stays
  pub rows : s.left_out.items ≡ start.left_out.items ++ left_out

-- a presence string was read
pub record SiftsScript (script : Option (List ℕ)) (start s : Sifted) : Type 0 where
  pub cause : Option LeftCause
  pub verdict : IsScriptVerdict script cause
  pub text : string_bytes s.text ≡ string_bytes start.text ++ presence_lines (kept_script script cause)
  pub rows : s.left_out.items ≡ start.left_out.items ++ script_row cause
