-- The set of a file has its structure, digests for names, and own bytes that are no longer than a progress file may be.
use Rattle.std.proofs.Common.{◌≡◌, ◌∙◌, ℕ, ◌+◌, ◌≤◌, Option, None, Some, option_map, IfSome, List, length}
use Rattle.std.proofs.Common.{length-append, All, inl, inr, sym, ap, subst, arith}
use Rattle.std.specs.List.{AllByRecursion}
use Rattle.md5.specs.Md5.{md5}
use Rattle.md5.proofs.StandardFacts.{length-md5}
use Rattle.ra_richpresence.specs.Grammar.{script_of}
use Rattle.ra_richpresence.proofs.Structure.{script-structure}
use Rattle.ra_richpresence.specs.Cut.{left_lines}
use Rattle.ra_set.specs.Accepted.{IsSet}
use Rattle.ra_set.specs.Contents.{SetContents}
use Rattle.ra_set.specs.Grammar.{FileContents, set_file}
use Rattle.ra_set.specs.Spelled.{IsItem, OptionalScript, IsSpelled}
use Rattle.ra_set.specs.Texts.{item_texts, script_text}
use Rattle.ra_set.proofs.NamedSets.{set-named}
use Rattle.ra_set.proofs.ScriptLines.{parts-lines}
use Rattle.ra_set.proofs.SetStructure.{contents-items}
use Rattle.ra_progress.specs.Laws.{IsShape}
use Rattle.ra_progress.specs.Names.{IsName}
use Rattle.ra_meaning.specs.OpeningLaws.{HasDigests, IsComplete}
use Rattle.ra_meaning.specs.Order.{shape_of}
use Rattle.ra_meaning.proofs.Digests.{md5_bytes}
use Rattle.ra_meaning.proofs.Each.{each_map}
use Rattle.ra_meaning.proofs.Counts.FewCells.{few_cells, few_tracked}
use Rattle.ra_meaning.proofs.Counts.SmallShape.{small_shape}
use Rattle.ra_meaning.proofs.Openings.Snapshots.{is_shape}

script_spelled : (file : List ℕ) (contents : FileContents) → length file ≤ 4194304
    → set_file file contents → OptionalScript (option_map script_of contents.script)
script_spelled file contents size (inl h) =
    let text = h.of_next.front in
    let parts = h.of_next.v in
    let few = parts-lines text parts h.of_next.of_first in
    let within : length file ≡ length h.front + length h.behind = ap length h.parts ∙ length-append h.front h.behind in
    let inside : length h.behind ≡ length text + length h.of_next.behind =
    ap length h.of_next.parts ∙ length-append text h.of_next.behind in
    subst (λ (c : FileContents). OptionalScript (option_map script_of c.script)) (sym h.of_next.of_next.is)
    (script-structure (left_lines text) parts h.of_next.of_first, omega (arith, few, size, within, inside))
script_spelled file contents size (inr h) =
    subst (λ (c : FileContents). OptionalScript (option_map script_of c.script)) (sym h.of_next.is) tt

pub set_spelled : (file : List ℕ) (set : SetContents) → IsSet file set → IsSpelled set
set_spelled file set s = record {
  items = subst (All IsItem) (sym s.spelled.items) (contents-items file s.spelled.contents s.spelled.spelled);
  script = subst OptionalScript (sym s.spelled.script)
      (script_spelled file s.spelled.contents s.size s.spelled.spelled);
}

digest_named : (text : List ℕ) → IsName (md5 text)
digest_named text = record { long = length-md5 text; fit = md5_bytes text }

script_digest : (text : Option (List ℕ)) → IfSome (option_map md5 text) IsName
script_digest None = tt
script_digest (Some text) = digest_named text

set_digests : (file : List ℕ) (set : SetContents) → IsSet file set → HasDigests set
set_digests file set s = record {
  digest = subst IsName (sym s.digest) (digest_named file);
  items = subst (AllByRecursion IsName) (sym s.item_names) (each_map IsName md5 digest_named (item_texts file));
  script = subst (λ name. IfSome name IsName) (sym s.script_name) (script_digest (script_text file));
}

pub set_complete : (file : List ℕ) (set : SetContents) → IsSet file set → IsComplete set
set_complete file set s = record {
  limits = s.limits;
  spelled = set_spelled file set s;
  named = set-named file set s;
  digests = set_digests file set s;
}

pub complete_shape : (set : SetContents) → IsComplete set → IsShape (shape_of set)
complete_shape set is =
    is_shape set is.limits is.spelled is.named is.digests
    (small_shape set is.limits is.spelled (few_cells set is.limits) (few_tracked set is.limits))

pub set_shape : (file : List ℕ) (set : SetContents) → IsSet file set → IsShape (shape_of set)
set_shape file set s = complete_shape set (set_complete file set s)
