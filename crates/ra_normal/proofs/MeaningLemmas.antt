-- What a normal text keeps.
use Rattle.std.proofs.Common.{ℕ, List, refl}
use Rattle.std.proofs.lemmas.List.Elements.{recursion_from_All}
use Rattle.ra_set.specs.Accepted.{IsSet}
use Rattle.ra_set.specs.Contents.{SetContents}
use Rattle.ra_set.specs.Spelled.{IsItem}
use Rattle.ra_normal.specs.Meaning.{KeepsMeaning}
use Rattle.ra_normal.specs.Text.{IsNormal}
use Rattle.ra_normal.proofs.AcceptedLemmas.{items_are, normal_set, text_accepted, normal_again}
use Rattle.ra_normal.proofs.PrintedLemmas.{text_alike}

-- a normal text within the limits keeps what its set means
pub keeps_meaning : (file : List ℕ) (set : SetContents) → IsSet file set → (text : List ℕ)
    → IsNormal file set text → KeepsMeaning file set text
keeps_meaning file set s text h = record {
  normal = normal_set set text;
  accepted = text_accepted file set s text h;
  items = refl;
  script = refl;
  prints = text_alike set text (recursion_from_All IsItem set.items (items_are file set s.spelled));
  again = normal_again file set s text h;
}
