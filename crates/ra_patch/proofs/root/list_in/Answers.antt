use Rattle.std.proofs.Common.{Some, ap, sym, map}
use Rattle.serde_json.specs.View.{view}
use Rattle.ra_patch.proofs.FieldLemmas.{listed-items_of}
use Rattle.ra_patch.proofs.root.list_in.Goals as goal

pub returns-in-Some : goal.returns-in-Some
returns-in-Some c =
    rw (← c.in-Some.ensures, c.as_slice.ensures.value)
    (ap Some (sym (listed-items_of (map view c.in-Some.items.now.items))))
