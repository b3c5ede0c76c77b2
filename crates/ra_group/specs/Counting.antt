-- Groups whose measured numbers come from hits: docs/DEFINITIONS.md, "Group outcome".
use Rattle.std.specs.Prelude.{Bool, ◌&&◌, List}
use Rattle.std.specs.List.{list_any}
use Rattle.ra_condition.specs.declared.condition.Condition.{Condition}
use Rattle.ra_condition.specs.Flags.{is_measured}
use Rattle.ra_group.specs.declared.form.Form.{Form}
use Rattle.ra_group.specs.Outcome.{from_total}

-- some measured condition takes its number from its total, whatever the frame
abbrev pub counts_hits : Form → List Condition → Bool
counts_hits form cs = list_any (λ c. is_measured c.flag && from_total form c) cs
