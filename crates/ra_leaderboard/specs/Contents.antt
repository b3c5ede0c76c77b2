-- What a board contains: docs/DEFINITIONS.md, "Boards".
use Rattle.std.specs.Prelude.{Option, option_map, List}
use Rattle.ra_condition.specs.Contents.{TriggerContents, trigger_contents, PartContents, value_contents}
use Rattle.ra_leaderboard.specs.declared.board_text.BoardText.{BoardText}

-- three triggers, the value that is submitted, and the value that is tracked if it is another
pub record BoardContents : Type 0 where
  pub start : TriggerContents
  pub cancel : TriggerContents
  pub submit : TriggerContents
  pub value : List PartContents
  pub progress : Option (List PartContents)

-- the contents of a board
abbrev pub board_contents : BoardText → BoardContents
board_contents b = record {
  start = trigger_contents b.start;
  cancel = trigger_contents b.cancel;
  submit = trigger_contents b.submit;
  value = value_contents b.value;
  progress = option_map value_contents b.progress;
}
