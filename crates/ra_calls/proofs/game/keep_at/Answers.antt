use Rattle.std.proofs.Common.{◌∙◌, ap}
use Rattle.std.specs.Prelude.{slice_set}
use Rattle.std.proofs.lemmas.List.{map-set}
use Rattle.ra_progress.specs.Contents.{Opening}
use Rattle.ra_runtime.specs.Keeping.{KeptSeen}
use Rattle.ra_calls.specs.GameViews.{openings_of}
use Rattle.ra_calls.proofs.game.keep_at.Goals as goal

pub returns-clause-kept : goal.returns-clause-kept
returns-clause-kept c =
    map-set (λ (k : KeptSeen). k.opening) c.args.slots.now c.args.place c.keep.new.kept
    ∙ ap (λ (o : Opening). slice_set (openings_of c.args.slots.now) c.args.place o) c.keep.ensures.opening
