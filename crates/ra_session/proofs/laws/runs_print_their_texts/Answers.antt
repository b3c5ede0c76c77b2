use Rattle.std.proofs.Common.{refl}
use Rattle.ra_session.proofs.laws.runs_print_their_texts.Goals as goal

pub returns : goal.returns
returns c = λ set o behind earned bytes. refl
