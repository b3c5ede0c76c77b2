use Rattle.ra_progress.proofs.Again.{again}
use Rattle.ra_progress.proofs.ComesBack.{comes_back, own}
use Rattle.ra_progress.proofs.SaysOpening.{says_opening}
use Rattle.ra_progress.proofs.laws.both_ways.Goals as goal

pub returns-clause-from_openings : goal.returns-clause-from_openings
returns-clause-from_openings c = λ shape o is_shape fits. comes_back shape o is_shape fits

pub returns-clause-own : goal.returns-clause-own
returns-clause-own c = λ shape o is_shape fits. own shape o is_shape fits

pub returns-clause-from_bytes : goal.returns-clause-from_bytes
returns-clause-from_bytes c = λ shape bytes fit is_shape ok is_own. again bytes fit shape is_shape ok is_own

pub returns-clause-says_opening : goal.returns-clause-says_opening
returns-clause-says_opening c = λ shape bytes fit paired lines ok. says_opening bytes fit shape paired lines ok
