use Rattle.ra_notices.proofs.LockLemmas.{locked_untriggered}
use Rattle.ra_notices.proofs.laws.no_unlock.Goals as goal

pub returns : goal.returns
returns c start t kept history is locked untriggered = locked_untriggered start t kept is locked untriggered history
