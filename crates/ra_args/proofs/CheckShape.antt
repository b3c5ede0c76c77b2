-- What clap reads of `check SET`.
use Rattle.std.proofs.Common.{ℕ, ◌≡◌, List, [], ◌∷◌, codes, Some, true, false, refl, ◌==◌}
use Rattle.clap.specs.Words.{takes}
use Rattle.clap.proofs.OnLiterals.{clap_on_literals}
use Rattle.ra_args.specs.Words.{Check}
use Rattle.ra_args.specs.JobCommand.{player_app, job_read}

-- no file begins with `-`
module _ (c : ℕ) (cs : List ℕ) (hc : (c == 45) ≡ false) where
  pub taken : takes player_app (codes "check" ∷ (c ∷ cs) ∷ []) ≡ true
  unfolding clap_on_literals
  taken = rw (hc, hc) refl

  pub read : job_read (codes "check" ∷ (c ∷ cs) ∷ []) ≡ Some (Check (c ∷ cs))
  unfolding clap_on_literals
  read = rw (hc, hc) refl
