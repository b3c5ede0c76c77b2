-- What clap reads of `lint SET`.
use Rattle.std.proofs.Common.{ℕ, ◌≡◌, List, [], ◌∷◌, codes, Some, true, false, refl, ◌==◌}
use Rattle.clap.specs.Words.{takes}
use Rattle.clap.proofs.OnLiterals.{clap_on_literals}
use Rattle.ra_args.specs.Words.{Lint}
use Rattle.ra_args.specs.JobCommand.{player_app, job_read}

-- no word begins with `-`
module _ (c : ℕ) (cs : List ℕ) (hc : (c == 45) ≡ false) where
  pub taken : takes player_app (codes "lint" ∷ (c ∷ cs) ∷ []) ≡ true
  unfolding clap_on_literals
  taken = rw (hc, hc) refl

  pub read : job_read (codes "lint" ∷ (c ∷ cs) ∷ []) ≡ Some (Lint (c ∷ cs))
  unfolding clap_on_literals
  read = rw (hc, hc) refl
