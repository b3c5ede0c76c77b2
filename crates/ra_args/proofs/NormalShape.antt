-- What clap reads of `normal SET OUT`.
use Rattle.std.proofs.Common.{ℕ, ◌≡◌, List, [], ◌∷◌, codes, Some, true, false, refl, ◌==◌}
use Rattle.clap.specs.Words.{takes}
use Rattle.clap.proofs.OnLiterals.{clap_on_literals}
use Rattle.ra_args.specs.Words.{Normal}
use Rattle.ra_args.specs.JobCommand.{player_app, job_read}

-- no word begins with `-`
module _ (c d : ℕ) (cs ds : List ℕ) (hc : (c == 45) ≡ false) (hd : (d == 45) ≡ false) where
  pub taken : takes player_app (codes "normal" ∷ (c ∷ cs) ∷ (d ∷ ds) ∷ []) ≡ true
  unfolding clap_on_literals
  taken = rw (hc, hc, hd, hd) refl

  pub read : job_read (codes "normal" ∷ (c ∷ cs) ∷ (d ∷ ds) ∷ []) ≡ Some (Normal (c ∷ cs) (d ∷ ds))
  unfolding clap_on_literals
  read = rw (hc, hc, hd, hd) refl
