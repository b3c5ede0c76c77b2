-- What clap reads of `make N`.
use Rattle.std.proofs.Common.{ℕ, ◌≡◌, List, [], ◌∷◌, codes, true, false, refl, ◌==◌}
use Rattle.std.specs.Prelude.{option_map}
use Rattle.clap.specs.Words.{takes}
use Rattle.clap.proofs.OnLiterals.{clap_on_literals}
use Rattle.ra_args.specs.Words.{Make}
use Rattle.ra_args.specs.JobWords.{number_of}
use Rattle.ra_args.specs.JobCommand.{player_app, job_read}

-- no file begins with `-`
module _ (c : ℕ) (cs : List ℕ) (hc : (c == 45) ≡ false) where
  pub taken : takes player_app (codes "make" ∷ (c ∷ cs) ∷ []) ≡ true
  unfolding clap_on_literals
  taken = rw (hc, hc) refl

  pub read : job_read (codes "make" ∷ (c ∷ cs) ∷ []) ≡ option_map Make (number_of (c ∷ cs))
  unfolding clap_on_literals
  read = rw (hc, hc) refl
