-- What clap reads of `explain SET TRACE ID`.
use Rattle.std.proofs.Common.{ℕ, ◌≡◌, List, [], ◌∷◌, codes, option_map, true, false, refl, ◌==◌}
use Rattle.clap.specs.Words.{takes}
use Rattle.clap.proofs.OnLiterals.{clap_on_literals}
use Rattle.ra_args.specs.Words.{Explain}
use Rattle.ra_args.specs.JobWords.{number_of}
use Rattle.ra_args.specs.JobCommand.{player_app, job_read}

-- no word begins with `-`
module _ (c d e : ℕ) (cs ds es : List ℕ) (hc : (c == 45) ≡ false) (hd : (d == 45) ≡ false)
    (he : (e == 45) ≡ false) where
  pub taken : takes player_app (codes "explain" ∷ (c ∷ cs) ∷ (d ∷ ds) ∷ (e ∷ es) ∷ []) ≡ true
  unfolding clap_on_literals
  taken = rw (hc, hc, hd, hd, he, he) refl

  pub read : job_read (codes "explain" ∷ (c ∷ cs) ∷ (d ∷ ds) ∷ (e ∷ es) ∷ [])
      ≡ option_map (Explain (c ∷ cs) (d ∷ ds)) (number_of (e ∷ es))
  unfolding clap_on_literals
  read = rw (hc, hc, hd, hd, he, he) refl
