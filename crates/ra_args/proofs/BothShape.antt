-- What clap reads of `run SET TRACE --restore FILE --save FILE`.
use Rattle.std.proofs.Common.{ℕ, ◌≡◌, List, [], ◌∷◌, codes, Some, true, false, refl, ◌==◌}
use Rattle.clap.specs.Words.{takes}
use Rattle.clap.proofs.OnLiterals.{clap_on_literals}
use Rattle.ra_args.specs.Words.{Run}
use Rattle.ra_args.specs.JobCommand.{player_app, job_read}

-- no file begins with `-`
module _ (c d e f : ℕ) (cs ds es fs : List ℕ) (hc : (c == 45) ≡ false) (hd : (d == 45) ≡ false)
    (he : (e == 45) ≡ false) (hf : (f == 45) ≡ false) where
  pub taken : takes player_app (codes "run" ∷ (c ∷ cs) ∷ (d ∷ ds) ∷ codes "--restore" ∷ (e ∷ es)
      ∷ codes "--save" ∷ (f ∷ fs) ∷ []) ≡ true
  unfolding clap_on_literals
  taken = rw (hc, hc) (rw (hd, hd) (rw (he, he) (rw hf (rw hf refl))))

  pub read : job_read (codes "run" ∷ (c ∷ cs) ∷ (d ∷ ds) ∷ codes "--restore" ∷ (e ∷ es) ∷ codes
      "--save" ∷ (f ∷ fs) ∷ []) ≡ Some (Run (c ∷ cs) (d ∷ ds) (Some (e ∷ es)) (Some (f ∷ fs)))
  unfolding clap_on_literals
  read = rw (hc, hc) (rw (hd, hd) (rw (he, he) (rw (hf, hf) refl)))
