-- What is kept after a history, by what each of its steps does.
use Rattle.std.proofs.Common.{◌≡◌, ℕ, List, [], ◌∷◌, ◌++◌, length, map, zip, refl, ◌∙◌, ap, arith}
use Rattle.ra_memory.specs.Image.{History}
use Rattle.ra_member.specs.Folds.{after}

-- steps that agree at every frame keep the same
pub after_agrees : {K : Type 0} (step other : History → K → K) → ((image : List ℕ) (earlier
    : History) (kept : K) → step (image ∷ earlier) kept ≡ other (image ∷ earlier) kept)
    → (kept : K) (history : History) → after step kept history ≡ after other kept history
after_agrees step other agree kept [] = refl
after_agrees step other agree kept (image ∷ earlier) =
    agree image earlier (after step kept earlier)
    ∙ ap (other (image ∷ earlier)) (after_agrees step other agree kept earlier)

-- a history joined of two: what is kept after the later one, from what is kept after the earlier one
pub after_cut : {K : Type 0} (step : History → K → K) (kept : K) (later earlier : History)
    → after step kept (later ++ earlier)
    ≡ after (λ history. step (history ++ earlier)) (after step kept earlier) later
after_cut step kept [] earlier = refl
after_cut step kept (image ∷ later) earlier = ap (step (image ∷ (later ++ earlier))) (after_cut step kept later earlier)

-- what holds of the opening, and is kept by each step, holds after every history
pub after_keeps : {K : Type 0} (P : History → K → Type 0) (step : History → K → K) → ((image : List
    ℕ) (earlier : History) (kept : K) → P earlier kept → P (image ∷ earlier) (step (image ∷ earlier)
    kept)) → (kept : K) → P [] kept → (history : History) → P history (after step kept history)
after_keeps P step keeps kept opened [] = opened
after_keeps P step keeps kept opened (image ∷ earlier) =
    keeps image earlier (after step kept earlier) (after_keeps P step keeps kept opened earlier)

-- a recursion over the history with the equations of a fold is that fold
pub after_only : {K : Type 0} (step : History → K → K) (kept : K) (own : History → K) → own []
    ≡ kept → ((image : List ℕ) (earlier : History) → own (image ∷ earlier) ≡ step (image ∷ earlier)
    (own earlier)) → (history : History) → own history ≡ after step kept history
after_only step kept own opened goes [] = opened
after_only step kept own opened goes (image ∷ earlier) =
    goes image earlier ∙ ap (step (image ∷ earlier)) (after_only step kept own opened goes earlier)

-- a part of what is kept that steps by itself
pub after_part : {K L : Type 0} (part : K → L) (step : History → K → K) (own : History → L → L)
    → ((image : List ℕ) (earlier : History) (kept : K) → part (step (image ∷ earlier) kept)
    ≡ own (image ∷ earlier) (part kept)) → (kept : K) (history : History)
    → part (after step kept history) ≡ after own (part kept) history
after_part part step own goes kept [] = refl
after_part part step own goes kept (image ∷ earlier) =
    goes image earlier (after step kept earlier)
    ∙ ap (own (image ∷ earlier)) (after_part part step own goes kept earlier)

-- what steps beside each other, each by itself
pub after_each : {X K : Type 0} (step : X → History → K → K) (xs : List X) (kept : List K)
    → length kept ≡ length xs → (history : History) → map (λ p. after (step p.0) p.1 history)
    (zip xs kept) ≡ after (λ h ks. map (λ p. step p.0 h p.1) (zip xs ks)) kept history
after_each step xs kept many =
    after_only (λ h ks. map (λ p. step p.0 h p.1) (zip xs ks)) kept (λ history. map
    (λ p. after (step p.0) p.1 history) (zip xs kept)) (opens step xs kept many) (each step xs kept)
  where
    opens : {X K : Type 0} (step : X → History → K → K) (xs : List X) (kept : List K) → length kept
        ≡ length xs → map (λ p. after (step p.0) p.1 []) (zip xs kept) ≡ kept
    opens step [] [] many = refl
    opens step [] (k ∷ kept) many = absurd (omega arith)
    opens step (x ∷ xs) [] many = absurd (omega arith)
    opens step (x ∷ xs) (k ∷ kept) many = ap (λ ks. k ∷ ks) (opens step xs kept (omega arith))

    each : {X K : Type 0} (step : X → History → K → K) (xs : List X) (kept : List K)
        (image : List ℕ) (earlier : History) → map (λ p. after (step p.0) p.1 (image ∷ earlier))
        (zip xs kept) ≡ map (λ p. step p.0 (image ∷ earlier) p.1)
        (zip xs (map (λ p. after (step p.0) p.1 earlier) (zip xs kept)))
    each step [] kept image earlier = refl
    each step (x ∷ xs) [] image earlier = refl
    each step (x ∷ xs) (k ∷ kept) image earlier =
        ap (λ ks. step x (image ∷ earlier) (after (step x) k earlier) ∷ ks) (each step xs kept image earlier)
