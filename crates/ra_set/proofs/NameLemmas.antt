-- The loop that passes a name.
use Rattle.std.proofs.Common.{◌≡◌, ◌∙◌, ◌<◌, ◌≤◌, ◌+◌, ℕ, suc, List, [], ◌∷◌, ◌++◌, length, take, drop, get_or, Some}
use Rattle.std.proofs.Common.{codes, sym, ap, subst, arith, length-drop}
use Rattle.std.proofs.Math.Seq.{drop-cons, take-suc}
use Rattle.ra_set.specs.Runs.{any_but}
use Rattle.ra_set.proofs.RunLemmas.{RunSoFar, run-next, any_but-is}

-- one byte more of a text is in the name
pub name-next : (text old rest : List ℕ) (n byte v : ℕ) → old ≡ byte ∷ rest
    → any_but (codes " \n") byte ≡ Some v → old ≡ drop n text → n ≤ length text
    → RunSoFar (any_but (codes " \n")) (take n text) old text
    → (rest ≡ drop (n + 1) text) × (n + 1 ≤ length text)
    × RunSoFar (any_but (codes " \n")) (take (n + 1) text) rest text
name-next text old rest n byte v is listed at within so_far =
    let less : n < length text = omega (arith, ap length is, ap length at, length-drop n text) in
    let cut : byte ∷ rest ≡ get_or text n 0 ∷ drop (suc n) text = sym is ∙ at ∙ drop-cons text n 0 less in
    let byte-is : byte ≡ get_or text n 0 = cc cut in
    let rest-is : rest ≡ drop (suc n) text = cc cut in
    let more : take (suc n) text ≡ take n text ++ v ∷ [] = take-suc text n 0 less
    ∙ ap (λ x. take n text ++ x ∷ []) (sym byte-is ∙ any_but-is (codes " \n") byte v listed) in
    let one : n + 1 ≡ suc n = omega arith in (
      subst (λ m. rest ≡ drop m text) (sym one) rest-is,
      omega arith,
      subst (λ t. RunSoFar (any_but (codes " \n")) t rest text) (sym (ap (λ m. take m text) one
          ∙ more)) (run-next (any_but (codes " \n")) (take n text) byte v rest text listed
          (subst (λ t. RunSoFar (any_but (codes " \n")) (take n text) t text) is so_far)),
    )
