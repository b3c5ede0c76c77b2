-- A text that is written piece by piece.
use Rattle.std.proofs.Common.{arith, ◌≡◌, ◌≤◌, ap, sym, refl, ◌∙◌, ℕ, ◌+◌, List, [], ◌++◌, length, take, drop, take-add}
use Rattle.std.proofs.Common.{append_assoc, append-nil, Option, Some, None}
use Rattle.std.proofs.lemmas.List.{take_all, drop-drop, length-drop}
use Rattle.ra_io.specs.Sink.{grown}

-- The front of the bytes was written, and the rest is left.
pub record Written (first now : Option (List ℕ)) (bytes rest : List ℕ) : Type 0 where
  pub len : ℕ
  pub within : len ≤ length bytes
  pub left : rest ≡ drop len bytes
  pub text : now ≡ grown first (take len bytes)

pub grown-grown : (o : Option (List ℕ)) (a b : List ℕ) → grown (grown o a) b ≡ grown o (a ++ b)
grown-grown None a b = refl
grown-grown (Some text) a b = ap Some (append_assoc text a b)

pub grown-nil : (o : Option (List ℕ)) → grown o [] ≡ o
grown-nil None = refl
grown-nil (Some text) = ap Some (append-nil text)

pub more_written : (first old now : Option (List ℕ)) (bytes rest : List ℕ) (n : ℕ)
    → Written first old bytes rest → n ≤ length rest → now ≡ grown old (take n rest)
    → Written first now bytes (drop n rest)
more_written first old now bytes rest n w fits is = record {
  len = w.len + n;
  within = omega (arith, ap length w.left, length-drop w.len bytes, w.within);
  left = ap (drop n) w.left ∙ drop-drop n w.len bytes;
  text = is ∙ ap (λ o. grown o (take n rest)) w.text ∙ grown-grown first (take w.len bytes) (take n rest)
      ∙ ap (λ r. grown first (take w.len bytes ++ take n r)) w.left ∙ ap (grown first) (sym (take-add w.len n bytes));
}
