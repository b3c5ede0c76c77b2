-- The words of a presence line, put at the end of a text.
use Rattle.std.proofs.Common.{◌≡◌, ℕ, List, [], ◌∷◌, ◌++◌, codes, append_assoc}
use Rattle.ra_meaning.specs.LineOf.{line_of}

pub shown_words : (count text : List ℕ) → (((codes "presence " ++ count) ++ 32 ∷ []) ++ text) ++ 10
    ∷ [] ≡ line_of (codes "presence" ∷ count ∷ text ∷ [])
shown_words count text = simp append_assoc
