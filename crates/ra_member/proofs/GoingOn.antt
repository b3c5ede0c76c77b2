-- The law of cuts, for whatever steps by what its trees give.
use Rattle.std.proofs.Common.{◌≡◌, List, ◌∷◌, ◌++◌, ℕ, ◌∙◌}
use Rattle.ra_memory.specs.Image.{History}
use Rattle.ra_indirect.specs.Trees.{Tree}
use Rattle.ra_memref.specs.Values.{Start, value_of, start_after}
use Rattle.ra_memref.proofs.Cuts.{value_cut}
use Rattle.ra_member.specs.Folds.{after}
use Rattle.ra_member.proofs.Agreeing.{Agree}
use Rattle.ra_member.proofs.Folds.{after_agrees, after_cut}
use Rattle.ra_member.proofs.Listed.{In}

-- an opening goes on from a history: the trees give by it what they give from the first start on
abbrev pub GoesOn : (start opened : Start) → History → List Tree → Type 0
GoesOn start opened earlier trees =
    (image : List ℕ) (later : History) → Agree start opened (image ∷ (later ++ earlier)) (image ∷ later) trees

-- an opening goes on where its trees have the values of the start after the history
pub goes_on : (start opened : Start) (earlier : History) (trees : List Tree)
    → ((tree : Tree) → In tree trees → (history : History) → value_of (start_after start earlier)
    tree history ≡ value_of opened tree history) → GoesOn start opened earlier trees
goes_on start opened earlier trees alike image later tree there =
    value_cut start earlier tree image later ∙ alike tree there (image ∷ later)

-- what is kept after a history that is cut, for a step of each start that looks at trees alone
pub fold_goes_on : {K : Type 0} (step : Start → History → K → K) (trees : List Tree)
    → ((start start' : Start) (h h' : History) → Agree start start' h h' trees → (kept : K)
    → step start h kept ≡ step start' h' kept)
    → (start opened : Start) (earlier : History) → GoesOn start opened earlier trees → (kept : K) (later : History)
    → after (step start) kept (later ++ earlier) ≡ after (step opened) (after (step start) kept earlier) later
fold_goes_on step trees looks start opened earlier goes kept later =
    after_cut (step start) kept later earlier
    ∙ after_agrees (λ h. step start (h ++ earlier)) (step opened)
    (λ image before k. looks start opened (image ∷ (before ++ earlier)) (image ∷ before)
    (goes image before) k) (after (step start) kept earlier) later
