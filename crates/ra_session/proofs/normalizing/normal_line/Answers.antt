use Rattle.std.proofs.Common.{◌≡◌, ◌∙◌, ◌++◌, ◌∷◌, [], ap, append_assoc, codes, decimal, sym, List, ℕ}
use Rattle.std.specs.List.{join_with_byte}
use Rattle.ra_session.proofs.normalizing.normal_line.Goals as goal

-- the line, by what was written of its two numbers
line_is : (n c c' : ℕ) (start all : List ℕ) → c ≡ c' → start ≡ []
    → all ≡ start ++ (codes "normal bytes " ++ (decimal n ++ (codes " conditions " ++ (decimal c ++ codes "\n"))))
    → all ≡ join_with_byte 32
    (codes "normal" ∷ codes "bytes" ∷ decimal n ∷ codes "conditions" ∷ decimal c' ∷ []) ++ 10 ∷ []
line_is n c c' start all conditions none written =
    written
    ∙ ap (λ s. s ++ (codes "normal bytes " ++ (decimal n ++ (codes " conditions " ++ (decimal c ++ codes "\n"))))) none
    ∙ ap (λ k. codes "normal bytes " ++ (decimal n ++ (codes " conditions " ++ (decimal k ++ codes "\n")))) conditions
    ∙ ap (λ t. codes "normal bytes " ++ t)
    (sym (append_assoc (decimal n) (codes " conditions " ++ decimal c') (codes "\n")))

pub returns : goal.returns
returns c = line_is c.args.bytes c.normal_conditions-conditions.result _ _ _
    c.normal_conditions-conditions.ensures c.new-line.ensures.bytes c.in_ok-writeln.ensures.bytes
