-- The items that lines spell have their structure.
use Rattle.std.proofs.Common.{ℕ, List, [], ◌∷◌, ◌++◌, option_to_list, sym, subst, inl, inr}
use Rattle.std.specs.Prelude.{All}
use Rattle.std.specs.List.{AllByRecursion}
use Rattle.std.proofs.lemmas.List.Elements.{All-from_recursion}
use Rattle.ra_condition.proofs.Structure.{trigger-structure}
use Rattle.ra_leaderboard.proofs.BoardStructure.{board-structure}
use Rattle.ra_value_format.specs.Formats.{HasDigits}
use Rattle.ra_value_format.proofs.FormatDigits.{format-digits}
use Rattle.ra_set.specs.Contents.{ItemContents}
use Rattle.ra_set.specs.Grammar.{Line, line, ended_line, FileContents, set_file, items_of}
use Rattle.ra_set.specs.Runs.{many}
use Rattle.ra_set.specs.Spelled.{IsItem}
use Rattle.ra_set.proofs.ContentsLemmas.{lines-of_file}

-- ---- lines

-- the item of a line, where it has one
abbrev EachItem : List ItemContents → Type 0
EachItem = AllByRecursion IsItem

line-items : (t : List ℕ) (l : Line) → line t l → EachItem (option_to_list l)
line-items t l (inl h) = subst (λ x. EachItem (option_to_list x)) (sym h.of_next.of_next.is) tt
line-items t l (inr (inl h)) = subst (λ x. EachItem (option_to_list x)) (sym h.of_next.of_next.is)
    (trigger-structure h.of_next.front h.of_next.v h.of_next.of_first, tt)
line-items t l (inr (inr (inl h))) = let b = h.of_next.of_next.of_next in
    let name = h.of_next.of_first in
    subst (λ x. EachItem (option_to_list x)) (sym b.of_next.is) (
      (
        board-structure b.front b.v b.of_first,
        subst HasDigits (sym name.of_next.of_next.is) (format-digits (name.v ∷ name.of_next.v)),
      ),
      tt,
    )
line-items t l (inr (inr (inr h))) = subst (λ x. EachItem (option_to_list x)) (sym h.is) tt

both-items : (xs ys : List ItemContents) → EachItem xs → EachItem ys → EachItem (xs ++ ys)
both-items [] ys a b = b
both-items (x ∷ xs) ys a b = (a.0, both-items xs ys a.1 b)

ended-items : (ended : List Line) (t : List ℕ) → many ended_line t ended
    → (u : List ℕ) (last : Line) → line u last → EachItem (items_of (ended ++ last ∷ []))
ended-items [] t none u last h = both-items (option_to_list last) [] (line-items u last h) tt
ended-items (l ∷ ended) t h u last hl = both-items (option_to_list l) (items_of (ended ++ last ∷ []))
    (subst (λ x. EachItem (option_to_list x)) (sym h.of_first.of_next.of_next.is)
    (line-items h.of_first.front h.of_first.v h.of_first.of_first))
    (ended-items ended h.behind h.of_next u last hl)

-- each item of a file is one that some line spells
pub contents-items : (file : List ℕ) (contents : FileContents) → set_file file contents
    → All IsItem (items_of contents.lines)
contents-items file contents h = let l = lines-of_file file contents h in
    All-from_recursion IsItem (items_of contents.lines) (subst EachItem (sym l.items)
    (ended-items l.ended l.front l.of_ended l.behind l.last l.of_last))
