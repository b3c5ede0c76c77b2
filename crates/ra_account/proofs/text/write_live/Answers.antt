use Rattle.std.proofs.Common.{◌≡◌, ℕ, List, ◌++◌, append_assoc, ap, ◌∙◌}
use Rattle.ra_account.specs.Text.{counts_text, sides_text, timeline_text, told_by}
use Rattle.ra_account.proofs.text.write_live.Goals as goal

-- three parts written one behind the other
three_parts : (old one two three first second third : List ℕ) → one ≡ old ++ first → two
    ≡ one ++ second → three ≡ two ++ third → three ≡ old ++ ((first ++ second) ++ third)
three_parts old one two three first second third a b c =
    c ∙ ap (λ xs. xs ++ third) (b ∙ ap (λ xs. xs ++ second) a ∙ append_assoc old first second)
    ∙ append_assoc old (first ++ second) third

pub returns : goal.returns
returns c =
    three_parts _ _ _ _ (counts_text c.args.target c.args.hits (told_by c.args.account.now))
    (sides_text c.args.frames (told_by c.args.account.now))
    (timeline_text c.args.frames (told_by c.args.account.now))
    c.in_ok-write_counts.ensures c.in_ok-write_sides.ensures c.in_ok-write_timeline.ensures
