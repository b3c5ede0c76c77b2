use Rattle.std.proofs.Common.{◌≡◌, ◌∙◌, ◌++◌, ◌∷◌, [], ap, append_assoc, map, refl, List, ℕ}
use Rattle.ra_set.specs.Contents.{item_contents}
use Rattle.ra_jobs.specs.Counting.{achievements_in, boards_in}
use Rattle.ra_author_jobs.specs.Importing.{counts_text}
use Rattle.ra_author_jobs.proofs.importing.put_counts.Goals as goal

-- the line, by what was written of its numbers
line_is : (a a' b b' s s' k : ℕ) (start mid all : List ℕ) → a ≡ a' → b ≡ b' → s ≡ s' → mid
    ≡ start ++ counts_text a b s k → all ≡ mid ++ 10 ∷ []
    → all ≡ start ++ (counts_text a' b' s' k ++ 10 ∷ [])
line_is a a' b b' s s' k start mid all achievements boards scripts written whole =
    whole ∙ ap (λ x. x ++ 10 ∷ []) written ∙ append_assoc start (counts_text a b s k) (10 ∷ [])
    ∙ ap (λ n. start ++ (counts_text n b s k ++ 10 ∷ [])) achievements
    ∙ ap (λ n. start ++ (counts_text a' n s k ++ 10 ∷ [])) boards
    ∙ ap (λ n. start ++ (counts_text a' b' n k ++ 10 ∷ [])) scripts

pub returns : goal.returns
returns c =
    line_is c.achievements-achievements.result _ c.leaderboards-leaderboards.result _
    c.scripts-presence.result _ _ _ _ _
    (c.achievements-achievements.ensures
    ∙ ap (λ items. achievements_in (map item_contents items)) c.deref.ensures.value)
    (c.leaderboards-leaderboards.ensures ∙ ap (λ items. boards_in (map item_contents items)) c.deref-2.ensures.value)
    c.scripts-presence.ensures c.in_ok-write.ensures.bytes c.in_ok-push_str.ensures.bytes
