use Rattle.std.proofs.Common.{◌≡◌, ◌∙◌, ◌++◌, ◌∷◌, [], ap, codes, decimal, map, refl, List, ℕ}
use Rattle.std.specs.List.{join_with_byte}
use Rattle.ra_set.specs.Contents.{item_contents}
use Rattle.ra_jobs.specs.Counting.{achievements_in, boards_in}
use Rattle.ra_session.proofs.importing.import_line.Goals as goal

-- the line, by what was written of its three numbers
line_is : (a a' b b' s s' : ℕ) (start mid all : List ℕ) → a ≡ a' → b ≡ b' → s ≡ s' → start ≡ []
    → mid ≡ start ++ (codes "imported achievements " ++ (decimal a ++ (codes " leaderboards "
    ++ (decimal b ++ (codes " presence " ++ decimal s))))) → all ≡ mid ++ 10 ∷ []
    → all ≡ join_with_byte 32 (codes "imported" ∷ codes "achievements" ∷ decimal a'
    ∷ codes "leaderboards" ∷ decimal b' ∷ codes "presence" ∷ decimal s' ∷ []) ++ 10 ∷ []
line_is a a' b b' s s' start mid all achievements boards scripts none written whole =
    rw (whole, written, none, achievements, boards, scripts) refl

pub returns : goal.returns
returns c =
    line_is c.achievements-achievements.result _ c.leaderboards-leaderboards.result _ c.scripts-presence.result _ _ _ _
    (c.achievements-achievements.ensures
    ∙ ap (λ items. achievements_in (map item_contents items)) c.deref.ensures.value)
    (c.leaderboards-leaderboards.ensures ∙ ap (λ items. boards_in (map item_contents items)) c.deref-2.ensures.value)
    c.scripts-presence.ensures c.new-line.ensures.bytes c.in_ok-write.ensures.bytes c.in_ok-push_str.ensures.bytes
