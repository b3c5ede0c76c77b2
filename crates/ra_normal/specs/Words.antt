-- Why a set has no normal text, in words: docs/DEFINITIONS.md, "Statuses".
use Rattle.std.specs.Prelude.{ℕ, List, codes}
use Rattle.ra_set.specs.declared.refused.SetRefused.TheVariants as set
use Rattle.ra_set.specs.Words.{set_words}
use Rattle.ra_normal.specs.declared.refused.NormalRefused.{NormalRefused}
use Rattle.ra_normal.specs.declared.refused.NormalRefused.TheVariants.{Limit, Memory}

-- the words of a limit that a set passes
abbrev pub normal_words : NormalRefused → List ℕ
normal_words (Limit which found) = set_words (set.Limit which found)
normal_words Memory = codes "want of memory"
