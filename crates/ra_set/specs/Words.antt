-- Why a file is no set, in words: docs/DEFINITIONS.md, "Statuses".
use Rattle.std.specs.Prelude.{ℕ, List, ◌++◌, codes, decimal}
use Rattle.ra_set.specs.declared.refused.Which.{Which}
use Rattle.ra_set.specs.declared.refused.Which.TheVariants.{Bytes, Items, Conditions, Macros, Lookup}
use Rattle.ra_set.specs.declared.refused.SetRefused.{SetRefused}
use Rattle.ra_set.specs.declared.refused.SetRefused.TheVariants.{Syntax, DuplicateId, Limit, Memory}
use Rattle.ra_set.specs.Limits.{most_of}

-- the word of each limit
abbrev pub word_of_limit : Which → List ℕ
word_of_limit Bytes = codes "bytes"
word_of_limit Items = codes "items"
word_of_limit Conditions = codes "conditions"
word_of_limit Macros = codes "macros"
word_of_limit Lookup = codes "lookup"

-- why a set is refused, in words
abbrev pub set_words : SetRefused → List ℕ
set_words (Syntax at) = codes "syntax at " ++ decimal at
set_words (DuplicateId id line) = codes "id " ++ decimal id ++ codes " again on line " ++ decimal line
set_words (Limit which found) =
    word_of_limit which ++ codes " " ++ decimal found ++ codes " over " ++ decimal (most_of which)
set_words Memory = codes "want of memory"
