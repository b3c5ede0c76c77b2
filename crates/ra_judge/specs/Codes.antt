-- What a call answers: docs/DEFINITIONS.md, "Calls from C".
use Rattle.std.specs.Prelude.{ℕ}

-- the call did what it says
abbrev pub done : ℕ
done = 0

-- memory ran out
abbrev pub memory : ℕ
memory = 1

-- the text is no set
abbrev pub no_set : ℕ
no_set = 2

-- the bytes are no progress of the set
abbrev pub no_progress : ℕ
no_progress = 3

-- a size, an id, a kind or a flag is out of range
abbrev pub out_of_range : ℕ
out_of_range = 4

-- there is too little room
abbrev pub no_room : ℕ
no_room = 5

-- the handle holds nothing
abbrev pub empty : ℕ
empty = 6

-- the handle holds a game already
abbrev pub full : ℕ
full = 7

-- there is nothing to explain
abbrev pub nothing : ℕ
nothing = 8

-- nothing is left of the document
abbrev pub no_document : ℕ
no_document = 9
