-- Texts of the program for authors: docs/DEFINITIONS.md, "Jobs for authors".
use Rattle.std.specs.Prelude.{ℕ, List, ◌++◌, codes}

-- the line that says how the program is called
abbrev pub usage_line : List ℕ
usage_line = codes "usage: ra_author review SET | why SET TRACE ID | import FILE SET | help | version\n"

-- the line of a file that could not be read
abbrev pub read_line : List ℕ
read_line = codes "read fault\n"

-- the line of a file that could not be put
abbrev pub save_line : List ℕ
save_line = codes "save fault\n"

-- the version
abbrev pub version_text : List ℕ
version_text = codes "ra_author 1\n"

-- the jobs, in the help text
abbrev pub help_jobs : List ℕ
help_jobs =
    codes "ra_author: for those who write achievement sets\n\n"
    ++ codes "  ra_author review SET          shows what is refused, with the place, and what looks like a slip\n"
    ++ codes "  ra_author why SET TRACE ID    tells why an achievement did or did not unlock over a trace\n"
    ++ codes "  ra_author import FILE SET     makes a set file from JSON and names what it leaves out\n"
    ++ codes "  ra_author help                this text\n"
    ++ codes "  ra_author version             the version\n\n"

-- a review, in the help text
abbrev pub help_review : List ℕ
help_review =
    codes "ra_author review game.set\n"
    ++ codes "  line 2 column 15 refused      the line stands below, with ^ under the place\n"
    ++ codes "  A 3 0xH0010=5_\n"
    ++ codes "                ^\n"
    ++ codes "  notice A 1 0.1 open-chain     achievement 1, group 0 (the core), condition 1 (from 0)\n"
    ++ codes "  reviewed lines 2 refused 1 notices 1\n\n"

-- an account of an achievement, in the help text
abbrev pub help_why : List ℕ
help_why =
    codes "ra_author why game.set play.trace 1\n"
    ++ codes "  frames 300 state active measured 0 column 8\n"
    ++ codes "  0.0 0xH0010=5.3.\n"
    ++ codes "   counts 2 first 40 last 41 hits 2 of 3 best 2 at 41\n"
    ++ codes "   .....+................................    8 frames a column: # at all, + at some, . at none\n"
    ++ codes "  waited 0                      frames at which all was true from the start on, as it waits\n"
    ++ codes "  nearest 299 wants 0.0         the frame at which the fewest conditions were missing\n\n"

-- an import, in the help text
abbrev pub help_import : List ℕ
help_import =
    codes "ra_author import 1234.json game.set\n"
    ++ codes "  left out achievements 4 7 syntax at 12\n"
    ++ codes "  imported achievements 9 leaderboards 2 presence 1 left out 1\n"

-- the help text
abbrev pub help_text : List ℕ
help_text = help_jobs ++ help_review ++ help_why ++ help_import
