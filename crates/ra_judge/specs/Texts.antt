-- What codes and reasons say, as text: docs/DEFINITIONS.md, "Calls from C".
use Rattle.std.specs.Prelude.{ℕ, ◌==◌, nat_lt, if◌then◌else◌, Option, None, Some, List, [], ◌++◌, codes, decimal}
use Rattle.ra_judge.specs.declared.refusal.Refusal.{Refusal}

-- a text of its own
abbrev pub in_one : List ℕ → Option (List ℕ)
in_one text = Some text

-- two numbers in a text
abbrev pub in_two : (before : List ℕ) → (one : ℕ) → (between : List ℕ) → (other : ℕ)
    → (behind : List ℕ) → Option (List ℕ)
in_two before one between other behind = Some (before ++ decimal one ++ between ++ decimal other ++ behind)

-- what a code says, where the number is one
abbrev pub code_text : ℕ → Option (List ℕ)
code_text code =
    if code == 0 then Some (codes "done") else (
    if code == 1 then Some (codes "memory ran out") else (
    if code == 2 then Some (codes "the text is no set") else (
    if code == 3 then Some (codes "the bytes are no progress of the set") else (
    if code == 4 then Some (codes "a size, an id, a kind or a flag is out of range") else (
    if code == 5 then Some (codes "there is too little room") else (
    if code == 6 then Some (codes "the handle holds no game") else (
    if code == 7 then Some (codes "the handle holds a game already") else (
    if code == 8 then Some (codes "there is no unlock to explain") else (
    if code == 9 then Some (codes "nothing is left of the document") else (
    None))))))))))

-- why a text is no set, where the kind is one of a text
abbrev pub set_text : Refusal → Option (List ℕ)
set_text why =
    if why.kind == 1 then in_two (codes "line ") why.line (codes ", column ") why.column
    (codes ": outside the grammar") else (
    if why.kind == 2 then in_two (codes "line ") why.line (codes ": the id ") why.id (codes " stands twice") else (
    if why.kind == 3 then in_two [] why.found (codes " bytes, where ") why.wanted (codes " are the most") else (
    if why.kind == 4 then in_two [] why.found (codes " items, where ") why.wanted (codes " are the most") else (
    if why.kind == 5 then in_two [] why.found (codes " conditions, where ") why.wanted (codes " are the most") else (
    if why.kind == 6 then in_two [] why.found (codes " macros in a display line, where ") why.wanted
    (codes " are the most") else (
    if why.kind == 7 then in_two [] why.found (codes " bytes in a lookup text, where ") why.wanted
    (codes " are the most") else (
    None)))))))

-- why bytes are no progress, or nothing is left of a document, where the kind is one of these
abbrev pub other_text : Refusal → Option (List ℕ)
other_text why =
    if why.kind == 11 then in_two (codes "progress of ") why.found (codes " bytes in place of ") why.wanted [] else (
    if why.kind == 12 then in_one (codes "progress that does not begin with RAPG") else (
    if why.kind == 13 then in_two (codes "progress of version ") why.found (codes ", where ") 3
    (codes " is the newest") else (
    if why.kind == 14 then in_one (codes "progress whose sum is not that of its bytes") else (
    if why.kind == 15 then in_one (codes "progress of another set") else (
    if why.kind == 16 then in_two (codes "byte ") why.at
    (codes ": an entry of another length than ") why.wanted (codes " bytes") else (
    if why.kind == 17 then in_two (codes "byte ") why.at (codes ": the state ") why.found
    (codes ", which is none") else (
    if why.kind == 21 then in_two (codes "a document of ") why.found
    (codes " bytes, where ") why.wanted (codes " are the most") else (
    if why.kind == 22 then in_one (codes "the document is no JSON") else (
    if why.kind == 23 then in_one (codes "the document has no patch") else (
    None))))))))))

-- what a reason says, where its kind is one
abbrev pub reason_text : Refusal → Option (List ℕ)
reason_text why = if nat_lt why.kind 11 then set_text why else other_text why
