-- The loops over the parts and over the lines of a script.
use Rattle.std.proofs.Common.{min, subst₂, length-take, take, drop, get_or, ◌-◌, ◌≡◌, ◌∙◌, ◌≤◌, ◌<◌, ◌+◌, ◌==◌}
use Rattle.std.proofs.Common.{if◌then◌else◌, ℕ, Bool, true, false, List, [], ◌∷◌, ◌++◌, length, map, Option, Some, None}
use Rattle.std.proofs.Common.{option_map, Ok, Err, refl, sym, ap, subst, arith, le_refl, append_assoc, append-nil}
use Rattle.std.proofs.Common.{length-append}
use Rattle.std.proofs.lemmas.List.{map-append, length-map}
use Rattle.ra_condition.specs.Contents.{PartContents}
use Rattle.ra_condition.specs.declared.fault.Fault.{Fault}
use Rattle.ra_condition.specs.declared.fault.Fault.TheVariants.{Stop, Memory}
use Rattle.ra_richpresence.specs.Contents.{PieceContents, Bytes, Shows}
use Rattle.ra_richpresence.specs.Following.{bytes_of, ends_run, Run, MovesAs, MovesAsUnlessFull, AddsUnlessFull}
use Rattle.ra_richpresence.specs.declared.script_line.ScriptLine.{ScriptLine}
use Rattle.ra_richpresence.specs.Kept.{Keeps, KeepsUnlessFull}
use Rattle.ra_richpresence.specs.declared.kept.Kept.{Kept}
use Rattle.ra_richpresence.proofs.ScriptReaders.{section_behind-shorter}
use Rattle.ra_richpresence.proofs.Splits.{split-first}
use Rattle.ra_richpresence.specs.Sections.{IsLookupOf, IsSectionOf}
use Rattle.ra_richpresence.specs.declared.read_lookup.ReadLookup.{ReadLookup}
use Rattle.ra_richpresence.specs.declared.section.Section.{Section}
use Rattle.ra_richpresence.specs.Grammar.{SectionContents, EntryContents, macro, text_before, joined_texts}
use Rattle.ra_richpresence.specs.Reading.{HeadContents, section_head_of, section_behind_at, sections_at, entry_of}
use Rattle.ra_richpresence.specs.Reading.{entries_at, left_only, run_at, all_at, name_byte, name_at, character_of}
use Rattle.ra_richpresence.specs.Reading.{character_at, shown_character_of, piece_at, macro_at, pieces_of}
use Rattle.ra_richpresence.specs.Reading.{lookup_text_of}
use Rattle.ra_richpresence.proofs.Parts.{closed-macro}
use Rattle.ra_richpresence.proofs.Texts.{smaller-character, smaller-piece, text-next, piece-next}
use Rattle.ra_text.specs.Reading.{Outcome, rest_of, ◌>>=◌, one_at, begins}
use Rattle.ra_text.specs.Table.{is_in, only}
use Rattle.ra_text.proofs.Loops.{Looping, loop-next, loop-fails, loop-ends}
use Rattle.ra_text.proofs.Steps.{same-ok}

-- nothing before a list adds nothing
none-before : {A V : Type 0} (outcome : Outcome A (List V)) → outcome
    ≡ (outcome >>= λ others. Ok ([] ++ others.0, others.1))
none-before (Ok x) = refl
none-before (Err rest) = refl

-- the bytes of lines are those of the first and those of the others
pub first-line : (rest : List ScriptLine) (line : ScriptLine) → 1 ≤ length rest → line ≡ get_or rest
    0 line → bytes_of rest ≡ line.bytes.now ∷ bytes_of (take (length rest - 1) (drop 1 rest))
first-line rest line some is = ap bytes_of (split-first rest line some) ∙ ap
    (λ (l : ScriptLine). l.bytes.now ∷ bytes_of (take (length rest - 1) (drop 1 rest))) (sym is)

-- ---- symbols of a table

module _ {A V : Type 0} (table : A → Option V) where
  -- the symbols so far, of as many as stand there
  abbrev pub RunSoFar : List V → List A → Outcome A (List V) → Type 0
  RunSoFar so_far text whole = Looping {S = Unit {0}} (λ s. table) (λ s tag rest. Ok (tag, rest))
      (λ s v. s) (λ s. true) so_far tt text whole

  pub run-next : (so_far : List V) (c : A) (v : V) (text : List A) (whole : Outcome A (List V))
      → table c ≡ Some v → RunSoFar so_far (c ∷ text) whole → RunSoFar (so_far ++ v ∷ []) text whole
  run-next so_far c v text whole listed l = loop-next {S = Unit {0}} (λ s. table)
      (λ s tag rest. Ok (tag, rest)) (λ s v. s) (λ s. true)
      (λ s tag text. le_refl (length text)) so_far tt c v text whole v text listed refl l

  pub run-ends : (so_far : List V) (text : List A) (whole : Outcome A (List V)) → ((c : A) (t : List
      A) → text ≡ c ∷ t → table c ≡ None) → RunSoFar so_far text whole → whole ≡ Ok (so_far, text)
  run-ends so_far text whole none l = loop-ends {S = Unit {0}} (λ s. table)
      (λ s tag rest. Ok (tag, rest)) (λ s v. s) (λ s. true) so_far tt text whole none refl l

  pub run-starts : (text : List A) → RunSoFar [] text (run_at table text)
  run-starts text = record { is = none-before (run_at table text) }

-- a first byte of a name was read
pub name-starts : (text : List ℕ) (c : ℕ) (rest : List ℕ) → one_at name_byte text ≡ Ok (c, rest)
    → RunSoFar name_byte (c ∷ []) rest (name_at text)
unfolding name_at
name-starts text c rest read =
    record {
      is = ap (λ o. o >>= λ first. run_at name_byte first.1 >>= λ others. Ok (first.0 ∷ others.0, others.1)) read;
    }

pub name-none : (text rest : List ℕ) → one_at name_byte text ≡ Err rest → name_at text ≡ Err rest
unfolding name_at
name-none text rest fails = ap (λ o. o >>= λ first. run_at name_byte first.1
    >>= λ others. Ok (first.0 ∷ others.0, others.1)) fails

-- ---- items up to the end of a line

-- the items so far
abbrev pub AllSoFar : {V : Type 0} → (List ℕ → Outcome ℕ V) → List V → List ℕ → Option (List V) → Type 0
AllSoFar item_at so_far rest whole = whole ≡ option_map (λ vs. so_far ++ vs) (all_at item_at (length rest) rest)

same-map : {V : Type 0} (found : Option (List V)) → found ≡ option_map (λ vs. [] ++ vs) found
same-map (Some vs) = refl
same-map None = refl

map-twice : {V : Type 0} (so_far : List V) (v : V) (found : Option (List V)) → option_map
    (λ vs. so_far ++ vs) (option_map (λ vs. v ∷ vs) found)
    ≡ option_map (λ vs. (so_far ++ v ∷ []) ++ vs) found
map-twice so_far v (Some vs) = ap (λ t. Some t) (sym (append_assoc so_far (v ∷ []) vs))
map-twice so_far v None = refl

-- a text of a lookup
pub text-starts : (text : List ℕ) → AllSoFar character_at [] text (lookup_text_of text)
unfolding lookup_text_of
text-starts text = same-map (all_at character_at (length text) text)

-- a character more
pub text-more : (so_far : List ℕ) (old rest : List ℕ) (v : ℕ) (whole : Option (List ℕ))
    → character_at old ≡ Ok (v, rest) → AllSoFar character_at so_far old whole
    → AllSoFar character_at (so_far ++ v ∷ []) rest whole
text-more so_far old rest v whole read l = l ∙ ap (option_map (λ vs. so_far ++ vs))
    (text-next old v rest read) ∙ map-twice so_far v (all_at character_at (length rest) rest)

-- ---- runs of characters

-- the characters as pieces
abbrev pub pieces_for : List ℕ → List PieceContents
pieces_for text = map (λ byte. Bytes (byte ∷ [])) text

-- the characters so far, of those that stand before what is left
pub record RunningSoFar (old text new : List ℕ) : Type 0 where
  pub reads : all_at piece_at (length old) old
      ≡ option_map (λ pieces. pieces_for text ++ pieces) (all_at piece_at (length new) new)
  pub shorter : length new + length text ≤ length old
  pub some : text ≡ [] → new ≡ old

-- a character that begins no macro is a piece
character-piece : (c : ℕ) (t : List ℕ) (v : ℕ) (rest : List ℕ) → (c == 64) ≡ false
    → character_at (c ∷ t) ≡ Ok (v, rest) → piece_at (c ∷ t) ≡ Ok (Bytes (v ∷ []), rest)
character-piece c t v rest is read =
    rw is (ap (λ x. Ok (Bytes (x.0 ∷ []), x.1)) (same-ok (character_of c t) (v, rest) read))

pieces-twice : (text : List ℕ) (v : ℕ) (found : Option (List PieceContents))
    → option_map (λ pieces. pieces_for text ++ pieces) (option_map (λ pieces. Bytes (v ∷ [])
    ∷ pieces) found) ≡ option_map (λ pieces. pieces_for (text ++ v ∷ []) ++ pieces) found
pieces-twice text v (Some pieces) = ap (λ t. Some t)
    (sym (ap (λ t. t ++ pieces) (map-append (λ byte. Bytes (byte ∷ [])) text (v ∷ []))
    ∙ append_assoc (pieces_for text) (Bytes (v ∷ []) ∷ []) pieces))
pieces-twice text v None = refl

no-end : (text : List ℕ) (v : ℕ) → text ++ v ∷ [] ≡ [] → ⊥
no-end [] v e = cc e
no-end (c ∷ text) v e = cc e

pub running-more : (old text middle : List ℕ) (v : ℕ) (new : List ℕ) → ends_run middle ≡ false
    → character_at middle ≡ Ok (v, new) → RunningSoFar old text middle
    → RunningSoFar old (text ++ v ∷ []) new
running-more old text [] v new goes_on read l = absurd (cc goes_on)
running-more old text (c ∷ t) v new goes_on read l = record {
  reads = l.reads ∙ ap (option_map (λ pieces. pieces_for text ++ pieces))
      (piece-next (c ∷ t) (Bytes (v ∷ [])) new (character-piece c t v new goes_on read))
      ∙ pieces-twice text v (all_at piece_at (length new) new);
  shorter = (let less : length new < length (c ∷ t) = smaller-character (c ∷ t) v new read in
      let s : length (c ∷ t) + length text ≤ length old = l.shorter in
      omega (arith, length-append text (v ∷ [])));
  some = λ e. absurd (no-end text v e);
}

-- ---- pieces

-- the pieces so far
abbrev pub PiecesSoFar : List PieceContents → List ℕ → Option (List PieceContents) → Type 0
PiecesSoFar so_far rest whole = whole
    ≡ option_map (λ pieces. so_far ++ joined_texts pieces) (all_at piece_at (length rest) rest)

map-joined : (found : Option (List PieceContents)) → option_map joined_texts found
    ≡ option_map (λ pieces. [] ++ joined_texts pieces) found
map-joined (Some pieces) = refl
map-joined None = refl

pub pieces-start : (text : List ℕ) → PiecesSoFar [] text (pieces_of text)
unfolding pieces_of
pieces-start text = map-joined (all_at piece_at (length text) text)

-- a macro more
macro-twice : (so_far : List PieceContents) (name : List ℕ) (value : List PartContents)
    (found : Option (List PieceContents)) → option_map (λ pieces. so_far ++ joined_texts pieces)
    (option_map (λ pieces. Shows name value ∷ pieces) found)
    ≡ option_map (λ pieces. (so_far ++ Shows name value ∷ []) ++ joined_texts pieces) found
macro-twice so_far name value (Some pieces) =
    ap (λ t. Some t) (sym (append_assoc so_far (Shows name value ∷ []) (joined_texts pieces)))
macro-twice so_far name value None = refl

pub macro-more : (so_far : List PieceContents) (c : ℕ) (t : List ℕ) (name : List ℕ)
    (value : List PartContents) (new : List ℕ) (whole : Option (List PieceContents))
    → piece_at (c ∷ t) ≡ Ok (Shows name value, new) → PiecesSoFar so_far (c ∷ t) whole
    → PiecesSoFar (so_far ++ Shows name value ∷ []) new whole
macro-more so_far c t name value new whole read l =
    l ∙ ap (option_map (λ pieces. so_far ++ joined_texts pieces)) (piece-next (c ∷ t)
    (Shows name value) new read) ∙ macro-twice so_far name value (all_at piece_at (length new) new)

-- a text of characters before pieces that begin with none is one piece
text-joined : (c : ℕ) (text : List ℕ) (pieces others : List PieceContents) → joined_texts pieces
    ≡ others → ((t : List ℕ) → text_before t others ≡ Bytes t ∷ others)
    → joined_texts (pieces_for (c ∷ text) ++ pieces) ≡ Bytes (c ∷ text) ∷ others
text-joined c [] pieces others is apart = ap (text_before (c ∷ [])) is ∙ apart (c ∷ [])
text-joined c (d ∷ text) pieces others is apart = ap (text_before (c ∷ [])) (text-joined d text pieces others is apart)

-- the pieces behind a run begin with no text
abbrev Apart : Option (List PieceContents) → Type 0
Apart None = Unit {0}
Apart (Some []) = Unit {0}
Apart (Some (Shows name value ∷ pieces)) = Unit {0}
Apart (Some (Bytes text ∷ pieces)) = ⊥

-- a macro shows a value
data IsShows : PieceContents → Type 0 where
  a_macro : (name : List ℕ) (value : List PartContents) → IsShows (Shows name value)

macro-shows : (front : List ℕ) (v : PieceContents) → macro front v → IsShows v
macro-shows front v h = subst IsShows (sym h.of_next.of_next.of_next.of_next.of_next.is)
    (a_macro h.of_next.v h.of_next.of_next.of_next.v)

behind-run : (new : List ℕ) → ends_run new ≡ true → Apart (all_at piece_at (length new) new)
behind-run [] e = tt
behind-run (c ∷ t) e = cases (macro_at (c ∷ t)) refl where
  found : Outcome ℕ PieceContents → Option (List PieceContents)
  found o = elim o [
    | Ok x ↦ option_map (λ vs. x.0 ∷ vs) (all_at piece_at (length t) x.1)
    | Err left ↦ None
  ]

  behind : (v : PieceContents) → IsShows v → (others : Option (List PieceContents))
      → Apart (option_map (λ vs. v ∷ vs) others)
  behind v (a_macro name value) (Some pieces) = tt
  behind v (a_macro name value) None = tt

  cases : (o : Outcome ℕ PieceContents) → macro_at (c ∷ t) ≡ o
      → Apart (found (if c == 64 then macro_at (c ∷ t) else Ok (shown_character_of c t)))
  cases (Ok x) is = rw (e, is) (let cut : (front : List ℕ) × (c ∷ t ≡ front ++ x.1)
      × macro front x.0 = closed-macro.cuts (c ∷ t) x.0 x.1 is in
      behind x.0 (macro-shows cut.0 x.0 cut.2) (all_at piece_at (length t) x.1))
  cases (Err left) is = rw (e, is) tt

run-twice : (so_far : List PieceContents) (c : ℕ) (text : List ℕ) (found : Option (List PieceContents)) → Apart found
    → option_map (λ pieces. so_far ++ joined_texts pieces)
    (option_map (λ pieces. pieces_for (c ∷ text) ++ pieces) found)
    ≡ option_map (λ pieces. (so_far ++ Bytes (c ∷ text) ∷ []) ++ joined_texts pieces) found
run-twice so_far c text None apart = refl
run-twice so_far c text (Some []) apart = ap (λ t. Some (so_far ++ t)) (text-joined c text [] []
    refl (λ t. refl)) ∙ ap (λ t. Some t) (sym (append-nil (so_far ++ Bytes (c ∷ text) ∷ [])))
run-twice so_far c text (Some (Bytes t ∷ pieces)) apart = absurd apart
run-twice so_far c text (Some (Shows name value ∷ pieces)) apart =
    ap (λ t. Some (so_far ++ t)) (text-joined c text (Shows name value ∷ pieces)
    (Shows name value ∷ joined_texts pieces) refl (λ t. refl))
    ∙ ap (λ t. Some t) (sym (append_assoc so_far (Bytes (c ∷ text) ∷ []) (Shows name value ∷ joined_texts pieces)))

-- a text more
pub run-more : (so_far : List PieceContents) (old text new : List ℕ)
    (whole : Option (List PieceContents)) → ends_run old ≡ false → Run old text new
    → PiecesSoFar so_far old whole → PiecesSoFar (so_far ++ Bytes text ∷ []) new whole
run-more so_far old [] new whole goes_on r l = absurd (r.some goes_on refl)
run-more so_far old (c ∷ text) new whole goes_on r l =
    l ∙ ap (option_map (λ pieces. so_far ++ joined_texts pieces)) r.reads
    ∙ run-twice so_far c text (all_at piece_at (length new) new) (behind-run new r.ends)

-- ---- what the code tests

-- the test for a macro, and the byte
is-macro : (c : ℕ) → is_in (only (64 ∷ [])) c ≡ (c == 64)
is-macro c = cases (c == 64) where
  mark : Unit {0}
  mark = tt

  cases : (same : Bool) → elim (if same then Some mark else None) [ Some v ↦ true | None ↦ false ] ≡ same
  cases true = refl
  cases false = refl

pub macro-turn : (so_far : List PieceContents) (old : List ℕ) (v : PieceContents) (new : List ℕ)
    (whole : Option (List PieceContents)) → begins (is_in (only (64 ∷ []))) old ≡ true → macro_at
    old ≡ Ok (v, new) → PiecesSoFar so_far old whole → PiecesSoFar (so_far ++ v ∷ []) new whole
macro-turn so_far [] v new whole at read l = absurd (cc at)
macro-turn so_far (c ∷ t) v new whole at read l =
    let cut : (front : List ℕ) × (c ∷ t ≡ front ++ new) × macro front v =
    closed-macro.cuts (c ∷ t) v new read in cases v read (macro-shows cut.0 v cut.2) where
      cases : (v : PieceContents) → macro_at (c ∷ t) ≡ Ok (v, new) → IsShows v
          → PiecesSoFar (so_far ++ v ∷ []) new whole
      cases v read (a_macro name value) = macro-more so_far c t name value new whole (rw (sym (is-macro c) ∙ at) read) l

pub macro-smaller : (old : List ℕ) (v : PieceContents) (new : List ℕ) → begins
    (is_in (only (64 ∷ []))) old ≡ true → macro_at old ≡ Ok (v, new) → length new < length old
macro-smaller [] v new at read = absurd (cc at)
macro-smaller (c ∷ t) v new at read = smaller-piece (c ∷ t) v new (rw (sym (is-macro c) ∙ at) read)

-- a run goes on where something is left and no macro begins
pub run-goes_on : (old : List ℕ) → (length old == 0) ≡ false → begins (is_in (only (64 ∷ []))) old
    ≡ false → ends_run old ≡ false
run-goes_on [] some at = absurd (cc some)
run-goes_on (c ∷ t) some at = sym (is-macro c) ∙ at

-- ---- the lines of a lookup

-- the lines so far, and the lookup that they make
pub record EntriesSoFar (most : ℕ) (name : List ℕ) (found : ReadLookup) (rest : List (List ℕ))
    (whole : Outcome (List ℕ) (List EntryContents)) : Type 0 where
  pub entries : List EntryContents
  pub made : IsLookupOf most name entries found
  pub so_far : RunSoFar (left_only entry_of) entries rest whole

pub entries-start : (most : ℕ) (name : List ℕ) (found : ReadLookup) (lines : List (List ℕ))
    → IsLookupOf most name [] found → EntriesSoFar most name found lines (entries_at lines)
unfolding entries_at
entries-start most name found lines made =
    record { entries = []; made = made; so_far = run-starts (left_only entry_of) lines }

pub entries-more : (most : ℕ) (name : List ℕ) (found after : ReadLookup) (entry : EntryContents)
    (line : List ℕ) (rest : List (List ℕ)) (whole : Outcome (List ℕ) (List EntryContents))
    → left_only entry_of line ≡ Some entry
    → ((entries : List EntryContents) → IsLookupOf most name entries found
    → IsLookupOf most name (entries ++ entry ∷ []) after)
    → EntriesSoFar most name found (line ∷ rest) whole → EntriesSoFar most name after rest whole
entries-more most name found after entry line rest whole listed adds l = record {
  entries = l.entries ++ entry ∷ [];
  made = adds l.entries l.made;
  so_far = run-next (left_only entry_of) l.entries line entry rest whole listed l.so_far;
}

pub entries-turn : (most : ℕ) (name : List ℕ) (found after : ReadLookup) (entry : EntryContents)
    (line : ScriptLine) (rest : List ScriptLine) (whole : Outcome (List ℕ) (List EntryContents))
    → 1 ≤ length rest → line ≡ get_or rest 0 line → left_only entry_of line.bytes.now ≡ Some entry
    → ((entries : List EntryContents) → IsLookupOf most name entries found
    → IsLookupOf most name (entries ++ entry ∷ []) after)
    → EntriesSoFar most name found (bytes_of rest) whole
    → EntriesSoFar most name after (bytes_of (take (length rest - 1) (drop 1 rest))) whole
entries-turn most name found after entry line rest whole some is listed adds l =
    entries-more most name found after entry line.bytes.now
    (bytes_of (take (length rest - 1) (drop 1 rest))) whole listed adds
    (subst (λ t. EntriesSoFar most name found t whole) (first-line rest line some is) l)

-- a fault of a call that adds something is want of memory
pub fault-adds : {X V : Type 0} (stands : X → V → Type 0) (fault : Fault) (fact : Type 0)
    (rest : List ScriptLine) (outcome : Outcome (List ℕ) V) → AddsUnlessFull (Err fault) fact
    → MovesAsUnlessFull stands (Err fault) rest outcome
fault-adds stands Stop fact rest outcome h = absurd h
fault-adds stands Memory fact rest outcome h = tt

-- ---- sections

-- the sections so far, kept behind those before
pub record SectionsSoFar (most : ℕ) (before : List SectionContents) (kept : Kept)
    (rest : List (List ℕ)) (whole : Outcome (List ℕ) (List SectionContents)) : Type 0 where
  pub sections : List SectionContents
  pub keeps : Keeps most (before ++ sections) kept
  pub so_far : Looping {S = Unit {0}} (λ s. left_only section_head_of) (λ s. section_behind_at)
      (λ s v. s) (λ s. true) sections tt rest whole

pub sections-start : (most : ℕ) (before : List SectionContents) (kept : Kept) (lines : List
    (List ℕ)) → Keeps most before kept → SectionsSoFar most before kept lines (sections_at lines)
unfolding sections_at
sections-start most before kept lines keeps = record {
  sections = [];
  keeps = subst (λ sections. Keeps most sections kept) (sym (append-nil before)) keeps;
  so_far = record { is = none-before (sections_at lines) };
}

pub sections-more : (most : ℕ) (before : List SectionContents) (kept after : Kept) (line : List ℕ)
    (lines rest : List (List ℕ)) (whole : Outcome (List ℕ) (List SectionContents))
    (head : HeadContents) (s : SectionContents) → left_only section_head_of line ≡ Some head
    → section_behind_at head lines ≡ Ok (s, rest)
    → ((sections : List SectionContents) → Keeps most sections kept
    → Keeps most (sections ++ s ∷ []) after) → SectionsSoFar most before kept (line ∷ lines) whole
    → SectionsSoFar most before after rest whole
sections-more most before kept after line lines rest whole head s listed read adds l = record {
  sections = l.sections ++ s ∷ [];
  keeps = subst (λ sections. Keeps most sections after) (append_assoc before l.sections (s ∷ []))
      (adds (before ++ l.sections) l.keeps);
  so_far = loop-next {S = Unit {0}} (λ s. left_only section_head_of) (λ s. section_behind_at)
      (λ s v. s) (λ s. true) (λ s tag lines. section_behind-shorter tag lines) l.sections tt line
      head lines whole s rest listed read l.so_far;
}

-- want of memory at a section more
pub fault-keeps : (most : ℕ) (before : List SectionContents) (fault : Fault) (fact : Type 0)
    (kept : Kept) (rest : List ScriptLine) (outcome : Outcome (List ℕ) (List SectionContents))
    → AddsUnlessFull (Err fault) fact → KeepsUnlessFull most before (Err fault) kept rest outcome
fault-keeps most before Stop fact kept rest outcome h = absurd h
fault-keeps most before Memory fact kept rest outcome h = tt

pub sections-turn : (most : ℕ) (before : List SectionContents) (kept after : Kept)
    (line : ScriptLine) (lines rest : List ScriptLine)
    (whole : Outcome (List ℕ) (List SectionContents)) (head : HeadContents) (section : Section)
    → (m : MovesAs (λ (section : Section) (s : SectionContents). IsSectionOf kept.most s section)
    section rest (section_behind_at head (bytes_of (take (length lines - 1) (drop 1 lines)))))
    → 1 ≤ length lines → line ≡ get_or lines 0 line → left_only section_head_of line.bytes.now ≡ Some head
    → ((most : ℕ) (sections : List SectionContents) (s : SectionContents) → Keeps most sections kept
    → IsSectionOf most s section → Keeps most (sections ++ s ∷ []) after) → SectionsSoFar most
    before kept (bytes_of lines) whole → SectionsSoFar most before after (bytes_of rest) whole
sections-turn most before kept after line lines rest whole head section m some is listed adds l =
    sections-more most before kept after line.bytes.now (bytes_of
    (take (length lines - 1) (drop 1 lines))) (bytes_of rest) whole head m.value listed m.read
    (λ sections keeps. adds most sections m.value keeps
    (subst (λ n. IsSectionOf n m.value section) keeps.limit m.is))
    (subst (λ t. SectionsSoFar most before kept t whole) (first-line lines line some is) l)

pub sections-smaller : (head : HeadContents) (lines rest : List ScriptLine) (s : SectionContents)
    → 1 ≤ length lines → section_behind_at head (bytes_of (take (length lines - 1) (drop 1 lines)))
    ≡ Ok (s, bytes_of rest) → length rest < length lines
sections-smaller head lines rest s some read =
    let behind : List ScriptLine = take (length lines - 1) (drop 1 lines) in
    let shorter : length (bytes_of rest) ≤ length (bytes_of behind) = subst (λ o. length (rest_of o)
    ≤ length (bytes_of behind)) read (section_behind-shorter head (bytes_of behind)) in
    smaller lines rest behind some (length-take (length lines - 1) (drop 1 lines))
    (subst₂ (λ a b. a ≤ b) (length-map rest (λ (line : ScriptLine). line.bytes.now))
    (length-map behind (λ (line : ScriptLine). line.bytes.now)) shorter) where
      smaller : (lines rest behind : List ScriptLine) → 1 ≤ length lines → length behind
          ≡ min (length lines - 1) (length (drop 1 lines)) → length rest ≤ length behind
          → length rest < length lines
      smaller lines rest behind some e le = omega arith
