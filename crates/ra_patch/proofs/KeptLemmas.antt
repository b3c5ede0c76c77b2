-- The set file of what stays is refused for nothing but a limit.
use Rattle.std.proofs.Common.{◌≡◌, ◌∙◌, ℕ, ◌==◌, ◌||◌, false, List, [], ◌∷◌, ◌++◌, map, Option, Some, None, refl, sym}
use Rattle.std.proofs.Common.{ap, subst, inl, append_assoc, append-nil}
use Rattle.std.specs.List.{IsDistinct, flat_map, list_any}
use Rattle.std.proofs.lemmas.List.{map-append}
use Rattle.std.proofs.lemmas.List.Concat.{flat_map-append}
use Rattle.std.proofs.lemmas.List.Folds.{list_any-append}
use Rattle.std.proofs.lemmas.Map.Keys.{IsDistinct-push}
use Rattle.serde_json.specs.Data.{Data}
use Rattle.ra_richpresence.specs.Contents.{ScriptContents}
use Rattle.ra_richpresence.specs.Grammar.{script}
use Rattle.ra_set.specs.Accepted.{repeats}
use Rattle.ra_set.specs.Contents.{ItemContents, Unlocks, Ranks}
use Rattle.ra_set.specs.Grammar.{FileContents, Line, ended_line, items_of, set_file}
use Rattle.ra_set.specs.Reading.{Ends, Opens}
use Rattle.ra_set.specs.Runs.{many}
use Rattle.ra_set.specs.declared.refused.SetRefused.TheVariants.{Syntax, DuplicateId, Limit, Memory}
use Rattle.ra_set.proofs.FileLemmas.{file-once}
use Rattle.ra_set.proofs.FileReaders.{empty-line}
use Rattle.ra_set.proofs.FrontLemmas.{ended-front, file-of_lines, file-of_script, front-head, front-lines}
use Rattle.ra_set.proofs.RepeatLemmas.{repeat-apart, repeats-equivalence}
use Rattle.ra_patch.specs.declared.item_kind.ItemKind.{ItemKind}
use Rattle.ra_patch.specs.declared.item_kind.ItemKind.TheVariants.{Achievement, Leaderboard}
use Rattle.ra_patch.specs.declared.left_out.LeftCause.{LeftCause}
use Rattle.ra_patch.specs.declared.left_out.LeftOut.{LeftOut}
use Rattle.ra_patch.specs.LeftAnswers.{KeepsGrammar, LeavesLists}
use Rattle.ra_patch.specs.Leaving.{IsScriptPlace, IsScriptVerdict, Leaves, of_more, of_none, has_id, id_of, kept_script}
use Rattle.ra_patch.specs.Leaving.{line_of}
use Rattle.ra_patch.specs.Lines.{presence_lines}
use Rattle.ra_patch.proofs.LineLemmas.{IsOf, SpellsItem, item-spelled}

-- ---- lines

-- one line more behind others
many-push : (t u : List ℕ) (ls : List Line) (l : Line) → many ended_line t ls → ended_line u l
    → many ended_line (t ++ u) (ls ++ l ∷ [])
many-push t u [] l none h = subst (λ x. many ended_line (x ++ u) (l ∷ [])) (sym none)
    (record { front = u; behind = []; parts = sym (append-nil u); of_first = h; of_next = refl })
many-push t u (k ∷ ls) l all h = record {
  front = all.front;
  behind = all.behind ++ u;
  parts = ap (λ x. x ++ u) all.parts ∙ append_assoc all.front all.behind u;
  of_first = all.of_first;
  of_next = many-push all.behind u ls l all.of_next h;
}

-- lines behind others
many-append : (t u : List ℕ) (ls ks : List Line) → many ended_line t ls → many ended_line u ks
    → many ended_line (t ++ u) (ls ++ ks)
many-append t u [] ks none h = subst (λ x. many ended_line (x ++ u) ks) (sym none) h
many-append t u (l ∷ ls) ks all h = record {
  front = all.front;
  behind = all.behind ++ u;
  parts = ap (λ x. x ++ u) all.parts ∙ append_assoc all.front all.behind u;
  of_first = all.of_first;
  of_next = many-append all.behind u ls ks all.of_next h;
}

-- ---- items that stay

abbrev other : ItemKind → ItemKind
other Achievement = Leaderboard
other Leaderboard = Achievement

-- an item of a kind repeats none of these
abbrev Lacks : ItemKind → List ItemContents → Type 0
Lacks kind items = (x : ItemContents) (n : ℕ) → IsOf kind n x → list_any (repeats x) items ≡ false

-- behind others stand items for those that stay, all of the kind, of which no id stands twice
record Keeps (kind : ItemKind) (others : List ItemContents) (stays : List Data) : Type 0 where
  items : List ItemContents
  lines : many ended_line (flat_map (line_of kind) stays) (map Some items)
  distinct : IsDistinct repeats (others ++ items)
  known : (x : ItemContents) (n : ℕ) → IsOf kind n x → list_any (repeats x) (others ++ items) ≡ has_id stays n
  apart : Lacks (other kind) items

keeps-none : (kind : ItemKind) (others : List ItemContents) → IsDistinct repeats others → Lacks kind others
    → Keeps kind others []
keeps-none kind others distinct lacks = record {
  items = [];
  lines = refl;
  distinct = subst (IsDistinct repeats) (sym (append-nil others)) distinct;
  known = λ x n is. ap (list_any (repeats x)) (append-nil others) ∙ lacks x n is;
  apart = λ x n is. refl;
}

pub same-repeats : (kind : ItemKind) (x y : ItemContents) (n m : ℕ) → IsOf kind n x → IsOf kind m y
    → repeats x y ≡ (n == m)
same-repeats Achievement (Unlocks id t) (Unlocks id' t') n m a b = ap (λ k. k == id') a ∙ ap (λ k. n == k) b
same-repeats Leaderboard (Ranks id f t) (Ranks id' f' t') n m a b = ap (λ k. k == id') a ∙ ap (λ k. n == k) b
same-repeats Achievement (Ranks id f t) y n m a b = absurd a
same-repeats Achievement (Unlocks id t) (Ranks id' f t') n m a b = absurd b
same-repeats Leaderboard (Unlocks id t) y n m a b = absurd a
same-repeats Leaderboard (Ranks id f t) (Unlocks id' t') n m a b = absurd b

other-repeats : (kind : ItemKind) (x y : ItemContents) (n m : ℕ) → IsOf (other kind) n x → IsOf kind m y
    → repeats x y ≡ false
other-repeats Achievement (Ranks id f t) (Unlocks id' t') n m a b = refl
other-repeats Leaderboard (Unlocks id t) (Ranks id' f' t') n m a b = refl
other-repeats Achievement (Unlocks id t) y n m a b = absurd a
other-repeats Achievement (Ranks id f t) (Ranks id' f' t') n m a b = absurd b
other-repeats Leaderboard (Ranks id f t) y n m a b = absurd a
other-repeats Leaderboard (Unlocks id t) (Unlocks id' t') n m a b = absurd b

keeps-push : (kind : ItemKind) (others : List ItemContents) (stays : List Data) (d : Data) → Keeps kind others stays
    → SpellsItem kind d
    → has_id stays (id_of d) ≡ false → Keeps kind others (stays ++ d ∷ [])
keeps-push kind others stays d k s new = record {
  items = k.items ++ s.item ∷ [];
  lines =
      let text : flat_map (line_of kind) stays ++ line_of kind d ≡ flat_map (line_of kind) (stays ++ d ∷ []) =
      ap (λ t. flat_map (line_of kind) stays ++ t) (sym (append-nil (line_of kind d)))
      ∙ sym (flat_map-append (line_of kind) stays (d ∷ [])) in
      let here : many ended_line (flat_map (line_of kind) stays ++ line_of kind d) (map Some (k.items ++ s.item ∷ [])) =
      subst (λ ls. many ended_line (flat_map (line_of kind) stays ++ line_of kind d) ls)
      (sym (map-append Some k.items (s.item ∷ [])))
      (many-push (flat_map (line_of kind) stays) (line_of kind d) (map Some k.items) (Some s.item) k.lines s.spelled) in
      subst (λ t. many ended_line t (map Some (k.items ++ s.item ∷ []))) text here;
  distinct = subst (IsDistinct repeats) (append_assoc others k.items (s.item ∷ []))
      (IsDistinct-push repeats-equivalence (others ++ k.items) s.item k.distinct (k.known s.item (id_of d) s.of_kind
      ∙ new));
  known = λ x n is.
      ap (list_any (repeats x)) (sym (append_assoc others k.items (s.item ∷ [])))
      ∙ list_any-append (repeats x) (others ++ k.items) (s.item ∷ [])
      ∙ ap (λ b. b || (repeats x s.item || false)) (k.known x n is)
      ∙ ap (λ b. has_id stays n || (b || false)) (same-repeats kind x s.item n (id_of d) is s.of_kind)
      ∙ sym (list_any-append (λ e. n == id_of e) stays (d ∷ []));
  apart = λ x n is.
      list_any-append (repeats x) k.items (s.item ∷ []) ∙ ap (λ b. b || (repeats x s.item || false)) (k.apart x n is)
      ∙ ap (λ b. b || false) (other-repeats kind x s.item n (id_of d) is s.of_kind);
}

keeps-leaves : (kind : ItemKind) (others : List ItemContents) → IsDistinct repeats others → Lacks kind others
    → (items stays : List Data) (out : List LeftOut) → Leaves kind items stays out → Keeps kind others stays
keeps-leaves kind others distinct lacks items stays out of_none = keeps-none kind others distinct lacks
keeps-leaves kind others distinct lacks items stays out (of_more items0 stays0 out0 d None l v) =
    keeps-push kind others stays0 d (keeps-leaves kind others distinct lacks items0 stays0 out0 l)
    (item-spelled kind d v.0 v.1) v.2
keeps-leaves kind others distinct lacks items stays out (of_more items0 stays0 out0 d (Some cause) l v) =
    subst (Keeps kind others) (sym (append-nil stays0)) (keeps-leaves kind others distinct lacks items0 stays0 out0 l)

-- ---- files

-- a file without repeated ids of which this is contained
record Contains (file : List ℕ) : Type 0 where
  contents : FileContents
  spelled : set_file file contents
  distinct : IsDistinct repeats (items_of contents.lines)

-- such a file is refused for a limit alone
only-limits : (file : List ℕ) → Contains file → KeepsGrammar file
only-limits file c (Syntax at) r = r.1.outside c.contents c.spelled
only-limits file c (DuplicateId id number) r =
    repeat-apart r.0.lines id number r.2
    (subst (λ x. IsDistinct repeats (items_of x.lines)) (file-once file c.contents r.0 c.spelled r.1.spelled)
    c.distinct)
only-limits file c (Limit which found) r = tt
only-limits file c Memory r = r

all-items : (items : List ItemContents) → items_of (map Some items) ≡ items
all-items [] = refl
all-items (x ∷ items) = ap (λ xs. x ∷ xs) (all-items items)

with-none : (items : List ItemContents) → items_of (map Some items ++ None ∷ []) ≡ items
with-none [] = refl
with-none (x ∷ items) = ap (λ xs. x ∷ xs) (with-none items)

-- lines without a script
contains-lines : (text : List ℕ) (items : List ItemContents) → many ended_line text (map Some items)
    → IsDistinct repeats items → Contains (text ++ [])
contains-lines text items all distinct = record {
  contents = record { lines = map Some items ++ None ∷ []; script = None };
  spelled = file-of_lines (text ++ []) (map Some items ++ None ∷ [])
      (front-lines (text ++ []) (map Some items) None
      (ended-front (Ends None) (map Some items) text all [] empty-line));
  distinct = subst (IsDistinct repeats) (sym (with-none items)) distinct;
}

-- lines with a script
contains-script : (text behind : List ℕ) (items : List ItemContents) (s : ScriptContents)
    → many ended_line text (map Some items)
    → script behind s → IsDistinct repeats items → Contains (text ++ (80 ∷ 10 ∷ behind))
contains-script text behind items s all spelled distinct = let file = text ++ (80 ∷ 10 ∷ behind) in record {
  contents = record { lines = map Some items; script = Some spelled.parts };
  spelled = file-of_script file behind (map Some items) spelled.parts
      (front-head file behind (map Some items)
      (ended-front (Opens behind) (map Some items) text all (80 ∷ 10 ∷ behind) (inl refl))) spelled.spelled;
  distinct = subst (IsDistinct repeats) (sym (all-items items)) distinct;
}

contains-kept : (text behind : List ℕ) (items : List ItemContents) → many ended_line text (map Some items)
    → IsDistinct repeats items
    → IsScriptPlace behind None → Contains (text ++ presence_lines behind)
contains-kept text [] items all distinct place = contains-lines text items all distinct
contains-kept text (c ∷ cs) items all distinct place = contains-script text (c ∷ cs) items place.0 all place.1 distinct

-- what stays of a presence string is empty or a script
kept-place : (text : Option (List ℕ)) (cause : Option LeftCause) → IsScriptVerdict text cause
    → IsScriptPlace (kept_script text cause) None
kept-place None None v = tt
kept-place None (Some cause) v = tt
kept-place (Some text) None v = v
kept-place (Some text) (Some cause) v = tt

none-distinct : IsDistinct repeats []
unfolding IsDistinct
none-distinct = tt

-- what is left of lists is refused for nothing but a limit
pub kept-grammar : (achievements boards : List Data) (script : Option (List ℕ)) (text : List ℕ) (out : List LeftOut)
    → LeavesLists achievements boards script text out → KeepsGrammar text
kept-grammar achievements boards script text out x =
    let a =
    keeps-leaves Achievement [] none-distinct (λ y n is. refl) achievements x.achievements_kept x.achievement_rows
    x.of_achievements in
    let b = keeps-leaves Leaderboard a.items a.distinct a.apart boards x.boards_kept x.board_rows x.of_boards in
    let first = flat_map (line_of Achievement) x.achievements_kept in
    let next = flat_map (line_of Leaderboard) x.boards_kept in
    let lines : many ended_line (first ++ next) (map Some (a.items ++ b.items)) =
    subst (λ ls. many ended_line (first ++ next) ls) (sym (map-append Some a.items b.items))
    (many-append first next (map Some a.items) (map Some b.items) a.lines b.lines) in
    subst KeepsGrammar (sym x.is)
    (only-limits ((first ++ next) ++ presence_lines (kept_script script x.cause))
    (contains-kept (first ++ next) (kept_script script x.cause) (a.items ++ b.items) lines b.distinct
    (kept-place script x.cause x.of_script)))
