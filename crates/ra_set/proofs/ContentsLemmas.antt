-- The lines that a file contains, with and without a script, and their conditions.
use Rattle.std.proofs.Common.{◌≡◌, ◌∙◌, inl, inr, ℕ, ◌+◌, ◌≤◌, List, [], ◌∷◌, ◌++◌, length, None, option_map, sym, ap}
use Rattle.std.proofs.Common.{arith, length-append}
use Rattle.std.specs.List.{sum_by}
use Rattle.ra_richpresence.specs.Grammar.{script_of}
use Rattle.ra_set.specs.Grammar.{Line, line, ended_line, FileContents, set_file, items_of}
use Rattle.ra_set.specs.Limits.{item_conditions, script_conditions, all_conditions}
use Rattle.ra_set.specs.Reading.{Tail, Ends, Letter, Opens}
use Rattle.ra_set.specs.Runs.{many}
use Rattle.ra_set.proofs.FileReaders.{Front, TailOf, empty-line}
use Rattle.ra_set.proofs.FrontLemmas.{TailIn, front-ended, front-of_file}
use Rattle.ra_set.proofs.KeptLemmas.{items-none}
use Rattle.ra_set.proofs.ScriptCounts.{script-count}
use Rattle.ra_set.proofs.TextCounts.{ended-count}

-- the lines of a file as lines with their ends and a last one, which is empty before a script, and the room that its
-- script takes
pub record HasLines (file : List ℕ) (contents : FileContents) : Type 0 where
  pub front : List ℕ
  pub behind : List ℕ
  pub ended : List Line
  pub last : Line
  pub of_ended : many ended_line front ended
  pub of_last : line behind last
  pub items : items_of contents.lines ≡ items_of (ended ++ last ∷ [])
  pub room : ℕ
  pub fits : length front + length behind + room ≤ length file
  pub script : script_conditions (option_map script_of contents.script) ≤ room

-- the text behind a line "P" is shorter than what stands there
text-shorter : (text behind : List ℕ) → TailOf (Opens text) behind → length text ≤ length behind
text-shorter text behind (inl is) = omega (arith, ap length is)
text-shorter text behind (inr is) = omega (arith, ap length is)

pub lines-of_file : (file : List ℕ) (contents : FileContents) → set_file file contents → HasLines file contents
lines-of_file file contents h = let f = front-of_file file contents h in cases f.ended f.tail f.spelled f.tells where
  cases : (ended : List Line) (tail : Tail) → Front ended tail file → TailIn contents tail ended
      → HasLines file contents
  cases ended (Ends last) spelled tells = let p = front-ended (Ends last) ended file spelled in record {
    front = p.front;
    behind = p.behind;
    ended = ended;
    last = last;
    of_ended = p.of_ended;
    of_last = p.of_tail;
    items = ap items_of tells.0;
    room = 0;
    fits = omega (arith, ap length p.parts, length-append p.front p.behind);
    script = omega (arith, ap (λ s. script_conditions (option_map script_of s)) tells.1);
  }
  cases ended Letter spelled tells = absurd tells
  cases ended (Opens text) spelled tells =
      let p = front-ended (Opens text) ended file spelled in
      let shorter = text-shorter text p.behind p.of_tail in
      let count = script-count text tells.1 tells.2 in record {
        front = p.front;
        behind = [];
        ended = ended;
        last = None;
        of_ended = p.of_ended;
        of_last = empty-line;
        items = ap items_of tells.0 ∙ sym (items-none ended);
        room = length text;
        fits = omega (arith, shorter, ap length p.parts, length-append p.front p.behind);
        script = omega (arith, count, ap (λ s. script_conditions (option_map script_of s)) tells.3);
      }

-- a file contains no more conditions than it has bytes
pub contents-count : (file : List ℕ) (contents : FileContents) → set_file file contents
    → all_conditions (items_of contents.lines) contents.script ≤ length file
contents-count file contents h =
    let l = lines-of_file file contents h in
    let few = ended-count l.ended l.front l.of_ended l.behind l.last l.of_last in
    omega (arith, few, l.fits, l.script, ap (sum_by item_conditions) l.items)
