-- A window that reads on behind its bytes.
use Rattle.std.proofs.Common.{arith, ◌≡◌, ◌≤◌, ◌<◌, ap, sym, subst, ◌∙◌, ℕ, ◌+◌, Option, Some, IfSome, List, ◌++◌}
use Rattle.std.proofs.Common.{length, take, drop}
use Rattle.std.proofs.Math.Seq.{take-append-add}
use Rattle.std.proofs.lemmas.List.{length-append, length-take, length-take-le, length-drop, take-append-le}
use Rattle.ra_io.specs.Files.{ReadsAt}
use Rattle.ra_trace.specs.Window.{ReadsBehind, room_of}

-- what a read says of the bytes that are told
reads_told : (content : Option (List ℕ)) (bytes : List ℕ) (P : List ℕ → Type 0) → content
    ≡ Some bytes → IfSome content P → P bytes
reads_told content bytes P told reads = subst (λ content. IfSome content P) told reads

-- the bytes of a buffer behind which some were read
read_end : (held n : ℕ) (buffer part post : List ℕ) → held ≤ length buffer → n ≤ length part
    → take (held + n) (take held buffer ++ (part ++ post)) ≡ take held buffer ++ take n part
read_end held n buffer part post within bound =
    let long : length (take held buffer) ≡ held = length-take-le held buffer within in
    ap (λ k. take (k + n) (take held buffer ++ (part ++ post))) (sym long)
    ∙ take-append-add (take held buffer) (part ++ post) n
    ∙ ap (λ more. take held buffer ++ more) (take-append-le n part post bound)

-- a window whose buffer was read into behind the bytes that it held
pub window_reads : (content : Option (List ℕ)) (at most n held : ℕ) (buffer part post : List ℕ)
    → held ≤ length buffer → n ≤ length part → length part ≤ most
    → (0 < most → held < room_of → 0 < length part) → IfSome content (λ bytes. ReadsAt bytes at n part)
    → ReadsBehind content at most n (take held buffer) (take (held + n) (take held buffer ++ (part ++ post)))
window_reads content at most n held buffer part post within bound fewer room reads =
    let long : length (take held buffer) ≡ held = length-take-le held buffer within in
    let end = read_end held n buffer part post within bound in
    let taken : length (take n part) ≡ n = length-take-le n part bound in
    record {
      fewer = omega (arith, bound, fewer);
      long = ap length end ∙ length-append (take held buffer) (take n part)
          ∙ ap (λ k. length (take held buffer) + k) taken;
      bytes = λ bytes told. end ∙ ap (λ more. take held buffer ++ more)
          (reads_told content bytes (λ bytes. ReadsAt bytes at n part) told reads).read;
      there = λ bytes told some.
          let read = reads_told content bytes (λ bytes. ReadsAt bytes at n part) told reads in
          let short : length (take n (drop at bytes)) ≡ n = ap length (sym read.read) ∙ taken in
          omega (arith, short, read.within some, length-take n (drop at bytes), length-drop at bytes);
      ends = λ bytes told none some below. (reads_told content bytes (λ bytes. ReadsAt bytes at n
          part) told reads).ends none (room some (omega (arith, below, long)));
    }
