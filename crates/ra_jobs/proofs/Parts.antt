-- Fronts of a text.
use Rattle.std.proofs.Common.{◌≡◌, ap, sym, refl, ◌∙◌, ℕ, List, [], ◌++◌, take, drop, append_assoc, append-nil, Option}
use Rattle.std.proofs.lemmas.List.{take-append-drop}
use Rattle.ra_io.specs.Sink.{grown}
use Rattle.ra_jobs.specs.Writing.{GrewByPart}
use Rattle.ra_jobs.proofs.Pieces.{Written, grown-grown, grown-nil}

pub part_none : (o n : Option (List ℕ)) (bytes : List ℕ) → n ≡ o → GrewByPart o n bytes
part_none o n bytes same = record { front = []; rest = bytes; whole = refl; grew = same ∙ sym (grown-nil o) }

pub part_all : (o n : Option (List ℕ)) (bytes : List ℕ) → n ≡ grown o bytes → GrewByPart o n bytes
part_all o n bytes all = record { front = bytes; rest = []; whole = append-nil bytes; grew = all }

pub part_written : (first now : Option (List ℕ)) (bytes rest : List ℕ)
    → Written first now bytes rest → GrewByPart first now bytes
part_written first now bytes rest w =
    record { front = take w.len bytes; rest = drop w.len bytes; whole = take-append-drop w.len bytes; grew = w.text }

pub part_after : (first before now : Option (List ℕ)) (printed part rest whole : List ℕ) → before
    ≡ grown first printed → GrewByPart before now part → printed ++ (part ++ rest) ≡ whole
    → GrewByPart first now whole
part_after first before now printed part rest whole so_far p is = record {
  front = printed ++ p.front;
  rest = p.rest ++ rest;
  whole = append_assoc printed p.front (p.rest ++ rest) ∙ ap (λ x. printed ++ x)
      (sym (append_assoc p.front p.rest rest) ∙ ap (λ x. x ++ rest) p.whole) ∙ is;
  grew = p.grew ∙ ap (λ o. grown o p.front) so_far ∙ grown-grown first printed p.front;
}
