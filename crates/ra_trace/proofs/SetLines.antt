-- The lines of a workload's set, one after the other.
use Rattle.std.proofs.Common.{◌≡◌, ℕ, suc, ◌+◌, ◌-◌, ◌<◌, ◌%◌, ap, ◌∙◌, sym, arith, append_assoc, append-nil, List}
use Rattle.std.proofs.Common.{◌++◌, codes}
use Rattle.std.specs.Fmt.{decimal}
use Rattle.ra_trace.specs.Workload.{drawn, given, drawn_times, hex4, achievement_line, drawn_line, achievement_lines}

-- a line from its three pieces
pub line_of_pieces : (old one two three : List ℕ) (id a b c target : ℕ) → one
    ≡ old ++ (codes "A " ++ (decimal id ++ (codes " I:0x " ++ hex4 a)))
    → two ≡ one ++ (codes "_0xH" ++ (hex4 b ++ (codes ">d0xH" ++ hex4 b))) → three
    ≡ two ++ (codes "." ++ (decimal target ++ (codes "._R:0xH" ++ (hex4 c ++ codes "=255\n"))))
    → three ≡ old ++ achievement_line id a b c target
line_of_pieces old one two three id a b c target first second third = rw (third, second, first) (simp append_assoc)

-- a line from four draws
pub line_of_draws : (id x x1 x2 x3 a b c t : ℕ) → a ≡ given (drawn x) → x1 ≡ drawn x → b
    ≡ given (drawn x1) → x2 ≡ drawn x1 → c ≡ given (drawn x2) → x3 ≡ drawn x2 → t ≡ given (drawn x3)
    → achievement_line id a b c (1 + t % 8) ≡ drawn_line id x
unfolding drawn_line
line_of_draws id x x1 x2 x3 a b c t is_a is_x1 is_b is_x2 is_c is_x3 is_t =
    rw (is_a, is_b, is_c, is_t, is_x3, is_x2, is_x1)

-- the first line of those that are left
pub next_line : (count id x y : ℕ) (old new whole : List ℕ) → id < count + 1 → new
    ≡ old ++ drawn_line id x → y ≡ drawn_times 4 x
    → old ++ achievement_lines (count + 1 - id) id x ≡ whole
    → new ++ achievement_lines (count + 1 - (id + 1)) (id + 1) y ≡ whole
unfolding achievement_lines
next_line count id x y old new whole below is is_y left =
    let one : count + 1 - id ≡ suc (count + 1 - (id + 1)) = omega arith in
    let split : old ++ achievement_lines (count + 1 - id) id x ≡ (old ++ drawn_line id x)
    ++ achievement_lines (count + 1 - (id + 1)) (id + 1) (drawn_times 4 x)
    = ap (λ n. old ++ achievement_lines n id x) one ∙ sym (append_assoc old (drawn_line id x)
    (achievement_lines (count + 1 - (id + 1)) (id + 1) (drawn_times 4 x))) in
    rw (is, is_y) (sym split ∙ left)

-- no line is left
pub no_line : (count id x : ℕ) (old whole : List ℕ) → count + 1 ≡ id
    → old ++ achievement_lines (count + 1 - id) id x ≡ whole → old ≡ whole
unfolding achievement_lines
no_line count id x old whole done left =
    let none : count + 1 - id ≡ 0 = omega arith in
    sym (append-nil old) ∙ ap (λ n. old ++ achievement_lines n id x) (sym none) ∙ left
