-- The readers of lines, and of rows: a line with the CR behind it.
use Rattle.std.proofs.Common.{◌≡◌, ◌∙◌, ℕ, Bool, true, false, List, [], ◌∷◌, ◌++◌, Option, Some, None, Ok, refl, sym}
use Rattle.std.proofs.Common.{ap, subst, codes, append-nil, append_assoc, lit<, arith}
use Rattle.ra_condition.specs.Grammar.{trigger}
use Rattle.ra_condition.specs.Reading.{trigger_at}
use Rattle.ra_condition.proofs.GroupReaders.{trigger_rest, reader-trigger, reads-trigger}
use Rattle.ra_leaderboard.specs.Grammar.{board}
use Rattle.ra_leaderboard.specs.Reading.{board_at}
use Rattle.ra_leaderboard.proofs.BoardReaders.{board_rest, reader-board, reads-board}
use Rattle.ra_value_format.specs.declared.format.Format.{Format}
use Rattle.ra_value_format.specs.Formats.{format_of_name}
use Rattle.ra_set.specs.Contents.{Unlocks, Ranks}
use Rattle.ra_set.specs.Grammar.{Line, ExactId, format_name, comment, head, achievement, leaderboard}
use Rattle.ra_set.specs.Reading.{id_at, run_at, format_at, comment_at, head_at, achievement_at, leaderboard_at}
use Rattle.ra_set.specs.Reading.{leaderboard_or_empty_at, item_line_at, comment_row_at, item_row_at, row_at}
use Rattle.ra_set.specs.Runs.{run_of, any_but}
use Rattle.ra_set.proofs.IdReaders.{reader-id}
use Rattle.ra_set.proofs.RunLemmas.{reader-run, run-more, only-byte}
use Rattle.ra_text.specs.Form.{Form, Spell, One, Then, Viable, ◌or◌, optional}
use Rattle.ra_text.specs.Number.{digits}
use Rattle.ra_text.specs.Reading.{Outcome, Reads, ◌>>=◌, one_at, optional_at}
use Rattle.ra_text.specs.Table.{lookup, bytes_for, is_in, only, marks}
use Rattle.ra_text.proofs.Begins.{Begins, Firsts, IsListed, begins-then, firsts-or, firsts-then, firsts-begins}
use Rattle.ra_text.proofs.Begins.{firsts-spell, firsts-wider, reader-behind, reader-follows}
use Rattle.ra_text.proofs.Choice.{reader-optional}
use Rattle.ra_text.proofs.Either.{reader-map, reader-or_else}
use Rattle.ra_text.proofs.Readers.{Reader, reader-spell, reader-one, reader-then, reader-wider, Listed}
use Rattle.ra_text.proofs.Steps.{viable-front, viable-whole}
use Rattle.ra_text.proofs.Tables.{In, keys_of, listed_in, each-in, in_within, in_apart, is_in-in, not_in-in}
use Rattle.ra_text.proofs.Tables.{begins-byte}
use Rattle.ra_text.proofs.Spelled.{then-spelled, none-spelled, one-spelled, viable-by}

-- no byte but an LF
abbrev pub NotEnd : ℕ → Type 0
NotEnd c = c ≡ 10 → ⊥

not-end-in : (keys : List ℕ) → (In keys 10 → ⊥) → (c : ℕ) → In keys c → NotEnd c
not-end-in keys none c here end = none (subst (In keys) end here)

-- one byte stands in its table
mark : (byte : ℕ) → only (byte ∷ []) byte ≡ Some tt → Listed (only (byte ∷ []))
mark byte listed = record { symbol = byte; v = tt; listed = listed }

-- ---- what stands behind an id and before it

reader-head : (letter : ℕ) → only (letter ∷ []) letter ≡ Some tt → Reader (head letter) (head_at letter) (λ c. ⊥)
unfolding head_at
reader-head letter listed =
    reader-then (One (only (letter ∷ []))) (λ first. Then (One (only (codes " "))) (λ space. Then
    ExactId (λ id. Then (One (only (codes " "))) (λ behind. Spell id))))
    (one_at (only (letter ∷ [])))
    (λ l. one_at (only (codes " ")) l.1 >>= λ space. id_at space.1
    >>= λ id. one_at (only (codes " ")) id.1 >>= λ behind. Ok (id.0, behind.1)) (λ c. ⊥) (λ c. ⊥)
    (reader-one (only (letter ∷ [])) (λ c. ⊥) (mark letter listed))
    (λ first. reader-then (One (only (codes " "))) (λ space. Then ExactId
    (λ id. Then (One (only (codes " "))) (λ behind. Spell id))) (one_at (only (codes " ")))
    (λ space. id_at space.1 >>= λ id. one_at (only (codes " ")) id.1
    >>= λ behind. Ok (id.0, behind.1)) (λ c. ⊥) (λ c. ⊥)
    (reader-one (only (codes " ")) (λ c. ⊥) (mark 32 refl))
    (λ space. reader-behind ExactId (λ id. Then (One (only (codes " "))) (λ behind. Spell id)) id_at
    (λ id. one_at (only (codes " ")) id.1 >>= λ behind. Ok (id.0, behind.1)) (In (keys_of digits))
    (In (codes " ")) (λ c. ⊥)
    reader-id
    (λ id. reader-map (One (only (codes " "))) (one_at (only (codes " "))) (λ c. ⊥) (λ behind. id)
    (reader-one (only (codes " ")) (λ c. ⊥) (mark 32 refl)))
    (λ id. begins-then (One (only (codes " "))) (λ behind. Spell id) (In (codes " ")) (begins-byte (marks (codes " "))))
    (in_apart (keys_of digits) (codes " ") refl))
    (λ v c s x h on. absurd on) (λ v x h c on. absurd on))
    (λ v c s x h on. absurd on) (λ v x h c on. absurd on)

-- ---- achievements

begins-letter : {V : Type 0} (letter : ℕ) (next : ℕ → Form ℕ V) → Begins (Then (head letter) next) (In (letter ∷ []))
begins-letter letter next = begins-then (head letter) next (In (letter ∷ []))
    (begins-then (One (only (letter ∷ []))) (λ first. Then (One (only (codes " ")))
    (λ space. Then ExactId (λ id. Then (One (only (codes " "))) (λ behind. Spell id))))
    (In (letter ∷ [])) (begins-byte (marks (letter ∷ []))))

pub begins-achievement : Begins achievement (In (codes "A"))
begins-achievement = begins-letter 65 (λ id. Then trigger (λ t. Spell (Some (Unlocks id t))))

reader-achievement : Reader achievement achievement_at (In trigger_rest)
unfolding achievement_at
reader-achievement = reader-then (head 65) (λ id. Then trigger (λ t. Spell (Some (Unlocks id t))))
    (head_at 65) (λ id. trigger_at id.1 >>= λ t. Ok (Some (Unlocks id.0 t.0), t.1)) (λ c. ⊥)
    (In trigger_rest)
    (reader-head 65 refl)
    (λ id. reader-map trigger trigger_at (In trigger_rest) (λ t. Some (Unlocks id t)) reader-trigger)
    (λ v c s x h on. absurd on) (λ v x h c on. absurd on)

-- ---- leaderboards

-- the class of the bytes of a name
abbrev pub in_name : ℕ → Option ℕ
in_name = any_but (codes " \n")

reader-format : Reader format_name format_at (IsListed in_name)
unfolding format_at
reader-format = reader-then (One in_name) (λ first. Then (run_of in_name) (λ others. Spell
    (format_of_name (first ∷ others)))) (one_at in_name) (λ first. run_at in_name first.1
    >>= λ others. Ok (format_of_name (first.0 ∷ others.0), others.1)) (λ c. ⊥) (IsListed in_name)
    (reader-one in_name (λ c. ⊥) (record { symbol = 65; v = 65; listed = refl }))
    (λ first. reader-map (run_of in_name) (run_at in_name) (IsListed in_name)
    (λ others. format_of_name (first ∷ others)) (reader-run in_name))
    (λ v c s x h on. absurd on) (λ v x h c on. absurd on)

-- a space, and a board
abbrev pub behind_format : ℕ → Format → Form ℕ Line
behind_format id format = Then (One (only (codes " "))) (λ space. Then board (λ b. Spell (Some (Ranks id format b))))

reader-behind_format : (id : ℕ) (format : Format)
    → Reader (behind_format id format) (λ text. one_at (only (codes " ")) text
    >>= λ space. board_at space.1 >>= λ b. Ok (Some (Ranks id format b.0), b.1)) (In board_rest)
reader-behind_format id format = reader-then (One (only (codes " ")))
    (λ space. Then board (λ b. Spell (Some (Ranks id format b)))) (one_at (only (codes " "))) (λ
    space. board_at space.1 >>= λ b. Ok (Some (Ranks id format b.0), b.1)) (λ c. ⊥) (In board_rest)
    (reader-one (only (codes " ")) (λ c. ⊥) (mark 32 refl))
    (λ space. reader-map board board_at (In board_rest) (λ b. Some (Ranks id format b)) reader-board)
    (λ v c s x h on. absurd on) (λ v x h c on. absurd on)

pub begins-leaderboard : Begins leaderboard (In (codes "L"))
begins-leaderboard = begins-letter 76 (λ id. Then format_name (behind_format id))

no-space : (c : ℕ) → IsListed in_name c → In (codes " ") c → ⊥
no-space c h space = each-in (λ c. IsListed in_name c → ⊥) (codes " ") ((λ h. cc (h.1)), tt) c space h

reader-leaderboard : Reader leaderboard leaderboard_at (In board_rest)
unfolding leaderboard_at
reader-leaderboard = reader-then (head 76) (λ id. Then format_name (behind_format id)) (head_at 76)
    (λ id. format_at id.1 >>= λ format. one_at (only (codes " ")) format.1 >>= λ space. board_at
    space.1 >>= λ b. Ok (Some (Ranks id.0 format.0 b.0), b.1)) (λ c. ⊥) (In board_rest)
    (reader-head 76 refl)
    (λ id. reader-behind format_name (behind_format id) format_at
    (λ format. one_at (only (codes " ")) format.1 >>= λ space. board_at space.1 >>= λ b. Ok
    (Some (Ranks id format.0 b.0), b.1)) (IsListed in_name) (In (codes " ")) (In board_rest)
    reader-format (reader-behind_format id)
    (λ format. begins-then (One (only (codes " "))) (λ space. Then board
    (λ b. Spell (Some (Ranks id format b)))) (In (codes " ")) (begins-byte (marks (codes " "))))
    no-space)
    (λ v c s x h on. absurd on) (λ v x h c on. absurd on)

-- ---- lines that are no comment

-- what begins a text of one form, before what begins one of the next
viable-behind : {A V W : Type 0} (a : Form A V) (b : V → Form A W) (front : List A) (v : V)
    → a front v → Viable (b v) [] → Viable (Then a b) front
viable-behind a b front v h viable =
    viable-by viable.more viable.v (then-spelled front viable.more v refl h viable.whole)

-- what begins some text of a form, whatever is made of its value
viable-map : {A V W : Type 0} (a : Form A V) (f : V → W) (front : List A) → Viable a front
    → Viable (Then a (λ v. Spell (f v))) front
viable-map a f front viable = viable-by viable.more (f viable.v) (then-spelled (front
    ++ viable.more) [] viable.v (sym (append-nil (front ++ viable.more))) viable.whole none-spelled)

-- a letter before the id 0
head-spelled : (letter : ℕ) → only (letter ∷ []) letter ≡ Some tt → head letter (letter ∷ codes " 0 ") 0
head-spelled letter listed = then-spelled (letter ∷ []) (codes " 0 ") tt refl
    (one-spelled letter listed) (then-spelled (codes " ") (codes "0 ") tt refl one-space
    (then-spelled (codes "0") (codes " ") 0 refl zero-id
    (then-spelled (codes " ") [] tt refl one-space none-spelled))) where
      one-space : One (only (codes " ")) (codes " ") tt
      one-space = one-spelled 32 refl

      zero-id : ExactId (codes "0") 0
      zero-id = record {
        number = then-spelled (codes "0") [] 0 refl (one-spelled 48 refl) refl;
        exact = λ longer. absurd (omega arith);
        fits = lit< tt;
      }

-- an empty text begins some text of a form that is read
pub viable-nothing : {A V : Type 0} {form : Form A V} {outcome : Outcome A V} → Reads form [] outcome → Viable form []
viable-nothing {A} {V} {form} {outcome} r =
    viable-by (r.front ++ r.viable.more) r.viable.v r.viable.whole

opens-achievement : (c : ℕ) → is_in (only (codes "A")) c ≡ true → Viable achievement (c ∷ [])
opens-achievement c is = subst (λ x. Viable achievement (x ∷ [])) (sym (only-byte 65 c is))
    (viable-front (codes "A") (codes " 0 ")
    (viable-behind (head 65) (λ id. Then trigger (λ t. Spell (Some (Unlocks id t))))
    (codes "A 0 ") 0 (head-spelled 65 refl)
    (viable-map trigger (λ t. Some (Unlocks 0 t)) [] (viable-nothing (reads-trigger [])))))

opens-leaderboard : (c : ℕ) → is_in (only (codes "L")) c ≡ true → Viable leaderboard (c ∷ [])
opens-leaderboard c is = subst (λ x. Viable leaderboard (x ∷ [])) (sym (only-byte 76 c is))
    (viable-front (codes "L") (codes " 0 ")
    (viable-behind (head 76) (λ id. Then format_name (behind_format id)) (codes "L 0 ") 0 (head-spelled 76 refl)
    (viable-front [] (codes "A")
    (viable-behind format_name (behind_format 0) (codes "A") (format_of_name (codes "A")) named
    (viable-front [] (codes " ")
    (viable-behind (One (only (codes " "))) (λ space. Then board (λ b. Spell (Some
    (Ranks 0 (format_of_name (codes "A")) b)))) (codes " ") tt
    (one-spelled 32 refl)
    (viable-map board (λ b. Some (Ranks 0 (format_of_name (codes "A")) b)) []
    (viable-nothing (reads-board []))))))))) where
      named : format_name (codes "A") (format_of_name (codes "A"))
      named = then-spelled (codes "A") [] 65 refl (one-spelled 65 refl)
          (then-spelled [] [] [] refl (refl, refl) none-spelled)

-- what goes on with a line that is no comment
abbrev pub item_rest : List ℕ
item_rest = (trigger_rest ++ board_rest) ++ codes "AL"

-- a leaderboard, or nothing
abbrev leaderboard_or_empty : Form ℕ Line
leaderboard_or_empty = leaderboard or Spell None

-- a line that is no comment
abbrev pub item_line : Form ℕ Line
item_line = achievement or leaderboard_or_empty

reader-leaderboard_or_empty : Reader leaderboard_or_empty leaderboard_or_empty_at (In item_rest)
unfolding leaderboard_or_empty_at
reader-leaderboard_or_empty = reader-or_else leaderboard (Spell None) leaderboard_at
    (λ text. Ok (None, text)) (is_in (only (codes "L"))) (In (codes "L")) (In item_rest)
    (reader-wider leaderboard leaderboard_at (In board_rest) (In item_rest) (in_within board_rest item_rest refl)
    reader-leaderboard) (reader-spell None (In item_rest)) begins-leaderboard
    opens-leaderboard (λ c is. in_within (codes "L") item_rest refl c (is_in-in
    (marks (codes "L")) c is)) (λ c s v is h. absurd (cc h.empty)) (not_in-in (marks (codes "L")))

firsts-leaderboard_or_empty : Firsts leaderboard_or_empty (In (codes "L"))
firsts-leaderboard_or_empty = firsts-or leaderboard (Spell None) (In (codes "L"))
    (firsts-begins leaderboard (In (codes "L")) begins-leaderboard) (firsts-spell None (In (codes "L")))

reader-item_line : Reader item_line item_line_at (In item_rest)
unfolding item_line_at
reader-item_line = reader-or_else achievement leaderboard_or_empty achievement_at
    leaderboard_or_empty_at (is_in (only (codes "A"))) (In (codes "A")) (In item_rest)
    (reader-wider achievement achievement_at (In trigger_rest) (In item_rest) (in_within trigger_rest item_rest refl)
    reader-achievement) reader-leaderboard_or_empty begins-achievement
    opens-achievement (λ c is. in_within (codes "A") item_rest refl c (is_in-in (marks (codes "A")) c is))
    (λ c s v is h. in_apart (codes "A") (codes "L") refl c (is_in-in (marks (codes "A")) c is)
    (firsts-leaderboard_or_empty.first c s v h)) (not_in-in (marks (codes "A")))

firsts-item_line : Firsts item_line (In (codes "AL"))
firsts-item_line = firsts-or achievement leaderboard_or_empty (In (codes "AL"))
    (firsts-wider achievement (In (codes "A")) (In (codes "AL")) (in_within (codes "A") (codes "AL") refl)
    (firsts-begins achievement (In (codes "A")) begins-achievement))
    (firsts-wider leaderboard_or_empty (In (codes "L")) (In (codes "AL"))
    (in_within (codes "L") (codes "AL") refl) firsts-leaderboard_or_empty)

-- ---- rows

-- a CR
abbrev pub returns : List (ℕ × Bool)
returns = bytes_for (codes "\r") true

-- a comment, which wants no LF
abbrev pub comment_row : Form ℕ (Line × Bool)
comment_row = Then comment (λ l. Spell (l, false))

-- a line that is no comment, and a CR where one stands behind it
abbrev pub item_row : Form ℕ (Line × Bool)
item_row = Then item_line (λ l. Then (optional (lookup returns) false) (λ returned. Spell (l, returned)))

-- a line and whether a CR stands behind it, which wants an LF; a CR at the end of a comment is one of its bytes
abbrev pub row : Form ℕ (Line × Bool)
row = comment_row or item_row

-- the class of the bytes of a line
abbrev pub in_line : ℕ → Option ℕ
in_line = any_but (codes "\n")

in-line : (c : ℕ) → IsListed in_line c → NotEnd c
in-line c h end = let e = subst (λ x. in_line x ≡ Some h.0) end h.1 in cc e

reader-comment : Reader comment comment_at NotEnd
unfolding comment_at
reader-comment = reader-then (One (only (codes "#")))
    (λ mark. Then (run_of in_line) (λ bytes. Spell None)) (one_at (only (codes "#")))
    (λ mark. run_at in_line mark.1 >>= λ bytes. Ok (None, bytes.1)) (λ c. ⊥) NotEnd
    (reader-one (only (codes "#")) (λ c. ⊥) (mark 35 refl))
    (λ m. reader-map (run_of in_line) (run_at in_line) NotEnd (λ bytes. None) (reader-wider
    (run_of in_line) (run_at in_line) (IsListed in_line) NotEnd in-line (reader-run in_line)))
    (λ v c s x h on. absurd on) (λ v x h c on. absurd on)

reader-comment_row : Reader comment_row comment_row_at NotEnd
unfolding comment_row_at
reader-comment_row = reader-map comment comment_at NotEnd (λ l. (l, false)) reader-comment

pub begins-comment : Begins comment (In (codes "#"))
begins-comment = begins-then (One (only (codes "#"))) (λ mark. Then (run_of in_line) (λ bytes. Spell None))
    (In (codes "#")) (begins-byte (marks (codes "#")))

pub begins-comment_row : Begins comment_row (In (codes "#"))
begins-comment_row = begins-then comment (λ l. Spell (l, false)) (In (codes "#")) begins-comment

behind-item : (l : Line) → Reader {V = Line × Bool}
    (Then (optional (lookup returns) false) (λ returned. Spell (l, returned))) (λ text. optional_at
    (lookup returns) false text >>= λ returned. Ok ((l, returned.0), returned.1)) NotEnd
behind-item l = reader-map (optional (lookup returns) false)
    (optional_at (lookup returns) false) NotEnd (λ returned. (l, returned))
    (reader-wider (optional (lookup returns) false) (optional_at (lookup returns) false)
    (IsListed (lookup returns)) NotEnd (λ c h. not-end-in (codes "\r") (λ e. cc e) c
    (listed_in returns c h))
    (reader-optional (lookup returns) false (record { symbol = 13; v = true; listed = refl })))

firsts-behind : (l : Line) → Firsts {V = Line × Bool}
    (Then (optional (lookup returns) false) (λ returned. Spell (l, returned))) (In (codes "\r"))
firsts-behind l = firsts-then (optional (lookup returns) false) (λ returned. Spell (l, returned)) (In (codes "\r"))
    (firsts-or (One (lookup returns)) (Spell false) (In (codes "\r")) (firsts-begins (One (lookup
    returns)) (In (codes "\r")) (begins-byte returns)) (firsts-spell false (In (codes "\r"))))
    (λ returned. firsts-spell (l, returned) (In (codes "\r")))

reader-item_row : Reader item_row item_row_at NotEnd
unfolding item_row_at
reader-item_row = reader-follows item_line (λ l. Then (optional (lookup returns) false)
    (λ returned. Spell (l, returned))) item_line_at (λ l. optional_at (lookup returns) false l.1
    >>= λ returned. Ok ((l.0, returned.0), returned.1)) (In item_rest) (In (codes "\r")) NotEnd
    reader-item_line behind-item firsts-behind (in_apart item_rest (codes "\r") refl) (not-end-in item_rest (λ e. cc e))

pub firsts-item_row : Firsts item_row (In (codes "AL\r"))
firsts-item_row = firsts-then item_line (λ l. Then (optional (lookup returns) false)
    (λ returned. Spell (l, returned))) (In (codes "AL\r"))
    (firsts-wider item_line (In (codes "AL")) (In (codes "AL\r"))
    (in_within (codes "AL") (codes "AL\r") refl) firsts-item_line)
    (λ l. firsts-wider (Then (optional (lookup returns) false) (λ returned. Spell (l, returned)))
    (In (codes "\r")) (In (codes "AL\r")) (in_within (codes "\r") (codes "AL\r") refl)
    (firsts-behind l))

opens-comment : (c : ℕ) → is_in (only (codes "#")) c ≡ true → Viable comment_row (c ∷ [])
opens-comment c is = subst (λ x. Viable comment_row (x ∷ [])) (sym (only-byte 35 c is))
    (viable-whole (codes "#") (None, false) (then-spelled (codes "#") [] None refl
    (then-spelled (codes "#") [] tt refl (one-spelled 35 refl)
    (then-spelled [] [] [] refl (refl, refl) none-spelled)) none-spelled))

pub reader-row : Reader row row_at NotEnd
unfolding row_at
reader-row = reader-or_else comment_row item_row comment_row_at item_row_at
    (is_in (only (codes "#"))) (In (codes "#")) NotEnd
    reader-comment_row reader-item_row begins-comment_row opens-comment
    (λ c is. not-end-in (codes "#") (λ e. cc e) c (is_in-in (marks (codes "#")) c is))
    (λ c s v is h. in_apart (codes "#") (codes "AL\r") refl c (is_in-in (marks (codes "#")) c is)
    (firsts-item_row.first c s v h)) (not_in-in (marks (codes "#")))

-- a CR at the end of a comment is one of its bytes
pub comment-returned : (t : List ℕ) (l : Line) → comment t l → comment (t ++ codes "\r") l
comment-returned t l h = let behind = h.of_next in
    then-spelled h.front (h.behind ++ codes "\r") h.v (ap (λ x. x ++ codes "\r") h.parts
    ∙ append_assoc h.front h.behind (codes "\r")) h.of_first
    (then-spelled (behind.front ++ codes "\r") [] (behind.v ++ 13 ∷ [])
    (ap (λ x. x ++ codes "\r") (behind.parts ∙ ap (λ x. behind.front ++ x) behind.of_next.empty
    ∙ append-nil behind.front) ∙ sym (append-nil (behind.front ++ codes "\r")))
    (run-more in_line 13 13 refl behind.front behind.v behind.of_first)
    (record { empty = refl; is = behind.of_next.is }))
