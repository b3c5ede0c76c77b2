-- The lines of a normal text spell the normal items.
use Rattle.std.proofs.Common.{◌≡◌, ◌∙◌, inl, inr, ℕ, zero, suc, ◌<◌, ◌^◌, true, not, List, [], ◌∷◌, ◌++◌, map, Option}
use Rattle.std.proofs.Common.{None, Some, option_map, refl, sym, ap, ap₂, subst, arith, codes, append-nil, append_assoc}
use Rattle.std.specs.Fmt.{decimal, digits}
use Rattle.std.specs.List.{AllByRecursion, flat_map}
use Rattle.ra_condition.specs.Canonical.{trigger_text, value_text}
use Rattle.ra_condition.specs.Contents.{TriggerContents, PartContents}
use Rattle.ra_condition.specs.Grammar.{trigger}
use Rattle.ra_condition.specs.Spelled.{IsTrigger}
use Rattle.ra_condition.proofs.Spelling.{trigger-spelled}
use Rattle.ra_leaderboard.specs.Contents.{BoardContents}
use Rattle.ra_leaderboard.specs.Grammar.{board}
use Rattle.ra_leaderboard.specs.Spelled.{IsBoard}
use Rattle.ra_leaderboard.proofs.BoardStructure.{board-spelled}
use Rattle.ra_leaderboard.proofs.BoardStructure as boards
use Rattle.ra_value_format.specs.declared.format.Format.{Format}
use Rattle.ra_value_format.specs.declared.format.Format.TheVariants.{Value, Score, Frames, Secs, Hundredths, Minutes}
use Rattle.ra_value_format.specs.declared.format.Format.TheVariants.{SecsAsMins, Unsigned, Tens, Hundreds, Thousands}
use Rattle.ra_value_format.specs.declared.format.Format.TheVariants.{Fixed, Float}
use Rattle.ra_value_format.specs.Formats.{HasDigits, format_of_name}
use Rattle.ra_set.specs.Contents.{ItemContents, Unlocks, Ranks}
use Rattle.ra_set.specs.Grammar.{format_name, line, ended_line}
use Rattle.ra_set.specs.Runs.{many}
use Rattle.ra_set.specs.Spelled.{IsItem, HasSmallId}
use Rattle.ra_set.proofs.LineReaders.{in_name}
use Rattle.ra_set.proofs.SetSpelling.{head_text, head-spelled, run-spelled, with-end}
use Rattle.ra_text.specs.Table.{is_in, only}
use Rattle.ra_text.proofs.Items.{changed, one-byte}
use Rattle.ra_text.proofs.Tables.{all_pass}
use Rattle.ra_normal.specs.Contents.{normal_value, normal_board, normal_item}
use Rattle.ra_normal.specs.Text.{name_of, progress_text, tests_text, board_text, item_text}
use Rattle.ra_normal.proofs.NormalStructure.{board_is, value_again}
use Rattle.ra_text.proofs.Spelled.{then-spelled, one-spelled}

-- ---- names of formats

-- a name of bytes other than spaces and line feeds spells the format that it stands for
named_so : (c : ℕ) (others : List ℕ) (format : Format) → in_name c ≡ Some c
    → all_pass (λ c. not (is_in (only (codes " \n")) c)) others ≡ true → format
    ≡ format_of_name (c ∷ others) → format_name (c ∷ others) format
named_so c others format first all is = then-spelled (c ∷ []) others c refl (one-spelled c first)
    (then-spelled others [] others (sym (append-nil others)) (run-spelled others all)
    (record { empty = refl; is = is }))

-- the first name of a format spells it
name_is : (format : Format) → HasDigits format → format_name (name_of format) format
unfolding digits
name_is Value h = named_so 86 (codes "ALUE") Value refl refl refl
name_is Score h = named_so 83 (codes "CORE") Score refl refl refl
name_is Frames h = named_so 70 (codes "RAMES") Frames refl refl refl
name_is Secs h = named_so 83 (codes "ECS") Secs refl refl refl
name_is Hundredths h = named_so 77 (codes "ILLISECS") Hundredths refl refl refl
name_is Minutes h = named_so 77 (codes "INUTES") Minutes refl refl refl
name_is SecsAsMins h = named_so 83 (codes "ECS_AS_MINS") SecsAsMins refl refl refl
name_is Unsigned h = named_so 85 (codes "NSIGNED") Unsigned refl refl refl
name_is Tens h = named_so 84 (codes "ENS") Tens refl refl refl
name_is Hundreds h = named_so 72 (codes "UNDREDS") Hundreds refl refl refl
name_is Thousands h = named_so 84 (codes "HOUSANDS") Thousands refl refl refl
name_is (Fixed zero) h = absurd (let low = h.0 in omega (arith, low))
name_is (Fixed (suc zero)) h = named_so 70 (codes "IXED1") (Fixed 1) refl refl refl
name_is (Fixed (suc (suc zero))) h = named_so 70 (codes "IXED2") (Fixed 2) refl refl refl
name_is (Fixed (suc (suc (suc zero)))) h = named_so 70 (codes "IXED3") (Fixed 3) refl refl refl
name_is (Fixed (suc (suc (suc (suc n))))) h = absurd (let high = h.1 in omega (arith, high))
name_is (Float zero) h = absurd (let low = h.0 in omega (arith, low))
name_is (Float (suc zero)) h = named_so 70 (codes "LOAT1") (Float 1) refl refl refl
name_is (Float (suc (suc zero))) h = named_so 70 (codes "LOAT2") (Float 2) refl refl refl
name_is (Float (suc (suc (suc zero)))) h = named_so 70 (codes "LOAT3") (Float 3) refl refl refl
name_is (Float (suc (suc (suc (suc zero))))) h = named_so 70 (codes "LOAT4") (Float 4) refl refl refl
name_is (Float (suc (suc (suc (suc (suc zero)))))) h = named_so 70 (codes "LOAT5") (Float 5) refl refl refl
name_is (Float (suc (suc (suc (suc (suc (suc zero))))))) h = named_so 70 (codes "LOAT6") (Float 6) refl refl refl
name_is (Float (suc (suc (suc (suc (suc (suc (suc n)))))))) h = absurd (let high = h.1 in omega (arith, high))

-- ---- boards

-- pieces of a text, the last three in one or behind the others
in_one : (first second third comma comma' behind : List ℕ) → (first ++ (comma ++ (second ++ (comma'
    ++ third)))) ++ behind ≡ first ++ (comma ++ (second ++ (comma' ++ (third ++ behind))))
in_one first second third comma comma' behind =
    append_assoc first (comma ++ (second ++ (comma' ++ third))) behind
    ∙ ap (λ t. first ++ t) (append_assoc comma (second ++ (comma' ++ third)) behind
    ∙ ap (λ t. comma ++ t) (append_assoc second (comma' ++ third) behind
    ∙ ap (λ t. second ++ t) (append_assoc comma' third behind)))

-- the text of the normal board
board_text_is : (b : BoardContents) → boards.board_text (normal_board b) ≡ board_text b
board_text_is b = cases b.progress where
  start : List ℕ
  start = trigger_text b.start

  cancel : List ℕ
  cancel = trigger_text b.cancel

  submit : List ℕ
  submit = trigger_text b.submit

  val : List ℕ
  val = value_text (normal_value b.value)

  cases : (progress : Option (List PartContents)) → boards.board_text (normal_board
      (record b { progress = progress })) ≡ board_text (record b { progress = progress })
  cases None = ap (λ t. codes "STA:" ++ t) (sym (in_one start cancel submit (codes "::CAN:")
      (codes "::SUB:") (codes "::VAL:" ++ (val ++ []))))
  cases (Some parts) =
      let pro = value_text (normal_value parts) in
      ap (λ t. codes "STA:" ++ (start ++ (codes "::CAN:" ++ (cancel ++ (codes "::SUB:"
      ++ (submit ++ (codes "::VAL:" ++ (val ++ (codes "::PRO:" ++ t))))))))) (append-nil pro)
      ∙ ap (λ t. codes "STA:" ++ t) (sym (in_one start cancel submit (codes "::CAN:")
      (codes "::SUB:") (codes "::VAL:" ++ (val ++ (codes "::PRO:" ++ pro)))))

-- ---- items

-- an id, a space and a text with its end
front_is : (id text : List ℕ) → ((id ++ codes " ") ++ text) ++ codes "\n" ≡ id ++ (codes " " ++ (text ++ codes "\n"))
front_is id text = append_assoc (id ++ codes " ") text (codes "\n") ∙ append_assoc id (codes " ") (text ++ codes "\n")

-- a line of an achievement
unlocks_spelled : (id : ℕ) (t : TriggerContents) → id < 2 ^ 32 → IsTrigger t
    → line (head_text 65 id ++ trigger_text t) (Some (Unlocks id t))
unlocks_spelled id t small is = inr (inl (then-spelled (head_text 65 id) (trigger_text t) id refl
    (head-spelled 65 id refl small)
    (changed trigger (λ t. Some (Unlocks id t)) (trigger_text t) t (trigger-spelled t is))))

-- a line of a leaderboard
ranks_spelled : (id : ℕ) (format : Format) (b : BoardContents) → id < 2 ^ 32 → IsBoard b
    → HasDigits format → line (head_text 76 id ++ (name_of format ++ 32 ∷ boards.board_text b))
    (Some (Ranks id format b))
ranks_spelled id format b small is digits = inr
    (inr (inl (then-spelled (head_text 76 id) (name_of format ++ 32 ∷ boards.board_text b) id refl
    (head-spelled 76 id refl small) (then-spelled (name_of format)
    (32 ∷ boards.board_text b) format refl (name_is format digits)
    (then-spelled (codes " ") (boards.board_text b) tt refl (one-byte 32 refl) (changed board
    (λ b. Some (Ranks id format b)) (boards.board_text b) b (board-spelled b is)))))))

-- the line of an item spells its normal item
item_spelled : (x : ItemContents) → IsItem x → HasSmallId x → ended_line (item_text x) (Some (normal_item x))
item_spelled (Unlocks id t) is small =
    subst (λ text. ended_line text (Some (Unlocks id t)))
    (ap (λ text. 65 ∷ (32 ∷ text)) (front_is (decimal id) (trigger_text t)))
    (with-end (head_text 65 id ++ trigger_text t) (Some (Unlocks id t)) (unlocks_spelled id t small is))
item_spelled (Ranks id format b) is small =
    let text = boards.board_text (normal_board b) in
    let same : (head_text 76 id ++ (name_of format ++ 32 ∷ text)) ++ codes "\n" ≡ item_text (Ranks id format b) =
    ap (λ text. 76 ∷ (32 ∷ text)) (front_is (decimal id) (name_of format ++ 32 ∷ text)
    ∙ ap (λ text. decimal id ++ (32 ∷ text)) (append_assoc (name_of format) (32 ∷ text) (codes "\n")
    ∙ ap (λ text. name_of format ++ (32 ∷ (text ++ codes "\n"))) (board_text_is b))) in
    subst (λ text. ended_line text (Some (normal_item (Ranks id format b)))) same
    (with-end (head_text 76 id ++ (name_of format ++ 32 ∷ text)) (Some (normal_item
    (Ranks id format b))) (ranks_spelled id format (normal_board b) small (board_is b is.0) is.1))

-- the lines of items spell their normal items
pub items_spelled : (items : List ItemContents) → AllByRecursion IsItem items → AllByRecursion
    HasSmallId items → many ended_line (flat_map item_text items) (map Some (map normal_item items))
items_spelled [] each small = refl
items_spelled (x ∷ items) each small = record {
  front = item_text x;
  behind = flat_map item_text items;
  parts = refl;
  of_first = item_spelled x each.0 small.0;
  of_next = items_spelled items each.1 small.1;
}

-- ---- the line of a normal item is the line of the item

text_again : (x : ItemContents) → item_text (normal_item x) ≡ item_text x
text_again (Unlocks id t) = refl
text_again (Ranks id format b) =
    let values = value_again b.value in
    let progress = progress_again b.progress in
    (λ i. codes "L " ++ (decimal id ++ (codes " " ++ (name_of format ++ (codes " " ++ ((tests_text b
    ++ (codes "::VAL:" ++ (value_text (values i) ++ progress i))) ++ codes "\n")))))) where
      progress_again : (progress : Option (List PartContents))
          → progress_text (option_map normal_value progress) ≡ progress_text progress
      progress_again None = refl
      progress_again (Some parts) = ap (λ v. codes "::PRO:" ++ value_text v) (value_again parts)

pub texts_again : (items : List ItemContents) → flat_map item_text (map normal_item items) ≡ flat_map item_text items
texts_again [] = refl
texts_again (x ∷ items) = ap₂ (λ s t. s ++ t) (text_again x) (texts_again items)
