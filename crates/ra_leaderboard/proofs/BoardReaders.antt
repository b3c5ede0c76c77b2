-- The reader of boards.
use Rattle.std.proofs.Common.{◌≡◌, ◌∙◌, ℕ, Bool, true, false, ◌==◌, if◌then◌else◌, List, [], ◌∷◌, ◌++◌, Option, Some}
use Rattle.std.proofs.Common.{None, Ok, refl, sym, ap, subst, subst₂, eqb-true, append_assoc, append-nil, codes}
use Rattle.ra_operand.specs.declared.operand.Operand.TheVariants.{Const}
use Rattle.ra_operand.specs.Reading.{operand_at, memory_at, constant_at, unsigned_at, decimal_constant_at}
use Rattle.ra_operand.specs.Reading.{cell_or_constant_at}
use Rattle.ra_condition.specs.Contents.{TriggerContents, PartContents, Legacy}
use Rattle.ra_condition.specs.Reading.{group_at, groups_at, trigger_at}
use Rattle.ra_condition.specs.ReadingValues.{factor_at, term_at, terms_at, term_part_at, part_at, value_at}
use Rattle.ra_leaderboard.specs.declared.tag.Tag.{Tag}
use Rattle.ra_leaderboard.specs.declared.tag.Tag.TheVariants.{Start, Cancel, Submit, Value, Progress}
use Rattle.ra_leaderboard.specs.Contents.{BoardContents}
use Rattle.ra_leaderboard.specs.Fields.{FieldContents, OfStart, OfCancel, OfSubmit, OfValue, OfProgress}
use Rattle.ra_leaderboard.specs.Grammar.{tag, held, field, next_field, fields, Arranged, board}
use Rattle.ra_leaderboard.specs.Reading.{tag_at, held_at, field_at, next_field_at, HeldSoFar, none_held, with_field}
use Rattle.ra_leaderboard.specs.Reading.{with_fields, free_tags, separator, is_whole, no_trigger, board_of, others_at}
use Rattle.ra_leaderboard.specs.Reading.{board_at}
use Rattle.ra_leaderboard.specs.Tags.{SomeTags, all_tags, some_tags, has_letter}
use Rattle.ra_leaderboard.proofs.FieldReaders.{field_rest, field_in, reader-field_in, next_field_in}
use Rattle.ra_leaderboard.proofs.FieldReaders.{reader-next_field_in}
use Rattle.ra_leaderboard.proofs.HeldLemmas.{tag_of, Allowed, arranged-allowed, arranged-whole, whole-arranged}
use Rattle.ra_leaderboard.proofs.TagLemmas.{Among, some-tags, tags-some, tag-word, tag-of, tag-in}
use Rattle.ra_text.specs.Chain.{Chain}
use Rattle.ra_text.specs.Form.{Form, Spell, One, Then, Viable}
use Rattle.ra_text.specs.Reading.{Reads, ◌>>=◌}
use Rattle.ra_text.specs.ReadingNumbers.{saturated_at, numeral_at, signed_at}
use Rattle.ra_text.specs.Table.{only, marks, letter_marks}
use Rattle.ra_text.proofs.Begins.{Begins, IsListed, begins-then, firsts-then, firsts-spell, firsts-wider}
use Rattle.ra_text.proofs.Begins.{reader-follows}
use Rattle.ra_text.proofs.Chains.{reader-chain, firsts-chain}
use Rattle.ra_text.proofs.Either.{reader-map}
use Rattle.ra_text.proofs.Places.{whole_ok}
use Rattle.ra_text.proofs.Readers.{Reader, reader-same, reads-of}
use Rattle.ra_text.proofs.Tables.{In, in_within, in_apart, is_in-in, listed_in, each-in}
use Rattle.ra_text.proofs.Spelled.{then-spelled, none-spelled, viable-by, link-spelled}

-- ---- the fields behind the first, while their tags are free

-- the fields behind those so far
abbrev others_in : HeldSoFar → Form ℕ (List FieldContents)
others_in h = Chain separator (λ h tags. next_field_in tags) with_field is_whole h

-- a separator is a colon, where tags are free
separator-parts : (h : HeldSoFar) (c : ℕ) (v : SomeTags) → separator h c ≡ Some v → (c ≡ 58) × (free_tags h ≡ v.0 ∷ v.1)
separator-parts h c v e = cases (c == 58) refl e where
  cases : (same : Bool) → (c == 58) ≡ same → (if same then some_tags (free_tags h) else None)
      ≡ Some v → (c ≡ 58) × (free_tags h ≡ v.0 ∷ v.1)
  cases true is e = (eqb-true c 58 is, some-tags (free_tags h) v e)
  cases false is e = absurd (cc e)

colon-in : (h : HeldSoFar) (c : ℕ) → IsListed (separator h) c → In (codes ":") c
colon-in h c listed = subst (In (codes ":")) (sym (separator-parts h c listed.0 listed.1).0) refl

-- ---- from each fields some others make a board

-- a text that spells a field, and the field
abbrev sample_text : Tag → List ℕ
sample_text Start = codes ":STA:"
sample_text Cancel = codes ":CAN:"
sample_text Submit = codes ":SUB:"
sample_text Value = codes ":VAL:0"
sample_text Progress = codes ":PRO:0"

-- the value of `0`
abbrev zero_value : List PartContents
zero_value = Legacy (record { operand = Const 0; factor = None } ∷ []) ∷ []

-- the field of the sample text
abbrev sample : Tag → FieldContents
sample Start = OfStart no_trigger
sample Cancel = OfCancel no_trigger
sample Submit = OfSubmit no_trigger
sample Value = OfValue zero_value
sample Progress = OfProgress zero_value

sample-spelled : (t : Tag) (ts : List Tag) → next_field_in (t, ts) (sample_text t) (sample t)
unfolding next_field_at field_at tag_at held_at trigger_at groups_at group_at value_at part_at
    term_part_at terms_at term_at factor_at operand_at cell_or_constant_at memory_at constant_at
    unsigned_at decimal_constant_at signed_at saturated_at numeral_at
sample-spelled Start ts = whole_ok (next_field_in (Start, ts)) (next_field_at (Start, ts))
    (reads-of (next_field_in (Start, ts)) (next_field_at (Start, ts)) (In field_rest)
    (reader-next_field_in (Start, ts))) (sample_text Start) (sample Start) [] refl refl
sample-spelled Cancel ts = whole_ok (next_field_in (Cancel, ts)) (next_field_at (Cancel, ts))
    (reads-of (next_field_in (Cancel, ts)) (next_field_at (Cancel, ts)) (In field_rest)
    (reader-next_field_in (Cancel, ts))) (sample_text Cancel) (sample Cancel) [] refl refl
sample-spelled Submit ts = whole_ok (next_field_in (Submit, ts)) (next_field_at (Submit, ts))
    (reads-of (next_field_in (Submit, ts)) (next_field_at (Submit, ts)) (In field_rest)
    (reader-next_field_in (Submit, ts))) (sample_text Submit) (sample Submit) [] refl refl
sample-spelled Value ts = whole_ok (next_field_in (Value, ts)) (next_field_at (Value, ts))
    (reads-of (next_field_in (Value, ts)) (next_field_at (Value, ts)) (In field_rest)
    (reader-next_field_in (Value, ts))) (sample_text Value) (sample Value) [] refl refl
sample-spelled Progress ts = whole_ok (next_field_in (Progress, ts)) (next_field_at (Progress, ts))
    (reads-of (next_field_in (Progress, ts)) (next_field_at (Progress, ts)) (In field_rest)
    (reader-next_field_in (Progress, ts))) (sample_text Progress) (sample Progress) [] refl refl

-- with one field more a board can be made
add : (t : Tag) (ts : List Tag) (h : HeldSoFar) → free_tags h ≡ t ∷ ts
    → Viable (others_in (with_field h (sample t))) [] → Viable (others_in h) []
add t ts h free viable = viable-by (58 ∷ (sample_text t ++ viable.more)) (sample t ∷ viable.v)
    (link-spelled 58 (t, ts) (sample_text t) viable.more refl (ap some_tags free)
    (sample-spelled t ts) viable.whole)

complete-value : (start cancel submit : TriggerContents) (value progress : Option (List
    PartContents)) → Viable (others_in (record
    { start = Some start; cancel = Some cancel; submit = Some submit; value = value; progress = progress })) []
complete-value start cancel submit (Some value) progress = viable-by [] [] (refl, refl)
complete-value start cancel submit None progress = add Value _
    (record { start = Some start; cancel = Some cancel; submit = Some submit; value = None; progress = progress }) refl
    (viable-by [] [] (refl, refl))

complete-submit : (start cancel : TriggerContents) (submit : Option TriggerContents) (value
    progress : Option (List PartContents)) → Viable (others_in (record
    { start = Some start; cancel = Some cancel; submit = submit; value = value; progress = progress })) []
complete-submit start cancel (Some submit) value progress = complete-value start cancel submit value progress
complete-submit start cancel None value progress = add Submit _
    (record { start = Some start; cancel = Some cancel; submit = None; value = value; progress = progress }) refl
    (complete-value start cancel no_trigger value progress)

complete-cancel : (start : TriggerContents) (cancel submit : Option TriggerContents) (value
    progress : Option (List PartContents)) → Viable (others_in (record
    { start = Some start; cancel = cancel; submit = submit; value = value; progress = progress }))
    []
complete-cancel start (Some cancel) submit value progress = complete-submit start cancel submit value progress
complete-cancel start None submit value progress = add Cancel _ (record
    { start = Some start; cancel = None; submit = submit; value = value; progress = progress }) refl
    (complete-submit start no_trigger submit value progress)

complete-start : (start cancel submit : Option TriggerContents)
    (value progress : Option (List PartContents)) → Viable (others_in (record
    { start = start; cancel = cancel; submit = submit; value = value; progress = progress })) []
complete-start (Some start) cancel submit value progress = complete-cancel start cancel submit value progress
complete-start None cancel submit value progress = add Start _ (record
    { start = None; cancel = cancel; submit = submit; value = value; progress = progress }) refl
    (complete-cancel no_trigger cancel submit value progress)

completes : (h : HeldSoFar) → Viable (others_in h) []
completes h = complete-start h.start h.cancel h.submit h.value h.progress

-- ---- fields, one after the other

-- what goes on with a board
abbrev pub board_rest : List ℕ
board_rest = field_rest ++ codes ":"

reader-others : (h : HeldSoFar) → Reader (others_in h) (others_at h) (In board_rest)
reader-others = reader-chain separator (λ h tags. next_field_in tags) (λ h tags. next_field_at tags)
    with_field is_whole (In board_rest) (In field_rest) (λ h tags. reader-next_field_in tags)
    (λ h c listed on. in_apart (codes ":") field_rest refl c (colon-in h c listed) on)
    (in_within field_rest board_rest refl)
    (λ h c listed. in_within (codes ":") board_rest refl c (colon-in h c listed))
    completes

-- fields whose tags are free, and the board that they make
abbrev board_in : Form ℕ BoardContents
board_in = Then (field_in all_tags) (λ first. Then (others_in (with_field none_held first))
    (λ others. Spell (board_of (with_fields (with_field none_held first) others))))

reader-board_in : Reader board_in board_at (In board_rest)
unfolding board_at
reader-board_in = reader-follows (field_in all_tags) (λ first. Then (others_in (with_field none_held
    first)) (λ others. Spell (board_of (with_fields (with_field none_held first) others))))
    (field_at all_tags) (λ first. others_at (with_field none_held first.0) first.1
    >>= λ others. Ok (board_of (with_fields (with_field none_held first.0) others.0), others.1))
    (In field_rest) (In (codes ":")) (In board_rest)
    (reader-field_in all_tags)
    (λ first. reader-map (others_in (with_field none_held first))
    (others_at (with_field none_held first)) (In board_rest) (λ others. board_of
    (with_fields (with_field none_held first) others)) (reader-others (with_field none_held first)))
    (λ first. firsts-then (others_in (with_field none_held first))
    (λ others. Spell (board_of (with_fields (with_field none_held first) others))) (In (codes ":"))
    (firsts-wider (others_in (with_field none_held first)) (IsListed (separator (with_field
    none_held first))) (In (codes ":")) (colon-in (with_field none_held first)) (firsts-chain
    separator (λ h tags. next_field_in tags) with_field is_whole (with_field none_held first)))
    (λ others. firsts-spell (board_of (with_fields (with_field none_held first) others)) (In (codes ":"))))
    (in_apart field_rest (codes ":") refl)
    (in_within field_rest board_rest refl)

-- ---- the same texts as those of the grammar

held-tag : (t : Tag) (text : List ℕ) (f : FieldContents) → held t text f → tag_of f ≡ t
held-tag Start text f h = ap tag_of h.of_next.is
held-tag _ text f h = ap tag_of h.of_next.is

field-of : (tags : SomeTags) (text : List ℕ) (f : FieldContents) → field_in tags text f
    → field text f × Among (tag_of f) (tags.0 ∷ tags.1)
field-of tags text f h = let word = tag-of tags h.v h.front h.of_first in (
  then-spelled h.front h.behind h.v h.parts word.0 h.of_next,
  subst (λ t. Among t (tags.0 ∷ tags.1)) (sym (held-tag h.v h.of_next.behind f h.of_next.of_next)) word.1,
)

field-in : (tags : SomeTags) (text : List ℕ) (f : FieldContents) → field text f
    → Among (tag_of f) (tags.0 ∷ tags.1) → field_in tags text f
field-in tags text f h free = then-spelled h.front h.behind h.v h.parts
    (tag-in tags h.v h.front h.of_first (subst (λ t. Among t (tags.0 ∷ tags.1))
    (held-tag h.v h.of_next.behind f h.of_next.of_next) free)) h.of_next

-- the fields behind the first, of any tags
abbrev others : Form ℕ (List FieldContents)
others = Chain {S = Unit {0}} (λ s. only (codes ":")) (λ s colon. next_field) (λ s f. s) (λ s. true) tt

others-of : (h : HeldSoFar) (text : List ℕ) (fs : List FieldContents) → others_in h text fs
    → others text fs × Allowed h fs × (is_whole (with_fields h fs) ≡ true)
others-of h text [] l = ((l.0, refl), tt, l.1)
others-of h text (f ∷ fs) l =
    let colon = separator-parts h l.symbol l.tag l.separated in
    let item = field-of l.tag l.of_item.behind f l.of_item.of_next in
    let more = others-of (with_field h f) l.behind fs l.of_others in (
      link-spelled l.symbol tt l.front l.behind l.parts
          (subst (λ c. only (codes ":") c ≡ Some tt) (sym colon.0) refl) (then-spelled l.of_item.front
          l.of_item.behind l.of_item.v l.of_item.parts l.of_item.of_first item.0) more.0,
      (subst (Among (tag_of f)) (sym colon.1) item.1, more.1),
      more.2,
    )

others-in : (h : HeldSoFar) (text : List ℕ) (fs : List FieldContents) → others text fs
    → Allowed h fs → is_whole (with_fields h fs) ≡ true → others_in h text fs
others-in h text [] l allowed whole = (l.0, whole)
others-in h text (f ∷ fs) l allowed whole =
    let some = tags-some (tag_of f) (free_tags h) allowed.0 in
    let colon : l.symbol ≡ 58 = each-in (λ c. c ≡ 58) (codes ":") (refl, tt) l.symbol
    (listed_in (marks (codes ":")) l.symbol (l.tag, l.separated)) in
    link-spelled l.symbol some.0 l.front l.behind l.parts
    (subst (λ c. separator h c ≡ Some some.0) (sym colon) some.1)
    (then-spelled l.of_item.front l.of_item.behind l.of_item.v l.of_item.parts l.of_item.of_first
    (field-in some.0 l.of_item.behind f l.of_item.of_next (subst (Among (tag_of f)) some.2
    allowed.0))) (others-in (with_field h f) l.behind fs l.of_others allowed.1 whole)

board-of : (text : List ℕ) (b : BoardContents) → board_in text b → board text b
board-of text b h =
    let first = field-of all_tags h.front h.v h.of_first in
    let more = others-of (with_field none_held h.v) h.of_next.front h.of_next.v
    h.of_next.of_first in then-spelled (h.front ++ h.of_next.front) h.of_next.behind
    (h.v ∷ h.of_next.v) (h.parts ∙ ap (λ t. h.front ++ t) h.of_next.parts
    ∙ sym (append_assoc h.front h.of_next.front h.of_next.behind))
    (then-spelled h.front h.of_next.front h.v refl first.0
    (then-spelled h.of_next.front [] h.of_next.v
    (sym (append-nil h.of_next.front)) more.0 none-spelled))
    (subst₂ (λ t x. Arranged (h.v ∷ h.of_next.v) t x) (sym h.of_next.of_next.empty)
    (sym h.of_next.of_next.is) (whole-arranged (h.v ∷ h.of_next.v) (first.1, more.1) more.2))

board-in : (text : List ℕ) (b : BoardContents) → board text b → board_in text b
board-in text b h =
    let first = h.of_first in
    let second = h.of_first.of_next in
    let arranged = subst (λ fs. Arranged fs h.behind b) second.of_next.is h.of_next in
    let allowed = arranged-allowed (first.v ∷ second.v) h.behind b arranged in
    let whole = arranged-whole (first.v ∷ second.v) h.behind b arranged in
    then-spelled first.front second.front first.v (h.parts
    ∙ ap (λ t. h.front ++ t) h.of_next.empty ∙ append-nil h.front ∙ first.parts
    ∙ ap (λ t. first.front ++ t) (second.parts
    ∙ ap (λ t. second.front ++ t) second.of_next.empty
    ∙ append-nil second.front)) (field-in all_tags first.front first.v first.of_first allowed.0)
    (then-spelled second.front [] second.v (sym (append-nil second.front))
    (others-in (with_field none_held first.v) second.front second.v second.of_first allowed.1
    whole.0) (record { empty = refl; is = sym whole.1 }))

-- ---- boards

pub reader-board : Reader board board_at (In board_rest)
reader-board = reader-same board_in board board_at (In board_rest) board-of board-in reader-board_in

pub reads-board : (text : List ℕ) → Reads board text (board_at text)
reads-board = reads-of board board_at (In board_rest) reader-board

-- the first letters of the tags
abbrev pub board_keys : List ℕ
board_keys = codes "SsCcVvPp"
