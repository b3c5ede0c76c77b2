-- A text spells no more alt groups than it has bytes.
use Rattle.std.proofs.Common.{◌≡◌, ℕ, ◌+◌, ◌≤◌, Bool, true, List, [], ◌∷◌, ◌++◌, length, Option, option_to_list, refl}
use Rattle.std.proofs.Common.{ap, arith, codes, length-append, inl, inr}
use Rattle.std.specs.List.{sum_by, filter_map}
use Rattle.std.proofs.lemmas.List.Sums.{sum_by-cons, sum_by-append}
use Rattle.ra_condition.specs.Contents.{TriggerContents}
use Rattle.ra_condition.specs.Grammar.{group, trigger, trigger_of}
use Rattle.ra_leaderboard.specs.declared.tag.Tag.{Tag}
use Rattle.ra_leaderboard.specs.declared.tag.Tag.TheVariants.{Start, Cancel, Submit, Value, Progress}
use Rattle.ra_leaderboard.specs.Contents.{BoardContents}
use Rattle.ra_leaderboard.specs.Fields.{FieldContents, OfStart, OfCancel, OfSubmit, OfValue, OfProgress, start_in}
use Rattle.ra_leaderboard.specs.Fields.{cancel_in, submit_in}
use Rattle.ra_leaderboard.specs.Grammar.{held, field, next_field, board}
use Rattle.ra_set.specs.Accepted.{IsSet}
use Rattle.ra_set.specs.Contents.{Unlocks, Ranks, SetContents}
use Rattle.ra_set.specs.Grammar.{Line, line, ended_line, items_of}
use Rattle.ra_set.specs.Runs.{many}
use Rattle.ra_set.proofs.ContentsLemmas.{lines-of_file}
use Rattle.ra_text.specs.Chain.{Chain}
use Rattle.ra_text.specs.Form.{Form}
use Rattle.ra_text.specs.Table.{only, only_letters}
use Rattle.ra_lint.specs.Fewness.{board_alts, item_alts, HasFewAlts}

module _ {T S V : Type 0} (separator : S → ℕ → Option T) (item : S → T → Form ℕ V) (step : S → V → S)
    (done : S → Bool) where
  chain-length : (s : S) (t : List ℕ) (vs : List V) → Chain separator item step done s t vs → length vs ≤ length t
  chain-length s t [] h = omega arith
  chain-length s t (v ∷ vs) h = let more = chain-length (step s v) h.behind vs h.of_others in
      omega (arith, ap length h.parts, length-append h.front h.behind)

  chain-sum : (size : V → ℕ) → ((s : S) (tag : T) (t : List ℕ) (v : V) → item s tag t v → size v ≤ length t)
      → (s : S) (t : List ℕ) (vs : List V) → Chain separator item step done s t vs → sum_by size vs ≤ length t
  chain-sum size small s t [] h = omega arith
  chain-sum size small s t (v ∷ vs) h =
      let first = small s h.tag h.front v h.of_item in
      let more = chain-sum size small (step s v) h.behind vs h.of_others in
      omega (arith, ap length h.parts, length-append h.front h.behind, sum_by-cons size v vs)

-- ---- triggers

-- how many alt groups a trigger has
abbrev alts_of : TriggerContents → ℕ
alts_of t = length t.alts

trigger-alts : (t : List ℕ) (v : TriggerContents) → trigger t v → alts_of v ≤ length t
trigger-alts t v h =
    let groups = h.of_first in
    let others = chain-length {S = Unit {0}} (λ s. only_letters (codes "S")) (λ s tag. group) (λ s v. s)
    (λ s. true) tt groups.of_next.front groups.of_next.v groups.of_next.of_first in
    omega (
      arith,
      ap alts_of h.of_next.is,
      ap (λ gs. alts_of (trigger_of gs)) groups.of_next.of_next.is,
      ap length h.parts,
      length-append h.front h.behind,
      ap length groups.parts,
      length-append groups.front groups.behind,
      ap length groups.of_next.parts,
      length-append groups.of_next.front groups.of_next.behind,
    )

-- ---- boards

-- the alt groups of a field
abbrev field_alts : FieldContents → ℕ
field_alts (OfStart t) = alts_of t
field_alts (OfCancel t) = alts_of t
field_alts (OfSubmit t) = alts_of t
field_alts (OfValue v) = 0
field_alts (OfProgress v) = 0

held-alts : (tag : Tag) (t : List ℕ) (f : FieldContents) → held tag t f → field_alts f ≤ length t
held-alts Start t f h = let c = trigger-alts h.front h.v h.of_first in
    omega (arith, ap field_alts h.of_next.is, ap length h.parts, length-append h.front h.behind)
held-alts Cancel t f h = let c = trigger-alts h.front h.v h.of_first in
    omega (arith, ap field_alts h.of_next.is, ap length h.parts, length-append h.front h.behind)
held-alts Submit t f h = let c = trigger-alts h.front h.v h.of_first in
    omega (arith, ap field_alts h.of_next.is, ap length h.parts, length-append h.front h.behind)
held-alts Value t f h = omega (arith, ap field_alts h.of_next.is)
held-alts Progress t f h = omega (arith, ap field_alts h.of_next.is)

field-alts : (t : List ℕ) (f : FieldContents) → field t f → field_alts f ≤ length t
field-alts t f h =
    let c = held-alts h.v h.of_next.behind f h.of_next.of_next in
    omega (
      arith,
      ap length h.parts,
      length-append h.front h.behind,
      ap length h.of_next.parts,
      length-append h.of_next.front h.of_next.behind,
    )

next-alts : (t : List ℕ) (f : FieldContents) → next_field t f → field_alts f ≤ length t
next-alts t f h = let c = field-alts h.behind f h.of_next in
    omega (arith, ap length h.parts, length-append h.front h.behind)

-- the alt groups of fields, by their tags
by-tags : (fs : List FieldContents) → sum_by field_alts fs ≡ sum_by alts_of (filter_map start_in fs) + sum_by alts_of
    (filter_map cancel_in fs) + sum_by alts_of (filter_map submit_in fs)
by-tags [] = refl
by-tags (OfStart t ∷ fs) = omega (
  arith,
  sum_by-cons field_alts (OfStart t) fs,
  sum_by-cons alts_of t (filter_map start_in fs),
  by-tags fs,
)
by-tags (OfCancel t ∷ fs) = omega (
  arith,
  sum_by-cons field_alts (OfCancel t) fs,
  sum_by-cons alts_of t (filter_map cancel_in fs),
  by-tags fs,
)
by-tags (OfSubmit t ∷ fs) = omega (
  arith,
  sum_by-cons field_alts (OfSubmit t) fs,
  sum_by-cons alts_of t (filter_map submit_in fs),
  by-tags fs,
)
by-tags (OfValue v ∷ fs) = omega (arith, sum_by-cons field_alts (OfValue v) fs, by-tags fs)
by-tags (OfProgress v ∷ fs) = omega (arith, sum_by-cons field_alts (OfProgress v) fs, by-tags fs)

board-alts : (t : List ℕ) (b : BoardContents) → board t b → board_alts b ≤ length t
board-alts t b h =
    let fields = h.of_first in
    let first = field-alts fields.front fields.v fields.of_first in
    let others = chain-sum {S = Unit {0}} (λ s. only (codes ":")) (λ s colon. next_field) (λ s f. s)
    (λ s. true) field_alts (λ s tag. next-alts) tt fields.of_next.front fields.of_next.v fields.of_next.of_first in
    let all : sum_by field_alts h.v ≤ length t = omega (
      arith,
      ap length h.parts,
      length-append h.front h.behind,
      ap length fields.parts,
      length-append fields.front fields.behind,
      ap length fields.of_next.parts,
      length-append fields.of_next.front fields.of_next.behind,
      ap (sum_by field_alts) fields.of_next.of_next.is,
      sum_by-cons field_alts fields.v fields.of_next.v,
    ) in
    let a = h.of_next in
    omega (
      arith,
      all,
      by-tags h.v,
      ap (sum_by alts_of) a.start,
      ap (sum_by alts_of) a.cancel,
      ap (sum_by alts_of) a.submit,
      sum_by-cons alts_of b.start [],
      sum_by-cons alts_of b.cancel [],
      sum_by-cons alts_of b.submit [],
    )

-- ---- lines

-- the alt groups of what a line has
abbrev line_alts : Line → ℕ
line_alts l = sum_by item_alts (option_to_list l)

line-alts : (t : List ℕ) (l : Line) → line t l → line_alts l ≤ length t
line-alts t l (inl h) = omega (arith, ap line_alts h.of_next.of_next.is)
line-alts t l (inr (inl h)) =
    let c = trigger-alts h.of_next.front h.of_next.v h.of_next.of_first in
    omega (
      arith,
      ap line_alts h.of_next.of_next.is,
      sum_by-cons item_alts (Unlocks h.v h.of_next.v) [],
      ap length h.parts,
      length-append h.front h.behind,
      ap length h.of_next.parts,
      length-append h.of_next.front h.of_next.behind,
    )
line-alts t l (inr (inr (inl h))) =
    let b = h.of_next.of_next.of_next in
    let c = board-alts b.front b.v b.of_first in
    omega (
      arith,
      ap line_alts b.of_next.is,
      sum_by-cons item_alts (Ranks h.v h.of_next.v b.v) [],
      ap length h.parts,
      length-append h.front h.behind,
      ap length h.of_next.parts,
      length-append h.of_next.front h.of_next.behind,
      ap length h.of_next.of_next.parts,
      length-append h.of_next.of_next.front h.of_next.of_next.behind,
      ap length b.parts,
      length-append b.front b.behind,
    )
line-alts t l (inr (inr (inr h))) = omega (arith, ap line_alts h.is)

lines-sum : (l : Line) (lines : List Line) → sum_by item_alts (items_of (l ∷ lines)) ≡ line_alts l + sum_by item_alts
    (items_of lines)
lines-sum l lines = sum_by-append item_alts (option_to_list l) (items_of lines)

ended-alts : (ended : List Line) (t : List ℕ) → many ended_line t ended → (u : List ℕ) (last : Line) → line u last
    → sum_by item_alts (items_of (ended ++ last ∷ [])) ≤ length t + length u
ended-alts [] t none u last h = let c = line-alts u last h in omega (arith, lines-sum last [])
ended-alts (l ∷ ended) t h u last hl =
    let c = line-alts h.of_first.front h.of_first.v h.of_first.of_first in
    let more = ended-alts ended h.behind h.of_next u last hl in
    omega (
      arith,
      lines-sum l (ended ++ last ∷ []),
      ap line_alts h.of_first.of_next.of_next.is,
      ap length h.parts,
      length-append h.front h.behind,
      ap length h.of_first.parts,
      length-append h.of_first.front h.of_first.behind,
    )

-- a set that a file spells has no more alt groups than the file has bytes
pub few_alts : (file : List ℕ) (set : SetContents) → IsSet file set → HasFewAlts set
few_alts file set is =
    let l = lines-of_file file is.spelled.contents is.spelled.spelled in
    let few = ended-alts l.ended l.front l.of_ended l.behind l.last l.of_last in
    omega (arith, few, l.fits, is.size, ap (sum_by item_alts) is.spelled.items, ap (sum_by item_alts) l.items)
