-- What fields hold: which tags are free, and what fields in order say of the board that they make.
use Rattle.std.proofs.Common.{◌≡◌, ◌∙◌, ℕ, ◌≤◌, Bool, true, false, ◌&&◌, ◌⊎◌, inl, inr, List, [], ◌∷◌, ◌++◌, length}
use Rattle.std.proofs.Common.{Option, Some, None, is_some, is_none, unwrap_or, option_map, not, refl, sym, ap, subst}
use Rattle.std.proofs.Common.{arith, append_assoc, append-nil}
use Rattle.std.specs.List.{filter_map, cons_option}
use Rattle.ra_leaderboard.specs.declared.tag.Tag.{Tag}
use Rattle.ra_leaderboard.specs.declared.tag.Tag.TheVariants.{Start, Cancel, Submit, Value, Progress}
use Rattle.ra_leaderboard.specs.Contents.{BoardContents}
use Rattle.ra_leaderboard.specs.Fields.{FieldContents, OfStart, OfCancel, OfSubmit, OfValue, OfProgress, start_in}
use Rattle.ra_leaderboard.specs.Fields.{cancel_in, submit_in, value_in, progress_in}
use Rattle.ra_leaderboard.specs.Grammar.{at_most_one, Arranged}
use Rattle.ra_leaderboard.specs.Reading.{HeldSoFar, none_held, with_field, with_fields, free_tags, is_whole, no_trigger}
use Rattle.ra_leaderboard.specs.Reading.{board_of}
use Rattle.ra_leaderboard.specs.Tags.{chosen, chosen_tags}
use Rattle.ra_leaderboard.proofs.TagLemmas.{Among}

-- ---- free tags

-- the tag of a field
abbrev pub tag_of : FieldContents → Tag
tag_of (OfStart t) = Start
tag_of (OfCancel t) = Cancel
tag_of (OfSubmit t) = Submit
tag_of (OfValue v) = Value
tag_of (OfProgress v) = Progress

-- what is told of the tag
abbrev told : (start cancel submit value progress : Bool) → Tag → Bool
told a b c d e Start = a
told a b c d e Cancel = b
told a b c d e Submit = c
told a b c d e Value = d
told a b c d e Progress = e

-- the field of the tag does not stand yet
abbrev lacks : HeldSoFar → Tag → Bool
lacks h t = told (is_none h.start) (is_none h.cancel) (is_none h.submit) (is_none h.value) (is_none h.progress) t

in-chosen : (b : Bool) (u : Tag) (us : List Tag) (t : Tag) → Among t (chosen b u us)
    → ((u ≡ t) × (b ≡ true)) ⊎ Among t us
in-chosen true u us t (inl same) = inl (same, refl)
in-chosen true u us t (inr more) = inr more
in-chosen false u us t here = inr here

chosen-here : (b : Bool) (u : Tag) (us : List Tag) → b ≡ true → Among u (chosen b u us)
chosen-here true u us e = inl refl
chosen-here false u us e = absurd (cc e)

chosen-behind : (b : Bool) (u : Tag) (us : List Tag) (t : Tag) → Among t us → Among t (chosen b u us)
chosen-behind true u us t here = inr here
chosen-behind false u us t here = here

among-told : (a b c d e : Bool) (t : Tag) → Among t (chosen_tags a b c d e) → told a b c d e t ≡ true
among-told a b c d e t here =
    let last : List Tag = chosen e Progress [] in
    let fourth : List Tag = chosen d Value last in
    let third : List Tag = chosen c Submit fourth in
    let second : List Tag = chosen b Cancel third in
    elim (in-chosen a Start second t here) [
      | inl x ↦ subst (λ u. told a b c d e u ≡ true) x.0 x.1
      | inr here ↦ elim (in-chosen b Cancel third t here) [
        | inl x ↦ subst (λ u. told a b c d e u ≡ true) x.0 x.1
        | inr here ↦ elim (in-chosen c Submit fourth t here) [
          | inl x ↦ subst (λ u. told a b c d e u ≡ true) x.0 x.1
          | inr here ↦ elim (in-chosen d Value last t here) [
            | inl x ↦ subst (λ u. told a b c d e u ≡ true) x.0 x.1
            | inr here ↦ elim (in-chosen e Progress [] t here) [
              | inl x ↦ subst (λ u. told a b c d e u ≡ true) x.0 x.1
              | inr here ↦ absurd (here tt)
            ]
          ]
        ]
      ]
    ]

told-among : (a b c d e : Bool) (t : Tag) → told a b c d e t ≡ true → Among t (chosen_tags a b c d e)
told-among a b c d e Start is = chosen-here a Start
    (chosen b Cancel (chosen c Submit (chosen d Value (chosen e Progress [])))) is
told-among a b c d e Cancel is = chosen-behind a Start
    (chosen b Cancel (chosen c Submit (chosen d Value (chosen e Progress [])))) Cancel
    (chosen-here b Cancel (chosen c Submit (chosen d Value (chosen e Progress []))) is)
told-among a b c d e Submit is = chosen-behind a Start
    (chosen b Cancel (chosen c Submit (chosen d Value (chosen e Progress [])))) Submit
    (chosen-behind b Cancel (chosen c Submit (chosen d Value (chosen e Progress []))) Submit
    (chosen-here c Submit (chosen d Value (chosen e Progress [])) is))
told-among a b c d e Value is = chosen-behind a Start
    (chosen b Cancel (chosen c Submit (chosen d Value (chosen e Progress [])))) Value
    (chosen-behind b Cancel (chosen c Submit (chosen d Value (chosen e Progress []))) Value
    (chosen-behind c Submit (chosen d Value (chosen e Progress [])) Value
    (chosen-here d Value (chosen e Progress []) is)))
told-among a b c d e Progress is = chosen-behind a Start
    (chosen b Cancel (chosen c Submit (chosen d Value (chosen e Progress [])))) Progress
    (chosen-behind b Cancel (chosen c Submit (chosen d Value (chosen e Progress []))) Progress
    (chosen-behind c Submit (chosen d Value (chosen e Progress [])) Progress
    (chosen-behind d Value (chosen e Progress []) Progress (chosen-here e Progress [] is))))

free-lacks : (h : HeldSoFar) (t : Tag) → Among t (free_tags h) → lacks h t ≡ true
free-lacks h t here = among-told (is_none h.start) (is_none h.cancel) (is_none h.submit)
    (is_none h.value) (is_none h.progress) t here

lacks-free : (h : HeldSoFar) (t : Tag) → lacks h t ≡ true → Among t (free_tags h)
lacks-free h t is = told-among (is_none h.start) (is_none h.cancel) (is_none h.submit)
    (is_none h.value) (is_none h.progress) t is

-- each field's tag is free when the field comes
abbrev pub Allowed : HeldSoFar → List FieldContents → Type 0
Allowed h [] = Unit {0}
Allowed h (f ∷ fs) = Among (tag_of f) (free_tags h) × Allowed (with_field h f) fs

-- ---- what one kind of field holds

cons-one : {X : Type 0} (o : Option X) (xs : List X) → cons_option o xs ≡ at_most_one o ++ xs
cons-one (Some x) xs = refl
cons-one None xs = refl

none-one : {X : Type 0} (o : Option X) (x : X) → is_none o ≡ true → at_most_one o ++ x ∷ [] ≡ x ∷ []
none-one (Some y) x none = absurd (cc none)
none-one None x none = refl

-- A kind of field: what it holds is put at its place, which was free.
module _ {X : Type 0} (pick : FieldContents → Option X) (slot : HeldSoFar → Option X)
    (step : (h : HeldSoFar) (f : FieldContents) → Among (tag_of f) (free_tags h)
    → at_most_one (slot h) ++ at_most_one (pick f) ≡ at_most_one (slot (with_field h f))) where
  kept-one : (h : HeldSoFar) (f : FieldContents) (xs : List X) → Among (tag_of f) (free_tags h)
      → at_most_one (slot h) ++ cons_option (pick f) xs ≡ at_most_one (slot (with_field h f)) ++ xs
  kept-one h f xs free = ap (λ t. at_most_one (slot h) ++ t) (cons-one (pick f) xs)
      ∙ sym (append_assoc (at_most_one (slot h)) (at_most_one (pick f)) xs)
      ∙ ap (λ t. t ++ xs) (step h f free)

  kept : (h : HeldSoFar) (fs : List FieldContents) → Allowed h fs
      → at_most_one (slot h) ++ filter_map pick fs ≡ at_most_one (slot (with_fields h fs))
  kept h [] allowed = append-nil (at_most_one (slot h))
  kept h (f ∷ fs) allowed = kept-one h f (filter_map pick fs) allowed.0 ∙ kept (with_field h f) fs allowed.1

step-start : (h : HeldSoFar) (f : FieldContents) → Among (tag_of f) (free_tags h)
    → at_most_one h.start ++ at_most_one (start_in f) ≡ at_most_one (with_field h f).start
step-start h (OfStart t) free = none-one h.start t (free-lacks h Start free)
step-start h (OfCancel t) free = append-nil (at_most_one h.start)
step-start h (OfSubmit t) free = append-nil (at_most_one h.start)
step-start h (OfValue v) free = append-nil (at_most_one h.start)
step-start h (OfProgress v) free = append-nil (at_most_one h.start)

step-cancel : (h : HeldSoFar) (f : FieldContents) → Among (tag_of f) (free_tags h)
    → at_most_one h.cancel ++ at_most_one (cancel_in f) ≡ at_most_one (with_field h f).cancel
step-cancel h (OfStart t) free = append-nil (at_most_one h.cancel)
step-cancel h (OfCancel t) free = none-one h.cancel t (free-lacks h Cancel free)
step-cancel h (OfSubmit t) free = append-nil (at_most_one h.cancel)
step-cancel h (OfValue v) free = append-nil (at_most_one h.cancel)
step-cancel h (OfProgress v) free = append-nil (at_most_one h.cancel)

step-submit : (h : HeldSoFar) (f : FieldContents) → Among (tag_of f) (free_tags h)
    → at_most_one h.submit ++ at_most_one (submit_in f) ≡ at_most_one (with_field h f).submit
step-submit h (OfStart t) free = append-nil (at_most_one h.submit)
step-submit h (OfCancel t) free = append-nil (at_most_one h.submit)
step-submit h (OfSubmit t) free = none-one h.submit t (free-lacks h Submit free)
step-submit h (OfValue v) free = append-nil (at_most_one h.submit)
step-submit h (OfProgress v) free = append-nil (at_most_one h.submit)

step-value : (h : HeldSoFar) (f : FieldContents) → Among (tag_of f) (free_tags h)
    → at_most_one h.value ++ at_most_one (value_in f) ≡ at_most_one (with_field h f).value
step-value h (OfStart t) free = append-nil (at_most_one h.value)
step-value h (OfCancel t) free = append-nil (at_most_one h.value)
step-value h (OfSubmit t) free = append-nil (at_most_one h.value)
step-value h (OfValue v) free = none-one h.value v (free-lacks h Value free)
step-value h (OfProgress v) free = append-nil (at_most_one h.value)

step-progress : (h : HeldSoFar) (f : FieldContents) → Among (tag_of f) (free_tags h)
    → at_most_one h.progress ++ at_most_one (progress_in f) ≡ at_most_one (with_field h f).progress
step-progress h (OfStart t) free = append-nil (at_most_one h.progress)
step-progress h (OfCancel t) free = append-nil (at_most_one h.progress)
step-progress h (OfSubmit t) free = append-nil (at_most_one h.progress)
step-progress h (OfValue v) free = append-nil (at_most_one h.progress)
step-progress h (OfProgress v) free = none-one h.progress v (free-lacks h Progress free)

-- ---- fields in order whose tags are free

-- no kind of field is held twice
record Room (h : HeldSoFar) (fs : List FieldContents) : Type 0 where
  start : length (at_most_one h.start ++ filter_map start_in fs) ≤ 1
  cancel : length (at_most_one h.cancel ++ filter_map cancel_in fs) ≤ 1
  submit : length (at_most_one h.submit ++ filter_map submit_in fs) ≤ 1
  value : length (at_most_one h.value ++ filter_map value_in fs) ≤ 1
  progress : length (at_most_one h.progress ++ filter_map progress_in fs) ≤ 1

room-none : {X : Type 0} (o : Option X) (x : X) (xs : List X) → length (at_most_one o ++ x ∷ xs) ≤ 1 → is_none o ≡ true
room-none (Some y) x xs most = absurd (omega arith)
room-none None x xs most = refl

room-lacks : (h : HeldSoFar) (f : FieldContents) (fs : List FieldContents) → Room h (f ∷ fs) → lacks h (tag_of f) ≡ true
room-lacks h (OfStart t) fs room = room-none h.start t (filter_map start_in fs) room.start
room-lacks h (OfCancel t) fs room = room-none h.cancel t (filter_map cancel_in fs) room.cancel
room-lacks h (OfSubmit t) fs room = room-none h.submit t (filter_map submit_in fs) room.submit
room-lacks h (OfValue v) fs room = room-none h.value v (filter_map value_in fs) room.value
room-lacks h (OfProgress v) fs room = room-none h.progress v (filter_map progress_in fs) room.progress

room-next : (h : HeldSoFar) (f : FieldContents) (fs : List FieldContents)
    → Among (tag_of f) (free_tags h) → Room h (f ∷ fs) → Room (with_field h f) fs
room-next h f fs free room = record {
  start = subst (λ t. length t ≤ 1)
      (kept-one start_in (λ h. h.start) step-start h f (filter_map start_in fs) free) room.start;
  cancel = subst (λ t. length t ≤ 1) (kept-one cancel_in (λ h. h.cancel) step-cancel h f
      (filter_map cancel_in fs) free) room.cancel;
  submit = subst (λ t. length t ≤ 1) (kept-one submit_in (λ h. h.submit) step-submit h f
      (filter_map submit_in fs) free) room.submit;
  value = subst (λ t. length t ≤ 1)
      (kept-one value_in (λ h. h.value) step-value h f (filter_map value_in fs) free) room.value;
  progress = subst (λ t. length t ≤ 1) (kept-one progress_in (λ h. h.progress) step-progress h f
      (filter_map progress_in fs) free) room.progress;
}

room-allowed : (h : HeldSoFar) (fs : List FieldContents) → Room h fs → Allowed h fs
room-allowed h [] room = tt
room-allowed h (f ∷ fs) room = let free = lacks-free h (tag_of f) (room-lacks h f fs room) in
    (free, room-allowed (with_field h f) fs (room-next h f fs free room))

one-most : {X : Type 0} (o : Option X) → length (at_most_one o) ≤ 1
one-most (Some x) = omega arith
one-most None = omega arith

-- the fields of a board come while their tags are free
pub arranged-allowed : (fs : List FieldContents) (text : List ℕ) (b : BoardContents)
    → Arranged fs text b → Allowed none_held fs
arranged-allowed fs text b a = room-allowed none_held fs (record {
  start = omega (arith, ap length a.start);
  cancel = omega (arith, ap length a.cancel);
  submit = omega (arith, ap length a.submit);
  value = omega (arith, ap length a.value);
  progress = omega (arith, ap length a.progress, one-most b.progress);
})

-- ---- the board of fields

one-some : {X : Type 0} (o : Option X) (x : X) → at_most_one o ≡ x ∷ [] → o ≡ Some x
one-some (Some y) x e = cc e
one-some None x e = absurd (cc e)

one-same : {X : Type 0} (o p : Option X) → at_most_one o ≡ at_most_one p → o ≡ p
one-same (Some x) (Some y) e = cc e
one-same (Some x) None e = absurd (cc e)
one-same None (Some y) e = absurd (cc e)
one-same None None e = refl

-- the fields of a board hold it whole
pub arranged-whole : (fs : List FieldContents) (text : List ℕ) (b : BoardContents) → Arranged fs
    text b → (is_whole (with_fields none_held fs) ≡ true)
    × (board_of (with_fields none_held fs) ≡ b)
arranged-whole fs text b a =
    let allowed = arranged-allowed fs text b a in
    held-board (with_fields none_held fs) b
    (one-some (with_fields none_held fs).start b.start
    (sym (kept start_in (λ h. h.start) step-start none_held fs allowed) ∙ a.start))
    (one-some (with_fields none_held fs).cancel b.cancel
    (sym (kept cancel_in (λ h. h.cancel) step-cancel none_held fs allowed) ∙ a.cancel))
    (one-some (with_fields none_held fs).submit b.submit
    (sym (kept submit_in (λ h. h.submit) step-submit none_held fs allowed) ∙ a.submit))
    (one-some (with_fields none_held fs).value b.value
    (sym (kept value_in (λ h. h.value) step-value none_held fs allowed) ∙ a.value))
    (one-same (with_fields none_held fs).progress b.progress (sym
    (kept progress_in (λ h. h.progress) step-progress none_held fs allowed) ∙ a.progress)) where
      held-board : (h : HeldSoFar) (b : BoardContents) → h.start ≡ Some b.start → h.cancel
          ≡ Some b.cancel → h.submit ≡ Some b.submit → h.value ≡ Some b.value → h.progress
          ≡ b.progress → (is_whole h ≡ true) × (board_of h ≡ b)
      held-board h b start cancel submit value progress =
          (rw (start, cancel, submit, value) refl, rw (start, cancel, submit, value, progress) refl)

both : (a b : Bool) → (a && b) ≡ true → (a ≡ true) × (b ≡ true)
both true b e = (refl, e)
both false b e = absurd (cc e)

some-one : {X : Type 0} (o : Option X) (else_it : X) → is_some o ≡ true → at_most_one o ≡ unwrap_or o else_it ∷ []
some-one (Some x) else_it e = refl
some-one None else_it e = absurd (cc e)

-- fields that hold a whole board are those of the board
pub whole-arranged : (fs : List FieldContents) → Allowed none_held fs → is_whole
    (with_fields none_held fs) ≡ true → Arranged fs [] (board_of (with_fields none_held fs))
whole-arranged fs allowed whole =
    let h = with_fields none_held fs in
    let three = both (is_some h.start && is_some h.cancel && is_some h.submit) (is_some h.value) whole in
    let two = both (is_some h.start && is_some h.cancel) (is_some h.submit) three.0 in
    let one = both (is_some h.start) (is_some h.cancel) two.0 in
    record {
      empty = refl;
      start = kept start_in (λ h. h.start) step-start none_held fs allowed ∙ some-one h.start no_trigger one.0;
      cancel = kept cancel_in (λ h. h.cancel) step-cancel none_held fs allowed ∙ some-one h.cancel no_trigger one.1;
      submit = kept submit_in (λ h. h.submit) step-submit none_held fs allowed ∙ some-one h.submit no_trigger two.1;
      value = kept value_in (λ h. h.value) step-value none_held fs allowed ∙ some-one h.value [] three.1;
      progress = kept progress_in (λ h. h.progress) step-progress none_held fs allowed;
    }

-- ---- what is told of the fields

-- what is seen of a field stands not where the field does not
pub none-seen : {X V : Type 0} (f : X → V) (o : Option X) (none : Bool) → is_some o ≡ not none
    → none ≡ is_none (option_map f o)
none-seen f (Some x) true e = absurd (cc e)
none-seen f (Some x) false e = refl
none-seen f None true e = refl
none-seen f None false e = absurd (cc e)
