-- A group at rest: a frame adds a hit to some conditions at whose hits nothing looks, and changes nothing else:
-- docs/INTERNALS.md, "Rest".
use Rattle.std.specs.Prelude.{◌≡◌, ℕ, ◌+◌, min, Bool, true, false, if◌then◌else◌, not, ◌&&◌, ◌||◌, ◌==◌, List, [], ◌∷◌}
use Rattle.std.specs.Prelude.{length, take, drop, map, slice_index, slice_index_or}
use Rattle.std.specs.List.{list_all, range_with_len}
use Rattle.ra_condition.specs.declared.flag.Flag.{Flag}
use Rattle.ra_condition.specs.declared.flag.Flag.TheVariants.{AddHits, SubHits}
use Rattle.ra_condition.specs.declared.condition.Condition.{Condition}
use Rattle.ra_condition.specs.Flags.{hands_on, is_pause, is_measured}
use Rattle.ra_condition.specs.Contents.{condition_at}
use Rattle.ra_condition.specs.Chains.{in_pause_chain, places}
use Rattle.ra_group.specs.declared.form.Form.{Form}
use Rattle.ra_group.specs.Equations.{Frame, frame_of, met, reset_by, prev_of}
use Rattle.ra_group.specs.Outcome.{from_total, some_valid}

-- the hits of the condition count for the next one of its chain
abbrev pub hands_hits : Flag → Bool
hands_hits AddHits = true
hands_hits SubHits = true
hands_hits _ = false

-- nothing looks at the hits of the condition but a save: it has no target, and no chain and no number takes its hits
abbrev pub is_free : Form → Condition → Bool
is_free form c = (c.target == 0) && (not (hands_hits c.flag) && not (is_measured c.flag && from_total form c))

-- the hits of the condition at j are those of the frame, and not those before it
abbrev pub is_stepped : Frame → ℕ → Bool
is_stepped f j =
    not (hands_on (condition_at f.conditions j).flag)
    && (not (some_valid is_pause f (places f.conditions)) || in_pause_chain f.conditions j)

-- a free condition at j counts a hit at the frame
abbrev pub is_counting : Form → Frame → ℕ → Bool
is_counting form f j =
    is_free form (condition_at f.conditions j) && (is_stepped f j
    && (not (reset_by (prev_of f j)) && met (prev_of f j) (slice_index_or f.truths j false)))

-- hits with n more, at most the greatest number of 32 bits
abbrev pub plus : ℕ → ℕ → ℕ
plus n hits = min (hits + n) 4294967295

-- the hits of the condition at j after n frames like this one, at rest
abbrev pub rested_hit : ℕ → Form → Frame → ℕ → ℕ
rested_hit n form f j = if is_counting form f j then plus n (slice_index f.hits j) else slice_index f.hits j

-- the hits of all conditions after n frames like this one, at rest
abbrev pub rested_hits : ℕ → Form → Frame → List ℕ
rested_hits n form f = map (rested_hit n form f) (places f.conditions)

-- the frame with other hits
abbrev pub with_hits : Frame → List ℕ → Frame
with_hits f hits = frame_of f.conditions f.truths f.lefts hits

-- the hits agree but at free conditions
pub record AgreeButFree (form : Form) (cs : List Condition) (hits hits' : List ℕ) : Type 0 where
  pub at : (j : ℕ) → is_free form (condition_at cs j) ≡ false → slice_index hits j ≡ slice_index hits' j

-- a condition keeps its hits at a frame, or is free and has one more
abbrev pub keeps_or_counts : Form → Condition → (before after : ℕ) → Bool
keeps_or_counts form c before after = (after == before) || (is_free form c && (after == before + 1))

-- each condition of a group does
abbrev pub all_keep : Form → List Condition → (before after : List ℕ) → Bool
all_keep form cs before after =
    list_all (λ j. keeps_or_counts form (condition_at cs j) (slice_index before j) (slice_index after j)) (places cs)

-- each condition of groups side by side does
abbrev pub groups_keep : Form → List (List Condition) → (before after : List ℕ) → Bool
groups_keep form [] before after = true
groups_keep form (cs ∷ groups) before after =
    all_keep form cs (take (length cs) before) (take (length cs) after)
    && groups_keep form groups (drop (length cs) before) (drop (length cs) after)

-- hits with n more where others stood before the frame at which the rest began, at most the greatest number of 32 bits
abbrev pub paid : ℕ → (before hits : List ℕ) → List ℕ
paid n before hits =
    map
    (λ j. if slice_index hits j == slice_index before j then slice_index hits j else plus n (slice_index hits j))
    (range_with_len 0 (length hits))
