-- A frame that shows of a condition what the one before did, in a group without chains.
use Rattle.std.proofs.Common.{◌≡◌, ℕ, zero, suc, ◌+◌, ◌<◌, Bool, false, List, [], ◌∷◌, length, map, get_or, refl, sym}
use Rattle.std.proofs.Common.{ap, ◌∙◌, subst, arith}
use Rattle.ra_condition.specs.declared.condition.Condition.{Condition}
use Rattle.ra_condition.specs.Chains.{in_pause_chain}
use Rattle.ra_condition.specs.Contents.{condition_at, flag_at}
use Rattle.ra_group.specs.Standings.{standing_at}
use Rattle.ra_account.specs.declared.facts.Facts.{Facts}
use Rattle.ra_account.specs.declared.group_account.GroupAccount.{GroupAccount}
use Rattle.ra_account.specs.declared.running.Running.{Running}
use Rattle.ra_account.specs.declared.sight.Sight.{Sight}
use Rattle.ra_account.specs.Alone.{StandAlone, stands_alone}
use Rattle.ra_account.specs.Facts.{facts_by, is_paused, pointer_at, pointer_by, wanted_at, wanted_by}
use Rattle.ra_account.specs.Groups.{AreWantedBy, GroupRow, KeepsLast, no_sight, row_frame, shown, sight_at}
use Rattle.ra_account.specs.Marks.{IsSound}
use Rattle.ra_account.specs.Noting.{FirstIs, PointAlike}
use Rattle.ra_account.specs.Running.{IsRunning, RunsAt}
use Rattle.ra_account.proofs.AloneLemmas.{stands_apart}
use Rattle.ra_account.proofs.RunningLemmas.{again}

-- an account stands for the last frame once more
pub stays_noted : (now : Facts) (earlier : List Facts) (r : Running) → FirstIs now earlier → IsRunning earlier r
    → IsRunning (now ∷ earlier) r
stays_noted now earlier r first known =
    subst (λ (xs : List Facts). IsRunning (now ∷ xs) r) (sym first.is)
    (again now first.others r (subst (λ (xs : List Facts). IsRunning xs r) first.is known))

stays_by : (frames : List Facts) (count : ℕ) (r : Running) → length frames ≡ count → 0 < count → IsRunning frames r
    → IsSound r.account.columns
    → RunsAt (count + 1) r
stays_by [] count r long some known sound = grind arith
stays_by (now ∷ earlier) count r long some known sound = record {
  frames = now ∷ now ∷ earlier;
  long = omega (arith, long);
  running = again now earlier r known;
  sound = sound;
}

-- the same whatever the frames showed
pub stays_at : (count : ℕ) (r : Running) → 0 < count → RunsAt count r → RunsAt (count + 1) r
stays_at count r some stands = stays_by stands.frames count r stands.long some stands.running stands.sound

module _ (cs : List Condition) (row last : GroupRow) (seen : List Sight)
    (kept : (k : ℕ) → k < length cs → get_or seen k no_sight ≡ sight_at last k) (points : PointAlike cs seen row) where
  same_pointer : (j : ℕ) → j < length cs → pointer_at (row_frame cs last) j ≡ pointer_at (row_frame cs row) j
  same_pointer zero below = refl
  same_pointer (suc i) below =
      let within : i < length cs = omega (arith, below) in
      ap (λ (s : Sight). pointer_by (flag_at cs i) s.left) (sym (kept i within)) ∙ points i within

  -- what two frames show of a condition is the same
  pub same_shown : (size j : ℕ) → StandAlone cs → j < length cs → is_paused (row_frame cs last) ≡ is_paused
      (row_frame cs row)
      → get_or seen j no_sight ≡ sight_at row j → shown cs size j last ≡ shown cs size j row
  same_shown size j alone below paused here =
      let same : sight_at last j ≡ sight_at row j = sym (kept j below) ∙ here in
      let stands : standing_at (row_frame cs last) j ≡ standing_at (row_frame cs row) j =
      sym (stands_apart (row_frame cs last) j alone below)
      ∙ ap (λ (s : Sight). stands_alone (condition_at cs j) s.truth s.hits) same
      ∙ stands_apart (row_frame cs row) j alone below in
      let pointer = same_pointer j below in
      (λ i. facts_by (condition_at cs j) (stands i)
      (record { paused = paused i; in_pause_chain = in_pause_chain cs j; pointer = pointer i; size = size })
      ((same i).left) ((same i).right))

-- it is the first of what the frames so far show of it
pub first_shown : (cs : List Condition) (size : ℕ) (row : GroupRow) (earlier : List GroupRow) (g : GroupAccount)
    → StandAlone cs
    → KeepsLast cs earlier g → g.paused ≡ is_paused (row_frame cs row) → PointAlike cs g.seen.items row
    → (j : ℕ) → j < length cs → get_or g.seen.items j no_sight ≡ sight_at row j
    → FirstIs (shown cs size j row) (map (shown cs size j) earlier)
first_shown cs size row [] g alone last paused points j below here = absurd last
first_shown cs size row (before ∷ earlier) g alone last paused points j below here = record {
  others = map (shown cs size j) earlier;
  is = ap (λ x. x ∷ map (shown cs size j) earlier)
      (same_shown cs row before g.seen.items last.seen_too points size j alone below
      (sym last.paused_too ∙ paused) here);
}

-- the same of what is equal
pub wanted_as : (cs : List Condition) (p q : Bool) (xs ys : List Sight) (us vs : List Bool) → p ≡ q → xs ≡ ys → us ≡ vs
    → AreWantedBy cs p xs us → AreWantedBy cs q ys vs
wanted_as cs p q xs ys us vs pauses shows wants known =
    subst (λ (b : Bool). AreWantedBy cs b ys vs) pauses
    (subst (λ (ss : List Sight). AreWantedBy cs p ss vs) shows
    (subst (λ (ws : List Bool). AreWantedBy cs p xs ws) wants known))

-- a frame wants each condition by what it shows of it, where that is told
pub wanted_alone : (cs : List Condition) (row : GroupRow) (paused : Bool) (seen : List Sight) (wants : List Bool)
    → StandAlone cs
    → paused ≡ is_paused (row_frame cs row)
    → ((j : ℕ) → j < length cs → get_or seen j no_sight ≡ sight_at row j)
    → ((j : ℕ) → j < length cs → get_or wants j false ≡ wanted_at (row_frame cs row) j)
    → AreWantedBy cs paused seen wants
wanted_alone cs row paused seen wants alone pauses shows told = λ j below.
    let stands = ap (λ (s : Sight). stands_alone (condition_at cs j) s.truth s.hits) (shows j below)
    ∙ stands_apart (row_frame cs row) j alone below in
    told j below ∙ sym (λ i. wanted_by (flag_at cs j) (pauses i) (stands i).valid)
