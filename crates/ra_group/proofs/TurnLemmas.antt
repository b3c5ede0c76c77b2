-- One turn of the pass, by what its calls ensure.
use Rattle.std.proofs.Common.{◌≡◌, ◌≢◌, ℕ, ◌+◌, ◌^◌, ◌<◌, ◌≤◌, Bool, true, false, ◌&&◌, cond, leb, Option, None, Some}
use Rattle.std.proofs.Common.{List, [], ◌∷◌, ◌++◌, length, get_or, set, take, slice_index, slice_index_or, ◌⊎◌, refl}
use Rattle.std.proofs.Common.{sym, ap, ◌∙◌, subst, inl, inr, arith, get_or-set_same, get_or-set_other}
use Rattle.std.proofs.lemmas.List.{take_more, set-get_or}
use Rattle.std.proofs.lemmas.Bool.{cases_lt, lt-leb, le-leb}
use Rattle.ra_condition.specs.declared.condition.Condition.{Condition}
use Rattle.ra_condition.specs.Flags.{combines, hands_on, is_pause}
use Rattle.ra_condition.specs.Contents.{condition_at, flag_at}
use Rattle.ra_condition.specs.Chains.{in_pause_chain, places, pass_order}
use Rattle.ra_condition.proofs.OrderLemmas.{pausing}
use Rattle.ra_group.specs.declared.form.Form.{Form}
use Rattle.ra_group.specs.declared.settled.Settled.{Settled}
use Rattle.ra_group.specs.declared.tally.Tally.{Tally}
use Rattle.ra_group.specs.Equations.{Frame, settled, settled_at, seen_after}
use Rattle.ra_group.specs.Outcome.{some_valid, next_hit}
use Rattle.ra_group.specs.Tallies.{noted}
use Rattle.ra_group.specs.Bounds.{AddWithin}
use Rattle.ra_group.proofs.BoundsLemmas.{AddWithin-prev_of}
use Rattle.ra_group.proofs.Turns.{Turn, LateTurn, turn_early, turn_late}
use Rattle.ra_group.proofs.Carried.{combines_handed, seen_after_handed, seen_after_counted}
use Rattle.ra_group.proofs.TallyLemmas.{noted_combining}
use Rattle.ra_group.proofs.PassLemmas.{HasPassed, passed_handed, passed_counted, settled-turn, old_hits, next_hit_early}
use Rattle.ra_group.proofs.PassLemmas.{next_hit_late}

module _ (form : Form) (f : Frame) (order : List ℕ) (k : ℕ) (passes : order
    ≡ pass_order f.conditions) (within : k < length order) where
  in_order : k < length (pass_order f.conditions)
  in_order = omega (arith, ap length passes)

  at_order : get_or order k 0 ≡ get_or (pass_order f.conditions) k 0
  at_order = ap (λ xs. get_or xs k 0) passes

  front : take k (pass_order f.conditions) ≡ take k order
  front = sym (ap (take k) passes)

  -- the turn comes within the pause chains, or after them
  pub each_turn : ((k < length (pausing f.conditions)) × (Turn f (take k order) (get_or order k 0))
      × (in_pause_chain f.conditions (get_or order k 0) ≡ true))
      ⊎ ((length (pausing f.conditions) ≤ k) × LateTurn f (take k order) (get_or order k 0))
  each_turn =
      elim (cases_lt k (length (pausing f.conditions))) [
        | inl early ↦
            let t = turn_early f k (get_or order k 0) early at_order in
            inl (early, subst (λ (js : List ℕ). Turn f js (get_or order k 0)) front t.0, t.1)
        | inr late ↦
            inr (
              late,
              subst (λ (js : List ℕ). LateTurn f js (get_or order k 0)) front
                  (turn_late f k (get_or order k 0) late in_order at_order),
            )
      ]

  pub any_turn : Turn f (take k order) (get_or order k 0)
  any_turn = elim each_turn [ inl early ↦ early.1 | inr late ↦ late.1.turn ]

  one_more : take k order ++ get_or order k 0 ∷ [] ≡ take (k + 1) order
  one_more = sym (take_more order k 0 within)

  -- a condition that only hands a value on is passed over
  pub turn_handed : (before : Option Settled) (tally : Tally) (hits : List ℕ)
      → hands_on (flag_at f.conditions (get_or order k 0)) ≡ true → HasPassed form f
      (take k order) before tally hits → HasPassed form f (take (k + 1) order) before tally hits
  turn_handed before tally hits h p =
      subst (λ (js : List ℕ). HasPassed form f js before tally hits) one_more
      (passed_handed form f (take k order) (get_or order k 0) before tally hits any_turn h p)

  -- what settling the condition asks
  pub turn_bound : (before : Option Settled) (tally : Tally) (hits : List ℕ)
      → ((j : ℕ) → slice_index f.hits j < 2 ^ 32) → get_or order k 0 < 2 ^ 32
      → HasPassed form f (take k order) before tally hits → AddWithin (2 ^ 65) before
  turn_bound before tally hits small fits p =
      subst (λ (b : Option Settled). AddWithin (2 ^ 65) b) (sym (p.carries ∙ any_turn.before))
      (AddWithin-prev_of f small (get_or order k 0) fits)

  and_false : (b : Bool) → (b && false) ≡ false
  and_false true = refl
  and_false false = refl

  and_true : (b : Bool) → (b && true) ≡ b
  and_true true = refl
  and_true false = refl

  -- the hits that the turn leaves at its place are the next ones
  hits_here : (before : Option Settled) (tally : Tally) (hits hits' : List ℕ) (here : Settled)
      (frozen : Bool) → length hits ≡ length f.conditions → hands_on (flag_at f.conditions
      (get_or order k 0)) ≡ false → here ≡ settled_at f (get_or order k 0) → frozen ≡ (tally.paused
      && leb (length (pausing f.conditions)) k) → hits' ≡ cond frozen hits (set hits (get_or order k
      0) here.hit) → HasPassed form f (take k order) before tally hits → get_or hits' (get_or order
      k 0) 0 ≡ next_hit f (get_or order k 0)
  hits_here before tally hits hits' here frozen long h is_here is_frozen is_hits p =
      elim each_turn [
        | inl early ↦
            let open_here : frozen ≡ false = is_frozen ∙ ap (λ b. tally.paused && b)
            (lt-leb (length (pausing f.conditions)) k early.0) ∙ and_false tally.paused in
            ap (λ xs. get_or xs i 0) (is_hits ∙ ap (λ b. cond b hits (set hits i here.hit)) open_here)
            ∙ get_or-set_same hits i here.hit 0 (omega (arith, early.1.below))
            ∙ ap (λ s. s.hit) is_here
            ∙ sym (next_hit_early f i h early.2)
        | inr late ↦
            let is_paused : frozen ≡ some_valid is_pause f (places f.conditions) =
            is_frozen ∙ ap (λ b. tally.paused && b) (le-leb (length (pausing f.conditions)) k
            late.0) ∙ and_true tally.paused ∙ ap (λ t. t.paused) p.tallied ∙ late.1.known in
            ap (λ xs. get_or xs i 0) is_hits
            ∙ either frozen (omega (arith, late.1.turn.below))
            ∙ ap (λ b. cond b (get_or hits i 0) here.hit) is_paused
            ∙ ap (λ n. cond (some_valid is_pause f (places f.conditions)) n here.hit)
            (old_hits f (take k order) hits i p.written late.1.turn.fresh)
            ∙ ap (λ s. cond (some_valid is_pause f (places f.conditions)) (get_or f.hits i 0) s.hit) is_here
            ∙ sym (next_hit_late f i h late.1.outside)
      ]
    where
      i : ℕ
      i = get_or order k 0

      either : (b : Bool) → i < length hits → get_or (cond b hits (set hits i here.hit)) i 0
          ≡ cond b (get_or hits i 0) here.hit
      either true l = refl
      either false l = get_or-set_same hits i here.hit 0 l

  hits_there : (hits : List ℕ) (i hit : ℕ) (frozen : Bool) (j : ℕ) → j ≢ i
      → get_or (cond frozen hits (set hits i hit)) j 0 ≡ get_or hits j 0
  hits_there hits i hit true j other = refl
  hits_there hits i hit false j other = get_or-set_other hits i j hit 0 other

  -- any other condition is settled, noted and written
  pub turn_counted : (before before' : Option Settled) (tally tally' : Tally) (hits hits' : List ℕ)
      (here : Settled) (frozen : Bool) → length hits ≡ length f.conditions → hands_on (flag_at
      f.conditions (get_or order k 0)) ≡ false → here ≡ settled (condition_at f.conditions
      (get_or order k 0)) (slice_index_or f.truths (get_or order k 0) false) (slice_index hits
      (get_or order k 0)) before → frozen ≡ (tally.paused && leb (length (pausing f.conditions)) k)
      → tally' ≡ noted form (condition_at f.conditions (get_or order k 0)) here (slice_index f.lefts
      (get_or order k 0)) tally → hits' ≡ cond frozen hits (set hits (get_or order k 0) here.hit)
      → before' ≡ cond (combines here.flag) (Some here) None → HasPassed form f (take k order)
      before tally hits → HasPassed form f (take (k + 1) order) before' tally' hits'
  turn_counted before before' tally tally' hits hits' here frozen long h is_here is_frozen is_tally
      is_hits is_before p =
      let i = get_or order k 0 in
      let settles : here ≡ settled_at f i =
      is_here ∙ settled-turn form f (take k order) i before tally hits any_turn p in
      let next = hits_here before tally hits hits' here frozen long h settles is_frozen is_hits p in
      let others : (j : ℕ) → j ≢ i → get_or hits' j 0 ≡ get_or hits j 0 =
      λ j other. ap (λ xs. get_or xs j 0) is_hits ∙ hits_there hits i here.hit frozen j other in
      let done = passed_counted form f (take k order) i before tally hits hits' any_turn h p next others in
      let carries = sym (is_before ∙ ap (λ s. cond (combines s.flag) (Some s) None) settles) in
      let tallies = sym (is_tally ∙ ap
      (λ s. noted form (condition_at f.conditions i) s (slice_index f.lefts i) tally) settles) in
      subst (λ (js : List ℕ). HasPassed form f js before' tally' hits') one_more
      (subst (λ (t : Tally). HasPassed form f (take k order ++ i ∷ []) before' t hits') tallies
      (subst (λ (b : Option Settled). HasPassed form f (take k order ++ i ∷ []) b
      (noted form (condition_at f.conditions i) (settled_at f i) (slice_index f.lefts i) tally)
      hits') carries done))

-- one condition is visited at its place, and its hits are written where they do not stay
pub record IsVisited (form : Form) (f : Frame) (i : ℕ) (stays : Bool)
    (before before' : Option Settled) (tally tally' : Tally) (hits hits' : List ℕ) : Type 0 where
  pub carries : before' ≡ seen_after (condition_at f.conditions i) (settled (condition_at
      f.conditions i) (slice_index_or f.truths i false) (slice_index hits i) before) before
  pub tallies : tally' ≡ noted form (condition_at f.conditions i)
      (settled (condition_at f.conditions i) (slice_index_or f.truths i false)
      (slice_index hits i) before) (slice_index f.lefts i) tally
  pub writes : hits' ≡ cond stays hits (set hits i
      (cond (hands_on (flag_at f.conditions i)) (get_or hits i 0) (settled (condition_at
      f.conditions i) (slice_index_or f.truths i false) (slice_index hits i) before).hit))

-- the pass has come one turn further
pub turn_visited : (form : Form) (f : Frame) (order : List ℕ) (k : ℕ) (passes : order ≡ pass_order
    f.conditions) (within : k < length order) (stays : Bool) (before before' : Option Settled)
    (tally tally' : Tally) (hits hits' : List ℕ) → length hits ≡ length f.conditions → stays
    ≡ (tally.paused && leb (length (pausing f.conditions)) k) → IsVisited form f (get_or order k 0)
    stays before before' tally tally' hits hits' → HasPassed form f (take k order) before tally hits
    → HasPassed form f (take (k + 1) order) before' tally' hits'
turn_visited form f order k passes within stays before before' tally tally' hits hits' long is_stays
    v p = by_handing (hands_on (flag_at f.conditions i)) refl
  where
    i : ℕ
    i = get_or order k 0

    c : Condition
    c = condition_at f.conditions i

    here : Settled
    here = settled c (slice_index_or f.truths i false) (slice_index hits i) before

    same_hits : (b : Bool) → cond b hits (set hits i (get_or hits i 0)) ≡ hits
    same_hits true = refl
    same_hits false = set-get_or hits i 0

    by_handing : (h : Bool) → hands_on (flag_at f.conditions i) ≡ h
        → HasPassed form f (take (k + 1) order) before' tally' hits'
    by_handing true h =
        let carries : before ≡ before' = sym (v.carries ∙ seen_after_handed c here before h) in
        let tallies : tally ≡ tally' = sym (v.tallies ∙ noted_combining form c here
        (slice_index f.lefts i) tally (combines_handed (flag_at f.conditions i) h)) in
        let writes : hits ≡ hits' = sym (v.writes ∙ ap (λ b. cond stays hits
        (set hits i (cond b (get_or hits i 0) here.hit))) h ∙ same_hits stays) in
        subst (λ (b : Option Settled). HasPassed form f (take (k + 1) order) b tally' hits') carries
        (subst (λ (t : Tally). HasPassed form f (take (k + 1) order) before t hits') tallies
        (subst (λ (hs : List ℕ). HasPassed form f (take (k + 1) order) before tally hs) writes
        (turn_handed form f order k passes within before tally hits h p)))
    by_handing false h =
        let writes : hits' ≡ cond stays hits (set hits i here.hit) =
        v.writes ∙ ap (λ b. cond stays hits (set hits i (cond b (get_or hits i 0) here.hit))) h in
        turn_counted form f order k passes within before before' tally tally' hits hits' here stays
        long h refl is_stays v.tallies writes (v.carries ∙ seen_after_counted c here before h) p
