-- Which conditions reset or pause their group, and which alts keep their trigger from being valid.
use Rattle.std.proofs.Common.{◌≡◌, ◌∙◌, ℕ, zero, suc, ◌+◌, ◌<◌, ◌==◌, nat_lt, Bool, true, false, not, ◌&&◌, ◌||◌, List}
use Rattle.std.proofs.Common.{[], ◌∷◌, ◌++◌, length, map, slice_index_or, refl, sym, ap, ap₂, arith, append_assoc}
use Rattle.std.proofs.Common.{append-nil}
use Rattle.std.specs.List.{list_any, list_all, range_with_len}
use Rattle.std.proofs.lemmas.Bool.{true≢false, ne_eqb, ltb-true, ltb-false}
use Rattle.std.proofs.lemmas.List.Folds.{list_any-append}
use Rattle.std.proofs.lemmas.List.FromFn.{map-range_with_len_more}
use Rattle.ra_condition.specs.declared.condition.Condition.{Condition}
use Rattle.ra_condition.specs.Contents.{condition_at, flag_at}
use Rattle.ra_condition.specs.Chains.{places}
use Rattle.ra_condition.specs.Flags.{hands_on, combines, is_pause, is_reset}
use Rattle.ra_lint.specs.declared.warning.Place.{Place}
use Rattle.ra_lint.specs.Warnings.{always_at}
use Rattle.ra_notices.specs.declared.notice.Notice.{Notice}
use Rattle.ra_notices.specs.Notices.{has_before, resets, locks, some_in, resets_always, all_lock, group_notices}
use Rattle.ra_notices.specs.Notices.{notices_from}
use Rattle.ra_notices.specs.Noticing.{may_lock, may_lock_after, before_next, locks_at}
use Rattle.ra_notices.proofs.PassLemmas.{next_place, test_there}

-- ---- conditions

or_false : (b : Bool) → (b || false) ≡ b
or_false true = refl
or_false false = refl

-- whether some place so far passes a test, with one place more
any_more : (test : ℕ → Bool) (place : ℕ) → list_any test (range_with_len 0 (place + 1))
    ≡ (list_any test (range_with_len 0 place) || test place)
any_more test place =
    ap (list_any test) (next_place place) ∙ list_any-append test (range_with_len 0 place) (place ∷ [])
    ∙ ap (λ b. list_any test (range_with_len 0 place) || b) (or_false (test place))

or_left : (a b : Bool) → (a || b) ≡ false → a ≡ false
or_left true b e = e
or_left false b e = refl

or_right : (a b : Bool) → (a || b) ≡ false → b ≡ false
or_right true b e = absurd (true≢false e)
or_right false b e = e

-- one condition more
pub may_more : (cs : List Condition) (place : ℕ) (c : Condition) (before : Bool) (may may' : List Bool) (next : Bool)
    → c ≡ condition_at cs place → (may ≡ map (may_lock cs) (range_with_len 0 place)) × (before ≡ has_before cs place)
    → may' ≡ may ++ may_lock_after c before ∷ [] → next ≡ before_next c before
    → (may' ≡ map (may_lock cs) (range_with_len 0 (place + 1))) × (next ≡ has_before cs (place + 1))
may_more cs place c before may may' next is_c so_far put is_next = (
  put ∙ (λ i. so_far.0 i ++ may_lock_after (is_c i) (so_far.1 i) ∷ [])
      ∙ sym (map-range_with_len_more (may_lock cs) 0 place place (omega arith)),
  is_next ∙ (λ i. before_next (is_c i) (so_far.1 i))
      ∙ (let e : suc place ≡ place + 1 = omega arith in ap (has_before cs) e),
)

may_then_always : (r p t b a : Bool) → ((((r || p) && t) && b) && a)
    ≡ ((r && ((t && b) && a)) || (p && ((t && b) && a)))
may_then_always true true true true true = refl
may_then_always true true true true false = refl
may_then_always true true true false a = refl
may_then_always true true false b a = refl
may_then_always true false true true true = refl
may_then_always true false true true false = refl
may_then_always true false true false a = refl
may_then_always true false false b a = refl
may_then_always false true t b a = refl
may_then_always false false t b a = refl

may_not : (r p t b a : Bool) → (((r || p) && t) && b) ≡ false
    → ((r && ((t && b) && a)) || (p && ((t && b) && a))) ≡ false
may_not r p t b a e = sym (may_then_always r p t b a) ∙ ap (λ x. x && a) e

-- the same of whether some condition so far may lock
pub some_more : (cs : List Condition) (place : ℕ) (c : Condition) (before some some' next : Bool)
    → c ≡ condition_at cs place → (some ≡ list_any (may_lock cs) (range_with_len 0 place))
    × (before ≡ has_before cs place)
    → some' ≡ (some || may_lock_after c before) → next ≡ before_next c before
    → (some' ≡ list_any (may_lock cs) (range_with_len 0 (place + 1))) × (next ≡ has_before cs (place + 1))
some_more cs place c before some some' next is_c so_far is_some is_next = (
  is_some ∙ (λ i. so_far.0 i || may_lock_after (is_c i) (so_far.1 i)) ∙ sym (any_more (may_lock cs) place),
  is_next ∙ (λ i. before_next (is_c i) (so_far.1 i))
      ∙ (let e : suc place ≡ place + 1 = omega arith in ap (has_before cs) e),
)

-- where none of the first places may lock, none of them does
pub none_lock : (cs : List Condition) (n : ℕ) → list_any (may_lock cs) (range_with_len 0 n) ≡ false
    → (j : ℕ) → j < n → false ≡ locks_at cs j
none_lock cs zero e j less = absurd (omega (arith, less))
none_lock cs (suc n) e j less = by_last (none_lock cs n) (nat_lt j n) refl
  where
    n_more : suc n ≡ n + 1
    n_more = omega arith

    parts : (list_any (may_lock cs) (range_with_len 0 n) || may_lock cs n) ≡ false
    parts = sym (any_more (may_lock cs) n) ∙ ap (λ k. list_any (may_lock cs) (range_with_len 0 k)) (sym n_more) ∙ e

    by_last : (list_any (may_lock cs) (range_with_len 0 n) ≡ false → (i : ℕ) → i < n → false ≡ locks_at cs i)
        → (before : Bool) → nat_lt j n ≡ before → false ≡ locks_at cs j
    by_last each true is = each (or_left (list_any (may_lock cs) (range_with_len 0 n))
        (may_lock cs n) parts) j (ltb-true j n is)
    by_last each false is =
        let last : n ≡ j = omega (arith, less, ltb-false j n is) in
        sym (ap (locks_at cs) (sym last)
        ∙ may_not (is_reset (flag_at cs n)) (is_pause (flag_at cs n))
        ((condition_at cs n).target == 0) (not (has_before cs n)) (always_at cs n)
        (or_right (list_any (may_lock cs) (range_with_len 0 n)) (may_lock cs n) parts))

-- functions that agree below a number
map_below : {X : Type 0} (f g : ℕ → X) (n : ℕ) → ((j : ℕ) → j < n → f j ≡ g j)
    → map f (range_with_len 0 n) ≡ map g (range_with_len 0 n)
map_below f g zero each = refl
map_below f g (suc n) each =
    let e : suc n ≡ n + 1 = omega arith in
    ap (λ k. map f (range_with_len 0 k)) e ∙ map-range_with_len_more f 0 n n (omega arith)
    ∙ ap₂ (λ xs x. xs ++ x ∷ []) (map_below f g n (λ j less. each j (omega arith))) (each n (omega arith))
    ∙ sym (ap (λ k. map g (range_with_len 0 k)) e ∙ map-range_with_len_more g 0 n n (omega arith))

-- what may lock and always holds locks
pub both_lock : (cs : List Condition) (may always : List Bool) (n : ℕ) → n ≡ length cs → may
    ≡ map (may_lock cs) (places cs) → always ≡ map (always_at cs) (places cs)
    → map (λ j. slice_index_or may j false && slice_index_or always j false) (range_with_len 0 n)
    ≡ map (locks_at cs) (places cs)
both_lock cs may always n many is_may is_always =
    ap (λ k. map (λ j. slice_index_or may j false && slice_index_or always j false) (range_with_len 0 k)) many
    ∙ map_below (λ j. slice_index_or may j false && slice_index_or always j false) (locks_at cs) (length cs)
    (λ j within. ap₂ (λ a b. a && b) (test_there (may_lock cs) cs may j false is_may within)
    (test_there (always_at cs) cs always j false is_always within)
    ∙ may_then_always (is_reset (flag_at cs j)) (is_pause (flag_at cs j))
    ((condition_at cs j).target == 0) (not (has_before cs j)) (always_at cs j))

-- ---- alts

all_locks : (alts : List (List Condition)) → all_lock alts ≡ (not (length alts == 0) && list_all locks alts)
all_locks [] = refl
all_locks (cs ∷ alts) =
    let some : (length (cs ∷ alts) == 0) ≡ false = ne_eqb (length (cs ∷ alts)) 0 (λ e. omega (arith, e)) in
    ap (λ b. not b && list_all locks (cs ∷ alts)) (sym some)

or_assoc : (a b c : Bool) → ((a || b) || c) ≡ (a || (b || c))
or_assoc true b c = refl
or_assoc false b c = refl

and_assoc : (a b c : Bool) → ((a && b) && c) ≡ (a && (b && c))
and_assoc true b c = refl
and_assoc false b c = refl

and_true : (b : Bool) → (b && true) ≡ b
and_true true = refl
and_true false = refl

-- what was put for alts, and what they do, as far as these are left
pub record AltsLeft (place : Place) (alts rest : List (List Condition)) (group : ℕ)
    (start found : List Notice) (resets all : Bool) : Type 0 where
  pub found_too : start ++ notices_from place 1 alts ≡ found ++ notices_from place group rest
  pub resets_too : list_any resets_always alts ≡ (resets || list_any resets_always rest)
  pub all_too : all_lock alts ≡ (all && list_all locks rest)

pub alts_all : (place : Place) (alts : List (List Condition)) (start : List Notice) (all : Bool)
    → all ≡ not (length alts == 0) → AltsLeft place alts alts 1 start start false all
alts_all place alts start all is = record {
  found_too = refl;
  resets_too = refl;
  all_too = all_locks alts ∙ ap (λ b. b && list_all locks alts) (sym is);
}

pub alts_next : (place : Place) (alts rest others : List (List Condition)) (cs : List Condition)
    (group : ℕ) (start found found' : List Notice) (r r' a a' : Bool)
    → rest ≡ cs ∷ others → found' ≡ found ++ group_notices place group cs → r'
    ≡ (r || resets_always cs) → a' ≡ (a && locks cs)
    → AltsLeft place alts rest group start found r a → AltsLeft place alts others (suc group) start found' r' a'
alts_next place alts rest others cs group start found found' r r' a a' is put is_r is_a left = record {
  found_too = left.found_too ∙ ap (λ gs. found ++ notices_from place group gs) is
      ∙ sym (append_assoc found (group_notices place group cs) (notices_from place (suc group) others))
      ∙ ap (λ ns. ns ++ notices_from place (suc group) others) (sym put);
  resets_too = left.resets_too ∙ ap (λ gs. r || list_any resets_always gs) is
      ∙ sym (or_assoc r (resets_always cs) (list_any resets_always others))
      ∙ ap (λ b. b || list_any resets_always others) (sym is_r);
  all_too = left.all_too ∙ ap (λ gs. a && list_all locks gs) is
      ∙ sym (and_assoc a (locks cs) (list_all locks others)) ∙ ap (λ b. b && list_all locks others) (sym is_a);
}

pub alts_done : (place : Place) (alts rest : List (List Condition)) (group : ℕ)
    (start found : List Notice) (r a : Bool) → rest ≡ []
    → AltsLeft place alts rest group start found r a → (found ≡ start ++ notices_from place 1 alts)
    × ((r || a) ≡ (list_any resets_always alts || all_lock alts))
alts_done place alts rest group start found r a is left = (
  sym (left.found_too ∙ ap (λ gs. found ++ notices_from place group gs) is ∙ append-nil found),
  sym (ap₂ (λ x y. x || y) (left.resets_too ∙ ap (λ gs. r || list_any resets_always gs) is ∙ or_false r)
      (left.all_too ∙ ap (λ gs. a && list_all locks gs) is ∙ and_true a)),
)
