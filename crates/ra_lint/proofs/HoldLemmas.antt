-- Each warning of the list holds.
use Rattle.std.proofs.Common.{◌≡◌, ℕ, suc, ◌+◌, Bool, true, false, cond, None, Some, List, [], ◌∷◌, ◌++◌, map, get_or}
use Rattle.std.proofs.Common.{refl, sym, ap, ◌∙◌, All, arith}
use Rattle.std.specs.List.{AllByRecursion, flat_map}
use Rattle.ra_condition.specs.declared.condition.Condition.{Condition}
use Rattle.ra_condition.specs.Contents.{TriggerContents, groups_of, flag_at}
use Rattle.ra_condition.specs.Chains.{places}
use Rattle.ra_condition.specs.Flags.{hands_on}
use Rattle.ra_condition.specs.Spelled.{IsTrigger}
use Rattle.ra_leaderboard.specs.Contents.{BoardContents}
use Rattle.ra_leaderboard.specs.Spelled.{IsBoard}
use Rattle.ra_set.specs.Contents.{ItemContents, Unlocks, Ranks, SetContents}
use Rattle.ra_set.specs.Spelled.{IsItem}
use Rattle.ra_lint.specs.declared.warning.Warning.{Warning}
use Rattle.ra_lint.specs.declared.warning.Place.{Place}
use Rattle.ra_lint.specs.declared.warning.Place.TheVariants.{Trigger, Start, Cancel, Submit}
use Rattle.ra_lint.specs.declared.warning.Word.{Word}
use Rattle.ra_lint.specs.declared.warning.Word.TheVariants.{Never, Always, Unreachable, NoUnlock, NoStart}
use Rattle.ra_lint.specs.Warnings.{never_at, always_at, is_unreachable, is_dead_trigger, warning, where_so}
use Rattle.ra_lint.specs.Warnings.{condition_warnings, group_warnings, warnings_from, trigger_warnings, board_warnings}
use Rattle.ra_lint.specs.Warnings.{item_warnings, warnings_on, warnings_of}
use Rattle.ra_lint.specs.Laws.{group_at, Says, trigger_at, Holds}
use Rattle.ra_lint.proofs.SoundLemmas.{sound}

both : {X : Type 0} (P : X → Type 0) (xs ys : List X) → AllByRecursion P xs → AllByRecursion P ys
    → AllByRecursion P (xs ++ ys)
both P [] ys all all' = all'
both P (x ∷ xs) ys all all' = (all.0, both P xs ys all.1 all')

module _ (items : List ItemContents) where
  abbrev AllHold : List Warning → Type 0
  AllHold ws = AllByRecursion (Holds items) ws

  on_where : (so : Bool) (w : Warning) → (so ≡ true → Holds items w) → AllHold (where_so so w)
  on_where true w holds = (holds refl, tt)
  on_where false w holds = tt

  module _ (number : ℕ) (x : ItemContents) (there : get_or (map Some items) number None ≡ Some x) where
    module _ (place : Place) (t : TriggerContents) (placed : trigger_at place x ≡ Some t) (is : IsTrigger t) where
      -- what is said of the trigger at the place holds
      on_word : (group j : ℕ) (word : Word) → Says place t group j word
          → Holds items (warning number place group j word)
      on_word group j word says = record { item = x; there = there; trigger = t; placed = placed; says = says }

      on_condition : (group : ℕ) (cs : List Condition) → group_at t group ≡ cs → (j : ℕ)
          → AllHold (condition_warnings number place group cs j)
      on_condition group cs same j = by_flag (hands_on (flag_at cs j))
        where
          never : List Warning
          never = where_so (never_at cs j) (warning number place group j Never)

          always : List Warning
          always = where_so (always_at cs j) (warning number place group j Always)

          unreachable : List Warning
          unreachable = where_so (is_unreachable cs j) (warning number place group j Unreachable)

          never_too : AllHold never
          never_too =
              on_where (never_at cs j) (warning number place group j Never)
              (λ e. on_word group j Never ((sound place t is).never group j (ap (λ g. never_at g j) same ∙ e)))

          always_too : AllHold always
          always_too =
              on_where (always_at cs j) (warning number place group j Always)
              (λ e. on_word group j Always ((sound place t is).always group j (ap (λ g. always_at g j) same ∙ e)))

          unreachable_too : AllHold unreachable
          unreachable_too =
              on_where (is_unreachable cs j) (warning number place group j Unreachable)
              (λ e. on_word group j Unreachable
              ((sound place t is).unreachable group j (ap (λ g. is_unreachable g j) same ∙ e)))

          by_flag : (h : Bool) → AllHold (cond h [] (never ++ always ++ unreachable))
          by_flag true = tt
          by_flag false =
              both (Holds items) (never ++ always) unreachable (both (Holds items) never always never_too always_too)
              unreachable_too

      on_conditions : (group : ℕ) (cs : List Condition) → group_at t group ≡ cs → (js : List ℕ)
          → AllHold (flat_map (condition_warnings number place group cs) js)
      on_conditions group cs same [] = tt
      on_conditions group cs same (j ∷ js) =
          both (Holds items) (condition_warnings number place group cs j)
          (flat_map (condition_warnings number place group cs) js)
          (on_condition group cs same j) (on_conditions group cs same js)

      on_groups : (group : ℕ) (groups : List (List Condition))
          → ((k : ℕ) → group_at t (group + k) ≡ get_or groups k []) → AllHold (warnings_from number place group groups)
      on_groups group [] same = tt
      on_groups group (cs ∷ groups) same =
          let here : group + 0 ≡ group = omega arith in
          both (Holds items) (group_warnings number place group cs) (warnings_from number place (suc group) groups)
          (on_conditions group cs (sym (ap (group_at t) here) ∙ same 0) (places cs))
          (on_groups (suc group) groups (λ k. let next : suc group + k ≡ group + suc k = omega arith in
          ap (group_at t) next ∙ same (suc k)))

      on_trigger : AllHold (trigger_warnings number place t)
      on_trigger = on_groups 0 (groups_of t) (λ k. let here : 0 + k ≡ k = omega arith in ap (group_at t) here)

    on_board : (b : BoardContents) → IsBoard b → trigger_at Start x ≡ Some b.start
        → trigger_at Cancel x ≡ Some b.cancel → trigger_at Submit x ≡ Some b.submit → AllHold (board_warnings number b)
    on_board b is start cancel submit =
        let of_start = trigger_warnings number Start b.start in
        let of_cancel = trigger_warnings number Cancel b.cancel in
        let of_submit = trigger_warnings number Submit b.submit in
        let own = where_so (is_dead_trigger b.start) (warning number Start 0 0 NoStart) in
        let first = both (Holds items) of_start of_cancel (on_trigger Start b.start start is.start)
        (on_trigger Cancel b.cancel cancel is.cancel) in
        let second = both (Holds items) (of_start ++ of_cancel) of_submit first
        (on_trigger Submit b.submit submit is.submit) in
        both (Holds items) (of_start ++ of_cancel ++ of_submit) own second
        (on_where (is_dead_trigger b.start) (warning number Start 0 0 NoStart)
        (λ e. on_word Start b.start start is.start 0 0 NoStart ((sound Start b.start is.start).no_start e)))

  on_item : (number : ℕ) (x : ItemContents) → get_or (map Some items) number None ≡ Some x → IsItem x
      → AllHold (item_warnings number x)
  on_item number (Unlocks id t) there is =
      both (Holds items) (trigger_warnings number Trigger t)
      (where_so (is_dead_trigger t) (warning number Trigger 0 0 NoUnlock))
      (on_trigger number (Unlocks id t) there Trigger t refl is)
      (on_where (is_dead_trigger t) (warning number Trigger 0 0 NoUnlock)
      (λ e. on_word number (Unlocks id t) there Trigger t refl is 0 0 NoUnlock ((sound Trigger t is).no_unlock e)))
  on_item number (Ranks id format b) there is = on_board number (Ranks id format b) there b is.0 refl refl refl

  on_items : (number : ℕ) (rest : List ItemContents)
      → ((k : ℕ) → get_or (map Some items) (number + k) None ≡ get_or (map Some rest) k None) → All IsItem rest
      → AllHold (warnings_on number rest)
  on_items number [] same is = tt
  on_items number (x ∷ rest) same is =
      let here : number + 0 ≡ number = omega arith in
      both (Holds items) (item_warnings number x) (warnings_on (suc number) rest)
      (on_item number x (sym (ap (λ n. get_or (map Some items) n None) here) ∙ same 0) (is 0 x (omega arith)))
      (on_items (suc number) rest (λ k. let next : suc number + k ≡ number + suc k = omega arith in
      ap (λ n. get_or (map Some items) n None) next ∙ same (suc k))
      (λ i d below. is (suc i) d (omega (arith, below))))

-- each warning on a set holds
pub all_hold : (set : SetContents) → All IsItem set.items → AllByRecursion (Holds set.items) (warnings_of set)
all_hold set is = on_items set.items 0 set.items (λ k. let here : 0 + k ≡ k = omega arith in
    ap (λ n. get_or (map Some set.items) n None) here) is
