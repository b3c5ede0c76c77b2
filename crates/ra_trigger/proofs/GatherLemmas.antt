-- What the core and the alts so far say together, alt by alt.
use Rattle.std.proofs.Common.{◌≡◌, ℕ, Bool, true, not, ◌&&◌, ◌||◌, Option, List, [], ◌∷◌, ◌++◌, refl, sym, ap, ◌∙◌}
use Rattle.std.specs.List.{list_any, list_all}
use Rattle.std.proofs.Math.Bool.{or-false, and-true}
use Rattle.ra_group.specs.declared.outcome.Outcome.{Outcome}
use Rattle.ra_group.specs.Outcome.{larger}
use Rattle.ra_group.proofs.TallyLemmas.{any_push, all_push, larger_none, larger_assoc}
use Rattle.ra_trigger.specs.declared.gathered.Gathered.{Gathered}
use Rattle.ra_trigger.specs.Steps.{core_and_some, core_or_all, greatest_of}
use Rattle.ra_trigger.specs.Gathering.{are_there, gathered_of, added}

there_push : (os : List Outcome) (o : Outcome) → are_there (os ++ o ∷ []) ≡ true
there_push [] o = refl
there_push (p ∷ os) o = refl

greatest_push : (os : List Outcome) (o : Outcome) → greatest_of (os ++ o ∷ []) ≡ larger (greatest_of os) o.measured
greatest_push [] o = larger_none o.measured
greatest_push (p ∷ os) o = ap (larger p.measured) (greatest_push os o)
    ∙ sym (larger_assoc p.measured (greatest_of os) o.measured)

abbrev gathering : Outcome → (reset from_hits : Bool) → Option ℕ
    → (alts some_valid some_primed all_paused : Bool) → Gathered
gathering core reset from_hits measured alts some_valid some_primed all_paused =
    record {
      core = core;
      reset = reset;
      from_hits = from_hits;
      measured = measured;
      alts = alts;
      some_valid = some_valid;
      some_primed = some_primed;
      all_paused = all_paused;
    }

same_gathering : {core : Outcome} {a b d e g h a' b' d' e' g' h' : Bool} {m m' : Option ℕ} → a ≡ a'
    → b ≡ b' → m ≡ m' → d ≡ d' → e ≡ e' → g ≡ g' → h ≡ h' → gathering core a b m d e g h
    ≡ gathering core a' b' m' d' e' g' h'
same_gathering p q r t u v w = cc

-- one alt more
pub gathered_of-push : (core : Outcome) (os : List Outcome) (o : Outcome)
    → gathered_of core (os ++ o ∷ []) ≡ added o (gathered_of core os)
gathered_of-push core os o =
    same_gathering
    (any_push (λ p. p.reset) (core ∷ os) o)
    (any_push (λ p. p.from_hits) (core ∷ os) o)
    (greatest_push (core ∷ os) o)
    (there_push os o)
    (any_push (λ p. p.valid) os o)
    (any_push (λ p. p.primed) os o)
    (all_push (λ p. p.paused) os o)

-- the core has it, and some alt where there are alts
pub core_and_some-gathered : (has : Outcome → Bool) (core : Outcome) (os : List Outcome)
    → core_and_some has (core ∷ os) ≡ (has core && (not (are_there os) || list_any has os))
core_and_some-gathered has core [] = sym (and-true (has core))
core_and_some-gathered has core (o ∷ os) = refl

pub core_or_all-gathered : (has : Outcome → Bool) (core : Outcome) (os : List Outcome)
    → core_or_all has (core ∷ os) ≡ (has core || (are_there os && list_all has os))
core_or_all-gathered has core [] = sym (or-false (has core))
core_or_all-gathered has core (o ∷ os) = refl
