-- The account of a condition of which the last frames are still to be counted.
use Rattle.std.proofs.Common.{◌≡◌, ℕ, suc, ◌+◌, ◌<◌, Bool, List, [], ◌∷◌, ◌++◌, length, map, replicate, refl, sym, ap}
use Rattle.std.proofs.Common.{ap₂, ◌∙◌, subst, arith, length-append}
use Rattle.std.specs.Prelude.{max, min}
use Rattle.std.proofs.lemmas.List.{length-map, map-append}
use Rattle.ra_account.specs.declared.condition.ConditionAccount.{ConditionAccount}
use Rattle.ra_account.specs.declared.facts.Facts.{Facts}
use Rattle.ra_account.specs.declared.running.Running.{Running}
use Rattle.ra_account.specs.Conditions.{IsAccountOf}
use Rattle.ra_account.specs.Greatest.{best_of, greatest_of, least_of, range_of}
use Rattle.ra_account.specs.Running.{HasCounted, HasNumbersOf, HasSeen, IsRunning, Runs}
use Rattle.ra_account.specs.Marks.{IsTimeline}
use Rattle.ra_account.proofs.GreatestLemmas.{best_below}

-- the first of a list, by a class, or another
abbrev head_by : {A : Type 0} (f : A → Bool) → List A → Bool → Bool
head_by f [] other = other
head_by f (x ∷ xs) other = f x

abbrev first_by : List Bool → Bool → Bool
first_by [] other = other
first_by (b ∷ bs) other = b

-- frames that are alike, and those before them
alike_held : {A : Type 0} (f : A → Bool) (latest before all : List A) (now : Bool) (n : ℕ) → all
    ≡ latest ++ before → n ≡ length latest
    → map f latest ≡ replicate (length latest) now → replicate n now ++ map f before ≡ map f all
alike_held f latest before all now n split long held =
    ap (λ k. replicate k now ++ map f before) long
    ∙ ap (λ xs. xs ++ map f before) (sym held)
    ∙ sym (map-append f latest before)
    ∙ ap (map f) (sym split)

-- all frames are counted once the last ones are
pub all_counted : (frames : List Facts) (r : Running) (n : ℕ) (a : ConditionAccount)
    (known : Runs frames r) → n + r.since ≡ length frames
    → HasCounted (replicate n r.counts ++ map (λ f. f.counts) known.before)
    (replicate n r.past ++ map (λ f. f.past) known.before) a
    → HasCounted (map (λ f. f.counts) frames) (map (λ f. f.past) frames) a
all_counted frames r n a known long counted =
    let many : n ≡ length known.latest =
    omega (arith, long, known.since_too, ap length known.split, length-append known.latest known.before) in
    subst (λ (xs : List Bool). HasCounted xs (map (λ f. f.past) frames) a)
    (alike_held (λ f. f.counts) known.latest known.before frames r.counts n known.split many known.counts_too)
    (subst (λ (xs : List Bool). HasCounted (replicate n r.counts ++ map (λ f. f.counts) known.before) xs a)
    (alike_held (λ f. f.past) known.latest known.before frames r.past n known.split many known.past_too) counted)

-- then there are none that are still to be counted
pub none_latest : (frames : List Facts) (r : Running) → r.since ≡ length frames
    → HasCounted (map (λ f. f.counts) frames) (map (λ f. f.past) frames) r.account
    → HasSeen frames r.account → Runs frames r
none_latest frames r since counted seen = record {
  latest = [];
  before = frames;
  split = refl;
  since_too = since;
  counts_too = refl;
  past_too = refl;
  counted = counted;
  seen = seen;
}

-- it has counted as far as before, where its counts and columns stay
pub counted_like : (counts past : List Bool) (old new : ConditionAccount)
    → new.counts ≡ old.counts → new.past ≡ old.past → new.columns ≡ old.columns
    → HasCounted counts past old → HasCounted counts past new
counted_like counts past old new first second third known = record {
  as_many = known.as_many;
  counts_too = first ∙ known.counts_too;
  past_too = second ∙ known.past_too;
  columns_too = subst (λ cs. IsTimeline counts cs) (sym third) known.columns_too;
}

-- one frame more that is like the last ones
pub one_latest : (frames : List Facts) (old new : Running) (now : Facts) (known : Runs frames old)
    → now.counts ≡ old.counts → now.past ≡ old.past
    → new.since ≡ old.since → new.counts ≡ old.counts → new.past ≡ old.past
    → HasCounted (map (λ f. f.counts) known.before) (map (λ f. f.past) known.before) new.account
    → HasSeen (now ∷ frames) new.account → IsRunning (now ∷ frames) new
one_latest frames old new now known counts past since same same_past counted seen = record {
  runs = record {
    latest = now ∷ known.latest;
    before = known.before;
    split = ap (λ xs. now ∷ xs) known.split;
    since_too = since ∙ known.since_too;
    counts_too = ap₂ (λ x xs. x ∷ xs) counts known.counts_too
        ∙ ap (λ b. replicate (suc (length known.latest)) b) (sym same);
    past_too = ap₂ (λ x xs. x ∷ xs) past known.past_too
        ∙ ap (λ b. replicate (suc (length known.latest)) b) (sym same_past);
    counted = counted;
    seen = seen;
  };
  some = λ there. omega (arith, since, known.since_too, ap length known.split, length-append known.latest known.before);
}

-- a number once more that was there changes neither the greatest nor the least
range_again : (now : ℕ) (earlier : List ℕ) → range_of (now ∷ now ∷ earlier) ≡ range_of (now ∷ earlier)
range_again now earlier =
    (let most : max now (max now (greatest_of earlier)) ≡ max now (greatest_of earlier) = omega arith in
    let few : min now (min now (least_of earlier)) ≡ min now (least_of earlier) = omega arith in
    (λ i. record { least = few i; greatest = most i }))

best_again : (now : ℕ) (earlier : List ℕ) → best_of (now ∷ now ∷ earlier) ≡ best_of (now ∷ earlier)
best_again now earlier = best_below now (now ∷ earlier) (omega arith)

-- the same frame once more
seen_again : (now : Facts) (earlier : List Facts) (a : ConditionAccount) → HasSeen (now ∷ earlier) a
    → HasSeen (now ∷ now ∷ earlier) a
seen_again now earlier a known = record {
  best = known.best ∙ sym (best_again now.total (map (λ f. f.total) earlier));
  left = known.left ∙ sym (range_again now.left (map (λ f. f.left) earlier));
  right = known.right ∙ sym (range_again now.right (map (λ f. f.right) earlier));
}

-- what is the first of frames that are alike is like them
first_alike : {A : Type 0} (f : A → Bool) (now : A) (earlier latest before : List A) (held : Bool)
    → now ∷ earlier ≡ latest ++ before
    → length before < suc (length earlier) → map f latest ≡ replicate (length latest) held → f now ≡ held
first_alike f now earlier [] before held split some alike = grind (arith, ap length split)
first_alike f now earlier (x ∷ latest) before held split some alike =
    ap (λ xs. head_by f xs held) split ∙ ap (λ bs. first_by bs held) alike

-- a frame that shows what the last one did
pub again : (now : Facts) (earlier : List Facts) (r : Running) → IsRunning (now ∷ earlier) r
    → IsRunning (now ∷ now ∷ earlier) r
again now earlier r known =
    let runs = known.runs in
    let some : length runs.before < suc (length earlier) = omega (arith, known.some (omega arith), runs.since_too) in
    one_latest (now ∷ earlier) r r now runs
    (first_alike (λ f. f.counts) now earlier runs.latest runs.before r.counts runs.split some runs.counts_too)
    (first_alike (λ f. f.past) now earlier runs.latest runs.before r.past runs.split some runs.past_too)
    refl refl refl runs.counted (seen_again now earlier r.account runs.seen)

-- what an account has counted and seen
pub account_parts : (frames : List Facts) (a : ConditionAccount) → IsAccountOf frames a
    → HasCounted (map (λ f. f.counts) frames) (map (λ f. f.past) frames) a
account_parts frames a known = record {
  as_many = length-map frames (λ (f : Facts). f.past) ∙ sym (length-map frames (λ (f : Facts). f.counts));
  counts_too = known.counts;
  past_too = known.past;
  columns_too = known.columns;
}

-- an account has both
pub parts_account : (frames : List Facts) (a : ConditionAccount)
    → HasCounted (map (λ f. f.counts) frames) (map (λ f. f.past) frames) a → HasSeen frames a → IsAccountOf frames a
parts_account frames a counted seen = record {
  counts = counted.counts_too;
  past = counted.past_too;
  best = seen.best;
  left = seen.left;
  right = seen.right;
  columns = counted.columns_too;
}

-- the best and the values of these frames, where they stay
pub numbers_like : (frames : List Facts) (old new : ConditionAccount) → HasNumbersOf old new
    → HasSeen frames old → HasSeen frames new
numbers_like frames old new same known = record {
  best = same.best ∙ known.best;
  left = same.left ∙ known.left;
  right = same.right ∙ known.right;
}
