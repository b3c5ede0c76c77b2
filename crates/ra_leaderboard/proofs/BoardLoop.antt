-- The loop over the fields of a board.
use Rattle.std.proofs.Common.{◌≡◌, ◌∙◌, ℕ, ◌<◌, ◌≤◌, Bool, true, false, List, [], ◌∷◌, ◌++◌, length, Some, None, Ok}
use Rattle.std.proofs.Common.{Err, refl, sym, ap, subst, arith}
use Rattle.ra_leaderboard.specs.Contents.{BoardContents}
use Rattle.ra_leaderboard.specs.Fields.{FieldContents}
use Rattle.ra_leaderboard.specs.Reading.{field_at, next_field_at, HeldSoFar, none_held, with_field, with_fields}
use Rattle.ra_leaderboard.specs.Reading.{separator, is_whole, board_of, others_at, board_at}
use Rattle.ra_leaderboard.specs.Tags.{SomeTags, all_tags}
use Rattle.ra_leaderboard.proofs.FieldReaders.{next_field-shorter}
use Rattle.ra_text.specs.Reading.{Outcome, rest_of, ◌>>=◌}
use Rattle.ra_text.proofs.Loops.{Looping, loop-next, loop-fails, loop-ends, loop-stops}

-- the fields behind the first so far, what all of them hold, and what the whole reading gives
pub record FieldsSoFar (held : HeldSoFar) (text : List ℕ) (whole : Outcome ℕ BoardContents) : Type 0 where
  pub first : HeldSoFar
  pub so_far : List FieldContents
  pub others : Outcome ℕ (List FieldContents)
  pub loops : Looping separator (λ h tags. next_field_at tags) with_field is_whole so_far held text others
  pub holds : held ≡ with_fields first so_far
  pub is : whole ≡ (others >>= λ fs. Ok (board_of (with_fields first fs.0), fs.1))

then-ok : {V : Type 0} (o : Outcome ℕ V) → o ≡ (o >>= λ x. Ok (x.0, x.1))
then-ok (Ok x) = refl
then-ok (Err rest) = refl

with-more : (h : HeldSoFar) (fs : List FieldContents) (f : FieldContents)
    → with_field (with_fields h fs) f ≡ with_fields h (fs ++ f ∷ [])
with-more h [] f = refl
with-more h (g ∷ fs) f = with-more (with_field h g) fs f

-- a first field was read, or none
pub fields-start : (text : List ℕ) (f : FieldContents) (rest : List ℕ) → field_at all_tags text
    ≡ Ok (f, rest) → FieldsSoFar (with_field none_held f) rest (board_at text)
unfolding board_at
fields-start text f rest read = record {
  first = with_field none_held f;
  so_far = [];
  others = others_at (with_field none_held f) rest;
  loops = record { is = then-ok (others_at (with_field none_held f) rest) };
  holds = refl;
  is = ap (λ o. o >>= λ first. others_at (with_field none_held first.0) first.1 >>= λ others. Ok
      (board_of (with_fields (with_field none_held first.0) others.0), others.1)) read;
}

pub fields-none : (text rest : List ℕ) → field_at all_tags text ≡ Err rest → board_at text ≡ Err rest
unfolding board_at
fields-none text rest fails = ap (λ o. o >>= λ first. others_at
    (with_field none_held first.0) first.1 >>= λ others. Ok
    (board_of (with_fields (with_field none_held first.0) others.0), others.1)) fails

-- a separator was passed, and a field was read, or none
pub fields-next : (h : HeldSoFar) (tags : SomeTags) (text old : List ℕ)
    (whole : Outcome ℕ BoardContents) (f : FieldContents) (rest : List ℕ) → old ≡ 58 ∷ text
    → separator h 58 ≡ Some tags → next_field_at tags text ≡ Ok (f, rest) → FieldsSoFar h old whole
    → FieldsSoFar (with_field h f) rest whole
fields-next h tags text old whole f rest is free read s = record {
  first = s.first;
  so_far = s.so_far ++ f ∷ [];
  others = s.others;
  loops = loop-next separator (λ h tags. next_field_at tags) with_field is_whole
      (λ h tags. next_field-shorter tags) s.so_far h 58 tags text s.others f rest free read
      (subst (λ t. Looping separator
      (λ h tags. next_field_at tags) with_field is_whole s.so_far h t s.others) is s.loops);
  holds = ap (λ h. with_field h f) s.holds ∙ with-more s.first s.so_far f;
  is = s.is;
}

-- less is left behind a separator and a field
pub fields-smaller : (tags : SomeTags) (text old : List ℕ) (f : FieldContents) (rest : List ℕ) → old
    ≡ 58 ∷ text → next_field_at tags text ≡ Ok (f, rest) → length rest < length old
fields-smaller tags text old f rest is read =
    let left : length rest ≤ length text =
    subst (λ o. length (rest_of o) ≤ length text) read (next_field-shorter tags text) in
    omega (arith, ap length is)

-- no separator is next: the board is whole, or a field does not stand
pub fields-end : (h : HeldSoFar) (text : List ℕ) (whole : Outcome ℕ BoardContents)
    → ((c : ℕ) (t : List ℕ) → text ≡ c ∷ t → separator h c ≡ None) → is_whole h ≡ true
    → FieldsSoFar h text whole → whole ≡ Ok (board_of h, text)
fields-end h text whole none may s = s.is
    ∙ ap (λ o. o >>= λ fs. Ok (board_of (with_fields s.first fs.0), fs.1)) (loop-ends separator
    (λ h tags. next_field_at tags) with_field is_whole s.so_far h text s.others none may s.loops)
    ∙ ap (λ held. Ok (board_of held, text)) (sym s.holds)

pub fields-stop : (h : HeldSoFar) (text : List ℕ) (whole : Outcome ℕ BoardContents)
    → ((c : ℕ) (t : List ℕ) → text ≡ c ∷ t → separator h c ≡ None) → is_whole h ≡ false
    → FieldsSoFar h text whole → whole ≡ Err text
fields-stop h text whole none may s = s.is
    ∙ ap (λ o. o >>= λ fs. Ok (board_of (with_fields s.first fs.0), fs.1)) (loop-stops separator
    (λ h tags. next_field_at tags) with_field is_whole s.so_far h text s.others none may s.loops)

-- what would make a true thing false is false
pub not-true : (b : Bool) → (b ≡ true → false ≡ true) → b ≡ false
not-true true wrongs = absurd (let wrong : false ≡ true = wrongs refl in cc wrong)
not-true false wrongs = refl
