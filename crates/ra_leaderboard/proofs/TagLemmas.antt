-- The tags that go on with letters, and the words of tags.
use Rattle.std.proofs.Common.{◌≡◌, ◌∙◌, ℕ, ◌+◌, Bool, true, false, cond, ◌&&◌, is_some, ◌⊎◌, inl, inr, List, [], ◌∷◌}
use Rattle.std.proofs.Common.{◌++◌, filter, Option, Some, None, slice_index, refl, sym, ap, subst}
use Rattle.ra_leaderboard.specs.declared.tag.Tag.{Tag}
use Rattle.ra_leaderboard.specs.declared.tag.Tag.TheVariants.{Start, Cancel, Submit, Value, Progress}
use Rattle.ra_leaderboard.specs.Grammar.{in_either_case, tag}
use Rattle.ra_leaderboard.specs.Tags.{SomeTags, word_of, some_tags, tags_of, chosen, chosen_tags, has_letter, narrowed}
use Rattle.ra_text.specs.Form.{Form, Spell, One, Then}
use Rattle.ra_text.specs.Table.{is_in, only_letters, letter_marks}
use Rattle.ra_text.proofs.Tables.{are_apart, in_apart, is_in-in, is_in-listed}
use Rattle.ra_text.proofs.Spelled.{then-spelled, none-spelled, one-spelled}

-- ---- the tags among others

-- the tag is one of these
abbrev pub Among : Tag → List Tag → Type 0
Among t [] = Unit {0} → ⊥
Among t (u ∷ us) = (u ≡ t) ⊎ Among t us

pub among-filter : (p : Tag → Bool) (t : Tag) (us : List Tag) → Among t us → p t ≡ true → Among t (filter p us)
among-filter p t [] here passes = here
among-filter p t (u ∷ us) here passes = cases (p u) refl here (λ more. among-filter p t us more passes) where
  cases : (passed : Bool) → p u ≡ passed → (u ≡ t) ⊎ Among t us
      → (Among t us → Among t (filter p us)) → Among t (cond passed (u ∷ filter p us) (filter p us))
  cases true is (inl same) next = inl same
  cases true is (inr more) next = inr (next more)
  cases false is (inl same) next = absurd (let passes_too : p u ≡ true = ap p same ∙ passes in cc (is, passes_too))
  cases false is (inr more) next = next more

pub filter-among : (p : Tag → Bool) (t : Tag) (us : List Tag) → Among t (filter p us) → Among t us × (p t ≡ true)
filter-among p t [] here = absurd (here tt)
filter-among p t (u ∷ us) here = cases (p u) refl here (filter-among p t us) where
  cases : (passed : Bool) → p u ≡ passed → Among t (cond passed (u ∷ filter p us) (filter p us))
      → (Among t (filter p us) → Among t us × (p t ≡ true)) → ((u ≡ t) ⊎ Among t us) × (p t ≡ true)
  cases true is (inl same) next = (inl same, ap p (sym same) ∙ is)
  cases true is (inr more) next = (inr (next more).0, (next more).1)
  cases false is more next = (inr (next more).0, (next more).1)

-- some tags are a first and the others
pub some-tags : (us : List Tag) (v : SomeTags) → some_tags us ≡ Some v → us ≡ v.0 ∷ v.1
some-tags [] v e = absurd (cc e)
some-tags (u ∷ us) v e = let same : (u, us) ≡ v = cc e in ap (λ (x : SomeTags). x.0 ∷ x.1) same

-- where a tag is among them there are some
pub tags-some : (t : Tag) (us : List Tag) → Among t us → (v : SomeTags) × (some_tags us ≡ Some v) × (us ≡ v.0 ∷ v.1)
tags-some t [] here = absurd (here tt)
tags-some t (u ∷ us) here = ((u, us), refl, refl)

-- a tag that is left has the letter
pub narrowed-among : (place byte : ℕ) (t : Tag) (tags v : SomeTags) → narrowed place tags byte
    ≡ Some v → Among t (v.0 ∷ v.1) → Among t (tags.0 ∷ tags.1) × (has_letter place byte t ≡ true)
narrowed-among place byte t tags v e here = filter-among (has_letter place byte) t (tags.0 ∷ tags.1)
    (subst (Among t) (sym (some-tags (filter (has_letter place byte) (tags.0 ∷ tags.1)) v e)) here)

-- a tag that has the letter is left
pub among-narrowed : (place byte : ℕ) (t : Tag) (tags : SomeTags) → Among t (tags.0 ∷ tags.1)
    → has_letter place byte t ≡ true → (v : SomeTags) × (narrowed place tags byte ≡ Some v)
    × Among t (v.0 ∷ v.1)
among-narrowed place byte t tags here has_it =
    let left : Among t (filter (has_letter place byte) (tags.0 ∷ tags.1)) =
    among-filter (has_letter place byte) t (tags.0 ∷ tags.1) here has_it in
    let some = tags-some t (filter (has_letter place byte) (tags.0 ∷ tags.1)) left in
    (some.0, some.1, subst (Among t) some.2 left)

-- ---- tags of which each is told

filter-chosen : (p : Tag → Bool) (b : Bool) (t : Tag) (us : List Tag) → filter p (chosen b t us)
    ≡ chosen (b && p t) t (filter p us)
filter-chosen p true t us = cases (p t) where
  cases : (passed : Bool) → cond passed (t ∷ filter p us) (filter p us) ≡ chosen passed t (filter p us)
  cases true = refl
  cases false = refl
filter-chosen p false t us = refl

filter-tags : (p : Tag → Bool) (a b c d e : Bool) → filter p (chosen_tags a b c d e)
    ≡ chosen_tags (a && p Start) (b && p Cancel) (c && p Submit) (d && p Value) (e && p Progress)
filter-tags p a b c d e =
    filter-chosen p a Start (chosen b Cancel (chosen c Submit (chosen d Value (chosen e Progress []))))
    ∙ ap (chosen (a && p Start) Start)
    (filter-chosen p b Cancel (chosen c Submit (chosen d Value (chosen e Progress [])))
    ∙ ap (chosen (b && p Cancel) Cancel) (filter-chosen p c Submit (chosen d Value (chosen e Progress []))
    ∙ ap (chosen (c && p Submit) Submit) (filter-chosen p d Value (chosen e Progress [])
    ∙ ap (chosen (d && p Value) Value) (filter-chosen p e Progress []))))

tags-again : (us : List Tag) → is_some (some_tags us) ≡ true → (tags_of us).0 ∷ (tags_of us).1 ≡ us
tags-again [] some = absurd (cc some)
tags-again (u ∷ us) some = refl

-- the tags that are left, of those that are told
pub narrowed-told : (place byte : ℕ) (a b c d e : Bool) (tags : SomeTags)
    → tags_of (chosen_tags a b c d e) ≡ tags → is_some (some_tags (chosen_tags a b c d e)) ≡ true
    → narrowed place tags byte ≡ some_tags (chosen_tags (a && has_letter place byte Start)
    (b && has_letter place byte Cancel) (c && has_letter place byte Submit)
    (d && has_letter place byte Value) (e && has_letter place byte Progress))
narrowed-told place byte a b c d e tags is some =
    ap (λ (v : SomeTags). narrowed place v byte) (sym is)
    ∙ ap (λ us. some_tags (filter (has_letter place byte) us)) (tags-again (chosen_tags a b c d e) some)
    ∙ ap some_tags (filter-tags (has_letter place byte) a b c d e)

-- ---- the words of tags

-- a word of three letters, each in either case
pub record ThreeLetters (a b c : ℕ) (text : List ℕ) : Type 0 where
  pub first : ℕ
  pub second : ℕ
  pub third : ℕ
  pub is : text ≡ first ∷ second ∷ third ∷ []
  pub at_first : is_in (only_letters (a ∷ [])) first ≡ true
  pub at_second : is_in (only_letters (b ∷ [])) second ≡ true
  pub at_third : is_in (only_letters (c ∷ [])) third ≡ true

listed-in : (upper byte : ℕ) (v : Unit {0}) → only_letters (upper ∷ []) byte ≡ Some v
    → is_in (only_letters (upper ∷ [])) byte ≡ true
listed-in upper byte v e = ap (λ (found : Option (Unit {0})). elim found [ Some v ↦ true | None ↦ false ]) e

three-parts : (a b c : ℕ) (text : List ℕ) (v : Unit {0}) → in_either_case (a ∷ b ∷ c ∷ []) text v
    → ThreeLetters a b c text
three-parts a b c text v h = record {
  first = h.of_first.symbol;
  second = h.of_next.of_first.symbol;
  third = h.of_next.of_next.of_first.symbol;
  is = h.parts ∙ ap (λ t. t ++ h.behind) h.of_first.alone
      ∙ ap (λ t. h.of_first.symbol ∷ t) (h.of_next.parts ∙ ap (λ t. t ++ h.of_next.behind) h.of_next.of_first.alone
      ∙ ap (λ t. h.of_next.of_first.symbol ∷ t) (h.of_next.of_next.parts
      ∙ ap (λ t. t ++ h.of_next.of_next.behind) h.of_next.of_next.of_first.alone
      ∙ ap (λ t. h.of_next.of_next.of_first.symbol ∷ t) h.of_next.of_next.of_next.empty));
  at_first = listed-in a h.of_first.symbol h.v h.of_first.listed;
  at_second = listed-in b h.of_next.of_first.symbol h.of_next.v h.of_next.of_first.listed;
  at_third = listed-in c h.of_next.of_next.of_first.symbol h.of_next.of_next.v h.of_next.of_next.of_first.listed;
}

pub letter-first : (upper byte : ℕ) (others text : List ℕ) (v : Unit {0})
    → is_in (only_letters (upper ∷ [])) byte ≡ true → in_either_case others text v
    → in_either_case (upper ∷ others) (byte ∷ text) v
letter-first upper byte others text v e h = let listed = is_in-listed (only_letters (upper ∷ []))
    byte e in then-spelled (byte ∷ []) text listed.0 refl (one-spelled byte listed.1) h

parts-three : (a b c : ℕ) (text : List ℕ) → ThreeLetters a b c text → in_either_case (a ∷ b ∷ c ∷ []) text tt
parts-three a b c text p = subst (λ t. in_either_case (a ∷ b ∷ c ∷ []) t tt) (sym p.is)
    (letter-first a p.first (b ∷ c ∷ []) (p.second ∷ p.third ∷ []) tt p.at_first
    (letter-first b p.second (c ∷ []) (p.third ∷ []) tt p.at_second
    (letter-first c p.third [] [] tt p.at_third none-spelled)))

-- the letters of a tag
abbrev pub letter_of : Tag → ℕ → ℕ
letter_of t place = slice_index (word_of t) place

word-three : (t : Tag) → word_of t ≡ letter_of t 0 ∷ letter_of t 1 ∷ letter_of t 2 ∷ []
word-three Start = refl
word-three _ = refl

-- a text spells a tag exactly where it has its three letters
abbrev pub HasWord : Tag → List ℕ → Type 0
HasWord t text = ThreeLetters (letter_of t 0) (letter_of t 1) (letter_of t 2) text

pub tag-word : (t : Tag) (text : List ℕ) → tag text t → HasWord t text
tag-word t text h = three-parts (letter_of t 0) (letter_of t 1) (letter_of t 2) text tt
    (subst (λ w. in_either_case w text tt) (word-three t) h)

pub word-tag : (t : Tag) (text : List ℕ) → HasWord t text → tag text t
word-tag t text h = subst (λ w. in_either_case w text tt) (sym (word-three t))
    (parts-three (letter_of t 0) (letter_of t 1) (letter_of t 2) text h)

-- a byte is not of two letters
letters-apart : (a b byte : ℕ) → are_apart (a ∷ (a + 32) ∷ []) (b ∷ (b + 32) ∷ []) ≡ true
    → is_in (only_letters (a ∷ [])) byte ≡ true → is_in (only_letters (b ∷ [])) byte ≡ true → ⊥
letters-apart a b byte apart here there = in_apart (a ∷ (a + 32) ∷ []) (b ∷ (b + 32) ∷ []) apart
    byte (is_in-in (letter_marks (a ∷ [])) byte here) (is_in-in (letter_marks (b ∷ [])) byte there)

-- two letters tell the tag
pub same-tag : (t u : Tag) (x y : ℕ) → has_letter 0 x t ≡ true → has_letter 0 x u ≡ true
    → has_letter 1 y t ≡ true → has_letter 1 y u ≡ true → t ≡ u
same-tag Start Start x y a b c d = refl
same-tag Start Cancel x y a b c d = absurd (letters-apart 83 67 x refl a b)
same-tag Start Submit x y a b c d = absurd (letters-apart 84 85 y refl c d)
same-tag Start Value x y a b c d = absurd (letters-apart 83 86 x refl a b)
same-tag Start Progress x y a b c d = absurd (letters-apart 83 80 x refl a b)
same-tag Cancel Start x y a b c d = absurd (letters-apart 67 83 x refl a b)
same-tag Cancel Cancel x y a b c d = refl
same-tag Cancel Submit x y a b c d = absurd (letters-apart 67 83 x refl a b)
same-tag Cancel Value x y a b c d = absurd (letters-apart 67 86 x refl a b)
same-tag Cancel Progress x y a b c d = absurd (letters-apart 67 80 x refl a b)
same-tag Submit Start x y a b c d = absurd (letters-apart 85 84 y refl c d)
same-tag Submit Cancel x y a b c d = absurd (letters-apart 83 67 x refl a b)
same-tag Submit Submit x y a b c d = refl
same-tag Submit Value x y a b c d = absurd (letters-apart 83 86 x refl a b)
same-tag Submit Progress x y a b c d = absurd (letters-apart 83 80 x refl a b)
same-tag Value Start x y a b c d = absurd (letters-apart 86 83 x refl a b)
same-tag Value Cancel x y a b c d = absurd (letters-apart 86 67 x refl a b)
same-tag Value Submit x y a b c d = absurd (letters-apart 86 83 x refl a b)
same-tag Value Value x y a b c d = refl
same-tag Value Progress x y a b c d = absurd (letters-apart 86 80 x refl a b)
same-tag Progress Start x y a b c d = absurd (letters-apart 80 83 x refl a b)
same-tag Progress Cancel x y a b c d = absurd (letters-apart 80 67 x refl a b)
same-tag Progress Submit x y a b c d = absurd (letters-apart 80 83 x refl a b)
same-tag Progress Value x y a b c d = absurd (letters-apart 80 86 x refl a b)
same-tag Progress Progress x y a b c d = refl

-- ---- a word of some tags, letter by letter

-- one letter after the other narrows the tags
abbrev pub tag_in : SomeTags → Form ℕ Tag
tag_in tags = Then (One (narrowed 0 tags)) (λ first. Then (One (narrowed 1 first))
    (λ second. Then (One (narrowed 2 second)) (λ third. Spell third.0)))

-- what is read so is the word of one of the tags
pub tag-of : (tags : SomeTags) (t : Tag) (text : List ℕ) → tag_in tags text t → tag text t × Among t (tags.0 ∷ tags.1)
tag-of tags t text h =
    let second = h.of_next in
    let third = h.of_next.of_next in
    let at_third = narrowed-among 2 third.of_first.symbol t second.v third.v third.of_first.listed
    (inl (sym third.of_next.is)) in
    let at_second = narrowed-among 1 second.of_first.symbol t h.v second.v second.of_first.listed at_third.0 in
    let at_first = narrowed-among 0 h.of_first.symbol t tags h.v h.of_first.listed at_second.0 in (
      word-tag t text (record {
        first = h.of_first.symbol;
        second = second.of_first.symbol;
        third = third.of_first.symbol;
        is = h.parts ∙ ap (λ t. t ++ h.behind) h.of_first.alone
            ∙ ap (λ t. h.of_first.symbol ∷ t) (second.parts ∙ ap (λ t. t ++ second.behind) second.of_first.alone
            ∙ ap (λ t. second.of_first.symbol ∷ t) (third.parts ∙ ap (λ t. t ++ third.behind) third.of_first.alone
            ∙ ap (λ t. third.of_first.symbol ∷ t) third.of_next.empty));
        at_first = at_first.1;
        at_second = at_second.1;
        at_third = at_third.1;
      }),
      at_first.0,
    )

-- the word of one of the tags is read so
pub tag-in : (tags : SomeTags) (t : Tag) (text : List ℕ) → tag text t → Among t (tags.0 ∷ tags.1) → tag_in tags text t
tag-in tags t text h here =
    let w = tag-word t text h in
    let first = among-narrowed 0 w.first t tags here w.at_first in
    let second = among-narrowed 1 w.second t first.0 first.2 w.at_second in
    let third = among-narrowed 2 w.third t second.0 second.2 w.at_third in
    let left : Among third.0.0 (third.0.0 ∷ third.0.1) = inl refl in
    let in_third = narrowed-among 2 w.third third.0.0 second.0 third.0 third.1 left in
    let in_second = narrowed-among 1 w.second third.0.0 first.0 second.0 second.1 in_third.0 in
    let in_first = narrowed-among 0 w.first third.0.0 tags first.0 first.1 in_second.0 in
    let same : t ≡ third.0.0 = same-tag t third.0.0 w.first w.second w.at_first in_first.1
    w.at_second in_second.1 in then-spelled (w.first ∷ [])
    (w.second ∷ w.third ∷ []) first.0 w.is (one-spelled w.first first.1)
    (then-spelled (w.second ∷ []) (w.third ∷ []) second.0 refl (one-spelled w.second second.1)
    (then-spelled (w.third ∷ []) [] third.0 refl (one-spelled w.third third.1)
    (record { empty = refl; is = same })))
