-- The reader of any number of items, each behind a separator.
use Rattle.std.proofs.Common.{◌≡◌, ◌∙◌, inl, inr, ℕ, zero, suc, ◌≤◌, Bool, true, false, List, [], ◌∷◌, ◌++◌, length}
use Rattle.std.proofs.Common.{Option, Some, None, Ok, Err, refl, sym, ap, subst, arith, append_assoc, le_refl}
use Rattle.ra_text.specs.Form.{Form, Spell, Then, Viable}
use Rattle.ra_text.specs.Chain.{Chain, joined}
use Rattle.ra_text.specs.Reading.{Outcome, Reads, ◌>>=◌, ends_at, chain_at, joined_at}
use Rattle.ra_text.proofs.Steps.{reads-more, reads-step, reads-none}
use Rattle.ra_text.proofs.Readers.{Reader, reader-then, then-begins}
use Rattle.ra_text.proofs.Begins.{Firsts, IsListed}
use Rattle.ra_text.proofs.Either.{reader-map}
use Rattle.ra_text.proofs.Spelled.{then-spelled, viable-by, link-spelled}

module _ {A T S V : Type 0} (separator : S → A → Option T) (item : S → T → Form A V) (item_at : S
    → T → List A → Outcome A V) (step : S → V → S) (done : S → Bool) (goes_on item_on : A → Type 0)
    (items : (s : S) (tag : T) → Reader (item s tag) (item_at s tag) item_on)
    (apart : (s : S) (c : A) → IsListed (separator s) c → item_on c → ⊥)
    (on_item : (c : A) → item_on c → goes_on c)
    (on_separator : (s : S) (c : A) → IsListed (separator s) c → goes_on c)
    (completes : (s : S) → Viable (Chain separator item step done s) []) where
  -- the items, before another form
  before : (W : Type 0) → (List V → Form A W) → S → Form A W
  before W K s = Then (Chain separator item step done s) K

  -- no items at all, where the text may end
  nothing : (W : Type 0) (K : List V → Form A W) (s : S) → done s ≡ true → (t : List A) (w : W)
      → K [] t w → before W K s t w
  unfolding before
  nothing W K s may t w h = then-spelled [] t [] refl (refl, may) h

  -- a first item, and the others
  linked : (W : Type 0) (K : List V → Form A W) (s : S) (c : A) (tag : T) → separator s c ≡ Some tag
      → (t : List A) (w : W) → Then (item s tag) (λ v. before W (λ vs. K (v ∷ vs)) (step s v)) t w
      → before W K s (c ∷ t) w
  unfolding before
  linked W K s c tag listed t w h = then-spelled (c ∷ (h.front ++ h.of_next.front)) h.of_next.behind
      (h.v ∷ h.of_next.v) (ap (λ x. c ∷ x) (h.parts ∙ ap (λ x. h.front ++ x) h.of_next.parts
      ∙ sym (append_assoc h.front h.of_next.front h.of_next.behind))) (link-spelled c tag h.front
      h.of_next.front refl listed h.of_first h.of_next.of_first) h.of_next.of_next

  -- what a text with items, before another form, is: nothing, or a first item and the others
  data Cut (W : Type 0) (K : List V → Form A W) (s : S) (t : List A) (w : W) : Type 0 where
    none : done s ≡ true → K [] t w → Cut W K s t w
    some : (c : A) (tag : T) (rest : List A) → t ≡ c ∷ rest → separator s c ≡ Some tag
        → Then (item s tag) (λ v. before W (λ vs. K (v ∷ vs)) (step s v)) rest w → Cut W K s t w

  cut-front : (W : Type 0) (K : List V → Form A W) (s : S) (front behind : List A) (vs : List V)
      (w : W) → Chain separator item step done s front vs → K vs behind w
      → Cut W K s (front ++ behind) w
  unfolding before
  cut-front W K s front behind [] w h k = none h.1 (subst (λ t. K [] t w) (ap (λ t. t ++ behind) (sym h.0)) k)
  cut-front W K s front behind (v ∷ vs) w h k = some h.symbol h.tag
      ((h.front ++ h.behind) ++ behind) (ap (λ t. t ++ behind) h.parts) h.separated
      (then-spelled h.front (h.behind ++ behind) v (append_assoc h.front h.behind behind) h.of_item
      (then-spelled h.behind behind vs refl h.of_others k))

  cut : (W : Type 0) (K : List V → Form A W) (s : S) (t : List A) (w : W) → before W K s t w → Cut W K s t w
  unfolding before
  cut W K s t w h = subst (λ x. Cut W K s x w) (sym h.parts)
      (cut-front W K s h.front h.behind h.v w h.of_first h.of_next)

  -- the items end where the text ends
  reads-end : (W : Type 0) (K : List V → Form A W) (k : List V × List A → Outcome A W) (s : S)
      (text : List A) (may : Bool) → done s ≡ may
      → ((c : A) (rest : List A) → text ≡ c ∷ rest → separator s c ≡ None)
      → ((vs : List V) (rest : List A) → length rest ≤ length text → Reads (K vs) rest (k (vs, rest)))
      → Reads (before W K s) text (ends_at may text >>= k)
  unfolding before
  reads-end W K k s text true e never reads = reads-more (K []) (before W K s) (nothing W K s e)
      (λ t w alike h. elim (cut W K s t w h) [
        | none may k ↦ k
        | some c tag rest is listed h ↦ absurd (let n : separator s c ≡ None =
            never c (alike c rest is).0 (alike c rest is).1 in cc (n, listed))
      ])
      (reads [] text (le_refl (length text)))
  reads-end W K k s text false e never reads = reads-none (before W K s) text
      (viable-by ((completes s).more ++ (viable-none (completes s).v).more)
      ((viable-none (completes s).v).v) (then-spelled ((completes s).more)
      ((viable-none (completes s).v).more) ((completes s).v) refl ((completes s).whole)
      ((viable-none (completes s).v).whole)))
      (λ c rest is viable. elim (cut W K s (c ∷ viable.more) viable.v viable.whole) [
        | none may k ↦ absurd (cc (may, e))
        | some d tag more same listed h ↦ absurd (let n : separator s c ≡ None = never c rest is in
            let x : c ≡ d = cc same in cc (n, listed, x))
      ])
      (λ w h. elim (cut W K s [] w h) [
        | none may k ↦ absurd (cc (may, e))
        | some d tag more same listed h ↦ absurd (cc same)
      ]) where
        empty : {W : Type 0} {form : Form A W} {outcome : Outcome A W} → Reads form [] outcome → Viable form []
        empty r = viable-by (r.front ++ r.viable.more) r.viable.v r.viable.whole

        viable-none : (vs : List V) → Viable (K vs) []
        viable-none vs = empty (reads vs [] (omega arith))

  -- two steps of a reading, one after the other
  regroup : (W : Type 0) (k : List V × List A → Outcome A W) (v : V) (o : Outcome A (List V))
      → ((o >>= λ vs. Ok (v ∷ vs.0, vs.1)) >>= k) ≡ (o >>= λ vs. k (v ∷ vs.0, vs.1))
  regroup W k v (Ok x) = refl
  regroup W k v (Err rest) = refl

  regroup-item : (W : Type 0) (k : List V × List A → Outcome A W) (o : Outcome A V)
      (others : V × List A → Outcome A (List V)) → (o >>= λ v. ((others v >>= λ vs. Ok
      (v.0 ∷ vs.0, vs.1)) >>= k)) ≡ ((o >>= λ v. others v >>= λ vs. Ok (v.0 ∷ vs.0, vs.1)) >>= k)
  regroup-item W k (Ok x) others = refl
  regroup-item W k (Err rest) others = refl

  reads-chain : (most : ℕ) (W : Type 0) (K : List V → Form A W) (k : List V × List A → Outcome A W)
      (s : S) (text : List A) → length text ≤ most
      → ((vs : List V) (rest : List A) → length rest ≤ length text → Reads (K vs) rest (k (vs, rest)))
      → ((vs : List V) (c : A) (t : List A) (w : W) → K vs (c ∷ t) w → goes_on c → ⊥)
      → Reads (before W K s) text (chain_at separator item_at step done most s text >>= k)
  reads-chain zero W K k s [] le reads ends = reads-end W K k s [] (done s) refl (λ c rest e. absurd (cc e)) reads
  reads-chain zero W K k s (c ∷ text) le reads ends = absurd (omega arith)
  reads-chain (suc most) W K k s [] le reads ends = reads-end W K k s [] (done s) refl (λ c rest e. absurd (cc e)) reads
  reads-chain (suc most) W K k s (c ∷ text) le reads ends =
      decided (separator s c) refl (λ s' K' k' text'. reads-chain most W K' k' s' text') where
        decided : (found : Option T) → separator s c ≡ found
            → ((s' : S) (K' : List V → Form A W) (k' : List V × List A → Outcome A W)
            (text' : List A) → length text' ≤ most
            → ((vs : List V) (rest : List A) → length rest ≤ length text' → Reads (K' vs) rest (k' (vs, rest)))
            → ((vs : List V) (c : A) (t : List A) (w : W) → K' vs (c ∷ t) w → goes_on c → ⊥)
            → Reads (before W K' s') text' (chain_at separator item_at step done most s' text' >>= k'))
            → Reads (before W K s) (c ∷ text) (elim found [
              | Some tag ↦ item_at s tag text >>= λ v. chain_at separator item_at step done most
                  (step s v.0) v.1 >>= λ vs. Ok (v.0 ∷ vs.0, vs.1)
              | None ↦ ends_at (done s) (c ∷ text)
            ] >>= k)
        decided None e next = reads-end W K k s (c ∷ text) (done s) refl (λ d rest is. let same : c
            ≡ d = cc is in subst (λ x. separator s x ≡ None) same e) reads
        decided (Some tag) e next = reads-step (before W K s)
            (Then (item s tag) (λ v. before W (λ vs. K (v ∷ vs)) (step s v))) c text
            (item_at s tag text >>= (λ v. chain_at separator item_at step done most (step s v.0) v.1
            >>= λ vs. Ok (v.0 ∷ vs.0, vs.1)) >>= k)
            (linked W K s c tag e)
            (λ t w h. elim (cut W K s (c ∷ t) w h) [
              | none may k ↦ absurd (ends [] c t w k (on_separator s c (tag, e)))
              | some d tag' rest is listed h ↦
                  let same : d ≡ c = cc is in
                  let tags : tag' ≡ tag = (let both : Some tag' ≡ Some tag =
                  sym listed ∙ ap (separator s) same ∙ e in cc both) in
                  let rests : rest ≡ t = cc is in
                  subst (λ x. Then (item s tag) (λ v. before W (λ vs. K (v ∷ vs)) (step s v)) x w) rests
                  (subst (λ x. Then (item s x) (λ v. before W (λ vs. K (v ∷ vs)) (step s v)) rest w)
                  tags h)
            ])
            (subst (λ o. Reads (Then (item s tag) (λ v. before W (λ vs. K (v ∷ vs)) (step s v))) text o)
            (regroup-item W k (item_at s tag text) (λ v. chain_at separator item_at step done most (step s v.0) v.1))
            ((items s tag).before W (λ v. before W (λ vs. K (v ∷ vs)) (step s v)) (λ v.
            (chain_at separator item_at step done most (step s v.0) v.1 >>= λ vs. Ok (v.0 ∷ vs.0, vs.1))
            >>= k) text
            (λ v rest shorter. subst (λ o. Reads (before W (λ vs. K (v ∷ vs)) (step s v)) rest o)
            (sym (regroup W k v (chain_at separator item_at step done most (step s v) rest)))
            (next (step s v) (λ vs. K (v ∷ vs)) (λ vs. k (v ∷ vs.0, vs.1)) rest (omega arith) (λ vs left
            le. reads (v ∷ vs) left (omega arith)) (λ vs d t w h on. ends (v ∷ vs) d t w h on)))
            (λ v d t w h on. elim (cut W (λ vs. K (v ∷ vs)) (step s v) (d ∷ t) w h) [
              | none may k ↦ ends (v ∷ []) d t w k (on_item d on)
              | some d' tag' rest is listed h ↦ apart (step s v) d
                  (tag', (let same : d' ≡ d = cc is in subst (λ x. separator (step s v) x ≡ Some tag') same listed)) on
            ])))

  pub reader-chain : (s : S) → Reader (Chain separator item step done s)
      (λ text. chain_at separator item_at step done (length text) s text) goes_on
  unfolding before
  reader-chain s =
      record {
        before = λ W K k text reads ends. reads-chain (length text) W K k s text (le_refl (length text)) reads ends;
      }

-- the items behind the first, with one kind of separator between them
abbrev others : {A T V : Type 0} → (A → Option T) → Form A V → Form A (List V)
others separator item = Chain {S = Unit {0}} (λ s. separator) (λ s tag. item) (λ s v. s) (λ s. true) tt

abbrev others_at : {A T V : Type 0} → (A → Option T) → (List A → Outcome A V) → List A → Outcome A (List V)
others_at separator item_at text = chain_at {S = Unit {0}} (λ s. separator) (λ s tag. item_at)
    (λ s v. s) (λ s. true) (length text) tt text

others-first : {A T V : Type 0} (separator : A → Option T) (item : Form A V) (vs : List V) (c : A)
    (t : List A) → others separator item (c ∷ t) vs → IsListed separator c
others-first separator item [] c t h = absurd (cc (h.0))
others-first separator item (v ∷ vs) c t h = let same : c ≡ h.symbol = cc (h.parts) in
    (h.tag, ap separator same ∙ h.separated)

-- Items of one form, with one kind of separator between them.
pub reader-joined : {A T V : Type 0} (separator : A → Option T) (item : Form A V) (item_at : List A
    → Outcome A V) (goes_on item_on : A → Type 0)
    → Reader item item_at item_on → ((c : A) → IsListed separator c → item_on c → ⊥)
    → ((c : A) → item_on c → goes_on c) → ((c : A) → IsListed separator c → goes_on c)
    → Reader (joined separator item) (joined_at separator item_at) goes_on
reader-joined {A} {T} {V} separator item item_at goes_on item_on ri apart on_item on_separator =
    reader-then item (λ first. Then (others separator item) (λ vs. Spell (first ∷ vs))) item_at
    (λ first. others_at separator item_at first.1 >>= λ vs. Ok (first.0 ∷ vs.0, vs.1)) item_on
    goes_on ri
    (λ first. reader-map (others separator item) (others_at separator item_at) goes_on (λ vs. first ∷ vs) others-reader)
    (λ first c s vs h on. not-first first c s vs h on)
    (λ first vs h c on. on_item c on) where
      others-reader : Reader (others separator item) (others_at separator item_at) goes_on
      others-reader = reader-chain {S = Unit {0}} (λ s. separator) (λ s tag. item)
          (λ s tag. item_at) (λ s v. s) (λ s. true) goes_on item_on (λ s tag. ri)
          (λ s c h on. apart c h on) on_item (λ s c h. on_separator c h)
          (λ s. viable-by [] [] (refl, refl)) tt

      not-first : (first : V) (c : A) (s : List A) (vs : List V)
          → Then (others separator item) (λ vs. Spell (first ∷ vs)) (c ∷ s) vs → item_on c → ⊥
      not-first first c s vs h on = elim (then-begins (others separator item)
          (λ vs. Spell (first ∷ vs)) c h.front h.behind s h.parts) [
            | inl e ↦ absurd (let p : c ∷ s ≡ [] = e.1 ∙ h.of_next.empty in cc p)
            | inr e ↦ apart c (others-first separator item h.v c e.0
                (subst (λ t. others separator item t h.v) e.1 h.of_first)) on
          ]

-- a chain of items begins with a separator
pub firsts-chain : {A T S V : Type 0} (separator : S → A → Option T) (item : S → T → Form A V)
    (step : S → V → S) (done : S → Bool) (s : S)
    → Firsts (Chain separator item step done s) (IsListed (separator s))
firsts-chain separator item step done s = record { first = λ c t vs h. begins-chain c t vs h } where
  begins-chain : (c : _) (t : List _) (vs : List _) → Chain separator item step done s (c ∷ t) vs
      → IsListed (separator s) c
  begins-chain c t [] h = absurd (cc (h.0))
  begins-chain c t (v ∷ vs) h = let same : c ≡ h.symbol = cc (h.parts) in (h.tag, ap (separator s) same ∙ h.separated)
