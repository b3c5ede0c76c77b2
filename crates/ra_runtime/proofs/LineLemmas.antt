-- The words of lines, put at the end of a text.
use Rattle.std.proofs.Common.{◌≡◌, ◌∙◌, ℕ, List, [], ◌∷◌, ◌++◌, ap, sym, append_assoc}
use Rattle.std.proofs.lemmas.List.Concat.{flat_map-append}
use Rattle.ra_meaning.specs.declared.event.Event.{Event}
use Rattle.ra_meaning.specs.Lines.{event_line, event_lines, line_of}
use Rattle.ra_runtime.specs.Told.{GrewByFront}

pub head_words : (out word frame id : List ℕ) → ((((out ++ word) ++ 32 ∷ []) ++ frame) ++ 32 ∷ [])
    ++ id ≡ out ++ (word ++ 32 ∷ (frame ++ 32 ∷ id))
head_words out word frame id = simp append_assoc

pub change_words : (out word frame id : List ℕ) → (out ++ (word ++ 32 ∷ (frame ++ 32 ∷ id))) ++ 10
    ∷ [] ≡ out ++ line_of (word ∷ frame ∷ id ∷ [])
change_words out word frame id = simp append_assoc

pub number_words : (out word frame id text : List ℕ) → (((out ++ (word ++ 32 ∷ (frame ++ 32 ∷ id)))
    ++ 32 ∷ []) ++ text) ++ 10 ∷ [] ≡ out ++ line_of (word ∷ frame ∷ id ∷ text ∷ [])
number_words out word frame id text = simp append_assoc

pub submit_words : (out word frame id value text : List ℕ)
    → (((((out ++ (word ++ 32 ∷ (frame ++ 32 ∷ id))) ++ 32 ∷ []) ++ value) ++ 32 ∷ []) ++ text)
    ++ 10 ∷ [] ≡ out ++ line_of (word ∷ frame ∷ id ∷ value ∷ text ∷ [])
submit_words out word frame id value text =
    let front = (out ++ (word ++ 32 ∷ (frame ++ 32 ∷ id))) ++ 32 ∷ [] in
    ap (λ t. t ++ 10 ∷ []) (append_assoc (front ++ value) (32 ∷ []) text
    ∙ append_assoc front value (32 ∷ text)) ∙ number_words out word frame id (value ++ 32 ∷ text)

-- the lines of some first events are a front of those of all
pub front_of : (frame : ℕ) (old new : List ℕ) (before behind all : List Event) → new ≡ old ++
    event_lines frame before → all ≡ before ++ behind → GrewByFront old new (event_lines frame all)
front_of frame old new before behind all grew is = record {
  front = event_lines frame before;
  rest = event_lines frame behind;
  whole = sym (flat_map-append (event_line frame) before behind) ∙ ap (event_lines frame) (sym is);
  grew = grew;
}
