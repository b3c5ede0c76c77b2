-- What is read of the lists of a document, item by item.
use Rattle.std.proofs.Common.{◌≡◌, ◌∙◌, ℕ, zero, suc, ◌+◌, ◌<◌, ◌≤◌, ◌==◌, ◌||◌, Bool, true, false, List, [], ◌∷◌, ◌++◌}
use Rattle.std.proofs.Common.{length, map, take, get_or, Option, Some, None, Result, Ok, Err, OnOk, refl, sym, ap}
use Rattle.std.proofs.Common.{subst, string_bytes, append-nil, append_assoc, length-append, arith}
use Rattle.std.specs.Cmp.{nat_eq_equiv}
use Rattle.std.specs.List.{flat_map}
use Rattle.std.proofs.lemmas.List.{length_push}
use Rattle.std.proofs.lemmas.List.Concat.{flat_map-append}
use Rattle.std.proofs.lemmas.List.Folds.{list_any-append}
use Rattle.serde_json.specs.Data.{Data}
use Rattle.serde_json.specs.View.{view}
use Rattle.serde_json.specs.declared.value.Value.{Value}
use Rattle.ra_text.specs.declared.refusals.OutOfMemory.{OutOfMemory}
use Rattle.ra_patch.specs.declared.item_kind.ItemKind.{ItemKind}
use Rattle.ra_patch.specs.declared.left_out.LeftCause.{LeftCause}
use Rattle.ra_patch.specs.declared.sifted.Sifted.{Sifted}
use Rattle.ra_patch.specs.Leaving.{IsScriptVerdict, IsVerdict, of_more, of_none, has_id, id_of, item_row, kept_item}
use Rattle.ra_patch.specs.Leaving.{line_of, script_row}
use Rattle.ra_patch.specs.Patches.{items_of, own_items}
use Rattle.ra_patch.specs.Sifting.{Puts, Sifts, SiftsScript, holds, is_kept}

-- ---- items

-- no item of a list is read
pub sifts-none : (kind : ItemKind) (start s : Sifted) → ((id : ℕ) → holds s id ≡ false) → s.count ≡ 0
    → s.text ≡ start.text
    → s.left_out ≡ start.left_out → Sifts kind start [] s
sifts-none kind start s ids count text rows = record {
  stays = [];
  left_out = [];
  leaves = of_none;
  ids = ids;
  count = count;
  text = ap string_bytes text ∙ sym (append-nil (string_bytes start.text));
  rows = ap (λ v. v.items) rows ∙ sym (append-nil start.left_out.items);
}

either : (a b : Bool) → (a || b) ≡ (b || (a || false))
either true true = refl
either true false = refl
either false true = refl
either false false = refl

-- the ids of what stays, with one item more
kept-ids : (cause : Option LeftCause) (d : Data) (stays : List Data) (id : ℕ)
    → (is_kept cause d id || has_id stays id) ≡ has_id (stays ++ kept_item cause d) id
kept-ids None d stays id =
    either (id_of d == id) (has_id stays id)
    ∙ ap (λ b. has_id stays id || (b || false)) (nat_eq_equiv.symm (id_of d) id)
    ∙ sym (list_any-append (λ e. id == id_of e) stays (d ∷ []))
kept-ids (Some cause) d stays id = ap (λ t. has_id t id) (sym (append-nil stays))

-- one item more is read
pub sifts-more : (kind : ItemKind) (start old new : Sifted) (before : List Data) (d : Data) (cause : Option LeftCause)
    (taken : Bool)
    → IsVerdict kind taken d cause → taken ≡ holds old (id_of d) → Puts kind old d cause new
    → Sifts kind start before old
    → Sifts kind start (before ++ d ∷ []) new
sifts-more kind start old new before d cause taken verdict known p s = record {
  stays = s.stays ++ kept_item cause d;
  left_out = s.left_out ++ item_row kind (length before) d cause;
  leaves = of_more before s.stays s.left_out d cause s.leaves
      (subst (λ t. IsVerdict kind t d cause) (known ∙ s.ids (id_of d)) verdict);
  ids = λ id. p.ids id ∙ ap (λ b. is_kept cause d id || b) (s.ids id) ∙ kept-ids cause d s.stays id;
  count = p.count ∙ ap (λ n. n + 1) s.count ∙ sym (length_push before d);
  text = p.text ∙ ap (λ t. t ++ flat_map (line_of kind) (kept_item cause d)) s.text
      ∙ append_assoc (string_bytes start.text) (flat_map (line_of kind) s.stays)
      (flat_map (line_of kind) (kept_item cause d))
      ∙ ap (λ t. string_bytes start.text ++ t) (sym (flat_map-append (line_of kind) s.stays (kept_item cause d)));
  rows = p.rows ∙ ap (λ t. t ++ item_row kind old.count d cause) s.rows
      ∙ append_assoc start.left_out.items s.left_out (item_row kind old.count d cause)
      ∙ ap (λ n. start.left_out.items ++ (s.left_out ++ item_row kind n d cause)) s.count;
}

-- the same of an answer
pub sifts-answer : (r : Result (Unit {0}) OutOfMemory) (kind : ItemKind) (old new : Sifted) (d : Data)
    (cause : Option LeftCause) (taken : Bool)
    → IsVerdict kind taken d cause → taken ≡ holds old (id_of d) → OnOk r (Puts kind old d cause new)
    → OnOk r ((start : Sifted) (before : List Data) → Sifts kind start before old
    → Sifts kind start (before ++ d ∷ []) new)
sifts-answer (Ok done) kind old new d cause taken verdict known p =
    λ start before s. sifts-more kind start old new before d cause taken verdict known p s
sifts-answer (Err why) kind old new d cause taken verdict known p = tt

-- ---- objects

-- the items of the objects up to one, and its own, are no more than those of all
pub items-fit : (kind : ItemKind) (vs : List Value) (i : ℕ) (x : Value) → i < length vs → x ≡ get_or vs i x
    → length (items_of kind (map view (take i vs))) + length (own_items kind (view x)) ≤ length
    (items_of kind (map view vs))
items-fit kind [] i x within is = absurd (omega arith)
items-fit kind (v ∷ vs) zero x within is =
    let all = length-append (own_items kind (view v)) (items_of kind (map view vs)) in
    let own : length (own_items kind (view x)) ≡ length (own_items kind (view v)) =
    ap (λ y. length (own_items kind (view y))) is in
    omega (arith, all, own)
items-fit kind (v ∷ vs) (suc i) x within is =
    let all = length-append (own_items kind (view v)) (items_of kind (map view vs)) in
    let front = length-append (own_items kind (view v)) (items_of kind (map view (take i vs))) in
    let others = items-fit kind vs i x (omega arith) is in
    omega (arith, all, front, others)

-- ---- the presence string

-- a presence string that is left out
pub script-out : (r : Result (Unit {0}) OutOfMemory) (script : Option (List ℕ)) (old new : Sifted) (cause : LeftCause)
    → IsScriptVerdict script (Some cause) → OnOk r (new.text ≡ old.text)
    → OnOk r (new.left_out.items ≡ old.left_out.items ++ script_row (Some cause)) → OnOk r (SiftsScript script old new)
script-out (Ok done) script old new cause verdict text rows = record {
  cause = Some cause;
  verdict = verdict;
  text = ap string_bytes text ∙ sym (append-nil (string_bytes old.text));
  rows = rows;
}
script-out (Err why) script old new cause verdict text rows = tt
