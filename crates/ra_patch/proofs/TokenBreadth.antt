-- A text in JSON has an array of no more items than the text has bytes.
use Rattle.std.proofs.Common.{◌≡◌, ℕ, zero, suc, ◌+◌, ◌≤◌, max, Bool, true, false, List, [], ◌∷◌, length, Option, Some}
use Rattle.std.proofs.Common.{None, option_and_then, refl, arith}
use Rattle.std.specs.Prelude.{⊤}
use Rattle.json.specs.Token.{Token, begin_object, end_object, begin_array, end_array, key, string, number, boolean}
use Rattle.json.specs.Token.{null, bad}
use Rattle.json.specs.Lex.{Lexeme, Mode, Place, fresh, after_value, after_comma, after_key, Class, lex_byte, class, lex}
use Rattle.json.specs.Lex.{begins_colon, if_allowed, place_token, punctuate, tokens}
use Rattle.json.specs.Lex as lex
use Rattle.json.specs.Json as json
use Rattle.json.specs.Json.{Json, Parse, parse_map, after_end_array, read_key, items_step, members_step, items, members}
use Rattle.json.specs.Json.{value_with, value}

-- ---- tokens

-- a text has no more lexemes than bytes
few-lexemes : (m : Mode) (text : List ℕ) → length (lex m text) ≤ length text
unfolding lex
few-lexemes m [] = omega arith
few-lexemes m (x ∷ xs) = one m (class x) (λ next. few-lexemes next xs) where
  one : (m : Mode) (c : Class) → ((next : Mode) → length (lex next xs) ≤ length xs)
      → length (lex_byte m c x xs (λ next. lex next xs)) ≤ suc (length xs)
  one lex.between lex.quote k = omega (arith, k lex.in_string)
  one lex.between lex.backslash k = omega (arith, k lex.in_word)
  one lex.between lex.operator k = omega (arith, k lex.between)
  one lex.between lex.space k = omega (arith, k lex.between)
  one lex.between lex.other k = omega (arith, k lex.in_word)
  one lex.in_word lex.quote k = omega (arith, k lex.in_word)
  one lex.in_word lex.backslash k = omega (arith, k lex.in_word)
  one lex.in_word lex.operator k = omega (arith, k lex.between)
  one lex.in_word lex.space k = omega (arith, k lex.between)
  one lex.in_word lex.other k = omega (arith, k lex.in_word)
  one lex.in_string lex.quote k = omega (arith, k lex.between)
  one lex.in_string lex.backslash k = omega (arith, k lex.in_escape)
  one lex.in_string lex.operator k = omega (arith, k lex.in_string)
  one lex.in_string lex.space k = omega (arith, k lex.in_string)
  one lex.in_string lex.other k = omega (arith, k lex.in_string)
  one lex.in_escape c k = omega (arith, k lex.in_string)

few-allowed : (b : Bool) (t : Token) (k : Place → List Token) (next : Place) (n : ℕ) → ((p : Place) → length (k p) ≤ n)
    → length (if_allowed b t k next) ≤ suc n
few-allowed true t k next n few = omega (arith, few next)
few-allowed false t k next n few = omega arith

few-placed : (p : Place) (t : Token) (b : Bool) (k : Place → List Token) (n : ℕ) → ((q : Place) → length (k q) ≤ n)
    → length (place_token p t b k) ≤ suc n
few-placed p begin_object b k n few = few-allowed _ begin_object k fresh n few
few-placed p end_object b k n few = few-allowed _ end_object k after_value n few
few-placed p begin_array b k n few = few-allowed _ begin_array k fresh n few
few-placed p end_array b k n few = few-allowed _ end_array k after_value n few
few-placed p (key s) b k n few = omega arith
few-placed p (string s) true k n few = few-allowed _ (key s) k after_key n few
few-placed p (string s) false k n few = few-allowed _ (string s) k after_value n few
few-placed p (number s) b k n few = few-allowed _ (number s) k after_value n few
few-placed p (boolean c) b k n few = few-allowed _ (boolean c) k after_value n few
few-placed p null b k n few = few-allowed _ null k after_value n few
few-placed p bad b k n few = omega arith

-- lexemes have at most one token more
few-punctuated : (ls : List Lexeme) (p : Place) → length (punctuate p ls) ≤ length ls + 1
unfolding punctuate
few-punctuated [] fresh = omega arith
few-punctuated [] after_value = omega arith
few-punctuated [] after_comma = omega arith
few-punctuated [] after_key = omega arith
few-punctuated (lex.token t ∷ ls) fresh =
    let few = few-placed fresh t (begins_colon ls) (λ next. punctuate next ls) _ (λ q. few-punctuated ls q) in
    omega (arith, few)
few-punctuated (lex.token t ∷ ls) after_value =
    let few = few-placed after_value t (begins_colon ls) (λ next. punctuate next ls) _ (λ q. few-punctuated ls q) in
    omega (arith, few)
few-punctuated (lex.token t ∷ ls) after_comma =
    let few = few-placed after_comma t (begins_colon ls) (λ next. punctuate next ls) _ (λ q. few-punctuated ls q) in
    omega (arith, few)
few-punctuated (lex.token t ∷ ls) after_key =
    let few = few-placed after_key t (begins_colon ls) (λ next. punctuate next ls) _ (λ q. few-punctuated ls q) in
    omega (arith, few)
few-punctuated (lex.comma ∷ ls) fresh = omega arith
few-punctuated (lex.comma ∷ ls) after_value = omega (arith, few-punctuated ls after_comma)
few-punctuated (lex.comma ∷ ls) after_comma = omega arith
few-punctuated (lex.comma ∷ ls) after_key = omega arith
few-punctuated (lex.colon ∷ ls) fresh = omega arith
few-punctuated (lex.colon ∷ ls) after_value = omega arith
few-punctuated (lex.colon ∷ ls) after_comma = omega arith
few-punctuated (lex.colon ∷ ls) after_key = omega (arith, few-punctuated ls fresh)

pub few-tokens : (text : List ℕ) → length (tokens text) ≤ length text + 1
few-tokens text = omega (arith, few-punctuated (lex lex.between text) fresh, few-lexemes lex.between text)

-- ---- what tokens read

-- how many items stand in an array
abbrev pub json_count : json.Items → ℕ
json_count json.no_items = 0
json_count (json.item j js) = suc (json_count js)

-- the most items of an array within
abbrev mutual
  pub json_breadth : Json → ℕ
  json_breadth json.null = 0
  json_breadth (json.boolean b) = 0
  json_breadth (json.number s) = 0
  json_breadth (json.string s) = 0
  json_breadth (json.array js) = max (json_count js) (json_items_breadth js)
  json_breadth (json.object ms) = json_members_breadth ms

  pub json_items_breadth : json.Items → ℕ
  json_items_breadth json.no_items = 0
  json_items_breadth (json.item j js) = max (json_breadth j) (json_items_breadth js)

  pub json_members_breadth : json.Members → ℕ
  json_members_breadth json.no_members = 0
  json_members_breadth (json.member k j ms) = max (json_breadth j) (json_members_breadth ms)

-- what was read is no broader, and no more tokens are left
abbrev pub Bounded : {A : Type 0} → (A → ℕ) → ℕ → Option (A × List Token) → Type 0
Bounded f n None = ⊤
Bounded f n (Some p) = (f p.0 ≤ n) × (length p.1 ≤ n)

abbrev pub Within : {A : Type 0} → (A → ℕ) → ℕ → Parse A → Type 0
Within f n p = (ts : List Token) → length ts ≤ n → Bounded f n (p ts)

mapped : {A B : Type 0} (f : A → ℕ) (g : B → ℕ) (n : ℕ) (h : A → B) → ((a : A) → f a ≤ n → g (h a) ≤ n)
    → (o : Option (A × List Token)) → Bounded f n o → Bounded g n (parse_map h o)
mapped f g n h k None x = tt
mapped f g n h k (Some p) x = (k p.0 x.0, x.1)

and_more : {B : Type 0} (g : B → ℕ) (n : ℕ) (h : Json → B → B)
    → ((j : Json) (b : B) → g (h j b) ≡ max (json_breadth j) (g b)) → (more : Parse B) → Within g n more
    → (o : Option (Json × List Token)) → Bounded json_breadth n o
    → Bounded g n (option_and_then (λ q. parse_map (h q.0) (more q.1)) o)
and_more g n h is more within None x = tt
and_more g n h is more within (Some q) x =
    let broad = x.0 in mapped g g n (h q.0) (λ b y. omega (arith, is q.0 b)) _ (within q.1 x.1)

-- no more tokens are left behind a bracket that closes an array
abbrev Left : ℕ → Option (List Token) → Type 0
Left n None = ⊤
Left n (Some ts) = length ts ≤ n

few-after_array : (n : ℕ) (ts : List Token) → length ts ≤ n → Left n (after_end_array ts)
few-after_array n [] few = tt
few-after_array n (begin_object ∷ ts) few = tt
few-after_array n (end_object ∷ ts) few = tt
few-after_array n (begin_array ∷ ts) few = tt
few-after_array n (end_array ∷ ts) few = omega arith
few-after_array n (key s ∷ ts) few = tt
few-after_array n (string s ∷ ts) few = tt
few-after_array n (number s ∷ ts) few = tt
few-after_array n (boolean b ∷ ts) few = tt
few-after_array n (null ∷ ts) few = tt
few-after_array n (bad ∷ ts) few = tt

few-after_key : (n : ℕ) (ts : List Token) → length ts ≤ n → Bounded (λ _. 0) n (read_key ts)
few-after_key n [] few = tt
few-after_key n (begin_object ∷ ts) few = tt
few-after_key n (end_object ∷ ts) few = (omega arith, omega arith)
few-after_key n (begin_array ∷ ts) few = tt
few-after_key n (end_array ∷ ts) few = tt
few-after_key n (key s ∷ ts) few = (omega arith, omega arith)
few-after_key n (string s ∷ ts) few = tt
few-after_key n (number s ∷ ts) few = tt
few-after_key n (boolean b ∷ ts) few = tt
few-after_key n (null ∷ ts) few = tt
few-after_key n (bad ∷ ts) few = tt

module _ (n : ℕ) (p : Parse Json) (within : Within json_breadth n p) where
  item_turn : (more : Parse json.Items) → Within json_items_breadth n more → (ts : List Token) → length ts ≤ n
      → (o : Option (List Token)) → Left n o
      → Bounded json_items_breadth n (items_step p more ts o)
  item_turn more again ts few None left =
      and_more json_items_breadth n json.item (λ j b. refl) more again (p ts) (within ts few)
  item_turn more again ts few (Some r) left = (omega arith, left)

  within-items : (k : ℕ) → Within json_items_breadth n (items p k)
  unfolding items
  within-items zero ts few = tt
  within-items (suc k) ts few =
      item_turn (items p k) (within-items k) ts few (after_end_array ts) (few-after_array n ts few)

  member_turn : (more : Parse json.Members) → Within json_members_breadth n more
      → (o : Option (Option (List ℕ) × List Token)) → Bounded (λ _. 0) n o
      → Bounded json_members_breadth n (option_and_then (λ q. members_step p more q.0 q.1) o)
  member_turn more again None left = tt
  member_turn more again (Some (None, s)) left = (omega arith, left.1)
  member_turn more again (Some (Some k, s)) left =
      and_more json_members_breadth n (json.member k) (λ j b. refl) more again (p s) (within s left.1)

  within-members : (k : ℕ) → Within json_members_breadth n (members p k)
  unfolding members
  within-members zero ts few = tt
  within-members (suc k) ts few = member_turn (members p k) (within-members k) (read_key ts) (few-after_key n ts few)

-- the turns bound the items
abbrev Counts : ℕ → Option (json.Items × List Token) → Type 0
Counts k None = ⊤
Counts k (Some p) = json_count p.0 ≤ k

one-more : (k : ℕ) (j : Json) (o : Option (json.Items × List Token)) → Counts k o
    → Counts (suc k) (parse_map (json.item j) o)
one-more k j None x = tt
one-more k j (Some q) x = omega arith

count-step : (k : ℕ) (more : Parse json.Items) → ((ts : List Token) → Counts k (more ts))
    → (o : Option (Json × List Token))
    → Counts (suc k) (option_and_then (λ q. parse_map (json.item q.0) (more q.1)) o)
count-step k more counts None = tt
count-step k more counts (Some q) = one-more k q.0 (more q.1) (counts q.1)

count-turn : (p : Parse Json) (k : ℕ) (more : Parse json.Items) → ((ts : List Token) → Counts k (more ts))
    → (ts : List Token) (o : Option (List Token)) → Counts (suc k) (items_step p more ts o)
count-turn p k more counts ts (Some r) = omega arith
count-turn p k more counts ts None = count-step k more counts (p ts)

count-items : (p : Parse Json) (k : ℕ) (ts : List Token) → Counts k (items p k ts)
unfolding items
count-items p zero ts = tt
count-items p (suc k) ts = count-turn p k (items p k) (count-items p k) ts (after_end_array ts)

both : (k n : ℕ) → k ≤ n → (o : Option (json.Items × List Token)) → Counts k o → Bounded json_items_breadth n o
    → Bounded json_breadth n (parse_map json.array o)
both k n le None c b = tt
both k n le (Some p) c b = let broad = b.0 in (omega arith, b.1)

one_level : (n : ℕ) (a : Parse json.Items) (o : Parse json.Members)
    → ((ts : List Token) → length ts ≤ n → Bounded json_breadth n (parse_map json.array (a ts)))
    → ((ts : List Token) → length ts ≤ n → Bounded json_breadth n (parse_map json.object (o ts)))
    → Within json_breadth n (value_with a o)
one_level n a o p q [] few = tt
one_level n a o p q (begin_object ∷ ts) few = q ts (omega arith)
one_level n a o p q (end_object ∷ ts) few = tt
one_level n a o p q (begin_array ∷ ts) few = p ts (omega arith)
one_level n a o p q (end_array ∷ ts) few = tt
one_level n a o p q (key s ∷ ts) few = tt
one_level n a o p q (string s ∷ ts) few = (omega arith, omega arith)
one_level n a o p q (number s ∷ ts) few = (omega arith, omega arith)
one_level n a o p q (boolean b ∷ ts) few = (omega arith, omega arith)
one_level n a o p q (null ∷ ts) few = (omega arith, omega arith)
one_level n a o p q (bad ∷ ts) few = tt

-- what is read of tokens is no broader than they are many
pub within-value : (n d : ℕ) → Within json_breadth n (value d)
unfolding value
within-value n zero = one_level n (λ ts. None) (λ ts. None) (λ ts few. tt) (λ ts few. tt)
within-value n (suc d) =
    one_level n (λ ts. items (value d) (length ts) ts) (λ ts. members (value d) (length ts) ts)
    (λ ts few. both (length ts) n few _ (count-items (value d) (length ts) ts)
    (within-items n (value d) (within-value n d) (length ts) ts few))
    (λ ts few. mapped json_members_breadth json_breadth n json.object (λ ms x. x) _
    (within-members n (value d) (within-value n d) (length ts) ts few))
