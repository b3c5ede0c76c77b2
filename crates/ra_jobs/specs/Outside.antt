-- What is seen of the files and the sink before and after a call: docs/DEFINITIONS.md, "What each status says".
use Rattle.std.specs.Prelude.{◌≡◌, ℕ, Option, List, Any, is_some, true}
use Rattle.std.specs.List.{AllByRecursion}
use Rattle.ra_io.specs.Causes.{Rose}
use Rattle.ra_io.specs.Sink.{grown}

-- what is seen of the files and the sink
pub record Outside : Type 0 where
  -- the bytes of a name, where the files tell them, and how often its reads and puts failed
  pub content : List ℕ → Option (List ℕ)
  pub read_faults : List ℕ → ℕ
  pub put_faults : List ℕ → ℕ
  -- the text, where the sink tells it, and how often its writes failed
  pub text : Option (List ℕ)
  pub faults : ℕ

-- what files and a sink show
abbrev pub outside_of : (content : List ℕ → Option (List ℕ)) → (read_faults put_faults : List ℕ → ℕ)
    → (text : Option (List ℕ)) → (faults : ℕ) → Outside
outside_of content read_faults put_faults text faults =
    record { content = content; read_faults = read_faults; put_faults = put_faults; text = text; faults = faults }

-- a count of one of these names rose
abbrev pub AnyRose : (before now : List ℕ → ℕ) → List (List ℕ) → Type 0
AnyRose before now names = Any (λ name. Rose (before name) (now name)) names

-- a read of one of these names failed in the call
abbrev pub ReadsRose : List (List ℕ) → Outside → Outside → Type 0
ReadsRose names old new = AnyRose old.read_faults new.read_faults names

-- a put of one of these names failed in the call
abbrev pub PutsRose : List (List ℕ) → Outside → Outside → Type 0
PutsRose names old new = AnyRose old.put_faults new.put_faults names

-- a write failed in the call
abbrev pub SinkRose : Outside → Outside → Type 0
SinkRose old new = Rose old.faults new.faults

-- the text grew by some bytes, where the sink tells it
abbrev pub GrewBy : Outside → Outside → List ℕ → Type 0
GrewBy old new more = new.text ≡ grown old.text more

-- the bytes of each of these names are told
abbrev pub AreTold : (content : List ℕ → Option (List ℕ)) → List (List ℕ) → Type 0
AreTold content names = AllByRecursion (λ name. is_some (content name) ≡ true) names
