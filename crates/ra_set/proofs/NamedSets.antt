-- A set has a name for each item, and one for its script where there is one.
use Rattle.std.proofs.Common.{◌∙◌, ℕ, List, length, map, get_or, Option, Some, None, option_map, refl, sym, ap, subst}
use Rattle.std.proofs.Common.{subst₂}
use Rattle.std.specs.Prelude.{All}
use Rattle.std.proofs.lemmas.List.{length-map}
use Rattle.std.proofs.lemmas.List.Elements.{All-map}
use Rattle.md5.specs.Md5.{md5}
use Rattle.md5.proofs.StandardFacts.{length-md5}
use Rattle.ra_richpresence.specs.Contents.{ScriptContents}
use Rattle.ra_richpresence.specs.Grammar.{ScriptParts, script_of}
use Rattle.ra_set.specs.Accepted.{IsSet}
use Rattle.ra_set.specs.Contents.{SetContents}
use Rattle.ra_set.specs.Names.{HasZeroNames, IsName, IsNamed, IsScriptText, NamesScript, zero_name}
use Rattle.ra_set.specs.Texts.{item_texts, script_text}
use Rattle.ra_set.proofs.ItemTexts.{texts-spelled}

-- a digest is a name
all-names : (texts : List (List ℕ)) → All IsName (map md5 texts)
all-names texts = All-map IsName md5 texts (λ k d less. length-md5 (get_or texts k d))

-- the name of a text that stands where a script does
script-named : (text : Option (List ℕ)) (parts : Option ScriptParts) → IsScriptText text parts
    → NamesScript (option_map md5 text) (option_map script_of parts)
script-named None None is = tt
script-named None (Some parts) is = absurd is
script-named (Some text) None is = absurd is
script-named (Some text) (Some parts) is = length-md5 text

-- a set is named
pub set-named : (file : List ℕ) (set : SetContents) → IsSet file set → IsNamed set
set-named file set s = let told = texts-spelled file s.spelled.contents s.spelled.spelled in record {
  count = ap length s.item_names ∙ length-map (item_texts file) md5 ∙ told.count ∙ sym (ap length s.spelled.items);
  items = subst (All IsName) (sym s.item_names) (all-names (item_texts file));
  script = subst₂ NamesScript (sym s.script_name) (sym s.spelled.script)
      (script-named (script_text file) s.spelled.contents.script told.script);
}

-- zeros stand where a script does
zeros-script : (script : Option ScriptContents) → NamesScript (option_map (λ script. zero_name) script) script
zeros-script None = tt
zeros-script (Some script) = refl

-- and so is a set whose names are zeros
pub zeros-named : (set : SetContents) → HasZeroNames set → IsNamed set
zeros-named set zeros = record {
  count = ap length zeros.items ∙ length-map set.items (λ item. zero_name);
  items = subst (All IsName) (sym zeros.items) (All-map IsName (λ item. zero_name) set.items (λ k d less. refl));
  script = subst (λ name. NamesScript name set.script) (sym zeros.script) (zeros-script set.script);
}
