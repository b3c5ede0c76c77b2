-- What a set says of a trace needs no name, and a set without names may be played.
use Rattle.std.proofs.Common.{◌≡◌, ◌∙◌, ◌<◌, ℕ, zero, suc, ◌+◌, List, [], ◌∷◌, map, replicate, take, Option, None, Some}
use Rattle.std.proofs.Common.{option_map, Result, ap, ap₂, refl, subst, sym, arith}
use Rattle.std.specs.Prelude.{IfSome}
use Rattle.std.specs.Bool.{⊤}
use Rattle.std.specs.List.{AllByRecursion}
use Rattle.std.specs.Result.{IsErrOf}
use Rattle.ra_io.specs.Causes.{Rose}
use Rattle.ra_memory.specs.Image.{History}
use Rattle.ra_richpresence.specs.Contents.{ScriptContents}
use Rattle.ra_set.specs.Accepted.{IsSet, named_by}
use Rattle.ra_set.specs.Contents.{ItemContents, SetContents}
use Rattle.ra_set.specs.Names.{HasZeroNames, zero_name}
use Rattle.ra_set.specs.Spelled.{IsSpelled}
use Rattle.ra_set.proofs.NamedSets.{set-named, zeros-named}
use Rattle.ra_lint.proofs.AltCounts.{few_alts}
use Rattle.ra_progress.specs.Contents.{Opening}
use Rattle.ra_progress.specs.Names.{IsName}
use Rattle.ra_trace.specs.Entries.{Entry, Framed, Shown}
use Rattle.ra_meaning.specs.Earned.{Earned}
use Rattle.ra_meaning.specs.Play.{Moment, earned_next, earns, lines, moved, pieces_from, printed}
use Rattle.ra_meaning.specs.OpeningLaws.{HasDigests}
use Rattle.ra_session.specs.Closing.{EndsBefore}
use Rattle.ra_session.specs.Expected.{played}
use Rattle.ra_session.specs.Failures.{ending_at}
use Rattle.ra_session.specs.Loading.{BeginsAt, IsTakenUnnamed}
use Rattle.ra_jobs.specs.Outside.{Outside, SinkRose}
use Rattle.ra_session.specs.Playing.{IsPlayable}
use Rattle.ra_session.specs.declared.ending.Ending.{Ending}
use Rattle.ra_session.specs.declared.failures.TraceFailed.{TraceFailed}
use Rattle.ra_session.specs.declared.failures.TraceFailed.TheVariants as failed
use Rattle.ra_session.proofs.JobLemmas.{PlayedSet}
use Rattle.ra_session.proofs.RunLemmas.{digests_of, ends_same, set_read}

module _ (text : List ℕ) (c : SetContents) (o : Opening) where
  same_lines : (history : History) (earned : Earned) → lines c o history earned
      ≡ lines (named_by text c) o history earned
  same_lines [] earned = refl
  same_lines (image ∷ earlier) earned = refl

  same_prints : (entry : Entry) (m : Moment) (earned : Earned)
      → printed c o entry m earned ≡ printed (named_by text c) o entry m earned
  same_prints Framed m earned = same_lines m.behind earned
  same_prints Shown m earned = refl
  same_prints _ m earned = refl

  same_earns : (history : History) (earned : Earned) → earns c o history earned
      ≡ earns (named_by text c) o history earned
  same_earns [] earned = refl
  same_earns (image ∷ earlier) earned = refl

  same_next : (entry : Entry) (m : Moment) (earned : Earned)
      → earned_next c o entry m earned ≡ earned_next (named_by text c) o entry m earned
  same_next Framed m earned = same_earns m.behind earned
  same_next _ m earned = refl

  same_pieces : (m : Moment) (earned : Earned) (entries : List Entry)
      → pieces_from c o m earned entries ≡ pieces_from (named_by text c) o m earned entries
  same_pieces m earned [] = refl
  same_pieces m earned (entry ∷ entries) =
      ap₂ (λ x xs. x ∷ xs) (same_prints entry (moved entry m) earned)
      (same_pieces (moved entry m) (earned_next c o entry (moved entry m) earned) entries
      ∙ ap (λ next. pieces_from (named_by text c) o (moved entry m) next entries)
      (same_next entry (moved entry m) earned))

  -- what is played of a set without names is what is played of it with those of a text
  pub same_ends : (behind : History) (earned : Earned) (bytes : List ℕ) (reads puts sink : Type 0) (ending : Ending)
      (old new : Option (List ℕ)) → EndsBefore (played c o behind earned bytes) reads puts sink ending old new
      → EndsBefore (played (named_by text c) o behind earned bytes) reads puts sink ending old new
  same_ends behind earned bytes reads puts sink ending old new before =
      ends_same (played c o behind earned bytes) (played (named_by text c) o behind earned bytes) reads puts sink ending
      old new (same_pieces _ earned _) refl refl before

-- ---- a set without names may be played

zeros_fit : (n : ℕ) → AllByRecursion (λ b. b < 256) (replicate n 0)
zeros_fit zero = tt
zeros_fit (suc n) = (omega arith, zeros_fit n)

zeros_name : IsName zero_name
zeros_name = record { long = refl; fit = zeros_fit 16 }

each_zero : (items : List ItemContents) → AllByRecursion IsName (map (λ item. zero_name) items)
each_zero [] = tt
each_zero (item ∷ items) = (zeros_name, each_zero items)

script_zero : (script : Option ScriptContents) → IfSome (option_map (λ script. zero_name) script) IsName
script_zero None = tt
script_zero (Some script) = zeros_name

-- zeros are digests
zero_digests : (set : SetContents) → HasZeroNames set → HasDigests set
zero_digests set zeros = record {
  digest = subst IsName (sym zeros.digest) zeros_name;
  items = subst (AllByRecursion IsName) (sym zeros.items) (each_zero set.items);
  script = subst (λ name. IfSome name IsName) (sym zeros.script) (script_zero set.script);
}

-- the set of a file may be played, and so may it without its names
pub set_playable : (text : List ℕ) (set : SetContents) → IsSet text set → IsSpelled set → IsPlayable set
set_playable text set is spelled = record {
  limits = is.limits;
  spelled = spelled;
  named = set-named text set is;
  digests = digests_of text set is;
  alts = few_alts text set is;
}

pub unnamed_taken : (text : List ℕ) (file : Option (List ℕ)) (c : SetContents)
    → ((bytes : List ℕ) → file ≡ Some bytes → text ≡ take 4194305 bytes)
    → IsSet text (named_by text c) → IsSpelled c → HasZeroNames c → IsTakenUnnamed file c
unnamed_taken text file c read is spelled zeros = record {
  playable = record {
    limits = record { items = is.limits.items; conditions = is.limits.conditions; script = is.limits.script };
    spelled = spelled;
    named = zeros-named c zeros;
    digests = zero_digests c zeros;
    alts = few_alts text (named_by text c) is;
  };
  text = text;
  taken = record {
    playable = set_playable text (named_by text c) is (record { items = spelled.items; script = spelled.script });
    is_set = λ bytes told. set_read text bytes (named_by text c) (read bytes told) is;
  };
}

-- what was played of a set without names was played of the set of its file
pub plays_unnamed : {T : Type 0} (set trace : List ℕ) (old new : Outside) (c : SetContents) (r : Result T TraceFailed)
    → (un : IsTakenUnnamed (old.content set) c)
    → ((bytes : List ℕ) (o : Opening) (behind : History) (earned : Earned) → old.content trace ≡ Some bytes
    → BeginsAt c None o behind earned
    → EndsBefore (played c o behind earned bytes) ⊤ ⊤ ⊤ (ending_at r) old.text new.text)
    → (IsErrOf r failed.Read → Rose (old.read_faults trace) (new.read_faults trace))
    → (IsErrOf r failed.Write → SinkRose old new)
    → PlayedSet set trace None None old new {T = T} (named_by un.text c) None r
plays_unnamed set trace old new c r un prints read wrote = record {
  loaded = record { taken = un.taken; accepted = tt; of_file = refl };
  printed = λ bytes o behind earned told at.
      same_ends un.text c o behind earned bytes ⊤ ⊤ ⊤ (ending_at r) old.text new.text
      (prints bytes o behind earned told at);
  read = read;
  wrote = wrote;
}
