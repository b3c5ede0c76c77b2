-- What the conditions visited so far say together, and the outcome that it comes to: the step between the code and
-- docs/DEFINITIONS.md, "Group outcome".
use Rattle.std.specs.Prelude.{◌≡◌, ℕ, true, false, if◌then◌else◌, not, ◌&&◌, ◌||◌, Option, None, Some}
use Rattle.ra_condition.specs.declared.condition.Condition.{Condition}
use Rattle.ra_condition.specs.declared.flag.Flag.TheVariants.{Plain}
use Rattle.ra_condition.specs.Flags.{is_pause, is_reset, is_measured, is_measured_if, is_wanted, is_required}
use Rattle.ra_group.specs.declared.form.Form.{Form}
use Rattle.ra_group.specs.declared.outcome.Outcome.{Outcome}
use Rattle.ra_group.specs.declared.settled.Settled.{Settled}
use Rattle.ra_group.specs.declared.tally.Tally.{Tally}
use Rattle.ra_group.specs.Outcome.{from_total, number_of, larger, option_if}

-- what is noted before the first condition
abbrev pub no_tally : Tally
no_tally =
    record {
      paused = false;
      reset = false;
      valid = true;
      primed = true;
      counting = true;
      greatest = None;
      from_hits = false;
    }

-- the number that a condition offers, if it is measured
abbrev pub offered : Form → Condition → Settled → ℕ → Option ℕ
offered form c here left = if is_measured c.flag then Some (number_of form c here.total left) else None

-- what is noted with one condition more
abbrev pub noted : Form → Condition → Settled → ℕ → Tally → Tally
noted form c here left tally = record {
  paused = tally.paused || (is_pause c.flag && here.valid);
  reset = tally.reset || (is_reset c.flag && here.valid);
  valid = tally.valid && (not (is_required c.flag) || here.valid);
  primed = tally.primed && (not (is_wanted c.flag) || here.valid);
  counting = tally.counting && (not (is_measured_if c.flag) || here.valid);
  greatest = larger tally.greatest (offered form c here left);
  from_hits = tally.from_hits || (is_measured c.flag && from_total form c);
}

-- the outcome of a group of which each condition is noted
abbrev pub outcome_by : Tally → Outcome
outcome_by tally = record {
  paused = tally.paused;
  valid = not tally.paused && not (not tally.paused && tally.reset) && tally.valid;
  primed = not tally.paused && not (not tally.paused && tally.reset) && tally.primed;
  reset = not tally.paused && tally.reset;
  measured = if tally.paused then None else option_if tally.counting tally.greatest;
  from_hits = tally.from_hits;
}

-- a plain condition without a target
pub record IsPlain (c : Condition) : Type 0 where
  pub plain : c.flag ≡ Plain
  pub free : c.target ≡ 0
