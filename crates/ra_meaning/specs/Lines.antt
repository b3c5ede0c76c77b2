-- The printed line of an event: docs/DEFINITIONS.md, "Printed lines".
use Rattle.std.specs.Prelude.{◌≡◌, ℕ, List, [], ◌∷◌, codes, decimal}
use Rattle.std.specs.Fmt.{signed_decimal}
use Rattle.std.specs.List.{flat_map}
use Rattle.ra_value_format.specs.Formats.{formatted, HasDigits}
use Rattle.ra_meaning.specs.declared.event.Event.{Event}
use Rattle.ra_meaning.specs.declared.event.Event.TheVariants.{Measured, Primed, Unprimed, Unlock, Start, Track, Cancel}
use Rattle.ra_meaning.specs.declared.event.Event.TheVariants.{Submit}
pub use Rattle.ra_meaning.specs.LineOf.{line_of}

-- the line of an event at the frame of this number
abbrev pub event_line : (frame : ℕ) → Event → List ℕ
event_line frame (Measured id number) = line_of (codes "measured" ∷ decimal frame ∷ decimal id ∷ decimal number ∷ [])
event_line frame (Primed id) = line_of (codes "primed" ∷ decimal frame ∷ decimal id ∷ [])
event_line frame (Unprimed id) = line_of (codes "unprimed" ∷ decimal frame ∷ decimal id ∷ [])
event_line frame (Unlock id) = line_of (codes "unlock" ∷ decimal frame ∷ decimal id ∷ [])
event_line frame (Start id) = line_of (codes "start" ∷ decimal frame ∷ decimal id ∷ [])
event_line frame (Track id number format) =
    line_of (codes "track" ∷ decimal frame ∷ decimal id ∷ formatted format number ∷ [])
event_line frame (Cancel id) = line_of (codes "cancel" ∷ decimal frame ∷ decimal id ∷ [])
event_line frame (Submit id number format) =
    line_of (codes "submit" ∷ decimal frame ∷ decimal id ∷ signed_decimal number ∷ formatted format number ∷ [])

-- the lines of events at the frame of this number
abbrev pub event_lines : (frame : ℕ) → List Event → List ℕ
event_lines frame events = flat_map (event_line frame) events

-- the text is the lines of these events, at the frame of some number
pub record IsTextOf (text : List ℕ) (events : List Event) : Type 0 where
  pub frame : ℕ
  pub is : text ≡ event_lines frame events

-- the format of an event's number, if it has one, has digits
abbrev pub HasEventDigits : Event → Type 0
HasEventDigits (Track id number format) = HasDigits format
HasEventDigits (Submit id number format) = HasDigits format
HasEventDigits _ = Unit {0}
