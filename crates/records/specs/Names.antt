-- Places by their names. Assumes nothing.
use Rattle.std.specs.Prelude.{ℕ, List, map, Some, None, Ok, Err, Option, Result}
use Rattle.std.specs.List.{position_from}
use Rattle.text.specs.declared.fault.At.{At}
use Rattle.text.specs.Names.{name_at}
use Rattle.sheets.specs.declared.fault.SheetFault.{SheetFault}
use Rattle.sheets.specs.declared.fault.SheetFault.TheVariants.{Name}
use Rattle.records.specs.declared.names.Names.{Names}
use Rattle.records.specs.Places.{Place, place_shown, has_name}
use Rattle.records.specs.Steps.{unless_fault}

-- the places whose names may be used
abbrev pub named : Names → List Place
named names = map place_shown names.places.now

-- the number of the first place with the name, where the first of the places has the number given
abbrev pub position_after : ℕ → List Place → List ℕ → Option ℕ
position_after n ps name = position_from (has_name name) n ps

-- a place that was found; 9 where there is none
abbrev pub known : At → Option ℕ → Result ℕ SheetFault
known at None = Err (Name at)
known at (Some p) = Ok p

-- the number of the place that a field names: 4 where the field is no name, 9 where no place has it
abbrev pub known_place : List Place → At → List ℕ → Result ℕ SheetFault
known_place ps at field = unless_fault (name_at at field) (λ name. known at (position_after 0 ps name))
