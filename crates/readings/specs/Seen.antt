-- What a sheet that was read shows of the tables. Assumes nothing.
use Rattle.std.specs.Prelude.{ℕ, List, ◌++◌, map, length, Ok, Err, Result}
use Rattle.sheets.specs.declared.fault.SheetFault.{SheetFault}
use Rattle.records.specs.Places.{Place, place_shown}
use Rattle.records.specs.Rules.{Row}
use Rattle.readings.specs.declared.reading.Counts.{Counts}
use Rattle.readings.specs.declared.sheet.Sheet.{Sheet}
use Rattle.readings.specs.declared.sheet.Refused.{Refused}
use Rattle.readings.specs.Readings.{Reading}
use Rattle.readings.specs.Tables.{answered, counts_of, laid}

-- the answer, how many entries are filled or the fault, and the whole tables of places and rules
pub record Seen : Type 0 where
  pub answer : Result Counts SheetFault
  pub places : List Place
  pub rules : List Row

-- what a result shows, where each row holds a rule
abbrev pub seen : {R : Type 0} → (R → Row) → Result (Sheet R) (Refused R) → Seen
seen holds (Ok sheet) = record {
  answer = Ok (record { places = length sheet.places.now; rules = length sheet.rules.now });
  places = map place_shown sheet.places.now ++ map place_shown sheet.free_places.now;
  rules = map holds sheet.rules.now ++ map holds sheet.free_rules.now;
}
seen holds (Err refused) = record { answer = Err refused.fault; places = map place_shown refused.places.now; rules = map holds refused.rules.now }

-- what is to be shown of a reading, over tables that were so before it
abbrev pub shows : Reading → List Place → List Row → Seen
shows reading places rules = record {
  answer = answered (counts_of reading) reading.fault;
  places = laid reading.places places;
  rules = laid reading.rules rules;
}

-- the same of an expansion, which shows the places of its game and fills rules only
pub record Added : Type 0 where
  pub answer : Result ℕ SheetFault
  pub places : List Place
  pub rules : List Row

abbrev pub added : {R : Type 0} → (R → Row) → Result (Sheet R) (Refused R) → Added
added holds (Ok sheet) = record {
  answer = Ok (length sheet.rules.now);
  places = map place_shown sheet.places.now;
  rules = map holds sheet.rules.now ++ map holds sheet.free_rules.now;
}
added holds (Err refused) = record { answer = Err refused.fault; places = map place_shown refused.places.now; rules = map holds refused.rules.now }

abbrev pub adds : Reading → List Place → List Row → Added
adds reading places rules = record {
  answer = answered (length reading.rules) reading.fault;
  places = places;
  rules = laid reading.rules rules;
}
