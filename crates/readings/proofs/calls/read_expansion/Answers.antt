use Rattle.std.proofs.Common.{◌≡◌, ℕ, ◌≤◌, List, map, length, take, Ok, Result, refl, ap, ◌∙◌, rules}
use Rattle.std.proofs.lemmas.List.{length-map}
use Rattle.sheets.specs.declared.fault.SheetFault.{SheetFault}
use Rattle.records.specs.Names.{named}
use Rattle.records.specs.Places.{Place, place_shown}
use Rattle.readings.specs.Readings.{Reading, expansion_read}
use Rattle.readings.specs.Tables.{answered, laid}
use Rattle.readings.proofs.SheetLaws.{expansion_law}
use Rattle.readings.proofs.Showing.{both_parts, first_length, same_added, count_fits}
use Rattle.readings.proofs.calls.read_expansion.Given.{Over}
use Rattle.readings.proofs.calls.read_expansion.Goals as goal
use Rattle.readings.proofs.calls.read_expansion.Goals.{After-fill_expansion, In-Ok}

-- what is told of the rules, by the names of the game's places
module _ (g : Over) (c : After-fill_expansion g) where
  abbrev names : List Place
  names = take 254 (map place_shown c.args.game.now.places.now)

  abbrev read : List Place → Reading
  read ps = expansion_read g.R.RuleRow.sheets ps (length c.args.rules.now) c.args.sheet.now

  told-as : {answer : Result ℕ SheetFault} → answer ≡ answered (length (read (named c.new-names.result)).rules) (read (named c.new-names.result)).fault → answer ≡ answered (length (read names).rules) (read names).fault
  told-as e = e ∙ ap (λ ps. answered (length (read ps).rules) (read ps).fault) c.new-names.ensures

  rules-as : map g.R.RuleRow.holds c.fill_expansion.new.rules ≡ laid (read names).rules (map g.R.RuleRow.holds c.args.rules.now)
  rules-as = c.fill_expansion.ensures.rules ∙ ap (λ ps. laid (read ps).rules (map g.R.RuleRow.holds c.args.rules.now)) c.new-names.ensures

-- the rules that are filled lie in the table
fits-at : (g : Over) (c : In-Ok g) → c.in-Ok.count ≤ length c.fill_expansion.new.rules
fits-at g c =
    let r : length c.fill_expansion.new.rules ≡ length c.args.rules.now = search rules in
    let f = count_fits (expansion_read g.R.RuleRow.sheets (named c.new-names.result) (length c.args.rules.now) c.args.sheet.now) c.in-Ok.count _ _ c.in-Ok.ensures.told c.in-Ok.ensures.rules (simp length-map r) in
    simp length-map at f

pub extended-requires : goal.extended-requires
extended-requires g c = fits-at g (goal.at.extended-requires g c).In-Ok

pub returns-in-Ok : goal.returns-in-Ok
returns-in-Ok g c =
    let at = goal.at.returns-in-Ok g c in
    let d = at.After-fill_expansion in
    let e = c.extended.ensures in
    record {
      read = same_added
          (ap Ok (first_length _ _ _ e.rules (fits-at g at.In-Ok)) ∙ told-as g d c.in-Ok.ensures.told)
          (ap (λ ps. map place_shown ps.now) e.places)
          (both_parts g.R.RuleRow.holds _ _ _ _ e.rules e.unused ∙ rules-as g d);
      law = expansion_law _ _ _ _;
    }

pub returns-in-Err : goal.returns-in-Err
returns-in-Err g c =
    let d = (goal.at.returns-in-Err g c).After-fill_expansion in
    record { read = same_added (told-as g d c.in-Err.ensures.told) refl (rules-as g d); law = expansion_law _ _ _ _ }
