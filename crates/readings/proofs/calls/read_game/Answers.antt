use Rattle.std.proofs.Common.{◌≡◌, ◌≤◌, length, Ok, ◌∙◌, ap₂, rules}
use Rattle.std.proofs.lemmas.List.{length-map}
use Rattle.records.specs.Places.{place_shown}
use Rattle.readings.proofs.SheetLaws.{game_law}
use Rattle.readings.proofs.Showing.{both_parts, first_length, same_seen, filled_seen, counts_fit}
use Rattle.readings.proofs.calls.read_game.Given.{Over}
use Rattle.readings.proofs.calls.read_game.Goals as goal
use Rattle.readings.proofs.calls.read_game.Goals.{In-Ok}

-- the entries that are filled lie in the tables
fits-at : (g : Over) (c : In-Ok g) → (c.in-Ok.counts.places ≤ length c.fill_game.new.places) × (c.in-Ok.counts.rules ≤ length c.fill_game.new.rules)
fits-at g c =
    let p : length c.fill_game.new.places ≡ length c.args.places.now = search rules in
    let r : length c.fill_game.new.rules ≡ length c.args.rules.now = search rules in
    let f = counts_fit _ c.in-Ok.counts _ _ _ _ c.in-Ok.ensures (simp length-map p) (simp length-map r) in
    (simp length-map at f.0, simp length-map at f.1)

pub parted-requires : goal.parted-requires
parted-requires g c = let f = fits-at g (goal.at.parted-requires g c).In-Ok in record { places = f.0; rules = f.1 }

pub returns-in-Ok : goal.returns-in-Ok
returns-in-Ok g c =
    let f = fits-at g (goal.at.returns-in-Ok g c).In-Ok in
    let e = c.parted.ensures in
    let filled = filled_seen _ _ _ _ _ _ c.in-Ok.ensures in
    record {
      read = same_seen
          (ap₂ (λ m n. Ok (record { places = m; rules = n })) (first_length _ _ _ e.places f.0) (first_length _ _ _ e.rules f.1))
          (both_parts place_shown _ _ _ _ e.places e.unfilled)
          (both_parts g.R.RuleRow.holds _ _ _ _ e.rules e.unused)
          ∙ filled;
      law = game_law _ _ _ _;
    }

pub returns-in-Err : goal.returns-in-Err
returns-in-Err g c = record {
  read = filled_seen _ _ _ _ _ _ c.in-Err.ensures;
  law = game_law _ _ _ _;
}
