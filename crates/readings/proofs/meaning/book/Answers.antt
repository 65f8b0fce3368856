use Rattle.std.proofs.Common.{length, ap, ◌∙◌}
use Rattle.readings.proofs.Booking.{rows_mean}
use Rattle.readings.proofs.Opening.{places_counted}
use Rattle.readings.proofs.meaning.book.Goals as goal

pub returns : goal.returns
returns g c = record {
  places = c.new.ensures.holds.0 ∙ c.count.ensures ∙ ap length c.new-names.ensures ∙ places_counted c.args.sheet.now.places.now;
  rules = c.new.ensures.holds.1;
  law = rows_mean g.R.Span.Span-2.kind g.R.Row.boards g.R.Row.rule g.R.RuleRow.holds c.means.ensures _ _;
}
