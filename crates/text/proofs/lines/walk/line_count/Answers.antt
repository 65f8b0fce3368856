use Rattle.std.proofs.Common.{length, Ok, sym, ap, ◌∙◌, ap₂, arith}
use Rattle.text.specs.Parts.{cut_at}
use Rattle.text.specs.Lines.{left, lines_in, shown_line}
use Rattle.text.proofs.Counting.{total, next_some, total_some, lines_law}
use Rattle.text.proofs.lines.walk.line_count.Goals as goal

pub returns-in_err-next-clause-law : goal.returns-in_err-next-clause-law
returns-in_err-next-clause-law c = lines_law c.args.sheet.now

pub loop-smaller : goal.loop-smaller
loop-smaller c =
    let e = sym c.next.ensures.answer ∙ ap shown_line (c.in_ok-next.was ∙ ap Ok c.in-Some.is) in
    let h = next_some c.loop.lines.read (left c.loop.lines) _ e in
    omega (arith, h.1, ap length c.next.ensures.left)

pub loop-preserved : goal.loop-preserved
loop-preserved c =
    let e = sym c.next.ensures.answer ∙ ap shown_line (c.in_ok-next.was ∙ ap Ok c.in-Some.is) in
    ap₂ (λ n bs. total n (lines_in n (cut_at 10 bs))) c.next.ensures.read c.next.ensures.left ∙ sym (total_some c.loop.lines.read (left c.loop.lines) _ e) ∙ c.loop.invariant

pub returns-clause-law : goal.returns-clause-law
returns-clause-law c = lines_law c.args.sheet.now
