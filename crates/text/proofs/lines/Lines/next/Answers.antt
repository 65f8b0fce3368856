use Rattle.std.proofs.Common.{refl, rules}
use Rattle.text.proofs.Stepping.{reads_too_long, reads_unended, reads_line}
use Rattle.text.proofs.lines.Lines.next.Goals as goal

pub returns-then-n-gt-LINE_BYTES : goal.returns-then-n-gt-LINE_BYTES
returns-then-n-gt-LINE_BYTES c =
    let s = c.args.self.now in
    rw (← reads_too_long s.read s.sheet.now s.offset _ c.length_before-n.ensures.value (search rules) c.if-n-gt-LINE_BYTES.true) (record { answer = refl; left = refl; read = refl; sheet = refl })

pub returns-then-n-rest : goal.returns-then-n-rest
returns-then-n-rest c =
    let s = c.args.self.now in
    rw (← reads_unended s.read s.sheet.now s.offset _ c.length_before-n.ensures.value (search rules) c.if-n-gt-LINE_BYTES.false c.if-n-rest.true) (record { answer = refl; left = refl; read = refl; sheet = refl })

pub returns : goal.returns
returns c =
    let s = c.args.self.now in
    rw (← reads_line s.read s.sheet.now s.offset _ c.length_before-n.ensures.value (search rules) c.if-n-gt-LINE_BYTES.false c.if-n-rest.false) (record { answer = refl; left = refl; read = refl; sheet = refl })
