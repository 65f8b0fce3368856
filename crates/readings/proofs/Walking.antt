-- The line reader walks the lines of a sheet. Assumes nothing.
use Rattle.std.proofs.Common.{◌≡◌, ℕ, ◌+◌, Bool, true, false, cond, eqb, ltb, List, [], ◌∷◌, length, Some, Ok, Err, sym, refl, ap, ◌∙◌, subst, arith}
use Rattle.std.proofs.lemmas.Bool.{cond-false, ne_eqb}
use Rattle.std.specs.List.{AllByRecursion}
use Rattle.text.specs.declared.fault.TextFault.TheVariants.{TooLong}
use Rattle.text.specs.Lines.{Step, stay, end_step, step_of, line_next}
use Rattle.text.specs.Parts.{cut_at, joined_by, Lacks}
use Rattle.text.proofs.Cutting.{cut_lacks, joined_cut}
use Rattle.readings.specs.Lines.{Line, whole, long, unended, lines_from, lines_of, next_of, lines_after, read_after}

-- what one step says of the lines that are left
pub record Walks (read : ℕ) (lines : List Line) (step : Step) : Type 0 where
  pub answer : step.answer ≡ next_of read lines
  pub left : lines_of step.left ≡ lines_after lines
  pub count : step.read ≡ read_after read lines

pub walks : (read : ℕ) (left : List ℕ) → Walks read (lines_of left) (line_next read left)
walks read left = go (cut_at 10 left) refl (cut_lacks 10 left)
  where
    -- a last part that is not empty is a line without its end, and the reader stays before it
    last : (t : Bool) (b : ℕ) (line : List ℕ) → lines_from (cut_at 10 left) ≡ cond t long unended ∷ [] → Walks read (cond t long unended ∷ []) (cond t (stay (Err (TooLong (read + 1))) read left) (end_step read left (b ∷ line)))
    last true b line e = record { answer = refl; left = e; count = refl }
    last false b line e = record { answer = refl; left = e; count = refl }

    more : (t : Bool) (line : List ℕ) (next : List ℕ) (parts : List (List ℕ)) → lines_from (cut_at 10 left) ≡ cond t long (whole line) ∷ lines_from (next ∷ parts) → cut_at 10 (joined_by 10 (next ∷ parts)) ≡ next ∷ parts
        → Walks read (cond t long (whole line) ∷ lines_from (next ∷ parts)) (cond t (stay (Err (TooLong (read + 1))) read left) (record { answer = Ok (Some line); left = joined_by 10 (next ∷ parts); read = read + 1 }))
    more true line next parts e c = record { answer = refl; left = e; count = refl }
    more false line next parts e c = record { answer = refl; left = ap lines_from c; count = refl }

    go : (parts : List (List ℕ)) → cut_at 10 left ≡ parts → AllByRecursion (Lacks 10) parts → Walks read (lines_from parts) (step_of read left parts)
    go [] e l = record { answer = refl; left = ap lines_from e; count = refl }
    go ([] ∷ []) e l = record { answer = refl; left = ap lines_from e; count = refl }
    go ((b ∷ line) ∷ []) e l =
        let t = ltb 1024 (length (b ∷ line)) in
        let some = cond-false (eqb (length (b ∷ line)) 0) [] (cond t long unended ∷ []) (ne_eqb (length (b ∷ line)) 0 (λ z. omega arith)) in
        subst (λ ls. Walks read ls (step_of read left ((b ∷ line) ∷ []))) (sym some) (last t b line (ap lines_from e ∙ some))
    go (line ∷ (next ∷ parts)) e l = more (ltb 1024 (length line)) line next parts (ap lines_from e) (joined_cut 10 next parts l.1.0 l.1.1)
