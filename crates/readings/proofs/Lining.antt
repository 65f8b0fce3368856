-- The lines of a sheet that are all ended and not too long. Assumes nothing.
use Rattle.std.proofs.Common.{◌≡◌, ℕ, ◌+◌, ◌≤◌, Bool, true, false, cond, ltb, List, [], ◌∷◌, map, length, Ok, Err, Result, sym, refl, ap, ◌∙◌, arith}
use Rattle.std.proofs.lemmas.Bool.{cond-false, le-ltb, ne_eqb}
use Rattle.text.specs.declared.fault.TextFault.{TextFault}
use Rattle.text.specs.declared.fault.TextFault.TheVariants.{TooLong}
use Rattle.text.specs.Lines.{ending, infront, lines_in, Lined}
use Rattle.text.specs.Parts.{cut_at}
use Rattle.text.proofs.Counting.{lines_law}
use Rattle.readings.specs.Lines.{Line, whole, long, unended, lines_from, lines_of}
use Rattle.readings.specs.RuleLines.{but_last, ended_lines}

-- a last part of which all lines are whole is empty, and no line
last_whole : (read : ℕ) (part : List ℕ) (lines : List (List ℕ)) → lines_from (part ∷ []) ≡ map whole lines → lines_in read (part ∷ []) ≡ Ok lines
last_whole read [] [] e = refl
last_whole read [] (line ∷ lines) e = let z : ◌≡◌ {A = ℕ} 0 1 = cc in absurd (omega arith)
last_whole read (b ∷ part) lines e = absurd (go (ltb 1024 (length (b ∷ part))) lines (sym (cond-false _ _ _ (ne_eqb (length (b ∷ part)) 0 (λ n. omega (arith, n)))) ∙ e))
  where
    go : (t : Bool) (ls : List (List ℕ)) → cond t long unended ∷ [] ≡ map whole ls → ⊥
    go true [] e = let z : ◌≡◌ {A = ℕ} 0 1 = cc in omega arith
    go true (l ∷ ls) e = let z : ◌≡◌ {A = ℕ} 0 1 = cc in omega arith
    go false [] e = let z : ◌≡◌ {A = ℕ} 0 1 = cc in omega arith
    go false (l ∷ ls) e = let z : ◌≡◌ {A = ℕ} 0 1 = cc in omega arith

-- parts of which all lines are whole have no fault
whole_read : (read : ℕ) (parts lines : List (List ℕ)) → lines_from parts ≡ map whole lines → lines_in read parts ≡ Ok lines
whole_read read [] [] e = refl
whole_read read [] (line ∷ lines) e = let z : ◌≡◌ {A = ℕ} 0 1 = cc in absurd (omega arith)
whole_read read (part ∷ []) lines e = last_whole read part lines e
whole_read read (part ∷ (next ∷ parts)) lines e = go (ltb 1024 (length part)) lines (λ ls. whole_read (read + 1) (next ∷ parts) ls) e
  where
    go : (t : Bool) (ls : List (List ℕ)) → ((ms : List (List ℕ)) → lines_from (next ∷ parts) ≡ map whole ms → lines_in (read + 1) (next ∷ parts) ≡ Ok ms)
        → cond t long (whole part) ∷ lines_from (next ∷ parts) ≡ map whole ls → cond t (Err (TooLong (read + 1))) (infront part (lines_in (read + 1) (next ∷ parts))) ≡ Ok ls
    go true [] f e = let z : ◌≡◌ {A = ℕ} 0 1 = cc in absurd (omega arith)
    go true (l ∷ ls) f e = let z : ◌≡◌ {A = ℕ} 0 1 = cc in absurd (omega arith)
    go false [] f e = let z : ◌≡◌ {A = ℕ} 0 1 = cc in absurd (omega arith)
    go false (l ∷ ls) f e =
        let same : part ≡ l = cc in
        let rest : lines_from (next ∷ parts) ≡ map whole ls = cc in
        ap (infront part) (f ls rest) ∙ ap (λ (m : List ℕ). Ok (m ∷ ls)) same

-- and the other way round; then they are all parts but the last
read_whole : (read : ℕ) (parts lines : List (List ℕ)) → lines_in read parts ≡ Ok lines → (lines_from parts ≡ map whole lines) × (but_last parts ≡ lines)
read_whole read [] lines e = let same : [] ≡ lines = cc in (ap (map whole) same, same)
read_whole read (part ∷ []) lines e = last part (ltb 1024 (length part)) e
  where
    last : (p : List ℕ) (t : Bool) → cond t (Err (TooLong (read + 1))) (ending read p) ≡ Ok lines → (lines_from (p ∷ []) ≡ map whole lines) × (but_last (p ∷ []) ≡ lines)
    last p true e = let z : ◌≡◌ {A = ℕ} 0 1 = cc in absurd (omega arith)
    last [] false e = let same : [] ≡ lines = cc in (ap (map whole) same, same)
    last (b ∷ p) false e = let z : ◌≡◌ {A = ℕ} 0 1 = cc in absurd (omega arith)
read_whole read (part ∷ (next ∷ parts)) lines e = go (ltb 1024 (length part)) (lines_in (read + 1) (next ∷ parts)) (λ ls. read_whole (read + 1) (next ∷ parts) ls) e
  where
    go : (t : Bool) (r : Result (List (List ℕ)) TextFault) → ((ms : List (List ℕ)) → r ≡ Ok ms → (lines_from (next ∷ parts) ≡ map whole ms) × (but_last (next ∷ parts) ≡ ms))
        → cond t (Err (TooLong (read + 1))) (infront part r) ≡ Ok lines
        → (cond t long (whole part) ∷ lines_from (next ∷ parts) ≡ map whole lines) × (part ∷ but_last (next ∷ parts) ≡ lines)
    go true r f e = let z : ◌≡◌ {A = ℕ} 0 1 = cc in absurd (omega arith)
    go false (Err fault) f e = let z : ◌≡◌ {A = ℕ} 0 1 = cc in absurd (omega arith)
    go false (Ok ms) f e =
        let same : part ∷ ms ≡ lines = cc in
        let rest = f ms refl in
        (ap (λ (ls : List Line). whole part ∷ ls) rest.0 ∙ ap (map whole) same, ap (λ (ls : List (List ℕ)). part ∷ ls) rest.1 ∙ same)

-- a sheet is some lines, each followed by byte 10, exactly if they are whole; then they are its ended lines
pub lined_from : (sheet : List ℕ) (lines : List (List ℕ)) → length sheet ≤ 65535 → lines_of sheet ≡ map whole lines → Lined sheet lines
lined_from sheet lines small e = (lines_law sheet lines).0 (cond-false _ _ _ (le-ltb 65535 (length sheet) small) ∙ whole_read 0 (cut_at 10 sheet) lines e)

lined_both : (sheet : List ℕ) (lines : List (List ℕ)) → Lined sheet lines → (lines_of sheet ≡ map whole lines) × (ended_lines sheet ≡ lines)
lined_both sheet lines l = read_whole 0 (cut_at 10 sheet) lines (sym (cond-false _ _ _ (le-ltb 65535 (length sheet) l.small)) ∙ (lines_law sheet lines).1 l)

pub lined_to : (sheet : List ℕ) (lines : List (List ℕ)) → Lined sheet lines → lines_of sheet ≡ map whole lines
lined_to sheet lines l = (lined_both sheet lines l).0

pub lined_ended : (sheet : List ℕ) (lines : List (List ℕ)) → Lined sheet lines → ended_lines sheet ≡ lines
lined_ended sheet lines l = (lined_both sheet lines l).1
