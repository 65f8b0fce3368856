-- A sheet's lines: what a reader's calls come to, and the law of lines.
use Rattle.std.proofs.Common.{◌≡◌, ℕ, ◌+◌, ◌<◌, ◌≤◌, Bool, true, false, cond, ltb, List, [], ◌∷◌, ◌++◌, length, Some, None, Ok, Err, Option, Result, sym, refl, ap, ◌∙◌, subst, arith}
use Rattle.std.proofs.lemmas.List.{length-append}
use Rattle.std.proofs.lemmas.Bool.{cond-false, ltb-false, le-ltb}
use Rattle.std.specs.List.{AllByRecursion}
use Rattle.text.specs.declared.fault.TextFault.{TextFault}
use Rattle.text.specs.declared.fault.TextFault.TheVariants.{TooBig, TooLong}
use Rattle.text.specs.Parts.{cut_at, joined_by, Lacks, Parted}
use Rattle.text.specs.Lines.{stay, end_step, step_of, line_next, ending, infront, line_then, lines_in, sheet_lines, ended, Lined, LinesLaw}
use Rattle.text.proofs.Cutting.{cut_joined, cut_lacks, joined_cut, cut_some, parts_law}

-- the lines that are left, by what the next call answers
abbrev pub by_answer : ℕ → Result (Option (List ℕ)) TextFault → List ℕ → Result (List (List ℕ)) TextFault
by_answer read (Ok None) left = Ok []
by_answer read (Ok (Some line)) left = infront line (lines_in read (cut_at 10 left))
by_answer read (Err fault) left = Err fault

-- one call of the reader, and what is left after it, come to all that was left
pub lines_step : (read : ℕ) (left : List ℕ) → let s = line_next read left in lines_in read (cut_at 10 left) ≡ by_answer s.read s.answer s.left
lines_step read left = go (cut_at 10 left) (cut_lacks 10 left)
  where
    last : (t : Bool) (line : List ℕ) → let s = cond t (stay (Err (TooLong (read + 1))) read left) (end_step read left line) in cond t (Err (TooLong (read + 1))) (ending read line) ≡ by_answer s.read s.answer s.left
    last true line = refl
    last false [] = refl
    last false (b ∷ line) = refl

    more_lines : (t : Bool) (line rest : List ℕ) (ps : List (List ℕ)) → ps ≡ cut_at 10 rest → let s = cond t (stay (Err (TooLong (read + 1))) read left) (record { answer = Ok (Some line); left = rest; read = read + 1 }) in cond t (Err (TooLong (read + 1))) (infront line (lines_in (read + 1) ps)) ≡ by_answer s.read s.answer s.left
    more_lines true line rest ps e = refl
    more_lines false line rest ps e = ap (λ (qs : List (List ℕ)). infront line (lines_in (read + 1) qs)) e

    go : (parts : List (List ℕ)) → AllByRecursion (Lacks 10) parts → let s = step_of read left parts in lines_in read parts ≡ by_answer s.read s.answer s.left
    go [] h = refl
    go (line ∷ []) h = last (ltb 1024 (length line)) line
    go (line ∷ (next ∷ more)) h = more_lines (ltb 1024 (length line)) line (joined_by 10 (next ∷ more)) (next ∷ more) (sym (joined_cut 10 next more h.1.0 h.1.1))

-- the lines that are found after `read` of them, counted with those
abbrev pub total : ℕ → Result (List (List ℕ)) TextFault → Result ℕ TextFault
total read (Ok lines) = Ok (read + length lines)
total read (Err fault) = Err fault

pub total_infront : (read : ℕ) (line : List ℕ) (r : Result (List (List ℕ)) TextFault) → total read (infront line r) ≡ total (read + 1) r
total_infront read line (Ok lines) = ap Ok (omega arith)
total_infront read line (Err fault) = refl

-- a line handed out is counted, and there is less left
pub next_some : (read : ℕ) (left line : List ℕ) → (line_next read left).answer ≡ Ok (Some line) → ((line_next read left).read ≡ read + 1) × (length (line_next read left).left < length left)
next_some read left line e = go (cut_at 10 left) (cut_joined 10 left) e
  where
    last : (t : Bool) (l : List ℕ) → let s = cond t (stay (Err (TooLong (read + 1))) read left) (end_step read left l) in s.answer ≡ Ok (Some line) → ⊥
    last true l e = cc
    last false [] e = cc
    last false (b ∷ l) e = cc

    more_lines : (t : Bool) (l rest : List ℕ) → length rest < length left → let s = cond t (stay (Err (TooLong (read + 1))) read left) (record { answer = Ok (Some l); left = rest; read = read + 1 }) in s.answer ≡ Ok (Some line) → (s.read ≡ read + 1) × (length s.left < length left)
    more_lines true l rest h e = cc
    more_lines false l rest h e = (refl, h)

    go : (parts : List (List ℕ)) → joined_by 10 parts ≡ left → let s = step_of read left parts in s.answer ≡ Ok (Some line) → (s.read ≡ read + 1) × (length s.left < length left)
    go [] j e = cc
    go (l ∷ []) j e = absurd (last (ltb 1024 (length l)) l e)
    go (l ∷ (next ∷ more)) j e = more_lines (ltb 1024 (length l)) l (joined_by 10 (next ∷ more)) (omega (arith, ap length j, length-append l (10 ∷ joined_by 10 (next ∷ more)))) e

-- a call that hands out a line leaves the total as it was
pub total_some : (read : ℕ) (left line : List ℕ) → (line_next read left).answer ≡ Ok (Some line)
    → total read (lines_in read (cut_at 10 left)) ≡ total (line_next read left).read (lines_in (line_next read left).read (cut_at 10 (line_next read left).left))
total_some read left line e =
    let s = line_next read left in
    ap (total read) (lines_step read left ∙ ap (λ a. by_answer s.read a s.left) e) ∙ total_infront read line (lines_in s.read (cut_at 10 s.left))
    ∙ ap (λ (n : ℕ). total n (lines_in s.read (cut_at 10 s.left))) (sym (next_some read left line e).0)

-- a line that is not too long
abbrev FitsALine : List ℕ → Type 0
FitsALine line = length line ≤ 1024

-- the parts are the lines and then an empty part
abbrev Ends : List (List ℕ) → List (List ℕ) → Type 0
Ends parts lines = (parts ≡ lines ++ ([] ∷ [])) × AllByRecursion FitsALine lines

-- the parts of a sheet without a fault end so
lines_parts : (read : ℕ) (parts lines : List (List ℕ)) → (parts ≡ [] → ⊥) → lines_in read parts ≡ Ok lines → Ends parts lines
lines_parts read [] lines some e = absurd (some refl)
lines_parts read (line ∷ parts) lines some e = go (ltb 1024 (length line)) refl parts (λ ls. lines_parts (read + 1) parts ls) e
  where
    end : (l : List ℕ) → ending read l ≡ Ok lines → Ends (l ∷ []) lines
    end [] e = let same : [] ≡ lines = cc in subst (Ends ([] ∷ [])) same (refl, tt)
    end (b ∷ l) e = cc

    more_lines : (parts : List (List ℕ)) → length line ≤ 1024 → (r : Result (List (List ℕ)) TextFault) → ((ls : List (List ℕ)) → r ≡ Ok ls → Ends parts ls) → infront line r ≡ Ok lines → Ends (line ∷ parts) lines
    more_lines parts l (Ok ls) f e =
        let rest = f ls refl in
        let same : line ∷ ls ≡ lines = cc in
        subst (Ends (line ∷ parts)) same (ap (λ (ps : List (List ℕ)). line ∷ ps) rest.0, (l, rest.1))
    more_lines parts l (Err fault) f e = cc

    go : (t : Bool) → ltb 1024 (length line) ≡ t → (ps : List (List ℕ))
        → ((ls : List (List ℕ)) → (ps ≡ [] → ⊥) → lines_in (read + 1) ps ≡ Ok ls → Ends ps ls)
        → cond t (Err (TooLong (read + 1))) (line_then read line ps (lines_in (read + 1) ps)) ≡ Ok lines → Ends (line ∷ ps) lines
    go true h ps f e = cc
    go false h [] f e = end line e
    go false h (p ∷ ps) f e = more_lines (p ∷ ps) (ltb-false 1024 (length line) h) (lines_in (read + 1) (p ∷ ps)) (λ ls. f ls (λ n. cc)) e

-- and parts that end so have no fault
parts_lines : (read : ℕ) (lines : List (List ℕ)) → AllByRecursion FitsALine lines → lines_in read (lines ++ ([] ∷ [])) ≡ Ok lines
parts_lines read [] h = refl
parts_lines read (line ∷ lines) h = cond-false _ _ _ (le-ltb 1024 (length line) h.0) ∙ go lines ∙ ap (infront line) (parts_lines (read + 1) lines h.1)
  where
    go : (ls : List (List ℕ)) → line_then read line (ls ++ ([] ∷ [])) (lines_in (read + 1) (ls ++ ([] ∷ []))) ≡ infront line (lines_in (read + 1) (ls ++ ([] ∷ [])))
    go [] = refl
    go (l ∷ ls) = refl

-- lines each followed by byte 10 are those parts joined
joined_ended : (lines : List (List ℕ)) → joined_by 10 (lines ++ ([] ∷ [])) ≡ ended lines
joined_ended [] = refl
joined_ended (line ∷ []) = refl
joined_ended (line ∷ (next ∷ lines)) = ap (λ (bs : List ℕ). line ++ (10 ∷ bs)) (joined_ended (next ∷ lines))

front : (P : List ℕ → Type 0) (lines : List (List ℕ)) (l : List ℕ) → AllByRecursion P (lines ++ (l ∷ [])) → AllByRecursion P lines
front P [] l h = tt
front P (line ∷ lines) l h = (h.0, front P lines l h.1)

lacks_ended : (lines : List (List ℕ)) → AllByRecursion (Lacks 10) lines → AllByRecursion (Lacks 10) (lines ++ ([] ∷ []))
lacks_ended [] h = (tt, tt)
lacks_ended (line ∷ lines) h = (h.0, lacks_ended lines h.1)

not_empty : (lines : List (List ℕ)) → lines ++ ([] ∷ []) ≡ [] → ⊥
not_empty [] e = cc
not_empty (line ∷ lines) e = cc

pub lines_law : (sheet : List ℕ) → LinesLaw sheet
lines_law sheet lines = (to, from)
  where
    to : sheet_lines sheet ≡ Ok lines → Lined sheet lines
    to e = go (ltb 65535 (length sheet)) refl e
      where
        go : (t : Bool) → ltb 65535 (length sheet) ≡ t → cond t (Err TooBig) (lines_in 0 (cut_at 10 sheet)) ≡ Ok lines → Lined sheet lines
        go true h e = cc
        go false h e =
            let s = cut_some 10 sheet in
            let p = lines_parts 0 (cut_at 10 sheet) lines (λ n. cc) e in
            record {
              small = ltb-false 65535 (length sheet) h;
              short = p.1;
              plain = front (Lacks 10) lines [] (subst (AllByRecursion (Lacks 10)) p.0 (cut_lacks 10 sheet));
              join = sym (joined_ended lines) ∙ ap (joined_by 10) (sym p.0) ∙ cut_joined 10 sheet;
            }

    from : Lined sheet lines → sheet_lines sheet ≡ Ok lines
    from l =
        let parted : Parted 10 sheet (lines ++ ([] ∷ [])) = record { some = not_empty lines; lack = lacks_ended lines l.plain; join = joined_ended lines ∙ l.join } in
        let e = (parts_law 10 sheet (lines ++ ([] ∷ []))).0 parted in
        cond-false _ _ _ (le-ltb 65535 (length sheet) l.small) ∙ ap (lines_in 0) (sym e) ∙ parts_lines 0 lines l.short
