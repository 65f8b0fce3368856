-- The four ways of one call of the line reader.
use Rattle.std.proofs.Common.{◌≡◌, ℕ, ◌+◌, ◌-◌, ◌<◌, ◌≤◌, cond, ltb, List, [], ◌∷◌, length, take, drop, Some, Ok, Err, sym, refl, ap, ◌∙◌, arith}
use Rattle.std.proofs.lemmas.List.{take_rest, drop-drop, length-take-le}
use Rattle.std.proofs.lemmas.Bool.Decides.{nat_tests}
use Rattle.text.specs.declared.fault.TextFault.TheVariants.{Unended, TooLong}
use Rattle.text.specs.Parts.{before, cut_at, joined_by}
use Rattle.text.specs.Lines.{stay, end_step, step_of, line_next}
use Rattle.text.proofs.Cutting.{before_le, cut_some, cut_found, cut_whole, cut_joined}

module _ (read : ℕ) (bs : List ℕ) where
  lacks_end : (line : List ℕ) → (length line ≡ 0 → ⊥) → end_step read bs line ≡ stay (Err (Unended (read + 1))) read bs
  lacks_end [] some = absurd (some refl)
  lacks_end (b ∷ line) some = refl

  -- a line that another part follows
  step_found : (line rest : List ℕ) → step_of read bs (line ∷ cut_at 10 rest) ≡ cond (ltb 1024 (length line)) (stay (Err (TooLong (read + 1))) read bs) (record { answer = Ok (Some line); left = rest; read = read + 1 })
  step_found line rest =
      let s = cut_some 10 rest in
      ap (λ (ps : List (List ℕ)). step_of read bs (line ∷ ps)) s.2 ∙ ap (λ (r : List ℕ). cond (ltb 1024 (length line)) (stay (Err (TooLong (read + 1))) read bs) (record { answer = Ok (Some line); left = r; read = read + 1 })) (ap (joined_by 10) (sym s.2) ∙ cut_joined 10 rest)

  module _ (n : ℕ) (is : n ≡ length (before 10 bs)) where
    found : n < length bs → line_next read bs ≡ cond (ltb 1024 n) (stay (Err (TooLong (read + 1))) read bs) (record { answer = Ok (Some (take n bs)); left = drop (n + 1) bs; read = read + 1 })
    found h =
        ap (step_of read bs) (cut_found 10 bs n is h) ∙ step_found (take n bs) (drop (n + 1) bs)
        ∙ ap (λ (m : ℕ). cond (ltb 1024 m) (stay (Err (TooLong (read + 1))) read bs) (record { answer = Ok (Some (take n bs)); left = drop (n + 1) bs; read = read + 1 })) (length-take-le n bs (omega arith))

    whole : length bs ≤ n → (length bs ≡ 0 → ⊥) → line_next read bs ≡ cond (ltb 1024 (length bs)) (stay (Err (TooLong (read + 1))) read bs) (stay (Err (Unended (read + 1))) read bs)
    whole h some = ap (step_of read bs) (cut_whole 10 bs n is h) ∙ ap (cond (ltb 1024 (length bs)) (stay (Err (TooLong (read + 1))) read bs)) (lacks_end bs some)

    too_long : 1024 < n → stay (Err (TooLong (read + 1))) read bs ≡ line_next read bs
    too_long h = grind (arith, nat_tests, found, whole, before_le 10 bs)

    unended : n ≤ 1024 → length bs ≤ n → (length bs ≡ 0 → ⊥) → stay (Err (Unended (read + 1))) read bs ≡ line_next read bs
    unended h l some = grind (arith, nat_tests, whole l some)

    ended : n ≤ 1024 → n < length bs → record { answer = Ok (Some (take n bs)); left = drop (n + 1) bs; read = read + 1 } ≡ line_next read bs
    ended h l = grind (arith, nat_tests, found l)

-- the same of what the code holds: `&sheet[offset..]` for what is left, and the offset moved on
module _ (read : ℕ) (sheet : List ℕ) (offset : ℕ) where
  abbrev rest : List ℕ
  rest = take (length sheet - offset) (drop offset sheet)

  rest_is : rest ≡ drop offset sheet
  rest_is = take_rest sheet offset

  module _ (n : ℕ) (is : n ≡ length (before 10 rest)) (some : length rest ≡ 0 → ⊥) where
    there : n ≡ length (before 10 (drop offset sheet))
    there = is ∙ ap (λ (r : List ℕ). length (before 10 r)) rest_is

    pub reads_too_long : 1024 < n → stay (Err (TooLong (read + 1))) read (drop offset sheet) ≡ line_next read (drop offset sheet)
    reads_too_long h = too_long read (drop offset sheet) n there h

    pub reads_unended : n ≤ 1024 → length rest ≤ n → stay (Err (Unended (read + 1))) read (drop offset sheet) ≡ line_next read (drop offset sheet)
    reads_unended h l = unended read (drop offset sheet) n there h (rw rest_is at l) (rw rest_is at some)

    pub reads_line : n ≤ 1024 → n < length rest → record { answer = Ok (Some (take n rest)); left = drop (offset + (n + 1)) sheet; read = read + 1 } ≡ line_next read (drop offset sheet)
    reads_line h l =
        ap (λ (line : List ℕ). record { answer = Ok (Some line); left = drop (offset + (n + 1)) sheet; read = read + 1 }) (ap (take n) rest_is)
        ∙ ap (λ (more : List ℕ). record { answer = Ok (Some (take n (drop offset sheet))); left = more; read = read + 1 }) (sym (drop-drop (n + 1) offset sheet))
        ∙ ended read (drop offset sheet) n there h (rw rest_is at l)
