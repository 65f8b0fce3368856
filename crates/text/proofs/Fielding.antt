-- One field handed out.
use Rattle.std.proofs.Common.{◌≡◌, ℕ, ◌+◌, ◌<◌, ◌≤◌, List, ◌∷◌, length, take, drop, Some, None, Option, ap, ◌∙◌, sym, arith, length-drop}
use Rattle.std.proofs.lemmas.List.{take_rest, drop-drop, take_all}
use Rattle.std.specs.Borrow.{Bor}
use Rattle.std.specs.Slice.{IsGetRangeResult}
use Rattle.text.specs.Parts.{before}
use Rattle.text.specs.Fields.{fields_of, fields_in}
use Rattle.text.proofs.Cutting.{cut_found, cut_whole}

-- the first field is what stands before the tab, and the others are those of what follows it, if anything is left
pub next_field : (rest : List ℕ) (n : ℕ) (behind : List ℕ) (after : Option (Bor (List ℕ))) → n ≡ length (before 9 rest) → behind ≡ drop n rest
    → IsGetRangeResult behind 1 (length behind) after → fields_of rest ≡ take n rest ∷ fields_in after
next_field rest n behind None is e got =
    let h : length rest ≤ n = omega (arith, got.0, ap length e, length-drop n rest) in
    cut_whole 9 rest n is h ∙ ap (λ field. field ∷ fields_in None) (sym (take_all n rest h))
next_field rest n behind (Some after) is e got =
    let h : n < length rest = omega (arith, got.0, ap length e, length-drop n rest) in
    let r : after.now ≡ drop (n + 1) rest = got.0.2 ∙ take_rest behind 1 ∙ ap (drop 1) e ∙ drop-drop 1 n rest in
    cut_found 9 rest n is h ∙ ap (λ (bs : List ℕ). take n rest ∷ fields_of bs) (sym r)
