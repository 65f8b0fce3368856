-- The lines that a byte 10 ends, and the rule lines among them, one by one. Assumes nothing.
use Rattle.std.proofs.Common.{◌≡◌, ℕ, suc, zero, ◌+◌, ◌<◌, Bool, List, [], ◌∷◌, ◌++◌, length, take, drop, Some, None, Option, filter, sym, ap, ◌∙◌, arith, length-drop}
use Rattle.std.proofs.lemmas.List.{take_rest, drop-drop}
use Rattle.std.proofs.lemmas.List.Elements.{filter-append}
use Rattle.std.specs.Borrow.{Bor}
use Rattle.std.specs.List.{slice_get}
use Rattle.std.specs.Prelude.{slice_index_or}
use Rattle.std.specs.Option.{option_map, unwrap_or}
use Rattle.std.specs.Slice.{IsGetRangeResult}
use Rattle.text.specs.Parts.{before, cut_at}
use Rattle.text.proofs.Cutting.{cut_some, cut_found, cut_whole}
use Rattle.readings.specs.RuleLines.{but_last, ended_lines}

-- a part that others follow is an ended line
ended_more : (line rest : List ℕ) → but_last (line ∷ cut_at 10 rest) ≡ line ∷ ended_lines rest
ended_more line rest =
    let s = cut_some 10 rest in
    ap (λ (ps : List (List ℕ)). but_last (line ∷ ps)) s.2 ∙ ap (λ (ps : List (List ℕ)). line ∷ but_last ps) (sym s.2)

-- one call of the walk over them: where no byte 10 is left there is none, and else the first is what stands before it
module _ (rest : List ℕ) (n : ℕ) (behind : List ℕ) (is : n ≡ length (before 10 rest)) (e : behind ≡ drop n rest) where
  pub none_ended : (after : Option (Bor (List ℕ))) → after ≡ None → IsGetRangeResult behind 1 (length behind) after → ended_lines rest ≡ []
  none_ended None p got = ap but_last (cut_whole 10 rest n is (omega (arith, got.0, ap length e, length-drop n rest)))
  none_ended (Some bs) p got = cc

  pub first_ended : (after : Option (Bor (List ℕ))) (bs : Bor (List ℕ)) → after ≡ Some bs → IsGetRangeResult behind 1 (length behind) after → ended_lines rest ≡ take n rest ∷ ended_lines bs.now
  first_ended None bs p got = cc
  first_ended (Some x) bs p got =
      let h : n < length rest = omega (arith, got.0, ap length e, length-drop n rest) in
      let q : x ≡ bs = cc in
      let r : bs.now ≡ drop (n + 1) rest = sym (ap (λ (y : Bor (List ℕ)). y.now) q) ∙ got.0.2 ∙ take_rest behind 1 ∙ ap (drop 1) e ∙ drop-drop 1 n rest in
      ap but_last (cut_found 10 rest n is h) ∙ ended_more (take n rest) (drop (n + 1) rest) ∙ ap (λ (y : List ℕ). take n rest ∷ ended_lines y) (sym r)

-- the line with a number among those that pass, in two lists of lines
got_or_none : (r : Option (Bor (List ℕ))) (d : Bor (List ℕ)) (ls : List (List ℕ)) (n : ℕ) → d.now ≡ [] → option_map (λ (x : Bor (List ℕ)). x.now) r ≡ slice_get ls n → (unwrap_or r d).now ≡ slice_index_or ls n []
got_or_none None d [] n z e = z
got_or_none None d (l ∷ ls) zero z e = cc
got_or_none None d (l ∷ ls) (suc n) z e = got_or_none None d ls n z e
got_or_none (Some x) d [] n z e = cc
got_or_none (Some x) d (l ∷ ls) zero z e = cc
got_or_none (Some x) d (l ∷ ls) (suc n) z e = got_or_none (Some x) d ls n z e

pub numbered : (test : List ℕ → Bool) (r : Option (Bor (List ℕ))) (d : Bor (List ℕ)) (ls ms : List (List ℕ)) (n : ℕ) → d.now ≡ [] → option_map (λ (x : Bor (List ℕ)). x.now) r ≡ slice_get (filter test (ls ++ ms)) n
    → (unwrap_or r d).now ≡ slice_index_or (filter test ls ++ filter test ms) n []
numbered test r d ls ms n z e = got_or_none r d (filter test (ls ++ ms)) n z e ∙ ap (λ (xs : List (List ℕ)). slice_index_or xs n []) (filter-append test ls ms)

-- the same, for a number that equals the one that is counted to
pub numbered_as : (test : List ℕ → Bool) (r : Option (Bor (List ℕ))) (d : Bor (List ℕ)) (ls ms : List (List ℕ)) (n m : ℕ) → d.now ≡ [] → option_map (λ (x : Bor (List ℕ)). x.now) r ≡ slice_get (filter test (ls ++ ms)) n → n ≡ m
    → (unwrap_or r d).now ≡ slice_index_or (filter test ls ++ filter test ms) m []
numbered_as test r d ls ms n m z e is = numbered test r d ls ms n z e ∙ ap (λ (k : ℕ). slice_index_or (filter test ls ++ filter test ms) k []) is
