-- Tables filled entry by entry. Assumes nothing.
use Rattle.std.proofs.Common.{◌≡◌, ℕ, ◌+◌, ◌<◌, ◌≤◌, List, [], ◌∷◌, ◌++◌, length, take, drop, set, Some, None, Ok, Err, Option, Result, sym, refl, ap, ◌∙◌, arith}
use Rattle.std.proofs.lemmas.List.{take-append-drop, length-take-le, drop-set-lt, drop-drop}
use Rattle.std.proofs.lemmas.Bool.{cond-true, cond-false, lt-ltb, le-ltb}
use Rattle.text.specs.declared.fault.FieldFault.{FieldFault}
use Rattle.sheets.specs.declared.fault.SheetFault.{SheetFault}
use Rattle.sheets.specs.declared.fault.SheetFault.TheVariants.{Field, Full}
use Rattle.sheets.specs.declared.title.SpanKind.{SpanKind}
use Rattle.records.specs.Places.{Place}
use Rattle.records.specs.Rules.{Row}
use Rattle.records.specs.RuleLines.{rule_line_of}
use Rattle.records.specs.Steps.{then}
use Rattle.readings.specs.Lines.{Line, whole, long, unended, next_of, lines_after, read_after, raised}
use Rattle.readings.specs.Readings.{Reading, stopped, fits, rules_from}
use Rattle.readings.specs.Tables.{laid, answered}

-- a table whose first entries are filled, and whose others are as they were, is those entries laid over what it was
module _ {X : Type 0} (xs old : List X) (count : ℕ) (some : count ≤ length xs) (rest : drop count xs ≡ drop count old) where
  pub laid_first : xs ≡ laid (take count xs) old
  laid_first =
      sym (take-append-drop count xs)
      ∙ ap (λ ys. take count xs ++ ys) rest
      ∙ ap (λ n. take count xs ++ drop n old) (sym (length-take-le count xs some))

  -- one entry more
  pub rest_more : (x : X) → drop (count + 1) (set xs count x) ≡ drop (count + 1) old
  rest_more x = drop-set-lt (count + 1) xs count x (omega arith) ∙ sym (drop-drop 1 count xs) ∙ ap (drop 1) rest ∙ drop-drop 1 count old

-- what a reader's answer says of the lines that were left
pub record NextLine (ls : List Line) (n : ℕ) (bytes : List ℕ) : Type 0 where
  pub first : ls ≡ whole bytes ∷ lines_after ls
  pub count : read_after n ls ≡ n + 1

pub next_whole : (ls : List Line) (n : ℕ) (bytes : List ℕ) → ◌≡◌ {A = Result (Option (List ℕ)) FieldFault} (Ok (Some bytes)) (raised (next_of n ls)) → NextLine ls n bytes
next_whole [] n bytes e = let z : ◌≡◌ {A = ℕ} 0 1 = cc in absurd (omega arith)
next_whole (whole cs ∷ ls) n bytes e = record { first = cc; count = refl }
next_whole (long ∷ ls) n bytes e = let z : ◌≡◌ {A = ℕ} 0 1 = cc in absurd (omega arith)
next_whole (unended ∷ ls) n bytes e = let z : ◌≡◌ {A = ℕ} 0 1 = cc in absurd (omega arith)

pub next_none : (ls : List Line) (n : ℕ) → ◌≡◌ {A = Result (Option (List ℕ)) FieldFault} (Ok None) (raised (next_of n ls)) → (ls ≡ []) × (read_after n ls ≡ n)
next_none [] n e = (refl, refl)
next_none (whole cs ∷ ls) n e = let z : ◌≡◌ {A = ℕ} 0 1 = cc in absurd (omega arith)
next_none (long ∷ ls) n e = let z : ◌≡◌ {A = ℕ} 0 1 = cc in absurd (omega arith)
next_none (unended ∷ ls) n e = let z : ◌≡◌ {A = ℕ} 0 1 = cc in absurd (omega arith)

-- what a reading comes to, for a table that shows xs after it and showed `old` before it
pub record ToldOf (reading : Reading) (answer : Result ℕ SheetFault) (xs old : List Row) : Type 0 where
  pub answer_is : answer ≡ answered (length reading.rules) reading.fault
  pub rules_are : xs ≡ laid reading.rules old

-- `count` entries of a table are filled with rules, after n lines, and the lines that are left come to what all lines come to
pub record Held (kind : SpanKind) (room : ℕ) (ps : List Place) (n count : ℕ) (xs old : List Row) (ls : List Line) (all : Reading) : Type 0 where
  pub inv : rules_from kind room ps n (take count xs) ls ≡ all
  pub rest : drop count xs ≡ drop count old
  pub some : count ≤ length xs

module _ {kind : SpanKind} {room : ℕ} {ps : List Place} {n count : ℕ} {xs old : List Row} {ls : List Line} {all : Reading} (held : Held kind room ps n count xs old ls all) where
  inv : rules_from kind room ps n (take count xs) ls ≡ all
  inv = held.inv

  rest : drop count xs ≡ drop count old
  rest = held.rest

  some : count ≤ length xs
  some = held.some

  filled : length (take count xs) ≡ count
  filled = length-take-le count xs some

  stop : (f : SheetFault) (m : ℕ) → rules_from kind room ps n (take count xs) ls ≡ stopped ps (take count xs) m f → ToldOf all (Err f) xs old
  stop f m e =
      let w : all ≡ stopped ps (take count xs) m f = sym inv ∙ e in
      record {
        answer_is = ap (λ (r : Reading). answered (length r.rules) r.fault) (sym w);
        rules_are = laid_first xs old count some rest ∙ ap (λ (r : Reading). laid r.rules old) (sym w);
      }

  -- no line is left
  pub rules_end : ls ≡ [] → ToldOf all (Ok count) xs old × (all.lines ≡ n)
  rules_end e =
      let w : all ≡ record { places = ps; rules = take count xs; lines = n; fault = None } = sym inv ∙ ap (rules_from kind room ps n (take count xs)) e in (
        record {
          answer_is = ap Ok (sym filled) ∙ ap (λ (r : Reading). answered (length r.rules) r.fault) (sym w);
          rules_are = laid_first xs old count some rest ∙ ap (λ (r : Reading). laid r.rules old) (sym w);
        },
        ap (λ (r : Reading). r.lines) w,
      )

  -- the text of the next line has a fault
  pub rules_text : (f : FieldFault) → ◌≡◌ {A = Result (Option (List ℕ)) FieldFault} (Err f) (raised (next_of n ls)) → ToldOf all (Err (Field f)) xs old
  rules_text f e = stop (Field f) n (go ls e)
    where
      go : (ks : List Line) → ◌≡◌ {A = Result (Option (List ℕ)) FieldFault} (Err f) (raised (next_of n ks)) → rules_from kind room ps n (take count xs) ks ≡ stopped ps (take count xs) n (Field f)
      go [] e = let z : ◌≡◌ {A = ℕ} 0 1 = cc in absurd (omega arith)
      go (whole bytes ∷ ks) e = let z : ◌≡◌ {A = ℕ} 0 1 = cc in absurd (omega arith)
      go (long ∷ ks) e = cc
      go (unended ∷ ks) e = cc

  -- the next line is whole, and the line number is the one handed to the reader of rules
  module _ (bytes : List ℕ) (later : List Line) (line : ℕ) (is : ls ≡ whole bytes ∷ later) (number : line ≡ n + 1) where
    turn : (r : Result Row SheetFault) → then (rule_line_of kind ps line bytes) (fits room count line) ≡ r
        → rules_from kind room ps n (take count xs) ls ≡ elim r as (λ _. Reading) [ Ok x ↦ rules_from kind room ps line (take count xs ++ (x ∷ [])) later | Err f ↦ stopped ps (take count xs) n f ]
    turn r e =
        ap (rules_from kind room ps n (take count xs)) is
        ∙ ap (λ m. elim (then (rule_line_of kind ps m bytes) (fits room (length (take count xs)) m)) as (λ _. Reading) [ Ok x ↦ rules_from kind room ps m (take count xs ++ (x ∷ [])) later | Err f ↦ stopped ps (take count xs) n f ]) (sym number)
        ∙ ap (λ k. elim (then (rule_line_of kind ps line bytes) (fits room k line)) as (λ _. Reading) [ Ok x ↦ rules_from kind room ps line (take count xs ++ (x ∷ [])) later | Err f ↦ stopped ps (take count xs) n f ]) filled
        ∙ ap (λ s. elim s as (λ _. Reading) [ Ok x ↦ rules_from kind room ps line (take count xs ++ (x ∷ [])) later | Err f ↦ stopped ps (take count xs) n f ]) e

    pub rule_refused : (f : SheetFault) → Err f ≡ rule_line_of kind ps line bytes → ToldOf all (Err f) xs old
    rule_refused f e = stop f n (turn (Err f) (ap (λ r. then r (fits room count line)) (sym e)))

    pub rules_full : (x : Row) → Ok x ≡ rule_line_of kind ps line bytes → room ≤ count → ToldOf all (Err (Full line)) xs old
    rules_full x e h = stop (Full line) n (turn (Err (Full line)) (ap (λ r. then r (fits room count line)) (sym e) ∙ cond-false _ _ _ (le-ltb count room h)))

    pub rule_added : (m : ℕ) (x : Row) (ys : List Row) → line ≡ m → Ok x ≡ rule_line_of kind ps line bytes → count < room → take (count + 1) ys ≡ take count xs ++ (x ∷ []) → rules_from kind room ps m (take (count + 1) ys) later ≡ all
    rule_added m x ys is e h s =
        ap (λ k. rules_from kind room ps k (take (count + 1) ys) later) (sym is)
        ∙ ap (λ rs. rules_from kind room ps line rs later) s
        ∙ sym (turn (Ok x) (ap (λ r. then r (fits room count line)) (sym e) ∙ cond-true _ _ _ (lt-ltb count room h)))
        ∙ inv
