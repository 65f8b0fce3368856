-- Fields read two by two. Assumes nothing.
use Rattle.std.specs.Prelude.{ℕ, ◌+◌, List, [], ◌∷◌, ◌++◌, map, Ok, Err, Result}
use Rattle.rules.specs.declared.few.Few.{Few}
use Rattle.rules.specs.Fews.{listed}
use Rattle.records.specs.Steps.{then}

-- what fields come to, two by two, from the field f on, behind what is read already; a last field alone is followed by an empty one
abbrev pub twos_from : {T E : Type 0} → (ℕ → List T → List ℕ → List ℕ → Result T E) → ℕ → List T → List (List ℕ) → Result (List T) E
twos_from read f ts [] = Ok ts
twos_from read f ts (a ∷ []) = then (read f ts a []) (λ t. Ok (ts ++ (t ∷ [])))
twos_from read f ts (a ∷ (b ∷ fields)) = then (read f ts a b) (λ t. twos_from read (f + 2) (ts ++ (t ∷ [])) fields)

-- an item that was read, and all of them, by what they show
abbrev pub shown_item : {T S E : Type 0} → (T → S) → Result T E → Result S E
shown_item shows (Ok item) = Ok (shows item)
shown_item shows (Err fault) = Err fault

abbrev pub shown_items : {T S E : Type 0} {N : ℕ} → (T → S) → Result (Few T N) E → Result (List S) E
shown_items shows (Ok items) = Ok (map shows (listed items))
shown_items shows (Err fault) = Err fault
