-- Which rules wait. Assumes nothing.
use Rattle.std.specs.Prelude.{ℕ, zero, suc, cond, List, [], ◌∷◌}
use Rattle.books.specs.Boards.{has}
use Rattle.books.specs.Meaning.{Meaning}

-- of n rules from the rule r on, those that have the place wait, which is 1 in their entry; the others' entries and the rest of the list stay
abbrev pub woken_from : {S : Type 0} → Meaning S → ℕ → ℕ → ℕ → List ℕ → List ℕ
woken_from book place zero r waiting = waiting
woken_from book place (suc n) r [] = []
woken_from book place (suc n) r (w ∷ waiting) = cond (has place (book.rule r).scope) 1 w ∷ woken_from book place n (suc r) waiting

-- every rule of the book that has the place waits
abbrev pub woken : {S : Type 0} → Meaning S → ℕ → List ℕ → List ℕ
woken book place waiting = woken_from book place book.rules 0 waiting
