-- Lists of a few items, held in place. Assumes nothing.
use Rattle.std.specs.Prelude.{◌≡◌, ℕ, List, ◌++◌, length, take, drop, replicate}
use Rattle.rules.specs.declared.few.Few.{Few}

-- the items of a list
abbrev pub listed : {A : Type 0} {N : ℕ} → Few A N → List A
listed few = take few.count few.held

-- so many entries that begin with the items; past the last item each is the blank one
abbrev pub filled : {A : Type 0} → ℕ → A → List A → List A
filled n blank items = items ++ drop (length items) (replicate n blank)

-- the list has just these items, and holds blank entries past them
abbrev pub FewOf : {A : Type 0} (N : ℕ) → A → List A → Few A N → Type 0
FewOf N blank items few = (few.count ≡ length items) × (few.held ≡ filled N blank items)
