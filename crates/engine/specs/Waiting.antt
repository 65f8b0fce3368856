-- The waiting list: an entry for each rule, 0 for a rule that does not wait and anything else for one that waits. Assumes nothing.
use Rattle.std.specs.Prelude.{ℕ, List, ◌++◌, drop, replicate}

-- the list with the entries of so many rules set to a value; the rest stays
unfoldable pub filled : ℕ → ℕ → List ℕ → List ℕ
filled rules value waiting = replicate rules value ++ drop rules waiting

-- every rule waits
abbrev pub all_wait : ℕ → List ℕ → List ℕ
all_wait rules waiting = filled rules 1 waiting

-- no rule waits
abbrev pub none_wait : ℕ → List ℕ → List ℕ
none_wait rules waiting = filled rules 0 waiting
