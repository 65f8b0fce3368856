-- What is told where books are not joined. Assumes nothing.
use Rattle.std.specs.Prelude.{ℕ}
use Rattle.books.specs.declared.refusal.JoinRefusal.{JoinRefusal}
use Rattle.books.specs.declared.refusal.JoinRefusal.TheVariants.{OtherPlaces, TooManyRules}

-- its number
abbrev pub refusal_number : JoinRefusal → ℕ
refusal_number OtherPlaces = 20
refusal_number TooManyRules = 20
