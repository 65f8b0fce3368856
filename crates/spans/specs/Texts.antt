-- Spans as text. Assumes nothing.
use Rattle.std.specs.Prelude.{ℕ, zero, suc, cond, List, [], ◌∷◌, ◌++◌}
use Rattle.std.specs.Fmt.{decimal, signed_decimal}
use Rattle.spans.specs.Masks.{tokens, bit}
use Rattle.spans.specs.declared.amount.Amount.{Amount}
use Rattle.spans.specs.declared.choice.Choice.{Choice}

-- an amount is written as its floor, two dots and its ceiling
abbrev pub amount_text : Amount → List ℕ
amount_text a = signed_decimal a.floor ++ 46 ∷ 46 ∷ signed_decimal a.ceiling

-- the first n tokens that a mask has, rising, with a space before each
unfoldable pub tokens_text : ℕ → ℕ → List ℕ
tokens_text mask zero = []
tokens_text mask (suc n) = tokens_text mask n ++ cond (bit mask n) (32 ∷ decimal n) []

-- a choice is written as its tokens, rising, between braces, with spaces between
unfoldable pub choice_text : Choice → List ℕ
choice_text c = 123 ∷ (tokens_text c.mask tokens ++ 32 ∷ 125 ∷ [])
