-- Bytes cut into parts at a byte.
use Rattle.std.specs.Prelude.{◌≡◌, ℕ, ◌↔◌, List, [], ◌==◌, ◌≢◌}
use Rattle.std.specs.List.{AllByRecursion, before_first, slice_split, join_with_byte}

-- the bytes before the first byte `mark`; all of them where there is none
abbrev pub before : ℕ → List ℕ → List ℕ
before mark bytes = before_first (λ b. b == mark) bytes

-- the parts between the bytes `mark`, first to last: always one more than there are bytes `mark`
abbrev pub cut_at : ℕ → List ℕ → List (List ℕ)
cut_at mark bytes = slice_split (λ b. b == mark) bytes

-- the parts with a byte `mark` between each two
abbrev pub joined_by : ℕ → List (List ℕ) → List ℕ
joined_by mark parts = join_with_byte mark parts

-- no byte of the part is `mark`
abbrev pub Lacks : ℕ → List ℕ → Type 0
Lacks mark part = AllByRecursion (λ b. b ≢ mark) part

-- what makes a list of parts the cut of some bytes: there is one, none holds a byte `mark`, and joined they are the bytes
pub record Parted (mark : ℕ) (bytes : List ℕ) (parts : List (List ℕ)) : Type 0 where
  pub some : parts ≡ [] → ⊥
  pub lack : AllByRecursion (Lacks mark) parts
  pub join : joined_by mark parts ≡ bytes

-- bytes are cut in one way only
abbrev pub PartsLaw : ℕ → List ℕ → Type 0
PartsLaw mark bytes = (parts : List (List ℕ)) → Parted mark bytes parts ↔ (parts ≡ cut_at mark bytes)
