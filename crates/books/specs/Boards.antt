-- Boards and holdings: one span, or one number, for each place. Assumes nothing.
use Rattle.std.specs.Prelude.{◌≡◌, ℕ, ◌<◌, Bool, false, ◌||◌, T, ◌⊎◌, List, [], ◌∷◌, length, ℤ, pos, ◌==◌, slice_index_or}
use Rattle.spans.specs.Kind.{Kind, Within}

-- x stands in the list
abbrev pub Among : {A : Type 0} → A → List A → Type 0
Among x [] = ⊥
Among x (y ∷ ys) = (x ≡ y) ⊎ Among x ys

-- the test of it, for numbers
abbrev pub has : ℕ → List ℕ → Bool
has x [] = false
has x (y ∷ ys) = x == y || has x ys

-- none stands twice
abbrev pub Distinct : {A : Type 0} → List A → Type 0
Distinct [] = Unit {0}
Distinct (x ∷ xs) = (Among x xs → ⊥) × Distinct xs

module _ {S : Type 0} (kind : Kind S) where
  -- the span of a board at a place; a place past the board has an empty one
  abbrev pub span_at : List S → ℕ → S
  span_at board p = slice_index_or board p kind.none

  -- a board of so many places, none of whose spans is empty
  pub record Full (places : ℕ) (board : List S) : Type 0 where
    pub long : length board ≡ places
    pub some : (p : ℕ) → p < places → 0 < kind.size (span_at board p)

  -- a board lies inside another: each span admits only what the other's span admits
  abbrev pub Inside : ℕ → List S → List S → Type 0
  Inside places a b = (p : ℕ) → p < places → Within kind (span_at a p) (span_at b p)

-- the number of a holding at a place
abbrev pub number_at : List ℤ → ℕ → ℤ
number_at holding p = slice_index_or holding p (pos 0)

-- a holding is on a board whose spans admit its numbers
pub record On {S : Type 0} (kind : Kind S) (places : ℕ) (holding : List ℤ) (board : List S) : Type 0 where
  pub long : length holding ≡ places
  pub admitted : (p : ℕ) → p < places → T (kind.admits (span_at kind board p) (number_at holding p))
