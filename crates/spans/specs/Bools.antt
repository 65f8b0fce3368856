-- Lemmas on tests, for the laws of the kinds. Assumes nothing.
use Rattle.std.specs.Prelude.{◌≡◌, Bool, true, false, ◌&&◌, ◌||◌, T, ◌⊎◌, refl}
use Rattle.std.proofs.Common.{inl, inr}

pub both : (a b : Bool) → T (a && b) → T a × T b
both true b t = (tt, t)
both false b t = absurd t

pub join : (a b : Bool) → T a → T b → T (a && b)
join true b s t = t
join false b s t = absurd s

pub either : (a b : Bool) → T (a || b) → T a ⊎ T b
either true b t = inl tt
either false b t = inr t

pub first : (a b : Bool) → T a → T (a || b)
first true b t = tt
first false b t = absurd t

-- two tests that follow from each other
pub alike : (a b : Bool) → (T a → T b) → (T b → T a) → a ≡ b
alike true true f g = refl
alike true false f g = absurd (f tt)
alike false true f g = absurd (g tt)
alike false false f g = refl
