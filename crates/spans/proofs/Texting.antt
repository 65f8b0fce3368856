-- A choice as text, token by token. Assumes nothing.
use Rattle.std.proofs.Common.{◌≡◌, ℕ, ◌+◌, Bool, true, false, cond, [], ◌∷◌, ◌++◌, ap, sym, ◌∙◌, add-one, append-nil}
use Rattle.std.specs.Fmt.{decimal}
use Rattle.spans.specs.Masks.{bit}
use Rattle.spans.specs.Texts.{tokens_text}

next : (m t : ℕ) → tokens_text m t ++ cond (bit m t) (32 ∷ decimal t) [] ≡ tokens_text m (t + 1)
unfolding tokens_text
next m t = sym (ap (tokens_text m) (add-one t))

-- a token that the mask has is written behind those below it, and no other token is
pub text_yes : (m t : ℕ) → bit m t ≡ true → tokens_text m t ++ (32 ∷ decimal t) ≡ tokens_text m (t + 1)
text_yes m t e = sym (ap (λ (b : Bool). tokens_text m t ++ cond b (32 ∷ decimal t) []) e) ∙ next m t

pub text_no : (m t : ℕ) → bit m t ≡ false → tokens_text m t ≡ tokens_text m (t + 1)
text_no m t e = sym (append-nil (tokens_text m t)) ∙ sym (ap (λ (b : Bool). tokens_text m t ++ cond b (32 ∷ decimal t) []) e) ∙ next m t
