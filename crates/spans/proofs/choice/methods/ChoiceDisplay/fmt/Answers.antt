use Rattle.std.proofs.Common.{◌≡◌, ◌++◌, ◌∷◌, [], true, false, ℕ, refl, ap, arith, rules}
use Rattle.std.proofs.Output.{has_written_append, has_written_of_eq, has_written_to_eq}
use Rattle.spans.specs.Masks.{bit, tokens}
use Rattle.spans.specs.Texts.{tokens_text, choice_text}
use Rattle.spans.proofs.Texting.{text_yes, text_no}
use Rattle.spans.proofs.choice.methods.ChoiceDisplay.fmt.Goals as goal
use Rattle.spans.proofs.choice.methods.ChoiceDisplay.fmt.Goals.{then-admits+in_ok-write, else-admits}

pub loop-token-init : goal.loop-token-init
unfolding tokens_text
loop-token-init g c = search rules

pub loop-token-preserved : goal.loop-token-preserved
loop-token-preserved g c p =
    let m = c.args.self.now.mask in
    let t = c.loop-token.token-counter in
    elim c.if-admits.branch [
      | then-admits+in_ok-write w ↦
          let yes : bit m t ≡ true = search rules in
          has_written_to_eq _ _ _ _ _ w.f-is (has_written_of_eq _ _ _ _ _ (text_yes m t yes) (has_written_append _ _ _ _ _ _ (c.loop-token.invariant p) (search rules)))
      | else-admits w ↦
          let no : bit m t ≡ false = search rules in
          has_written_to_eq _ _ _ _ _ w.f-is (has_written_of_eq _ _ _ _ _ (text_no m t no) (c.loop-token.invariant p))
    ]

pub returns-clause-writes : goal.returns-clause-writes
unfolding choice_text
returns-clause-writes g c p o =
    let t : c.loop-token.token-counter ≡ tokens = omega arith in
    let brace = c.in_ok-write_str.ensures.writes p refl in
    let row = c.loop-token.invariant brace.plain in
    has_written_append _ _ (123 ∷ []) _ _ _ brace (has_written_of_eq _ _ _ _ _ (ap (λ (n : ℕ). tokens_text c.args.self.now.mask n ++ 32 ∷ 125 ∷ []) t) (has_written_append _ _ _ _ _ _ row (c.write_str-2.ensures.writes row.plain o)))
