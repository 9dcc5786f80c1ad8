use Rattle.mk_lines.proofs.on_units.TokenLemmas.{token_units-tokens, tokens-are_tokens}
use Rattle.mk_lines.proofs.laws.words_are_runs.Goals as goal

pub returns : goal.returns
returns c us = (token_units-tokens (λ b. b) us, tokens-are_tokens (λ b. b) us)
