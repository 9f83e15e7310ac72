use Rattle.std.proofs.Common.{sym}
use Rattle.std.specs.Prelude.{Some, None}
use Rattle.hv_dtgram.proofs.Lexing.{lexed_end}
use Rattle.hv_dtgram.proofs.lexed.lex.Goals as goal

pub returns-in-Ok-None-clause-tokens : goal.returns-in-Ok-None-clause-tokens
returns-in-Ok-None-clause-tokens c =
    lexed_end c.args.text.now c.lexing.at c.lexing.mode c.lexing.tokens.items None c.lexing.invariant.goes_on (rw c.in-Ok-None.field-0-is at (sym c.in-Ok-None.ensures.token))

pub returns-in-Err-clause-tokens : goal.returns-in-Err-clause-tokens
returns-in-Err-clause-tokens c =
    lexed_end c.args.text.now c.lexing.at c.lexing.mode c.lexing.tokens.items (Some c.in-Err.bad.0) c.lexing.invariant.goes_on (sym c.in-Err.ensures.token)
