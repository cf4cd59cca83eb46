use Rattle.laid.proofs.Steps.{quote-refused, quote-laid}
use Rattle.laid.proofs.answers.lay_quote.Goals as goal

pub returns-in-Refusal : goal.returns-in-Refusal
returns-in-Refusal c = quote-refused _ c.in-Refusal.is

pub returns-in-Quoted : goal.returns-in-Quoted
returns-in-Quoted c = let st = c in quote-laid st.args.quote.now st.requires c.in-Quoted.is
